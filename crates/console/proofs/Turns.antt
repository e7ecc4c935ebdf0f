-- One line more of a transcript.
-- Assumes nothing.
use Rattle.std.proofs.Common.{◌≡◌, ℕ, suc, ◌+◌, List, [], ◌∷◌, ◌++◌, map, sym, refl, ap, ◌∙◌, ap₂, append_assoc, add-one}
use Rattle.code.specs.Model.{Asked}
use Rattle.station.specs.Book.{PlainBook}
use Rattle.station.specs.Calls.{answers_from}
use Rattle.console.specs.Deeds.{Deed, nothing, refused, makes, deed_of}
use Rattle.console.specs.Transcript.{calls_of, printed, transcript_from, printed_of, book_after_line}

-- The first line is printed, and then the others from the book after it on.
pub first : (a : Asked) (n : ℕ) (b : PlainBook) (d : Deed) (ds : List Deed)
    → printed n (d ∷ ds) (answers_from a b (calls_of (d ∷ ds))) ≡ printed_of a n b d ++ printed (suc n) ds (answers_from a (book_after_line a b d) (calls_of ds))
first a n b nothing ds = refl
first a n b (refused r) ds = refl
first a n b (makes c) ds = refl

module _ (a : Asked) (n : ℕ) (b : PlainBook) (w total : List ℕ) where
  -- One turn: the line is obeyed by a bank that means the same, and v is printed then.
  pub turn : (a' : Asked) (b' : PlainBook) (line : List ℕ) (lines all : List (List ℕ)) (v : List ℕ)
      → a' ≡ a → v ≡ w ++ printed_of a' (n + 1) b (deed_of line) → b' ≡ book_after_line a' b (deed_of line) → all ≡ line ∷ lines
      → w ++ transcript_from a (suc n) b all ≡ total → v ++ transcript_from a (suc (n + 1)) b' lines ≡ total
  turn a' b' line lines all v e p q f inv =
      let d : Deed = deed_of line in
      let c : PlainBook = book_after_line a b d in
      let now : List ℕ = printed_of a (suc n) b d in
      let p' : v ≡ w ++ now = p ∙ ap₂ (λ (x : Asked) (k : ℕ). w ++ printed_of x k b d) e (add-one n) in
      let q' : b' ≡ c = q ∙ ap (λ x. book_after_line x b d) e in
      ap₂ (λ (x : List ℕ) (y : PlainBook). x ++ transcript_from a (suc (n + 1)) y lines) p' q'
      ∙ ap (λ k. (w ++ now) ++ transcript_from a (suc k) c lines) (add-one n)
      ∙ append_assoc w now (transcript_from a (suc (suc n)) c lines)
      ∙ ap (λ t. w ++ t) (sym (first a (suc n) b d (map deed_of lines)))
      ∙ ap (λ ls. w ++ transcript_from a (suc n) b ls) (sym f)
      ∙ inv
