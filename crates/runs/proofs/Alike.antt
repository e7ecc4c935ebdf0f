-- Stations over banks that answer alike at what a caller can pass answer alike, call by call.
-- Assumes nothing.
use Rattle.std.proofs.Common.{◌≡◌, ℕ, ◌+◌, ◌-◌, ◌%◌, ◌^◌, ◌<◌, ◌&&◌, eqb, ltb, leb, List, [], ◌∷◌, length, get_or, take, drop, set, Ok, Result, refl, ap, ◌∙◌, ap₂}
use Rattle.std.specs.List.{AllByRecursion}
use Rattle.answer.specs.declared.fault.Layer.TheVariants.{Book, Frame}
use Rattle.answer.specs.Refusal.{Refusal, refusal, if_ok}
use Rattle.answer.specs.Rules.{then, need}
use Rattle.code.specs.declared.description.Description.{Description}
use Rattle.words.specs.Flips.{Bytes}
use Rattle.code.specs.Model.{Fits, Asked, length_of, written}
use Rattle.station.specs.declared.entry.Entry.{Entry}
use Rattle.station.specs.Book.{PlainBook}
use Rattle.station.specs.Frame.{coded, ccitt, pair_at, entry_at, differ, alike, sealed, opened, taken}
use Rattle.station.specs.Calls as calls
use Rattle.station.specs.Calls.{Change, enter, narrow, retire, Ask, Call, change, ask, Answer, wrote, handed, tried, done, changing, trying, asking, answer, changed, step, run, answers_from, Typed, TypedChange, TypedAsk}
use Rattle.station.proofs.Chains.{then-alike}
use Rattle.runs.proofs.Inverts.{entry_ok}
use Rattle.runs.proofs.Admitted.{Fitting, all_held, stepped_fits}
use Rattle.runs.proofs.Opens.{bytes_take, bytes_drop}
use Rattle.runs.proofs.EveryCall.{bytes_set}

-- steps that answer alike, and go on alike wherever they succeed
then_both : {A B : Type 0} {x y : Result A Refusal} → x ≡ y → (f g : A → Result B Refusal) → ((v : A) → f v ≡ g v) → then x f ≡ then y g
then_both {A} {B} {x} {y} e f g h = then-alike x f g (λ v _. h v) ∙ ap (λ z. then z g) e

module _ (a b : Asked)
    (admissions : (d : Description) (r : ℕ) → Fits d → r < 2 ^ 16 → a.admission d r ≡ b.admission d r)
    (sheets : (d : Description) → Fits d → a.sheet d ≡ b.sheet d)
    (checks : (d : Description) (s : List ℕ) → Fits d → Bytes s → a.check d s 64 ≡ b.check d s 64) where
  -- ---- by an entry that fits

  opened_by : (e : Entry) → Fits e.description → (ten w : List ℕ) → Bytes w → opened a e ten w ≡ opened b e ten w
  opened_by e f ten w bw =
      then-alike (alike 45 2 (differ ten (coded e.description))) _ _ (λ _ _.
      then_both (sheets e.description f) _ _ (λ sh.
      then-alike (need (ltb sh.check (length w) && eqb (length w % sh.tuple) 0) (refusal 46 Frame 12)) _ _ (λ _ _.
      then-alike (need (leb (length w) e.reach) (refusal 32 Frame 12)) _ _ (λ _ _.
      then_both (checks e.description (take (length w - sh.check) w) f (bytes_take (length w - sh.check) w bw)) _ _ (λ c. refl)))))

  -- ---- at a book whose entries fit

  module _ (p : PlainBook) (fit : AllByRecursion Fitting p.entries) where
    fits : (n : ℕ) (e : Entry) → entry_at p n ≡ Ok e → Fits e.description
    fits n e h = (all_held Fitting p n e fit (entry_ok p n e h)).1

    changing-alike : (c : Change) → TypedChange c → changing a p c ≡ changing b p c
    changing-alike (enter n d r) t = then_both (admissions d r t.1 t.2) _ _ (λ _. refl)
    changing-alike (narrow n r) t =
        then-alike (entry_at p n) _ _ (λ e h.
        then-alike (need (ltb r e.reach) (refusal 24 Book 12)) _ _ (λ _ _. admissions e.description r (fits n e h) t.1))
    changing-alike (retire n) t = refl

    sealed-alike : (n : ℕ) (s : List ℕ) (room : ℕ) → Bytes s → sealed a p n s room ≡ sealed b p n s room
    sealed-alike n s room bs =
        then-alike (entry_at p n) _ _ (λ e h.
        then_both (sheets e.description (fits n e h)) _ _ (λ sh.
        then-alike (need (ltb 0 (length s) && eqb (length s % sh.tuple) 0) (refusal 31 Frame (length s))) _ _ (λ _ _.
        then-alike (need (leb (length s + sh.check) e.reach) (refusal 32 Frame 12)) _ _ (λ _ _.
        then-alike (need (leb (16 + (length s + sh.check)) room) (refusal 33 Frame room)) _ _ (λ _ _.
        then_both (checks e.description s (fits n e h) bs) _ _ (λ c. refl))))))

    taken-alike : (f : List ℕ) → Bytes f → taken a p f ≡ taken b p f
    taken-alike f bf =
        then-alike (need (leb 17 (length f)) (refusal 41 Frame (length f))) _ _ (λ _ _.
        then-alike (need (eqb (get_or f 0 0) 1) (refusal 42 Frame 0)) _ _ (λ _ _.
        then-alike (need (eqb (pair_at f 14) (ccitt (take 14 f))) (refusal 43 Frame 14)) _ _ (λ _ _.
        then-alike (need (eqb (16 + pair_at f 12) (length f)) (refusal 44 Frame 12)) _ _ (λ _ _.
        then-alike (entry_at p (get_or f 1 0)) _ _ (λ e h.
        opened_by e (fits (get_or f 1 0) e h) (take 10 (drop 2 f)) (drop 16 f) (bytes_drop 16 f bf))))))

    trying-alike : (f : List ℕ) (at byte : ℕ) → Bytes f → byte < 2 ^ 8 → trying a p f at byte ≡ trying b p f at byte
    trying-alike f at byte bf lb =
        then-alike (need (ltb at (length f)) (refusal 48 Frame (length f))) _ _ (λ _ _.
        then_both (taken-alike (set f at byte) (bytes_set f at byte bf lb)) _ _ (λ _. refl))

    asking-alike : (q : Ask) → TypedAsk q → asking a p q ≡ asking b p q
    asking-alike (calls.seal n s out) t = ap (λ x. wrote (length_of x) (written x out)) (sealed-alike n s (length out) t.1)
    asking-alike (calls.take f) t = ap (λ x. handed x f) (taken-alike f t)
    asking-alike (calls.trial f at byte) t = ap (λ x. tried x f) (trying-alike f at byte t.0 t.1)

    answer-alike : (c : Call) → Typed c → answer a p c ≡ answer b p c
    answer-alike (change c) t = ap done (changing-alike c t)
    answer-alike (ask q) t = asking-alike q t

    step-alike : (c : Call) → Typed c → step a p c ≡ step b p c
    step-alike (change c) t = ap (λ x. if_ok x (changed p c) p) (changing-alike c t)
    step-alike (ask q) t = refl

  -- ---- call by call

  pub runs_alike : (p : PlainBook) → AllByRecursion Fitting p.entries → (cs : List Call) → AllByRecursion Typed cs
      → (answers_from a p cs ≡ answers_from b p cs) × (run a p cs ≡ run b p cs)
  runs_alike p fit [] t = (refl, refl)
  runs_alike p fit (c ∷ cs) t =
      let one = step-alike p fit c t.0 in
      let rest = runs_alike (step a p c) (stepped_fits a p c t.0 fit) cs t.1 in (
        ap₂ {C = List Answer} (λ x xs. x ∷ xs) (answer-alike p fit c t.0) (rest.0 ∙ ap (λ x. answers_from b x cs) one),
        rest.1 ∙ ap (λ x. run b x cs) one,
      )
