-- What is shown of a seal, and how much take hands over.
-- Assumes nothing.
use Rattle.std.proofs.Common.{◌≡◌, ℕ, suc, ◌+◌, ◌-◌, ◌%◌, ◌≤◌, ◌&&◌, eqb, ltb, leb, List, length, get_or, take, drop, IfOk, Ok, Err, Result, sym, refl, ap, ◌∙◌, subst, arith, length-drop, length-take, Bor}
use lib.ListN.{length-replicate}
use Rattle.std.proofs.lemmas.List.{take_at}
use Rattle.answer.specs.declared.fault.Fault.{Fault}
use Rattle.answer.specs.declared.fault.Layer.TheVariants.{Frame}
use Rattle.answer.specs.Refusal.{Refusal, refusal}
use Rattle.answer.specs.Rules.{then, need}
use Rattle.code.specs.Model.{Asked, length_of, written}
use Rattle.station.specs.declared.entry.Entry.{Entry}
use Rattle.station.specs.Book.{PlainBook}
use Rattle.station.specs.Calls.{answer}
use Rattle.station.specs.Frame.{coded, ccitt, pair_at, entry_at, differ, alike, sealed, opened, taken}
use Rattle.station.specs.Layout.{layout}
use Rattle.station.specs.Items.{seen}
use Rattle.console.specs.declared.line.Command.{Command}
use Rattle.console.specs.declared.line.Command.TheVariants.{Message}
use Rattle.console.specs.Deeds.{blank, call_by}
use Rattle.console.specs.Printed.{printed_answer, printed_bytes, wrote_frame}

-- ---- a seal

-- The frame at the start of the output is what was sealed.
shown : (x : Result (List ℕ) Refusal) (out : List ℕ) → wrote_frame (length_of x) (written x out) ≡ x
shown (Ok f) out = ap {B = Result (List ℕ) Refusal} (λ s. Ok s) (take_at f (drop (length f) out) (length f) refl)
shown (Err r) out = refl

pub long : length blank ≡ 4112
unfolding blank
long = length-replicate {A = ℕ} 4112 0

-- What is printed of it.
pub sealing : (a : Asked) (n : ℕ) (b : PlainBook) (s : List ℕ) (c : Command) (x : Result (List ℕ) Refusal)
    → c ≡ Message → x ≡ sealed a b (get_or s 0 0) (drop 1 s) 4112 → printed_bytes n x ≡ printed_answer n (answer a b (call_by c s))
sealing a n b s c x e q =
    let by : ℕ → Result (List ℕ) Refusal = sealed a b (get_or s 0 0) (drop 1 s) in
    ap (printed_bytes n) (q ∙ sym (ap by long) ∙ sym (shown (by (length blank)) blank))
    ∙ ap (λ k. printed_answer n (answer a b (call_by k s))) (sym e)

-- ---- a take

-- A result whose value, if it has one, is at most n long.
data Short (n : ℕ) : Result (List ℕ) Refusal → Type 0 where
  none : {r : Refusal} → Short n (Err r)
  some : {s : List ℕ} → length s ≤ n → Short n (Ok s)

-- A step more in front.
go : {A : Type 0} {n : ℕ} (x : Result A Refusal) (f : A → Result (List ℕ) Refusal) → ((v : A) → Short n (f v)) → Short n (then x f)
go (Ok v) f h = h v
go (Err r) f h = none

made_short : (n : ℕ) (x : Result (List ℕ) Refusal) → Short n x → IfOk x (λ s. length s ≤ n)
made_short n (Ok s) (some h) = h
made_short n (Err r) none = tt

opened_short : (a : Asked) (e : Entry) (ten w : List ℕ) (n : ℕ) → length w ≤ n → Short n (opened a e ten w)
opened_short a e ten w n l =
    go (alike 45 2 (differ ten (coded e.description))) _ (λ _.
    go (a.sheet e.description) _ (λ s.
    go (need (ltb s.check (length w) && eqb (length w % s.tuple) 0) (refusal 46 Frame 12)) _ (λ _.
    go (need (leb (length w) e.reach) (refusal 32 Frame 12)) _ (λ _.
    go (a.check e.description (take (length w - s.check) w) 64) _ (λ c.
    go (alike 47 (layout.size + (length w - s.check)) (differ (drop (length w - s.check) w) c)) _ (λ _.
    some {s = take (length w - s.check) w} (simp length-take (omega arith))))))))

-- The message is no longer than the frame.
pub within : (a : Asked) (b : PlainBook) (f : List ℕ) → IfOk (taken a b f) (λ s. length s ≤ length f)
within a b f =
    made_short (length f) (taken a b f)
    (go (need (leb (suc layout.size) (length f)) (refusal 41 Frame (length f))) _ (λ _.
    go (need (eqb (get_or f 0 0) layout.mark) (refusal 42 Frame 0)) _ (λ _.
    go (need (eqb (pair_at f layout.checked) (ccitt (take layout.checked f))) (refusal 43 Frame layout.checked)) _ (λ _.
    go (need (eqb (layout.size + pair_at f 12) (length f)) (refusal 44 Frame 12)) _ (λ _.
    go (entry_at b (get_or f 1 0)) _ (λ e.
    opened_short a e (take 10 (drop 2 f)) (drop 16 f) (length f) (simp length-drop (omega arith))))))))

-- So it is with what is lent.
pub lent : (r : Result (Bor (List ℕ)) Fault) (x : Result (List ℕ) Refusal) (n : ℕ) → seen r ≡ x → IfOk x (λ s. length s ≤ n) → IfOk r (λ p. length p.now ≤ n)
lent (Ok p) x n e h = subst (λ y. IfOk y (λ s. length s ≤ n)) (sym e) h
lent (Err f) x n e h = tt
