-- Every call answers by its own numbers.
-- Assumes nothing.
use Rattle.std.proofs.Common.{◌≡◌, ℕ, zero, suc, ◌+◌, ◌-◌, ◌%◌, ◌<◌, ◌≤◌, Bool, true, false, cond, not, ◌&&◌, ◌||◌, eqb, ltb, leb, List, [], ◌∷◌, ◌++◌, length, get_or, take, drop, set, is_some, Some, None, Ok, Err, Option, Result, sym, refl, ap, ◌∙◌, arith, length-take, ltb-true, eqb-true, leb-true}
use borrow.Author.Tests.{eqb-false}
use Rattle.std.specs.List.{AllByRecursion}
use Rattle.answer.specs.declared.fault.Layer.TheVariants.{Book, Frame}
use Rattle.answer.specs.Refusal.{Refusal, refusal, number_of}
use Rattle.answer.specs.Rules.{Rule, by_rules, then, need}
use Rattle.answer.proofs.Ruled.{then_rules}
use Rattle.code.specs.declared.description.Description.{Description}
use Rattle.code.specs.Model.{Model, asked, described_rules, length_of, Keeps, Between, Numbered}
use Rattle.station.specs.declared.entry.Entry.{Entry}
use Rattle.station.specs.Book.{PlainBook, held}
use Rattle.station.specs.Frame.{coded, ccitt, pair_at, entry_at, differ, alike, sealed, opened, taken}
use Rattle.station.specs.Calls as calls
use Rattle.station.specs.Calls.{enter, narrow, retire, Call, change, ask, entering, narrowing, retiring, trying, answer, step, book_after, answers_from}
use Rattle.runs.specs.Numbers.{among, take_numbers, numbers_of, ByItsNumbers, AllByNumbers, AnswersByNumbers}
use Rattle.runs.proofs.Inverts.{no_way, both_true, rules_pass}
use Rattle.runs.proofs.Admitted.{Admitted, AllAdmitted, all_held, admitted_fit, step-admitted, book_admitted}
use Rattle.runs.proofs.Hands.{sheet_answer, check_answers}
use Rattle.runs.proofs.Ruled.{message_tuples}

-- ---- numbers in lists

abbrev In : List ℕ → ℕ → Type 0
In ns k = among ns k ≡ true

wider_one : (n k : ℕ) (ns ms : List ℕ) (b : Bool) → eqb k n ≡ b → In ms n → (In ns k → In ms k) → b || among ns k ≡ true → In ms k
wider_one n k ns ms true t h f e = ap (among ms) (eqb-true k n t) ∙ h
wider_one n k ns ms false t h f e = f e

-- a list that has all numbers of another
wider : (ns ms : List ℕ) → AllByRecursion (In ms) ns → (k : ℕ) → In ns k → In ms k
wider [] ms a k e = no_way (cc)
wider (n ∷ ns) ms a k e = wider_one n k ns ms (eqb k n) refl a.0 (wider ns ms a.1 k) e

-- the numbers from `least` on, n of them
abbrev from : ℕ → ℕ → List ℕ
from least zero = []
from least (suc n) = least ∷ from (least + 1) n

ranged : (n least k : ℕ) → least ≤ k → k < least + n → In (from least n) k
ranged zero least k p q = absurd (omega arith)
ranged (suc n) least k p q = go (eqb k least) refl (ranged n (least + 1) k)
  where
    go : (b : Bool) → eqb k least ≡ b → (least + 1 ≤ k → k < (least + 1) + n → In (from (least + 1) n) k) → b || among (from (least + 1) n) k ≡ true
    go true t f = refl
    go false t f = let ne = eqb-false k least t in f (omega arith) (omega arith)

all_between : (n least most : ℕ) (ms : List ℕ) → AllByRecursion (In ms) (from least n) → least + n ≡ most + 1 → (rs : List Rule) → AllByRecursion (Between least most) rs
    → AllByRecursion (λ r. In ms r.otherwise.number) rs
all_between n least most ms a e [] h = tt
all_between n least most ms a e (r ∷ rs) h =
    let k = r.otherwise.number in
    let low = h.0.0 in
    let high = h.0.1 in
    (wider (from least n) ms a k (ranged n least k low (omega arith)), all_between n least most ms a e rs h.1)

all_join : (P : Rule → Type 0) (rs ss : List Rule) → AllByRecursion P rs → AllByRecursion P ss → AllByRecursion P (rs ++ ss)
all_join P [] ss h k = k
all_join P (r ∷ rs) ss h k = (h.0, all_join P rs ss h.1 k)

-- ---- one step and the rest

-- the number of a result is 0 or one of a list's
abbrev Within : {A : Type 0} → List ℕ → Result A Refusal → Type 0
Within ns x = In (0 ∷ ns) (number_of x)

by_one : (ns : List ℕ) (b : Bool) (z : Refusal) → In (0 ∷ ns) z.number → Within ns (need b z)
by_one ns true z p = refl
by_one ns false z p = p

module _ {B : Type 0} (ns : List ℕ) where
  by_need : (b : Bool) (z : Refusal) (x : Result B Refusal) → In (0 ∷ ns) z.number → (b ≡ true → Within ns x)
      → Within ns (then (need b z) (λ _. x))
  by_need true z x p q = q refl
  by_need false z x p q = p

  by_alike : (number start : ℕ) (o : Option ℕ) (x : Result B Refusal) → In (0 ∷ ns) number → Within ns x
      → Within ns (then (alike number start o) (λ _. x))
  by_alike number start None x p q = q
  by_alike number start (Some i) x p q = p

  by_then : {A : Type 0} (x : Result A Refusal) (f : A → Result B Refusal) → Within ns x → ((v : A) → Within ns (f v)) → Within ns (then x f)
  by_then (Ok v) f p q = q v
  by_then (Err z) f p q = p

  -- a step that succeeds
  by_ok : {A : Type 0} (x : Result A Refusal) (v : A) (f : A → Result B Refusal) → x ≡ Ok v → Within ns (f v) → Within ns (then x f)
  by_ok x v f e p = ap (λ y. among (0 ∷ ns) (number_of (then y f))) e ∙ p

  by_entry : (b : PlainBook) (n : ℕ) (f : Entry → Result B Refusal) → In (0 ∷ ns) 23 → ((e : Entry) → held b n ≡ Some e → Within ns (f e))
      → Within ns (then (entry_at b n) f)
  by_entry b n f p q = go (held b n) refl
    where
      go : (o : Option Entry) → held b n ≡ o
          → Within ns (then {A = Entry} (elim o [ Some e ↦ Ok e | None ↦ Err (refusal 23 Book 1) ]) f)
      go (Some e) h = q e h
      go None h = p

  one_rule : (b : Bool) (x : Result B Refusal) (z : Refusal) → Within ns x → In (0 ∷ ns) z.number → Within ns (cond b x (Err z))
  one_rule true x z p q = p
  one_rule false x z p q = q

  by_rules_lem : (v : B) (rs : List Rule) → AllByRecursion (λ r. In (0 ∷ ns) r.otherwise.number) rs → Within ns (by_rules rs v)
  by_rules_lem v [] a = refl
  by_rules_lem v (r ∷ rs) a = one_rule r.asks (by_rules rs v) r.otherwise (by_rules_lem v rs a.1) a.0

-- ---- the calls

module _ (m : Model) (keeps : Keeps m) (numbered : Numbered m) (b : PlainBook) (ad : AllAdmitted m b) where
  enters : (n : ℕ) (d : Description) (r : ℕ) → Within (numbers_of (change (enter n d r))) (entering (asked m) b n d r)
  enters n d r =
      by_then ns ((asked m).admission d r) _
      (by_rules_lem ns tt (described_rules m d ++ m.reaches d r) (all_join (λ k. In (0 ∷ ns) k.otherwise.number) (described_rules m d) (m.reaches d r)
      (refl, all_between 4 12 15 (0 ∷ ns) (refl, (refl, (refl, (refl, tt)))) refl (m.fits d) (numbered.fits d))
      (all_between 2 16 17 (0 ∷ ns) (refl, (refl, tt)) refl (m.reaches d r) (numbered.reaches d r))))
      (λ _. by_need ns (not (is_some (held b n))) (refusal 21 Book 1) _ refl
      (λ _. by_one ns (ltb (length b.entries) 16) (refusal 22 Book 1) refl))
    where
      ns : List ℕ
      ns = 11 ∷ 12 ∷ 13 ∷ 14 ∷ 15 ∷ 16 ∷ 17 ∷ 21 ∷ 22 ∷ []

  narrows : (n r : ℕ) → Within (numbers_of (change (narrow n r))) (narrowing (asked m) b n r)
  narrows n r = by_entry ns b n _ refl (λ e h.
      by_need ns (ltb r e.reach) (refusal 24 Book 12) _ refl (λ _.
      let d = e.description in
      let u : Unit {0} = tt in
      let fit = admitted_fit m d e.reach (all_held (Admitted m) b n e ad h) in
      ap (λ x. among (0 ∷ ns) (number_of x)) (then_rules u u (described_rules m d) (m.reaches d r) (sym (rules_pass u (described_rules m d) fit)))
      ∙ by_rules_lem ns u (m.reaches d r) (all_between 2 16 17 (0 ∷ ns) (refl, (refl, tt)) refl (m.reaches d r) (numbered.reaches d r))))
    where
      ns : List ℕ
      ns = 23 ∷ 24 ∷ 16 ∷ 17 ∷ []

  retires : (n : ℕ) → Within (numbers_of (change (retire n))) (retiring b n)
  retires n = by_entry (23 ∷ []) b n _ refl (λ e h. refl)

  seals : (n : ℕ) (s : List ℕ) (room : ℕ) → Within (23 ∷ 31 ∷ 32 ∷ 33 ∷ []) (sealed (asked m) b n s room)
  seals n s room = by_entry ns b n _ refl (λ e h.
      let d = e.description in
      let sh = m.sheet d in
      let a = all_held (Admitted m) b n e ad h in
      by_ok ns ((asked m).sheet d) sh _ (sheet_answer m keeps d e.reach a)
      (by_need ns (ltb 0 (length s) && eqb (length s % sh.tuple) 0) (refusal 31 Frame (length s)) _ refl (λ k31.
      by_need ns (leb (length s + sh.check) e.reach) (refusal 32 Frame 12) _ refl (λ k32.
      by_need ns (leb (16 + (length s + sh.check)) room) (refusal 33 Frame room) _ refl (λ _.
      let k = both_true (ltb 0 (length s)) (eqb (length s % sh.tuple) 0) k31 in
      let within = leb-true (length s + sh.check) e.reach k32 in
      let most : length s ≤ 4096 = omega (arith, (keeps.lawful d e.reach a).most) in
      by_ok ns ((asked m).check d s 64) (m.check d s) _
      (check_answers m keeps d e.reach a s (ltb-true 0 (length s) k.0) (eqb-true (length s % sh.tuple) 0 k.1) most)
      refl)))))
    where
      ns : List ℕ
      ns = 23 ∷ 31 ∷ 32 ∷ 33 ∷ []

  module _ (ns : List ℕ) (has : AllByRecursion (In (0 ∷ ns)) take_numbers) where
    own : (k : ℕ) → In take_numbers k → In (0 ∷ ns) k
    own k h = wider take_numbers (0 ∷ ns) has k h

    opens : (e : Entry) → Admitted m e → (ten w : List ℕ) → Within ns (opened (asked m) e ten w)
    opens e a ten w =
        let d = e.description in
        let sh = m.sheet d in
        let t = take (length w - sh.check) w in
        let law = keeps.lawful d e.reach a in
        by_alike ns 45 2 (differ ten (coded d)) _ (own 45 refl)
        (by_ok ns ((asked m).sheet d) sh _ (sheet_answer m keeps d e.reach a)
        (by_need ns (ltb sh.check (length w) && eqb (length w % sh.tuple) 0) (refusal 46 Frame 12) _ (own 46 refl) (λ k46.
        by_need ns (leb (length w) e.reach) (refusal 32 Frame 12) _ (own 32 refl) (λ k32.
        let k = both_true (ltb sh.check (length w)) (eqb (length w % sh.tuple) 0) k46 in
        let longer = ltb-true sh.check (length w) k.0 in
        let short = leb-true (length w) e.reach k32 in
        let size : length t ≡ length w - sh.check = length-take (length w - sh.check) w ∙ omega arith in
        let whole-t : length t % sh.tuple ≡ 0 =
        ap (λ (x : ℕ). x % sh.tuple) size
        ∙ message_tuples sh.tuple (length w) sh.check (eqb-true (length w % sh.tuple) 0 k.1) law.whole_check in
        by_ok ns ((asked m).check d t 64) (m.check d t) _
        (check_answers m keeps d e.reach a t (omega arith) whole-t (omega (arith, law.most)))
        (by_alike ns 47 (16 + (length w - sh.check)) (differ (drop (length w - sh.check) w) (m.check d t)) _ (own 47 refl) refl)))))

    takes : (f : List ℕ) → Within ns (taken (asked m) b f)
    takes f =
        by_need ns (leb 17 (length f)) (refusal 41 Frame (length f)) _ (own 41 refl) (λ _.
        by_need ns (eqb (get_or f 0 0) 1) (refusal 42 Frame 0) _ (own 42 refl) (λ _.
        by_need ns (eqb (pair_at f 14) (ccitt (take 14 f))) (refusal 43 Frame 14) _ (own 43 refl) (λ _.
        by_need ns (eqb (16 + pair_at f 12) (length f)) (refusal 44 Frame 12) _ (own 44 refl) (λ _.
        by_entry ns b (get_or f 1 0) _ (own 23 refl) (λ e h.
        opens e (all_held (Admitted m) b (get_or f 1 0) e ad h) (take 10 (drop 2 f)) (drop 16 f))))))

  tries : (f : List ℕ) (at byte : ℕ) → Within (48 ∷ take_numbers) (trying (asked m) b f at byte)
  tries f at byte =
      by_need ns (ltb at (length f)) (refusal 48 Frame (length f)) _ refl (λ _.
      by_then ns (taken (asked m) b (set f at byte)) _ (takes ns (refl, (refl, (refl, (refl, (refl, (refl, (refl, (refl, (refl, tt))))))))) (set f at byte)) (λ _. refl))
    where
      ns : List ℕ
      ns = 48 ∷ take_numbers

  length_number : (x : Result (List ℕ) Refusal) → number_of (length_of x) ≡ number_of x
  length_number (Ok v) = refl
  length_number (Err z) = refl

  pub by_its_numbers : (c : Call) → ByItsNumbers c (answer (asked m) b c)
  by_its_numbers (change (enter n d r)) = enters n d r
  by_its_numbers (change (narrow n r)) = narrows n r
  by_its_numbers (change (retire n)) = retires n
  by_its_numbers (ask (calls.seal n s out)) =
      ap (among (0 ∷ 23 ∷ 31 ∷ 32 ∷ 33 ∷ [])) (length_number (sealed (asked m) b n s (length out))) ∙ seals n s (length out)
  by_its_numbers (ask (calls.take f)) = takes take_numbers (refl, (refl, (refl, (refl, (refl, (refl, (refl, (refl, (refl, tt))))))))) f
  by_its_numbers (ask (calls.trial f at byte)) = tries f at byte

pub answers_by_numbers : AnswersByNumbers
answers_by_numbers m keeps numbered cs c = by_its_numbers m keeps numbered (book_after (asked m) cs) (book_admitted m cs) c

-- call by call
pub all_by_numbers : (m : Model) → Keeps m → Numbered m → (b : PlainBook) → AllAdmitted m b → (cs : List Call)
    → AllByNumbers cs (answers_from (asked m) b cs)
all_by_numbers m keeps numbered b ad [] = tt
all_by_numbers m keeps numbered b ad (c ∷ cs) =
    (by_its_numbers m keeps numbered b ad c, all_by_numbers m keeps numbered (step (asked m) b c) (step-admitted m b c ad) cs)
