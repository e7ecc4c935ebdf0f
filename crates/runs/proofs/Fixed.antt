-- The rules of a call leave one answer.
-- Assumes nothing.
use Rattle.std.proofs.Common.{◌≡◌, ℕ, zero, suc, ◌+◌, ◌-◌, List, [], ◌∷◌, ◌++◌, length, get_or, take, drop, set, Some, Ok, Err, Result, sym, refl, ap, ◌∙◌, inl, inr, le_of_suc-le-suc, not-suc-le-zero, eq-eqb, ne_eqb}
use Rattle.std.specs.Option.{option_map}
use Rattle.answer.specs.declared.fault.Layer.TheVariants.{Frame}
use Rattle.answer.specs.Refusal.{Refusal, refusal}
use Rattle.answer.specs.Rules.{Rule}
use Rattle.code.specs.Model.{Model, described_rules, length_of, written}
use Rattle.station.specs.declared.entry.Entry.{Entry}
use Rattle.station.specs.Book.{PlainBook, held}
use Rattle.station.specs.Frame.{coded, differ}
use Rattle.station.specs.Calls as calls
use Rattle.station.specs.Calls.{Change, enter, narrow, retire, change, ask, done, wrote, handed, tried}
use Rattle.runs.specs.Promises.{FirstDiffer}
use Rattle.runs.specs.Ruling.{Demand, at_first, NoneBroken, FirstBroken, GoesBy, works, refuses, of_tests, sheet_of, Done, change_rules, seal_rules, Written, word_rules, message_of, check_of, take_rules, Handed, trial_rules, RulesFixAnswers}
use Rattle.runs.proofs.Inverts.{some_is}

-- ---- the first place where two strings differ is one

parts : (x y : ℕ) (xs ys : List ℕ) → x ∷ xs ≡ y ∷ ys → (x ≡ y) × (xs ≡ ys)
parts x y xs ys e = (cc, cc)

differ_at : (xs ys : List ℕ) (i : ℕ) → FirstDiffer xs ys i → differ xs ys ≡ Some i
differ_at [] ys i k = absurd (not-suc-le-zero k.inside.0)
differ_at (x ∷ xs) [] i k = absurd (not-suc-le-zero k.inside.1)
differ_at (x ∷ xs) (y ∷ ys) zero k = let f = ne_eqb x y k.here in rw f refl
differ_at (x ∷ xs) (y ∷ ys) (suc i) k =
    let h = parts x y (take i xs) (take i ys) k.before in
    let t = eq-eqb x y h.0 in
    rw t (ap (option_map suc) (differ_at xs ys i (record {
      before = h.1;
      inside = (le_of_suc-le-suc k.inside.0, le_of_suc-le-suc k.inside.1);
      here = k.here;
    })))

first_one : (number start : ℕ) (xs ys : List ℕ) (z w : Refusal) → at_first number start xs ys z → at_first number start xs ys w → z ≡ w
first_one number start xs ys z w p q =
    let same : p.0 ≡ q.0 = some_is p.0 q.0 (sym (differ_at xs ys p.0 p.1) ∙ differ_at xs ys q.0 q.1) in
    p.2 ∙ ap (λ (i : ℕ). refusal number Frame (start + i)) same ∙ sym q.2

-- ---- lists of rules

-- each rule has one answer, where those before it are kept
abbrev Sharp : List Demand → Type 0
Sharp [] = Unit {0}
Sharp (r ∷ rs) = ((z w : Refusal) → r.answers z → r.answers w → z ≡ w) × (r.asks → Sharp rs)

broken_one : (rs : List Demand) → Sharp rs → (z w : Refusal) → FirstBroken rs z → FirstBroken rs w → z ≡ w
broken_one [] s z w p q = absurd p
broken_one (r ∷ rs) s z w (inl p) (inl q) = s.0 z w p.1 q.1
broken_one (r ∷ rs) s z w (inl p) (inr q) = absurd (p.0 q.0)
broken_one (r ∷ rs) s z w (inr p) (inl q) = absurd (q.0 p.0)
broken_one (r ∷ rs) s z w (inr p) (inr q) = broken_one rs (s.1 p.0) z w p.1 q.1

none_first : (rs : List Demand) → NoneBroken rs → (z : Refusal) → ¬ FirstBroken rs z
none_first [] n z p = p
none_first (r ∷ rs) n z (inl p) = p.0 n.0
none_first (r ∷ rs) n z (inr p) = none_first rs n.1 z p.1

goes_one : {A : Type 0} (rs : List Demand) (P : A → Type 0) → Sharp rs → (NoneBroken rs → (v w : A) → P v → P w → v ≡ w)
    → (x y : Result A Refusal) → GoesBy rs P x → GoesBy rs P y → x ≡ y
goes_one rs P s one x y (works n p) (works k q) = ap Ok (one n _ _ p q)
goes_one rs P s one x y (works n p) (refuses b) = absurd (none_first rs n _ b)
goes_one rs P s one x y (refuses a) (works k q) = absurd (none_first rs k _ a)
goes_one rs P s one x y (refuses a) (refuses b) = ap Err (broken_one rs s _ _ a b)

sharp_tests : (rs : List Rule) → Sharp (of_tests rs)
sharp_tests [] = tt
sharp_tests (r ∷ rs) = ((λ z w p q. p ∙ sym q), (λ _. sharp_tests rs))

-- ---- the calls

module _ (m : Model) (b : PlainBook) where
  sharp_change : (c : Change) → Sharp (change_rules m b c)
  sharp_change (enter n d r) = (
    broken_one (of_tests (described_rules m d ++ m.reaches d r)) (sharp_tests (described_rules m d ++ m.reaches d r)),
    (λ _. ((λ z w p q. p ∙ sym q), (λ _. ((λ z w p q. p ∙ sym q), (λ _. tt))))),
  )
  sharp_change (narrow n r) = (
    (λ z w p q. p ∙ sym q),
    (λ k. (
      (λ z w p q. p ∙ sym q),
      (λ _. (
        (λ z w p q.
            let rs = m.reaches k.0.description r in
            broken_one (of_tests rs) (sharp_tests rs) z w (p k.0 k.1) (q k.0 k.1)),
        (λ _. tt),
      )),
    )),
  )
  sharp_change (retire n) = ((λ z w p q. p ∙ sym q), (λ _. tt))

  sharp_seal : (n : ℕ) (s : List ℕ) (room : ℕ) → Sharp (seal_rules m b n s room)
  sharp_seal n s room =
      ((λ z w p q. p ∙ sym q), (λ _. ((λ z w p q. p ∙ sym q), (λ _. ((λ z w p q. p ∙ sym q), (λ _. ((λ z w p q. p ∙ sym q), (λ _. tt))))))))

  sharp_word : (n : ℕ) (ten w : List ℕ) (e : Entry) → held b n ≡ Some e → Sharp (word_rules m b n ten w)
  sharp_word n ten w e h = (
    (λ z v p q. first_one 45 2 ten (coded e.description) z v (p e h) (q e h)),
    (λ _. (
      (λ z v p q. p ∙ sym q),
      (λ _. (
        (λ z v p q. p ∙ sym q),
        (λ _. (
          (λ z v p q.
              first_one 47 (16 + (length w - (sheet_of m e).check)) (check_of (sheet_of m e) w) (m.check e.description (message_of (sheet_of m e) w)) z v
              (p e h) (q e h)),
          (λ _. tt),
        )),
      )),
    )),
  )

  sharp_take : (f : List ℕ) → Sharp (take_rules m b f)
  sharp_take f = (
    (λ z w p q. p ∙ sym q),
    (λ _. (
      (λ z w p q. p ∙ sym q),
      (λ _. (
        (λ z w p q. p ∙ sym q),
        (λ _. (
          (λ z w p q. p ∙ sym q),
          (λ _. (
            (λ z w p q. p ∙ sym q),
            (λ k. sharp_word (get_or f 1 0) (take 10 (drop 2 f)) (drop 16 f) k.0 k.1),
          )),
        )),
      )),
    )),
  )

  sharp_trial : (f : List ℕ) (at byte : ℕ) → Sharp (trial_rules m b f at byte)
  sharp_trial f at byte = ((λ z w p q. p ∙ sym q), (λ _. sharp_take (set f at byte)))

  one_written : (n : ℕ) (s : List ℕ) (room : ℕ) → NoneBroken (seal_rules m b n s room) → (v w : List ℕ) → Written m b n s v → Written m b n s w → v ≡ w
  one_written n s room k v w p q = p k.0.0 k.0.1 ∙ sym (q k.0.0 k.0.1)

  one_handed : (f : List ℕ) → NoneBroken (take_rules m b f) → (v w : List ℕ) → Handed m b f v → Handed m b f w → v ≡ w
  one_handed f k v w p q = let h = k.1.1.1.1.0 in p h.0 h.1 ∙ sym (q h.0 h.1)

one_done : (v w : Unit {0}) → Done v → Done w → v ≡ w
one_done v w p q = refl

pub rules_fix_answers : RulesFixAnswers
rules_fix_answers m b (change c) x y p q =
    p.1 ∙ ap done (goes_one (change_rules m b c) Done (sharp_change m b c) (λ _. one_done) p.0 q.0 p.2 q.2) ∙ sym q.1
rules_fix_answers m b (ask (calls.seal n s out)) x y p q =
    p.1
    ∙ ap (λ r. wrote (length_of r) (written r out))
    (goes_one (seal_rules m b n s (length out)) (Written m b n s) (sharp_seal m b n s (length out)) (one_written m b n s (length out))
    p.0 q.0 p.2 q.2)
    ∙ sym q.1
rules_fix_answers m b (ask (calls.take f)) x y p q =
    p.1
    ∙ ap (λ r. handed r f) (goes_one (take_rules m b f) (Handed m b f) (sharp_take m b f) (one_handed m b f) p.0 q.0 p.2 q.2)
    ∙ sym q.1
rules_fix_answers m b (ask (calls.trial f at byte)) x y p q =
    p.1
    ∙ ap (λ r. tried r f) (goes_one (trial_rules m b f at byte) Done (sharp_trial m b f at byte) (λ _. one_done) p.0 q.0 p.2 q.2)
    ∙ sym q.1
