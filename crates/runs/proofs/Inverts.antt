-- What an answer that is Ok says of the steps before it, and which answer kept steps give.
-- Assumes nothing.
use Rattle.std.proofs.Common.{◌≡◌, ℕ, suc, ◌+◌, ◌%◌, ◌≤◌, Bool, true, false, cond, ◌&&◌, eqb, ltb, leb, ◌⊎◌, List, [], ◌∷◌, ◌++◌, length, Some, None, Ok, Err, Option, Result, sym, refl, ap, subst, ap₂, inl, inr, suc-le-suc, arith, ltb-true, eq-eqb, eqb-true, leb-true}
use borrow.Author.Tests.{eqb-false}
use Rattle.std.specs.Option.{option_map}
use Rattle.answer.specs.declared.fault.Layer.TheVariants.{Book, Frame}
use Rattle.answer.specs.Refusal.{Refusal, refusal}
use Rattle.answer.specs.Rules.{Rule, rule, by_rules, then, need}
use Rattle.answer.proofs.Ruled.{Kept, kept_append}
use Rattle.code.specs.declared.description.Description.{Description}
use Rattle.code.specs.declared.description.Sheet.{Sheet}
use Rattle.code.specs.Model.{Model, asked, described_rules, whole}
use Rattle.station.specs.declared.entry.Entry.{Entry}
use Rattle.station.specs.Book.{PlainBook, held}
use Rattle.station.specs.Frame.{entry_at, differ, alike}
use Rattle.runs.specs.Promises.{FirstDiffer}

pub no_way : {A : Type 0} → ◌≡◌ {A = ℕ} 0 1 → A
no_way e = absurd (omega (arith, e))

pub ok_is : {A : Type 0} (x y : A) → ◌≡◌ {A = Result A Refusal} (Ok x) (Ok y) → x ≡ y
ok_is x y e = cc

pub some_is : {A : Type 0} (x y : A) → ◌≡◌ {A = Option A} (Some x) (Some y) → x ≡ y
some_is x y e = cc

-- ---- one step and the rest

pub then_ok : {A B : Type 0} (x : Result A Refusal) (f : A → Result B Refusal) (y : B) → then x f ≡ Ok y
    → (a : A) × (x ≡ Ok a) × (f a ≡ Ok y)
then_ok (Ok a) f y e = (a, refl, e)
then_ok (Err z) f y e = no_way (cc)

pub then_is : {A B : Type 0} (x : Result A Refusal) (v : A) (f : A → Result B Refusal) → x ≡ Ok v → then x f ≡ f v
then_is x v f e = ap (λ y. then y f) e

-- a rule in front of the rest
pub need_ok : {B : Type 0} (b : Bool) (z : Refusal) (x : Result B Refusal) (y : B) → then (need b z) (λ _. x) ≡ Ok y
    → (b ≡ true) × (x ≡ Ok y)
need_ok true z x y e = (refl, e)
need_ok false z x y e = no_way (cc)

pub keeps_on : {B : Type 0} (b : Bool) (z : Refusal) (x : Result B Refusal) → b ≡ true → then (need b z) (λ _. x) ≡ x
keeps_on b z x t = rw t refl

pub broken : {B : Type 0} (b : Bool) (z : Refusal) (x : Result B Refusal) → b ≡ false → then (need b z) (λ _. x) ≡ Err z
broken b z x t = rw t refl

-- two strings in front of the rest
pub alike_ok : {B : Type 0} (number start : ℕ) (o : Option ℕ) (x : Result B Refusal) (y : B)
    → then (alike number start o) (λ _. x) ≡ Ok y → (o ≡ None) × (x ≡ Ok y)
alike_ok number start None x y e = (refl, e)
alike_ok number start (Some i) x y e = no_way (cc)

pub alike_same : {B : Type 0} (number start : ℕ) (o : Option ℕ) (x : Result B Refusal) → o ≡ None
    → then (alike number start o) (λ _. x) ≡ x
alike_same number start o x e = ap (λ y. then (alike number start y) (λ _. x)) e

pub alike-apart : {B : Type 0} (number start : ℕ) (o : Option ℕ) (i : ℕ) (x : Result B Refusal) → o ≡ Some i
    → then (alike number start o) (λ _. x) ≡ Err (refusal number Frame (start + i))
alike-apart number start o i x e = ap (λ y. then (alike number start y) (λ _. x)) e

-- ---- tests

pub both_true : (a b : Bool) → a && b ≡ true → (a ≡ true) × (b ≡ true)
both_true true true e = (refl, refl)
both_true true false e = no_way (cc)
both_true false true e = no_way (cc)
both_true false false e = no_way (cc)

pub both_are : (a b : Bool) → a ≡ true → b ≡ true → a && b ≡ true
both_are a b p q = rw (p, q) refl

-- ---- the entry of a number

found : (o : Option Entry) (e : Entry)
    → ◌≡◌ {A = Result Entry Refusal} (elim o [ Some e ↦ Ok e | None ↦ Err (refusal 23 Book 1) ]) (Ok e) → o ≡ Some e
found (Some x) e q = ap Some (ok_is x e q)
found None e q = no_way (cc)

lost : (o : Option Entry) (z : Refusal)
    → ◌≡◌ {A = Result Entry Refusal} (elim o [ Some e ↦ Ok e | None ↦ Err (refusal 23 Book 1) ]) (Err z) → o ≡ None
lost (Some x) z q = no_way (cc)
lost None z q = refl

pub entry_ok : (b : PlainBook) (n : ℕ) (e : Entry) → entry_at b n ≡ Ok e → held b n ≡ Some e
entry_ok b n e q = found (held b n) e q

pub entry_err : (b : PlainBook) (n : ℕ) (z : Refusal) → entry_at b n ≡ Err z → held b n ≡ None
entry_err b n z q = lost (held b n) z q

pub entry_is : (b : PlainBook) (n : ℕ) (e : Entry) → held b n ≡ Some e → entry_at b n ≡ Ok e
entry_is b n e q =
    ap {B = Result Entry Refusal} (λ (o : Option Entry). elim o [ Some e ↦ Ok e | None ↦ Err (refusal 23 Book 1) ]) q

pub entry-none : (b : PlainBook) (n : ℕ) → held b n ≡ None → entry_at b n ≡ Err (refusal 23 Book 1)
entry-none b n q =
    ap {B = Result Entry Refusal} (λ (o : Option Entry). elim o [ Some e ↦ Ok e | None ↦ Err (refusal 23 Book 1) ]) q

-- ---- the first place where two strings differ

pub differ_same : (xs : List ℕ) → differ xs xs ≡ None
differ_same [] = refl
differ_same (x ∷ xs) = let t = eq-eqb x x refl in rw t (ap (option_map suc) (differ_same xs))

both : (b : Bool) (o : Option ℕ) → cond b (option_map suc o) (Some 0) ≡ None → (b ≡ true) × (o ≡ None)
both true None p = (refl, refl)
both true (Some i) p = no_way (cc)
both false o p = no_way (cc)

pub differ-none : (xs ys : List ℕ) → differ xs ys ≡ None → xs ≡ ys
differ-none [] [] p = refl
differ-none [] (y ∷ ys) p = no_way (cc)
differ-none (x ∷ xs) [] p = no_way (cc)
differ-none (x ∷ xs) (y ∷ ys) p =
    let h = both (eqb x y) (differ xs ys) p in
    let same = eqb-true x y h.0 in
    let rest = differ-none xs ys h.1 in
    cc

some_suc : (b : Bool) (o : Option ℕ) (i : ℕ) → cond b (option_map suc o) (Some 0) ≡ Some i
    → ((b ≡ false) × (i ≡ 0)) ⊎ ((b ≡ true) × (j : ℕ) × (o ≡ Some j) × (i ≡ suc j))
some_suc true None i e = no_way (cc)
some_suc true (Some j) i e = inr (refl, j, refl, (cc))
some_suc false o i e = inl (refl, (cc))

pub differ_first : (xs ys : List ℕ) → length xs ≡ length ys → (i : ℕ) → differ xs ys ≡ Some i → FirstDiffer xs ys i
differ_first [] [] l i e = no_way (cc)
differ_first [] (y ∷ ys) l i e = absurd (omega arith)
differ_first (x ∷ xs) [] l i e = absurd (omega arith)
differ_first (x ∷ xs) (y ∷ ys) l i e = go (differ_first xs ys (omega arith)) (some_suc (eqb x y) (differ xs ys) i e)
  where
    go : ((j : ℕ) → differ xs ys ≡ Some j → FirstDiffer xs ys j)
        → ((eqb x y ≡ false) × (i ≡ 0)) ⊎ ((eqb x y ≡ true) × (j : ℕ) × (differ xs ys ≡ Some j) × (i ≡ suc j))
        → FirstDiffer (x ∷ xs) (y ∷ ys) i
    go ih (inl p) =
        subst (FirstDiffer (x ∷ xs) (y ∷ ys)) (sym p.1)
        (record { before = refl; inside = (omega arith, omega arith); here = eqb-false x y p.0 })
    go ih (inr p) =
        let j = p.1 in
        let k = ih j p.2 in
        subst (FirstDiffer (x ∷ xs) (y ∷ ys)) (sym p.3) (record {
          before = ap₂ {C = List ℕ} (λ z zs. z ∷ zs) (eqb-true x y p.0) k.before;
          inside = (suc-le-suc k.inside.0, suc-le-suc k.inside.1);
          here = k.here;
        })

-- strings that are not the same differ somewhere
pub differ_some : (xs ys : List ℕ) → ¬ (xs ≡ ys) → (i : ℕ) × (differ xs ys ≡ Some i)
differ_some xs ys ne = go (differ xs ys) refl
  where
    go : (o : Option ℕ) → differ xs ys ≡ o → (i : ℕ) × (differ xs ys ≡ Some i)
    go (Some i) q = (i, q)
    go None q = absurd (ne (differ-none xs ys q))

-- ---- lists of rules

one_ok : {A : Type 0} (b : Bool) (x : Result A Refusal) (r : Refusal) (w : A) → cond b x (Err r) ≡ Ok w → (b ≡ true) × (x ≡ Ok w)
one_ok true x r w e = (refl, e)
one_ok false x r w e = no_way (cc)

pub rules_ok : {A : Type 0} (v w : A) (rs : List Rule) → by_rules rs v ≡ Ok w → (v ≡ w) × Kept rs
rules_ok v w [] e = (ok_is v w e, tt)
rules_ok v w (r ∷ rs) e =
    let k = one_ok r.asks (by_rules rs v) r.otherwise w e in
    let h = rules_ok v w rs k.1 in
    (h.0, (k.0, h.1))

pub rules_pass : {A : Type 0} (v : A) (rs : List Rule) → Kept rs → by_rules rs v ≡ Ok v
rules_pass v [] k = refl
rules_pass v (r ∷ rs) k = let t = k.0 in rw t (rules_pass v rs k.1)

pub kept_join : (rs ss : List Rule) → Kept rs → Kept ss → Kept (rs ++ ss)
kept_join [] ss p q = q
kept_join (r ∷ rs) ss p q = (p.0, kept_join rs ss p.1 q)

-- ---- what a kind answered

-- The description is fit: its kind is served, and keeps what the kind asks.
abbrev pub Fit : Model → Description → Type 0
Fit m d = Kept (described_rules m d)

pub record Checked (m : Model) (d : Description) (s c : List ℕ) (room : ℕ) : Type 0 where
  pub fit : Fit m d
  pub some : 1 ≤ length s
  pub tuples : length s % (m.sheet d).tuple ≡ 0
  pub most : length s ≤ 4096
  pub fits : (m.sheet d).check ≤ room
  pub is_check : c ≡ m.check d s

pub sheet_ok : (m : Model) (d : Description) (sh : Sheet) → (asked m).sheet d ≡ Ok sh → sh ≡ m.sheet d
sheet_ok m d sh e = sym (rules_ok (m.sheet d) sh (described_rules m d) e).0

pub check_ok : (m : Model) (d : Description) (s : List ℕ) (room : ℕ) (c : List ℕ) → (asked m).check d s room ≡ Ok c → Checked m d s c room
check_ok m d s room c e =
    let own : List Rule =
    rule (whole (m.sheet d).tuple s) (refusal 31 Frame (length s)) ∷ rule (leb (m.sheet d).check room) (refusal 33 Frame room) ∷ [] in
    let h = rules_ok (m.check d s) c (described_rules m d ++ own) e in
    let k = kept_append (described_rules m d) own h.1 in
    let p = both_true (ltb 0 (length s) && eqb (length s % (m.sheet d).tuple) 0) (leb (length s) 4096) k.1.0 in
    let q = both_true (ltb 0 (length s)) (eqb (length s % (m.sheet d).tuple) 0) p.0 in
    record {
      fit = k.0;
      some = ltb-true 0 (length s) q.0;
      tuples = eqb-true (length s % (m.sheet d).tuple) 0 q.1;
      most = leb-true (length s) 4096 p.1;
      fits = leb-true (m.sheet d).check room k.1.1.0;
      is_check = sym h.0;
    }
