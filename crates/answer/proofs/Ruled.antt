-- What follows from an answer by rules for another value under the same rules.
-- Assumes nothing.
use Rattle.std.proofs.Common.{◌≡◌, ℕ, Bool, true, false, cond, List, [], ◌∷◌, ◌++◌, Ok, Err, Result, refl, arith}
use Rattle.answer.specs.Refusal.{Refusal}
use Rattle.answer.specs.Rules.{Rule, by_rules}

module _ {A B : Type 0} (v : A) (w : B) where
  passes_one : (b : Bool) (x : Result A Refusal) (y : Result B Refusal) (r : Refusal)
      → (Ok v ≡ x → Ok w ≡ y) → Ok v ≡ cond b x (Err r) → Ok w ≡ cond b y (Err r)
  passes_one true x y r f e = f e
  passes_one false x y r f e = absurd (let z : ◌≡◌ {A = ℕ} 0 1 = cc in omega arith)

  -- where no rule is broken, none is for another value
  pub passes : (rs : List Rule) → Ok v ≡ by_rules rs v → Ok w ≡ by_rules rs w
  passes [] e = refl
  passes (r ∷ rs) e = passes_one r.asks (by_rules rs v) (by_rules rs w) r.otherwise (passes rs) e

  refuses_one : (b : Bool) (x : Result A Refusal) (y : Result B Refusal) (r z : Refusal)
      → (Err z ≡ x → Err z ≡ y) → Err z ≡ cond b x (Err r) → Err z ≡ cond b y (Err r)
  refuses_one true x y r z f e = f e
  refuses_one false x y r z f e = cc

  -- .. and the first broken rule refuses every value
  pub refuses : (rs : List Rule) (z : Refusal) → Err z ≡ by_rules rs v → Err z ≡ by_rules rs w
  refuses [] z e = absurd (let y : ◌≡◌ {A = ℕ} 0 1 = cc in omega arith)
  refuses (r ∷ rs) z e = refuses_one r.asks (by_rules rs v) (by_rules rs w) r.otherwise z (refuses rs z) e

-- ---- lists of rules joined

module _ {A B : Type 0} (v : A) (w : B) where
  joins_one : (b : Bool) (x : Result A Refusal) (y z : Result B Refusal) (r : Refusal)
      → (Ok v ≡ x → y ≡ z) → Ok v ≡ cond b x (Err r) → cond b y (Err r) ≡ z
  joins_one true x y z r f e = f e
  joins_one false x y z r f e = absurd (let n : ◌≡◌ {A = ℕ} 0 1 = cc in omega arith)

  -- where no rule of the first list is broken, the second decides
  pub then_rules : (rs ss : List Rule) → Ok v ≡ by_rules rs v → by_rules (rs ++ ss) w ≡ by_rules ss w
  then_rules [] ss e = refl
  then_rules (r ∷ rs) ss e = joins_one r.asks (by_rules rs v) (by_rules (rs ++ ss) w) (by_rules ss w) r.otherwise (then_rules rs ss) e

  stops_one : (b : Bool) (x : Result A Refusal) (y : Result B Refusal) (r z : Refusal)
      → (Err z ≡ x → y ≡ Err z) → Err z ≡ cond b x (Err r) → cond b y (Err r) ≡ Err z
  stops_one true x y r z f e = f e
  stops_one false x y r z f e = cc

  -- .. and a broken one of the first is the answer
  pub first_rules : (rs ss : List Rule) (z : Refusal) → Err z ≡ by_rules rs v → by_rules (rs ++ ss) w ≡ Err z
  first_rules [] ss z e = absurd (let n : ◌≡◌ {A = ℕ} 0 1 = cc in omega arith)
  first_rules (r ∷ rs) ss z e = stops_one r.asks (by_rules rs v) (by_rules (rs ++ ss) w) r.otherwise z (first_rules rs ss z) e

-- ---- what kept rules say

-- every rule is kept
abbrev pub Kept : List Rule → Type 0
Kept [] = Unit {0}
Kept (r ∷ rs) = (r.asks ≡ true) × Kept rs

kept_one : {A : Type 0} (v : A) (b : Bool) (x : Result A Refusal) (r : Refusal) → cond b x (Err r) ≡ Ok v → (b ≡ true) × (x ≡ Ok v)
kept_one v true x r e = (refl, e)
kept_one v false x r e = absurd (let n : ◌≡◌ {A = ℕ} 0 1 = cc in omega arith)

pub kept : {A : Type 0} (v : A) (rs : List Rule) → by_rules rs v ≡ Ok v → Kept rs
kept v [] e = tt
kept v (r ∷ rs) e = let k = kept_one v r.asks (by_rules rs v) r.otherwise e in (k.0, kept v rs k.1)

pub kept_append : (rs ss : List Rule) → Kept (rs ++ ss) → Kept rs × Kept ss
kept_append [] ss k = (tt, k)
kept_append (r ∷ rs) ss (a, k) = let p = kept_append rs ss k in ((a, p.0), p.1)

-- ---- the value of an answer

value_one : {A : Type 0} (v s : A) (b : Bool) (x : Result A Refusal) (r : Refusal)
    → (x ≡ Ok s → s ≡ v) → cond b x (Err r) ≡ Ok s → s ≡ v
value_one v s true x r f e = f e
value_one v s false x r f e = absurd (let n : ◌≡◌ {A = ℕ} 0 1 = cc in omega arith)

-- an answer that is no refusal is the value
pub ok_value : {A : Type 0} (v s : A) (rs : List Rule) → by_rules rs v ≡ Ok s → s ≡ v
ok_value v s [] e = cc
ok_value v s (r ∷ rs) e = value_one v s r.asks (by_rules rs v) r.otherwise (ok_value v s rs) e
