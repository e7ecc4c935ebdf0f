-- The tables one after the other.
-- Assumes nothing.
use Rattle.std.proofs.Common.{◌≡◌, ℕ, ◌+◌, ◌*◌, ◌^◌, ◌<◌, ◌≢◌, List, [], length, get_or, set, sym, ap, ◌∙◌, subst, arith, get_or-set_other, get_or-set_same, pow-add, below_more}
use Rattle.poly.specs.Poly.{rem}
use Rattle.poly.proofs.Division.{rem-shl}
use Rattle.engine.specs.Tables.{Entries}
use Rattle.slicing.specs.Tables.{Tables}

-- the first entry of the next table
pub first_more : (h low : ℕ) → low < 2 ^ h → (m n p q : ℕ) → n ≡ m + 8 → p ≡ rem h low (2 ^ m) → q ≡ rem h low (p * 2 ^ 8) → q ≡ rem h low (2 ^ n)
first_more h low small m n p q en ep eq =
    eq ∙ ap (λ x. rem h low (x * 2 ^ 8)) ep ∙ sym (rem-shl h low small (2 ^ m) 8)
    ∙ ap (rem h low) (sym (pow-add 2 m 8) ∙ ap (λ k. 2 ^ k) (sym en))

-- one of the tables
pub table_of : (low n : ℕ) (ts : List (List ℕ)) → Tables low n ts → (j : ℕ) → j < n → Entries 32 low (32 + 8 * j) (get_or ts j [])
table_of low n ts tables j l a la = tables j a (l, la)

-- one table more
pub tables_more : (low : ℕ) (ts : List (List ℕ)) (j : ℕ) (e : List ℕ) → j < length ts → Tables low j ts → Entries 32 low (32 + 8 * j) e
    → Tables low (j + 1) (set ts j e)
tables_more low ts j e l before here i a (li, la) =
    below_more (λ i. Entries 32 low (32 + 8 * i) (get_or (set ts j e) i [])) j
    (λ i h. let ne : i ≢ j = omega arith in subst (Entries 32 low (32 + 8 * i)) (sym (get_or-set_other ts j i e [] ne)) (table_of low j ts before i h))
    (subst (Entries 32 low (32 + 8 * j)) (sym (get_or-set_same ts j e [] l)) here) i li a la
