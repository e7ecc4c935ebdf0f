-- Every call keeps the entries of a book admitted.
-- Assumes nothing.
use Rattle.std.proofs.Common.{◌≡◌, ℕ, Bool, true, false, cond, ◌&&◌, eqb, ltb, List, [], ◌∷◌, ◌++◌, is_ok, Some, Ok, Err, Option, Result, sym, refl, ap, ◌∙◌, subst, arith}
use Rattle.answer.specs.declared.fault.Layer.TheVariants.{Book}
use Rattle.answer.specs.Refusal.{Refusal, refusal, if_ok}
use Rattle.answer.specs.Rules.{then, need}
use Rattle.code.specs.declared.description.Description.{Description}
use Rattle.code.specs.Model.{Asked, Model, asked}
use Rattle.station.specs.declared.entry.Entry.{Entry}
use Rattle.station.specs.Book.{PlainBook, book_of, entered, entry_of, held, held_in, narrowed_in, retired_in, with_reach}
use Rattle.station.specs.Frame.{entry_at}
use Rattle.station.specs.Calls.{enter, narrow, retire, Call, change, ask, entering, narrowing, retiring, step, run}
use Rattle.station.specs.Fitting.{all_admitted, Admitted}
use Rattle.station.proofs.Sealed.{both, by_option}

no_way : {A : Type 0} → ◌≡◌ {A = ℕ} 0 1 → A
no_way e = absurd (omega (arith, e))

and_true : (p q : Bool) → p ≡ true → q ≡ true → p && q ≡ true
and_true p q e f = rw (e, f) refl

-- entries stay admitted under other names of the same bank and the same book
pub admitted_as : (m m' : Model) (b b' : PlainBook) → m' ≡ m → b' ≡ b → Admitted (asked m) b → Admitted (asked m') b'
admitted_as m m' b b' e f p = subst (λ k. Admitted (asked k) b') (sym e) (subst (Admitted (asked m)) (sym f) p)

module _ (a : Asked) where
  abbrev fine : Entry → Bool
  fine e = is_ok (a.admission e.description e.reach)

  all_push : (es : List Entry) (e : Entry) → all_admitted a es ≡ true → fine e ≡ true → all_admitted a (es ++ e ∷ []) ≡ true
  all_push [] e p q = and_true (fine e) true q refl
  all_push (h ∷ es) e p q =
      let k = both (fine h) (all_admitted a es) p in
      and_true (fine h) (all_admitted a (es ++ e ∷ [])) k.0 (all_push es e k.1 q)

  retired_one : (t : Bool) (h : Entry) (es rest : List Entry) → fine h ≡ true → all_admitted a es ≡ true → all_admitted a rest ≡ true
      → all_admitted a (cond t es (h ∷ rest)) ≡ true
  retired_one true h es rest p q r = q
  retired_one false h es rest p q r = and_true (fine h) (all_admitted a rest) p r

  all-retired : (es : List Entry) (n : ℕ) → all_admitted a es ≡ true → all_admitted a (retired_in es n) ≡ true
  all-retired [] n p = refl
  all-retired (h ∷ es) n p =
      let k = both (fine h) (all_admitted a es) p in
      retired_one (eqb h.number n) h es (retired_in es n) k.0 k.1 (all-retired es n k.1)

  narrowed_one : (t : Bool) (h : Entry) (es rest : List Entry) (o : Option Entry) (e : Entry) (reach : ℕ) → fine h ≡ true → all_admitted a es ≡ true
      → is_ok (a.admission e.description reach) ≡ true → cond t (Some h) o ≡ Some e → (o ≡ Some e → all_admitted a rest ≡ true)
      → all_admitted a (cond t (with_reach h reach ∷ es) (h ∷ rest)) ≡ true
  narrowed_one true h es rest o e reach p q ok is r =
      let same : h ≡ e = cc in
      and_true (is_ok (a.admission h.description reach)) (all_admitted a es) (ap (λ k. is_ok (a.admission k.description reach)) same ∙ ok) q
  narrowed_one false h es rest o e reach p q ok is r = and_true (fine h) (all_admitted a rest) p (r is)

  pub all-narrowed : (es : List Entry) (n reach : ℕ) (e : Entry) → all_admitted a es ≡ true → held_in es n ≡ Some e
      → is_ok (a.admission e.description reach) ≡ true → all_admitted a (narrowed_in es n reach) ≡ true
  all-narrowed [] n reach e p is ok = refl
  all-narrowed (h ∷ es) n reach e p is ok =
      let k = both (fine h) (all_admitted a es) p in
      narrowed_one (eqb h.number n) h es (narrowed_in es n reach) (held_in es n) e reach k.0 k.1 ok is (λ i. all-narrowed es n reach e k.1 i ok)

  -- ---- the changes, by what they answer

  first_ok : (x : Result (Unit {0}) Refusal) (f : Unit {0} → Result (Unit {0}) Refusal) (v : Unit {0}) → then x f ≡ Ok v → is_ok x ≡ true
  first_ok (Ok u) f v e = refl
  first_ok (Err r) f v e = no_way (cc)

  -- one entry more that is admitted, where the book has a place for it
  pub added_kept : (b : PlainBook) (e : Entry) (x : Result (Unit {0}) Refusal) → Admitted a b → fine e ≡ true
      → Admitted a (if_ok x (entered b e) b)
  added_kept b e (Ok v) p q = all_push b.entries e p q
  added_kept b e (Err r) p q = p

  entered_kept : (b : PlainBook) (n : ℕ) (d : Description) (reach : ℕ) (x : Result (Unit {0}) Refusal) → Admitted a b → entering a b n d reach ≡ x
      → Admitted a (if_ok x (book_of (b.entries ++ entry_of n d reach ∷ [])) b)
  entered_kept b n d reach (Ok v) p e = all_push b.entries (entry_of n d reach) p (first_ok (a.admission d reach) _ v e)
  entered_kept b n d reach (Err r) p e = p

  pub retired_kept : (b : PlainBook) (n : ℕ) (x : Result (Unit {0}) Refusal) → Admitted a b → Admitted a (if_ok x (book_of (retired_in b.entries n)) b)
  retired_kept b n (Ok v) p = all-retired b.entries n p
  retired_kept b n (Err r) p = p

  last_ok : (p : Bool) (r : Refusal) (x : Result (Unit {0}) Refusal) (v : Unit {0}) → then (need p r) (λ _. x) ≡ Ok v → is_ok x ≡ true
  last_ok true r x v e = ap is_ok e
  last_ok false r x v e = no_way (cc)

  then_ok : (x : Result Entry Refusal) (f : Entry → Result (Unit {0}) Refusal) (v : Unit {0}) → then x f ≡ Ok v
      → (e : Entry) × (x ≡ Ok e) × (f e ≡ Ok v)
  then_ok (Ok e) f v p = (e, refl, p)
  then_ok (Err r) f v p = no_way (cc)

  narrowed_kept : (b : PlainBook) (n reach : ℕ) (x : Result (Unit {0}) Refusal) → Admitted a b → narrowing a b n reach ≡ x
      → Admitted a (if_ok x (book_of (narrowed_in b.entries n reach)) b)
  narrowed_kept b n reach (Err r) p e = p
  narrowed_kept b n reach (Ok v) p e =
      let k = then_ok (entry_at b n) (λ e. then (need (ltb reach e.reach) (refusal 24 Book 12)) (λ _. a.admission e.description reach)) v e in
      all-narrowed b.entries n reach k.0 p (by_option (held b n) k.0 k.1)
      (last_ok (ltb reach k.0.reach) (refusal 24 Book 12) (a.admission k.0.description reach) v k.2)

  pub step-admitted : (b : PlainBook) (c : Call) → Admitted a b → Admitted a (step a b c)
  step-admitted b (change (enter n d reach)) p = entered_kept b n d reach (entering a b n d reach) p refl
  step-admitted b (change (narrow n reach)) p = narrowed_kept b n reach (narrowing a b n reach) p refl
  step-admitted b (change (retire n)) p = retired_kept b n (retiring b n) p
  step-admitted b (ask q) p = p

  pub run-admitted : (b : PlainBook) (cs : List Call) → Admitted a b → Admitted a (run a b cs)
  run-admitted b [] p = p
  run-admitted b (c ∷ cs) p = run-admitted (step a b c) cs (step-admitted b c p)
