-- What holds of every entry of a plain book: it is admitted, and its numbers fit their bytes.
-- Assumes nothing.
use Rattle.std.proofs.Common.{◌≡◌, ℕ, ◌^◌, ◌<◌, Bool, true, false, cond, eqb, List, [], ◌∷◌, ◌++◌, Some, Ok, Err, Result, sym, refl, ap, ◌∙◌, subst, eqb-true}
use Rattle.std.specs.List.{AllByRecursion}
use Rattle.answer.specs.Refusal.{Refusal, if_ok}
use Rattle.answer.proofs.Ruled.{kept, kept_append}
use Rattle.code.specs.declared.description.Description.{Description}
use Rattle.code.specs.Model.{Fits, Model, Asked, asked, described_rules, Admits}
use Rattle.station.specs.declared.entry.Entry.{Entry}
use Rattle.station.specs.Book.{PlainBook, empty_book, entry_of, with_reach, held_in, held, entered, narrowed_in, narrowed, retired_in, retired}
use Rattle.station.specs.Frame.{entry_at}
use Rattle.station.specs.Calls.{Call, change, ask, enter, narrow, retire, step, run, book_after, entering, narrowing, retiring, Typed}
use Rattle.runs.proofs.Inverts.{no_way, some_is, then_ok, need_ok, entry_ok, Fit}

-- ---- any property of entries that entering and narrowing keep

module _ (P : Entry → Type 0) where
  on_cond : (b : Bool) (xs ys : List Entry) → AllByRecursion P xs → AllByRecursion P ys → AllByRecursion P (cond b xs ys)
  on_cond true xs ys p q = p
  on_cond false xs ys p q = q

  on_ok : (x : Result (Unit {0}) Refusal) (b c : PlainBook) → (x ≡ Ok tt → AllByRecursion P b.entries) → AllByRecursion P c.entries
      → AllByRecursion P (if_ok x b c).entries
  on_ok (Ok u) b c p q = p refl
  on_ok (Err z) b c p q = q

  pushed : (es : List Entry) (e : Entry) → AllByRecursion P es → P e → AllByRecursion P (es ++ e ∷ [])
  pushed [] e a h = (h, tt)
  pushed (x ∷ es) e a h = (a.0, pushed es e a.1 h)

  kept_retired : (es : List Entry) (n : ℕ) → AllByRecursion P es → AllByRecursion P (retired_in es n)
  kept_retired [] n a = tt
  kept_retired (x ∷ es) n a = on_cond (eqb x.number n) es (x ∷ retired_in es n) a.1 (a.0, kept_retired es n a.1)

  pub all_in : (es : List Entry) (n : ℕ) (e : Entry) → AllByRecursion P es → held_in es n ≡ Some e → P e
  all_in [] n e a h = no_way (cc)
  all_in (x ∷ es) n e a h = here (eqb x.number n) (λ q. all_in es n e a.1 q) h
    where
      here : (b : Bool) → (held_in es n ≡ Some e → P e) → cond b (Some x) (held_in es n) ≡ Some e → P e
      here true k q = subst P (some_is x e q) a.0
      here false k q = k q

  pub all_held : (b : PlainBook) (n : ℕ) (e : Entry) → AllByRecursion P b.entries → held b n ≡ Some e → P e
  all_held b n e a h = all_in b.entries n e a h

  kept_narrowed : (es : List Entry) (n r : ℕ) (e : Entry) → AllByRecursion P es → held_in es n ≡ Some e → P (with_reach e r) → AllByRecursion P (narrowed_in es n r)
  kept_narrowed [] n r e a h p = tt
  kept_narrowed (x ∷ es) n r e a h p = here (eqb x.number n) (λ q. kept_narrowed es n r e a.1 q p) h
    where
      here : (b : Bool) → (held_in es n ≡ Some e → AllByRecursion P (narrowed_in es n r)) → cond b (Some x) (held_in es n) ≡ Some e
          → AllByRecursion P (cond b (with_reach x r ∷ es) (x ∷ narrowed_in es n r))
      here true k q = (subst (λ y. P (with_reach y r)) (sym (some_is x e q)) p, a.1)
      here false k q = (a.0, k q)

-- ---- admitted

abbrev pub Admitted : Model → Entry → Type 0
Admitted m e = Admits m e.description e.reach

-- every entry of a book is
abbrev pub AllAdmitted : Model → PlainBook → Type 0
AllAdmitted m b = AllByRecursion (Admitted m) b.entries

module _ (m : Model) where
  pub step-admitted : (b : PlainBook) (c : Call) → AllAdmitted m b → AllAdmitted m (step (asked m) b c)
  step-admitted b (change (enter n d r)) a =
      on_ok (Admitted m) (entering (asked m) b n d r) (entered b (entry_of n d r)) b
      (λ p. pushed (Admitted m) b.entries (entry_of n d r) a (then_ok ((asked m).admission d r) _ tt p).1) a
  step-admitted b (change (narrow n r)) a =
      on_ok (Admitted m) (narrowing (asked m) b n r) (narrowed b n r) b
      (λ p.
      let h = then_ok (entry_at b n) _ tt p in
      kept_narrowed (Admitted m) b.entries n r h.0 a (entry_ok b n h.0 h.1) (need_ok _ _ _ tt h.2).1)
      a
  step-admitted b (change (retire n)) a =
      on_ok (Admitted m) (retiring b n) (retired b n) b (λ p. kept_retired (Admitted m) b.entries n a) a
  step-admitted b (ask q) a = a

  pub run-admitted : (b : PlainBook) (cs : List Call) → AllAdmitted m b → AllAdmitted m (run (asked m) b cs)
  run-admitted b [] a = a
  run-admitted b (c ∷ cs) a = run-admitted (step (asked m) b c) cs (step-admitted b c a)

  pub book_admitted : (cs : List Call) → AllAdmitted m (book_after (asked m) cs)
  book_admitted cs = run-admitted empty_book cs tt

-- ---- fitting

abbrev pub Fitting : Entry → Type 0
Fitting e = (e.number < 2 ^ 8) × Fits e.description × (e.reach < 2 ^ 16)

module _ (a : Asked) where
  pub stepped_fits : (b : PlainBook) (c : Call) → Typed c → AllByRecursion Fitting b.entries → AllByRecursion Fitting (step a b c).entries
  stepped_fits b (change (enter n d r)) t f =
      on_ok Fitting (entering a b n d r) (entered b (entry_of n d r)) b (λ p. pushed Fitting b.entries (entry_of n d r) f t) f
  stepped_fits b (change (narrow n r)) t f =
      on_ok Fitting (narrowing a b n r) (narrowed b n r) b
      (λ p.
      let h = then_ok (entry_at b n) _ tt p in
      let k = entry_ok b n h.0 h.1 in
      let g = all_in Fitting b.entries n h.0 f k in
      kept_narrowed Fitting b.entries n r h.0 f k (g.0, g.1, t.1))
      f
  stepped_fits b (change (retire n)) t f = on_ok Fitting (retiring b n) (retired b n) b (λ p. kept_retired Fitting b.entries n f) f
  stepped_fits b (ask q) t f = f

  run_fits : (b : PlainBook) (cs : List Call) → AllByRecursion Typed cs → AllByRecursion Fitting b.entries → AllByRecursion Fitting (run a b cs).entries
  run_fits b [] t f = f
  run_fits b (c ∷ cs) t f = run_fits (step a b c) cs t.1 (stepped_fits b c t.0 f)

  pub book_fits : (cs : List Call) → AllByRecursion Typed cs → AllByRecursion Fitting (book_after a cs).entries
  book_fits cs t = run_fits empty_book cs t tt

-- ---- an entry stands under its own number

pub held_number : (es : List Entry) (n : ℕ) (e : Entry) → held_in es n ≡ Some e → e.number ≡ n
held_number [] n e h = no_way (cc)
held_number (x ∷ es) n e h = here (eqb x.number n) refl (held_number es n e) h
  where
    here : (b : Bool) → eqb x.number n ≡ b → (held_in es n ≡ Some e → e.number ≡ n) → cond b (Some x) (held_in es n) ≡ Some e → e.number ≡ n
    here true t k q = ap (λ (y : Entry). y.number) (sym (some_is x e q)) ∙ eqb-true x.number n t
    here false t k q = k q

-- an admitted description is fit
pub admitted_fit : (m : Model) (d : Description) (r : ℕ) → Admits m d r → Fit m d
admitted_fit m d r a = (kept_append (described_rules m d) (m.reaches d r) (kept tt (described_rules m d ++ m.reaches d r) a)).0
