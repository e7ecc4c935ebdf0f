-- The plain book as a law over runs.
-- Assumes nothing.
use Rattle.std.proofs.Common.{◌≡◌, ℕ, suc, ◌<◌, ◌≤◌, Bool, true, false, cond, not, eqb, ltb, List, [], ◌∷◌, ◌++◌, length, is_some, Some, None, Ok, Err, Option, Result, sym, refl, ap, ◌∙◌, subst, add-one, arith, length-append, ltb-true, eq-eqb, ne_eqb, eqb-true}
use borrow.Author.Tests.{both_ways}
use Rattle.std.specs.List.{AllByRecursion}
use Rattle.answer.specs.declared.fault.Layer.TheVariants.{Book}
use Rattle.answer.specs.Refusal.{Refusal, refusal, if_ok}
use Rattle.answer.specs.Rules.{then, need}
use Rattle.code.specs.declared.description.Description.{Description}
use Rattle.code.specs.Model.{Asked, asked}
use Rattle.station.specs.declared.entry.Entry.{Entry}
use Rattle.station.specs.Book.{PlainBook, empty_book, entry_of, with_reach, held_in, held, entered, narrowed_in, narrowed, retired_in, retired}
use Rattle.station.specs.Frame.{entry_at}
use Rattle.station.specs.Calls.{enter, narrow, retire, Call, change, ask, changed, entering, narrowing, retiring, step, run, book_after}
use Rattle.runs.specs.Books.{about, BookLaws}
use Rattle.runs.proofs.Inverts.{no_way, some_is, then_ok, then_is, need_ok, entry_ok, entry_is, entry_err}
use Rattle.runs.proofs.Admitted.{Admitted, all_held, book_admitted, held_number}

cond_t : {A : Type 0} {b : Bool} (x y : A) → b ≡ true → cond b x y ≡ x
cond_t x y e = rw e refl

cond_f : {A : Type 0} {b : Bool} (x y : A) → b ≡ false → cond b x y ≡ y
cond_f x y e = rw e refl

miss : (b : Bool) (x : Entry) (y : Option Entry) → cond b (Some x) y ≡ None → (b ≡ false) × (y ≡ None)
miss true x y e = no_way (cc)
miss false x y e = (refl, e)

-- ---- one more entry

push_other : (es : List Entry) (e : Entry) (k : ℕ) → eqb e.number k ≡ false → held_in (es ++ e ∷ []) k ≡ held_in es k
push_other [] e k q = cond_f (Some e) None q
push_other (x ∷ es) e k q = ap (cond (eqb x.number k) (Some x)) (push_other es e k q)

push_own : (es : List Entry) (e : Entry) → held_in es e.number ≡ None → held_in (es ++ e ∷ []) e.number ≡ Some e
push_own [] e h = cond_t (Some e) None (eq-eqb e.number e.number refl)
push_own (x ∷ es) e h =
    let k = miss (eqb x.number e.number) x (held_in es e.number) h in
    cond_f (Some x) (held_in (es ++ e ∷ []) e.number) k.0 ∙ push_own es e k.1

-- ---- a lower reach

narrowed_own : (es : List Entry) (n r : ℕ) (e : Entry) → held_in es n ≡ Some e → held_in (narrowed_in es n r) n ≡ Some (with_reach e r)
narrowed_own [] n r e h = no_way (cc)
narrowed_own (x ∷ es) n r e h = go (eqb x.number n) refl (narrowed_own es n r e) h
  where
    go : (b : Bool) → eqb x.number n ≡ b → (held_in es n ≡ Some e → held_in (narrowed_in es n r) n ≡ Some (with_reach e r))
        → cond b (Some x) (held_in es n) ≡ Some e → held_in (cond b (with_reach x r ∷ es) (x ∷ narrowed_in es n r)) n ≡ Some (with_reach e r)
    go true t ih q = cond_t (Some (with_reach x r)) (held_in es n) t ∙ ap (λ y. Some (with_reach y r)) (some_is x e q)
    go false t ih q = cond_f (Some x) (held_in (narrowed_in es n r) n) t ∙ ih q

narrowed_other : (es : List Entry) (n r k : ℕ) → ¬ (n ≡ k) → held_in (narrowed_in es n r) k ≡ held_in es k
narrowed_other [] n r k ne = refl
narrowed_other (x ∷ es) n r k ne = go (eqb x.number n) refl (narrowed_other es n r k ne)
  where
    go : (b : Bool) → eqb x.number n ≡ b → held_in (narrowed_in es n r) k ≡ held_in es k
        → held_in (cond b (with_reach x r ∷ es) (x ∷ narrowed_in es n r)) k ≡ cond (eqb x.number k) (Some x) (held_in es k)
    go true t ih =
        let other : eqb x.number k ≡ false = ne_eqb x.number k (λ e. ne (sym (eqb-true x.number n t) ∙ e)) in
        cond_f (Some (with_reach x r)) (held_in es k) other ∙ sym (cond_f (Some x) (held_in es k) other)
    go false t ih = ap (cond (eqb x.number k) (Some x)) ih

narrowed_none : (es : List Entry) (n r k : ℕ) → held_in es k ≡ None → held_in (narrowed_in es n r) k ≡ None
narrowed_none [] n r k h = refl
narrowed_none (x ∷ es) n r k h =
    let p = miss (eqb x.number k) x (held_in es k) h in
    go (eqb x.number n) p (narrowed_none es n r k p.1)
  where
    go : (b : Bool) → (eqb x.number k ≡ false) × (held_in es k ≡ None) → held_in (narrowed_in es n r) k ≡ None
        → held_in (cond b (with_reach x r ∷ es) (x ∷ narrowed_in es n r)) k ≡ None
    go true p ih = cond_f (Some (with_reach x r)) (held_in es k) p.0 ∙ p.1
    go false p ih = cond_f (Some x) (held_in (narrowed_in es n r) k) p.0 ∙ ih

-- ---- an entry less

retired_other : (es : List Entry) (n k : ℕ) → ¬ (n ≡ k) → held_in (retired_in es n) k ≡ held_in es k
retired_other [] n k ne = refl
retired_other (x ∷ es) n k ne = go (eqb x.number n) refl (retired_other es n k ne)
  where
    go : (b : Bool) → eqb x.number n ≡ b → held_in (retired_in es n) k ≡ held_in es k
        → held_in (cond b es (x ∷ retired_in es n)) k ≡ cond (eqb x.number k) (Some x) (held_in es k)
    go true t ih = sym (cond_f (Some x) (held_in es k) (ne_eqb x.number k (λ e. ne (sym (eqb-true x.number n t) ∙ e))))
    go false t ih = ap (cond (eqb x.number k) (Some x)) ih

retired-none : (es : List Entry) (n k : ℕ) → held_in es k ≡ None → held_in (retired_in es n) k ≡ None
retired-none [] n k h = refl
retired-none (x ∷ es) n k h =
    let p = miss (eqb x.number k) x (held_in es k) h in
    go (eqb x.number n) p (retired-none es n k p.1)
  where
    go : (b : Bool) → (eqb x.number k ≡ false) × (held_in es k ≡ None) → held_in (retired_in es n) k ≡ None
        → held_in (cond b es (x ∷ retired_in es n)) k ≡ None
    go true p ih = p.1
    go false p ih = cond_f (Some x) (held_in (retired_in es n) k) p.0 ∙ ih

-- ---- no number twice

abbrev Distinct : List Entry → Type 0
Distinct [] = Unit {0}
Distinct (e ∷ es) = (held_in es e.number ≡ None) × Distinct es

retired_own : (es : List Entry) (n : ℕ) → Distinct es → held_in (retired_in es n) n ≡ None
retired_own [] n d = refl
retired_own (x ∷ es) n d = go (eqb x.number n) refl (retired_own es n d.1)
  where
    go : (b : Bool) → eqb x.number n ≡ b → held_in (retired_in es n) n ≡ None → held_in (cond b es (x ∷ retired_in es n)) n ≡ None
    go true t ih = subst (λ (k : ℕ). held_in es k ≡ None) (eqb-true x.number n t) d.0
    go false t ih = cond_f (Some x) (held_in (retired_in es n) n) t ∙ ih

-- each entry is held under its own number
still_own : (x : Entry) (es : List Entry) (e : Entry) → held_in es x.number ≡ None → held_in es e.number ≡ Some e
    → held_in (x ∷ es) e.number ≡ Some e
still_own x es e h q = go (eqb x.number e.number) refl
  where
    go : (b : Bool) → eqb x.number e.number ≡ b → cond b (Some x) (held_in es e.number) ≡ Some e
    go true t =
        let k : held_in es e.number ≡ None = subst (λ (k : ℕ). held_in es k ≡ None) (eqb-true x.number e.number t) h in
        no_way (cc)
    go false t = q

all_own : (x : Entry) (es fs : List Entry) → held_in es x.number ≡ None → AllByRecursion (λ e. held_in es e.number ≡ Some e) fs
    → AllByRecursion (λ e. held_in (x ∷ es) e.number ≡ Some e) fs
all_own x es [] h a = tt
all_own x es (f ∷ fs) h a = (still_own x es f h a.0, all_own x es fs h a.1)

own_numbers : (es : List Entry) → Distinct es → AllByRecursion (λ e. held_in es e.number ≡ Some e) es
own_numbers [] d = tt
own_numbers (x ∷ es) d =
    (cond_t (Some x) (held_in es x.number) (eq-eqb x.number x.number refl), all_own x es es d.0 (own_numbers es d.1))

-- the invariant of a plain book: distinct numbers, at most 16 entries
abbrev Sound : PlainBook → Type 0
Sound b = Distinct b.entries × (length b.entries ≤ 16)

distinct_push : (es : List Entry) (e : Entry) → Distinct es → held_in es e.number ≡ None → Distinct (es ++ e ∷ [])
distinct_push [] e d h = (refl, tt)
distinct_push (x ∷ es) e d h =
    let p = miss (eqb x.number e.number) x (held_in es e.number) h in
    let ne : ¬ (e.number ≡ x.number) = λ q. both_ways _ p.0 (eq-eqb x.number e.number (sym q)) in
    (push_other es e x.number (ne_eqb e.number x.number ne) ∙ d.0, distinct_push es e d.1 p.1)

distinct_narrowed : (es : List Entry) (n r : ℕ) → Distinct es → Distinct (narrowed_in es n r)
distinct_narrowed [] n r d = tt
distinct_narrowed (x ∷ es) n r d = go (eqb x.number n) (distinct_narrowed es n r d.1)
  where
    go : (b : Bool) → Distinct (narrowed_in es n r) → Distinct (cond b (with_reach x r ∷ es) (x ∷ narrowed_in es n r))
    go true ih = d
    go false ih = (narrowed_none es n r x.number d.0, ih)

distinct_retired : (es : List Entry) (n : ℕ) → Distinct es → Distinct (retired_in es n)
distinct_retired [] n d = tt
distinct_retired (x ∷ es) n d = go (eqb x.number n) (distinct_retired es n d.1)
  where
    go : (b : Bool) → Distinct (retired_in es n) → Distinct (cond b es (x ∷ retired_in es n))
    go true ih = d.1
    go false ih = (retired-none es n x.number d.0, ih)

length-narrowed : (es : List Entry) (n r : ℕ) → length (narrowed_in es n r) ≡ length es
length-narrowed [] n r = refl
length-narrowed (x ∷ es) n r = go (eqb x.number n) (length-narrowed es n r)
  where
    go : (b : Bool) → length (narrowed_in es n r) ≡ length es → length (cond b (with_reach x r ∷ es) (x ∷ narrowed_in es n r)) ≡ suc (length es)
    go true ih = refl
    go false ih = ap suc ih

length-retired : (es : List Entry) (n : ℕ) (e : Entry) → held_in es n ≡ Some e → suc (length (retired_in es n)) ≡ length es
length-retired [] n e h = no_way (cc)
length-retired (x ∷ es) n e h = go (eqb x.number n) (length-retired es n e) h
  where
    go : (b : Bool) → (held_in es n ≡ Some e → suc (length (retired_in es n)) ≡ length es) → cond b (Some x) (held_in es n) ≡ Some e
        → suc (length (cond b es (x ∷ retired_in es n))) ≡ suc (length es)
    go true ih q = refl
    go false ih q = ap suc (ih q)

-- an entering that is not refused found the number free, and a place
free : (o : Option Entry) → not (is_some o) ≡ true → o ≡ None
free (Some e) q = no_way (cc)
free None q = refl

pub entering_ok : (a : Asked) (b : PlainBook) (n : ℕ) (d : Description) (r : ℕ) → entering a b n d r ≡ Ok tt
    → (held b n ≡ None) × (length b.entries < 16)
entering_ok a b n d r p =
    let h = then_ok (a.admission d r) _ tt p in
    let k = need_ok (not (is_some (held b n))) (refusal 21 Book 1) (need (ltb (length b.entries) 16) (refusal 22 Book 1)) tt h.2 in
    (free (held b n) k.0, ltb-true (length b.entries) 16 (room (ltb (length b.entries) 16) k.1))
  where
    room : (t : Bool) → need t (refusal 22 Book 1) ≡ Ok tt → t ≡ true
    room true e = refl
    room false e = no_way (cc)

on_ok : (P : PlainBook → Type 0) (x : Result (Unit {0}) Refusal) (b c : PlainBook) → (x ≡ Ok tt → P b) → P c → P (if_ok x b c)
on_ok P (Ok u) b c p q = p refl
on_ok P (Err z) b c p q = q

stepped : (a : Asked) (b : PlainBook) (c : Call) → Sound b → Sound (step a b c)
stepped a b (change (enter n d r)) s =
    on_ok Sound (entering a b n d r) (entered b (entry_of n d r)) b
    (λ p.
    let k = entering_ok a b n d r p in (
      distinct_push b.entries (entry_of n d r) s.0 k.0,
      subst (λ (x : ℕ). x ≤ 16) (sym (length-append b.entries (entry_of n d r ∷ []))) (omega (arith, k.1)),
    ))
    s
stepped a b (change (narrow n r)) s =
    on_ok Sound (narrowing a b n r) (narrowed b n r) b
    (λ _. (distinct_narrowed b.entries n r s.0, subst (λ (x : ℕ). x ≤ 16) (sym (length-narrowed b.entries n r)) s.1)) s
stepped a b (change (retire n)) s =
    on_ok Sound (retiring b n) (retired b n) b
    (λ p.
    let h = then_ok (entry_at b n) _ tt p in
    let fewer = length-retired b.entries n h.0 (entry_ok b n h.0 h.1) in
    (distinct_retired b.entries n s.0, omega (arith, fewer, s.1))) s
stepped a b (ask q) s = s

ran_sound : (a : Asked) (b : PlainBook) (cs : List Call) → Sound b → Sound (run a b cs)
ran_sound a b [] s = s
ran_sound a b (c ∷ cs) s = ran_sound a (step a b c) cs (stepped a b c s)

pub ran : (a : Asked) (b : PlainBook) (cs : List Call) (c : Call) → run a b (cs ++ c ∷ []) ≡ step a (run a b cs) c
ran a b [] c = refl
ran a b (x ∷ cs) c = ran a (step a b x) cs c

other_number : (n k : ℕ) → ¬ (◌≡◌ {A = Option ℕ} (Some n) (Some k)) → ¬ (n ≡ k)
other_number n k ne e = ne (ap Some e)

others_step : (a : Asked) (b : PlainBook) (c : Call) (k : ℕ) → ¬ (about c ≡ Some k) → held (step a b c) k ≡ held b k
others_step a b (change (enter n d r)) k ne =
    on_ok (λ x. held x k ≡ held b k) (entering a b n d r) (entered b (entry_of n d r)) b
    (λ _. push_other b.entries (entry_of n d r) k (ne_eqb n k (other_number n k ne))) refl
others_step a b (change (narrow n r)) k ne =
    on_ok (λ x. held x k ≡ held b k) (narrowing a b n r) (narrowed b n r) b
    (λ _. narrowed_other b.entries n r k (other_number n k ne)) refl
others_step a b (change (retire n)) k ne =
    on_ok (λ x. held x k ≡ held b k) (retiring b n) (retired b n) b (λ _. retired_other b.entries n k (other_number n k ne)) refl
others_step a b (ask q) k ne = refl

-- after a retiring, refused or not, the number is not held
retired-step : (b : PlainBook) (n : ℕ) → Sound b → held (if_ok (retiring b n) (retired b n) b) n ≡ None
retired-step b n s = go (entry_at b n) refl
  where
    go : (x : Result Entry Refusal) → entry_at b n ≡ x → held (if_ok (then {B = Unit {0}} x (λ _. Ok tt)) (retired b n) b) n ≡ None
    go (Ok e) h = retired_own b.entries n s.0
    go (Err z) h = entry_err b n z h

-- ---- how many entries there are

narrowed-step : (a : Asked) (b : PlainBook) (n r : ℕ) → length (step a b (change (narrow n r))).entries ≡ length b.entries
narrowed-step a b n r =
    on_ok (λ x. length x.entries ≡ length b.entries) (narrowing a b n r) (narrowed b n r) b (λ _. length-narrowed b.entries n r) refl

-- a retiring of a held number is not refused
retiring-held : (b : PlainBook) (n : ℕ) (e : Entry) → held b n ≡ Some e → retiring b n ≡ Ok tt
retiring-held b n e h = then_is {B = Unit {0}} (entry_at b n) e (λ _. Ok tt) (entry_is b n e h)

pub book_laws : BookLaws
book_laws m cs = record {
  none_yet = λ n. refl;
  most = sound.1;
  own = own_numbers b.entries sound.0;
  numbered = held_number b.entries;
  admitted = λ n e h. all_held (Admitted m) b n e (book_admitted m cs) h;
  entered = λ n d r p.
      ap (λ x. held x n) (ran a empty_book cs (change (enter n d r)) ∙ ap (λ x. if_ok x (entered b (entry_of n d r)) b) p)
      ∙ push_own b.entries (entry_of n d r) (entering_ok a b n d r p).0;
  narrowed = λ n r e h p.
      ap (λ x. held x n) (ran a empty_book cs (change (narrow n r)) ∙ ap (λ x. if_ok x (narrowed b n r) b) p)
      ∙ narrowed_own b.entries n r e h;
  retired = λ n. ap (λ x. held x n) (ran a empty_book cs (change (retire n))) ∙ retired-step b n sound;
  one_more = λ n d r p.
      ap (λ x. length x.entries) (ran a empty_book cs (change (enter n d r)) ∙ ap (λ x. if_ok x (entered b (entry_of n d r)) b) p)
      ∙ length-append b.entries (entry_of n d r ∷ []) ∙ add-one (length b.entries);
  as_many = λ n r. ap (λ x. length x.entries) (ran a empty_book cs (change (narrow n r))) ∙ narrowed-step a b n r;
  one_less = λ n e h.
      ap (λ x. suc (length x.entries))
      (ran a empty_book cs (change (retire n)) ∙ ap (λ x. if_ok x (retired b n) b) (retiring-held b n e h))
      ∙ length-retired b.entries n e h;
  others = λ c k ne. ap (λ x. held x k) (ran a empty_book cs c) ∙ others_step a b c k ne;
  refused = λ c z p. ran a empty_book cs (change c) ∙ ap (λ x. if_ok x (changed b c) b) p;
  asking = λ q. ran a empty_book cs (ask q);
}
  where
    a : Asked
    a = asked m

    b : PlainBook
    b = book_after (asked m) cs

    sound : Sound (book_after (asked m) cs)
    sound = ran_sound (asked m) empty_book cs (tt, omega arith)
