-- What follows from the place of a number's entry.
-- Assumes nothing.
use Rattle.std.proofs.Common.{◌≡◌, ℕ, suc, ◌<◌, Bool, true, false, cond, eqb, ◌⊎◌, List, [], ◌∷◌, ◌++◌, length, get_or, take, drop, set, is_some, Some, None, Ok, Err, Option, sym, refl, ap, ◌∙◌, subst, inl, inr, ⊎_elim, arith}
use Rattle.std.specs.List.{position}
use Rattle.std.specs.Option.{ok_or, option_map}
use Rattle.answer.specs.declared.fault.Fault.{Fault}
use Rattle.answer.specs.declared.fault.Fault.TheVariants.{NotHeld}
use Rattle.station.specs.declared.entry.Entry.{Entry}
use Rattle.station.specs.Book.{held_in, narrowed_in, retired_in, with_reach}
use Rattle.station.specs.Items.{placed}
use Rattle.station.proofs.First.{first-here, first-later}

-- what an array's reads fall back to
abbrev pub blank : Entry
blank = record { number = 0; description = record { kind = 0; degree = 0; low = 0; degree2 = 0; low2 = 0; tuple = 0 }; reach = 0 }

pub record At (es : List Entry) (n i : ℕ) : Type 0 where
  pub within : i < length es
  pub is_held : held_in es n ≡ Some (get_or es i blank)
  pub is_retired : retired_in es n ≡ take i es ++ drop (suc i) es
  pub is_narrowed : (r : ℕ) → narrowed_in es n r ≡ set es i (with_reach (get_or es i blank) r)

pub record Off (es : List Entry) (n : ℕ) : Type 0 where
  pub is_held : held_in es n ≡ None
  pub is_narrowed : (r : ℕ) → narrowed_in es n r ≡ es

no_way : {A : Type 0} → ◌≡◌ {A = ℕ} 0 1 → A
no_way e = absurd (omega (arith, e))

found : (b : Bool) (o : Option ℕ) (i : ℕ) → cond b (Some 0) (option_map suc o) ≡ Some i → ((b ≡ true) × (0 ≡ i)) ⊎ ((b ≡ false) × (j : ℕ) × (o ≡ Some j) × (suc j ≡ i))
found true o i p = inl (refl, cc)
found false None i p = no_way (cc)
found false (Some j) i p = inr (refl, j, refl, cc)

missed : (b : Bool) (o : Option ℕ) → cond b (Some 0) (option_map suc o) ≡ None → (b ≡ false) × (o ≡ None)
missed true o p = no_way (cc)
missed false None p = (refl, refl)
missed false (Some j) p = no_way (cc)

at_here : (e : Entry) (es : List Entry) (n : ℕ) → eqb e.number n ≡ true → At (e ∷ es) n 0
at_here e es n t = record { within = omega arith; is_held = rw t refl; is_retired = rw t refl; is_narrowed = λ r. rw t refl }

at_next : (e : Entry) (es : List Entry) (n j : ℕ) → eqb e.number n ≡ false → At es n j → At (e ∷ es) n (suc j)
at_next e es n j f a =
    record {
      within = omega (arith, a.within);
      is_held = rw f a.is_held;
      is_retired = rw f (ap (λ x. e ∷ x) a.is_retired);
      is_narrowed = λ r. rw f (ap (λ x. e ∷ x) (a.is_narrowed r));
    }

pub at : (es : List Entry) (n i : ℕ) → placed es n ≡ Some i → At es n i
at [] n i p = no_way (cc)
at (e ∷ es) n i p =
    ⊎_elim
    (λ h. subst (At (e ∷ es) n) h.1 (at_here e es n h.0))
    (λ h. subst (At (e ∷ es) n) h.3 (at_next e es n h.1 h.0 (at es n h.1 h.2)))
    (found (eqb e.number n) (placed es n) i p)

off_next : (e : Entry) (es : List Entry) (n : ℕ) → eqb e.number n ≡ false → Off es n → Off (e ∷ es) n
off_next e es n f a = record { is_held = rw f a.is_held; is_narrowed = λ r. rw f (ap (λ x. e ∷ x) (a.is_narrowed r)) }

pub off : (es : List Entry) (n : ℕ) → placed es n ≡ None → Off es n
off [] n p = record { is_held = refl; is_narrowed = λ r. refl }
off (e ∷ es) n p = let h = missed (eqb e.number n) (placed es n) p in off_next e es n h.0 (off es n h.1)

step : (e : Entry) (es : List Entry) (n : ℕ) (b : Bool) → eqb e.number n ≡ b → position (λ x. eqb x.number n) es ≡ placed es n
    → position (λ x. eqb x.number n) (e ∷ es) ≡ placed (e ∷ es) n
step e es n true t h = first-here (λ x. eqb x.number n) e es t ∙ sym (rw t refl)
step e es n false f h = first-later (λ x. eqb x.number n) e es f ∙ ap (option_map suc) h ∙ sym (rw f refl)

-- the first place that passes the test
pub is_placed : (n : ℕ) (es : List Entry) → position (λ x. eqb x.number n) es ≡ placed es n
is_placed n [] = refl
is_placed n (e ∷ es) = step e es n (eqb e.number n) refl (is_placed n es)

by_place : (es : List Entry) (n : ℕ) (o : Option ℕ) → placed es n ≡ o → is_some (held_in es n) ≡ is_some o
by_place es n None p = ap is_some (off es n p).is_held
by_place es n (Some i) p = ap is_some (at es n i p).is_held

pub same_test : (es : List Entry) (n : ℕ) → is_some (held_in es n) ≡ is_some (placed es n)
same_test es n = by_place es n (placed es n) refl

-- whether the number is held, by a test of the place that was found
pub held_when : (es : List Entry) (n : ℕ) (o : Option ℕ) (b : Bool) → o ≡ placed es n → b ≡ is_some o → is_some (held_in es n) ≡ b
held_when es n o b p q = same_test es n ∙ sym (ap is_some p) ∙ sym q

-- the place that `ok_or` and `?` go on with, or do not
pub went_on : (o : Option ℕ) (i : ℕ) → ok_or o NotHeld ≡ Ok i → o ≡ Some i
went_on None i p = no_way (cc)
went_on (Some j) i p = cc

pub gave_up : (o : Option ℕ) (f : Fault) → ok_or o NotHeld ≡ Err f → (o ≡ None) × (f ≡ NotHeld)
gave_up None f p = (refl, cc)
gave_up (Some j) f p = no_way (cc)
