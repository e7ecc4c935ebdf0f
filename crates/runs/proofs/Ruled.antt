-- Take goes by its rules: its result is the answer of the first that is broken.
-- Assumes nothing.
use Rattle.std.proofs.Common.{◌≡◌, ℕ, ◌+◌, ◌-◌, ◌%◌, ◌<◌, ◌≤◌, Bool, true, false, cond, ◌&&◌, eqb, ltb, leb, List, [], ◌∷◌, length, get_or, take, drop, Some, None, Ok, Err, Option, Result, sym, refl, ap, ◌∙◌, subst, inl, inr, arith, length-drop, length-take, ltb-true, lt-ltb, eq-eqb, eqb-true, leb-false, leb-true}
use native.Mathlib.Nat.{dvd-sub, dvd_of_mod-eq-zero, mod-eq-zero_of_dvd}
use borrow.Author.Tests.{eqb-false, both_ways}
use Rattle.answer.specs.declared.fault.Layer.TheVariants.{Book, Frame}
use Rattle.answer.specs.Refusal.{Refusal, refusal}
use Rattle.answer.specs.Rules.{Rule, by_rules, then, need}
use Rattle.words.specs.Flips.{Bytes}
use Rattle.code.specs.declared.description.Sheet.{Sheet}
use Rattle.code.specs.Model.{Model, asked, Keeps, LawfulMessage}
use Rattle.station.specs.declared.entry.Entry.{Entry}
use Rattle.station.specs.Book.{PlainBook, held}
use Rattle.station.specs.Frame.{coded, ccitt, pair_at, entry_at, differ, alike, opened, taken}
use Rattle.runs.specs.Ruling.{Demand, demand, exactly, at_first, FirstBroken, GoesBy, works, refuses, of_tests, IsHeld, OfEntry, sheet_of, word_rules, message_of, check_of, take_rules, Handed}
use Rattle.runs.proofs.Inverts.{no_way, some_is, then_is, differ_same, differ-none, differ_first, both_true, both_are}
use Rattle.runs.proofs.Admitted.{Admitted, AllAdmitted, all_held}
use Rattle.runs.proofs.Opens.{bytes_take, bytes_drop}
use Rattle.runs.proofs.Hands.{sheet_answer, check_answers}

-- ---- one rule at a time

module _ {A : Type 0} (P : A → Type 0) where
  pub more : (r : Demand) (rs : List Demand) (x : Result A Refusal) → r.asks → GoesBy rs P x → GoesBy (r ∷ rs) P x
  more r rs x h (works n p) = works (h, n) p
  more r rs x h (refuses b) = refuses (inr (h, b))

  pub by_need : (r : Demand) (rs : List Demand) (b : Bool) (z : Refusal) (x : Result A Refusal)
      → (b ≡ true → r.asks) → (b ≡ false → ¬ r.asks) → r.answers z → (r.asks → GoesBy rs P x)
      → GoesBy (r ∷ rs) P (then (need b z) (λ _. x))
  by_need r rs true z x t f k n = more r rs x (t refl) (n (t refl))
  by_need r rs false z x t f k n = refuses (inl (f refl, k))

  pub by_alike : (r : Demand) (rs : List Demand) (number start : ℕ) (o : Option ℕ) (x : Result A Refusal)
      → (o ≡ None → r.asks) → ((i : ℕ) → o ≡ Some i → (¬ r.asks) × r.answers (refusal number Frame (start + i))) → (r.asks → GoesBy rs P x)
      → GoesBy (r ∷ rs) P (then (alike number start o) (λ _. x))
  by_alike r rs number start None x t f n = more r rs x (t refl) (n (t refl))
  by_alike r rs number start (Some i) x t f n = refuses (inl (f i refl))

  -- an answer that is asked of another is a rule by itself
  pub by_asked : (r : Demand) (rs : List Demand) (x : Result (Unit {0}) Refusal) (y : Result A Refusal)
      → (x ≡ Ok tt → r.asks) → ((z : Refusal) → x ≡ Err z → (¬ r.asks) × r.answers z) → (r.asks → GoesBy rs P y)
      → GoesBy (r ∷ rs) P (then x (λ _. y))
  by_asked r rs (Ok u) y t f n = more r rs y (t refl) (n (t refl))
  by_asked r rs (Err z) y t f n = refuses (inl (f z refl))

-- the first broken test of a list
pub first_test : {A : Type 0} (v : A) (rs : List Rule) (z : Refusal) → by_rules rs v ≡ Err z → FirstBroken (of_tests rs) z
first_test v [] z e = no_way (cc)
first_test v (r ∷ rs) z e = go r.asks refl (first_test v rs z) e
  where
    go : (t : Bool) → r.asks ≡ t → (by_rules rs v ≡ Err z → FirstBroken (of_tests rs) z) → cond t (by_rules rs v) (Err r.otherwise) ≡ Err z
        → FirstBroken (of_tests (r ∷ rs)) z
    go true t ih q = inr (t, ih q)
    go false t ih q = inl ((λ k. both_ways r.asks t k), cc)

-- ---- the entry of a number

pub of_held : (b : PlainBook) (n : ℕ) (P : Entry → Type 0) (e : Entry) → held b n ≡ Some e → P e → OfEntry b n P
of_held b n P e h p x k = subst P (some_is e x (sym h ∙ k)) p

pub by_held : {A : Type 0} (P : A → Type 0) (rs : List Demand) (b : PlainBook) (n : ℕ) (k : Entry → Result A Refusal)
    → ((e : Entry) → held b n ≡ Some e → GoesBy rs P (k e)) → GoesBy (demand (IsHeld b n) (exactly 23 Book 1) ∷ rs) P (then (entry_at b n) k)
by_held {A} P rs b n k go = here (held b n) refl
  where
    here : (o : Option Entry) → held b n ≡ o
        → GoesBy (demand (IsHeld b n) (exactly 23 Book 1) ∷ rs) P (then {A = Entry} (elim o [ Some e ↦ Ok e | None ↦ Err (refusal 23 Book 1) ]) k)
    here (Some e) h = more P (demand (IsHeld b n) (exactly 23 Book 1)) rs (k e) (e, h) (go e h)
    here None h = refuses (inl ((λ p. let u = p.1 in let c : ◌≡◌ {A = ℕ} 0 1 = cc in omega (arith, c)), refl))

-- a difference says that two strings are not the same
pub differ-apart : (xs ys : List ℕ) (i : ℕ) → differ xs ys ≡ Some i → ¬ (xs ≡ ys)
differ-apart xs ys i q e =
    let o = ap (λ x. differ x ys) e ∙ differ_same ys in
    let c : ◌≡◌ {A = ℕ} 0 1 = cc in
    omega (arith, c)

-- ---- take

pub under : {a b : ℕ} → leb a b ≡ false → ¬ (a ≤ b)
under {a} {b} q h = let k = leb-false a b q in omega arith

pub message_tuples : (t w c : ℕ) → w % t ≡ 0 → c % t ≡ 0 → (w - c) % t ≡ 0
message_tuples t w c p q = mod-eq-zero_of_dvd t {n = w - c} (dvd-sub t (dvd_of_mod-eq-zero t {n = w} p) (dvd_of_mod-eq-zero t {n = c} q))

-- the rules that go by the entry, one by one
abbrev described-rule : PlainBook → ℕ → List ℕ → Demand
described-rule b n ten =
    demand (OfEntry b n (λ x. ten ≡ coded x.description)) (λ z. OfEntry b n (λ x. at_first 45 2 ten (coded x.description) z))

abbrev word-rule : Model → PlainBook → ℕ → List ℕ → Demand
word-rule m b n w = demand (OfEntry b n (λ x. ((sheet_of m x).check < length w) × (length w % (sheet_of m x).tuple ≡ 0))) (exactly 46 Frame 12)

abbrev reach_rule : PlainBook → ℕ → List ℕ → Demand
reach_rule b n w = demand (OfEntry b n (λ x. length w ≤ x.reach)) (exactly 32 Frame 12)

abbrev check_rule : Model → PlainBook → ℕ → List ℕ → Demand
check_rule m b n w =
    demand (OfEntry b n (λ x. check_of (sheet_of m x) w ≡ m.check x.description (message_of (sheet_of m x) w)))
    (λ z. OfEntry b n (λ x.
    at_first 47 (16 + (length w - (sheet_of m x).check)) (check_of (sheet_of m x) w) (m.check x.description (message_of (sheet_of m x) w)) z))

abbrev inner_work : Model → PlainBook → ℕ → List ℕ → List ℕ → Type 0
inner_work m b n w s = OfEntry b n (λ x. s ≡ message_of (sheet_of m x) w)

opened_by_rules : (m : Model) → Keeps m → (b : PlainBook) (n : ℕ) (e : Entry) → held b n ≡ Some e → Admitted m e → (ten w : List ℕ) → length ten ≡ 10
    → Bytes w → GoesBy (word_rules m b n ten w) (inner_work m b n w) (opened (asked m) e ten w)
opened_by_rules m keeps b n e h ad ten w lt bw =
    by_alike P (described-rule b n ten) (word-rule m b n w ∷ reach_rule b n w ∷ check_rule m b n w ∷ []) 45 2 (differ ten (coded e.description)) _
    (λ q. of_held b n (λ x. ten ≡ coded x.description) e h (differ-none ten (coded e.description) q))
    (λ i q. (
      (λ k. differ-apart ten (coded e.description) i q (k e h)),
      of_held b n (λ x. at_first 45 2 ten (coded x.description) (refusal 45 Frame (2 + i))) e h
          (i, differ_first ten (coded e.description) lt i q, refl),
    ))
    (λ _.
    subst (GoesBy (word-rule m b n w ∷ reach_rule b n w ∷ check_rule m b n w ∷ []) P)
    (sym (then_is ((asked m).sheet e.description) sh _ (sheet_answer m keeps e.description e.reach ad)))
    (by_need P (word-rule m b n w) (reach_rule b n w ∷ check_rule m b n w ∷ [])
    (ltb sh.check (length w) && eqb (length w % sh.tuple) 0) (refusal 46 Frame 12) _
    (λ q.
    let k = both_true (ltb sh.check (length w)) (eqb (length w % sh.tuple) 0) q in
    of_held b n (λ x. ((sheet_of m x).check < length w) × (length w % (sheet_of m x).tuple ≡ 0)) e h
    (ltb-true sh.check (length w) k.0, eqb-true (length w % sh.tuple) 0 k.1))
    (λ q k. let u = k e h in both_ways _ q (both_are _ _ (lt-ltb sh.check (length w) u.0) (eq-eqb (length w % sh.tuple) 0 u.1)))
    refl
    (λ k46. by_need P (reach_rule b n w) (check_rule m b n w ∷ []) (leb (length w) e.reach) (refusal 32 Frame 12) _
    (λ q. of_held b n (λ x. length w ≤ x.reach) e h (leb-true (length w) e.reach q))
    (λ q k. under q (k e h))
    refl
    (λ k32. last (k46 e h) (k32 e h)))))
  where
    P : List ℕ → Type 0
    P = inner_work m b n w

    sh : Sheet
    sh = m.sheet e.description

    last : (sh.check < length w) × (length w % sh.tuple ≡ 0) → length w ≤ e.reach
        → GoesBy (check_rule m b n w ∷ []) P
        (then ((asked m).check e.description (take (length w - sh.check) w) 64) (λ c.
        then (alike 47 (16 + (length w - sh.check)) (differ (drop (length w - sh.check) w) c)) (λ _.
        Ok (take (length w - sh.check) w))))
    last (longer, tuples) short =
        let d = e.description in
        let t = take (length w - sh.check) w in
        let law = keeps.lawful d e.reach ad in
        let size : length t ≡ length w - sh.check = length-take (length w - sh.check) w ∙ omega arith in
        let some : 1 ≤ length t = omega arith in
        let most : length t ≤ 4096 = omega (arith, law.most) in
        let whole-t : length t % sh.tuple ≡ 0 =
        ap (λ (x : ℕ). x % sh.tuple) size ∙ message_tuples sh.tuple (length w) sh.check tuples law.whole_check in
        let lawful : LawfulMessage sh.tuple t =
        record { some = some; tuples = whole-t; most = most; bytes = bytes_take (length w - sh.check) w bw } in
        let c = m.check d t in
        let long : length c ≡ sh.check = (keeps.long d e.reach ad t lawful).0 in
        let back = drop (length w - sh.check) w in
        let lengths : length back ≡ length c = length-drop (length w - sh.check) w ∙ omega arith in
        subst (GoesBy (check_rule m b n w ∷ []) P)
        (sym (then_is ((asked m).check d t 64) c _ (check_answers m keeps d e.reach ad t some whole-t most)))
        (by_alike P (check_rule m b n w) [] 47 (16 + (length w - sh.check)) (differ back c) (Ok t)
        (λ q. of_held b n (λ x. check_of (sheet_of m x) w ≡ m.check x.description (message_of (sheet_of m x) w)) e h (differ-none back c q))
        (λ i q. (
          (λ k. differ-apart back c i q (k e h)),
          of_held b n (λ x.
              at_first 47 (16 + (length w - (sheet_of m x).check)) (check_of (sheet_of m x) w) (m.check x.description (message_of (sheet_of m x) w))
              (refusal 47 Frame (16 + (length w - sh.check) + i))) e h
              (i, differ_first back c lengths i q, refl),
        ))
        (λ _. works tt (of_held b n (λ x. t ≡ message_of (sheet_of m x) w) e h refl)))

pub taken_by_rules : (m : Model) → Keeps m → (b : PlainBook) → AllAdmitted m b → (f : List ℕ) → Bytes f
    → GoesBy (take_rules m b f) (Handed m b f) (taken (asked m) b f)
taken_by_rules m keeps b ad f bf =
    by_need P (demand (17 ≤ length f) (exactly 41 Frame (length f))) _ (leb 17 (length f)) (refusal 41 Frame (length f)) _
    (leb-true 17 (length f)) (λ q. under q) refl (λ size.
    by_need P (demand (get_or f 0 0 ≡ 1) (exactly 42 Frame 0)) _ (eqb (get_or f 0 0) 1) (refusal 42 Frame 0) _
    (eqb-true (get_or f 0 0) 1) (eqb-false (get_or f 0 0) 1) refl (λ _.
    by_need P (demand (pair_at f 14 ≡ ccitt (take 14 f)) (exactly 43 Frame 14)) _ (eqb (pair_at f 14) (ccitt (take 14 f))) (refusal 43 Frame 14) _
    (eqb-true (pair_at f 14) (ccitt (take 14 f))) (eqb-false (pair_at f 14) (ccitt (take 14 f))) refl (λ _.
    by_need P (demand (16 + pair_at f 12 ≡ length f) (exactly 44 Frame 12)) _ (eqb (16 + pair_at f 12) (length f)) (refusal 44 Frame 12) _
    (eqb-true (16 + pair_at f 12) (length f)) (eqb-false (16 + pair_at f 12) (length f)) refl (λ _.
    by_held P _ b (get_or f 1 0) (λ e. opened (asked m) e (take 10 (drop 2 f)) (drop 16 f)) (λ e h.
    opened_by_rules m keeps b (get_or f 1 0) e h (all_held (Admitted m) b (get_or f 1 0) e ad h)
    (take 10 (drop 2 f)) (drop 16 f) (ten size) (bytes_drop 16 f bf))))))
  where
    P : List ℕ → Type 0
    P = Handed m b f

    ten : 17 ≤ length f → length (take 10 (drop 2 f)) ≡ 10
    ten l = length-take 10 (drop 2 f) ∙ omega (arith, length-drop 2 f)
