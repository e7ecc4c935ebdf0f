-- Every call goes by its rules, and the bank refuses nothing of what the book holds.
-- Assumes nothing.
use Rattle.std.proofs.Common.{◌≡◌, ℕ, zero, suc, ◌+◌, ◌%◌, ◌^◌, ◌<◌, ◌≤◌, true, false, not, ◌&&◌, eqb, ltb, leb, List, [], ◌∷◌, ◌++◌, length, set, is_some, Some, None, Ok, Err, Option, Result, sym, refl, ap, ◌∙◌, subst, arith, ltb-false, ltb-true, lt-ltb, eq-eqb, eqb-true, leb-true}
use borrow.Author.Tests.{both_ways}
use Rattle.std.specs.List.{AllByRecursion}
use Rattle.answer.specs.declared.fault.Layer.TheVariants.{Book, Frame}
use Rattle.answer.specs.Refusal.{Refusal, refusal}
use Rattle.answer.specs.Rules.{then, need}
use Rattle.answer.proofs.Ruled.{then_rules}
use Rattle.words.specs.Flips.{Bytes}
use Rattle.code.specs.declared.description.Description.{Description}
use Rattle.code.specs.Model.{Model, asked, described_rules, Admits, Keeps}
use Rattle.station.specs.declared.entry.Entry.{Entry}
use Rattle.station.specs.Book.{PlainBook, empty_book, held}
use Rattle.station.specs.Frame.{frame, sealed, taken}
use Rattle.station.specs.Calls as calls
use Rattle.station.specs.Calls.{Change, enter, narrow, retire, Call, change, ask, entering, narrowing, retiring, changing, trying, answer, step, book_after, answers_from, Typed}
use Rattle.runs.specs.Ruling.{Demand, demand, exactly, FirstBroken, GoesBy, works, refuses, of_tests, IsHeld, OfEntry, sheet_of, Done, enter_rules, narrow_rules, retire_rules, change_rules, seal_rules, Written, take_rules, Handed, trial_rules, ByItsRules, AnswersByRules, AllByRules, RunsByRules, Unrefused, HeldUnrefused}
use Rattle.runs.proofs.Inverts.{then_is, both_true, both_are, rules_pass}
use Rattle.runs.proofs.Admitted.{Admitted, AllAdmitted, all_held, admitted_fit, step-admitted, book_admitted}
use Rattle.runs.proofs.Hands.{sheet_answer, check_answers}
use Rattle.runs.proofs.Ruled.{by_need, by_asked, by_held, of_held, first_test, under, taken_by_rules}

ok_err : {A : Type 0} (x : Result A Refusal) (v : A) (z : Refusal) → x ≡ Err z → ¬ (x ≡ Ok v)
ok_err x v z p q = let c : ◌≡◌ {A = ℕ} 0 1 = cc in omega (arith, c)

unit_again : (x : Result (Unit {0}) Refusal) → then x (λ _. Ok tt) ≡ x
unit_again (Ok u) = refl
unit_again (Err z) = refl

not-held : (b : PlainBook) (n : ℕ) → not (is_some (held b n)) ≡ true → ¬ IsHeld b n
not-held b n q p = let k : not (is_some (held b n)) ≡ false = ap (λ x. not (is_some x)) p.1 in both_ways _ k q

is_held : (b : PlainBook) (n : ℕ) → not (is_some (held b n)) ≡ false → ¬ ¬ IsHeld b n
is_held b n q k = go (held b n) refl q
  where
    go : (o : Option Entry) → held b n ≡ o → not (is_some o) ≡ false → ⊥
    go (Some e) h p = k (e, h)
    go None h p = both_ways _ p refl

-- a result that is kept only as a yes
forgotten : {A : Type 0} (P : A → Type 0) (rs : List Demand) (x : Result A Refusal) → GoesBy rs P x → GoesBy rs Done (then x (λ _. Ok tt))
forgotten P rs x (works n p) = works n tt
forgotten P rs x (refuses b) = refuses b

pub bytes_set : (f : List ℕ) (at b : ℕ) → Bytes f → b < 2 ^ 8 → Bytes (set f at b)
bytes_set [] at b p q = tt
bytes_set (x ∷ f) zero b p q = (q, p.1)
bytes_set (x ∷ f) (suc at) b p q = (p.0, bytes_set f at b p.1 q)

-- a fit description is refused only for the reach
reach_refused : (m : Model) (d : Description) (p r : ℕ) → Admits m d p → (z : Refusal) → (asked m).admission d r ≡ Err z
    → FirstBroken (of_tests (m.reaches d r)) z
reach_refused m d p r a z q =
    let u : Unit {0} = tt in
    first_test u (m.reaches d r) z
    (sym (then_rules u u (described_rules m d) (m.reaches d r) (sym (rules_pass u (described_rules m d) (admitted_fit m d p a)))) ∙ q)

module _ (m : Model) (keeps : Keeps m) (b : PlainBook) (ad : AllAdmitted m b) where
  enters : (n : ℕ) (d : Description) (r : ℕ) → GoesBy (enter_rules m b n d r) Done (entering (asked m) b n d r)
  enters n d r =
      by_asked Done (demand (Admits m d r) (FirstBroken (of_tests (described_rules m d ++ m.reaches d r)))) _ ((asked m).admission d r) _
      (λ q. q) (λ z q. (ok_err ((asked m).admission d r) tt z q, first_test tt (described_rules m d ++ m.reaches d r) z q))
      (λ _. by_need Done (demand (¬ IsHeld b n) (exactly 21 Book 1)) _ (not (is_some (held b n))) (refusal 21 Book 1) _
      (not-held b n) (is_held b n) refl
      (λ _. subst (GoesBy (demand (length b.entries < 16) (exactly 22 Book 1) ∷ []) Done)
      (unit_again (need (ltb (length b.entries) 16) (refusal 22 Book 1)))
      (by_need Done (demand (length b.entries < 16) (exactly 22 Book 1)) [] (ltb (length b.entries) 16) (refusal 22 Book 1) (Ok tt)
      (ltb-true (length b.entries) 16) (λ q k. let l = ltb-false (length b.entries) 16 q in omega arith) refl
      (λ _. works tt tt))))

  narrows : (n r : ℕ) → GoesBy (narrow_rules m b n r) Done (narrowing (asked m) b n r)
  narrows n r = by_held Done _ b n _ (λ e h.
      by_need Done (demand (OfEntry b n (λ x. r < x.reach)) (exactly 24 Book 12)) _ (ltb r e.reach) (refusal 24 Book 12) _
      (λ q. of_held b n (λ x. r < x.reach) e h (ltb-true r e.reach q))
      (λ q k. let u = k e h in let l = ltb-false r e.reach q in omega arith) refl
      (λ _. subst (GoesBy (reach_rule ∷ []) Done) (unit_again ((asked m).admission e.description r))
      (by_asked Done reach_rule [] ((asked m).admission e.description r) (Ok tt)
      (λ q. of_held b n (λ x. Admits m x.description r) e h q)
      (λ z q. (
        (λ k. ok_err ((asked m).admission e.description r) tt z q (k e h)),
        of_held b n (λ x. FirstBroken (of_tests (m.reaches x.description r)) z) e h
            (reach_refused m e.description e.reach r (all_held (Admitted m) b n e ad h) z q),
      ))
      (λ _. works tt tt))))
    where
      reach_rule : Demand
      reach_rule =
          demand (OfEntry b n (λ x. Admits m x.description r)) (λ z. OfEntry b n (λ x. FirstBroken (of_tests (m.reaches x.description r)) z))

  retires : (n : ℕ) → GoesBy (retire_rules b n) Done (retiring b n)
  retires n = by_held Done [] b n (λ _. Ok tt) (λ e h. works tt tt)

  changes : (c : Change) → GoesBy (change_rules m b c) Done (changing (asked m) b c)
  changes (enter n d r) = enters n d r
  changes (narrow n r) = narrows n r
  changes (retire n) = retires n

  seals : (n : ℕ) (s : List ℕ) (room : ℕ) → GoesBy (seal_rules m b n s room) (Written m b n s) (sealed (asked m) b n s room)
  seals n s room = by_held P _ b n _ (λ e h.
      let d = e.description in
      let sh = m.sheet d in
      let a = all_held (Admitted m) b n e ad h in
      let law = keeps.lawful d e.reach a in
      subst (GoesBy (whole-rule ∷ reach_rule ∷ room_rule ∷ []) P) (sym (then_is ((asked m).sheet d) sh _ (sheet_answer m keeps d e.reach a)))
      (by_need P whole-rule (reach_rule ∷ room_rule ∷ []) (ltb 0 (length s) && eqb (length s % sh.tuple) 0) (refusal 31 Frame (length s)) _
      (λ q.
      let k = both_true (ltb 0 (length s)) (eqb (length s % sh.tuple) 0) q in
      of_held b n (λ x. (1 ≤ length s) × (length s % (sheet_of m x).tuple ≡ 0)) e h
      (ltb-true 0 (length s) k.0, eqb-true (length s % sh.tuple) 0 k.1))
      (λ q k. let u = k e h in both_ways _ q (both_are _ _ (lt-ltb 0 (length s) u.0) (eq-eqb (length s % sh.tuple) 0 u.1)))
      refl
      (λ k31. by_need P reach_rule (room_rule ∷ []) (leb (length s + sh.check) e.reach) (refusal 32 Frame 12) _
      (λ q. of_held b n (λ x. length s + (sheet_of m x).check ≤ x.reach) e h (leb-true (length s + sh.check) e.reach q))
      (λ q k. under q (k e h))
      refl
      (λ k32. by_need P room_rule [] (leb (16 + (length s + sh.check)) room) (refusal 33 Frame room) _
      (λ q. of_held b n (λ x. 16 + (length s + (sheet_of m x).check) ≤ room) e h (leb-true (16 + (length s + sh.check)) room q))
      (λ q k. under q (k e h))
      refl
      (λ _.
      let c = m.check d s in
      let most : length s ≤ 4096 = omega (arith, k32 e h, law.most) in
      subst (GoesBy [] P) (sym (then_is ((asked m).check d s 64) c _ (check_answers m keeps d e.reach a s (k31 e h).0 (k31 e h).1 most)))
      (works tt (of_held b n (λ x. frame n d s c ≡ frame n x.description s (m.check x.description s)) e h refl)))))))
    where
      P : List ℕ → Type 0
      P = Written m b n s

      whole-rule : Demand
      whole-rule = demand (OfEntry b n (λ x. (1 ≤ length s) × (length s % (sheet_of m x).tuple ≡ 0))) (exactly 31 Frame (length s))

      reach_rule : Demand
      reach_rule = demand (OfEntry b n (λ x. length s + (sheet_of m x).check ≤ x.reach)) (exactly 32 Frame 12)

      room_rule : Demand
      room_rule = demand (OfEntry b n (λ x. 16 + (length s + (sheet_of m x).check) ≤ room)) (exactly 33 Frame room)

  tries : (f : List ℕ) (at byte : ℕ) → Bytes f → byte < 2 ^ 8 → GoesBy (trial_rules m b f at byte) Done (trying (asked m) b f at byte)
  tries f at byte bf lb =
      by_need Done (demand (at < length f) (exactly 48 Frame (length f))) (take_rules m b (set f at byte)) (ltb at (length f))
      (refusal 48 Frame (length f)) _
      (ltb-true at (length f)) (λ q k. let l = ltb-false at (length f) q in omega arith) refl
      (λ _.
      forgotten (Handed m b (set f at byte)) (take_rules m b (set f at byte)) (taken (asked m) b (set f at byte))
      (taken_by_rules m keeps b ad (set f at byte) (bytes_set f at byte bf lb)))

  pub by_its_rules : (c : Call) → Typed c → ByItsRules m b c (answer (asked m) b c)
  by_its_rules (change c) t = (changing (asked m) b c, refl, changes c)
  by_its_rules (ask (calls.seal n s out)) t = (sealed (asked m) b n s (length out), refl, seals n s (length out))
  by_its_rules (ask (calls.take f)) t = (taken (asked m) b f, refl, taken_by_rules m keeps b ad f t)
  by_its_rules (ask (calls.trial f at byte)) t = (trying (asked m) b f at byte, refl, tries f at byte t.0 t.1)

pub answers_by_rules : AnswersByRules
answers_by_rules m keeps cs c t = by_its_rules m keeps (book_after (asked m) cs) (book_admitted m cs) c t

all_by_rules : (m : Model) → Keeps m → (b : PlainBook) → AllAdmitted m b → (cs : List Call) → AllByRecursion Typed cs
    → AllByRules m b cs (answers_from (asked m) b cs)
all_by_rules m keeps b ad [] t = tt
all_by_rules m keeps b ad (c ∷ cs) t =
    (by_its_rules m keeps b ad c t.0, all_by_rules m keeps (step (asked m) b c) (step-admitted m b c ad) cs t.1)

pub runs_by_rules : RunsByRules
runs_by_rules m keeps cs t = all_by_rules m keeps empty_book tt cs t

-- ---- nothing else

pub unrefused : (m : Model) → Keeps m → (e : Entry) → Admitted m e → Unrefused m e
unrefused m keeps e a = record {
  lawful = keeps.lawful e.description e.reach a;
  sheet = sheet_answer m keeps e.description e.reach a;
  check = check_answers m keeps e.description e.reach a;
}

all_unrefused : (m : Model) → Keeps m → (es : List Entry) → AllByRecursion (Admitted m) es → AllByRecursion (Unrefused m) es
all_unrefused m keeps [] a = tt
all_unrefused m keeps (e ∷ es) a = (unrefused m keeps e a.0, all_unrefused m keeps es a.1)

pub held_unrefused : HeldUnrefused
held_unrefused m keeps cs = all_unrefused m keeps (book_after (asked m) cs).entries (book_admitted m cs)
