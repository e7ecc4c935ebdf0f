-- What take makes of a frame that is head, message and check.
-- Assumes nothing.
use Rattle.std.proofs.Common.{◌≡◌, ℕ, zero, suc, ◌+◌, ◌-◌, ◌*◌, ◌/◌, ◌%◌, ◌≤◌, true, ◌&&◌, eqb, ltb, leb, List, [], ◌∷◌, ◌++◌, length, take, drop, Some, None, Ok, Err, Option, Result, sym, refl, ap, ◌∙◌, ap₂, le_of_suc-le-suc, not-suc-le-zero, arith, length-append, take_at, drop_at, lt-ltb, eq-eqb, ne_eqb, le-leb, leb-true}
use native.Mathlib.Nat.{add-mod, zero-mod}
use borrow.Author.Tests.{lt-leb}
use Rattle.std.specs.Option.{option_map}
use Rattle.answer.specs.declared.fault.Layer.TheVariants.{Frame}
use Rattle.answer.specs.Refusal.{Refusal, refusal}
use Rattle.answer.specs.Rules.{rule, then, need}
use Rattle.code.specs.declared.description.Description.{Description}
use Rattle.code.specs.Model.{Model, Asked, asked, described_rules, whole, Admits, Keeps, LawfulMessage}
use Rattle.station.specs.declared.entry.Entry.{Entry}
use Rattle.station.specs.Book.{PlainBook, held}
use Rattle.station.specs.Frame.{coded, ccitt, front, frame, entry_at, differ, alike, opened, taken}
use Rattle.runs.specs.Promises.{FirstDiffer, Fate}
use Rattle.runs.proofs.Inverts.{ok_is, then_ok, then_is, need_ok, keeps_on, broken, alike_ok, alike_same, alike-apart, both_are, entry_ok, entry_is, entry-none, differ_same, differ-none, differ_some, differ_first, rules_pass, kept_join}
use Rattle.runs.proofs.Heads.{coded_one}
use Rattle.runs.proofs.Admitted.{Admitted, AllAdmitted, all_held, admitted_fit}

-- the rules of the head
pub headed : (a : Asked) (b : PlainBook) (n : ℕ) (d : Description) (s c : List ℕ) → 1 ≤ length s + length c
    → taken a b (frame n d s c) ≡ then (entry_at b n) (λ e. opened a e (coded d) (s ++ c))
headed a b n d s c some =
    let w = length s + length c in
    let f = frame n d s c in
    let x = ccitt (front n d w) in
    let size : length f ≡ 16 + w = omega (arith, length-append s c) in
    keeps_on (leb 17 (length f)) _ _ (le-leb 17 (length f) (omega arith))
    ∙ keeps_on (eqb (x / 256 * 256 + x % 256 / 1) x) _ _ (eq-eqb _ _ (omega arith))
    ∙ keeps_on (eqb (16 + (w / 256 * 256 + w % 256 / 1)) (length f)) _ _ (eq-eqb _ _ (omega arith))

-- ---- what a kind answers for an admitted description

module _ (m : Model) (keeps : Keeps m) (d : Description) (r : ℕ) (ad : Admits m d r) where
  pub sheet_answer : (asked m).sheet d ≡ Ok (m.sheet d)
  sheet_answer = rules_pass (m.sheet d) (described_rules m d) (admitted_fit m d r ad)

  -- the check call does not go by the bytes' sizes
  pub check_answers : (s : List ℕ) → 1 ≤ length s → length s % (m.sheet d).tuple ≡ 0 → length s ≤ 4096
      → (asked m).check d s 64 ≡ Ok (m.check d s)
  check_answers s some tuples most =
      let t31 : whole (m.sheet d).tuple s ≡ true =
      both_are (ltb 0 (length s) && eqb (length s % (m.sheet d).tuple) 0) (leb (length s) 4096)
      (both_are (ltb 0 (length s)) (eqb (length s % (m.sheet d).tuple) 0) (lt-ltb 0 (length s) some)
      (eq-eqb (length s % (m.sheet d).tuple) 0 tuples))
      (le-leb (length s) 4096 most) in
      let t33 : leb (m.sheet d).check 64 ≡ true = le-leb (m.sheet d).check 64 (keeps.lawful d r ad).short_check in
      rules_pass (m.check d s)
      (described_rules m d
      ++ (rule (whole (m.sheet d).tuple s) (refusal 31 Frame (length s)) ∷ rule (leb (m.sheet d).check 64) (refusal 33 Frame 64) ∷ []))
      (kept_join (described_rules m d) _ (admitted_fit m d r ad) (t31, (t33, tt)))

  pub check_answer : (s : List ℕ) → LawfulMessage (m.sheet d).tuple s → (asked m).check d s 64 ≡ Ok (m.check d s)
  check_answer s law = check_answers s law.some law.tuples law.most

  pub word-tuples : (k : ℕ) → k % (m.sheet d).tuple ≡ 0 → (k + (m.sheet d).check) % (m.sheet d).tuple ≡ 0
  word-tuples k tuples =
      let t = (m.sheet d).tuple in
      add-mod k (m.sheet d).check t ∙ ap₂ (λ (x y : ℕ). (x + y) % t) tuples (keeps.lawful d r ad).whole_check ∙ zero-mod t

-- ---- a word of the entry's own code

-- the last rule: the check u that came with the message t is c, or 47
abbrev pub ending : ℕ → List ℕ → List ℕ → List ℕ → Result (List ℕ) Refusal
ending k u c t = then (alike 47 (16 + k) (differ u c)) (λ _. Ok t)

-- a message in whole tuples with something as long as a check
pub opened-word : (m : Model) → Keeps m → (e : Entry) → Admitted m e → (t u : List ℕ) → 1 ≤ length t → length t % (m.sheet e.description).tuple ≡ 0
    → length t ≤ 4096 → length u ≡ (m.sheet e.description).check
    → opened (asked m) e (coded e.description) (t ++ u)
    ≡ then (need (leb (length t + length u) e.reach) (refusal 32 Frame 12)) (λ _. ending (length t) u (m.check e.description t) t)
opened-word m keeps e ad t u some whole-t most long =
    let d = e.description in
    let sh = m.sheet d in
    let c = m.check d t in
    let w = t ++ u in
    let size : length w ≡ length t + length u = length-append t u in
    let cut : length w - sh.check ≡ length t = omega arith in
    let front-w : take (length w - sh.check) w ≡ t = ap (λ i. take i w) cut ∙ take_at t u (length t) refl in
    let back-w : drop (length w - sh.check) w ≡ u = ap (λ i. drop i w) cut ∙ drop_at t u (length t) refl in
    let longer : ltb sh.check (length w) ≡ true = lt-ltb sh.check (length w) (omega arith) in
    let tuples : length w % sh.tuple ≡ 0 =
    ap (λ (x : ℕ). x % sh.tuple) (size ∙ ap (λ (x : ℕ). length t + x) long) ∙ word-tuples m keeps d e.reach ad (length t) whole-t in
    alike_same 45 2 (differ (coded d) (coded d)) _ (differ_same (coded d))
    ∙ then_is ((asked m).sheet d) sh _ (sheet_answer m keeps d e.reach ad)
    ∙ keeps_on (ltb sh.check (length w) && eqb (length w % sh.tuple) 0) (refusal 46 Frame 12) _
    (both_are _ _ longer (eq-eqb (length w % sh.tuple) 0 tuples))
    ∙ ap₂ (λ (k : ℕ) (x : Result (List ℕ) Refusal). then (need (leb k e.reach) (refusal 32 Frame 12)) (λ _. x)) size
    (then_is ((asked m).check d (take (length w - sh.check) w) 64) c _
    (ap (λ x. (asked m).check d x 64) front-w ∙ check_answers m keeps d e.reach ad t some whole-t most)
    ∙ ap (λ k. ending k (drop (length w - sh.check) w) c (take (length w - sh.check) w)) cut
    ∙ ap₂ (λ (x y : List ℕ). ending (length t) x c y) back-w front-w)

pub opened_own : (m : Model) → Keeps m → (e : Entry) → Admitted m e → (s : List ℕ) → LawfulMessage (m.sheet e.description).tuple s
    → opened (asked m) e (coded e.description) (s ++ m.check e.description s)
    ≡ then (need (leb (length s + length (m.check e.description s)) e.reach) (refusal 32 Frame 12)) (λ _. Ok s)
opened_own m keeps e ad s law =
    let c = m.check e.description s in
    opened-word m keeps e ad s c law.some law.tuples law.most (keeps.long e.description e.reach ad s law).0
    ∙ ap (λ (x : Result (List ℕ) Refusal). then (need (leb (length s + length c) e.reach) (refusal 32 Frame 12)) (λ _. x))
    (alike_same 47 (16 + length s) (differ c c) (Ok s) (differ_same c))

-- ---- the fate of an unaltered frame, computed

-- .. at an entry, and at a book
abbrev pub fate_at : Entry → Description → ℕ → List ℕ → Result (List ℕ) Refusal
fate_at e d w s =
    then (alike 45 2 (differ (coded d) (coded e.description))) (λ _.
    then (need (leb w e.reach) (refusal 32 Frame 12)) (λ _.
    Ok s))

abbrev pub fate : PlainBook → ℕ → Description → ℕ → List ℕ → Result (List ℕ) Refusal
fate b n d w s = then (entry_at b n) (λ e. fate_at e d w s)

-- The check of a frame is the book's own, where its description is.
abbrev pub Agrees : Model → PlainBook → ℕ → Description → List ℕ → List ℕ → Type 0
Agrees m b n d s c =
    (own : Entry) → held b n ≡ Some own → own.description ≡ d
    → (c ≡ m.check own.description s) × LawfulMessage (m.sheet own.description).tuple s

unlike_both : {A : Type 0} (number start : ℕ) (o : Option ℕ) (i : ℕ) (x y : Result A Refusal) → o ≡ Some i
    → then (alike number start o) (λ _. x) ≡ then (alike number start o) (λ _. y)
unlike_both number start o i x y e =
    alike-apart number start o i x e ∙ sym (alike-apart number start o i y e)

pub opened_fate : (m : Model) → Keeps m → (e : Entry) → Admitted m e → (d : Description) (s c : List ℕ)
    → (e.description ≡ d → (c ≡ m.check e.description s) × LawfulMessage (m.sheet e.description).tuple s)
    → opened (asked m) e (coded d) (s ++ c) ≡ fate_at e d (length s + length c) s
opened_fate m keeps e ad d s c agree = go (differ (coded d) (coded e.description)) refl
  where
    go : (o : Option ℕ) → differ (coded d) (coded e.description) ≡ o
        → opened (asked m) e (coded d) (s ++ c) ≡ fate_at e d (length s + length c) s
    go (Some i) q = unlike_both 45 2 (differ (coded d) (coded e.description)) i _ _ q
    go None q =
        let codes : coded d ≡ coded e.description = differ-none (coded d) (coded e.description) q in
        let same : e.description ≡ d = sym (coded_one d e.description codes) in
        let g = agree same in
        ap₂ (λ (x y : List ℕ). opened (asked m) e x (s ++ y)) codes g.0
        ∙ opened_own m keeps e ad s g.1
        ∙ ap (λ (x : List ℕ). then (need (leb (length s + length x) e.reach) (refusal 32 Frame 12)) (λ _. Ok s)) (sym g.0)
        ∙ sym (alike_same 45 2 (differ (coded d) (coded e.description)) _ q)

pub fated : (m : Model) → Keeps m → (b : PlainBook) → AllAdmitted m b → (n : ℕ) (d : Description) (s c : List ℕ)
    → 1 ≤ length s + length c → Agrees m b n d s c
    → taken (asked m) b (frame n d s c) ≡ fate b n d (length s + length c) s
fated m keeps b admitted n d s c some agree = headed (asked m) b n d s c some ∙ go (entry_at b n) refl
  where
    go : (x : Result Entry Refusal) → entry_at b n ≡ x
        → then x (λ e. opened (asked m) e (coded d) (s ++ c)) ≡ then x (λ e. fate_at e d (length s + length c) s)
    go (Err z) h = refl
    go (Ok e) h =
        let k = entry_ok b n e h in
        opened_fate m keeps e (all_held (Admitted m) b n e admitted k) d s c (agree e k)

-- ---- in words

heads : (x y : ℕ) (xs ys : List ℕ) → x ∷ xs ≡ y ∷ ys → (x ≡ y) × (xs ≡ ys)
heads x y xs ys e = (cc, cc)

pub differ_at : (xs ys : List ℕ) (i : ℕ) → FirstDiffer xs ys i → differ xs ys ≡ Some i
differ_at [] ys i k = absurd (not-suc-le-zero k.inside.0)
differ_at (x ∷ xs) [] i k = absurd (not-suc-le-zero k.inside.1)
differ_at (x ∷ xs) (y ∷ ys) zero k = let f = ne_eqb x y k.here in rw f refl
differ_at (x ∷ xs) (y ∷ ys) (suc i) k =
    let h = heads x y (take i xs) (take i ys) k.before in
    let t = eq-eqb x y h.0 in
    rw t (ap (option_map suc) (differ_at xs ys i (record {
      before = h.1;
      inside = (le_of_suc-le-suc k.inside.0, le_of_suc-le-suc k.inside.1);
      here = k.here;
    })))

pub fate_stands : (b : PlainBook) (n : ℕ) (d : Description) (w : ℕ) (s : List ℕ) → Fate b n d w s (fate b n d w s)
fate_stands b n d w s = record {
  exactly = λ t. (
    (λ p.
        let h = then_ok (entry_at b n) _ t p in
        let e = h.0 in
        let k = alike_ok 45 2 (differ (coded d) (coded e.description)) _ t h.2 in
        let q = need_ok (leb w e.reach) (refusal 32 Frame 12) _ t k.1 in (
          record {
            own = e;
            is_held = entry_ok b n e h.1;
            same_code = sym (coded_one d e.description (differ-none (coded d) (coded e.description) k.0));
            enough = leb-true w e.reach q.0;
          },
          sym (ok_is s t q.1),
        )),
    (λ p.
        let k = p.0 in
        let e = k.own in
        then_is (entry_at b n) e _ (entry_is b n e k.is_held)
        ∙ alike_same 45 2 (differ (coded d) (coded e.description)) _ (ap (λ x. differ (coded d) (coded x)) k.same_code ∙ differ_same (coded d))
        ∙ keeps_on (leb w e.reach) (refusal 32 Frame 12) _ (le-leb w e.reach k.enough)
        ∙ ap Ok (sym p.1)),
  );
  unheld = λ p. ap (λ x. then x rest) (entry-none b n p);
  unlike = λ own i h k.
      then_is (entry_at b n) own _ (entry_is b n own h)
      ∙ ap (λ o. then (alike 45 2 o) (λ _. then (need (leb w own.reach) (refusal 32 Frame 12)) (λ _. Ok s)))
      (differ_at (coded d) (coded own.description) i k);
  apart = λ own h ne.
      let k = differ_some (coded d) (coded own.description) (λ q. ne (sym (coded_one d own.description q))) in (
        k.0,
        differ_first (coded d) (coded own.description) refl k.0 k.1,
        then_is (entry_at b n) own _ (entry_is b n own h)
            ∙ alike-apart 45 2 (differ (coded d) (coded own.description)) k.0 _ k.1,
      );
  too_long = λ own h q l.
      then_is (entry_at b n) own _ (entry_is b n own h)
      ∙ alike_same 45 2 (differ (coded d) (coded own.description)) _ (ap (λ x. differ (coded d) (coded x)) q ∙ differ_same (coded d))
      ∙ broken (leb w own.reach) (refusal 32 Frame 12) _ (lt-leb w own.reach l);
}
  where
    rest : Entry → Result (List ℕ) Refusal
    rest e = fate_at e d w s
