-- Sealing at a book whose entries are admitted.
-- Assumes nothing.
use Rattle.std.proofs.Common.{◌≡◌, ℕ, suc, ◌+◌, ◌%◌, Bool, true, false, cond, ◌&&◌, eqb, ltb, leb, List, [], ◌∷◌, ◌++◌, length, get_or, is_ok as isOk, Some, None, Ok, Err, Option, Result, sym, refl, ap, ◌∙◌, arith, w8, Fits, ltb-true, eq-eqb, eqb-true, leb-true}
use Rattle.answer.specs.declared.fault.Layer.TheVariants.{Book, Frame}
use Rattle.answer.specs.Refusal.{Refusal, refusal}
use Rattle.answer.specs.Rules.{Rule, rule, by_rules, then, need}
use Rattle.answer.proofs.Ruled.{kept, kept_append}
use Rattle.code.specs.declared.description.Description.{Description}
use Rattle.words.specs.Flips.{Bytes}
use Rattle.code.specs.Model.{Asked, Model, asked, length_of, written, described_rules, whole, Keeps, Admits, LawfulMessage}
use Rattle.station.specs.declared.entry.Entry.{Entry}
use Rattle.station.specs.Book.{PlainBook, held, held_in}
use Rattle.station.specs.Frame.{entry_at, frame, sealed}
use Rattle.station.specs.Fitting.{all_admitted, Admitted, sealed_fitting, answer_fitting}
use Rattle.station.specs.Calls as calls
use Rattle.station.specs.Calls.{Call, change, ask, wrote, answer, Typed}
use Rattle.station.proofs.Chains.{then-alike}

no_way : {A : Type 0} → ◌≡◌ {A = ℕ} 0 1 → A
no_way e = absurd (omega (arith, e))

-- ---- bytes

-- what a slice of bytes is known for
pub bytes_known : (xs : List ℕ) → ((i : ℕ) → Fits w8 (get_or xs i 0)) → Bytes xs
bytes_known [] h = tt
bytes_known (x ∷ xs) h = ((h 0).fits, bytes_known xs (λ i. h (suc i)))

-- ---- what an answer by rules says

one_value : {A : Type 0} (v w : A) (b : Bool) (x : Result A Refusal) (r : Refusal) → cond b x (Err r) ≡ Ok w → x ≡ Ok w
one_value v w true x r e = e
one_value v w false x r e = no_way (cc)

value : {A : Type 0} (v w : A) (rs : List Rule) → by_rules rs v ≡ Ok w → v ≡ w
value v w [] e = cc
value v w (r ∷ rs) e = value v w rs (one_value v w r.asks (by_rules rs v) r.otherwise e)

-- ---- admitted books

pub both : (p q : Bool) → p && q ≡ true → (p ≡ true) × (q ≡ true)
both true q e = (refl, e)
both false q e = no_way (cc)

is_ok : (x : Result (Unit {0}) Refusal) → isOk x ≡ true → x ≡ Ok tt
is_ok (Ok tt) e = refl
is_ok (Err r) e = no_way (cc)

found_in : (a : Asked) (e : Entry) (es : List Entry) (h : Entry) (n : ℕ) (t : Bool) → eqb h.number n ≡ t
    → isOk (a.admission h.description h.reach) ≡ true → (held_in es n ≡ Some e → isOk (a.admission e.description e.reach) ≡ true)
    → cond t (Some h) (held_in es n) ≡ Some e → isOk (a.admission e.description e.reach) ≡ true
found_in a e es h n true q ok rest p =
    let same : h ≡ e = cc in
    ap (λ k. isOk (a.admission k.description k.reach)) (sym same) ∙ ok
found_in a e es h n false q ok rest p = rest p

held-admitted : (a : Asked) (e : Entry) (es : List Entry) (n : ℕ) → all_admitted a es ≡ true → held_in es n ≡ Some e
    → isOk (a.admission e.description e.reach) ≡ true
held-admitted a e [] n all p = no_way (cc)
held-admitted a e (h ∷ es) n all p =
    let k = both (isOk (a.admission h.description h.reach)) (all_admitted a es) all in
    found_in a e es h n (eqb h.number n) refl k.0 (held-admitted a e es n k.1) p

pub by_option : (o : Option Entry) (e : Entry) → ◌≡◌ {A = Result Entry Refusal} (elim o [ Some h ↦ Ok h | None ↦ Err (refusal 23 Book 1) ]) (Ok e) → o ≡ Some e
by_option (Some h) e p = cc
by_option None e p = no_way (cc)

pub entry-admitted : (m : Model) (b : PlainBook) (n : ℕ) (e : Entry) → Admitted (asked m) b → entry_at b n ≡ Ok e
    → Admits m e.description e.reach
entry-admitted m b n e all p =
    is_ok ((asked m).admission e.description e.reach) (held-admitted (asked m) e b.entries n all (by_option (held b n) e p))

-- a message that the check call does not refuse is lawful
lawful : (m : Model) (d : Description) (message c : List ℕ) → Bytes message → (asked m).check d message 64 ≡ Ok c
    → LawfulMessage (m.sheet d).tuple message × (m.check d message ≡ c)
lawful m d message c bytes p =
    let after = rule (whole (m.sheet d).tuple message) (refusal 31 Frame (length message)) ∷ rule (leb (m.sheet d).check 64) (refusal 33 Frame 64) ∷ [] in
    let rs = described_rules m d ++ after in
    let is = value (m.check d message) c rs p in
    let k = (kept_append (described_rules m d) after (kept (m.check d message) rs (p ∙ ap Ok (sym is)))).1.0 in
    let t = length message in
    let k0 = both (ltb 0 t && eqb (t % (m.sheet d).tuple) 0) (leb t 4096) k in
    let k1 = both (ltb 0 t) (eqb (t % (m.sheet d).tuple) 0) k0.0 in (
      record {
        some = ltb-true 0 t k1.0;
        tuples = eqb-true (t % (m.sheet d).tuple) 0 k1.1;
        most = leb-true t 4096 k0.1;
        bytes = bytes;
      },
      is,
    )

-- the six steps before the last rule, with two ways to go on that agree wherever the steps succeed
module _ {E S C D : Type 0} (x : Result E Refusal) (y : E → Result S Refusal) (p q r : E → S → Result (Unit {0}) Refusal)
    (z : E → Result C Refusal) (f g : E → S → C → Result D Refusal)
    (same : (e : E) (s : S) (c : C) → x ≡ Ok e → y e ≡ Ok s → z e ≡ Ok c → f e s c ≡ g e s c) where
  steps_alike :
      then x (λ e. then (y e) (λ s. then (p e s) (λ _. then (q e s) (λ _. then (r e s) (λ _. then (z e) (λ c. f e s c))))))
      ≡ then x (λ e. then (y e) (λ s. then (p e s) (λ _. then (q e s) (λ _. then (r e s) (λ _. then (z e) (λ c. g e s c))))))
  steps_alike =
      then-alike x _ _ (λ e he.
      then-alike (y e) _ _ (λ s hs.
      then-alike (p e s) _ _ (λ _ _.
      then-alike (q e s) _ _ (λ _ _.
      then-alike (r e s) _ _ (λ _ _.
      then-alike (z e) _ _ (λ c hc. same e s c he hs hc))))))

pub fitting_sealed : (m : Model) → Keeps m → (b : PlainBook) → Admitted (asked m) b → (n : ℕ) (message : List ℕ) → Bytes message → (room : ℕ)
    → sealed_fitting (asked m) b n message room ≡ sealed (asked m) b n message room
fitting_sealed m keeps b all n message bytes room =
    steps_alike (entry_at b n) (λ e. (asked m).sheet e.description)
    (λ e s. need (ltb 0 (length message) && eqb (length message % s.tuple) 0) (refusal 31 Frame (length message)))
    (λ e s. need (leb (length message + s.check) e.reach) (refusal 32 Frame 12))
    (λ e s. need (leb (16 + (length message + s.check)) room) (refusal 33 Frame room))
    (λ e. (asked m).check e.description message 64)
    (λ e s c. then (need (eqb (length c) s.check) (refusal 33 Frame room)) (λ _. Ok (frame n e.description message c)))
    (λ e s c. Ok (frame n e.description message c))
    (λ e s c he hs hc.
    let d = e.description in
    let w = lawful m d message c bytes hc in
    let is-sheet : m.sheet d ≡ s = value (m.sheet d) s (described_rules m d) hs in
    let long : length c ≡ s.check =
    sym (ap length w.1) ∙ (keeps.long d e.reach (entry-admitted m b n e all he) message w.0).0 ∙ ap (λ k. k.check) is-sheet in
    let t = eq-eqb (length c) s.check long in
    rw t refl)

-- .. and so does every call whose bytes are bytes: over a bank that keeps the two laws the rule of the check's length refuses nothing.
-- A theorem of its own, which no proof needs.
pub fitting_answer : (m : Model) → Keeps m → (b : PlainBook) → Admitted (asked m) b → (c : Call) → Typed c
    → answer_fitting (asked m) b c ≡ answer (asked m) b c
fitting_answer m keeps b all (change c) t = refl
fitting_answer m keeps b all (ask (calls.seal n message out)) t =
    ap (λ x. wrote (length_of x) (written x out)) (fitting_sealed m keeps b all n message t.1 (length out))
fitting_answer m keeps b all (ask (calls.take f)) t = refl
fitting_answer m keeps b all (ask (calls.trial f at byte)) t = refl
