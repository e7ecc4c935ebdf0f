-- How kinds compare: lemmas for any kind, and the theorems on banks and on kinds over engines.
-- Assumes nothing.
use Rattle.std.proofs.Common.{◌≡◌, ℕ, Bool, true, false, cond, leb, List, [], ◌∷◌, ◌++◌, length, Ok, Result, sym, refl, ap, ◌∙◌, subst, ⊎_elim, arith}
use mathlib.Core.Path.{fun_ext}
use Rattle.answer.specs.declared.fault.Layer.TheVariants.{Kind, Frame}
use Rattle.answer.specs.Refusal.{Refusal, refusal}
use Rattle.answer.specs.Rules.{Rule, rule}
use Rattle.answer.proofs.Ruled.{ok_value}
use Rattle.words.specs.Flips.{Bytes}
use Rattle.code.specs.declared.description.Description.{Description}
use Rattle.code.specs.declared.description.Sheet.{Sheet}
use Rattle.code.specs.Model.{Model, asked, described_rules, whole, Matches, MeansTheSame}
use Rattle.code.specs.CrcModel.{crc_model}
use Rattle.code.specs.ParityModel.{parity_model}
use Rattle.code.specs.Compared.{JoinedAnswers, JoinedMatches, JoinedMeansTheSame, SameOverEngines, CrcMatches, CrcMeansTheSame, ParityMatches, ParityMeansTheSame, SameMatches, MatchesReflexive, MatchesSymmetric, MatchesNotTransitive, MatchesSame, SameReflexive, SameSymmetric, SameTransitive}
use Rattle.code.specs.Joined.{sides}

-- ---- the two relations

pub same_reflexive : SameReflexive
same_reflexive a = record { serve = λ k. refl; admissions = λ d reach. refl; sheets = λ d. refl; checks = λ d message room. refl }

pub same_symmetric : SameSymmetric
same_symmetric a b m = record {
  serve = λ k. sym (m.serve k);
  admissions = λ d reach. sym (m.admissions d reach);
  sheets = λ d. sym (m.sheets d);
  checks = λ d message room. sym (m.checks d message room);
}

pub same_transitive : SameTransitive
same_transitive a b c m n = record {
  serve = λ k. m.serve k ∙ n.serve k;
  admissions = λ d reach. m.admissions d reach ∙ n.admissions d reach;
  sheets = λ d. m.sheets d ∙ n.sheets d;
  checks = λ d message room. m.checks d message room ∙ n.checks d message room;
}

one_value : {A : Type 0} (x : Result A Refusal) (s t : A) → x ≡ Ok s → x ≡ Ok t → s ≡ t
one_value x s t p q = cc

pub matches_reflexive : MatchesReflexive
matches_reflexive a = record {
  serve = λ k. refl;
  sheets = λ d s t p q. one_value ((asked a).sheet d) s t p q;
  checks = λ d message room x y bytes p q. one_value ((asked a).check d message room) x y p q;
}

pub matches_symmetric : MatchesSymmetric
matches_symmetric a b m = record {
  serve = λ k. sym (m.serve k);
  sheets = λ d s t p q. sym (m.sheets d t s q p);
  checks = λ d message room x y bytes p q. sym (m.checks d message room y x bytes q p);
}

pub matches_same : MatchesSame
matches_same a b c m n = record {
  serve = λ k. m.serve k ∙ n.serve k;
  sheets = λ d s t p q. m.sheets d s t p (n.sheets d ∙ q);
  checks = λ d message room x y bytes p q. m.checks d message room x y bytes p (n.checks d message room ∙ q);
}

pub same_matches : SameMatches
same_matches a b n = matches_same a a b (matches_reflexive a) n

-- a kind that serves every number under some rules, with a sheet of t in every field
unfoldable pub some_kind : List Rule → ℕ → Model
some_kind rules t = record {
  serves = λ k. true;
  fits = λ d. rules;
  reaches = λ d reach. [];
  sheet = λ d. record { check = t; tuple = t; burst = t; few = t; odd = true };
  check = λ d message. [];
}

pub never : List Rule
never = rule false (refusal 12 Kind 3) ∷ []

pub refuses_match : (t u : ℕ) → Matches (some_kind never t) (some_kind [] u)
unfolding some_kind never
refuses_match t u = record {
  serve = λ k. refl;
  sheets = λ d s x p q. absurd (let z : ◌≡◌ {A = ℕ} 0 1 = cc in omega arith);
  checks = λ d message room x y bytes p q. absurd (let z : ◌≡◌ {A = ℕ} 0 1 = cc in omega arith);
}

-- sheets of 1 and of 2 match that of a kind that refuses, and not each other
pub matches_not_transitive : MatchesNotTransitive
unfolding some_kind
matches_not_transitive chain =
    let one = matches_symmetric (some_kind never 1) (some_kind [] 1) (refuses_match 1 1) in
    let both = chain (some_kind [] 1) (some_kind never 1) (some_kind [] 2) one (refuses_match 1 2) in
    let d : Description = record { kind = 0; degree = 0; low = 0; degree2 = 0; low2 = 0; tuple = 0 } in
    let e = both.sheets d ((some_kind [] 1).sheet d) ((some_kind [] 2).sheet d) refl refl in
    let z : ◌≡◌ {A = ℕ} 1 2 = ap (λ (s : Sheet). s.tuple) e in
    omega arith

-- ---- for any kind

-- a sheet or a check that is answered is the model's
pub sheet_value : (m : Model) (d : Description) (s : Sheet) → (asked m).sheet d ≡ Ok s → s ≡ m.sheet d
sheet_value m d s e = ok_value (m.sheet d) s (described_rules m d) e

pub check_value : (m : Model) (d : Description) (message : List ℕ) (room : ℕ) (x : List ℕ)
    → (asked m).check d message room ≡ Ok x → x ≡ m.check d message
check_value m d message room x e =
    ok_value (m.check d message) x
    (described_rules m d
    ++ (rule (whole (m.sheet d).tuple message) (refusal 31 Frame (length message))
    ∷ rule (leb (m.sheet d).check room) (refusal 33 Frame room) ∷ []))
    e

-- kinds with equal numbers, sheets and checks match, whatever they refuse
pub values_match : (a b : Model)
    → ((k : ℕ) → a.serves k ≡ b.serves k)
    → ((d : Description) → a.sheet d ≡ b.sheet d)
    → ((d : Description) (message : List ℕ) → Bytes message → a.check d message ≡ b.check d message)
    → Matches a b
values_match a b serve sheets checks = record {
  serve = serve;
  sheets = λ d s t p q. sheet_value a d s p ∙ sheets d ∙ sym (sheet_value b d t q);
  checks = λ d message room x y bytes p q.
      check_value a d message room x p ∙ checks d message bytes ∙ sym (check_value b d message room y q);
}

-- a kind over equal parts means the same
pub over_same : {X : Type 0} (build : X → Model) {p q : X} → p ≡ q → MeansTheSame (build p) (build q)
over_same build {p} {q} e = subst (λ x. MeansTheSame (build p) (build x)) e (same_reflexive (build p))

-- a kind over engines that carry the same generators means the same
pub same_over_engines : (build : (ℕ → ℕ → Bool) → Model) → SameOverEngines build
same_over_engines build p q e = over_same build (fun_ext (λ h. fun_ext (e h)))

pub crc_matches : CrcMatches
crc_matches p q = values_match (crc_model p) (crc_model q) (λ k. refl) (λ d. refl) (λ d message bytes. refl)

pub crc_means_the_same : CrcMeansTheSame
crc_means_the_same = same_over_engines crc_model

pub parity_matches : ParityMatches
parity_matches p q = values_match (parity_model p) (parity_model q) (λ k. refl) (λ d. refl) (λ d message bytes. refl)

pub parity_means_the_same : ParityMeansTheSame
parity_means_the_same = same_over_engines parity_model

-- ---- banks

pub joined-answers : JoinedAnswers
joined-answers l r = record {
  admissions = λ d reach. ⊎_elim (λ e. rw e) (λ e. rw e) (sides (l.serves d.kind));
  sheets = λ d. ⊎_elim (λ e. rw e) (λ e. rw e) (sides (l.serves d.kind));
  checks = λ d message room. ⊎_elim (λ e. rw e) (λ e. rw e) (sides (l.serves d.kind));
}

-- values of answers by sides agree where those of each side do
pub sides_agree : {A : Type 0} (b c : Bool) (x y u v : Result A Refusal) (s t : A)
    → b ≡ c → (x ≡ Ok s → u ≡ Ok t → s ≡ t) → (y ≡ Ok s → v ≡ Ok t → s ≡ t)
    → cond b x y ≡ Ok s → cond c u v ≡ Ok t → s ≡ t
sides_agree true true x y u v s t e f g p q = f p q
sides_agree false false x y u v s t e f g p q = g p q
sides_agree true false x y u v s t e f g p q = f p (cc)
sides_agree false true x y u v s t e f g p q = g p (cc)

pub sides_same : {A : Type 0} {b c : Bool} {x y u v : A} → b ≡ c → x ≡ u → y ≡ v → cond b x y ≡ cond c u v
sides_same p q r = cc

pub joined_matches : JoinedMatches
joined_matches a b c d m n = record {
  serve = λ k. let p = m.serve k in let q = n.serve k in cc;
  sheets = λ e s t p q.
      sides_agree (a.serves e.kind) (c.serves e.kind)
      ((asked a).sheet e) ((asked b).sheet e) ((asked c).sheet e) ((asked d).sheet e) s t
      (m.serve e.kind) (m.sheets e s t) (n.sheets e s t)
      (sym ((joined-answers a b).sheets e) ∙ p) (sym ((joined-answers c d).sheets e) ∙ q);
  checks = λ e message room x y bytes p q.
      sides_agree (a.serves e.kind) (c.serves e.kind)
      ((asked a).check e message room) ((asked b).check e message room) ((asked c).check e message room) ((asked d).check e message room) x y
      (m.serve e.kind) (m.checks e message room x y bytes) (n.checks e message room x y bytes)
      (sym ((joined-answers a b).checks e message room) ∙ p) (sym ((joined-answers c d).checks e message room) ∙ q);
}

pub joined_means_the_same : JoinedMeansTheSame
joined_means_the_same a b c d m n = record {
  serve = λ k. let p = m.serve k in let q = n.serve k in cc;
  admissions = λ e reach.
      (joined-answers a b).admissions e reach
      ∙ sides_same (m.serve e.kind) (m.admissions e reach) (n.admissions e reach)
      ∙ sym ((joined-answers c d).admissions e reach);
  sheets = λ e.
      (joined-answers a b).sheets e
      ∙ sides_same (m.serve e.kind) (m.sheets e) (n.sheets e)
      ∙ sym ((joined-answers c d).sheets e);
  checks = λ e message room.
      (joined-answers a b).checks e message room
      ∙ sides_same (m.serve e.kind) (m.checks e message room) (n.checks e message room)
      ∙ sym ((joined-answers c d).checks e message room);
}
