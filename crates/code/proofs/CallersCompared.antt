-- How kinds compare at all that a caller can pass: what holds at all numbers holds there, and the theorems.
-- Assumes nothing.
use Rattle.std.proofs.Common.{◌≡◌, ℕ, Bool, true, false, cond, leb, List, [], ◌∷◌, ◌++◌, length, Err, Result, sym, refl, ap, ◌∙◌, arith, lit<}
use Rattle.answer.specs.declared.fault.Layer.TheVariants.{Engine, Frame}
use Rattle.answer.specs.Refusal.{Refusal, refusal}
use Rattle.answer.specs.Rules.{Rule, rule, by_rules}
use Rattle.answer.proofs.Ruled.{Kept}
use Rattle.code.specs.declared.description.Description.{Description}
use Rattle.code.specs.declared.description.Sheet.{Sheet}
use Rattle.code.specs.Model.{Model, asked, whole, Fits, Matches, MeansTheSame, MatchesForCallers, MeansTheSameForCallers}
use Rattle.code.specs.CrcModel.{check_bytes, crc_asks, crc_reaches, crc_model}
use Rattle.code.specs.ParityModel.{parity_asks, parity_model}
use Rattle.code.specs.ForCallers.{JoinedMatchesForCallers, JoinedMeansTheSameForCallers, CrcMatchesForCallers, CrcMeansTheSameForCallers, ParityMatchesForCallers, ParityMeansTheSameForCallers, SameMatchesForCallers, MatchesReflexiveForCallers, MatchesSymmetricForCallers, MatchesNotTransitiveForCallers, MatchesSameForCallers, SameReflexiveForCallers, SameSymmetricForCallers, SameTransitiveForCallers}
use Rattle.code.proofs.CrcLaws.{fit_asked as crc-fit}
use Rattle.code.proofs.ParityLaws.{fit_of as parity-fit}
use Rattle.code.proofs.Comparing.{some_kind, never, refuses_match, joined-answers, sides_agree, sides_same, matches_reflexive as all-matches-reflexive, same_reflexive as all-same-reflexive, crc_matches as all-crc-matches, parity_matches as all-parity-matches}

-- ---- what holds at all numbers holds at those that a caller can pass

pub matches_for_callers : {a b : Model} → Matches a b → MatchesForCallers a b
matches_for_callers m = record {
  serve = λ k l. m.serve k;
  sheets = λ d f s t p q. m.sheets d s t p q;
  checks = λ d f message bytes room x y p q. m.checks d message room x y bytes p q;
}

pub same_for_callers : {a b : Model} → MeansTheSame a b → MeansTheSameForCallers a b
same_for_callers m = record {
  serve = λ k l. m.serve k;
  admissions = λ d f reach l. m.admissions d reach;
  sheets = λ d f. m.sheets d;
  checks = λ d f message bytes room. m.checks d message room;
}

-- ---- the two relations

pub same_reflexive : SameReflexiveForCallers
same_reflexive a = same_for_callers (all-same-reflexive a)

pub same_symmetric : SameSymmetricForCallers
same_symmetric a b m = record {
  serve = λ k l. sym (m.serve k l);
  admissions = λ d f reach l. sym (m.admissions d f reach l);
  sheets = λ d f. sym (m.sheets d f);
  checks = λ d f message bytes room. sym (m.checks d f message bytes room);
}

pub same_transitive : SameTransitiveForCallers
same_transitive a b c m n = record {
  serve = λ k l. m.serve k l ∙ n.serve k l;
  admissions = λ d f reach l. m.admissions d f reach l ∙ n.admissions d f reach l;
  sheets = λ d f. m.sheets d f ∙ n.sheets d f;
  checks = λ d f message bytes room. m.checks d f message bytes room ∙ n.checks d f message bytes room;
}

pub matches_reflexive : MatchesReflexiveForCallers
matches_reflexive a = matches_for_callers (all-matches-reflexive a)

pub matches_symmetric : MatchesSymmetricForCallers
matches_symmetric a b m = record {
  serve = λ k l. sym (m.serve k l);
  sheets = λ d f s t p q. sym (m.sheets d f t s q p);
  checks = λ d f message bytes room x y p q. sym (m.checks d f message bytes room y x q p);
}

pub matches_same : MatchesSameForCallers
matches_same a b c m n = record {
  serve = λ k l. m.serve k l ∙ n.serve k l;
  sheets = λ d f s t p q. m.sheets d f s t p (n.sheets d f ∙ q);
  checks = λ d f message bytes room x y p q. m.checks d f message bytes room x y p (n.checks d f message bytes room ∙ q);
}

pub same_matches : SameMatchesForCallers
same_matches a b n = matches_same a a b (matches_reflexive a) n

-- sheets of 1 and of 2 match that of a kind that refuses, and not each other
pub matches_not_transitive : MatchesNotTransitiveForCallers
unfolding some_kind
matches_not_transitive chain =
    let one = matches_symmetric (some_kind never 1) (some_kind [] 1) (matches_for_callers (refuses_match 1 1)) in
    let both = chain (some_kind [] 1) (some_kind never 1) (some_kind [] 2) one (matches_for_callers (refuses_match 1 2)) in
    let d : Description = record { kind = 0; degree = 0; low = 0; degree2 = 0; low2 = 0; tuple = 0 } in
    let fits : Fits d = record { kind = lit< tt; degree = lit< tt; low = lit< tt; degree2 = lit< tt; low2 = lit< tt; tuple = lit< tt } in
    let e = both.sheets d fits ((some_kind [] 1).sheet d) ((some_kind [] 2).sheet d) refl refl in
    let z : ◌≡◌ {A = ℕ} 1 2 = ap (λ (s : Sheet). s.tuple) e in
    omega arith

-- ---- kinds over engines

-- rules that all ask the same but for one, which asks the same where those before it are kept
alike_one : {A : Type 0} (b : Bool) (x y : Result A Refusal) (r : Refusal) → (b ≡ true → x ≡ y) → cond b x (Err r) ≡ cond b y (Err r)
alike_one true x y r f = f refl
alike_one false x y r f = refl

alike : {A : Type 0} (v : A) (asks : List Rule) (p q : Bool) (r : Refusal) (rest : List Rule) → (Kept asks → p ≡ q)
    → by_rules (asks ++ (rule p r ∷ rest)) v ≡ by_rules (asks ++ (rule q r ∷ rest)) v
alike v [] p q r rest f = ap (λ b. by_rules (rule b r ∷ rest) v) (f tt)
alike v (a ∷ asks) p q r rest f =
    alike_one a.asks (by_rules (asks ++ (rule p r ∷ rest)) v) (by_rules (asks ++ (rule q r ∷ rest)) v) a.otherwise
    (λ e. alike v asks p q r rest (λ k. f (e, k)))

-- what a check asks of a message and the room, for tuples of a byte
fit_rules_lem : ℕ → List ℕ → ℕ → List Rule
fit_rules_lem check message room =
    rule (whole 1 message) (refusal 31 Frame (length message)) ∷ rule (leb check room) (refusal 33 Frame room) ∷ []

pub crc_matches : CrcMatchesForCallers
crc_matches p q = matches_for_callers (all-crc-matches p q)

-- the engine is asked of generators alone
pub crc_means_the_same : CrcMeansTheSameForCallers
unfolding fit_rules_lem
crc_means_the_same p q e = record {
  serve = λ k l. refl;
  admissions = λ d f reach l. alike tt (crc_asks d) (p d.degree d.low) (q d.degree d.low) carried (crc_reaches d reach) (agree d);
  sheets = λ d f. alike ((crc_model p).sheet d) (crc_asks d) (p d.degree d.low) (q d.degree d.low) carried [] (agree d);
  checks = λ d f message bytes room.
      alike ((crc_model p).check d message) (crc_asks d) (p d.degree d.low) (q d.degree d.low) carried
      (fit_rules_lem (check_bytes d.degree) message room) (agree d);
}
  where
    carried : Refusal
    carried = refusal 15 Engine 4

    agree : (d : Description) → Kept (crc_asks d) → p d.degree d.low ≡ q d.degree d.low
    agree d k = let f = crc-fit d k in e d.degree d.low f.degree.least f.degree.most f.small f.constant

pub parity_matches : ParityMatchesForCallers
parity_matches p q = matches_for_callers (all-parity-matches p q)

pub parity_means_the_same : ParityMeansTheSameForCallers
unfolding fit_rules_lem
parity_means_the_same p q e = record {
  serve = λ k l. refl;
  admissions = λ d f reach l. alike tt (parity_asks d) (p d.degree d.low) (q d.degree d.low) carried (crc_reaches d reach) (agree d);
  sheets = λ d f. alike ((parity_model p).sheet d) (parity_asks d) (p d.degree d.low) (q d.degree d.low) carried [] (agree d);
  checks = λ d f message bytes room.
      alike ((parity_model p).check d message) (parity_asks d) (p d.degree d.low) (q d.degree d.low) carried
      (fit_rules_lem (check_bytes d.degree) message room) (agree d);
}
  where
    carried : Refusal
    carried = refusal 15 Engine 4

    agree : (d : Description) → Kept (parity_asks d) → p d.degree d.low ≡ q d.degree d.low
    agree d k =
        let f = parity-fit d k in
        e d.degree d.low f.degree.least (omega (arith, f.degree.most)) f.small f.constant

-- ---- banks

pub joined_matches : JoinedMatchesForCallers
joined_matches a b c d m n = record {
  serve = λ k l. let p = m.serve k l in let q = n.serve k l in cc;
  sheets = λ e f s t p q.
      sides_agree (a.serves e.kind) (c.serves e.kind)
      ((asked a).sheet e) ((asked b).sheet e) ((asked c).sheet e) ((asked d).sheet e) s t
      (m.serve e.kind f.kind) (m.sheets e f s t) (n.sheets e f s t)
      (sym ((joined-answers a b).sheets e) ∙ p) (sym ((joined-answers c d).sheets e) ∙ q);
  checks = λ e f message bytes room x y p q.
      sides_agree (a.serves e.kind) (c.serves e.kind)
      ((asked a).check e message room) ((asked b).check e message room) ((asked c).check e message room) ((asked d).check e message room) x y
      (m.serve e.kind f.kind) (m.checks e f message bytes room x y) (n.checks e f message bytes room x y)
      (sym ((joined-answers a b).checks e message room) ∙ p) (sym ((joined-answers c d).checks e message room) ∙ q);
}

pub joined_means_the_same : JoinedMeansTheSameForCallers
joined_means_the_same a b c d m n = record {
  serve = λ k l. let p = m.serve k l in let q = n.serve k l in cc;
  admissions = λ e f reach l.
      (joined-answers a b).admissions e reach
      ∙ sides_same (m.serve e.kind f.kind) (m.admissions e f reach l) (n.admissions e f reach l)
      ∙ sym ((joined-answers c d).admissions e reach);
  sheets = λ e f.
      (joined-answers a b).sheets e
      ∙ sides_same (m.serve e.kind f.kind) (m.sheets e f) (n.sheets e f)
      ∙ sym ((joined-answers c d).sheets e);
  checks = λ e f message bytes room.
      (joined-answers a b).checks e message room
      ∙ sides_same (m.serve e.kind f.kind) (m.checks e f message bytes room) (n.checks e f message bytes room)
      ∙ sym ((joined-answers c d).checks e message room);
}
