-- The promises on frames that nothing altered, and on banks that mean the same.
-- Assumes nothing.
use Rattle.std.proofs.Common.{◌≡◌, ℕ, ◌+◌, ◌%◌, ◌≤◌, Bool, ◌&&◌, eqb, ltb, leb, List, length, get_or, drop, Ok, Result, sym, refl, ap, ◌∙◌, subst, arith, length-append, lt-ltb, eq-eqb, le-leb}
use mathlib.Core.Path.{fun_ext}
use Rattle.answer.specs.declared.fault.Layer.TheVariants.{Frame}
use Rattle.answer.specs.Refusal.{Refusal, refusal}
use Rattle.code.specs.declared.description.Description.{Description}
use Rattle.code.specs.declared.description.Sheet.{Sheet}
use Rattle.code.specs.Model.{Model, Asked, Fits, asked, Admits, Keeps, MatchesForCallers, MeansTheSame, LawfulMessage}
use Rattle.code.proofs.CallersCompared.{matches_for_callers}
use Rattle.station.specs.Book.{PlainBook, empty_book}
use Rattle.station.specs.Frame.{entry_at, sealed, taken}
use Rattle.station.specs.Calls.{answers_from, book_after}
use Rattle.runs.specs.Promises.{LawfulFrame, Fate, HandsOverUnaltered, HandsOverUnalteredForCallers, AnswersAlike, AnswersAlikeForCallers, SealsAgain, TakesTheLawful, SealsTheLawful}
use Rattle.runs.proofs.Inverts.{some_is, then_is, keeps_on, both_are, entry_is}
use Rattle.runs.proofs.Admitted.{Admitted, AllAdmitted, Fitting, all_held, book_admitted, book_fits}
use Rattle.runs.proofs.Opens.{taken_ok, taken_lawful, sealed_ok, sealed_lawful}
use Rattle.runs.proofs.Hands.{fate, fate_stands, fated, Agrees, sheet_answer, check_answer}
use Rattle.runs.proofs.Alike.{runs_alike}

-- ---- take and seal give exactly the lawful frames

pub lawful_taken : (m : Model) → Keeps m → (b : PlainBook) → AllAdmitted m b → (n : ℕ) (f s : List ℕ) → LawfulFrame m b n f s
    → taken (asked m) b f ≡ Ok s
lawful_taken m keeps b ad n f s l =
    let d = l.entry.description in
    let c = m.check d s in
    let w = length s + length c in
    ap (taken (asked m) b) l.is_frame
    ∙ fated m keeps b ad n d s c (omega (arith, l.lawful.some))
    (λ own h same.
    let own_is : l.entry ≡ own = some_is l.entry own (sym l.is_held ∙ h) in
    (ap (λ x. m.check x.description s) own_is, subst (λ x. LawfulMessage (m.sheet x.description).tuple s) own_is l.lawful))
    ∙ ((fate_stands b n d w s).exactly s).1 (record { own = l.entry; is_held = l.is_held; same_code = refl; enough = l.within }, refl)

pub takes_the_lawful : TakesTheLawful
takes_the_lawful m keeps cs f s bf =
    let b = book_after (asked m) cs in (
      (λ p. (get_or f 1 0, taken_lawful m b f s bf (taken_ok m b f s p))),
      (λ l. lawful_taken m keeps b (book_admitted m cs) l.0 f s l.1),
    )

pub lawful_sealed : (m : Model) → Keeps m → (b : PlainBook) → AllAdmitted m b → (n : ℕ) (f s : List ℕ) (room : ℕ) → LawfulFrame m b n f s
    → length f ≤ room → sealed (asked m) b n s room ≡ Ok f
lawful_sealed m keeps b ad n f s room l fit =
    let e = l.entry in
    let d = e.description in
    let sh = m.sheet d in
    let c = m.check d s in
    let a = all_held (Admitted m) b n e ad l.is_held in
    let long : length c ≡ sh.check = (keeps.long d e.reach a s l.lawful).0 in
    let size : length f ≡ 16 + (length s + length c) = ap length l.is_frame ∙ omega (arith, length-append s c) in
    then_is (entry_at b n) e _ (entry_is b n e l.is_held)
    ∙ then_is ((asked m).sheet d) sh _ (sheet_answer m keeps d e.reach a)
    ∙ keeps_on (ltb 0 (length s) && eqb (length s % sh.tuple) 0) (refusal 31 Frame (length s)) _
    (both_are (ltb 0 (length s)) (eqb (length s % sh.tuple) 0) (lt-ltb 0 (length s) l.lawful.some)
    (eq-eqb (length s % sh.tuple) 0 l.lawful.tuples))
    ∙ keeps_on (leb (length s + sh.check) e.reach) (refusal 32 Frame 12) _ (le-leb (length s + sh.check) e.reach (omega (arith, l.within)))
    ∙ keeps_on (leb (16 + (length s + sh.check)) room) (refusal 33 Frame room) _ (le-leb (16 + (length s + sh.check)) room (omega arith))
    ∙ then_is ((asked m).check d s 64) c _ (check_answer m keeps d e.reach a s l.lawful)
    ∙ ap Ok (sym l.is_frame)

pub seals_the_lawful : SealsTheLawful
seals_the_lawful m keeps cs n f s room bs =
    let b = book_after (asked m) cs in
    let ad = book_admitted m cs in (
      (λ p.
          let k = sealed_ok m b n s room f p in
          let l = sealed_lawful m b n s room f keeps ad bs k in
          let e = k.entry in
          let d = e.description in
          let long : length (m.check d s) ≡ (m.sheet d).check =
          (keeps.long d e.reach (all_held (Admitted m) b n e ad k.is_held) s
          (record { some = k.checked.some; tuples = k.checked.tuples; most = k.checked.most; bytes = bs })).0 in
          let size : length f ≡ 16 + (length s + length (m.check d s)) = ap length k.is_frame ∙ omega (arith, length-append s (m.check d s)) in
          (l, omega (arith, k.fits))),
      (λ q. lawful_sealed m keeps b ad n f s room q.0 q.1),
    )

pub seals_again : SealsAgain
seals_again m keeps cs f s bf p room fit =
    let b = book_after (asked m) cs in
    lawful_sealed m keeps b (book_admitted m cs) (get_or f 1 0) f s room (taken_lawful m b f s bf (taken_ok m b f s p)) fit

-- ---- unaltered frames

-- kinds that match give an admitted description the same sheet, and a lawful message the same check
pub match_sheets : (a b : Model) → Keeps a → Keeps b → MatchesForCallers a b → (d : Description) → Fits d → (p q : ℕ) → Admits a d p → Admits b d q
    → a.sheet d ≡ b.sheet d
match_sheets a b ka kb match d fd p q pa qb =
    match.sheets d fd (a.sheet d) (b.sheet d) (sheet_answer a ka d p pa) (sheet_answer b kb d q qb)

pub match_checks : (a b : Model) → Keeps a → Keeps b → MatchesForCallers a b → (d : Description) → Fits d → (p q : ℕ) → Admits a d p → Admits b d q
    → (s : List ℕ) → LawfulMessage (a.sheet d).tuple s → a.check d s ≡ b.check d s
match_checks a b ka kb match d fd p q pa qb s law =
    match.checks d fd s law.bytes 64 (a.check d s) (b.check d s) (check_answer a ka d p pa s law)
    (check_answer b kb d q qb s (subst (λ x. LawfulMessage x.tuple s) (match_sheets a b ka kb match d fd p q pa qb) law))

pub agrees : (a b : Model) → Keeps a → Keeps b → MatchesForCallers a b → (x y : PlainBook) → AllAdmitted a x → AllAdmitted b y → (n : ℕ) (f s : List ℕ)
    → (sent : LawfulFrame a x n f s) → Fits sent.entry.description → Agrees b y n sent.entry.description s (a.check sent.entry.description s)
agrees a b ka kb match x y xa yb n f s sent fd own h same =
    let d = sent.entry.description in
    let p = sent.entry.reach in
    let q = own.reach in
    let pa : Admits a d p = all_held (Admitted a) x n sent.entry xa sent.is_held in
    let qb : Admits b d q = subst (λ z. Admits b z q) same (all_held (Admitted b) y n own yb h) in (
      match_checks a b ka kb match d fd p q pa qb s sent.lawful ∙ ap (λ z. b.check z s) (sym same),
      subst (λ z. LawfulMessage z.tuple s) (match_sheets a b ka kb match d fd p q pa qb ∙ ap b.sheet (sym same)) sent.lawful,
    )

pub hands_over_unaltered_for_callers : HandsOverUnalteredForCallers
hands_over_unaltered_for_callers a b ka kb match n s f e sent ds =
    let x = book_after (asked a) sent.calls in
    let y = book_after (asked b) ds in
    let xa = book_admitted a sent.calls in
    let yb = book_admitted b ds in
    let l = sealed_lawful a x n s sent.room f ka xa sent.bytes (sealed_ok a x n s sent.room f sent.wrote) in
    let d = l.entry.description in
    let c = a.check d s in
    let fd = (all_held Fitting x n l.entry (book_fits (asked a) sent.calls sent.typed) l.is_held).1 in
    let own : l.entry ≡ e = some_is l.entry e (sym l.is_held ∙ sent.by) in
    let size : length s + length c ≡ length (drop 16 f) = sym (ap (λ z. length (drop 16 z)) l.is_frame ∙ length-append s c) in
    let is-fate : fate y n d (length s + length c) s ≡ taken (asked b) y f =
    sym (ap (taken (asked b) y) l.is_frame
    ∙ fated b kb y yb n d s c (omega (arith, l.lawful.some)) (agrees a b ka kb match x y xa yb n f s l fd)) in
    subst (λ z. Fate y n z.description (length (drop 16 f)) s (taken (asked b) y f)) own
    (subst (λ w. Fate y n d w s (taken (asked b) y f)) size
    (subst (Fate y n d (length s + length c) s) is-fate (fate_stands y n d (length s + length c) s)))

pub hands_over_unaltered : HandsOverUnaltered
hands_over_unaltered a b ka kb match = hands_over_unaltered_for_callers a b ka kb (matches_for_callers match)

-- ---- banks that mean the same

make_asked : (ℕ → Bool) → (Description → ℕ → Result (Unit {0}) Refusal) → (Description → Result Sheet Refusal)
    → (Description → List ℕ → ℕ → Result (List ℕ) Refusal) → Asked
make_asked e f g h = record { serves = e; admission = f; sheet = g; check = h }

pub same_asked : (a b : Model) → MeansTheSame a b → asked a ≡ asked b
unfolding make_asked
same_asked a b s =
    let p = fun_ext s.serve in
    let q = fun_ext (λ d. fun_ext (s.admissions d)) in
    let r = fun_ext s.sheets in
    let t = fun_ext (λ d. fun_ext (λ m. fun_ext (s.checks d m))) in
    let u : make_asked (asked a).serves (asked a).admission (asked a).sheet (asked a).check
    ≡ make_asked (asked b).serves (asked b).admission (asked b).sheet (asked b).check =
    λ i. make_asked (p i) (q i) (r i) (t i) in
    u

pub answers-alike : AnswersAlike
answers-alike a b same cs =
    let e = same_asked a b same in
    (ap (λ x. answers_from x empty_book cs) e, ap (λ x. book_after x cs) e)

pub answers-alike_for_callers : AnswersAlikeForCallers
answers-alike_for_callers a b same cs t =
    runs_alike (asked a) (asked b) (λ d r fd lr. same.admissions d fd r lr) same.sheets (λ d s fd bs. same.checks d fd s bs 64) empty_book tt cs t
