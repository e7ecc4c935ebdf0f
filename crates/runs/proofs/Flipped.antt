-- Sure flips are refused: those in the head by the head's code, those in the word by the entry's.
-- Assumes nothing.
use Rattle.std.proofs.Common.{◌≡◌, ℕ, ◌+◌, ◌-◌, ◌^◌, ◌<◌, ◌≤◌, min, Bool, true, false, cond, eqb, leb, List, ◌++◌, length, get_or, take, drop, is_ok, Ok, Err, Result, sym, refl, ap, ◌∙◌, subst, ap₂, lt_of_le_of_lt, arith, lit<, lit≤, length-append, length-drop, length-take, ne_eqb, le-leb}
use Rattle.std.specs.List.{AllByRecursion}
use Rattle.answer.specs.declared.fault.Layer.TheVariants.{Frame}
use Rattle.answer.specs.Refusal.{Refusal, refusal}
use Rattle.answer.specs.Rules.{then, need}
use Rattle.poly.specs.Poly.{string}
use Rattle.words.specs.Digits.{digits}
use Rattle.words.specs.Flips.{Bytes, flips, Sure}
use Rattle.words.specs.Words.{Crc}
use Rattle.code.specs.Model.{Model, Fits, asked, sheet_at, Admits, Keeps, MatchesForCallers, Word, LawfulMessage}
use Rattle.words.proofs.DigitBytes.{bytes_digits, string-digits}
use Rattle.words.proofs.Members.{crc_words}
use Rattle.station.specs.Book.{PlainBook}
use Rattle.station.specs.Frame.{ccitt, head, pair_at, taken}
use Rattle.station.specs.Calls.{book_after}
use Rattle.runs.specs.Promises.{altered, SureFlips, in_head, in_word, LawfulFrame, RefusesSureFlips, RefusesSureFlipsForCallers, RefusesSureHeads}
use Rattle.code.proofs.CallersCompared.{matches_for_callers}
use Rattle.runs.proofs.Inverts.{some_is, keeps_on, broken}
use Rattle.runs.proofs.Admitted.{Admitted, AllAdmitted, Fitting, all_held, book_admitted, book_fits, held_number}
use Rattle.runs.proofs.Opens.{gets, gets_drop, bytes_at, two_of, bytes_take, bytes_drop, taken_ok, taken_lawful, sealed_ok, sealed_lawful}
use Rattle.runs.proofs.Heads.{ccitt-lt, head-word, bytes_head, bytes_append, head_description, length-altered, bytes_altered, take-altered, drop-altered, flips-altered, unaltered, heads_apart}
use Rattle.runs.proofs.Promised.{match_sheets, match_checks}

-- a lawful frame's head and word
pub frame-head : (m : Model) (b : PlainBook) (n : ℕ) (f s : List ℕ) (l : LawfulFrame m b n f s)
    → take 16 f ≡ head n l.entry.description (length s + length (m.check l.entry.description s))
frame-head m b n f s l = ap (take 16) l.is_frame

pub frame-word : (m : Model) (b : PlainBook) (n : ℕ) (f s : List ℕ) (l : LawfulFrame m b n f s)
    → drop 16 f ≡ s ++ m.check l.entry.description s
frame-word m b n f s l = ap (drop 16) l.is_frame

-- a lawful frame is bytes
pub lawful_bytes : (m : Model) (b : PlainBook) (n : ℕ) (f s : List ℕ) → Keeps m → AllAdmitted m b → AllByRecursion Fitting b.entries
    → LawfulFrame m b n f s → Bytes f
lawful_bytes m b n f s keeps admitted fitting l =
    let e = l.entry in
    let d = e.description in
    let fits = all_held Fitting b n e fitting l.is_held in
    let a = all_held (Admitted m) b n e admitted l.is_held in
    let c = m.check d s in
    let w = length s + length c in
    let small : n < 2 ^ 8 = subst (λ (x : ℕ). x < 2 ^ 8) (held_number b.entries n e l.is_held) fits.0 in
    subst Bytes (sym l.is_frame)
    (bytes_append (head n d w) (s ++ c)
    (bytes_head n d w small fits.1 (lt_of_le_of_lt l.within fits.2))
    (bytes_append s c l.lawful.bytes (keeps.long d e.reach a s l.lawful).1))

pub part_lengths : (i : ℕ) (f mask : List ℕ) → length mask ≡ length f
    → (length (take i f) ≡ length (take i mask)) × (length (drop i f) ≡ length (drop i mask))
part_lengths i f mask e = (
  length-take i f ∙ ap (min i) (sym e) ∙ sym (length-take i mask),
  length-drop i f ∙ ap (λ (x : ℕ). x - i) (sym e) ∙ sym (length-drop i mask),
)

-- f was sent by a station over the bank a with the book x; no station over b with the book y takes it with sure flips
module _ (a b : Model) (ka : Keeps a) (kb : Keeps b) (match : MatchesForCallers a b) (x y : PlainBook) (xa : AllAdmitted a x) (yb : AllAdmitted b y)
    (n : ℕ) (f s : List ℕ) (sent : LawfulFrame a x n f s) (fits : Fits sent.entry.description) (bf : Bytes f) (mask : List ℕ) (bm : Bytes mask) (lm : length mask ≡ length f) where
  never_head : (k : ℕ) (t : List ℕ) → LawfulFrame b y k (altered f mask) t → ¬ Sure 16 3 false (string 8 (take 16 mask))
  never_head k t got sure =
      let g = altered f mask in
      let same : flips (take 16 f) (take 16 g) ≡ string 8 (take 16 mask) =
      ap (flips (take 16 f)) (take-altered 16 f mask) ∙ flips-altered (take 16 f) (take 16 mask) (part_lengths 16 f mask lm).0 in
      let sixteen : length (take 16 f) ≡ 16 = ap length (frame-head a x n f s sent) in
      heads_apart (take 16 f) (take 16 g) (bytes_take 16 f bf) (bytes_take 16 g (bytes_altered f mask bf bm))
      (sixteen ∙ sym (ap length (frame-head b y k g t got)))
      (subst (λ (z : ℕ). z ≤ 64) (sym sixteen) (lit≤ tt))
      (subst (Crc 16 0x1021) (sym (frame-head a x n f s sent))
      (head-word n sent.entry.description (length s + length (a.check sent.entry.description s))))
      (subst (Crc 16 0x1021) (sym (frame-head b y k g t got))
      (head-word k got.entry.description (length t + length (b.check got.entry.description t))))
      (subst (Sure 16 3 false) (sym same) sure)

  never : (k : ℕ) (t : List ℕ) → LawfulFrame b y k (altered f mask) t → ¬ SureFlips (a.sheet sent.entry.description) mask
  never k t got (in_head sure) = never_head k t got sure
  never k t got (in_word zero-head sure) =
      let g = altered f mask in
      let p = part_lengths 16 f mask lm in
      let heads : take 16 g ≡ take 16 f =
      take-altered 16 f mask ∙ unaltered (take 16 f) (take 16 mask) (bytes_take 16 f bf) (bytes_take 16 mask bm) p.0 zero-head in
      let own = sent.entry.description in
      let d = got.entry.description in
      let r = got.entry.reach in
      let same : own ≡ d = head_description n k own d _ _ (sym (frame-head a x n f s sent) ∙ sym heads ∙ frame-head b y k g t got) in
      let ra : Admits a d sent.entry.reach =
      subst (λ z. Admits a z sent.entry.reach) same (all_held (Admitted a) x n sent.entry xa sent.is_held) in
      let rb : Admits b d r = all_held (Admitted b) y k got.entry yb got.is_held in
      let fd : Fits d = subst Fits same fits in
      let sheets : a.sheet own ≡ b.sheet d = ap a.sheet same ∙ match_sheets a b ka kb match d fd sent.entry.reach r ra rb in
      let la : LawfulMessage (a.sheet d).tuple s = subst (λ z. LawfulMessage (a.sheet z).tuple s) same sent.lawful in
      let word-f : Word b d (drop 16 f) = record {
        message = s;
        lawful = subst (λ z. LawfulMessage z.tuple s) sheets sent.lawful;
        is_word = frame-word a x n f s sent ∙ ap (λ z. s ++ a.check z s) same
            ∙ ap (λ z. s ++ z) (match_checks a b ka kb match d fd sent.entry.reach r ra rb s la);
      } in
      let word-g : Word b d (drop 16 g) = record { message = t; lawful = got.lawful; is_word = frame-word b y k g t got } in
      let v : drop 16 g ≡ altered (drop 16 f) (drop 16 mask) = drop-altered 16 f mask in
      let flipped : flips (drop 16 f) (drop 16 g) ≡ string 8 (drop 16 mask) =
      ap (flips (drop 16 f)) v ∙ flips-altered (drop 16 f) (drop 16 mask) p.1 in
      let lengths : length (drop 16 f) ≡ length (drop 16 g) = sym (ap length v ∙ length-altered (drop 16 f) (drop 16 mask)) in
      let short : length (drop 16 g) ≤ r =
      subst (λ (z : ℕ). z ≤ r) (sym (ap length (frame-word b y k g t got) ∙ length-append t (b.check d t))) got.within in
      kb.apart d r rb (drop 16 f) (drop 16 g) (bytes_drop 16 f bf) (bytes_drop 16 g (bytes_altered f mask bf bm)) lengths
      (subst (λ (z : ℕ). z ≤ r) (sym lengths) short) word-f word-g
      (subst (λ z. Sure z.burst z.few z.odd (flips (drop 16 f) (drop 16 g))) sheets
      (subst (Sure (a.sheet own).burst (a.sheet own).few (a.sheet own).odd) (sym flipped) sure))

refuted : (x : Result (List ℕ) Refusal) → ((t : List ℕ) → x ≡ Ok t → ⊥) → is_ok x ≡ false
refuted (Ok t) no-t = absurd (no-t t refl)
refuted (Err z) no-t = refl

pub refuses_sure_flips_for_callers : RefusesSureFlipsForCallers
refuses_sure_flips_for_callers a b ka kb match n s f e sent mask bm lm sure ds =
    let x = book_after (asked a) sent.calls in
    let y = book_after (asked b) ds in
    let xa = book_admitted a sent.calls in
    let yb = book_admitted b ds in
    let l = sealed_lawful a x n s sent.room f ka xa sent.bytes (sealed_ok a x n s sent.room f sent.wrote) in
    let fits = book_fits (asked a) sent.calls sent.typed in
    let bf = lawful_bytes a x n f s ka xa fits l in
    let g = altered f mask in
    let own : e ≡ l.entry = some_is e l.entry (sym sent.by ∙ l.is_held) in
    refuted (taken (asked b) y g) (λ t q.
    never a b ka kb match x y xa yb n f s l (all_held Fitting x n l.entry fits l.is_held).1 bf mask bm lm (get_or g 1 0) t (taken_lawful b y g t (bytes_altered f mask bf bm) (taken_ok b y g t q))
    (subst (λ z. SureFlips (sheet_at a z.description z.reach) mask) own sure))

pub refuses_sure_flips : RefusesSureFlips
refuses_sure_flips a b ka kb match = refuses_sure_flips_for_callers a b ka kb (matches_for_callers match)

-- ---- the head by itself

-- a string whose head check is right begins with a word of CRC-CCITT
right-head : (f : List ℕ) → Bytes f → 16 < length f → pair_at f 14 ≡ ccitt (take 14 f) → Crc 16 0x1021 (take 16 f)
unfolding ccitt
right-head f bf long right =
    let view : f ≡ gets 0 16 f = gets_drop 16 0 f (omega arith) in
    let front : List ℕ = take 14 f in
    let c : ℕ = ccitt front in
    let split : take 16 f ≡ front ++ digits 2 c =
    ap (take 16) view
    ∙ ap₂ (λ (x y : List ℕ). x ++ y) (sym (ap (take 14) view))
    (two_of (get_or f 14 0) (get_or f 15 0) (bytes_at f 14 bf) (bytes_at f 15 bf) ∙ ap (digits 2) right) in
    subst (Crc 16 0x1021) (sym split)
    ((crc_words 16 0x1021 front (digits 2 c) (lit< tt) (bytes_digits 2 c (ccitt-lt front)) refl).1 (string-digits 2 c (ccitt-lt front)))

marked : (m : Bool) (x : Result (List ℕ) Refusal) → x ≡ Err (refusal 43 Frame 14)
    → then (need m (refusal 42 Frame 0)) (λ _. x) ≡ cond m (Err (refusal 43 Frame 14)) (Err (refusal 42 Frame 0))
marked true x e = e
marked false x e = refl

pub refuses_sure_heads : RefusesSureHeads
refuses_sure_heads a b f mask bf bm lm long right sure =
    keeps_on (leb 17 (length g)) _ _ (le-leb 17 (length g) (omega (arith, size)))
    ∙ marked (eqb (get_or g 0 0) 1) _ (broken (eqb (pair_at g 14) (ccitt (take 14 g))) (refusal 43 Frame 14) _ wrong)
  where
    g : List ℕ
    g = altered f mask

    bg : Bytes g
    bg = bytes_altered f mask bf bm

    size : length g ≡ length f
    size = length-altered f mask

    -- the head check of the altered frame is wrong
    wrong : eqb (pair_at g 14) (ccitt (take 14 g)) ≡ false
    wrong = ne_eqb (pair_at g 14) (ccitt (take 14 g)) (λ q.
        let same : flips (take 16 f) (take 16 g) ≡ string 8 (take 16 mask) =
        ap (flips (take 16 f)) (take-altered 16 f mask) ∙ flips-altered (take 16 f) (take 16 mask) (part_lengths 16 f mask lm).0 in
        let sixteen : length (take 16 f) ≡ 16 = length-take 16 f ∙ omega arith in
        let heads : length (take 16 f) ≡ length (take 16 g) = sixteen ∙ sym (length-take 16 g ∙ omega (arith, size)) in
        heads_apart (take 16 f) (take 16 g) (bytes_take 16 f bf) (bytes_take 16 g bg) heads (omega arith)
        (right-head f bf long right) (right-head g bg (omega (arith, size)) q) (subst (Sure 16 3 false) (sym same) sure))
