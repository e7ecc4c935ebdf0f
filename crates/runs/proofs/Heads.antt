-- The head is a word of CRC-CCITT, and it is known by its bytes. What flips make of a string.
-- Assumes nothing.
use Rattle.std.proofs.Common.{◌≡◌, ℕ, zero, suc, ◌+◌, ◌*◌, ◌/◌, ◌%◌, ◌^◌, ◌<◌, ◌≤◌, true, false, List, [], ◌∷◌, ◌++◌, length, get_or, take, drop, sym, refl, ap, ◌∙◌, ap₂, div-add-mod', arith, lit<}
use lib.Bits.{bit_xor, xor_lt, xor_assoc, xor_self, xor_zero_l}
use Rattle.poly.specs.Poly.{string}
use Rattle.poly.proofs.Division.{rem_lt}
use Rattle.poly.proofs.Digits.{added, string_added}
use Rattle.words.specs.Digits.{digits}
use Rattle.words.specs.Flips.{Bytes, flips, Sure}
use Rattle.words.specs.Words.{Crc}
use Rattle.words.proofs.DigitBytes.{bytes_digits, string-digits}
use Rattle.words.proofs.Members.{crc_words}
use Rattle.words.proofs.Words.{no_flips}
use Rattle.words.proofs.Head.{head_notices}
use Rattle.code.specs.declared.description.Description.{Description}
use Rattle.code.specs.Model.{Fits}
use Rattle.station.specs.Frame.{coded, ccitt, front, head}
use Rattle.runs.specs.Promises.{altered}

-- ---- the head

pub ccitt-lt : (s : List ℕ) → ccitt s < 2 ^ 16
unfolding ccitt
ccitt-lt s = rem_lt 16 0x1021 (lit< tt) (string 8 s * 2 ^ 16)

pub head-word : (n : ℕ) (d : Description) (w : ℕ) → Crc 16 0x1021 (head n d w)
unfolding ccitt
head-word n d w =
    let c : ℕ = ccitt (front n d w) in
    (crc_words 16 0x1021 (front n d w) (digits 2 c) (lit< tt) (bytes_digits 2 c (ccitt-lt (front n d w))) refl).1
    (string-digits 2 c (ccitt-lt (front n d w)))

pub bytes_append : (x y : List ℕ) → Bytes x → Bytes y → Bytes (x ++ y)
bytes_append [] y p q = q
bytes_append (z ∷ x) y p q = (p.0, bytes_append x y p.1 q)

pub bytes_coded : (d : Description) → Fits d → Bytes (coded d)
bytes_coded d f =
    let code2 : Bytes (digits 2 d.low2 ++ (d.tuple ∷ [])) =
    bytes_append (digits 2 d.low2) (d.tuple ∷ []) (bytes_digits 2 d.low2 f.low2) (f.tuple, tt) in (
      f.kind,
      (
        f.degree,
        bytes_append (digits 4 d.low) (d.degree2 ∷ (digits 2 d.low2 ++ (d.tuple ∷ []))) (bytes_digits 4 d.low f.low)
            (f.degree2, code2),
      ),
    )

pub bytes_head : (n : ℕ) (d : Description) (w : ℕ) → n < 2 ^ 8 → Fits d → w < 2 ^ 16 → Bytes (head n d w)
bytes_head n d w ln fd lw =
    bytes_append (front n d w) (digits 2 (ccitt (front n d w)))
    (lit< tt, (ln, bytes_append (coded d) (digits 2 w) (bytes_coded d fd) (bytes_digits 2 w lw)))
    (bytes_digits 2 (ccitt (front n d w)) (ccitt-lt (front n d w)))

-- ---- a description is known by its ten bytes

split : (x y : ℕ) (xs ys : List ℕ) → x ∷ xs ≡ y ∷ ys → (x ≡ y) × (xs ≡ ys)
split x y xs ys e = (cc, cc)

pub digits_one : (k x y : ℕ) → digits (suc k) x ≡ digits (suc k) y → x ≡ y
digits_one zero x y e = let h = split (x / 1) (y / 1) [] [] e in omega (arith, h.0)
digits_one (suc k) x y e =
    let p : ℕ = 2 ^ (8 * suc k) in
    let h = split (x / p) (y / p) (digits (suc k) (x % p)) (digits (suc k) (y % p)) e in
    sym (div-add-mod' x p) ∙ ap₂ (λ (u v : ℕ). u * p + v) h.0 (digits_one k (x % p) (y % p) h.1) ∙ div-add-mod' y p

make : ℕ → ℕ → ℕ → ℕ → ℕ → ℕ → Description
make k h l m p t = record { kind = k; degree = h; low = l; degree2 = m; low2 = p; tuple = t }

same_parts : (d e : Description) → d.kind ≡ e.kind → d.degree ≡ e.degree → d.low ≡ e.low → d.degree2 ≡ e.degree2
    → d.low2 ≡ e.low2 → d.tuple ≡ e.tuple → d ≡ e
unfolding make
same_parts d e a b c f g h =
    let s : make d.kind d.degree d.low d.degree2 d.low2 d.tuple
    ≡ make e.kind e.degree e.low e.degree2 e.low2 e.tuple = cc in
    s

pub coded_one : (d e : Description) → coded d ≡ coded e → d ≡ e
coded_one d e q =
    same_parts d e
    (ap (λ (x : List ℕ). get_or x 0 0) q)
    (ap (λ (x : List ℕ). get_or x 1 0) q)
    (digits_one 3 d.low e.low (ap (λ (x : List ℕ). take 4 (drop 2 x)) q))
    (ap (λ (x : List ℕ). get_or x 6 0) q)
    (digits_one 1 d.low2 e.low2 (ap (λ (x : List ℕ). take 2 (drop 7 x)) q))
    (ap (λ (x : List ℕ). get_or x 9 0) q)

-- the part of a head that is the description
pub head_description : (n k : ℕ) (d e : Description) (v w : ℕ) → head n d v ≡ head k e w → d ≡ e
head_description n k d e v w q = coded_one d e (ap (λ (x : List ℕ). take 10 (drop 2 x)) q)

-- ---- flips

pub length-altered : (f mask : List ℕ) → length (altered f mask) ≡ length f
length-altered [] mask = refl
length-altered (x ∷ f) [] = refl
length-altered (x ∷ f) (y ∷ mask) = ap suc (length-altered f mask)

pub bytes_altered : (f mask : List ℕ) → Bytes f → Bytes mask → Bytes (altered f mask)
bytes_altered [] mask p q = tt
bytes_altered (x ∷ f) [] p q = p
bytes_altered (x ∷ f) (y ∷ mask) p q = (xor_lt 8 x y p.0 q.0, bytes_altered f mask p.1 q.1)

pub take-altered : (i : ℕ) (f mask : List ℕ) → take i (altered f mask) ≡ altered (take i f) (take i mask)
take-altered zero f mask = refl
take-altered (suc i) [] mask = refl
take-altered (suc i) (x ∷ f) [] = refl
take-altered (suc i) (x ∷ f) (y ∷ mask) = ap {B = List ℕ} (λ t. bit_xor x y ∷ t) (take-altered i f mask)

altered-nil : (f : List ℕ) → altered f [] ≡ f
altered-nil [] = refl
altered-nil (x ∷ f) = refl

pub drop-altered : (i : ℕ) (f mask : List ℕ) → drop i (altered f mask) ≡ altered (drop i f) (drop i mask)
drop-altered zero f mask = refl
drop-altered (suc i) [] mask = refl
drop-altered (suc i) (x ∷ f) [] = sym (altered-nil (drop i f))
drop-altered (suc i) (x ∷ f) (y ∷ mask) = drop-altered i f mask

altered_added : (f mask : List ℕ) → length f ≡ length mask → altered f mask ≡ added f mask
altered_added [] mask l = refl
altered_added (x ∷ f) [] l = absurd (omega arith)
altered_added (x ∷ f) (y ∷ mask) l = ap {B = List ℕ} (λ t. bit_xor x y ∷ t) (altered_added f mask (omega arith))

pub string-altered : (f mask : List ℕ) → length f ≡ length mask → string 8 (altered f mask) ≡ bit_xor (string 8 f) (string 8 mask)
string-altered f mask l = ap (string 8) (altered_added f mask l) ∙ string_added 8 f mask l

-- the flips between a string and its altered form are the mask's
pub flips-altered : (f mask : List ℕ) → length f ≡ length mask → flips f (altered f mask) ≡ string 8 mask
flips-altered f mask l =
    ap (bit_xor (string 8 f)) (string-altered f mask l)
    ∙ sym (xor_assoc (string 8 f) (string 8 f) (string 8 mask))
    ∙ ap (λ (x : ℕ). bit_xor x (string 8 mask)) (xor_self (string 8 f)) ∙ xor_zero_l (string 8 mask)

-- no flips leave a string as it is
pub unaltered : (f mask : List ℕ) → Bytes f → Bytes mask → length f ≡ length mask → string 8 mask ≡ 0 → altered f mask ≡ f
unaltered f mask p q l z =
    sym (no_flips f (altered f mask) p (bytes_altered f mask p q) (sym (length-altered f mask)) (flips-altered f mask l ∙ z))

more_sure : (e : ℕ) → Sure 16 3 false e → Sure 16 3 true e
more_sure e (Sure.span b) = Sure.span b
more_sure e (Sure.some_bits p q) = Sure.some_bits p q
more_sure e (Sure.uneven t k) = absurd t

-- two heads never differ by flips that a head is sure of
pub heads_apart : (u v : List ℕ) → Bytes u → Bytes v → length u ≡ length v → length u ≤ 64 → Crc 16 0x1021 u → Crc 16 0x1021 v
    → ¬ Sure 16 3 false (flips u v)
heads_apart u v p q l k c e s = head_notices u v p q l k c e (more_sure (flips u v) s)
