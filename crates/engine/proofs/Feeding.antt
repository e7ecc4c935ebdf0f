-- Feeding bytes to a register, as a division and as the engines do it.
-- Assumes nothing.
use Rattle.std.proofs.Common.{◌≡◌, ℕ, suc, ◌+◌, ◌-◌, ◌*◌, ◌/◌, ◌%◌, ◌^◌, ◌<◌, ◌≤◌, List, [], ◌∷◌, ◌++◌, length, get_or, take, sym, refl, ap, ◌∙◌, subst, ap₂, append_assoc, append-nil, mod-lt, mul_assoc, mul_comm, one-mul, zero-mul, sub-add_cancel, arith, pow_pos, pow-add, shr_lt, Bor}
use native.Mathlib.Nat.{mul-div-mul_right}
use lib.Bits.{bit_xor, xor_comm, xor_assoc, xor_lt, xor_shifted}
use Rattle.std.proofs.lemmas.List.{take_more}
use Rattle.poly.specs.Poly.{clmul, generator, rem, string, remainder}
use Rattle.poly.proofs.Product.{xor-shl, xor_parts, xor_cancel_r, clmul_xor_r}
use Rattle.poly.proofs.Division.{clmul-lt, shl_is, rem-xor, rem-shl, rem-small, rem_lt, rem-zero, rem_multiple}
use Rattle.poly.proofs.Strings.{joined, joined-append, joined-string}
use Rattle.engine.specs.Feed.{fed, fed_all}
use Rattle.engine.specs.Pieces.{Holds, Carries-on, flat}

pub fed_all-append : (h low r : ℕ) (s t : List ℕ) → fed_all h low r (s ++ t) ≡ fed_all h low (fed_all h low r s) t
fed_all-append h low r [] t = refl
fed_all-append h low r (b ∷ s) t = fed_all-append h low (fed h low r b) s t

-- one byte more of a string, as a loop feeds it: d, l and r are the engine's degree, low part and register before the byte
pub fed_all_more : (h low r₀ : ℕ) (bs : List ℕ) (i d l r s : ℕ) → i < length bs
    → r ≡ fed_all h low r₀ (take i bs) → d ≡ h → l ≡ low → s ≡ fed d l r (get_or bs i 0)
    → s ≡ fed_all h low r₀ (take (i + 1) bs)
fed_all_more h low r₀ bs i d l r s lt er ed el es =
    es ∙ ap₂ (λ d l. fed d l r (get_or bs i 0)) ed el ∙ ap (λ r. fed h low r (get_or bs i 0)) er
    ∙ sym (ap (fed_all h low r₀) (take_more bs i 0 lt) ∙ fed_all-append h low r₀ (take i bs) (get_or bs i 0 ∷ []))

-- from a register of zero the fed byte leaves its entry of the table
pub fed-zero : (h low a : ℕ) → fed h low 0 a ≡ rem h low (a * 2 ^ h)
unfolding fed
fed-zero h low a = refl

module _ (h low : ℕ) (small : low < 2 ^ h) where
  -- ---- a byte more

  -- with the register the remainder of p × X^h, a byte q fed to it gives that of (p × X^8 + q) × X^h
  pub fed_is : (p q : ℕ) → rem h low (bit_xor (p * 2 ^ 8) q * 2 ^ h) ≡ fed h low (rem h low (p * 2 ^ h)) q
  unfolding fed
  fed_is p q =
      ap (rem h low) (sym (xor-shl (p * 2 ^ 8) q h) ∙ ap (λ x. bit_xor x (q * 2 ^ h)) turn)
      ∙ rem-xor h low small (p * 2 ^ h * 2 ^ 8) (q * 2 ^ h)
      ∙ ap (λ x. bit_xor x (rem h low (q * 2 ^ h))) (rem-shl h low small (p * 2 ^ h) 8)
      ∙ sym (rem-xor h low small (rem h low (p * 2 ^ h) * 2 ^ 8) (q * 2 ^ h))
    where
      turn : p * 2 ^ 8 * 2 ^ h ≡ p * 2 ^ h * 2 ^ 8
      turn = mul_assoc p (2 ^ 8) (2 ^ h) ∙ ap (λ x. p * x) (mul_comm (2 ^ 8) (2 ^ h)) ∙ sym (mul_assoc p (2 ^ h) (2 ^ 8))

  -- .. and so for a string
  pub fed_all_is : (p : ℕ) (bs : List ℕ) → fed_all h low (rem h low (p * 2 ^ h)) bs ≡ rem h low (joined 8 p bs * 2 ^ h)
  fed_all_is p [] = refl
  fed_all_is p (b ∷ bs) = ap (λ r. fed_all h low r bs) (sym (fed_is p b)) ∙ fed_all_is (bit_xor (p * 2 ^ 8) b) bs

  -- pieces: feeding a string on from the remainder of what came before
  pub fed_all_piece : (s t : List ℕ) → fed_all h low (remainder h low s) t ≡ remainder h low (s ++ t)
  fed_all_piece s t =
      fed_all_is (string 8 s) t
      ∙ ap (λ x. rem h low (x * 2 ^ h))
      (ap (λ x. joined 8 x t) (sym (joined-string 8 s)) ∙ sym (joined-append 8 0 s t) ∙ joined-string 8 (s ++ t))

  -- a new register is that of the empty string
  pub fed_all-string : (s : List ℕ) → fed_all h low 0 s ≡ remainder h low s
  fed_all-string s = ap (λ r. fed_all h low r s) (sym (ap (rem h low) (zero-mul (2 ^ h)) ∙ rem-zero h low small)) ∙ fed_all_piece [] s

  pub fed-lt : (r q : ℕ) → fed h low r q < 2 ^ h
  unfolding fed
  fed-lt r q = rem_lt h low small (bit_xor (r * 2 ^ 8) (q * 2 ^ h))

  pub fed_bound : (r q x : ℕ) → x ≡ fed h low r q → x < 2 ^ h
  fed_bound r q x e = subst (λ y. y < 2 ^ h) (sym e) (fed-lt r q)

  -- ---- what the engines do in place of a division; h is at least 8

  module _ (eight : 8 ≤ h) where
    pow_h : 2 ^ h ≡ 2 ^ (h - 8) * 2 ^ 8
    pow_h = ap (λ n. 2 ^ n) (sym (sub-add_cancel eight)) ∙ pow-add 2 (h - 8) 8

    -- bitwise: put the byte at the top of the register, and then multiply by X eight times
    pub fed-bits : (r q : ℕ) → fed h low r q ≡ rem h low (bit_xor r (q * 2 ^ (h - 8)) * 2 ^ 8)
    unfolding fed
    fed-bits r q =
        ap (λ x. rem h low (bit_xor (r * 2 ^ 8) x)) (ap (λ x. q * x) pow_h ∙ sym (mul_assoc q (2 ^ (h - 8)) (2 ^ 8)))
        ∙ ap (rem h low) (xor-shl r (q * 2 ^ (h - 8)) 8)

    -- by a table: A is the top byte of the register plus q
    top_is : (r : ℕ) → r * 2 ^ 8 / 2 ^ h ≡ r / 2 ^ (h - 8)
    top_is r = ap (λ x. r * 2 ^ 8 / x) pow_h ∙ mul-div-mul_right r (2 ^ (h - 8)) (pow_pos 8)

    pub fed_table : (r q : ℕ)
        → fed h low r q ≡ bit_xor (r * 2 ^ 8 % 2 ^ h) (rem h low (bit_xor (r / 2 ^ (h - 8)) q * 2 ^ h))
    unfolding fed
    fed_table r q =
        ap (λ x. rem h low (bit_xor x (q * 2 ^ h)))
        (sym (xor_parts (r * 2 ^ 8) h) ∙ xor_comm (r * 2 ^ 8 / 2 ^ h * 2 ^ h) (r * 2 ^ 8 % 2 ^ h))
        ∙ ap (rem h low)
        (xor_assoc (r * 2 ^ 8 % 2 ^ h) (r * 2 ^ 8 / 2 ^ h * 2 ^ h) (q * 2 ^ h)
        ∙ ap (bit_xor (r * 2 ^ 8 % 2 ^ h)) (xor-shl (r * 2 ^ 8 / 2 ^ h) q h))
        ∙ rem-xor h low small (r * 2 ^ 8 % 2 ^ h) (bit_xor (r * 2 ^ 8 / 2 ^ h) q * 2 ^ h)
        ∙ ap₂ bit_xor
        (rem-small h low small (r * 2 ^ 8 % 2 ^ h) (mod-lt (r * 2 ^ 8) (pow_pos h)))
        (ap (λ x. rem h low (bit_xor x q * 2 ^ h)) (top_is r))

    -- the top byte is one
    pub top_lt : (r q : ℕ) → r < 2 ^ h → q < 2 ^ 8 → bit_xor (r / 2 ^ (h - 8)) q < 2 ^ 8
    top_lt r q lr lq =
        let e : h ≡ 8 + (h - 8) = omega arith in
        xor_lt 8 (r / 2 ^ (h - 8)) q (shr_lt 8 (h - 8) (subst (λ n. r < 2 ^ n) e lr)) lq

    -- fast: where the low part has a degree of at most h - 8, the product needs no reduction
    pub rem_fast : (a : ℕ) → a < 2 ^ 8 → low < 2 ^ (h - 7) → rem h low (a * 2 ^ h) ≡ clmul a low
    rem_fast a la ll =
        ap (rem h low)
        (sym (shl_is h low small a h) ∙ ap (clmul a) apart ∙ clmul_xor_r a (generator h low) low)
        ∙ rem-xor h low small (clmul a (generator h low)) (clmul a low)
        ∙ ap₂ bit_xor (rem_multiple h low small a) (rem-small h low small (clmul a low) below)
      where
        apart : 2 ^ h ≡ bit_xor (generator h low) low
        apart =
            sym (xor_cancel_r (2 ^ h) low)
            ∙ ap (λ x. bit_xor x low)
            (ap (λ x. bit_xor x low) (sym (one-mul (2 ^ h))) ∙ xor_shifted 1 h low small ∙ ap (λ x. x + low) (one-mul (2 ^ h)))

        below : clmul a low < 2 ^ h
        below =
            let e : h - 7 ≡ suc (h - 8) = omega arith in
            let f : 8 + (h - 8) ≡ h = omega arith in
            subst (λ n. clmul a low < 2 ^ n) f (clmul-lt 8 (h - 8) a low la (subst (λ n. low < 2 ^ n) e ll))

    -- one look-up in a table of the remainders of a × X^h
    pub looked_up_lem : (entries : List ℕ) → ((a : ℕ) → a < 256 → get_or entries a 0 ≡ rem h low (a * 2 ^ h))
        → (r q top kept : ℕ) → r < 2 ^ h → q < 2 ^ 8 → top ≡ bit_xor (r / 2 ^ (h - 8)) q → kept ≡ r * 2 ^ 8 % 2 ^ h
        → bit_xor kept (get_or entries top 0) ≡ fed h low r q
    looked_up_lem entries table r q top kept lr lq et ek =
        ap₂ (λ k t. bit_xor k (get_or entries t 0)) ek et
        ∙ ap (bit_xor (r * 2 ^ 8 % 2 ^ h)) (table (bit_xor (r / 2 ^ (h - 8)) q) (top_lt r q lr lq))
        ∙ sym (fed_table r q)

    -- one product of a byte and the low part
    pub multiplied : low < 2 ^ (h - 7) → (r q top kept : ℕ) → r < 2 ^ h → q < 2 ^ 8
        → top ≡ bit_xor (r / 2 ^ (h - 8)) q → kept ≡ r * 2 ^ 8 % 2 ^ h → bit_xor kept (clmul top low) ≡ fed h low r q
    multiplied ll r q top kept lr lq et ek =
        ap₂ (λ k t. bit_xor k (clmul t low)) ek et
        ∙ ap (bit_xor (r * 2 ^ 8 % 2 ^ h)) (sym (rem_fast (bit_xor (r / 2 ^ (h - 8)) q) (top_lt r q lr lq) ll))
        ∙ sym (fed_table r q)

-- ---- whole strings, as contracts have them

-- nothing leaves nothing
pub holds_none : (h low r : ℕ) → low < 2 ^ h → r ≡ 0 → Holds h low r []
holds_none h low r small e = e ∙ sym (ap (rem h low) (zero-mul (2 ^ h)) ∙ rem-zero h low small)

pub carried_on : (h low before after : ℕ) (piece : List ℕ) → low < 2 ^ h → after ≡ fed_all h low before piece → Carries-on h low before after piece
carried_on h low before after piece small e s held =
    e ∙ ap (λ r. fed_all h low r piece) held ∙ fed_all_piece h low small s piece

-- a message fed to a register of zero: h' and low' are the engine's degree and low part
pub fed_message : (h low h' low' before after : ℕ) (message : List ℕ) → low' < 2 ^ h' → h' ≡ h → low' ≡ low → before ≡ 0
    → after ≡ fed_all h' low' before message → after ≡ remainder h low message
fed_message h low h' low' before after message small eh el eb e =
    e ∙ ap (λ r. fed_all h' low' r message) eb ∙ fed_all-string h' low' small message ∙ ap₂ (λ h low. remainder h low message) eh el

-- ---- pieces

flat_append : (ps qs : List (Bor (List ℕ))) → flat (ps ++ qs) ≡ flat ps ++ flat qs
flat_append [] qs = refl
flat_append (p ∷ ps) qs = ap (λ x. p.now ++ x) (flat_append ps qs) ∙ sym (append_assoc p.now (flat ps) (flat qs))

-- one piece more
pub flat_more : (ps : List (Bor (List ℕ))) (i : ℕ) (d : Bor (List ℕ)) → i < length ps → flat (take (i + 1) ps) ≡ flat (take i ps) ++ (get_or ps i d).now
flat_more ps i d h = rw (take_more ps i d h, flat_append, append-nil)

pub piece_more : (h low h' low' before after : ℕ) (ps : List (Bor (List ℕ))) (i : ℕ) (d : Bor (List ℕ)) → h' ≡ h → low' ≡ low → i < length ps
    → before ≡ remainder h low (flat (take i ps)) → Carries-on h' low' before after (get_or ps i d).now
    → after ≡ remainder h low (flat (take (i + 1) ps))
piece_more h low h' low' before after ps i d eh el lt held on =
    on (flat (take i ps)) (held ∙ sym (ap₂ (λ h low. remainder h low (flat (take i ps))) eh el))
    ∙ ap₂ (λ h low. remainder h low (flat (take i ps) ++ (get_or ps i d).now)) eh el
    ∙ ap (remainder h low) (sym (flat_more ps i d lt))
