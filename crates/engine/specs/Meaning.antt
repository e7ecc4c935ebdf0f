-- What holds of every engine at all times, and which generators the named engines carry.
-- Assumes nothing.
use Rattle.std.specs.Prelude.{◌≡◌, ℕ, ◌-◌, ◌%◌, ◌^◌, ◌<◌, ◌≤◌, Bool, true, ◌&&◌, ◌==◌, nat_lt}

-- An engine holds a generator that it carries, and a register of that many bits.
pub record Sound (h low register : ℕ) (carries : ℕ → ℕ → Bool) : Type 0 where
  pub least : 8 ≤ h
  pub most : h ≤ 32
  pub small : low < 2 ^ h
  pub constant : low % 2 ≡ 1
  pub below : register < 2 ^ h
  pub carried : carries h low ≡ true

-- The bitwise and the table engine.
abbrev pub carries_all : ℕ → ℕ → Bool
carries_all h low = true

-- The ready-made engine: X^32 + 04C11DB7 alone.
abbrev pub carries_ieee : ℕ → ℕ → Bool
carries_ieee h low = h == 32 && low == 0x04C11DB7

-- The fast engine: low parts of a degree of at most h - 8.
abbrev pub carries_short : ℕ → ℕ → Bool
carries_short h low = nat_lt low (2 ^ (h - 7))

-- An engine set to a generator and fed a string which leaves r, or left as it was, by the choice `pick`: its degree, low part,
-- register and what it carries, before and after.
pub record Left (pick : ℕ → ℕ → ℕ) (degree low r : ℕ) (h₀ low₀ r₀ : ℕ) (c₀ : ℕ → ℕ → Bool) (h₁ low₁ r₁ : ℕ) (c₁ : ℕ → ℕ → Bool) : Type 0 where
  pub degree_after : h₁ ≡ pick degree h₀
  pub low_after : low₁ ≡ pick low low₀
  pub register_after : r₁ ≡ pick r r₀
  pub carries_after : c₁ ≡ c₀
