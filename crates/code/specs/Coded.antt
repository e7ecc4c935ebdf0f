-- A description in ten bytes, and the description in ten bytes.
-- Assumes nothing.
use Rattle.std.specs.Prelude.{◌≡◌, ℕ, ◌+◌, ◌*◌, List, [], ◌∷◌, ◌++◌, slice_index}
use Rattle.words.specs.Digits.{digits}
use Rattle.code.specs.declared.description.Description.{Description}

-- A description in ten bytes, the larger numbers high byte first.
abbrev pub coded : Description → List ℕ
coded d = d.kind ∷ d.degree ∷ (digits 4 d.low ++ (d.degree2 ∷ (digits 2 d.low2 ++ (d.tuple ∷ []))))

-- Two bytes of a string as a number.
abbrev pub pair_at : List ℕ → ℕ → ℕ
pair_at s i = slice_index s i * 256 + slice_index s (i + 1)

-- Four bytes of a string as a number.
abbrev pub quad_at : List ℕ → ℕ → ℕ
quad_at s i = pair_at s i * 65536 + pair_at s (i + 2)

-- The description in the ten bytes of a string from place i on.
abbrev pub described_at : List ℕ → ℕ → Description
described_at s i = record {
  kind = slice_index s i;
  degree = slice_index s (i + 1);
  low = quad_at s (i + 2);
  degree2 = slice_index s (i + 6);
  low2 = pair_at s (i + 7);
  tuple = slice_index s (i + 9);
}

-- What ten bytes are read as: their description, which is the one that they are the bytes of.
pub record IsReadFrom (ten : List ℕ) (d : Description) : Type 0 where
  pub is : d ≡ described_at ten 0
  pub undoes : (e : Description) → ten ≡ coded e → d ≡ e
