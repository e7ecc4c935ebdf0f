-- How numbers, layers and refusals are printed.
-- Assumes nothing.
use Rattle.std.specs.Prelude.{ℕ, ◌-◌, ◌^◌, false, true, List, [], ◌∷◌, ◌++◌, codes}
use Rattle.std.specs.Fmt.{decimal, digits, format_spec, padded_integral}
use Rattle.answer.specs.declared.fault.Layer.{Layer}
use Rattle.answer.specs.declared.fault.Layer.TheVariants.{Line, Engine, Kind, Book, Frame}
use Rattle.answer.specs.declared.fault.Fault.{Fault}
use Rattle.answer.specs.Refusal.{refusal_of}

-- The name of a layer in ASCII.
abbrev pub name_of : Layer → List ℕ
name_of Line = codes "line"
name_of Engine = codes "engine"
name_of Kind = codes "kind"
name_of Book = codes "book"
name_of Frame = codes "frame"

-- A refusal as it is printed: number, layer and place, with a space between them.
abbrev pub shown : Fault → List ℕ
shown f = decimal (refusal_of f).number ++ 32 ∷ (name_of (refusal_of f).layer ++ 32 ∷ decimal (refusal_of f).place)

-- A number in upper-case hexadecimal with at least some digits: zeros stand before it.
abbrev pub hexadecimal : ℕ → ℕ → List ℕ
hexadecimal least n = padded_integral (format_spec 32 0 4 least (2 ^ 64 - 1)) false [] (digits 16 true n)
