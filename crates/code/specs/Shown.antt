-- How a description is printed.
-- Assumes nothing.
use Rattle.std.specs.Prelude.{ℕ, List, ◌∷◌, ◌++◌}
use Rattle.answer.specs.Shown.{hexadecimal}
use Rattle.code.specs.declared.description.Description.{Description}

-- Its fields in hexadecimal, by all digits of each, with a space between them.
abbrev pub spelled : Description → List ℕ
spelled d =
    hexadecimal 2 d.kind ++ 32 ∷ (hexadecimal 2 d.degree ++ 32 ∷ (hexadecimal 8 d.low ++ 32 ∷ (hexadecimal 2 d.degree2
    ++ 32 ∷ (hexadecimal 4 d.low2 ++ 32 ∷ hexadecimal 2 d.tuple))))
