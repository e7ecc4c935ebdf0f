-- The layout of a frame's head.
-- Assumes nothing.
use Rattle.std.specs.Prelude.{ℕ}

-- The first byte of the head, its length, and the place of its check.
pub record Layout : Type 0 where
  pub mark : ℕ
  pub size : ℕ
  pub checked : ℕ

-- The one layout there is.
abbrev pub layout : Layout
layout = record { mark = 1; size = 16; checked = 14 }
