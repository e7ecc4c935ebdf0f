-- The first j tables are there, and `first` is the remainder of X^(degree + 8j).
-- Assumes nothing.
use Rattle.std.proofs.Common.{◌≡◌, ◌+◌, ◌-◌, ◌*◌, ◌^◌, length}
use Rattle.poly.specs.Poly.{rem}
use Rattle.slicing.specs.Tables.{Tables}
use Rattle.slicing.proofs.tables.tabulate_all.Given as goal

abbrev pub invariant-loop-table : goal.invariant-loop-table
invariant-loop-table l =
    (l.first ≡ rem l.generator.degree l.generator.low (2 ^ (l.generator.degree + 8 * l.table-index)))
    × (length l.tables ≡ 16)
    × Tables (l.generator.low * 2 ^ (32 - l.generator.degree)) l.table-index l.tables
