-- One table more.
-- Assumes nothing.
use Rattle.std.proofs.Common.{◌≡◌, ◌+◌, ◌-◌, ◌*◌, ◌^◌, ap, ◌∙◌, subst, not-suc-le-zero, arith, length-set}
use Rattle.poly.specs.Poly.{rem}
use Rattle.engine.specs.Tables.{Entries}
use Rattle.poly.proofs.Masks.{low_is}
use Rattle.slicing.proofs.Filling.{first_more, tables_more}
use Rattle.slicing.proofs.tables.tabulate_all.Goals as goal

pub loop-table-init : goal.loop-table-init
loop-table-init c =
    let g = c.args.generator in
    let none : g.degree ≡ g.degree + 8 * 0 = omega arith in (
      c.low-first.ensures ∙ low_is g.degree g.low g.ok.2 ∙ ap (λ n. rem g.degree g.low (2 ^ n)) none,
      omega arith,
      λ j a l. absurd (not-suc-le-zero l.0),
    )

pub loop-table-preserved : goal.loop-table-preserved
loop-table-preserved c =
    let g = c.args.generator in
    let j = c.loop-table.table-index in
    let i = c.loop-table.invariant in
    let low = g.low * 2 ^ (32 - g.degree) in
    let e : g.degree + 8 * j + (32 - g.degree) ≡ 32 + 8 * j = omega (arith, g.ok.1) in
    let table = c.tabulate_at_top-first.new.entries in (
      first_more g.degree g.low g.ok.2 (g.degree + 8 * j) (g.degree + 8 * (j + 1)) c.loop-table.first c.tabulate_at_top-first.result
          (omega arith) i.0 c.tabulate_at_top-first.ensures.next,
      simp length-set i.1,
      tables_more low c.loop-table.tables j table (omega arith) i.2
          (subst (λ k. Entries 32 low k table) e (c.tabulate_at_top-first.ensures.entries (g.degree + 8 * j) i.0)),
    )
