-- One line more, and in the end all of them.
-- Assumes nothing.
use Rattle.std.proofs.Common.{◌≡◌, ℕ, suc, ◌+◌, ◌≤◌, ◌++◌, length, vec_items, sym, refl, ap, ◌∙◌, ap₂, inl, arith}
use Rattle.std.specs.Iterator.Adapters.{enumerate_count, enumerate_source}
use Rattle.code.specs.Model.{asked}
use Rattle.station.specs.Items.{items}
use Rattle.console.specs.Lines.{lines_of}
use Rattle.console.specs.declared.lines.Lines.{Lines}
use Rattle.console.specs.Transcript.{transcript_from}
use Rattle.console.proofs.Cuts.{few_lines}
use Rattle.console.proofs.Turns.{turn}
use Rattle.console.proofs.transcript.obey_all.Goals as goal

pub loop-i-init : goal.loop-i-init
loop-i-init g c =
    let s = c.args.console.now.station in
    let a = asked (g.K.Kind.model s.bank) in
    let xs = c.args.input.now in
    let same = c.into_iter-i-iterator.ensures.into_iter_gives in
    let none : enumerate_count c.into_iter-i-iterator.result ≡ 0 = ap (λ t. enumerate_count {I = Lines} t) same ∙ c.enumerate-i-items.ensures.count in
    let all : (enumerate_source {I = Lines} c.into_iter-i-iterator.result).0.now ≡ xs =
    ap (λ t. (enumerate_source {I = Lines} t).0.now) same ∙ ap (λ (t : Lines). t.0.now) c.enumerate-i-items.ensures.source in
    let few = few_lines (enumerate_source {I = Lines} c.into_iter-i-iterator.result).0.now in
    let bound : enumerate_count c.into_iter-i-iterator.result + length (lines_of (enumerate_source {I = Lines} c.into_iter-i-iterator.result).0.now) ≤ length xs =
    omega (arith, few, none, ap length all) in (
      ((tt, tt, inl (omega (arith, bound))), tt),
      ap₂ (λ (n : ℕ) y. vec_items c.args.out.now ++ transcript_from a (suc n) (items s.book) (lines_of y)) none all,
      refl,
      bound,
    )

pub loop-i-preserved : goal.loop-i-preserved
loop-i-preserved g c =
    let m = g.K.Kind.model in
    let l = c.loop-i in
    let s = c.args.console.now.station in
    let a = asked (m s.bank) in
    let total = vec_items c.args.out.now ++ transcript_from a 1 (items s.book) (lines_of c.args.input.now) in
    let told = c.in_ok-obey.ensures in
    let i = c.in-Some.i in
    let steps = c.in-Some.ensures.steps in
    let rest = (enumerate_source {I = Lines} c.next.new.self).0.now in
    let bound : enumerate_count c.next.new.self + length (lines_of rest) ≤ length c.args.input.now =
    omega (arith, l.invariant.3, ap length steps.0, steps.2) in (
      ((tt, tt, inl (omega (arith, bound))), tt),
      ap (λ k. vec_items c.obey.new.out ++ transcript_from a (suc k) (items c.obey.new.self.station.book) (lines_of rest)) (steps.2 ∙ ap (λ k. k + 1) (sym steps.1))
          ∙ turn a i (items l.console.station.book) (vec_items l.out) total
          (asked (m l.console.station.bank)) (items c.obey.new.self.station.book) c.in-Some.line.now (lines_of rest)
          (lines_of (enumerate_source {I = Lines} l.i-iterator).0.now) (vec_items c.obey.new.out) (ap asked l.invariant.2) told.printed told.book steps.0
          (ap (λ k. vec_items l.out ++ transcript_from a (suc k) (items l.console.station.book) (lines_of (enumerate_source {I = Lines} l.i-iterator).0.now)) steps.1 ∙ l.invariant.1),
      told.bank ∙ l.invariant.2,
      bound,
    )
