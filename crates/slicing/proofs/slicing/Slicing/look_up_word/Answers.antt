-- Four bytes are the sum of each at its place.
-- Assumes nothing.
use Rattle.std.proofs.Common.{◌≡◌, ℕ, ◌+◌, ◌-◌, ◌*◌, ◌^◌, ◌<◌, [], get_or, refl, subst, arith}
use Rattle.engine.specs.Tables.{Entries}
use Rattle.engine.proofs.Aligned.{up_lt}
use Rattle.slicing.proofs.Filling.{table_of}
use Rattle.slicing.proofs.Sixteen.{four_is}
use Rattle.slicing.proofs.slicing.Slicing.look_up_word.Goals as goal

pub returns : goal.returns
returns c =
    let s = c.args.self.now in
    let g = s.register.generator in
    let low = g.low * 2 ^ (32 - g.degree) in
    let small = up_lt g.degree g.ok.1 g.low g.ok.2 in
    let tables = s.table in
    let k = c.args.k in
    let t = s.tables in
    let w = c.args.word in
    let at : (j n : ℕ) → j < 16 → 32 + 8 * j ≡ n → Entries 32 low n (get_or t j []) =
    λ j n l e. subst (λ n. Entries 32 low n (get_or t j [])) e (table_of low 16 t tables j l) in
    four_is low small (get_or t (k + 3) []) (get_or t (k + 2) []) (get_or t (k + 1) []) (get_or t k []) (32 + 8 * k)
    (get_or w 0 0) (get_or w 1 0) (get_or w 2 0) (get_or w 3 0)
    c.element_fits.fits c.element_fits2.fits c.element_fits3.fits c.element_fits4.fits
    (at (k + 3) _ (omega arith) (omega arith)) (at (k + 2) _ (omega arith) (omega arith)) (at (k + 1) _ (omega arith) (omega arith))
    (at k _ (omega arith) refl)
