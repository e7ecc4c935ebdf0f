-- A value of h bits fits at the top, so nothing is shifted out.
-- Assumes nothing.
use Rattle.std.proofs.Common.{◌+◌, ◌-◌, ◌*◌, ◌%◌, ◌^◌, ◌≤◌, ap, ◌∙◌, arith}
use Rattle.std.proofs.lemmas.Nat.{shl_whole}
use Rattle.engine.proofs.register.Register.at_top.Goals as goal

pub returns : goal.returns
returns c =
    let r = c.args.self in
    let g = r.generator in
    let bound : g.degree + (32 - g.degree) ≤ 32 = omega (arith, g.ok.1) in
    ap (λ d. r.value * 2 ^ (32 - d) % 2 ^ 32) c.degree.ensures ∙ shl_whole r.value g.degree (32 - g.degree) 32 r.ok.1 bound
