-- Two kinds as one: the left one serves its own numbers, the right one all others.
-- Assumes nothing.
use Rattle.std.specs.Prelude.{cond, ◌||◌}
use Rattle.code.specs.Model.{Model}

abbrev pub joined : Model → Model → Model
joined l r = record {
  serves = λ k. l.serves k || r.serves k;
  fits = λ d. cond (l.serves d.kind) (l.fits d) (r.fits d);
  reaches = λ d reach. cond (l.serves d.kind) (l.reaches d reach) (r.reaches d reach);
  sheet = λ d. cond (l.serves d.kind) (l.sheet d) (r.sheet d);
  check = λ d message. cond (l.serves d.kind) (l.check d message) (r.check d message);
}
