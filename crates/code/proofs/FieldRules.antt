-- What the rules on low parts and reaches say where they are kept.
-- Assumes nothing.
use Rattle.std.proofs.Common.{◌≡◌, ℕ, ◌+◌, ◌%◌, ◌^◌, ◌<◌, ◌≤◌, true, ◌&&◌, eqb, ltb, leb}
use Rattle.std.proofs.lemmas.Bool.{leb-true, ltb-true, eqb-true, and_parts}
use Rattle.code.specs.Fields.{proper_low, lawful_reach}

pub proper_low_lem : (h low : ℕ) → proper_low h low ≡ true → (low < 2 ^ h) × (low % 2 ≡ 1)
proper_low_lem h low e =
    let p = and_parts (ltb low (2 ^ h)) (eqb (low % 2) 1) e in
    (ltb-true low (2 ^ h) p.0, eqb-true (low % 2) 1 p.1)

pub lawful_reach_lem : (tuple check reach : ℕ) → lawful_reach tuple check reach ≡ true
    → (reach % tuple ≡ 0) × (check + tuple ≤ reach) × (reach ≤ 4096)
lawful_reach_lem tuple check reach e =
    let p = and_parts (eqb (reach % tuple) 0 && leb (check + tuple) reach) (leb reach 4096) e in
    let q = and_parts (eqb (reach % tuple) 0) (leb (check + tuple) reach) p.0 in
    (eqb-true (reach % tuple) 0 q.0, leb-true (check + tuple) reach q.1, leb-true reach 4096 p.1)
