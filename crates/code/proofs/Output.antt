-- A number that has room in an output is there.
-- Assumes nothing.
use Rattle.std.proofs.Common.{◌≡◌, ℕ, ◌+◌, ◌*◌, ◌^◌, ◌<◌, ◌≤◌, true, cond, List, ◌++◌, length, take, drop, ap}
use Rattle.std.proofs.lemmas.Bool.{le-leb, lt-ltb}
use Rattle.words.specs.Digits.{digits}
use Rattle.code.specs.Output.{has_room, with_number}

pub has_room_lem : (room at count value : ℕ) → count ≤ 4 → at + count ≤ room → value < 2 ^ (8 * count) → has_room room at count value ≡ true
has_room_lem room at count value few fits below =
    let a = le-leb count 4 few in
    let b = le-leb (at + count) room fits in
    let c = lt-ltb value (2 ^ (8 * count)) below in
    rw (a, b, c)

pub put_is : (out : List ℕ) (at count value : ℕ) → count ≤ 4 → at + count ≤ length out → value < 2 ^ (8 * count)
    → with_number out at count value ≡ take at out ++ (digits count value ++ drop (at + count) out)
put_is out at count value few fits below =
    ap (λ b. cond b (take at out ++ (digits count value ++ drop (at + count) out)) out) (has_room_lem (length out) at count value few fits below)
