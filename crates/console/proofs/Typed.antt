-- The calls of lines are calls that a program can make: their numbers fit their bytes.
-- Assumes nothing.
use Rattle.std.proofs.Common.{ℕ, zero, suc, ◌+◌, ◌^◌, ◌<◌, List, [], ◌∷◌, map, replicate, Ok, Err, Result, arith}
use Rattle.std.specs.List.{AllByRecursion}
use Rattle.answer.specs.Refusal.{Refusal}
use Rattle.words.specs.Flips.{Bytes}
use Rattle.code.specs.Coded.{described_at, pair_at, quad_at}
use Rattle.code.specs.Model.{Fits}
use Rattle.station.specs.Calls.{Typed}
use Rattle.console.specs.Decode.{decoded}
use Rattle.console.specs.Deeds.{enters_by, seals_by, blank, Deed, nothing, refused, makes, deed, deed_of}
use Rattle.console.specs.Grammar.{PlainLine, entry, narrowing, retirement, message, frame, remark, empty, line_of}
use Rattle.console.specs.Transcript.{calls_of}
use Rattle.console.proofs.Hexes.{decoded_bytes, byte_at, bytes_drop}

zeros : (n : ℕ) → Bytes (replicate n 0)
zeros zero = tt
zeros (suc n) = (omega arith, zeros n)

blank_bytes : Bytes blank
unfolding blank
blank_bytes = zeros 4112

module _ (s : List ℕ) (p : Bytes s) where
  pair_fits : (i : ℕ) → pair_at s i < 2 ^ 16
  pair_fits i = omega (arith, byte_at s i p, byte_at s (i + 1) p)

  quad_fits : (i : ℕ) → quad_at s i < 2 ^ 32
  quad_fits i = omega (arith, pair_fits i, pair_fits (i + 2))

  description_fits : (i : ℕ) → Fits (described_at s i)
  description_fits i = record {
    kind = byte_at s i p;
    degree = byte_at s (i + 1) p;
    low = quad_fits (i + 2);
    degree2 = byte_at s (i + 6) p;
    low2 = pair_fits (i + 7);
    tuple = byte_at s (i + 9) p;
  }

  enter_typed : Typed (enters_by s)
  enter_typed = (byte_at s 0 p, description_fits 1, pair_fits 11)

  pub seal_typed : Typed (seals_by s)
  seal_typed = (byte_at s 0 p, bytes_drop 1 s p, blank_bytes)

abbrev TypedDeed : Deed → Type 0
TypedDeed nothing = Unit {0}
TypedDeed (refused r) = Unit {0}
TypedDeed (makes c) = Typed c

deed_typed : (x : Result PlainLine Refusal) → TypedDeed (deed x)
deed_typed (Ok (entry d)) = enter_typed (decoded d) (decoded_bytes d)
deed_typed (Ok (narrowing d)) = (byte_at (decoded d) 0 (decoded_bytes d), pair_fits (decoded d) (decoded_bytes d) 1)
deed_typed (Ok (retirement d)) = byte_at (decoded d) 0 (decoded_bytes d)
deed_typed (Ok (message d)) = seal_typed (decoded d) (decoded_bytes d)
deed_typed (Ok (frame d)) = decoded_bytes d
deed_typed (Ok remark) = tt
deed_typed (Ok empty) = tt
deed_typed (Err r) = tt

add : (d : Deed) (ds : List Deed) → TypedDeed d → AllByRecursion Typed (calls_of ds) → AllByRecursion Typed (calls_of (d ∷ ds))
add nothing ds t ts = ts
add (refused r) ds t ts = ts
add (makes c) ds t ts = (t, ts)

pub calls_typed : (lines : List (List ℕ)) → AllByRecursion Typed (calls_of (map deed_of lines))
calls_typed [] = tt
calls_typed (line ∷ lines) = add (deed_of line) (map deed_of lines) (deed_typed (line_of line)) (calls_typed lines)
