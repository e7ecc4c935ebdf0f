-- The first four rules of take, and what it goes on with.
-- Assumes nothing.
use Rattle.std.specs.Prelude.{ℕ, suc, ◌+◌, ◌-◌, List, length, take, drop, Ok, Err, Result, ◌==◌, nat_le, slice_index}
use Rattle.answer.specs.declared.fault.Fault.{Fault}
use Rattle.answer.specs.declared.fault.Layer.TheVariants.{Frame}
use Rattle.answer.specs.Refusal.{Refusal, refusal, refusal_of}
use Rattle.answer.specs.Rules.{then, need}
use Rattle.code.specs.declared.description.Description.{Description}
use Rattle.code.specs.Model.{Asked}
use Rattle.station.specs.declared.parts.Parts.{Parts}
use Rattle.station.specs.Layout.{layout}
use Rattle.station.specs.Frame.{ccitt, pair_at, alike, differ}

-- The number, the ten bytes of the description, and the word.
pub record PlainParts : Type 0 where
  pub number : ℕ
  pub coded : List ℕ
  pub word : List ℕ

-- The parts of a frame that keeps the first four rules, or the refusal.
abbrev pub parts_of : List ℕ → Result PlainParts Refusal
parts_of f =
    then (need (nat_le (suc layout.size) (length f)) (refusal 41 Frame (length f))) (λ _.
    then (need (slice_index f 0 == layout.mark) (refusal 42 Frame 0)) (λ _.
    then (need (pair_at f layout.checked == ccitt (take layout.checked f)) (refusal 43 Frame layout.checked)) (λ _.
    then (need (layout.size + pair_at f 12 == length f) (refusal 44 Frame 12)) (λ _.
    Ok (record { number = slice_index f 1; coded = take 10 (drop 2 f); word = drop layout.size f })))))

-- The parts that the code lends, read as values.
abbrev pub parts_seen : Result Parts Fault → Result PlainParts Refusal
parts_seen (Ok p) = Ok (record { number = p.number; coded = p.coded.now; word = p.word.now })
parts_seen (Err f) = Err (refusal_of f)

-- The message of a word whose last k bytes are its check, by the description d.
abbrev pub message_of : Asked → Description → ℕ → List ℕ → Result (List ℕ) Refusal
message_of a d k w =
    then (a.check d (take (length w - k) w) 64) (λ c.
    then (alike 47 (layout.size + (length w - k)) (differ (drop (length w - k) w) c)) (λ _.
    Ok (take (length w - k) w)))
