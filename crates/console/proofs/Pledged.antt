-- What the line program promises.
-- Assumes nothing.
use Rattle.std.proofs.Common.{◌≡◌, ℕ, ◌≤◌, List, map, length, get_or, drop, Some, Ok, Err, Result, sym, ap, ◌∙◌, subst, inl, inr, arith}
use Rattle.answer.specs.Refusal.{Refusal}
use Rattle.code.specs.Model.{Model, asked, length_of, written}
use Rattle.station.specs.declared.entry.Entry.{Entry}
use Rattle.station.specs.Book.{PlainBook, held}
use Rattle.station.specs.Calls.{Answer, wrote, book_after}
use Rattle.runs.specs.Ruling.{GoesBy, works, refuses, FirstBroken, Unrefused, seal_rules, Written}
use Rattle.runs.proofs.Admitted.{all_held}
use Rattle.runs.proofs.EveryCall.{answers_by_rules, runs_by_rules, held_unrefused}
use Rattle.runs.proofs.Pledged.{stations_promise}
use Rattle.console.specs.Decode.{decoded}
use Rattle.console.specs.Deeds.{blank, seals_by, deed_of}
use Rattle.console.specs.Lines.{lines_of}
use Rattle.console.specs.Pledge.{calls_in, RoomForAll, LinesPromise}
use Rattle.console.specs.Transcript.{printed}
use Rattle.console.proofs.Cuts.{lines_rejoin}
use Rattle.console.proofs.Hexes.{decoded_bytes}
use Rattle.console.proofs.Saying.{calls_said}
use Rattle.console.proofs.Sealing.{long}
use Rattle.console.proofs.Turns.{first}
use Rattle.console.proofs.Typed.{calls_typed, seal_typed}

-- ---- room for every frame

-- A refusal of a seal into 4,112 bytes is 23, 31 or 32: an entry's reach is at most 4,096, and the head has 16 bytes.
never : (m : Model) (b : PlainBook) (n : ℕ) (s : List ℕ) (room : ℕ) (r : Refusal) → room ≡ 4112
    → ((e : Entry) → held b n ≡ Some e → e.reach ≤ 4096)
    → FirstBroken (seal_rules m b n s room) r → ¬ (r.number ≡ 33)
never m b n s room r l most (inl (_, e)) k = let q = ap (λ z. z.number) e in omega arith
never m b n s room r l most (inr (_, inl (_, e))) k = let q = ap (λ z. z.number) e in omega arith
never m b n s room r l most (inr (_, inr (_, inl (_, e)))) k = let q = ap (λ z. z.number) e in omega arith
never m b n s room r l most (inr (_, inr (_, inr (within, inl (short, _))))) k =
    short (λ e h. omega (arith, l, most e h, within e h))
never m b n s room r l most (inr (_, inr (_, inr (_, inr (_, none))))) k = none

-- The refusal of a seal is that of what is sealed.
refusal_is : (y : Result (List ℕ) Refusal) (out more : List ℕ) (r : Refusal)
    → ◌≡◌ {A = Answer} (wrote (length_of y) more) (wrote (Err r) out) → y ≡ Err r
refusal_is (Ok f) out more r e = let z : ◌≡◌ {A = ℕ} 0 1 = cc in absurd (omega arith)
refusal_is (Err q) out more r e = cc

goes_refused : (m : Model) (b : PlainBook) (n : ℕ) (s : List ℕ) (room : ℕ) (y : Result (List ℕ) Refusal) (r : Refusal)
    → GoesBy (seal_rules m b n s room) (Written m b n s) y → y ≡ Err r → FirstBroken (seal_rules m b n s room) r
goes_refused m b n s room y r (works none p) e = let z : ◌≡◌ {A = ℕ} 0 1 = cc in absurd (omega arith)
goes_refused m b n s room y r (refuses {z} f) e = let q : z ≡ r = cc in subst (FirstBroken (seal_rules m b n s room)) q f

room_for_all : RoomForAll
room_for_all m keeps cs d out r e =
    let b = book_after (asked m) cs in
    let s = decoded d in
    let n = get_or s 0 0 in
    let t = drop 1 s in
    let by = answers_by_rules m keeps cs (seals_by s) (seal_typed s (decoded_bytes d)) in
    let y = by.0 in
    let broken = goes_refused m b n t (length blank) y r by.2 (refusal_is y out (written y blank) r (sym by.1 ∙ e)) in
    never m b n t (length blank) r long (λ x h. (all_held (Unrefused m) b n x (held_unrefused m keeps cs) h).lawful.most) broken

pub lines_promise : LinesPromise
lines_promise = record {
  lines = lines_rejoin;
  one_by_one = λ a n b line lines. first a n b (deed_of line) (map deed_of lines);
  said = calls_said;
  ruled = λ m keeps input. runs_by_rules m keeps _ (calls_typed (lines_of input));
  room = room_for_all;
  alike = λ a b same input. ap (printed 1 (map deed_of (lines_of input))) (stations_promise.alike_for_callers a b same (calls_in input) (calls_typed (lines_of input))).0;
  stations = stations_promise;
}
