-- A check as a number, from what the call that wrote it says: x is the answer by the model.
-- Assumes nothing.
use Rattle.std.proofs.Common.{◌≡◌, ℕ, List, length, take, drop, Ok, Err, Result, sym, ap, ◌∙◌}
use Rattle.std.proofs.lemmas.List.{take_at}
use Rattle.answer.specs.Refusal.{Refusal}
use Rattle.answer.specs.Rules.{then}
use Rattle.code.specs.Model.{length_of, written}
use Rattle.listing.specs.Asked.{number_from}

pub number_of_check : (x : Result (List ℕ) Refusal) (n : ℕ) (before after : List ℕ) → Ok n ≡ length_of x → after ≡ written x before
    → Ok (number_from (take n after)) ≡ then x (λ bytes. Ok (number_from bytes))
number_of_check (Ok bytes) n before after e w =
    let size : n ≡ length bytes = cc in
    ap (λ b. Ok (number_from b)) (ap (take n) w ∙ take_at bytes (drop (length bytes) before) n (sym size))
number_of_check (Err r) n before after e w = cc

pub check_refused : (x : Result (List ℕ) Refusal) (r : Refusal) → Err r ≡ length_of x → Err r ≡ then x (λ bytes. Ok (number_from bytes))
check_refused (Ok bytes) r e = cc
check_refused (Err z) r e = e
