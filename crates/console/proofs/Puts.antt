-- Bytes that are put one after the other.
-- Assumes nothing.
use Rattle.std.proofs.Common.{◌≡◌, ℕ, List, [], ◌∷◌, ◌++◌, Ok, Some, None, Option, Result, Bor, sym, ap, ◌∙◌, append_assoc, arith}
use Rattle.std.proofs.lemmas.Fmt.{decimal_digit}
use Rattle.answer.specs.declared.fault.Fault.{Fault}
use Rattle.console.specs.Print.{decimal, hex}
use Rattle.console.specs.Printed.{printed_line, printed_lent}

-- w, then x, then y
after : (w x y : List ℕ) {a b : List ℕ} → a ≡ w ++ x → b ≡ a ++ y → b ≡ w ++ (x ++ y)
after w x y p q = q ∙ ap (λ t. t ++ y) p ∙ append_assoc w x y

-- the answer 0 is one digit
zero_line : (n : ℕ) (more : List ℕ) → decimal n ++ (32 ∷ 48 ∷ (more ++ 10 ∷ [])) ≡ printed_line n 0 more
zero_line n more = ap (λ d. decimal n ++ (32 ∷ (d ++ (more ++ 10 ∷ [])))) (sym (decimal_digit 0 (omega arith)))

module _ (n : ℕ) (w : List ℕ) (x : Result (Option (Bor (List ℕ))) Fault) (o : Option (Bor (List ℕ))) where
  -- success with nothing after it
  pub nothing : {a b : List ℕ} → x ≡ Ok o → o ≡ None → a ≡ w ++ decimal n → b ≡ a ++ 32 ∷ 48 ∷ 10 ∷ [] → b ≡ w ++ printed_lent n x
  nothing e f p q =
      after w (decimal n) _ p q ∙ ap (λ t. w ++ t) (zero_line n [] ∙ ap (printed_lent n) (sym (e ∙ ap (λ t. Ok t) f)))

  -- success with bytes
  pub bytes : {a b c d : List ℕ} (s : Bor (List ℕ)) → x ≡ Ok o → o ≡ Some s → a ≡ w ++ decimal n → b ≡ a ++ 32 ∷ 48 ∷ 32 ∷ [] → c ≡ b ++ hex s.now → d ≡ c ++ 10 ∷ []
      → d ≡ w ++ printed_lent n x
  bytes {b = b} s e f p q r t =
      after w (decimal n) (32 ∷ 48 ∷ 32 ∷ (hex s.now ++ 10 ∷ [])) p (after _ (32 ∷ 48 ∷ 32 ∷ []) (hex s.now ++ 10 ∷ []) q (after b (hex s.now) (10 ∷ []) r t))
      ∙ ap (λ t. w ++ t) (zero_line n (32 ∷ hex s.now) ∙ ap (printed_lent n) (sym (e ∙ ap (λ t. Ok t) f)))
