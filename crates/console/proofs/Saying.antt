-- A call said in a line.
-- Assumes nothing.
use Rattle.std.proofs.Common.{◌≡◌, ℕ, suc, ◌+◌, ◌*◌, ◌/◌, ◌%◌, ◌^◌, ◌<◌, ◌≤◌, true, false, eqb, leb, List, [], ◌∷◌, ◌++◌, length, Ok, Result, refl, ap, ◌∙◌, ap₂, arith, lit≤, lt-ltb, eq-eqb, ne_eqb, le-leb}
use Rattle.answer.specs.Refusal.{Refusal}
use Rattle.code.specs.declared.description.Description.{Description}
use Rattle.words.specs.Digits.{digits}
use Rattle.words.specs.Flips.{Bytes}
use Rattle.words.proofs.DigitBytes.{bytes_digits}
use Rattle.code.specs.Model.{Fits}
use Rattle.station.specs.Calls.{enter, narrow, change}
use Rattle.station.specs.Frame.{coded}
use Rattle.console.specs.Decode.{decoded}
use Rattle.console.specs.Deeds.{Deed, makes, deed, deed_of, enters_by, narrows_by, retires_by, seals_by, takes_by}
use Rattle.console.specs.Grammar.{PlainLine, is_command, operands, command, good_digits, line_of}
use Rattle.console.specs.Print.{hex}
use Rattle.console.specs.Said.{line_for, CallsSaid}
use Rattle.console.proofs.Hexes.{hex_again, hex_good, length-hex}

-- A letter with the right number of bytes is a command.
read_again : (c : ℕ) (s : List ℕ) → eqb c 35 ≡ false → is_command c ≡ true → Bytes s → length s ≤ 4112 → operands c (length s) ≡ true
    → ◌≡◌ {A = Result PlainLine Refusal} (line_of (line_for c s)) (Ok (command c (hex s)))
read_again c s e k p l n =
    let long = length-hex s in
    let some : eqb (suc (suc (length (hex s)))) 0 ≡ false = ne_eqb (suc (suc (length (hex s)))) 0 (λ none. omega arith) in
    let half : length (hex s) / 2 ≡ length s = omega arith in
    let a : leb (suc (suc (length (hex s)))) 8226 ≡ true = le-leb (suc (suc (length (hex s)))) 8226 (omega arith) in
    let g : eqb (good_digits (hex s)) (length (hex s)) ≡ true = eq-eqb (good_digits (hex s)) (length (hex s)) (hex_good s p) in
    let h : eqb (length (hex s) % 2) 0 ≡ true = eq-eqb (length (hex s) % 2) 0 (omega arith) in
    let m : operands c (length (hex s) / 2) ≡ true = ap (operands c) half ∙ n in
    rw (some, e, a, k, g, h, m)

-- Whatever the command makes of its bytes.
said : (c : ℕ) (s : List ℕ) (by : List ℕ → Deed) → eqb c 35 ≡ false → is_command c ≡ true → Bytes s → length s ≤ 4112 → operands c (length s) ≡ true
    → ((d : List ℕ) → deed (Ok (command c d)) ≡ by (decoded d)) → deed_of (line_for c s) ≡ by s
said c s by e k p l n f = ap deed (read_again c s e k p l n) ∙ f (hex s) ∙ ap by (hex_again s p)

-- ---- the fields

four_again : (x a b c d : ℕ) → a ≡ x / 16777216 → b ≡ x % 16777216 / 65536 → c ≡ x % 16777216 % 65536 / 256 → d ≡ x % 16777216 % 65536 % 256 / 1
    → (a * 256 + b) * 65536 + (c * 256 + d) ≡ x
four_again x a b c d p q r t = omega arith

two_again : (x a b : ℕ) → a ≡ x / 256 → b ≡ x % 256 / 1 → a * 256 + b ≡ x
two_again x a b p q = omega arith

enter_again : (n : ℕ) (d : Description) (reach : ℕ) → enters_by (n ∷ (coded d ++ digits 2 reach)) ≡ change (enter n d reach)
enter_again n d reach =
    let with : ℕ → ℕ → Description =
    λ low low2. record { kind = d.kind; degree = d.degree; low = low; degree2 = d.degree2; low2 = low2; tuple = d.tuple } in
    ap₂ (λ (x : Description) (y : ℕ). change (enter n x y))
    (ap₂ with (four_again d.low _ _ _ _ refl refl refl refl) (two_again d.low2 _ _ refl refl))
    (two_again reach _ _ refl refl)

entry_bytes : (n : ℕ) (d : Description) (reach : ℕ) → n < 2 ^ 8 → Fits d → reach < 2 ^ 16 → Bytes (n ∷ (coded d ++ digits 2 reach))
entry_bytes n d reach l f r =
    let p = bytes_digits 4 d.low f.low in
    let q = bytes_digits 2 d.low2 f.low2 in
    let t = bytes_digits 2 reach r in
    (l, (f.kind, (f.degree, (p.0, (p.1.0, (p.1.1.0, (p.1.1.1.0, (f.degree2, (q.0, (q.1.0, (f.tuple, t)))))))))))

pub calls_said : CallsSaid
calls_said = record {
  entry = λ n d reach l f r.
      said 69 (n ∷ (coded d ++ digits 2 reach)) (λ s. makes (enters_by s)) refl refl (entry_bytes n d reach l f r) (lit≤ tt) refl (λ _. refl)
      ∙ ap {B = Deed} (λ c. makes c) (enter_again n d reach);
  narrowing = λ n reach l r.
      said 78 (n ∷ digits 2 reach) (λ s. makes (narrows_by s)) refl refl (l, bytes_digits 2 reach r) (lit≤ tt) refl (λ _. refl)
      ∙ ap {B = Deed} (λ k. makes (change (narrow n k))) (two_again reach _ _ refl refl);
  retirement = λ n l. said 82 (n ∷ []) (λ s. makes (retires_by s)) refl refl (l, tt) (lit≤ tt) refl (λ _. refl);
  message = λ n s l p k. said 77 (n ∷ s) (λ t. makes (seals_by t)) refl refl (l, p) k (lt-ltb 0 (suc (length s)) (omega arith)) (λ _. refl);
  frame = λ f p k. said 70 f (λ s. makes (takes_by s)) refl refl p k refl (λ _. refl);
}
