-- Longitudinal parity keeps the laws: its words are multiples of X^8 + 1, which has an even number of terms.
-- Assumes nothing.
use Rattle.std.specs.Prelude.{◌≡◌, ℕ, ◌%◌, true, List, [], ◌∷◌, ◌++◌, refl}
use Rattle.std.proofs.Common.{sym, ap, subst, ◌∙◌, div-one, arith, lit≤}
use Rattle.std.specs.Int.Count.{ones}
use Rattle.answer.proofs.Ruled.{kept}
use Rattle.poly.specs.Poly.{Divides, generator, terms, string}
use Rattle.poly.specs.Period.{NoReturn}
use Rattle.poly.proofs.Divide.{divides_xor}
use Rattle.poly.proofs.Ones.{even_multiple}
use Rattle.words.specs.Flips.{flips, Sure}
use Rattle.words.specs.Words.{Crc}
use Rattle.words.proofs.Crc.{no_one, no_span}
use Rattle.words.proofs.Checks.{crc-word}
use Rattle.code.specs.declared.description.Description.{Description}
use Rattle.code.specs.Model.{Word, Keeps, Numbered, described_rules}
use Rattle.code.proofs.FieldRules.{lawful_reach_lem}
use Rattle.example_kind.specs.Model.{longitudinal, reach_rules}
use Rattle.example_kind.specs.Sum.{small, sum_is, sum_lt}

-- a message and its sum are a word of the CRC by X^8 + 1
word : (d : Description) (w : List ℕ) → Word longitudinal d w → Crc 8 1 w
word d w k =
    subst (Crc 8 1)
    (ap (λ x. k.message ++ x ∷ []) (div-one _ ∙ sum_is k.message k.lawful.bytes) ∙ sym k.is_word)
    (crc-word 8 1 1 small refl k.message)

-- no period is needed for bursts and for odd numbers of bits
none : NoReturn 8 1 1
none j least below returns = omega arith

even : terms 8 1 % 2 ≡ 0
unfolding ones
even = refl

unsure : (e : ℕ) → Divides (generator 8 1) e → ¬ Sure 8 1 true e
unsure e d (Sure.span b) = no_span 8 1 1 small refl none e d b
unsure e d (Sure.some_bits p q) = no_one 8 1 1 small refl none e d (omega arith)
unsure e d (Sure.uneven t k) = let z = even_multiple (generator 8 1) e even d in omega arith

pub keeps : Keeps longitudinal
keeps = record {
  lawful = λ d reach a.
      let k = kept tt (described_rules longitudinal d ++ reach_rules reach) a in
      let r = lawful_reach_lem 1 1 reach k.1.1.1.1.1.1.0 in
      record {
        multiple = r.0;
        least = r.1;
        most = r.2;
        some_tuple = lit≤ tt;
        some_burst = lit≤ tt;
        some_few = lit≤ tt;
        some_check = lit≤ tt;
        short_check = lit≤ tt;
        whole_check = refl;
      };
  long = λ d reach a message l. (refl, (sum_lt message l.bytes, tt));
  apart = λ d reach a u v bu bv l short wu wv.
      unsure (flips u v) (divides_xor (generator 8 1) (string 8 u) (string 8 v) (word d u wu) (word d v wv));
}

pub numbered : Numbered longitudinal
numbered = record {
  fits = λ d.
      ((lit≤ tt, lit≤ tt), ((lit≤ tt, lit≤ tt), ((lit≤ tt, lit≤ tt), ((lit≤ tt, lit≤ tt), ((lit≤ tt, lit≤ tt), tt)))));
  reaches = λ d reach. ((lit≤ tt, lit≤ tt), tt);
}
