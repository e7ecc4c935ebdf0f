-- A bank of kinds that keep the laws keeps them.
-- Assumes nothing.
use Rattle.std.specs.Prelude.{◌≡◌, ℕ, Bool, true, false, cond, ◌⊎◌, List, ◌++◌, refl}
use Rattle.std.proofs.Common.{ap, subst, ◌∙◌, inl, inr, ⊎_elim}
use Rattle.code.specs.declared.description.Description.{Description}
use Rattle.code.specs.Model.{Model, Keeps, Word, Admits, LawfulMessage}
use Rattle.code.specs.Bank.{joined}

pub sides : (b : Bool) → (b ≡ true) ⊎ (b ≡ false)
sides true = inl refl
sides false = inr refl

module _ (l r : Model) (d : Description) where
  left_admits : (n : ℕ) → l.serves d.kind ≡ true → Admits (joined l r) d n → Admits l d n
  left_admits n e a = rw e (rw e at a)

  right_admits : (n : ℕ) → l.serves d.kind ≡ false → Admits (joined l r) d n → Admits r d n
  right_admits n e a = rw e at a

  left_word : {w : List ℕ} → l.serves d.kind ≡ true → Word (joined l r) d w → Word l d w
  left_word e x = record {
    message = x.message;
    lawful = subst (λ b. LawfulMessage (cond b (l.sheet d) (r.sheet d)).tuple x.message) e x.lawful;
    is_word = x.is_word ∙ ap (λ b. x.message ++ cond b (l.check d x.message) (r.check d x.message)) e;
  }

  right_word : {w : List ℕ} → l.serves d.kind ≡ false → Word (joined l r) d w → Word r d w
  right_word e x = record {
    message = x.message;
    lawful = subst (λ b. LawfulMessage (cond b (l.sheet d) (r.sheet d)).tuple x.message) e x.lawful;
    is_word = x.is_word ∙ ap (λ b. x.message ++ cond b (l.check d x.message) (r.check d x.message)) e;
  }

pub joined_keeps : {l r : Model} → Keeps l → Keeps r → Keeps (joined l r)
joined_keeps {l} {r} kl kr = record {
  lawful = λ d n a. ⊎_elim
      (λ e. let h = kl.lawful d n (left_admits l r d n e a) in rw e h)
      (λ e. let h = kr.lawful d n (right_admits l r d n e a) in rw e h)
      (sides (l.serves d.kind));
  long = λ d n a s law. ⊎_elim
      (λ e. let h = kl.long d n (left_admits l r d n e a) s (rw e at law) in rw e h)
      (λ e. let h = kr.long d n (right_admits l r d n e a) s (rw e at law) in rw e h)
      (sides (l.serves d.kind));
  apart = λ d n a u v bu bv len short wu wv. ⊎_elim
      (λ e. let h = kl.apart d n (left_admits l r d n e a) u v bu bv len short (left_word l r d e wu) (left_word l r d e wv) in rw e h)
      (λ e. let h = kr.apart d n (right_admits l r d n e a) u v bu bv len short (right_word l r d e wu) (right_word l r d e wv) in rw e h)
      (sides (l.serves d.kind));
}
