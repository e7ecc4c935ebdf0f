-- Parts written one after the other.
-- Assumes nothing.
use Rattle.std.proofs.Common.{◌≡◌, ℕ, ◌+◌, ◌-◌, List, ◌++◌, length, drop, sym, refl, append_assoc, arith, length-append}
use borrow.Rule.Slice.PartMut.{put_mid}
use Rattle.std.proofs.lemmas.List.{take_at, drop_at, drop-drop}

-- a write right after what is written: `pre` is written, and `ys` is the part written now
put_next : (pre ys o : List ℕ) (a k : ℕ) → length pre ≡ a → put_mid a k (pre ++ drop a o) ys ≡ (pre ++ ys) ++ drop (a + k) o
put_next pre ys o a k e =
    rw (take_at pre (drop a o) a e, drop_at pre (drop a o) a e, drop-drop k a o) (sym (append_assoc pre ys (drop (a + k) o)))

module _ (o h m k : List ℕ) where
  pub three :
      put_mid (length h + length m) (length h + length m + length k - (length h + length m))
      (put_mid (length h) (length h + length m - length h) (h ++ drop (length h - 0) o) m) k
      ≡ (h ++ (m ++ k)) ++ drop (length h + length m + length k) o
  three =
      let z : length h - 0 ≡ length h = omega arith in
      let a : length h + length m - length h ≡ length m = omega arith in
      let b : length h + length m + length k - (length h + length m) ≡ length k = omega arith in
      rw (z, a, b, put_next h m o (length h) (length m) refl, put_next (h ++ m) k o (length h + length m) (length k) (length-append h m), append_assoc h m k)
