-- What a frame that was taken, or sealed, looks like.
-- Assumes nothing.
use Rattle.std.proofs.Common.{◌≡◌, ℕ, zero, suc, ◌+◌, ◌-◌, ◌*◌, ◌/◌, ◌%◌, ◌^◌, ◌<◌, ◌≤◌, ◌&&◌, eqb, ltb, leb, List, [], ◌∷◌, ◌++◌, length, get_or, take, drop, Some, Ok, sym, refl, ap, ◌∙◌, subst, ap₂, arith, length-append, length-drop, take-append-drop, drop-cons, eqb-true, leb-true}
use Rattle.words.specs.Digits.{digits}
use Rattle.words.specs.Flips.{Bytes}
use Rattle.code.specs.Model.{Model, asked, LawfulMessage, Keeps}
use Rattle.station.specs.declared.entry.Entry.{Entry}
use Rattle.station.specs.Book.{PlainBook, held}
use Rattle.station.specs.Frame.{coded, ccitt, front, frame, pair_at, entry_at, sealed, opened, taken}
use Rattle.runs.specs.Promises.{LawfulFrame}
use Rattle.runs.proofs.Inverts.{then_ok, ok_is, need_ok, alike_ok, differ-none, entry_ok, sheet_ok, check_ok, Checked}
use Rattle.runs.proofs.Admitted.{Admitted, AllAdmitted, all_held}

-- ---- a string by its first k bytes

abbrev pub gets : ℕ → ℕ → List ℕ → List ℕ
gets i zero f = drop i f
gets i (suc k) f = get_or f i 0 ∷ gets (suc i) k f

pub gets_drop : (k i : ℕ) (f : List ℕ) → i + k ≤ length f → drop i f ≡ gets i k f
gets_drop zero i f l = refl
gets_drop (suc k) i f l =
    drop-cons f i 0 (omega arith) ∙ ap {B = List ℕ} (λ t. get_or f i 0 ∷ t) (gets_drop k (suc i) f (omega arith))

pub bytes_at : (f : List ℕ) (i : ℕ) → Bytes f → get_or f i 0 < 2 ^ 8
bytes_at [] i b = omega arith
bytes_at (x ∷ f) zero b = b.0
bytes_at (x ∷ f) (suc i) b = bytes_at f i b.1

pub bytes_take : (i : ℕ) (f : List ℕ) → Bytes f → Bytes (take i f)
bytes_take zero f b = tt
bytes_take (suc i) [] b = tt
bytes_take (suc i) (x ∷ f) b = (b.0, bytes_take i f b.1)

pub bytes_drop : (i : ℕ) (f : List ℕ) → Bytes f → Bytes (drop i f)
bytes_drop zero f b = b
bytes_drop (suc i) [] b = tt
bytes_drop (suc i) (x ∷ f) b = bytes_drop i f b.1

pub bytes_left : (x y : List ℕ) → Bytes (x ++ y) → Bytes x
bytes_left [] y b = tt
bytes_left (z ∷ x) y b = (b.0, bytes_left x y b.1)

-- two bytes are the digits of their pair
pub two_of : (x y : ℕ) → x < 2 ^ 8 → y < 2 ^ 8 → x ∷ y ∷ [] ≡ digits 2 (x * 256 + y)
two_of x y lx ly =
    let p : x ≡ (x * 256 + y) / 256 = omega arith in
    let q : y ≡ (x * 256 + y) % 256 / 1 = omega arith in
    ap₂ {C = List ℕ} (λ (u v : ℕ). u ∷ v ∷ []) p q

-- ---- take

pub record Opened (m : Model) (e : Entry) (ten w s : List ℕ) : Type 0 where
  pub described : ten ≡ coded e.description
  pub within : length w ≤ e.reach
  pub checked : Checked m e.description s (m.check e.description s) 64
  pub is_word : w ≡ s ++ m.check e.description s

pub opened_ok : (m : Model) (e : Entry) (ten w s : List ℕ) → opened (asked m) e ten w ≡ Ok s → Opened m e ten w s
opened_ok m e ten w s p =
    let d = e.description in
    let a = alike_ok _ _ _ _ s p in
    let h = then_ok ((asked m).sheet d) _ s a.1 in
    let sh = h.0 in
    let n = need_ok _ _ _ s h.2 in
    let o = need_ok _ _ _ s n.1 in
    let t = take (length w - sh.check) w in
    let k = then_ok ((asked m).check d t 64) _ s o.1 in
    let c = k.0 in
    let r = alike_ok _ _ _ _ s k.2 in
    let q : t ≡ s = ok_is t s r.1 in
    let v : drop (length w - sh.check) w ≡ c = differ-none (drop (length w - sh.check) w) c r.0 in
    let g : Checked m d s c 64 = subst (λ x. Checked m d x c 64) q (check_ok m d t 64 c k.1) in
    record {
      described = differ-none ten (coded d) a.0;
      within = leb-true (length w) e.reach o.0;
      checked = subst (λ x. Checked m d s x 64) g.is_check g;
      is_word = sym (take-append-drop (length w - sh.check) w) ∙ ap₂ ◌++◌ q (v ∙ g.is_check);
    }

pub record Taken (m : Model) (b : PlainBook) (f s : List ℕ) : Type 0 where
  pub entry : Entry
  pub size : 17 ≤ length f
  pub layout : get_or f 0 0 ≡ 1
  pub head_check : pair_at f 14 ≡ ccitt (take 14 f)
  pub long : 16 + pair_at f 12 ≡ length f
  pub is_held : held b (get_or f 1 0) ≡ Some entry
  pub inside : Opened m entry (take 10 (drop 2 f)) (drop 16 f) s

pub taken_ok : (m : Model) (b : PlainBook) (f s : List ℕ) → taken (asked m) b f ≡ Ok s → Taken m b f s
taken_ok m b f s p =
    let k41 = need_ok (leb 17 (length f)) _ _ s p in
    let k42 = need_ok (eqb (get_or f 0 0) 1) _ _ s k41.1 in
    let k43 = need_ok (eqb (pair_at f 14) (ccitt (take 14 f))) _ _ s k42.1 in
    let k44 = need_ok (eqb (16 + pair_at f 12) (length f)) _ _ s k43.1 in
    let h = then_ok (entry_at b (get_or f 1 0)) _ s k44.1 in
    record {
      entry = h.0;
      size = leb-true 17 (length f) k41.0;
      layout = eqb-true (get_or f 0 0) 1 k42.0;
      head_check = eqb-true (pair_at f 14) (ccitt (take 14 f)) k43.0;
      long = eqb-true (16 + pair_at f 12) (length f) k44.0;
      is_held = entry_ok b (get_or f 1 0) h.0 h.1;
      inside = opened_ok m h.0 (take 10 (drop 2 f)) (drop 16 f) s h.2;
    }

abbrev lay : ℕ → ℕ → List ℕ → List ℕ → List ℕ
lay x y t u = x ∷ y ∷ (t ++ u)

pub taken_lawful : (m : Model) (b : PlainBook) (f s : List ℕ) → Bytes f → Taken m b f s → LawfulFrame m b (get_or f 1 0) f s
taken_lawful m b f s bf k = record {
  entry = k.entry;
  is_held = k.is_held;
  lawful = record { some = k.inside.checked.some; tuples = k.inside.checked.tuples; most = k.inside.checked.most; bytes = bytes_s };
  within = subst (λ x. x ≤ k.entry.reach) size k.inside.within;
  is_frame =
      view
      ∙ ap₂ (λ (x y : List ℕ). x ++ y)
      (ap₂ (λ (x y : List ℕ). x ++ y) fronts (check_bytes_lem ∙ ap (λ x. digits 2 (ccitt x)) (ap (take 14) view ∙ fronts)))
      k.inside.is_word;
}
  where
    view : f ≡ gets 0 16 f
    view = gets_drop 16 0 f (omega (arith, k.size))

    size : length (drop 16 f) ≡ length s + length (m.check k.entry.description s)
    size = ap length k.inside.is_word ∙ length-append s (m.check k.entry.description s)

    bytes_s : Bytes s
    bytes_s = bytes_left s (m.check k.entry.description s) (subst Bytes k.inside.is_word (bytes_drop 16 f bf))

    ten : get_or f 2 0 ∷ get_or f 3 0 ∷ get_or f 4 0 ∷ get_or f 5 0 ∷ get_or f 6 0 ∷ get_or f 7 0 ∷ get_or f 8 0 ∷ get_or f 9 0 ∷ get_or f 10 0 ∷ get_or f 11 0 ∷ []
        ≡ coded k.entry.description
    ten = sym (ap (λ x. take 10 (drop 2 x)) view) ∙ k.inside.described

    long : get_or f 12 0 * 256 + get_or f 13 0 ≡ length s + length (m.check k.entry.description s)
    long = omega (arith, k.long, k.size, size, length-drop 16 f)

    word_bytes : get_or f 12 0 ∷ get_or f 13 0 ∷ [] ≡ digits 2 (length s + length (m.check k.entry.description s))
    word_bytes = two_of (get_or f 12 0) (get_or f 13 0) (bytes_at f 12 bf) (bytes_at f 13 bf) ∙ ap (digits 2) long

    check_bytes_lem : get_or f 14 0 ∷ get_or f 15 0 ∷ [] ≡ digits 2 (ccitt (take 14 f))
    check_bytes_lem = two_of (get_or f 14 0) (get_or f 15 0) (bytes_at f 14 bf) (bytes_at f 15 bf) ∙ ap (digits 2) k.head_check

    fronts : take 14 (gets 0 16 f) ≡ front (get_or f 1 0) k.entry.description (length s + length (m.check k.entry.description s))
    fronts =
        ap (λ x. lay x (get_or f 1 0) (take 10 (drop 2 (gets 0 16 f))) (get_or f 12 0 ∷ get_or f 13 0 ∷ [])) k.layout
        ∙ ap₂ (lay 1 (get_or f 1 0)) ten word_bytes

-- ---- seal

pub record Sealed (m : Model) (b : PlainBook) (n : ℕ) (f s : List ℕ) (room : ℕ) : Type 0 where
  pub entry : Entry
  pub is_held : held b n ≡ Some entry
  pub within : length s + (m.sheet entry.description).check ≤ entry.reach
  pub fits : 16 + (length s + (m.sheet entry.description).check) ≤ room
  pub checked : Checked m entry.description s (m.check entry.description s) 64
  pub is_frame : f ≡ frame n entry.description s (m.check entry.description s)

pub sealed_ok : (m : Model) (b : PlainBook) (n : ℕ) (s : List ℕ) (room : ℕ) (f : List ℕ) → sealed (asked m) b n s room ≡ Ok f
    → Sealed m b n f s room
sealed_ok m b n s room f p =
    let h = then_ok (entry_at b n) _ f p in
    let e = h.0 in
    let d = e.description in
    let k = then_ok ((asked m).sheet d) _ f h.2 in
    let sh = k.0 in
    let is-sheet : sh ≡ m.sheet d = sheet_ok m d sh k.1 in
    let k31 = need_ok (ltb 0 (length s) && eqb (length s % sh.tuple) 0) _ _ f k.2 in
    let k32 = need_ok (leb (length s + sh.check) e.reach) _ _ f k31.1 in
    let k33 = need_ok (leb (16 + (length s + sh.check)) room) _ _ f k32.1 in
    let q = then_ok ((asked m).check d s 64) _ f k33.1 in
    let c = q.0 in
    let g = check_ok m d s 64 c q.1 in
    record {
      entry = e;
      is_held = entry_ok b n e h.1;
      within = subst (λ x. length s + x.check ≤ e.reach) is-sheet (leb-true _ _ k32.0);
      fits = subst (λ x. 16 + (length s + x.check) ≤ room) is-sheet (leb-true _ _ k33.0);
      checked = subst (λ x. Checked m d s x 64) g.is_check g;
      is_frame = sym (ok_is _ _ q.2) ∙ ap (frame n d s) g.is_check;
    }

pub sealed_lawful : (m : Model) (b : PlainBook) (n : ℕ) (s : List ℕ) (room : ℕ) (f : List ℕ) → Keeps m → AllAdmitted m b → Bytes s
    → Sealed m b n f s room → LawfulFrame m b n f s
sealed_lawful m b n s room f keeps admitted bs k =
    let e = k.entry in
    let a = all_held (Admitted m) b n e admitted k.is_held in
    let l : LawfulMessage (m.sheet e.description).tuple s =
    record { some = k.checked.some; tuples = k.checked.tuples; most = k.checked.most; bytes = bs } in
    let long = (keeps.long e.description e.reach a s l).0 in
    record {
      entry = e;
      is_held = k.is_held;
      lawful = l;
      within = subst (λ x. length s + x ≤ e.reach) (sym long) k.within;
      is_frame = k.is_frame;
    }
