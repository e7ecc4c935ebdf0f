-- Sure flips in the word alone: which answer they get.
-- Assumes nothing.
use Rattle.std.proofs.Common.{◌≡◌, ℕ, ◌+◌, ◌%◌, ◌≤◌, Bool, true, false, leb, List, ◌++◌, length, take, drop, is_ok, Some, None, Ok, Err, Option, Result, sym, refl, ap, ◌∙◌, subst, ap₂, arith, length-append, length-drop, take-append-drop, length-take}
use borrow.Author.Tests.{both_ways}
use Rattle.answer.specs.declared.fault.Layer.TheVariants.{Frame}
use Rattle.answer.specs.Refusal.{Refusal, refusal}
use Rattle.answer.specs.Rules.{then, need}
use Rattle.words.specs.Flips.{Bytes}
use Rattle.code.specs.declared.description.Description.{Description}
use Rattle.code.specs.Model.{Model, asked, Keeps, LawfulMessage}
use Rattle.station.specs.declared.entry.Entry.{Entry}
use Rattle.station.specs.Book.{PlainBook}
use Rattle.station.specs.Frame.{coded, head, frame, entry_at, differ, opened, taken}
use Rattle.station.specs.Calls.{book_after}
use Rattle.runs.specs.Promises.{altered, FirstDiffer, WordRefused, RefusesSureWords}
use Rattle.runs.proofs.Inverts.{no_way, some_is, keeps_on, broken, alike_same, alike-apart, entry_ok, differ-none, differ_first}
use Rattle.runs.proofs.Heads.{coded_one, length-altered, bytes_altered, take-altered, unaltered}
use Rattle.runs.proofs.Admitted.{Admitted, AllAdmitted, Fitting, all_held, book_admitted, book_fits}
use Rattle.runs.proofs.Opens.{bytes_take, bytes_drop, sealed_ok, sealed_lawful}
use Rattle.runs.proofs.Hands.{headed, ending, opened-word, fate_at, Agrees, fated}
use Rattle.runs.proofs.Promised.{agrees}
use Rattle.runs.proofs.Flipped.{frame-head, lawful_bytes, part_lengths, refuses_sure_flips_for_callers}

-- the answer 47, where the check u that arrived first differs from that of the message t that arrived
abbrev Caught : Model → Description → List ℕ → List ℕ → List ℕ → Result (List ℕ) Refusal → Type 0
Caught m d s t u y = (p : ℕ) × FirstDiffer u (m.check d t) p × (y ≡ Err (refusal 47 Frame (16 + length s + p)))

-- y is the answer to the altered frame where x is that to the unaltered one
abbrev Follows : Model → Description → List ℕ → List ℕ → List ℕ → Result (List ℕ) Refusal → Result (List ℕ) Refusal → Type 0
Follows m d s t u x y = ((z : Refusal) → x ≡ Err z → y ≡ Err z) × (x ≡ Ok s → is_ok y ≡ false → Caught m d s t u y)

module _ (m : Model) (d : Description) (s t u : List ℕ) where
  both_refuse : (x y : Result (List ℕ) Refusal) (r : Refusal) → x ≡ Err r → y ≡ Err r → Follows m d s t u x y
  both_refuse x y r p q = ((λ z e. q ∙ sym p ∙ e), (λ e. no_way (cc)))

  caught : length u ≡ length (m.check d t) → length t ≡ length s → (y : Result (List ℕ) Refusal) → y ≡ ending (length t) u (m.check d t) t
      → is_ok y ≡ false → Caught m d s t u y
  caught lu lt y q refused = go (differ u (m.check d t)) refl
    where
      go : (o : Option ℕ) → differ u (m.check d t) ≡ o → Caught m d s t u y
      go None h =
          let yes : y ≡ Ok t = q ∙ alike_same 47 (16 + length t) (differ u (m.check d t)) (Ok t) h in
          absurd (both_ways (is_ok y) refused (ap is_ok yes))
      go (Some i) h = (
        i,
        differ_first u (m.check d t) lu i h,
        q ∙ alike-apart 47 (16 + length t) (differ u (m.check d t)) i (Ok t) h
            ∙ ap {B = Result (List ℕ) Refusal} (λ (k : ℕ). Err (refusal 47 Frame (16 + k + i))) lt,
      )

-- at an entry: s was the message, t and u arrived
module _ (m : Model) (keeps : Keeps m) (own : Entry) (ad : Admitted m own) (s t u : List ℕ) (bt : Bytes t)
    (law : LawfulMessage (m.sheet own.description).tuple s) (lt : length t ≡ length s) (lu : length u ≡ (m.sheet own.description).check) where
  arrived : LawfulMessage (m.sheet own.description).tuple t
  arrived = record {
    some = subst (λ (k : ℕ). 1 ≤ k) (sym lt) law.some;
    tuples = subst (λ (k : ℕ). k % (m.sheet own.description).tuple ≡ 0) (sym lt) law.tuples;
    most = subst (λ (k : ℕ). k ≤ 4096) (sym lt) law.most;
    bytes = bt;
  }

  follows_own : (w : ℕ) → length t + length u ≡ w
      → Follows m own.description s t u (then (need (leb w own.reach) (refusal 32 Frame 12)) (λ _. Ok s))
      (opened (asked m) own (coded own.description) (t ++ u))
  follows_own w lw = go (leb w own.reach) refl
    where
      d : Description
      d = own.description

      x : Result (List ℕ) Refusal
      x = then (need (leb w own.reach) (refusal 32 Frame 12)) (λ _. Ok s)

      y : Result (List ℕ) Refusal
      y = opened (asked m) own (coded d) (t ++ u)

      y_is : y ≡ then (need (leb w own.reach) (refusal 32 Frame 12)) (λ _. ending (length t) u (m.check d t) t)
      y_is =
          opened-word m keeps own ad t u arrived.some arrived.tuples arrived.most lu
          ∙ ap (λ (k : ℕ). then (need (leb k own.reach) (refusal 32 Frame 12)) (λ _. ending (length t) u (m.check d t) t)) lw

      go : (b : Bool) → leb w own.reach ≡ b → Follows m d s t u x y
      go false h =
          both_refuse m d s t u x y (refusal 32 Frame 12) (broken (leb w own.reach) (refusal 32 Frame 12) (Ok s) h)
          (y_is ∙ broken (leb w own.reach) (refusal 32 Frame 12) (ending (length t) u (m.check d t) t) h)
      go true h =
          let x-is : x ≡ Ok s = keeps_on (leb w own.reach) (refusal 32 Frame 12) (Ok s) h in (
            (λ z e. no_way (cc)),
            (λ _. caught m d s t u (lu ∙ sym (keeps.long d own.reach ad t arrived).0) lt y
                (y_is ∙ keeps_on (leb w own.reach) (refusal 32 Frame 12) (ending (length t) u (m.check d t) t) h)),
          )

-- at a book: c was the check
module _ (m : Model) (keeps : Keeps m) (b : PlainBook) (ad : AllAdmitted m b) (n : ℕ) (d : Description) (s c t u : List ℕ) (bt : Bytes t)
    (lt : length t ≡ length s) (lu : length u ≡ length c) (some : 1 ≤ length s + length c) (agree : Agrees m b n d s c) where
  follows_at : (own : Entry) → Admitted m own → (own.description ≡ d → (c ≡ m.check own.description s) × LawfulMessage (m.sheet own.description).tuple s)
      → Follows m d s t u (fate_at own d (length s + length c) s) (opened (asked m) own (coded d) (t ++ u))
  follows_at own a same = go (differ (coded d) (coded own.description)) refl
    where
      x : Result (List ℕ) Refusal
      x = fate_at own d (length s + length c) s

      y : Result (List ℕ) Refusal
      y = opened (asked m) own (coded d) (t ++ u)

      go : (o : Option ℕ) → differ (coded d) (coded own.description) ≡ o → Follows m d s t u x y
      go (Some i) q =
          let x-is : x ≡ Err (refusal 45 Frame (2 + i)) = alike-apart 45 2 (differ (coded d) (coded own.description)) i _ q in
          let y_is : y ≡ Err (refusal 45 Frame (2 + i)) = alike-apart 45 2 (differ (coded d) (coded own.description)) i _ q in
          both_refuse m d s t u x y (refusal 45 Frame (2 + i)) x-is y_is
      go None q =
          let codes : coded d ≡ coded own.description = differ-none (coded d) (coded own.description) q in
          let is : own.description ≡ d = sym (coded_one d own.description codes) in
          let g = same is in
          let long : length c ≡ (m.sheet own.description).check =
          ap length g.0 ∙ (keeps.long own.description own.reach a s g.1).0 in
          let x-is : x ≡ then (need (leb (length s + length c) own.reach) (refusal 32 Frame 12)) (λ _. Ok s) =
          alike_same 45 2 (differ (coded d) (coded own.description)) _ q in
          let y_is : y ≡ opened (asked m) own (coded own.description) (t ++ u) = ap (λ z. opened (asked m) own z (t ++ u)) codes in
          subst (λ z. Follows m z s t u x y) is
          (subst (λ z. Follows m own.description s t u z y) (sym x-is)
          (subst (Follows m own.description s t u (then (need (leb (length s + length c) own.reach) (refusal 32 Frame 12)) (λ _. Ok s))) (sym y_is)
          (follows_own m keeps own a s t u bt g.1 lt (lu ∙ long) (length s + length c) (ap₂ (λ (i k : ℕ). i + k) lt lu))))

  follows : Follows m d s t u (taken (asked m) b (frame n d s c)) (taken (asked m) b (frame n d t u))
  follows =
      subst (λ x. Follows m d s t u x (taken (asked m) b (frame n d t u))) (sym (fated m keeps b ad n d s c some agree))
      (subst (Follows m d s t u (then (entry_at b n) (λ e. fate_at e d (length s + length c) s)))
      (sym (headed (asked m) b n d t u (subst (λ (k : ℕ). 1 ≤ k) (sym (ap₂ (λ (i k : ℕ). i + k) lt lu)) some))) (go (entry_at b n) refl))
    where
      go : (e : Result Entry Refusal) → entry_at b n ≡ e
          → Follows m d s t u (then e (λ own. fate_at own d (length s + length c) s)) (then e (λ own. opened (asked m) own (coded d) (t ++ u)))
      go (Err z) h = both_refuse m d s t u (Err z) (Err z) z refl refl
      go (Ok own) h = let k = entry_ok b n own h in follows_at own (all_held (Admitted m) b n own ad k) (agree own k)

pub refuses_sure_words : RefusesSureWords
refuses_sure_words a b ka kb match n s f e sent mask bm lm zero-head sure ds =
    let x = book_after (asked a) sent.calls in
    let y = book_after (asked b) ds in
    let xa = book_admitted a sent.calls in
    let yb = book_admitted b ds in
    let l = sealed_lawful a x n s sent.room f ka xa sent.bytes (sealed_ok a x n s sent.room f sent.wrote) in
    let fits = book_fits (asked a) sent.calls sent.typed in
    let bf = lawful_bytes a x n f s ka xa fits l in
    let d = l.entry.description in
    let c = a.check d s in
    let g = altered f mask in
    let t = take (length s) (drop 16 g) in
    let u = drop (length s) (drop 16 g) in
    let bt : Bytes t = bytes_take (length s) (drop 16 g) (bytes_drop 16 g (bytes_altered f mask bf bm)) in
    let size : length f ≡ 16 + (length s + length c) = ap length l.is_frame ∙ omega (arith, length-append s c) in
    let word : length (drop 16 g) ≡ length s + length c = length-drop 16 g ∙ omega (arith, length-altered f mask) in
    let lt : length t ≡ length s = length-take (length s) (drop 16 g) ∙ omega (arith, word) in
    let lu : length u ≡ length c = length-drop (length s) (drop 16 g) ∙ omega (arith, word) in
    let heads : take 16 g ≡ take 16 f =
    take-altered 16 f mask ∙ unaltered (take 16 f) (take 16 mask) (bytes_take 16 f bf) (bytes_take 16 mask bm) (part_lengths 16 f mask lm).0 zero-head in
    let is-g : g ≡ frame n d t u =
    sym (take-append-drop 16 g)
    ∙ ap₂ (λ (i k : List ℕ). i ++ k) (heads ∙ frame-head a x n f s l ∙ ap (head n d) (ap₂ (λ (i k : ℕ). i + k) (sym lt) (sym lu)))
    (sym (take-append-drop (length s) (drop 16 g))) in
    let fd = (all_held Fitting x n l.entry fits l.is_held).1 in
    let own : l.entry ≡ e = some_is l.entry e (sym l.is_held ∙ sent.by) in
    let k : Follows b d s t u (taken (asked b) y f) (taken (asked b) y g) =
    subst (λ z. Follows b d s t u (taken (asked b) y z) (taken (asked b) y g)) (sym l.is_frame)
    (subst (λ z. Follows b d s t u (taken (asked b) y (frame n d s c)) (taken (asked b) y z)) (sym is-g)
    (follows b kb y yb n d s c t u bt lt lu (omega (arith, l.lawful.some)) (agrees a b ka kb match x y xa yb n f s l fd))) in
    let refused = refuses_sure_flips_for_callers a b ka kb match n s f e sent mask bm lm sure ds in
    subst (λ z. WordRefused b y z.description s f g) own (record { as_unaltered = k.0; by_check = λ q. k.1 q refused })
