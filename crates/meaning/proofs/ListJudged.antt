-- What the check finds in the words of a list of objects, it finds in the list: strays, lost references, what is kept. Assumes nothing.
use mathlib.Core.Path.{◌≡◌, refl, sym, ap, ap₂, ◌∙◌}
use mathlib.Core.Bool.{Bool, true, false, not, ◌&&◌, ◌||◌, cond}
use mathlib.Core.Logic.{⊎_elim, ◌≢◌}
use mathlib.Core.List.{List, [], ◌∷◌, ◌++◌, map}
use Prim.Native.Nat.{ℕ, zero, suc, ◌+◌, ◌-◌, ◌*◌, ◌/◌, ◌%◌, ◌≤◌, ◌<◌}
use native.Mathlib.Nat.{add-zero, zero-add, add-suc, suc-add, add_assoc}
use native.Mathlib.Omega.{arith}
use lib.ListN.{length, get_or, take, length-map, get_or-append}
use lib.Seq.{get_or-append-add, get_or-take}
use lib.Dec.{ltb, leb, eqb}
use borrow.Author.Tests.{lt-ltb, le-ltb, le-leb, lt-leb, eq-eqb, ne_eqb}
use Rattle.meaning.specs.Limits.{block_words, heap_words}
use Rattle.meaning.specs.Values.{Value, int, nil, ref, is_ref, place_of, value_of, word_of}
use Rattle.meaning.specs.Places.{cons_if, places_from, below, marked}
use Rattle.meaning.specs.Objects as O
use Rattle.meaning.specs.Objects.{Object, kind, size, held_by}
use Rattle.meaning.specs.Slide.{kept, header_at, live_at, field_at}
use Rattle.meaning.specs.Collect.{dangling, strays, bad_roots, bad_fields}
use Rattle.meaning.specs.SimpleList.{Born, rec, raw, gone, words, in_use, place, the, field_of, no_value}
use Rattle.meaning.specs.ListCollect.{stands, place_in, live_in, lost, lost_from, lost_in, keep, keep_in, standing}
use Rattle.meaning.proofs.Deciding.{le_or_lt}
use Rattle.meaning.proofs.ValueWords.{Sort, integer, nothing, reference, sorts, read_made}
use Rattle.meaning.proofs.Counting.{places_split, places_none, places_same}
use Rattle.meaning.proofs.ParseEncode.{total, length-encode}
use Rattle.meaning.proofs.ByObjects as B
use Rattle.meaning.proofs.ByObjects.{Covers}
use Rattle.meaning.proofs.Births.{value_word, born_words, list_words, objects_of, list_encode, Good, length-born_words, length-list_words, place-below}

or_no : (b : Bool) → b || false ≡ b
or_no true = refl
or_no false = refl

and_no : (b : Bool) → b && false ≡ false
and_no true = refl
and_no false = refl

-- ## Headers
place-before : (p : ℕ) (os : List Born) (q : ℕ) → q < p → place_in p os q ≡ false
place-before p [] q h = refl
place-before p (o ∷ os) q h =
    rw (ne_eqb p q (λ i. omega arith), place-before (p + words o) os q (omega arith), and_no (stands o))

header_step : (p n q : ℕ) (x y : Bool) → (q < p + suc n → y ≡ false) → x ≡ y → cond (ltb q (p + suc n)) (eqb p q) x ≡ eqb p q || y
header_step p n q x y low e =
    ⊎_elim (λ (h : p + suc n ≤ q). rw (le-ltb q (p + suc n) h, ne_eqb p q (λ i. omega arith)) e)
    (λ (h : q < p + suc n). rw (lt-ltb q (p + suc n) h, low h) (sym (or_no (eqb p q)))) (le_or_lt (p + suc n) q)

header_from : (f : ℕ → ℕ) (p : ℕ) (os : List Born) (q : ℕ) → held_by (λ a o. eqb a q) p (objects_of f os) q ≡ place_in p os q
header_from f p [] q = refl
header_from f p (rec vs ∷ os) q =
    rw (length-map vs (value_word f))
    (header_step p (length vs) q _ _ (place-before (p + suc (length vs)) os q) (header_from f (p + suc (length vs)) os q))
header_from f p (raw ws ∷ os) q =
    header_step p (length ws) q _ _ (place-before (p + suc (length ws)) os q) (header_from f (p + suc (length ws)) os q)
header_from f p (gone n ∷ os) q = rw add-zero (header_from f p os q)

pub header_same : (f : ℕ → ℕ) (os : List Born) (q : ℕ) → header_at (objects_of f os) q ≡ place_in 0 os q
unfolding header_at
header_same f os q = header_from f 0 os q

pub strays_same : (f : ℕ → ℕ) (os : List Born) (marks : List ℕ)
    → strays (objects_of f os) marks ≡ places_from (λ q. marked marks q && not (place_in 0 os q)) 0 (block_words * length marks)
strays_same f os marks =
    places_same _ _ 0 (block_words * length marks) (λ k h. ap (λ (b : Bool). marked marks (0 + k) && not b) (header_same f os (0 + k)))

-- ## Live words
module _ (m : ℕ → Bool) where
  live-before : (p : ℕ) (os : List Born) (q : ℕ) → q < p → live_in m p os q ≡ false
  live-before p [] q h = refl
  live-before p (o ∷ os) q h = rw (lt-leb p q h, live-before (p + words o) os q (omega arith), and_no (m p))

  live-step : (b : Bool) (p n q : ℕ) (x y : Bool) → p ≤ q → (q < p + suc n → y ≡ false) → (p + suc n ≤ q → x ≡ y)
      → cond (ltb q (p + suc n)) b x ≡ (b && (leb p q && ltb q (p + suc n))) || y
  live-step b p n q x y l low e =
      ⊎_elim (λ (h : p + suc n ≤ q). rw (le-ltb q (p + suc n) h, le-leb p q l, and_no b) (e h))
      (λ (h : q < p + suc n). rw (lt-ltb q (p + suc n) h, le-leb p q l, low h) (go b)) (le_or_lt (p + suc n) q)
    where
      go : (b : Bool) → b ≡ (b && true) || false
      go true = refl
      go false = refl

  live_from : (f : ℕ → ℕ) (p : ℕ) (os : List Born) (q : ℕ) → p ≤ q → held_by (λ a o. m a) p (objects_of f os) q ≡ live_in m p os q
  live_from f p [] q l = refl
  live_from f p (rec vs ∷ os) q l =
      rw (length-map vs (value_word f))
      (live-step (m p) p (length vs) q _ _ l (live-before (p + suc (length vs)) os q) (live_from f (p + suc (length vs)) os q))
  live_from f p (raw ws ∷ os) q l =
      live-step (m p) p (length ws) q _ _ l (live-before (p + suc (length ws)) os q) (live_from f (p + suc (length ws)) os q)
  live_from f p (gone n ∷ os) q l = rw (add-zero p, le-ltb q p l, and_no (leb p q), and_no (m p)) (live_from f p os q l)

pub live_same : (f : ℕ → ℕ) (m : ℕ → Bool) (os : List Born) (q : ℕ) → live_at m (objects_of f os) q ≡ live_in m 0 os q
unfolding live_at
live_same f m os q = live_from m f 0 os q (omega arith)

-- ## What is kept
module _ (m : ℕ → Bool) (f : ℕ → ℕ) where
  standing_from : (p : ℕ) (os : List Born) → length (kept m p (objects_of f os)) ≡ standing (keep_in m p os)
  standing_from p [] = refl
  standing_from p (rec vs ∷ os) = rw (length-map vs (value_word f)) (go (m p) _ _ _ (standing_from (p + suc (length vs)) os))
    where
      go : (b : Bool) (o : Object) (os : List Object) (n : ℕ) → length os ≡ n → length (cons_if b o os) ≡ cond (stands (keep b (rec vs))) 1 0 + n
      go true o os n e = omega arith
      go false o os n e = omega arith
  standing_from p (raw ws ∷ os) = go (m p) _ _ _ (standing_from (p + suc (length ws)) os)
    where
      go : (b : Bool) (o : Object) (os : List Object) (n : ℕ) → length os ≡ n → length (cons_if b o os) ≡ cond (stands (keep b (raw ws))) 1 0 + n
      go true o os n e = omega arith
      go false o os n e = omega arith
  standing_from p (gone n ∷ os) = rw add-zero (go (m p) (standing_from p os))
    where
      go : (b : Bool) {x y : ℕ} → x ≡ y → x ≡ cond (stands (keep b (gone n))) 1 0 + y
      go true e = omega arith
      go false e = omega arith

  total_from : (p : ℕ) (os : List Born) → total (kept m p (objects_of f os)) ≡ in_use (keep_in m p os)
  total_from p [] = refl
  total_from p (rec vs ∷ os) = rw (length-map vs (value_word f)) (go (m p) _ _ (total_from (p + suc (length vs)) os))
    where
      go : (b : Bool) (os : List Object) (n : ℕ) → total os ≡ n → total (cons_if b (O.rec (map (value_word f) vs)) os) ≡ words (keep b (rec vs)) + n
      go true os n e = omega (arith, length-map vs (value_word f))
      go false os n e = omega arith
  total_from p (raw ws ∷ os) = go (m p) _ _ (total_from (p + suc (length ws)) os)
    where
      go : (b : Bool) (os : List Object) (n : ℕ) → total os ≡ n → total (cons_if b (O.raw ws) os) ≡ words (keep b (raw ws)) + n
      go true os n e = omega arith
      go false os n e = omega arith
  total_from p (gone n ∷ os) = rw add-zero (go (m p) (total_from p os))
    where
      go : (b : Bool) {x y : ℕ} → x ≡ y → x ≡ words (keep b (gone n)) + y
      go true e = omega arith
      go false e = omega arith

pub kept-standing : (f : ℕ → ℕ) (m : ℕ → Bool) (os : List Born) → length (kept m 0 (objects_of f os)) ≡ standing (keep_in m 0 os)
kept-standing f m os = standing_from m f 0 os

-- objects cover their words, whatever heap they lie in
covers-held : (t m : ℕ → Bool) (p : ℕ) (os : List Object) → ((q : ℕ) → p ≤ q → t q ≡ held_by (λ a o. m a) p os q) → Covers t m p os
covers-held t m p [] h = tt
covers-held t m p (o ∷ os) h = (
  λ k l. h (p + k) (omega arith) ∙ rw (lt-ltb (p + k) (p + size o) (omega arith)),
  covers-held t m (p + size o) os (λ q l. h q (omega arith) ∙ rw (le-ltb q (p + size o) l)),
)

total-objects : (f : ℕ → ℕ) (os : List Born) → total (objects_of f os) ≡ in_use os
total-objects f os = sym (length-encode (objects_of f os)) ∙ ap length (sym (list_encode f os)) ∙ length-list_words f os

pub live_words : (f : ℕ → ℕ) (m : ℕ → Bool) (os : List Born) → below (live_at m (objects_of f os)) (in_use os) ≡ in_use (keep_in m 0 os)
unfolding below live_at
live_words f m os =
    ap (λ (n : ℕ). length (places_from (live_at m (objects_of f os)) 0 n)) (sym (total-objects f os))
    ∙ B.live_words (live_at m (objects_of f os)) m 0 (objects_of f os) (covers-held _ m 0 (objects_of f os) (λ q l. refl))
    ∙ total_from m f 0 os

-- ## Lost references
int-plain : (w : ℕ) (v : Value) → ((i : ℕ) → v ≢ ref i) → value_of w ≡ v → is_ref w ≡ false
int-plain w v n e = go (sorts w)
  where
    go : Sort w → is_ref w ≡ false
    go (integer _ _ f _) = f
    go (nothing _ _ f _) = f
    go (reference _ _ _ r) = absurd (n (place_of w) (sym e ∙ r))

dangling-lost : (m : ℕ → Bool) (os : List Born) → in_use os ≤ heap_words → (v : Value) → Good os v → dangling m (value_word (place os) v) ≡ lost m os v
dangling-lost m os few (int z) h =
    rw (int-plain (word_of (int z)) (int z) (λ i e. let no-int : ◌≡◌ {A = ℕ} 0 1 = cc in omega arith) (read_made (int z) h).1)
dangling-lost m os few nil h = refl
dangling-lost m os few (ref i) h =
    let b = place-below os i 0 h in
    let odd : (2 * place os i + 1) % 2 ≡ 1 = omega arith in
    let half : (2 * place os i + 1 - 1) / 2 ≡ place os i = omega arith in
    rw (eq-eqb ((2 * place os i + 1) % 2) 1 odd, ne_eqb (2 * place os i + 1) 4294967295 (λ e. omega arith), half)

-- a test that is `lost` of the values from q on
lost_places : (m t : ℕ → Bool) (os : List Born) (q : ℕ) (vs : List Value) → ((k : ℕ) → k < length vs → t (q + k) ≡ lost m os (get_or vs k no_value))
    → places_from t q (length vs) ≡ lost_from m os q vs
lost_places m t os q [] h = refl
lost_places m t os q (v ∷ vs) h =
    ap₂ (λ (b : Bool) (l : List ℕ). cons_if b q l) (rw add-zero at (h 0 (omega arith)))
    (lost_places m t os (suc q) vs (λ k l. rw (suc-add, ← add-suc q k) (h (suc k) (omega arith))))

get_or_values : (f : Value → ℕ) (vs : List Value) (k : ℕ) → k < length vs → get_or (map f vs) k 0 ≡ f (get_or vs k no_value)
get_or_values f [] k h = absurd (omega arith)
get_or_values f (v ∷ vs) zero h = refl
get_or_values f (v ∷ vs) (suc k) h = get_or_values f vs k (omega arith)

pub bad_roots_same : (os : List Born) (marks : List ℕ) (slots : List Value) → in_use os ≤ heap_words → ((s : ℕ) → Good os (get_or slots s no_value))
    → bad_roots (map (value_word (place os)) slots) marks ≡ lost_from (marked marks) os 0 slots
bad_roots_same os marks slots few good =
    rw (length-map slots (value_word (place os)))
    (lost_places (marked marks) _ os 0 slots
    (λ k h. rw (zero-add k, get_or_values (value_word (place os)) slots k h) (dangling-lost (marked marks) os few (get_or slots k no_value) (good k))))

-- ## Lost fields: t is the test of word k of the objects that begin at p
module _ (m t : ℕ → Bool) (f : ℕ → ℕ) (all : List Born) where
  abbrev Tests : ℕ → List Born → Type 0
  Tests p os = (k : ℕ) → k < in_use os
      → t (p + k) ≡ held_by (λ a o. m a && (ltb a (p + k) && eqb (kind o) 0)) p (objects_of f os) (p + k) && dangling m (get_or (list_words f os) k 0)

  -- what it says of the first object's words, and of those after
  tests_rec : (p : ℕ) (vs : List Value) (os : List Born) → Tests p (rec vs ∷ os) → (k : ℕ) → k < suc (length vs)
      → t (p + k) ≡ (m p && (ltb p (p + k) && true)) && dangling m (get_or (born_words f (rec vs)) k 0)
  tests_rec p vs os h k l =
      let n : suc (length (map (value_word f) vs)) ≡ suc (length vs) = length-born_words f (rec vs) in
      h k (omega arith)
      ∙ rw (lt-ltb (p + k) (p + suc (length (map (value_word f) vs))) (omega arith))
      (ap (λ (w : ℕ). (m p && (ltb p (p + k) && true)) && dangling m w) (get_or-append (born_words f (rec vs)) (list_words f os) 0 k (omega arith)))

  tests_raw : (p : ℕ) (ws : List ℕ) (os : List Born) → Tests p (raw ws ∷ os) → (k : ℕ) → k < suc (length ws) → t (p + k) ≡ false
  tests_raw p ws os h k l =
      h k (omega arith) ∙ rw (lt-ltb (p + k) (p + suc (length ws)) (omega arith), and_no (ltb p (p + k)), and_no (m p))

  past_one : (o : Born) (os : List Born) (k : ℕ) → get_or (born_words f o ++ list_words f os) (words o + k) 0 ≡ get_or (list_words f os) k 0
  past_one o os k = rw (← length-born_words f o) (get_or-append-add (born_words f o) (list_words f os) k 0)

  rec_next : (p : ℕ) (vs : List Value) (os : List Born) → Tests p (rec vs ∷ os) → Tests (p + suc (length vs)) os
  rec_next p vs os h k l =
      let n = suc (length vs) in
      rw (add_assoc p n k)
      (h (n + k) (omega arith) ∙ rw (past_one (rec vs) os k, length-map vs (value_word f), le-ltb (p + (n + k)) (p + n) (omega arith)))

  raw_next : (p : ℕ) (ws : List ℕ) (os : List Born) → Tests p (raw ws ∷ os) → Tests (p + suc (length ws)) os
  raw_next p ws os h k l =
      let n = suc (length ws) in
      rw (add_assoc p n k)
      (h (n + k) (omega arith) ∙ rw (past_one (raw ws) os k, le-ltb (p + (n + k)) (p + n) (omega arith)))

  one_rec : (p : ℕ) (vs : List Value) → ((k : ℕ) → dangling m (value_word f (get_or vs k no_value)) ≡ lost m all (get_or vs k no_value))
      → ((k : ℕ) → k < suc (length vs) → t (p + k) ≡ (m p && (ltb p (p + k) && true)) && dangling m (get_or (born_words f (rec vs)) k 0))
      → places_from t p (suc (length vs)) ≡ cond (m p) (lost_from m all (suc p) vs) []
  one_rec p vs good h = rw first (go (m p) refl)
    where
      first : t p ≡ false
      first = (rw (add-zero p) at (h 0 (omega arith))) ∙ rw (le-ltb p p (omega arith), and_no (m p))

      next : (b : Bool) → m p ≡ b → (k : ℕ) → k < length vs → t (suc p + k) ≡ b && lost m all (get_or vs k no_value)
      next b e k l =
          rw (suc-add, ← add-suc p k)
          (h (suc k) (omega arith)
          ∙ rw (lt-ltb p (p + suc k) (omega arith), e, get_or_values (value_word f) vs k l, good k) (two b (lost m all (get_or vs k no_value))))
        where
          two : (b c : Bool) → (b && true) && c ≡ b && c
          two true c = refl
          two false c = refl

      go : (b : Bool) → m p ≡ b → places_from t (suc p) (length vs) ≡ cond b (lost_from m all (suc p) vs) []
      go true e = lost_places m t all (suc p) vs (next true e)
      go false e = places_none t (suc p) (length vs) (next false e)

  fields_from : (p : ℕ) (os : List Born) → ((i k : ℕ) → dangling m (value_word f (field_of (the os i) k)) ≡ lost m all (field_of (the os i) k))
      → Tests p os → places_from t p (in_use os) ≡ lost_in m all p os
  fields_from p [] good h = refl
  fields_from p (rec vs ∷ os) good h =
      places_split t p (suc (length vs)) (in_use os)
      ∙ ap₂ ◌++◌ (one_rec p vs (good 0) (tests_rec p vs os h)) (fields_from (p + suc (length vs)) os (λ i. good (suc i)) (rec_next p vs os h))
  fields_from p (raw ws ∷ os) good h =
      places_split t p (suc (length ws)) (in_use os)
      ∙ ap₂ ◌++◌ (places_none t p (suc (length ws)) (tests_raw p ws os h))
      (fields_from (p + suc (length ws)) os (λ i. good (suc i)) (raw_next p ws os h))
  fields_from p (gone n ∷ os) good h =
      rw (add-zero p, zero-add (in_use os)) (fields_from p os (λ i. good (suc i)) (λ k l. h k (omega arith)))

pub bad_fields_same : (os : List Born) (heap : List ℕ) (top : ℕ) (marks : List ℕ) → take top heap ≡ list_words (place os) os
    → top ≡ in_use os → in_use os ≤ heap_words
    → ((i k : ℕ) → Good os (field_of (the os i) k)) → bad_fields (objects_of (place os) os) heap top marks ≡ lost_in (marked marks) os 0 os
unfolding field_at
bad_fields_same os heap top marks below_top at_top few good =
    let m = marked marks in
    ap (places_from _ 0) at_top
    ∙ fields_from m _ (place os) os 0 os (λ i k. dangling-lost m os few (field_of (the os i) k) (good i k))
    (λ k l. rw (zero-add k, ← below_top, get_or-take top heap k 0 (omega arith)))
