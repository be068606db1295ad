-- Objects that begin at a place, under a test of their words: the live words are those of the kept objects, and a new place is what is live below. Assumes nothing.
use mathlib.Core.Path.{◌≡◌, refl, sym, ap, ap₂, ◌∙◌, subst}
use mathlib.Core.Bool.{Bool, true, false, ◌&&◌, cond, and-true}
use mathlib.Core.Logic.{◌⊎◌, inl, inr}
use mathlib.Core.List.{List, [], ◌∷◌, ◌++◌, map}
use Prim.Native.Nat.{ℕ, suc, ◌+◌, ◌-◌, ◌≤◌, ◌<◌}
use native.Mathlib.Nat.{zero-add}
use native.Mathlib.Omega.{arith}
use lib.ListN.{length, get_or, length-append, length-map}
use borrow.Author.Tests.{lt-ltb, le-ltb}
use Rattle.meaning.specs.Values.{is_ref, place_of, ref_to}
use Rattle.meaning.specs.Objects.{Object, rec, raw, size, words_of, encode}
use Rattle.meaning.specs.Places.{cons_if, places_from}
use Rattle.meaning.specs.Slide.{kept, new_place, fix_word, fix_object}
use Rattle.meaning.proofs.Counting.{places_split, places_none, places_count, places_read}
use Rattle.meaning.proofs.ParseEncode.{total}

map-append : {A B : Type 0} (f : A → B) (xs ys : List A) → map f (xs ++ ys) ≡ map f xs ++ map f ys
map-append f [] ys = refl
map-append f (x ∷ xs) ys = ap (λ (l : List _). f x ∷ l) (map-append f xs ys)

-- ## The interface: what a test for live words, and a reading of fixed words, have to say of objects that begin at p
module _ (t m : ℕ → Bool) where
  -- the words of an object are live just if its place is marked
  abbrev pub Covers : ℕ → List Object → Type 0
  Covers p [] = Unit {0}
  Covers p (o ∷ os) = ((k : ℕ) → k < size o → t (p + k) ≡ m p) × Covers (p + size o) os

-- g reads the words of each kept object, fixed by f
module _ (m : ℕ → Bool) (f g : ℕ → ℕ) where
  abbrev pub Reads : ℕ → List Object → Type 0
  Reads p [] = Unit {0}
  Reads p (o ∷ os) = (m p ≡ true → (k : ℕ) → k < size o → g (p + k) ≡ get_or (words_of (fix_object f o)) k 0) × Reads (p + size o) os

pub size_fix : (f : ℕ → ℕ) (o : Object) → size (fix_object f o) ≡ size o
size_fix f (rec ws) = ap suc (length-map ws (fix_word f))
size_fix f (raw ws) = refl

module _ (t m : ℕ → Bool) where
  -- L, the live words, are the words of the kept objects
  pub live_words : (p : ℕ) (os : List Object) → Covers t m p os → length (places_from t p (total os)) ≡ total (kept m p os)
  live_words p [] c = refl
  live_words p (o ∷ os) c =
      ap length (places_split t p (size o) (total os)) ∙ length-append (places_from t p (size o)) _
      ∙ ap₂ ◌+◌ (places_count t (m p) p (size o) c.0) (live_words (p + size o) os c.1) ∙ go (m p)
    where
      go : (b : Bool) → cond b (size o) 0 + total (kept m (p + size o) os) ≡ total (cons_if b o (kept m (p + size o) os))
      go true = refl
      go false = zero-add _

  -- the bridge, for objects that begin at p
  pub bridge_from : (f g : ℕ → ℕ) (p : ℕ) (os : List Object) → Covers t m p os → Reads m f g p os
      → map g (places_from t p (total os)) ≡ encode (map (fix_object f) (kept m p os))
  bridge_from f g p [] c r = refl
  bridge_from f g p (o ∷ os) c r =
      ap (map g) (places_split t p (size o) (total os)) ∙ map-append g (places_from t p (size o)) _
      ∙ ap (λ (l : List ℕ). map g (places_from t p (size o)) ++ l) (bridge_from f g (p + size o) os c.1 r.1) ∙ go (m p) refl
    where
      K : List Object
      K = kept m (p + size o) os

      go : (b : Bool) → m p ≡ b → map g (places_from t p (size o)) ++ encode (map (fix_object f) K) ≡ encode (map (fix_object f) (cons_if b o K))
      go true e =
          ap (λ (l : List ℕ). l ++ encode (map (fix_object f) K))
          (subst (λ (n : ℕ). map g (places_from t p n) ≡ words_of (fix_object f o)) (size_fix f o)
          (places_read t g p (words_of (fix_object f o)) (λ k h. c.0 k (rw (size_fix f o) at h) ∙ e) (λ k h. r.0 e k (rw (size_fix f o) at h))))
      go false e = ap (λ (l : List ℕ). map g l ++ encode (map (fix_object f) K)) (places_none t p (size o) (λ k h. c.0 k h ∙ e))

-- ## New places
-- q is the place of an object
abbrev pub IsPlace : ℕ → List Object → ℕ → Type 0
IsPlace p [] q = ⊥
IsPlace p (o ∷ os) q = (p ≡ q) ⊎ IsPlace (p + size o) os q

place_from : (p : ℕ) (os : List Object) (q : ℕ) → IsPlace p os q → p ≤ q
place_from p [] q i = absurd i
place_from p (o ∷ os) q (inl e) = omega arith
place_from p (o ∷ os) q (inr i) = omega (arith, place_from (p + size o) os q i)

pub new_zero : (m : ℕ → Bool) (p : ℕ) (os : List Object) (q : ℕ) → q ≤ p → new_place m p os q ≡ 0
new_zero m p [] q h = refl
new_zero m p (o ∷ os) q h = rw (le-ltb p q h, new_zero m (p + size o) os q (omega arith)) (go (m p))
  where
    go : (b : Bool) → cond (b && false) (size o) 0 + 0 ≡ 0
    go true = refl
    go false = refl

module _ (t m : ℕ → Bool) where
  pub new_below_from : (p : ℕ) (os : List Object) (q : ℕ) → Covers t m p os → IsPlace p os q → new_place m p os q ≡ length (places_from t p (q - p))
  new_below_from p [] q c i = absurd i
  new_below_from p (o ∷ os) q c (inl e) = new_zero m p (o ∷ os) q (omega arith) ∙ ap (λ (n : ℕ). length (places_from t p n)) (let z : 0 ≡ q - p = omega arith in z)
  new_below_from p (o ∷ os) q c (inr i) =
      let l : p + size o ≤ q = place_from (p + size o) os q i in
      let d : q - p ≡ size o + (q - (p + size o)) = omega arith in
      rw (lt-ltb p q (omega arith), and-true (m p), d, places_split t p (size o) (q - (p + size o)), length-append)
      (ap₂ ◌+◌ (sym (places_count t (m p) p (size o) c.0)) (new_below_from (p + size o) os q c.1 i))

-- ## A heap that holds the objects os
-- each reference of a kept record is to the place of an object
module _ (m : ℕ → Bool) (at : ℕ → Type 0) where
  abbrev pub FieldsOk : Object → Type 0
  FieldsOk (rec ws) = (k : ℕ) → k < length ws → is_ref (get_or ws k 0) ≡ true → at (place_of (get_or ws k 0))
  FieldsOk (raw ws) = Unit {0}

  abbrev pub RefsOk : ℕ → List Object → Type 0
  RefsOk p [] = Unit {0}
  RefsOk p (o ∷ os) = (m p ≡ true → FieldsOk o) × RefsOk (p + size o) os

-- the two maps agree at the references that there are
module _ (m : ℕ → Bool) (f g : ℕ → ℕ) (at : ℕ → Type 0) (same : (q : ℕ) → at q → f q ≡ g q) where
  fix_word_same : (w : ℕ) → (is_ref w ≡ true → at (place_of w)) → fix_word f w ≡ fix_word g w
  fix_word_same w h = go (is_ref w) refl
    where
      go : (b : Bool) → is_ref w ≡ b → cond b (ref_to (f (place_of w))) w ≡ cond b (ref_to (g (place_of w))) w
      go true e = ap ref_to (same (place_of w) (h e))
      go false e = refl

  pub fix_words_same : (ws : List ℕ) → FieldsOk m at (rec ws) → map (fix_word f) ws ≡ map (fix_word g) ws
  fix_words_same [] h = refl
  fix_words_same (w ∷ ws) h = ap₂ ◌∷◌ (fix_word_same w (h 0 (omega arith))) (fix_words_same ws (λ k l. h (suc k) (omega arith)))

  fix_object_same : (o : Object) → FieldsOk m at o → fix_object f o ≡ fix_object g o
  fix_object_same (rec ws) h = ap rec (fix_words_same ws h)
  fix_object_same (raw ws) h = refl

  pub slide_same : (p : ℕ) (os : List Object) → RefsOk m at p os → map (fix_object f) (kept m p os) ≡ map (fix_object g) (kept m p os)
  slide_same p [] h = refl
  slide_same p (o ∷ os) h = go (m p) refl (slide_same (p + size o) os h.1)
    where
      K : List Object
      K = kept m (p + size o) os

      go : (b : Bool) → m p ≡ b → map (fix_object f) K ≡ map (fix_object g) K → map (fix_object f) (cons_if b o K) ≡ map (fix_object g) (cons_if b o K)
      go true e ih = ap₂ ◌∷◌ (fix_object_same o (h.0 e)) ih
      go false e ih = ih
