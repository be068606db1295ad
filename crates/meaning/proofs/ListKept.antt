-- What a collection leaves of the simple list: its words are the slid ones, and each value has its fixed word. Assumes nothing.
use mathlib.Core.Path.{◌≡◌, refl, sym, ap, ap₂, subst}
use mathlib.Core.Logic.{◌≢◌}
use mathlib.Core.Bool.{Bool, true, false, cond, and-true}
use mathlib.Core.List.{List, [], ◌∷◌, ◌++◌, map}
use Prim.Native.Nat.{ℕ, zero, suc, ◌+◌, ◌-◌, ◌*◌, ◌/◌, ◌%◌, ◌≤◌}
use native.Mathlib.Nat.{add-zero, zero-add, add_assoc}
use native.Mathlib.Omega.{arith}
use lib.ListN.{length, get_or, length-map}
use lib.IntN.{ℤ}
use borrow.Author.Tests.{lt-ltb, ne_eqb, not-false}
use Rattle.meaning.specs.Limits.{heap_words, payload_words}
use Rattle.meaning.specs.Values.{Value, int, nil, ref, is_ref, value_of, word_of, has_word}
use Rattle.meaning.specs.Places.{cons_if}
use Rattle.meaning.specs.Objects as O
use Rattle.meaning.specs.Objects.{Object, words_of, encode}
use Rattle.meaning.specs.Slide.{kept, new_place, fix_word, fix_object, slide}
use Rattle.meaning.specs.SimpleList.{Born, rec, raw, gone, words, in_use, place, the, field_of, no_value}
use Rattle.meaning.specs.ListCollect.{lost, lost_from, lost_of, lost_in, keep, keep_in}
use Rattle.meaning.proofs.ValueWords.{Sort, integer, nothing, reference, sorts, read_made}
use Rattle.meaning.proofs.ByObjects.{new_zero}
use Rattle.meaning.proofs.Births.{value_word, list_words, objects_of, Good, place-below}

-- ## Nothing lost
append_none : {A : Type 0} (xs ys : List A) → xs ++ ys ≡ [] → (xs ≡ []) × (ys ≡ [])
append_none [] ys e = (refl, e)
append_none (x ∷ xs) ys e = (cc, cc)

cons_none : (b : Bool) (q : ℕ) (qs : List ℕ) → cons_if b q qs ≡ [] → (b ≡ false) × (qs ≡ [])
cons_none true q qs e = (cc, cc)
cons_none false q qs e = (refl, e)

-- of values with no lost one, none is lost
pub lost_none : (m : ℕ → Bool) (all : List Born) (q : ℕ) (vs : List Value) → lost_from m all q vs ≡ []
    → (k : ℕ) → lost m all (get_or vs k no_value) ≡ false
lost_none m all q [] e k = refl
lost_none m all q (v ∷ vs) e zero = (cons_none (lost m all v) q (lost_from m all (suc q) vs) e).0
lost_none m all q (v ∷ vs) e (suc k) = lost_none m all (suc q) vs (cons_none (lost m all v) q (lost_from m all (suc q) vs) e).1 k

lost_none_of : (m : ℕ → Bool) (all : List Born) (p : ℕ) (o : Born) → lost_of m all p o ≡ [] → m p ≡ true
    → (k : ℕ) → lost m all (field_of o k) ≡ false
lost_none_of m all p (rec vs) e h k = lost_none m all (suc p) vs (rw h at e) k
lost_none_of m all p (raw ws) e h k = refl
lost_none_of m all p (gone n) e h k = refl

-- of marked objects with no lost field, none is lost; the first object is at p
pub fields_none : (m : ℕ → Bool) (all os : List Born) (p : ℕ) → lost_in m all p os ≡ []
    → (i : ℕ) → m (p + place os i) ≡ true → (k : ℕ) → lost m all (field_of (the os i) k) ≡ false
fields_none m all [] p e i h k = refl
fields_none m all (o ∷ os) p e zero h k =
    lost_none_of m all p o (append_none (lost_of m all p o) (lost_in m all (p + words o) os) e).0 (rw add-zero at h) k
fields_none m all (o ∷ os) p e (suc i) h k =
    fields_none m all os (p + words o) (append_none (lost_of m all p o) (lost_in m all (p + words o) os) e).1 i
    (rw (← add_assoc p (words o) (place os i)) at h) k

-- ## What is kept
keep-gone : (b : Bool) (n : ℕ) → keep b (gone n) ≡ gone n
keep-gone true n = refl
keep-gone false n = refl

words-keep : (b : Bool) (o : Born) → words (keep b o) ≡ cond b (words o) 0
words-keep true o = refl
words-keep false (rec vs) = refl
words-keep false (raw ws) = refl
words-keep false (gone n) = refl

-- the object of a birth number, kept or dropped
pub kept-the : (m : ℕ → Bool) (p : ℕ) (os : List Born) (i : ℕ) → the (keep_in m p os) i ≡ keep (m (p + place os i)) (the os i)
kept-the m p [] i = sym (keep-gone (m (p + 0)) 0)
kept-the m p (o ∷ os) zero = rw add-zero
kept-the m p (o ∷ os) (suc i) = rw (← add_assoc p (words o) (place os i)) (kept-the m (p + words o) os i)

pub kept_words : (m : ℕ → Bool) (p : ℕ) (os : List Born) (i : ℕ) → m (p + place os i) ≡ true
    → words (the (keep_in m p os) i) ≡ words (the os i)
kept_words m p os i h = rw (kept-the m p os i, h)

pub kept_words_few : (m : ℕ → Bool) (p : ℕ) (os : List Born) (i : ℕ) → words (the (keep_in m p os) i) ≤ words (the os i)
kept_words_few m p os i = rw (kept-the m p os i, words-keep (m (p + place os i)) (the os i)) (go (m (p + place os i)))
  where
    go : (b : Bool) → cond b (words (the os i)) 0 ≤ words (the os i)
    go true = omega arith
    go false = omega arith

pub counts_left : (m : ℕ → Bool) (os : List Born) → ((i : ℕ) → words (the os i) ≤ suc payload_words)
    → (i : ℕ) → words (the (keep_in m 0 os) i) ≤ suc payload_words
counts_left m os c i = omega (arith, c i, kept_words_few m 0 os i)

-- a good value that is not lost is good among what is left
pub good_left : (m : ℕ → Bool) (os : List Born) (v : Value) → Good os v → lost m os v ≡ false → Good (keep_in m 0 os) v
good_left m os (int z) g e = g
good_left m os nil g e = g
good_left m os (ref i) g e = rw (kept_words m 0 os i (rw zero-add (not-false (m (place os i)) e))) g

-- every field of what is left is good there
pub fields_left : (m : ℕ → Bool) (os : List Born) → ((i k : ℕ) → Good os (field_of (the os i) k)) → lost_in m os 0 os ≡ []
    → (i k : ℕ) → Good (keep_in m 0 os) (field_of (the (keep_in m 0 os) i) k)
fields_left m os g e i k = rw (kept-the m 0 os i) (go (m (0 + place os i)) refl (the os i) refl)
  where
    go : (b : Bool) → m (0 + place os i) ≡ b → (o : Born) → the os i ≡ o → Good (keep_in m 0 os) (field_of (keep b o) k)
    go true h o t =
        subst (λ (x : Born). Good (keep_in m 0 os) (field_of x k)) t
        (good_left m os (field_of (the os i) k) (g i k) (fields_none m os os 0 e i h k))
    go false h (rec vs) t = refl
    go false h (raw ws) t = refl
    go false h (gone n) t = refl

-- ## New places
-- the new place of an object's place is its place among what is left; the first object is at p
pub new_place_from : (f : ℕ → ℕ) (m : ℕ → Bool) (p : ℕ) (os : List Born) (i : ℕ)
    → new_place m p (objects_of f os) (p + place os i) ≡ place (keep_in m p os) i
new_place_from f m p [] i = refl
new_place_from f m p (o ∷ os) zero = new_zero m p (objects_of f (o ∷ os)) (p + 0) (omega arith)
new_place_from f m p (rec vs ∷ os) (suc i) =
    rw (
      lt-ltb p (p + (suc (length vs) + place os i)) (omega arith),
      and-true (m p),
      length-map vs (value_word f),
      words-keep (m p) (rec vs),
      ← add_assoc p (suc (length vs)) (place os i),
    )
    (ap (λ (n : ℕ). cond (m p) (suc (length vs)) 0 + n) (new_place_from f m (p + suc (length vs)) os i))
new_place_from f m p (raw ws ∷ os) (suc i) =
    rw (
      lt-ltb p (p + (suc (length ws) + place os i)) (omega arith),
      and-true (m p),
      words-keep (m p) (raw ws),
      ← add_assoc p (suc (length ws)) (place os i),
    )
    (ap (λ (n : ℕ). cond (m p) (suc (length ws)) 0 + n) (new_place_from f m (p + suc (length ws)) os i))
new_place_from f m p (gone n ∷ os) (suc i) =
    rw (keep-gone (m p) n, add-zero p, zero-add (place os i), zero-add (place (keep_in m p os) i)) (new_place_from f m p os i)

pub new_place_same : (f : ℕ → ℕ) (m : ℕ → Bool) (os : List Born) (i : ℕ)
    → new_place m 0 (objects_of f os) (place os i) ≡ place (keep_in m 0 os) i
new_place_same f m os i = rw zero-add at (new_place_from f m 0 os i)

-- ## Fixed words
-- an integer's word is no reference
int_word : (z : ℤ) → has_word (int z) ≡ true → is_ref (word_of (int z)) ≡ false
int_word z h = go (sorts (word_of (int z))) (read_made (int z) h).1
  where
    go : Sort (word_of (int z)) → value_of (word_of (int z)) ≡ int z → is_ref (word_of (int z)) ≡ false
    go (integer _ _ r _) e = r
    go (nothing _ _ r _) e = r
    go (reference _ _ _ v) e = cc

-- the word of a good value, fixed, is its word among what is left
pub value-fixed : (m : ℕ → Bool) (os : List Born) (v : Value) → in_use os ≤ heap_words → Good os v
    → fix_word (new_place m 0 (objects_of (place os) os)) (value_word (place os) v) ≡ value_word (place (keep_in m 0 os)) v
value-fixed m os (int z) few g = rw (int_word z g)
value-fixed m os nil few g = refl
value-fixed m os (ref i) few g =
    let b = place-below os i 0 g in
    let odd : (2 * place os i + 1) % 2 ≡ 1 = omega arith in
    let other : 2 * place os i + 1 ≢ 4294967295 = λ x. omega arith in
    let half : (2 * place os i + 1 - 1) / 2 ≡ place os i = omega arith in
    rw (odd, ne_eqb (2 * place os i + 1) 4294967295 other, half, new_place_same (place os) m os i)

map-map_agree : {A B C : Type 0} (f : A → B) (g : B → C) (h : A → C) (l : List A) (d : A)
    → ((k : ℕ) → g (f (get_or l k d)) ≡ h (get_or l k d)) → map g (map f l) ≡ map h l
map-map_agree f g h [] d e = refl
map-map_agree f g h (x ∷ l) d e = ap₂ ◌∷◌ (e 0) (map-map_agree f g h l d (λ k. e (suc k)))

pub slots_left : (m : ℕ → Bool) (os : List Born) (slots : List Value) → in_use os ≤ heap_words
    → ((s : ℕ) → Good os (get_or slots s no_value))
    → map (fix_word (new_place m 0 (objects_of (place os) os))) (map (value_word (place os)) slots)
    ≡ map (value_word (place (keep_in m 0 os))) slots
slots_left m os slots few g =
    map-map_agree (value_word (place os)) (fix_word (new_place m 0 (objects_of (place os) os))) (value_word (place (keep_in m 0 os)))
    slots no_value
    (λ s. value-fixed m os (get_or slots s no_value) few (g s))

-- ## Slid words
-- the first object is at p; g fixes each field of a marked one from its word by f to its word by h
slid_from : (m : ℕ → Bool) (f g h : ℕ → ℕ) (p : ℕ) (os : List Born)
    → ((i : ℕ) → m (p + place os i) ≡ true
    → (k : ℕ) → fix_word g (value_word f (field_of (the os i) k)) ≡ value_word h (field_of (the os i) k))
    → encode (map (fix_object g) (kept m p (objects_of f os))) ≡ list_words h (keep_in m p os)
slid_from m f g h p [] e = refl
slid_from m f g h p (rec vs ∷ os) e =
    rw (length-map vs (value_word f))
    (go (m p) refl (slid_from m f g h (p + suc (length vs)) os (λ i t. e (suc i) (rw (← add_assoc p (suc (length vs)) (place os i)) t))))
  where
    K : List Object
    K = kept m (p + suc (length vs)) (objects_of f os)

    L : List Born
    L = keep_in m (p + suc (length vs)) os

    go : (b : Bool) → m p ≡ b → encode (map (fix_object g) K) ≡ list_words h L
        → encode (map (fix_object g) (cons_if b (O.rec (map (value_word f) vs)) K)) ≡ list_words h (keep b (rec vs) ∷ L)
    go true t r =
        ap₂ (λ (ws l : List ℕ). words_of (O.rec ws) ++ l)
        (map-map_agree (value_word f) (fix_word g) (value_word h) vs no_value (e 0 (rw add-zero t))) r
    go false t r = r
slid_from m f g h p (raw ws ∷ os) e =
    go (m p) (slid_from m f g h (p + suc (length ws)) os (λ i t. e (suc i) (rw (← add_assoc p (suc (length ws)) (place os i)) t)))
  where
    K : List Object
    K = kept m (p + suc (length ws)) (objects_of f os)

    L : List Born
    L = keep_in m (p + suc (length ws)) os

    go : (b : Bool) → encode (map (fix_object g) K) ≡ list_words h L
        → encode (map (fix_object g) (cons_if b (O.raw ws) K)) ≡ list_words h (keep b (raw ws) ∷ L)
    go true r = ap (λ (l : List ℕ). words_of (O.raw ws) ++ l) r
    go false r = r
slid_from m f g h p (gone n ∷ os) e =
    rw (keep-gone (m p) n, add-zero p) (slid_from m f g h p os (λ i t. e (suc i) (rw zero-add t)))

pub slid_words : (m : ℕ → Bool) (os : List Born) → in_use os ≤ heap_words → ((i k : ℕ) → Good os (field_of (the os i) k))
    → encode (slide m (objects_of (place os) os)) ≡ list_words (place (keep_in m 0 os)) (keep_in m 0 os)
unfolding slide
slid_words m os few g =
    slid_from m (place os) (new_place m 0 (objects_of (place os) os)) (place (keep_in m 0 os)) 0 os
    (λ i t k. value-fixed m os (field_of (the os i) k) few (g i k))
