-- The words of a list of objects in order of birth, and what reading, writing and appending do to them.
use mathlib.Core.Path.{◌≡◌, refl, sym, ap, ap₂, ◌∙◌}
use mathlib.Core.Bool.{true}
use mathlib.Core.List.{List, [], ◌∷◌, ◌++◌, map, append_assoc, append-nil}
use Prim.Native.Nat.{ℕ, zero, suc, ◌+◌, ◌<◌}
use native.Mathlib.Nat.{zero-add, add_assoc, suc-add}
use native.Mathlib.Omega.{arith}
use lib.ListN.{length, get_or, set, replicate, length-append, length-map, get_or-append}
use lib.Seq.{get_or-append-add, set-append_left}
use Rattle.meaning.specs.Values.{Value, int, nil, ref, nil_word, word_of, ref_to, has_word}
use Rattle.meaning.specs.Objects as O
use Rattle.meaning.specs.Objects.{Object, words_of, encode}
use Rattle.meaning.specs.SimpleList.{Born, rec, raw, gone, words, in_use, place, the, field_of, no_value}

-- the word of a value, with references sent to places by f
abbrev pub value_word : (ℕ → ℕ) → Value → ℕ
value_word f (int z) = word_of (int z)
value_word f nil = nil_word
value_word f (ref i) = ref_to (f i)

abbrev pub born_words : (ℕ → ℕ) → Born → List ℕ
born_words f (rec vs) = words_of (O.rec (map (value_word f) vs))
born_words f (raw ws) = words_of (O.raw ws)
born_words f (gone n) = []

abbrev pub list_words : (ℕ → ℕ) → List Born → List ℕ
list_words f [] = []
list_words f (o ∷ os) = born_words f o ++ list_words f os

-- the objects that stand
abbrev pub objects_of : (ℕ → ℕ) → List Born → List Object
objects_of f [] = []
objects_of f (rec vs ∷ os) = O.rec (map (value_word f) vs) ∷ objects_of f os
objects_of f (raw ws ∷ os) = O.raw ws ∷ objects_of f os
objects_of f (gone n ∷ os) = objects_of f os

pub list_encode : (f : ℕ → ℕ) (os : List Born) → list_words f os ≡ encode (objects_of f os)
list_encode f [] = refl
list_encode f (rec vs ∷ os) = ap (λ (l : List ℕ). words_of (O.rec (map (value_word f) vs)) ++ l) (list_encode f os)
list_encode f (raw ws ∷ os) = ap (λ (l : List ℕ). words_of (O.raw ws) ++ l) (list_encode f os)
list_encode f (gone n ∷ os) = list_encode f os

-- a good value: an integer in the range, nil, or an object that is there
abbrev pub Good : List Born → Value → Type 0
Good os (int z) = has_word (int z) ≡ true
Good os nil = Unit {0}
Good os (ref i) = 0 < words (the os i)

pub length-born_words : (f : ℕ → ℕ) (o : Born) → length (born_words f o) ≡ words o
length-born_words f (rec vs) = ap suc (length-map vs (value_word f))
length-born_words f (raw ws) = refl
length-born_words f (gone n) = refl

pub length-list_words : (f : ℕ → ℕ) (os : List Born) → length (list_words f os) ≡ in_use os
length-list_words f [] = refl
length-list_words f (o ∷ os) = length-append (born_words f o) (list_words f os) ∙ ap₂ ◌+◌ (length-born_words f o) (length-list_words f os)

pub place-below : (os : List Born) (i k : ℕ) → k < words (the os i) → place os i + k < in_use os
place-below [] i k h = omega arith
place-below (o ∷ os) zero k h = omega arith
place-below (o ∷ os) (suc i) k h = let r = place-below os i k h in omega arith

pub live_below : (os : List Born) (i : ℕ) → 0 < words (the os i) → i < length os
live_below [] i h = omega arith
live_below (o ∷ os) zero h = omega arith
live_below (o ∷ os) (suc i) h = let r = live_below os i h in omega arith

-- a read at word k of object i
pub words-read : (f : ℕ → ℕ) (os : List Born) (i k : ℕ) → k < words (the os i) → get_or (list_words f os) (place os i + k) 0 ≡ get_or (born_words f (the os i)) k 0
words-read f [] i k h = absurd (omega arith)
words-read f (o ∷ os) zero k h =
    rw zero-add (get_or-append (born_words f o) (list_words f os) 0 k (rw length-born_words h))
words-read f (o ∷ os) (suc i) k h =
    rw (add_assoc (words o), ← length-born_words f o, get_or-append-add) (words-read f os i k h)

set-append-add : {A : Type 0} (xs ys : List A) (n : ℕ) (a : A) → set (xs ++ ys) (length xs + n) a ≡ xs ++ set ys n a
set-append-add [] ys n a = rw zero-add
set-append-add (x ∷ xs) ys n a = rw suc-add (ap (λ (r : List _). x ∷ r) (set-append-add xs ys n a))

-- a write at word k of object i
pub words-written : (f : ℕ → ℕ) (os : List Born) (i k w : ℕ) (o' : Born) → k < words (the os i) → set (born_words f (the os i)) k w ≡ born_words f o' → set (list_words f os) (place os i + k) w ≡ list_words f (set os i o')
words-written f [] i k w o' h e = absurd (omega arith)
words-written f (o ∷ os) zero k w o' h e =
    rw zero-add (set-append_left (born_words f o) (list_words f os) k w (rw length-born_words h) ∙ ap (λ (l : List ℕ). l ++ list_words f os) e)
words-written f (o ∷ os) (suc i) k w o' h e =
    rw (add_assoc (words o), ← length-born_words f o, set-append-add) (ap (λ (l : List ℕ). born_words f o ++ l) (words-written f os i k w o' h e))

-- an object put for one of the same size moves none
pub place_set : (os : List Born) (i j : ℕ) (o' : Born) → words o' ≡ words (the os i) → place (set os i o') j ≡ place os j
place_set [] i j o' e = refl
place_set (o ∷ os) zero zero o' e = refl
place_set (o ∷ os) zero (suc j) o' e = ap (λ (n : ℕ). n + place os j) e
place_set (o ∷ os) (suc i) zero o' e = refl
place_set (o ∷ os) (suc i) (suc j) o' e = ap (λ (n : ℕ). words o + n) (place_set os i j o' e)

pub in_use-set : (os : List Born) (i : ℕ) (o' : Born) → words o' ≡ words (the os i) → in_use (set os i o') ≡ in_use os
in_use-set [] i o' e = refl
in_use-set (o ∷ os) zero o' e = ap (λ (n : ℕ). n + in_use os) e
in_use-set (o ∷ os) (suc i) o' e = ap (λ (n : ℕ). words o + n) (in_use-set os i o' e)

-- one more object at the end
pub words_snoc : (f : ℕ → ℕ) (os : List Born) (o : Born) → list_words f (os ++ (o ∷ [])) ≡ list_words f os ++ born_words f o
words_snoc f [] o = append-nil (born_words f o)
words_snoc f (x ∷ os) o = rw (words_snoc f os o) (sym (append_assoc (born_words f x) (list_words f os) (born_words f o)))

pub in_use_snoc : (os : List Born) (o : Born) → in_use (os ++ (o ∷ [])) ≡ in_use os + words o
in_use_snoc [] o = omega arith
in_use_snoc (x ∷ os) o = let r = in_use_snoc os o in omega arith

pub place_snoc : (os : List Born) (o : Born) (i : ℕ) → i < length os → place (os ++ (o ∷ [])) i ≡ place os i
place_snoc [] o i h = absurd (omega arith)
place_snoc (x ∷ os) o zero h = refl
place_snoc (x ∷ os) o (suc i) h = ap (λ (n : ℕ). words x + n) (place_snoc os o i (omega arith))

pub place_new : (os : List Born) (o : Born) → place (os ++ (o ∷ [])) (length os) ≡ in_use os
place_new [] o = refl
place_new (x ∷ os) o = ap (λ (n : ℕ). words x + n) (place_new os o)

-- two maps of a list agree where they agree at each index
pub map_agree : {A B : Type 0} (f g : A → B) (l : List A) (d : A) → ((k : ℕ) → f (get_or l k d) ≡ g (get_or l k d)) → map f l ≡ map g l
map_agree f g [] d h = refl
map_agree f g (x ∷ l) d h = ap₂ ◌∷◌ (h 0) (map_agree f g l d (λ k. h (suc k)))

pub words_agree : (f g : ℕ → ℕ) (os : List Born) → ((i k : ℕ) → value_word f (field_of (the os i) k) ≡ value_word g (field_of (the os i) k)) → list_words f os ≡ list_words g os
words_agree f g [] h = refl
words_agree f g (o ∷ os) h = ap₂ ◌++◌ (one o (h 0)) (words_agree f g os (λ i. h (suc i)))
  where
    one : (o : Born) → ((k : ℕ) → value_word f (field_of o k) ≡ value_word g (field_of o k)) → born_words f o ≡ born_words g o
    one (rec vs) h = ap (λ (l : List ℕ). words_of (O.rec l)) (map_agree (value_word f) (value_word g) vs no_value h)
    one (raw ws) h = refl
    one (gone n) h = refl

-- what holds at every index holds after a write of what it holds of
pub set_all : {A : Type 0} (P : A → Type 0) (l : List A) (d v : A) (i : ℕ) → P v → ((k : ℕ) → P (get_or l k d)) → (k : ℕ) → P (get_or (set l i v) k d)
set_all P [] d v i p h k = h k
set_all P (x ∷ l) d v zero p h zero = p
set_all P (x ∷ l) d v zero p h (suc k) = h (suc k)
set_all P (x ∷ l) d v (suc i) p h zero = h 0
set_all P (x ∷ l) d v (suc i) p h (suc k) = set_all P l d v i p (λ j. h (suc j)) k

pub snoc_all : {A : Type 0} (P : A → Type 0) (l : List A) (d v : A) → P v → ((k : ℕ) → P (get_or l k d)) → (k : ℕ) → P (get_or (l ++ (v ∷ [])) k d)
snoc_all P [] d v p h zero = p
snoc_all P [] d v p h (suc k) = h k
snoc_all P (x ∷ l) d v p h zero = h 0
snoc_all P (x ∷ l) d v p h (suc k) = snoc_all P l d v p (λ j. h (suc j)) k

pub map-set : {A B : Type 0} (f : A → B) (l : List A) (i : ℕ) (v : A) → map f (set l i v) ≡ set (map f l) i (f v)
map-set f [] i v = refl
map-set f (x ∷ l) zero v = refl
map-set f (x ∷ l) (suc i) v = ap (λ (r : List _). f x ∷ r) (map-set f l i v)

pub map-replicate : {A B : Type 0} (f : A → B) (n : ℕ) (v : A) → map f (replicate n v) ≡ replicate n (f v)
map-replicate f zero v = refl
map-replicate f (suc n) v = ap (λ (r : List _). f v ∷ r) (map-replicate f n v)

pub replicate_all : {A : Type 0} (P : A → Type 0) (n : ℕ) (v d : A) → P v → P d → (k : ℕ) → P (get_or (replicate n v) k d)
replicate_all P zero v d p q k = q
replicate_all P (suc n) v d p q zero = p
replicate_all P (suc n) v d p q (suc k) = replicate_all P n v d p q k
