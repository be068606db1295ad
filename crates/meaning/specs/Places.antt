-- Places that pass a test: which they are, how many stand below a place, and number j of them. Bitmaps hold such tests.
use Rattle.std.specs.Prelude.{ℕ, zero, suc, ◌+◌, ◌*◌, ◌/◌, ◌%◌, ◌^◌, Bool, true, false, ◌||◌, cond, List, [], ◌∷◌, map, length, get_or, eqb}
use Rattle.meaning.specs.Limits.{block_words}

-- x before the list where the test passed
abbrev pub cons_if : {A : Type 0} → Bool → A → List A → List A
cons_if true x xs = x ∷ xs
cons_if false x xs = xs

-- of the n places from p on, those that pass the test, ascending
abbrev pub places_from : (ℕ → Bool) → ℕ → ℕ → List ℕ
places_from t p zero = []
places_from t p (suc n) = cons_if (t p) p (places_from t (suc p) n)

-- how many pass below place p
unfoldable pub below : (ℕ → Bool) → ℕ → ℕ
below t p = length (places_from t 0 p)

-- number j of those that pass below n
unfoldable pub src : (ℕ → Bool) → ℕ → ℕ → ℕ
src t n j = get_or (places_from t 0 n) j 0

-- 0 to n - 1
unfoldable pub up_to : ℕ → List ℕ
up_to n = places_from (λ p. true) 0 n

abbrev pub is_in : ℕ → List ℕ → Bool
is_in x [] = false
is_in x (y ∷ ys) = eqb x y || is_in x ys

-- bit i of a word, least first: 0 or 1
abbrev pub bit_of : ℕ → ℕ → ℕ
bit_of w i = w / 2 ^ i % 2

abbrev pub bit_set : ℕ → ℕ → Bool
bit_set w i = eqb (bit_of w i) 1

-- bit i of bitmap word b stands for place 64 b + i; outside the bitmap no place is marked
unfoldable pub marked : List ℕ → ℕ → Bool
marked map p = bit_set (get_or map (p / block_words) 0) (p % block_words)

-- the word whose bit i is set where place p + i passes, of n bits
unfoldable pub bits_from : (ℕ → Bool) → ℕ → ℕ → ℕ
bits_from t p zero = 0
bits_from t p (suc n) = cond (t p) 1 0 + 2 * bits_from t (suc p) n

-- the bitmap of n words that marks the places that pass
unfoldable pub bitmap : (ℕ → Bool) → ℕ → List ℕ
bitmap t n = map (λ b. bits_from t (block_words * b) block_words) (up_to n)
