-- Moving by target blocks, and the order of the steps. `places` are the live places, in order: live word number j stands at
-- `get_or places j 0` and goes to place j, so to target block j / 64.
use Rattle.std.specs.Prelude.{ℕ, zero, suc, ◌+◌, ◌*◌, ◌-◌, ◌/◌, ◌<◌, min, ◌≡◌, ◌≢◌, Bool, false, not, ◌&&◌, ◌||◌, cond, List, [], ◌∷◌, ◌++◌, map, length, get_or, take, drop, set, ltb, eqb}
use Rattle.meaning.specs.Limits.{block_words, blocks_of}
use Rattle.meaning.specs.Places.{places_from, is_in}

-- live words number a to a + n - 1 go to their new places one after the other, each read from the heap as it is then
unfoldable pub moves : List ℕ → ℕ → ℕ → List ℕ → List ℕ
moves places a zero heap = heap
moves places a (suc n) heap = let h = moves places a n heap in set h (a + n) (get_or h (get_or places (a + n) 0) 0)

-- step t writes the live words number 64 t to 64 t + 63, as far as there are, into block t
unfoldable pub step : List ℕ → ℕ → List ℕ → List ℕ
step places t heap = moves places (block_words * t) (min block_words (length places - block_words * t)) heap

-- the steps of an order, one after the other
unfoldable pub run : List ℕ → List ℕ → List ℕ → List ℕ
run places [] heap = heap
run places (t ∷ order) heap = run places order (step places t heap)

-- what all steps together should leave: the live words in order, and all other places as found
unfoldable pub slid : List ℕ → List ℕ → List ℕ
slid places heap = map (λ p. get_or heap p 0) places ++ drop (length places) heap

-- the target blocks T
abbrev pub targets : List ℕ → ℕ
targets places = blocks_of (length places)

-- step t is too early after the steps done: some live word that stands in block t goes to another block whose step is not done.
-- The places are those of the live words from number j on
abbrev pub early_from : List ℕ → ℕ → ℕ → List ℕ → Bool
early_from done t j [] = false
early_from done t j (p ∷ ps) =
    (eqb (p / block_words) t && (not (eqb (j / block_words) t) && not (is_in (j / block_words) done))) || early_from done t (suc j) ps

-- an entry after the steps done: it is T or more, a repeat, or too early
abbrev pub breaks : List ℕ → List ℕ → ℕ → Bool
breaks places done t = not (ltb t (targets places)) || (is_in t done || early_from done t 0 places)

-- the positions at which an order breaks; if there is none and its length is not T, the smaller of the two
unfoldable pub order_breaks : List ℕ → List ℕ → List ℕ
order_breaks places order =
    places_from (λ i. breaks places (take i order) (get_or order i 0)) 0 (length order)
    ++ cond (eqb (length order) (targets places)) [] (min (length order) (targets places) ∷ [])

-- an order that lists each of 0 to T - 1 once and keeps the dependences
pub record Keeps (places order : List ℕ) : Type 0 where
  pub within : (i : ℕ) → i < length order → get_or order i 0 < targets places
  pub once : (i k : ℕ) → i < k → k < length order → get_or order i 0 ≢ get_or order k 0
  pub every : (t : ℕ) → t < targets places → (i : ℕ) × (i < length order) × (get_or order i 0 ≡ t)
  pub after : (i j : ℕ) → i < length order → j < length places → get_or places j 0 / block_words ≡ get_or order i 0
      → j / block_words ≢ get_or order i 0 → (k : ℕ) × (k < i) × (get_or order k 0 ≡ j / block_words)
