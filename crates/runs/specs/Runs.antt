-- Bits set in a row, and words in a row copied.
use Rattle.std.specs.Prelude.{ℕ, zero, suc, ◌+◌, ◌≤◌, ◌<◌, ◌≡◌, true, List, [], ◌∷◌, get_or, set}
use Rattle.meaning.specs.Places.{bit_set}

-- the n bits from bit z on are set: one at least, and at most so many
pub record Run (word z most n : ℕ) : Type 0 where
  pub some : 0 < n
  pub few : n ≤ most
  pub all : (i : ℕ) → z ≤ i → i < z + n → bit_set word i ≡ true

-- the n words in a row at place `from` go to place `to` one after the other, each read from the heap as it is then
unfoldable pub copies : ℕ → ℕ → ℕ → List ℕ → List ℕ
copies from to zero heap = heap
copies from to (suc n) heap = let h = copies from to n heap in set h (to + n) (get_or h (from + n) 0)

-- four words in a row
abbrev pub four_at : ℕ → List ℕ → List ℕ
four_at at heap = get_or heap at 0 ∷ get_or heap (at + 1) 0 ∷ get_or heap (at + 2) 0 ∷ get_or heap (at + 3) 0 ∷ []

-- four words in a row stored at a place, one after the other
abbrev pub with_four : ℕ → List ℕ → List ℕ → List ℕ
with_four at words heap =
    set (set (set (set heap at (get_or words 0 0)) (at + 1) (get_or words 1 0)) (at + 2) (get_or words 2 0)) (at + 3) (get_or words 3 0)
