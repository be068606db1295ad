-- The same collection by words, from the heap alone: which words are live, and what each is once references are fixed.
use Rattle.std.specs.Prelude.{ℕ, zero, suc, ◌/◌, ◌%◌, Bool, not, ◌&&◌, cond, List, get_or, eqb}
use Rattle.meaning.specs.Places.{below}
use Rattle.meaning.specs.Slide.{fix_word}

-- the payload words left after a word, from those left before it: with none left before it, it is a header
abbrev pub rest_step : ℕ → ℕ → ℕ
rest_step zero w = w / 4
rest_step (suc k) w = k

-- how many of the words from place p on are payload of an object that starts before p
unfoldable pub rest : List ℕ → ℕ → ℕ
rest heap zero = zero
rest heap (suc p) = rest_step (rest heap p) (get_or heap p 0)

-- an object starts at p
unfoldable pub starts : List ℕ → ℕ → Bool
starts heap p = eqb (rest heap p) 0

-- the place of the header of the object that holds p
unfoldable pub owner : List ℕ → ℕ → ℕ
owner heap zero = zero
owner heap (suc p) = cond (starts heap (suc p)) (suc p) (owner heap p)

-- p holds a word of a marked object
unfoldable pub live : List ℕ → (ℕ → Bool) → ℕ → Bool
live heap m p = m (owner heap p)

-- p holds a payload word of a record
unfoldable pub field : List ℕ → ℕ → Bool
field heap p = not (starts heap p) && eqb (get_or heap (owner heap p) 0 % 4) 0

-- the word at p once references are fixed
unfoldable pub fixed : List ℕ → (ℕ → Bool) → ℕ → ℕ
fixed heap m p = cond (live heap m p && field heap p) (fix_word (below (live heap m)) (get_or heap p 0)) (get_or heap p 0)
