-- The set bits of a word as a list, and how many there are in several words.
use Rattle.std.specs.Prelude.{ℕ, List, sum_by}
use Rattle.meaning.specs.Limits.{block_words}
use Rattle.meaning.specs.Places.{places_from, below, bit_set}

-- the places of the set bits, ascending
unfoldable pub set_places : ℕ → List ℕ
set_places word = places_from (bit_set word) 0 block_words

-- how many bits of the words are set
abbrev pub set_in : List ℕ → ℕ
set_in words = sum_by (λ w. below (bit_set w) block_words) words
