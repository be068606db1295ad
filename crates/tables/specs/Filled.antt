-- The tables of n entries, filled from a bitmap that has as many words or more.
use Rattle.std.specs.Prelude.{ℕ, ◌*◌, ◌≡◌, List}
use Rattle.meaning.specs.Limits.{block_words}
use Rattle.meaning.specs.Places.{below, marked, bitmap}
use Rattle.meaning.specs.Collect.{offset_table}

pub record Filled (words : List ℕ) (n : ℕ) (live offsets : List ℕ) (total : ℕ) : Type 0 where
  pub bits : live ≡ bitmap (marked words) n
  pub entries : offsets ≡ offset_table (marked words) n
  pub count : total ≡ below (marked words) (block_words * n)
