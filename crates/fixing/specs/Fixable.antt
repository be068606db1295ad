-- What fixing relies on: references to places that the tables have entries for.
use Rattle.std.specs.Prelude.{ℕ, ◌*◌, ◌/◌, ◌%◌, ◌≤◌, ◌<◌, ◌≡◌, Bool, true, ◌&&◌, List, eqb, length, get_or}
use Rattle.meaning.specs.Limits.{block_words}
use Rattle.meaning.specs.Values.{is_ref, place_of}
use Rattle.meaning.specs.Places.{bit_set}

-- the places of block b whose bits are set in a word
abbrev pub in_block : ℕ → ℕ → ℕ → Bool
in_block b word q = eqb (q / block_words) b && bit_set word (q % block_words)

-- each root that is a reference is to a place of the tables
pub record RootsFixable (roots live : List ℕ) : Type 0 where
  pub targets : (i : ℕ) → i < length roots → is_ref (get_or roots i 0) ≡ true → place_of (get_or roots i 0) / block_words < length live

-- the word at place q is a reference to a place of the tables
pub record RefersWithin (live heap : List ℕ) (q : ℕ) : Type 0 where
  pub in_heap : q < length heap
  pub holds_ref : is_ref (get_or heap q 0) ≡ true
  pub target : place_of (get_or heap q 0) / block_words < length live

-- so are the words at the places of refs, and the tables cover the heap
pub record Fixable (refs : ℕ → Bool) (heap live : List ℕ) : Type 0 where
  pub covered : length heap ≤ block_words * length live
  pub refers : (q : ℕ) → refs q ≡ true → RefersWithin live heap q
