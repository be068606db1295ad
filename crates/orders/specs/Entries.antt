-- The breaks of an order as the offset table alone tells them: a block's live words go to the target blocks of its entry and of the next.
use Rattle.std.specs.Prelude.{ℕ, ◌+◌, ◌≤◌, ◌<◌, min, ◌≡◌, Bool, false, not, ◌||◌, cond, List, [], ◌∷◌, ◌++◌, ltb, eqb, length, get_or, take}
use Rattle.meaning.specs.Limits.{heap_words, blocks_of, table_entries}
use Rattle.meaning.specs.Places.{places_from, is_in}
use Rattle.meaning.proofs.TwoTargets.{early_by}

-- entry b; past the end of the table stands the total
abbrev pub entry_at : List ℕ → ℕ → ℕ → ℕ
entry_at offsets total b = get_or offsets b total

-- an entry of the order after the steps done: it is T or more, a repeat, or too early
abbrev pub step_breaks : List ℕ → ℕ → List ℕ → ℕ → Bool
step_breaks offsets total done t =
    not (ltb t (blocks_of total)) || (is_in t done || early_by (entry_at offsets total t) (entry_at offsets total (t + 1)) done t)

-- an order of n entries breaks at none of them: where n is not T, it breaks at the smaller of the two
abbrev pub length_breaks : ℕ → ℕ → List ℕ
length_breaks n blocks = cond (eqb n blocks) [] (min n blocks ∷ [])

-- the positions at which an order breaks
unfoldable pub entry_breaks : List ℕ → ℕ → List ℕ → List ℕ
entry_breaks offsets total order =
    places_from (λ i. step_breaks offsets total (take i order) (get_or order i 0)) 0 (length order)
    ++ length_breaks (length order) (blocks_of total)

-- no entry is above the words of a heap
pub record Bounded (offsets : List ℕ) (total : ℕ) : Type 0 where
  pub few : total ≤ heap_words
  pub low : (b : ℕ) → entry_at offsets total b ≤ heap_words

-- a table that says of each step whether it is done
pub record Ticks (table : List Bool) (done : List ℕ) : Type 0 where
  pub long : length table ≡ table_entries
  pub ticked : (k : ℕ) → k < table_entries → get_or table k false ≡ is_in k done
