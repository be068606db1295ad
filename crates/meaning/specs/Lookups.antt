-- Place lookup both ways, from any live and offset tables.
use Rattle.std.specs.Prelude.{ℕ, ◌+◌, ◌*◌, ◌/◌, ◌%◌, ◌&&◌, cond, List, length, get_or, ltb, leb, eqb}
use Rattle.meaning.specs.Limits.{heap_words, block_words, table_entries}
use Rattle.meaning.specs.Answers.{Answer, gives, refused}
use Rattle.meaning.specs.Places.{below, src, bit_set, marked}

-- a place, or none: a dead word has no new place, a number past the live words no old one
pub data Found : Type 0 where
  at : ℕ → Found
  none : Found

-- refusal 1 where the lengths differ or exceed 128
abbrev pub if_tables_fit : List ℕ → List ℕ → Answer Found → Answer Found
if_tables_fit live offsets a = cond (eqb (length live) (length offsets) && leb (length live) table_entries) a (refused 1 0)

-- the offset entry of the place's block plus the live bits of that block below the place
abbrev pub new_place_of : List ℕ → List ℕ → ℕ → ℕ
new_place_of live offsets p = get_or offsets (p / block_words) 0 + below (bit_set (get_or live (p / block_words) 0)) (p % block_words)

unfoldable pub old_to_new : List ℕ → List ℕ → ℕ → Answer Found
old_to_new live offsets p =
    if_tables_fit live offsets
    (cond (ltb (p / block_words) (length live))
    (cond (leb (get_or offsets (p / block_words) 0) heap_words)
    (cond (marked live p) (gives (at (new_place_of live offsets p))) (gives none))
    (refused 1 0))
    (gives none))

-- the place whose live bit is set with exactly n live bits below it
unfoldable pub new_to_old : List ℕ → List ℕ → ℕ → Answer Found
new_to_old live offsets n =
    let end = block_words * length live in
    if_tables_fit live offsets (cond (ltb n (below (marked live) end)) (gives (at (src (marked live) end n))) (gives none))
