-- A cursor that goes over the live words, and what the block moves ask of the live bitmap.
use Rattle.std.specs.Prelude.{ℕ, ◌+◌, ◌*◌, ◌≤◌, ◌<◌, min, ◌≡◌, true, List, length, get_or}
use Rattle.meaning.specs.Limits.{block_words, table_entries}
use Rattle.meaning.specs.Places.{places_from, below, bit_set, marked}
use Rattle.bits.proofs.BitLoop.{Left}
use Rattle.blocks.specs.declared.Cursor.{Cursor}

-- the live places, in order
abbrev pub live_places : List ℕ → List ℕ
live_places live = places_from (marked live) 0 (block_words * length live)

-- there is a live word number j
pub record HasWord (live : List ℕ) (j : ℕ) : Type 0 where
  pub few : length live ≤ table_entries
  pub some : j < below (marked live) (block_words * length live)

-- rest is the word without its n lowest set bits: what is left of it from some bit on, below which n are set
pub record Dropped (word n rest : ℕ) : Type 0 where
  pub at : ℕ
  pub within : at ≤ block_words
  pub left : Left block_words word rest at
  pub passed : below (bit_set word) at ≡ n

-- the cursor stands before live word number j
pub record Before (live : List ℕ) (j : ℕ) (cursor : Cursor) : Type 0 where
  pub dropped : ℕ
  pub word : Dropped (get_or live cursor.block 0) dropped cursor.rest
  pub count : j ≡ below (marked live) (block_words * cursor.block) + dropped

-- the bitmap marks `total` live words, all in a heap of so many words
pub record Movable (live : List ℕ) (total words : ℕ) : Type 0 where
  pub few : length live ≤ table_entries
  pub inside : (p : ℕ) → marked live p ≡ true → p < words
  pub all : total ≡ below (marked live) (block_words * length live)

-- the end of step t's live words: number 64 t to before this
abbrev pub block_end : ℕ → ℕ → ℕ
block_end total t = min (block_words * t + block_words) total
