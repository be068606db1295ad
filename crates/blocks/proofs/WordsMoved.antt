-- A block move goes from live word to live word with the cursor, and from block to block. Assumes nothing.
use mathlib.Core.Path.{◌≡◌, refl, sym, ap, ◌∙◌}
use mathlib.Core.Logic.{◌≢◌}
use mathlib.Core.Bool.{true}
use mathlib.Core.List.{List}
use Prim.Native.Nat.{ℕ, ◌+◌, ◌-◌, ◌*◌, ◌≤◌, ◌<◌}
use native.Mathlib.Omega.{arith}
use lib.Count.{count_trailing_zeros}
use lib.ListN.{length, get_or}
use Rattle.meaning.specs.Limits.{heap_words, block_words, blocks_of}
use Rattle.meaning.specs.Places.{below, src, bit_set, marked}
use Rattle.meaning.specs.Blocks.{moves, step}
use Rattle.meaning.proofs.Counting.{below-few, src-up}
use Rattle.meaning.proofs.Bitmaps.{Fit}
use Rattle.meaning.proofs.BlockMoves.{moves_none, moves-step}
use Rattle.bits.proofs.LowestBit.{lowest}
use Rattle.bits.proofs.BitLoop.{Left}
use Rattle.runs.specs.Runs.{Run, copies}
use Rattle.runs.proofs.CopiedRuns.{moves-run}
use Rattle.blocks.specs.Cursors.{live_places, Before, Movable, block_end}
use Rattle.blocks.specs.declared.Cursor.{Cursor}
use Rattle.blocks.proofs.CursorMoves.{before_row, before-within, before-word}

-- there are no more live words than words of the largest heap
pub movable-few : (live : List ℕ) (total words : ℕ) → Movable live total words → total ≤ heap_words
movable-few live total words m = omega (arith, m.few, m.all, below-few (marked live) (block_words * length live))

module _ (live heap₀ : List ℕ) (total t : ℕ) where
  -- the live words from number 64 t on to before number j are moved, and the cursor stands before that one
  pub record Moving (heap : List ℕ) (block rest j : ℕ) : Type 0 where
    pub from : block_words * t ≤ j
    pub to : j ≤ block_end total t
    pub moved : heap ≡ moves (live_places live) (block_words * t) (j - block_words * t) heap₀
    pub long : length heap ≡ length heap₀
    pub before : Before live j (record { block = block; rest = rest })

  pub moving_start : (cursor : Cursor) → t < blocks_of total → Before live (block_words * t) cursor → Moving heap₀ cursor.block cursor.rest (block_words * t)
  moving_start cursor h w = record {
    from = omega arith;
    to = omega arith;
    moved = sym (moves_none (live_places live) (block_words * t) heap₀ (block_words * t) (omega arith));
    long = refl;
    before = w;
  }

  -- the next k live words stand in a row from bit z of word `block` on: they are copied to place j, which is not above them
  pub record Copied (heap : List ℕ) (block rest j z k : ℕ) : Type 0 where
    pub within : z + k ≤ block_words
    pub source : block_words * block + z + k ≤ length heap
    pub up : j ≤ block_words * block + z
    pub next : (heap' : List ℕ) (rest' : ℕ) → length heap' ≡ length heap → heap' ≡ copies (block_words * block + z) j k heap → Left block_words rest rest' (z + k)
        → Moving heap' block rest' (j + k)

  module _ (room : Movable live total (length heap₀)) (heap : List ℕ) (block rest j : ℕ) (h : j < block_end total t) (w : Moving heap block rest j) where
    some : j < below (marked live) (block_words * length live)
    some = omega (arith, room.all)

    pub moving-within : rest ≡ 0 → block + 1 < length live
    moving-within e = before-within live j block some (rw e at w.before)

    pub moving-word : Fit live → rest ≡ 0 → Moving heap (block + 1) (get_or live (block + 1) 0) j
    moving-word f e = record { from = w.from; to = w.to; moved = w.moved; long = w.long; before = before-word live j block some (rw e at w.before) f }

    -- the lowest bit that is left
    pub moving-bit : rest ≢ 0 → (count_trailing_zeros block_words rest < block_words) × (bit_set rest (count_trailing_zeros block_words rest) ≡ true)
    moving-bit ne = let low = lowest block_words rest ne w.before.word.left.fits in (low.within, low.is_set)

    pub moving-run : (most k : ℕ) → j + most ≤ block_end total t → rest ≢ 0 → Run rest (count_trailing_zeros block_words rest) most k → Copied heap block rest j (count_trailing_zeros block_words rest) k
    unfolding src
    moving-run most k short ne run =
        let row = before_row live j block rest most k w.before ne run in
        let p = block_words * block + count_trailing_zeros block_words rest in
        let first : get_or (live_places live) (j + 0) 0 ≡ p + 0 = row.places 0 run.some in
        record {
          within = row.within;
          source = omega (arith, run.some, room.inside (p + (k - 1)) (row.is_live (k - 1) (omega (arith, run.some))), w.long);
          up = omega (arith, src-up (marked live) (block_words * length live) (j + 0) (omega (arith, some)), first);
          next = λ heap' rest' long copied l. record {
            from = omega (arith, w.from);
            to = omega (arith, run.few);
            moved = copied ∙ ap (copies p j k) w.moved ∙ sym (moves-run (live_places live) (block_words * t) heap₀ p j w.from k row.places);
            long = long ∙ w.long;
            before = row.next rest' l;
          };
        }

  pub moving_end : (heap : List ℕ) (block rest j : ℕ) → block_end total t ≤ j → total ≡ below (marked live) (block_words * length live) → Moving heap block rest j
      → (heap ≡ step (live_places live) t heap₀) × Before live (block_end total t) (record { block = block; rest = rest })
  unfolding below
  moving_end heap block rest j h all w =
      let e : j ≡ block_end total t = omega (arith, w.to) in
      (w.moved ∙ moves-step (live_places live) t heap₀ j (omega (arith, all)), rw e at w.before)
