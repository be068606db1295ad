-- The steps of an order one after the other, with a cursor that is at hand where the next step goes on from the last. Assumes nothing.
use mathlib.Core.Path.{◌≡◌, refl, sym, ap, ◌∙◌}
use mathlib.Core.List.{List}
use Prim.Native.Nat.{ℕ, ◌+◌, ◌*◌, ◌≤◌, ◌<◌}
use native.Mathlib.Omega.{arith}
use lib.ListN.{length, get_or, take}
use Rattle.meaning.specs.Limits.{block_words, blocks_of}
use Rattle.meaning.specs.Blocks.{step, run}
use Rattle.meaning.proofs.BlockMoves.{step-length, run_none, run_next}
use Rattle.blocks.specs.Cursors.{live_places, Before, block_end}
use Rattle.blocks.specs.declared.Cursor.{Cursor}
use Rattle.blocks.specs.declared.AtHand.{AtHand}
use Rattle.std.specs.Prelude.{Option, None, Some, IfSome}

module _ (live order heap₀ : List ℕ) (total : ℕ) where
  -- the cursor stands before the next step, if there is one
  abbrev pub Ready : AtHand → Type 0
  Ready h = h.next < blocks_of total → Before live (block_words * h.next) h.cursor

  -- the steps at the first i positions are done, and a cursor at hand stands before the step that it names
  pub record Running (heap : List ℕ) (at_hand : Option AtHand) (i : ℕ) : Type 0 where
    pub within : i ≤ length order
    pub ran : heap ≡ run (live_places live) (take i order) heap₀
    pub long : length heap ≡ length heap₀
    pub ready : IfSome at_hand Ready

  pub running_start : Running heap₀ None 0
  running_start = record { within = omega arith; ran = sym (run_none (live_places live) order heap₀); long = refl; ready = tt }

  pub running_next : (heap heap' : List ℕ) (at_hand : Option AtHand) (cursor : Cursor) (i : ℕ) → i < length order → Running heap at_hand i
      → heap' ≡ step (live_places live) (get_or order i 0) heap → Before live (block_end total (get_or order i 0)) cursor
      → Running heap' (Some (record { next = get_or order i 0 + 1; cursor = cursor })) (i + 1)
  running_next heap heap' at_hand cursor i h w moved before = record {
    within = omega arith;
    ran = moved ∙ ap (step (live_places live) (get_or order i 0)) w.ran ∙ sym (run_next (live_places live) order heap₀ i h);
    long = ap length moved ∙ step-length (live_places live) (get_or order i 0) heap ∙ w.long;
    ready = λ more. let e : block_end total (get_or order i 0) ≡ block_words * (get_or order i 0 + 1) = omega arith in rw e at before;
  }
