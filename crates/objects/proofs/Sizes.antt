-- What sizes that fit say. Assumes nothing.
use mathlib.Core.Path.{◌≡◌}
use mathlib.Core.Bool.{true}
use mathlib.Core.List.{List}
use Prim.Native.Nat.{ℕ, ◌*◌, ◌≤◌}
use native.Mathlib.Omega.{arith}
use lib.Dec.{leb}
use lib.ListN.{length}
use borrow.Author.Tests.{leb-true, eqb-true}
use Rattle.meaning.specs.Limits.{heap_words, root_slots, block_words, table_entries, blocks_of}
use Rattle.meaning.specs.Collect.{sizes_fit}
use Rattle.meaning.proofs.Deciding.{and_both}

pub record Sizes (heap : List ℕ) (top : ℕ) (roots marks : List ℕ) : Type 0 where
  pub small : length heap ≤ heap_words
  pub room : top ≤ length heap
  pub slots : length roots ≤ root_slots
  pub few : length marks ≤ table_entries
  pub covers : top ≤ block_words * length marks

pub sizes : (heap : List ℕ) (top : ℕ) (roots marks : List ℕ) → sizes_fit heap top roots marks ≡ true → Sizes heap top roots marks
sizes heap top roots marks e =
    let (a, r) = and_both (leb (length heap) heap_words) _ e in
    let (b, s) = and_both (leb top (length heap)) _ r in
    let (c, d) = and_both (leb (length roots) root_slots) _ s in
    let small = leb-true (length heap) heap_words a in
    let room = leb-true top (length heap) b in
    let long = eqb-true (length marks) (blocks_of (length heap)) d in
    record { small = small; room = room; slots = leb-true (length roots) root_slots c; few = omega arith; covers = omega arith }
