-- The contract of a call on a lent record: what is said, and the record and all lent memory at exit, are those of the call on paper.
use Rattle.std.specs.Prelude.{◌≡◌, ℕ, List, Result}
use Rattle.meaning.specs.Answers.{Answer as Answered}
use Rattle.meaning.specs.Calls.{Brought, Did}
use Rattle.meaning.specs.Store.{Mem, collects}
use Rattle.meaning.specs.Sequences.{said, after}
use Rattle.refusals.specs.Paper.{answer_of}
use Rattle.refusals.specs.declared.Refusal.{Refusal}
use Rattle.store.specs.declared.Store.{Store}
use Rattle.store.specs.declared.Said.{Said}
use Rattle.store.specs.Contract.{store_of, paper_said, collection_of}

-- m is the memory at entry, x the call on paper; r what is said, s, heap and slots the record and the lent memory at exit
pub record Leaves (m : Mem) (x : Answered (Did Mem)) (r : Result Said Refusal) (s : Store) (heap slots : List ℕ) : Type 0 where
  pub answer_is : answer_of paper_said r ≡ said x
  pub store_is : store_of s ≡ (after m x).store
  pub heap_is : heap ≡ (after m x).heap
  pub slots_are : slots ≡ (after m x).slots

-- the collect call: also the marks and the tables at exit are those of the collection
pub record LeavesCollected (m : Mem) (b : Brought) (r : Result Said Refusal) (s : Store) (heap slots marks live offsets : List ℕ) : Type 0 where
  pub leaves : Leaves m (collects m b) r s heap slots
  pub marks_are : marks ≡ (collection_of m b).marks
  pub live_is : live ≡ (collection_of m b).live
  pub offsets_are : offsets ≡ (collection_of m b).offsets
