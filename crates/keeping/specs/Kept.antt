-- The store as C keeps it: a record of eight words, the heap and the roots; and what a store call answers and leaves there.
use Rattle.std.specs.Prelude.{ℕ, ◌≡◌, List, get_or, set, cond, ltb, Result, Ok, Err}
use Rattle.meaning.specs.Answers.{Answer}
use Rattle.meaning.specs.Calls.{Brought, Said}
use Rattle.meaning.specs.Store.{Store, Mem}
use Rattle.meaning.specs.Sequences.{Step, collect, step, said, after}
use Rattle.refusals.specs.Paper.{answer_of}
use Rattle.refusals.specs.declared.Refusal.{Refusal}
use Rattle.refusals.specs.declared.Refusal.TheVariants.{Sizes}
use Rattle.store.specs.Contract.{paper_said, collection_of}
use Rattle.store.specs.declared.Store.{Store as Held}
use Rattle.store.specs.declared.Said.{Said as SaidByStore}
use Rattle.telling.specs.Out.{code, said_words, Says}

-- word 0 of the record is the top, word 1 the calls answered
abbrev pub store_in : List ℕ → Store
store_in kept = record { top = get_or kept 0 0; calls = get_or kept 1 0 }

-- the store itself, where its top fits 32 bits
abbrev pub held_in : List ℕ → Result Held Refusal
held_in kept = cond (ltb (get_or kept 0 0) 4294967296) (Ok (record { top = get_or kept 0 0; calls = get_or kept 1 0 })) (Err Sizes)

abbrev pub memory : List ℕ → List ℕ → List ℕ → Mem
memory kept heap roots = record { heap = heap; slots = roots; store = store_in kept }

-- the record with a store put in; words 2 to 7 stay as found
abbrev pub with_store : List ℕ → Store → List ℕ
with_store kept s = set (set kept 0 s.top) 1 s.calls

-- what a step on paper says, and the memory after it
abbrev pub said_by : Mem → Step → Answer Said
said_by m k = said (step m k)

abbrev pub after_it : Mem → Step → Mem
after_it m k = after m (step m k)

-- a step k from record, heap and roots: what they are afterwards is what they are after the step
pub record Leaves (kept heap roots : List ℕ) (k : Step) (kept' heap' roots' : List ℕ) : Type 0 where
  pub kept_is : kept' ≡ with_store kept (after_it (memory kept heap roots) k).store
  pub heap_is : heap' ≡ (after_it (memory kept heap roots) k).heap
  pub roots_are : roots' ≡ (after_it (memory kept heap roots) k).slots

-- a call that is answered by its number alone
pub record TellsCall (kept heap roots : List ℕ) (k : Step) (r : ℕ) (kept' heap' roots' : List ℕ) : Type 0 where
  pub number : r ≡ code (said_by (memory kept heap roots) k)
  pub leaves : Leaves kept heap roots k kept' heap' roots'

-- a call with values, in the lent words
pub record SaysCall (kept heap roots : List ℕ) (k : Step) (out : List ℕ) (r : ℕ) (kept' heap' roots' out' : List ℕ) : Type 0 where
  pub says : Says said_words (said_by (memory kept heap roots) k) out r out'
  pub leaves : Leaves kept heap roots k kept' heap' roots'

-- marks and tables at exit are those of the collection
pub record LeavesTables (kept heap roots : List ℕ) (b : Brought) (marks live offsets : List ℕ) : Type 0 where
  pub marks_are : marks ≡ (collection_of (memory kept heap roots) b).marks
  pub live_is : live ≡ (collection_of (memory kept heap roots) b).live
  pub offsets_are : offsets ≡ (collection_of (memory kept heap roots) b).offsets

-- the collect call: a step, and the marks and tables too
pub record SaysCollect (kept heap roots : List ℕ) (b : Brought) (out : List ℕ) (r : ℕ) (kept' heap' roots' marks' live' offsets' out' : List ℕ) : Type 0 where
  pub says : SaysCall kept heap roots (collect b) out r kept' heap' roots' out'
  pub tables : LeavesTables kept heap roots b marks' live' offsets'

-- inside: the store's own answer before it is said
pub record Gets (kept heap roots : List ℕ) (k : Step) (r : Result SaidByStore Refusal) (kept' heap' roots' : List ℕ) : Type 0 where
  pub answer_is : answer_of paper_said r ≡ said_by (memory kept heap roots) k
  pub leaves : Leaves kept heap roots k kept' heap' roots'

pub record GetsCollected (kept heap roots : List ℕ) (b : Brought) (r : Result SaidByStore Refusal) (kept' heap' roots' marks' live' offsets' : List ℕ) : Type 0 where
  pub gets : Gets kept heap roots (collect b) r kept' heap' roots'
  pub tables : LeavesTables kept heap roots b marks' live' offsets'
