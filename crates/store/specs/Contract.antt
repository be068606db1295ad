-- The contract of every store call: the answer and all lent memory are those of the call on paper.
use Rattle.std.specs.Prelude.{◌≡◌, ℕ, List, length, ltb, cond, Result, Ok, Err}
use Rattle.meaning.specs.Answers.{Answer as Answered}
use Rattle.meaning.specs.Calls.{Call as OnPaperCall, put_int, put_nil, copy, new_record, new_raw, read_field, write_field, read_raw, write_raw, ask, same, Said as OnPaper, Brought, Did, done, integer, is_nil, is_record, is_raw, word, the_same, collected, tick}
use Rattle.meaning.specs.Store.{Store as PaperStore, Mem, collects}
use Rattle.meaning.specs.Collect.{After, collect}
use Rattle.meaning.specs.Sequences.{said, after}
use Rattle.refusals.specs.Paper.{answer_of}
use Rattle.refusals.specs.declared.Refusal.{Refusal}
use Rattle.refusals.specs.declared.Refusal.TheVariants.{NoSlot}
use Rattle.store.specs.declared.Store.{Store}
use Rattle.store.specs.declared.Answer.{Answer}
use Rattle.store.specs.declared.Call.{Call}
use Rattle.store.specs.declared.Call.TheVariants.{PutInt, PutNil, Copy, NewRecord, NewRaw, ReadField, WriteField, ReadRaw, WriteRaw, Ask, Same as SameCall}
use Rattle.store.specs.declared.Said.{Said}
use Rattle.store.specs.declared.Said.TheVariants.{Done, Integer, Nil, Record, Raw, Word, Same, Collected}

abbrev pub store_of : Store → PaperStore
store_of s = record { top = s.top; calls = s.calls }

abbrev pub mem_of : List ℕ → List ℕ → Store → Mem
mem_of heap slots s = record { heap = heap; slots = slots; store = store_of s }

-- what an accepted call says, on paper
abbrev pub paper_said : Said → OnPaper
paper_said Done = done
paper_said (Integer z) = integer z
paper_said Nil = is_nil
paper_said (Record n) = is_record n
paper_said (Raw n) = is_raw n
paper_said (Word w) = word w
paper_said (Same b) = the_same b
paper_said (Collected top objects blocks) = collected (record { top = top; objects = objects; blocks = blocks })

-- the answer on paper
abbrev pub said_of : Result (Answer Said) Refusal → Answered OnPaper
said_of = answer_of (λ a. paper_said a.said)

-- the record after the call: the one given back, else the one at entry
abbrev pub store_after : Mem → Result (Answer Said) Refusal → PaperStore
store_after m (Ok a) = store_of a.store
store_after m (Err e) = m.store

-- the call on paper
abbrev pub call_of : Call → OnPaperCall
call_of (PutInt s z) = put_int s z
call_of (PutNil s) = put_nil s
call_of (Copy s t) = copy s t
call_of (NewRecord s k) = new_record s k
call_of (NewRaw s k) = new_raw s k
call_of (ReadField o f t) = read_field o f t
call_of (WriteField o f s) = write_field o f s
call_of (ReadRaw o f) = read_raw o f
call_of (WriteRaw o f w) = write_raw o f w
call_of (Ask s) = ask s
call_of (SameCall s t) = same s t

-- m is the memory at entry, x the call on paper; r the answer, heap and slots the lent memory at exit
pub record Leaves (m : Mem) (x : Answered (Did Mem)) (r : Result (Answer Said) Refusal) (heap slots : List ℕ) : Type 0 where
  pub answer_is : said_of r ≡ said x
  pub store_is : store_after m r ≡ (after m x).store
  pub heap_is : heap ≡ (after m x).heap
  pub slots_are : slots ≡ (after m x).slots

-- where slot s is, or refusal 7
abbrev pub slot_of : List ℕ → ℕ → Result ℕ Refusal
slot_of slots s = cond (ltb s (length slots)) (Ok s) (Err (NoSlot s))

-- the record after an accepted call that leaves the top
abbrev pub ticked_of : Store → Store
ticked_of s = record { top = s.top; calls = tick s.calls }

-- that record and what is said, whatever it is
abbrev pub told_of : {T : Type 0} → Store → T → Answer T
told_of s a = record { store = ticked_of s; said = a }

-- the bare collection of a store's heap, top and slots, with what is brought
abbrev pub collection_of : Mem → Brought → After
collection_of m b = collect m.heap m.store.top m.slots b.marks b.order b.live b.offsets

abbrev pub brought_of : List ℕ → List ℕ → List ℕ → List ℕ → Brought
brought_of marks order live offsets = record { marks = marks; order = order; live = live; offsets = offsets }

-- the collect call: also the marks and the tables at exit are those of the collection
pub record LeavesCollected (m : Mem) (b : Brought) (r : Result (Answer Said) Refusal) (heap slots marks live offsets : List ℕ) : Type 0 where
  pub leaves : Leaves m (collects m b) r heap slots
  pub marks_are : marks ≡ (collection_of m b).marks
  pub live_is : live ≡ (collection_of m b).live
  pub offsets_are : offsets ≡ (collection_of m b).offsets
