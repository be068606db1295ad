-- What each phase of a collection leaves to the next.
use Rattle.std.specs.Prelude.{◌⊎◌, ℕ, ◌*◌, ◌≤◌, ◌<◌, ◌≡◌, Bool, true, ◌&&◌, List, [], ◌∷◌, map, length, get_or, replicate, Result, Ok, Err}
use Rattle.meaning.specs.Limits.{heap_words, block_words, order_entries, table_entries, blocks_of}
use Rattle.meaning.specs.Answers.{gives, refused}
use Rattle.meaning.specs.Values.{is_ref}
use Rattle.meaning.specs.Places.{places_from, below, marked, bitmap}
use Rattle.meaning.specs.Objects.{Object, parse}
use Rattle.meaning.specs.Slide.{fix_word, live_at, field_at}
use Rattle.meaning.specs.Blocks.{run, order_breaks}
use Rattle.meaning.specs.Collect.{judged, offset_table}
use Rattle.meaning.proofs.CollectedHeap.{Fixed, Zeroed}
use Rattle.blocks.specs.Cursors.{live_places, Movable}
use Rattle.fixing.specs.Fixable.{RootsFixable, Fixable}
use Rattle.walk.specs.declared.Survey.{Survey}
use Rattle.objects.specs.Examined.{Surveyed}
use Rattle.refusals.specs.Paper.{number_of, place_of}
use Rattle.refusals.specs.declared.Refusal.{Refusal}
use Rattle.refusals.specs.declared.Refusal.TheVariants.{OrderBreaks}
use Rattle.compactor.specs.declared.Totals.{Totals}

-- the tables of n entries describe the live places t
pub record Tabled (t : ℕ → Bool) (n : ℕ) (live offsets : List ℕ) : Type 0 where
  pub bits : live ≡ bitmap t n
  pub entries : offsets ≡ offset_table t n

-- the order judged, the live places being t below end: so many live words, or where it breaks
abbrev pub OrderSays : (ℕ → Bool) → ℕ → List ℕ → Result ℕ Refusal → Type 0
OrderSays t end order (Ok total) = (order_breaks (places_from t 0 end) order ≡ []) × (total ≡ below t end)
OrderSays t end order (Err e) = (i : ℕ) × (e ≡ OrderBreaks i) × ((rest : List ℕ) × (order_breaks (places_from t 0 end) order ≡ i ∷ rest))

-- tables of one length, and live words only where they have bits
pub record Settleable (words order live offsets : List ℕ) : Type 0 where
  pub few : length live ≤ table_entries
  pub same : length offsets ≡ length live
  pub inside : (p : ℕ) → marked words p ≡ true → p < block_words * length live
  pub short : length order ≤ order_entries

-- the tables filled from a bitmap of live words, and the order judged
pub record Settled (words : List ℕ) (n : ℕ) (order live offsets : List ℕ) (r : Result ℕ Refusal) : Type 0 where
  pub tabled : Tabled (marked words) n live offsets
  pub says : OrderSays (marked words) (block_words * n) order r

-- a sound heap of these objects, its tables, and its order judged
pub record Sorted (heap : List ℕ) (top : ℕ) (roots marks order live₀ live offsets : List ℕ) (r : Result ℕ Refusal) : Type 0 where
  pub objects : List Object
  pub sound : judged heap top roots marks (parse heap top) ≡ gives objects
  pub tabled : Tabled (live_at (marked marks) objects) (length live₀) live offsets
  pub says : OrderSays (live_at (marked marks) objects) top order r

-- the places of the references in marked records
pub record References (heap : List ℕ) (m : ℕ → Bool) (os : List Object) (refs : List ℕ) : Type 0 where
  pub holds_ref : (q : ℕ) → marked refs q ≡ field_at m os q && is_ref (get_or heap q 0)

-- refusals 2 to 5 leave the tables as found; past them the tables are filled, and the survey handed on
module _ (heap : List ℕ) (top : ℕ) (roots marks order live₀ offsets₀ live offsets : List ℕ) (v : Survey) where
  abbrev pub PreparedAs : Result ℕ Refusal → Type 0
  PreparedAs (Err e) =
      ((judged heap top roots marks (parse heap top) ≡ refused (number_of e) (place_of e)) × (live ≡ live₀) × (offsets ≡ offsets₀))
      ⊎ ((s : Sorted heap top roots marks order live₀ live offsets (Err e)) × Surveyed heap (marked marks) s.objects v.headers v.words v.fields)
  PreparedAs (Ok total) =
      (s : Sorted heap top roots marks order live₀ live offsets (Ok total)) × Surveyed heap (marked marks) s.objects v.headers v.words v.fields

-- what fixing and moving ask
pub record Slidable (heap : List ℕ) (top : ℕ) (roots order live refs : List ℕ) (total : ℕ) : Type 0 where
  pub room : top ≤ length heap
  pub roots_fixable : RootsFixable roots live
  pub fields_fixable : Fixable (marked refs) heap live
  pub movable : Movable live total (length heap)
  pub within : (i : ℕ) → i < length order → get_or order i 0 < blocks_of total

-- references fixed, then the live words moved by blocks, then the tail zeroed
pub record Slid (heap : List ℕ) (top : ℕ) (order live refs : List ℕ) (total : ℕ) (after : List ℕ) : Type 0 where
  pub fixed_heap : List ℕ
  pub fixed : Fixed (marked refs) (below (marked live)) heap fixed_heap
  pub zeroed : Zeroed total top (run (live_places live) order fixed_heap) after

-- the last phase: slid, marks cleared, and the numbers answered
pub record Finished (heap : List ℕ) (top : ℕ) (roots marks order live refs : List ℕ) (total : ℕ) (heap' roots' marks' : List ℕ) (r : Totals) : Type 0 where
  pub slid : Slid heap top order live refs total heap'
  pub roots_fixed : roots' ≡ map (fix_word (below (marked live))) roots
  pub marks_cleared : marks' ≡ replicate (length marks) 0
  pub answered : r ≡ record { top = total; objects = below (marked marks) (block_words * length marks); blocks = blocks_of total }

-- what it asks
pub record Finishable (heap : List ℕ) (top : ℕ) (roots marks order live refs : List ℕ) (total : ℕ) : Type 0 where
  pub slidable : Slidable heap top roots order live refs total
  pub few : length marks ≤ table_entries
  pub small : total ≤ heap_words
