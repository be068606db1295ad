-- A top that does not fit 32 bits is refused on paper too, and the store of a record put back leaves it. Assumes nothing.
use Rattle.std.proofs.Common.{◌≡◌, ℕ, ◌≤◌, ◌<◌, Bool, true, false, ◌&&◌, leb, eqb, List, length, get_or, Err, refl, sym, arith, leb-true}
use Rattle.std.proofs.lemmas.Bool.{lt-leb}
use Rattle.std.proofs.Math.Seq.{set-get_or}
use Rattle.meaning.specs.Answers.{refused}
use Rattle.meaning.specs.Limits.{heap_words, root_slots, blocks_of}
use Rattle.meaning.specs.Calls.{Call, Brought, admit, fits}
use Rattle.meaning.specs.Collect.{collect, checked, sizes_fit}
use Rattle.meaning.specs.Sequences.{Step, call, collect as collect_step, step}
use Rattle.meaning.specs.Store.{view_of, answered, collects}
use Rattle.refusals.specs.Paper.{number_of, place_of}
use Rattle.refusals.specs.declared.Refusal.{Refusal}
use Rattle.refusals.specs.declared.Refusal.TheVariants.{Sizes}
use Rattle.keeping.specs.Kept.{memory, store_in, with_store, Gets, GetsCollected}

-- it is above the heap's length, or the heap is too long
past : (room top : ℕ) (rest : Bool) → 4294967296 ≤ top → leb room heap_words && (leb top room && rest) ≡ false
past room top rest h = go (leb room heap_words) refl
  where
    go : (b : Bool) → leb room heap_words ≡ b → b && (leb top room && rest) ≡ false
    go false e = refl
    go true e = let below : room < top = omega (arith, h, leb-true room heap_words e) in rw (lt-leb top room below)

-- every call is refused by 1
pub call_past : (kept heap roots : List ℕ) (c : Call) → 4294967296 ≤ get_or kept 0 0 → answered (memory kept heap roots) c ≡ refused 1 0
unfolding answered admit
call_past kept heap roots c h =
    let e : fits (view_of (memory kept heap roots)) ≡ false = past (length heap) (get_or kept 0 0) (leb (length roots) root_slots) h in
    rw e

-- and so is the collection, which leaves marks and tables
pub collect_past : (heap : List ℕ) (top : ℕ) (roots marks order live offsets : List ℕ) → 4294967296 ≤ top
    → collect heap top roots marks order live offsets ≡ record { answer = refused 1 0; heap = heap; roots = roots; marks = marks; live = live; offsets = offsets }
unfolding collect checked
collect_past heap top roots marks order live offsets h =
    let e : sizes_fit heap top roots marks ≡ false = past (length heap) top (leb (length roots) root_slots && eqb (length marks) (blocks_of (length heap))) h in
    rw e

-- the store of a record put back into it
pub put_back : (kept : List ℕ) → with_store kept (store_in kept) ≡ kept
put_back kept = rw (set-get_or kept 0 0) (set-get_or kept 1 0)

-- where a step is refused on paper, all stays as found
gets-refused : (kept heap roots : List ℕ) (k : Step) (r : Refusal) → step (memory kept heap roots) k ≡ refused (number_of r) (place_of r) → Gets kept heap roots k (Err r) kept heap roots
gets-refused kept heap roots k r e = record {
  answer_is = rw e refl;
  leaves = record { kept_is = rw e (sym (put_back kept)); heap_is = rw e refl; roots_are = rw e refl };
}

-- past 32 bits a call is refused, and all stays as found
pub call_past_gets : (kept heap roots : List ℕ) (c : Call) → 4294967296 ≤ get_or kept 0 0 → Gets kept heap roots (call c) (Err Sizes) kept heap roots
call_past_gets kept heap roots c h = gets-refused kept heap roots (call c) Sizes (call_past kept heap roots c h)

pub collect_past_gets : (kept heap roots : List ℕ) (b : Brought) → 4294967296 ≤ get_or kept 0 0
    → GetsCollected kept heap roots b (Err Sizes) kept heap roots b.marks b.live b.offsets
unfolding collects
collect_past_gets kept heap roots b h =
    let e = collect_past heap (get_or kept 0 0) roots b.marks b.order b.live b.offsets h in
    record {
      gets = gets-refused kept heap roots (collect_step b) Sizes (rw e refl);
      tables = record { marks_are = rw e refl; live_is = rw e refl; offsets_are = rw e refl };
    }
