-- What it says that heap, top and slots fit. Assumes nothing.
use Rattle.std.proofs.Common.{◌≡◌, ◌≤◌, true, ◌&&◌, leb, length, leb-true}
use Rattle.meaning.specs.Limits.{heap_words, root_slots}
use Rattle.meaning.specs.Calls.{fits}
use Rattle.meaning.specs.Store.{Mem, view_of}
use Rattle.meaning.proofs.Deciding.{and_both}

-- where heap, top and slots fit, the top is in the heap, and the heap is not past its limit
pub fits-top : (m : Mem) → fits (view_of m) ≡ true → (m.store.top ≤ length m.heap) × (length m.heap ≤ heap_words)
fits-top m e =
    let h = length m.heap in
    let t = leb m.store.top h in
    let s = leb (length m.slots) root_slots in
    let (room, rest) = and_both (leb h heap_words) (t && s) e in
    let (top, slots) = and_both t s rest in
    (leb-true m.store.top h top, leb-true h heap_words room)
