-- `bits::count_below` meets its contract: past the end nothing more is counted. Assumes nothing.
use mathlib.Core.Path.{sym, ◌∙◌}
use Prim.Native.Nat.{◌*◌, ◌/◌, ◌%◌}
use lib.ListN.{length, get_or}
use native.Mathlib.Omega.{arith}
use Rattle.meaning.specs.Limits.{block_words}
use Rattle.meaning.specs.Places.{bit_set, marked}
use Rattle.meaning.proofs.Counting.{below-few, below_flat}
use Rattle.meaning.proofs.Bitmaps.{marked_out, below_at}
use Rattle.bits.proofs.SetIn.{set_in_all, set_in_first}
use Rattle.bits.proofs.count_below.Goals as goal

pub count_words-requires : goal.count_words-requires
count_words-requires c = let m = c.args.map.now in omega (arith, set_in_all m, below-few (marked m) (block_words * length m))

pub returns-then-map-b : goal.returns-then-map-b
returns-then-map-b c = let a = c.args in
    let m = a.map.now in
    c.count_words.ensures ∙ set_in_all m ∙ sym (below_flat (marked m) (block_words * length m) a.p (omega arith) (λ r h l. marked_out m r h))

pub count_words-requires-2 : goal.count_words-requires-2
count_words-requires-2 c = let a = c.args in
    let b = a.p / block_words in
    omega (arith, set_in_first a.map.now b (omega arith), below-few (marked a.map.now) (block_words * b))

pub overflow_add-result : goal.overflow_add-result
overflow_add-result c = let a = c.args in
    let m = a.map.now in
    let b = a.p / block_words in
    omega (arith, set_in_first m b (omega arith), below-few (marked m) (block_words * b), below-few (bit_set (get_or m b 0)) (a.p % block_words))

pub returns : goal.returns
returns c = let a = c.args in
    omega (arith, set_in_first a.map.now (a.p / block_words) (omega arith), below_at a.map.now a.p)
