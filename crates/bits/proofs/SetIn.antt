-- How many bits of a bitmap's first words are set: as many as places before them are marked. Assumes nothing.
use mathlib.Core.Path.{◌≡◌, sym, ap, ◌∙◌}
use mathlib.Core.List.{List}
use Prim.Native.Nat.{ℕ, zero, suc, ◌+◌, ◌*◌, ◌≤◌}
use native.Mathlib.Numerals.{add-one}
use native.Mathlib.Omega.{arith}
use lib.Seq.{take-length}
use lib.ListN.{length, take, get_or}
use Rattle.std.proofs.lemmas.List.Sums.{sum_by_more}
use Rattle.meaning.specs.Limits.{block_words}
use Rattle.meaning.specs.Places.{below, bit_set, marked}
use Rattle.meaning.proofs.Counting.{below-zero}
use Rattle.meaning.proofs.Bitmaps.{below-block}
use Rattle.bits.specs.SetBits.{set_in}

pub set_in_first : (m : List ℕ) (b : ℕ) → b ≤ length m → set_in (take b m) ≡ below (marked m) (block_words * b)
set_in_first m zero h = sym (below-zero (marked m))
set_in_first m (suc b) h =
    let more = sum_by_more (λ (w : ℕ). below (bit_set w) block_words) m b 0 h in
    let e : block_words * (b + 1) ≡ block_words * b + block_words = omega arith in
    rw (← add-one b)
    (more ∙ ap (λ (x : ℕ). x + below (bit_set (get_or m b 0)) block_words) (set_in_first m b (omega arith))
    ∙ sym (ap (below (marked m)) e ∙ below-block m b block_words (omega arith)))

pub set_in_all : (m : List ℕ) → set_in m ≡ below (marked m) (block_words * length m)
set_in_all m = ap set_in (sym (take-length m)) ∙ set_in_first m (length m) (omega arith)
