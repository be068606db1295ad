-- Set bits dropped, lowest first, one by one or some in a row: which comes next, and when none is left. Assumes nothing.
use mathlib.Core.Path.{◌≡◌, refl, sym, ap, ◌∙◌}
use mathlib.Core.Logic.{◌≢◌}
use mathlib.Core.Bool.{Bool, true, ◌&&◌}
use Prim.Native.Nat.{ℕ, suc, ◌+◌, ◌-◌, ◌^◌, ◌≤◌, ◌<◌}
use native.Mathlib.Omega.{arith}
use lib.Bits.{bit_and}
use lib.Count.{count_trailing_zeros}
use lib.Dec.{leb}
use borrow.Author.Tests.{leb-true, le-leb}
use Rattle.meaning.specs.Limits.{block_words}
use Rattle.meaning.specs.Places.{below, bit_set}
use Rattle.meaning.proofs.Deciding.{and_both, both_and, same_test}
use Rattle.meaning.proofs.Counting.{below-zero, below_flat, below_next}
use Rattle.bits.proofs.Words.{bit_within}
use Rattle.bits.proofs.BitLoop.{Left, left-start, left_next, left_end}
use Rattle.runs.specs.Runs.{Run}
use Rattle.runs.proofs.RunsOfBits.{below-run}
use Rattle.blocks.specs.Cursors.{Dropped}

-- bit z is the set bit number n of the word, and rest is the word without the bits up to it
pub record Taken (word n z rest : ℕ) : Type 0 where
  pub within : z < block_words
  pub is_set : bit_set word z ≡ true
  pub number : below (bit_set word) z ≡ n
  pub next : Dropped word (n + 1) rest

module _ (word : ℕ) where
  pub dropped-start : word < 2 ^ block_words → Dropped word 0 word
  dropped-start h = record { at = 0; within = omega arith; left = left-start block_words word h; passed = below-zero (bit_set word) }

  pub dropped_next : (n rest : ℕ) → rest ≢ 0 → Dropped word n rest → Taken word n (count_trailing_zeros block_words rest) (bit_and rest (rest - 1))
  dropped_next n rest ne d =
      let next = left_next block_words word rest d.at ne d.left in
      let number = below_flat (bit_set word) d.at _ next.from next.none_between ∙ d.passed in
      record {
        within = next.within;
        is_set = next.is_set;
        number = number;
        next = record {
          at = suc (count_trailing_zeros block_words rest);
          within = next.within;
          left = next.left;
          passed = omega (arith, below_next (bit_set word) _ next.is_set, number);
        };
      }

  -- all n set bits are dropped
  pub dropped_end : (n : ℕ) → Dropped word n 0 → below (bit_set word) block_words ≡ n
  dropped_end n d = below_flat (bit_set word) d.at block_words d.within (λ i h l. left_end block_words word 0 d.at refl d.left i h) ∙ d.passed

  -- so where there is one more, one is left
  pub dropped-some : (n rest : ℕ) → n < below (bit_set word) block_words → Dropped word n rest → rest ≢ 0
  dropped-some n rest h d e = omega (arith, dropped_end n (rw e at d))

-- ## Some in a row: n are gone, and `first` is the lowest bit left
module _ (word n rest most k : ℕ) (d : Dropped word n rest) (run : Run rest (count_trailing_zeros block_words rest) most k) where
  abbrev first : ℕ
  first = count_trailing_zeros block_words rest

  pub run_word : (i : ℕ) → first ≤ i → i < first + k → (bit_set word i ≡ true) × (d.at ≤ i)
  run_word i l r = let (s, later) = and_both (bit_set word i) (leb d.at i) (sym (d.left.rest i) ∙ run.all i l r) in (s, leb-true d.at i later)

  pub run-within : first + k ≤ block_words
  run-within = omega (arith, run.some, bit_within block_words rest (first + k - 1) d.left.fits (run.all (first + k - 1) (omega (arith, run.some)) (omega (arith, run.some))))

  pub dropped-run : (rest' : ℕ) → rest ≢ 0 → Left block_words rest rest' (first + k) → Dropped word (n + k) rest'
  dropped-run rest' ne l = record {
    at = first + k;
    within = run-within;
    left = record { fits = l.fits; rest = λ i. l.rest i ∙ ap (λ (b : Bool). b && leb (first + k) i) (d.left.rest i) ∙ later i };
    passed = omega (arith, below-run (bit_set word) first k (λ i h r. (run_word i h r).0), (dropped_next word n rest ne d).number);
  }
    where
      later : (i : ℕ) → bit_set word i && leb d.at i && leb (first + k) i ≡ bit_set word i && leb (first + k) i
      later i =
          same_test true (bit_set word i && leb d.at i && leb (first + k) i) (bit_set word i && leb (first + k) i)
          (λ e. let (old, up) = and_both (bit_set word i && leb d.at i) (leb (first + k) i) e in
          let (s, low) = and_both (bit_set word i) (leb d.at i) old in
          both_and (bit_set word i) (leb (first + k) i) s up)
          (λ e. let (s, up) = and_both (bit_set word i) (leb (first + k) i) e in
          let h = leb-true (first + k) i up in
          both_and (bit_set word i && leb d.at i) (leb (first + k) i)
          (both_and (bit_set word i) (leb d.at i) s (le-leb d.at i (omega (arith, (run_word first (omega arith) (omega (arith, run.some))).1)))) up)
