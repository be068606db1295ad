-- The cursor: how it is found, and how it goes from one live word to the next. Assumes nothing.
use mathlib.Core.Path.{◌≡◌, ap, ◌∙◌}
use mathlib.Core.Logic.{⊎_elim, ◌≢◌}
use mathlib.Core.Bool.{true}
use mathlib.Core.List.{List}
use Prim.Native.Nat.{ℕ, ◌+◌, ◌-◌, ◌*◌, ◌≤◌, ◌<◌}
use native.Mathlib.Omega.{arith}
use lib.Count.{count_trailing_zeros}
use lib.ListN.{length, get_or}
use Rattle.meaning.specs.Limits.{block_words}
use Rattle.meaning.specs.Places.{below, src, bit_set, marked}
use Rattle.meaning.proofs.Deciding.{le_or_lt}
use Rattle.meaning.proofs.Counting.{below-zero, below_mono, src_at}
use Rattle.meaning.proofs.Bitmaps.{Fit, marked-block, marked_in, below-block}
use Rattle.bits.proofs.BitLoop.{Left}
use Rattle.runs.specs.Runs.{Run}
use Rattle.runs.proofs.RunsOfBits.{below-run}
use Rattle.blocks.specs.Cursors.{live_places, Before}
use Rattle.blocks.proofs.DroppedBits.{dropped-start, dropped_next, dropped_end, run_word, run-within, dropped-run}

module _ (live : List ℕ) where
  -- the live places below the block after block b
  below_word : (b : ℕ) → below (marked live) (block_words * (b + 1)) ≡ below (marked live) (block_words * b) + below (bit_set (get_or live b 0)) block_words
  below_word b = ap (below (marked live)) (let e : block_words * (b + 1) ≡ block_words * b + block_words = omega arith in e) ∙ below-block live b block_words (omega arith)

  -- a live word number j stands in block b or after it
  within_words : (j b : ℕ) → j < below (marked live) (block_words * length live) → below (marked live) (block_words * b) ≤ j → b < length live
  within_words j b some h =
      ⊎_elim
      (λ (g : length live ≤ b). absurd (omega (arith, below_mono (marked live) (block_words * length live) (block_words * b) (omega arith))))
      (λ (g : b < length live). g)
      (le_or_lt (length live) b)

  -- ## Found
  -- live word number j is number `left` of those that stand in block b or after it
  pub record Seeking (j b left : ℕ) : Type 0 where
    pub within : b < length live
    pub count : j ≡ below (marked live) (block_words * b) + left

  pub seeking_start : (j : ℕ) → j < below (marked live) (block_words * length live) → Seeking j 0 j
  seeking_start j some = record { within = within_words j 0 some (omega (arith, below-zero (marked live))); count = omega (arith, below-zero (marked live)) }

  pub seeking_next : (j b left n : ℕ) → j < below (marked live) (block_words * length live) → n ≡ below (bit_set (get_or live b 0)) block_words → n ≤ left → Seeking j b left
      → Seeking j (b + 1) (left - n)
  seeking_next j b left n some e h s =
      record { within = within_words j (b + 1) some (omega (arith, s.count, below_word b)); count = omega (arith, s.count, below_word b) }

  -- ## Moved on
  -- live words number j to j + k - 1 stand in a row from bit z of word b on, and past them is the cursor with what is then left of that word
  pub record Row (j b rest z k : ℕ) : Type 0 where
    pub within : z + k ≤ block_words
    pub is_live : (i : ℕ) → i < k → marked live (block_words * b + z + i) ≡ true
    pub places : (i : ℕ) → i < k → get_or (live_places live) (j + i) 0 ≡ block_words * b + z + i
    pub next : (rest' : ℕ) → Left block_words rest rest' (z + k) → Before live (j + k) (record { block = b; rest = rest' })

  pub before_row : (j b rest most k : ℕ) → Before live j (record { block = b; rest = rest }) → rest ≢ 0 → Run rest (count_trailing_zeros block_words rest) most k
      → Row j b rest (count_trailing_zeros block_words rest) k
  unfolding src
  before_row j b rest most k w ne run =
      let word = get_or live b 0 in
      let z = count_trailing_zeros block_words rest in
      let p = block_words * b + z in
      let within = run-within word w.dropped rest most k w.word run in
      let is_live : (i : ℕ) → i < k → marked live (p + i) ≡ true =
      λ i l. ap (marked live) (let e : p + i ≡ block_words * b + (z + i) = omega arith in e)
      ∙ marked-block live b (z + i) (omega (arith, within)) ∙ (run_word word w.dropped rest most k w.word run (z + i) (omega arith) (omega arith)).0 in
      let number : below (marked live) p ≡ j = omega (arith, below-block live b z (omega (arith, within)), (dropped_next word w.dropped rest ne w.word).number, w.count) in
      record {
        within = within;
        is_live = is_live;
        places = λ i l.
            let up : below (marked live) (p + i) ≡ j + i =
            below-run (marked live) p i (λ q h r. ap (marked live) (let e : q ≡ p + (q - p) = omega arith in e) ∙ is_live (q - p) (omega arith)) ∙ ap (λ (x : ℕ). x + i) number in
            rw up at (src_at (marked live) (block_words * length live) (p + i) (marked_in live (p + i) (is_live i l)) (is_live i l));
        next = λ rest' l. record { dropped = w.dropped + k; word = dropped-run word w.dropped rest most k w.word run rest' ne l; count = omega (arith, w.count) };
      }

  -- nothing is left of word b, and live word number j is still to come: so it stands in a word after it
  module _ (j b : ℕ) (some : j < below (marked live) (block_words * length live)) (w : Before live j (record { block = b; rest = 0 })) where
    passed : j ≡ below (marked live) (block_words * (b + 1)) + 0
    passed = omega (arith, below_word b, dropped_end (get_or live b 0) w.dropped w.word, w.count)

    pub before-within : b + 1 < length live
    before-within = within_words j (b + 1) some (omega (arith, passed))

    pub before-word : Fit live → Before live j (record { block = b + 1; rest = get_or live (b + 1) 0 })
    before-word f = record { dropped = 0; word = dropped-start (get_or live (b + 1) 0) (f (b + 1)); count = passed }
