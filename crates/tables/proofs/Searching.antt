-- The search for live word number n: it is number `left` of those from block b on. Assumes nothing.
use mathlib.Core.Path.{◌≡◌, ap, ◌∙◌}
use mathlib.Core.List.{List}
use Prim.Native.Nat.{ℕ, ◌+◌, ◌-◌, ◌*◌, ◌≤◌, ◌<◌}
use native.Mathlib.Omega.{arith}
use lib.ListN.{length, get_or}
use Rattle.meaning.specs.Limits.{block_words}
use Rattle.meaning.specs.Answers.{gives}
use Rattle.meaning.specs.Places.{below, src, bit_set, marked}
use Rattle.meaning.specs.Lookups.{at, none, new_to_old}
use Rattle.meaning.proofs.Counting.{src_below, src_live, src-within}
use Rattle.meaning.proofs.Bitmaps.{marked-block, below-block}
use Rattle.meaning.proofs.LookupsInverse.{TablesFit, old_at, old_none}

-- the live words of block b
abbrev pub of_block : List ℕ → ℕ → ℕ
of_block live b = below (bit_set (get_or live b 0)) block_words

module _ (live : List ℕ) (n : ℕ) where
  -- `left` more than the live words below block b
  abbrev pub Searching : ℕ → ℕ → Type 0
  Searching left b = n ≡ below (marked live) (block_words * b) + left

  -- the block has too few
  pub searching_next : (left b here : ℕ) → here ≡ of_block live b → here ≤ left → Searching left b → Searching (left - here) (b + 1)
  searching_next left b here e l s =
      let next : below (marked live) (block_words * (b + 1)) ≡ below (marked live) (block_words * b + block_words) = ap (below (marked live)) (omega arith) in
      omega (arith, next, below-block live b block_words (omega arith))

  module _ (offsets : List ℕ) (fit : TablesFit live offsets) where
    -- the block has it
    pub searching_found : (left b i : ℕ) → left < of_block live b → i ≡ src (bit_set (get_or live b 0)) block_words left → Searching left b
        → new_to_old live offsets n ≡ gives (at (block_words * b + i))
    searching_found left b i h e s =
        let t = bit_set (get_or live b 0) in
        let in_block_lem : i < block_words = omega (arith, src-within t block_words left h) in
        let below-i : below t i ≡ left = ap (below t) e ∙ src_below t block_words left h in
        old_at live offsets fit n (block_words * b + i)
        (marked-block live b i in_block_lem ∙ ap t e ∙ src_live t block_words left h)
        (omega (arith, below-block live b i (omega arith)))

    -- no block has
    pub searching_end : (left b : ℕ) → b ≡ length live → Searching left b → new_to_old live offsets n ≡ gives none
    searching_end left b e s = old_none live offsets fit n (omega (arith, ap (λ (x : ℕ). below (marked live) (block_words * x)) e))
