-- Old to new from tables of fit lengths: what each test settles, in the order of the tests. Assumes nothing.
use mathlib.Core.Path.{◌≡◌, ◌∙◌}
use mathlib.Core.Bool.{true, false, cond}
use mathlib.Core.List.{List}
use Prim.Native.Nat.{ℕ, ◌/◌, ◌≤◌, ◌<◌}
use borrow.Author.Tests.{lt-ltb, le-ltb, le-leb, lt-leb}
use lib.Dec.{leb}
use lib.ListN.{length, get_or}
use Rattle.meaning.specs.Limits.{heap_words, block_words}
use Rattle.meaning.specs.Answers.{Answer, gives, refused}
use Rattle.meaning.specs.Places.{marked}
use Rattle.meaning.specs.Lookups.{Found, at, none, new_place_of, old_to_new}
use Rattle.meaning.proofs.LookupsInverse.{TablesFit, fit_gives}

module _ (live offsets : List ℕ) (fit : TablesFit live offsets) (p : ℕ) where
  pub outside : length live ≤ p / block_words → old_to_new live offsets p ≡ gives none
  unfolding old_to_new
  outside h = fit_gives live offsets fit _ ∙ rw (le-ltb (p / block_words) (length live) h)

  abbrev if_live : Answer Found
  if_live = cond (marked live p) (gives (at (new_place_of live offsets p))) (gives none)

  module _ (inside : p / block_words < length live) where
    by-entry : old_to_new live offsets p ≡ cond (leb (get_or offsets (p / block_words) 0) heap_words) if_live (refused 1 0)
    unfolding old_to_new
    by-entry = fit_gives live offsets fit _ ∙ rw (lt-ltb (p / block_words) (length live) inside)

    pub entry-too-high : heap_words < get_or offsets (p / block_words) 0 → old_to_new live offsets p ≡ refused 1 0
    entry-too-high h = by-entry ∙ rw (lt-leb (get_or offsets (p / block_words) 0) heap_words h)

    module _ (low : get_or offsets (p / block_words) 0 ≤ heap_words) where
      by_bit : old_to_new live offsets p ≡ if_live
      by_bit = by-entry ∙ rw (le-leb (get_or offsets (p / block_words) 0) heap_words low)

      pub bit-clear : marked live p ≡ false → old_to_new live offsets p ≡ gives none
      bit-clear e = by_bit ∙ rw e

      pub bit-set : marked live p ≡ true → old_to_new live offsets p ≡ gives (at (new_place_of live offsets p))
      bit-set e = by_bit ∙ rw e
