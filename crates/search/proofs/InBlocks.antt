-- The tests of the searches in one block, by the bits of its words. Assumes nothing.
use mathlib.Core.Path.{◌≡◌, ap, ap₂}
use mathlib.Core.Bool.{Bool, not, ◌&&◌}
use mathlib.Core.List.{List}
use Prim.Native.Nat.{ℕ, ◌+◌, ◌*◌, ◌<◌}
use lib.ListN.{get_or}
use Rattle.meaning.specs.Limits.{block_words}
use Rattle.meaning.specs.Places.{bit_set}
use Rattle.meaning.proofs.Bitmaps.{marked-block}
use Rattle.search.specs.Search.{stray, lost_at, bad_field}

pub stray-block : (marks headers : List ℕ) (b i : ℕ) → i < block_words
    → stray marks headers (block_words * b + i) ≡ bit_set (get_or marks b 0) i && not (bit_set (get_or headers b 0) i)
stray-block marks headers b i h = ap₂ (λ (x y : Bool). x && not y) (marked-block marks b i h) (marked-block headers b i h)

pub bad-block : (heap marks refs : List ℕ) (b i : ℕ) → i < block_words
    → bad_field heap marks refs (block_words * b + i) ≡ bit_set (get_or refs b 0) i && lost_at heap marks (block_words * b + i)
bad-block heap marks refs b i h = ap (λ (x : Bool). x && lost_at heap marks (block_words * b + i)) (marked-block refs b i h)
