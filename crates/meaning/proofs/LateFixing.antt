-- Fixing comes before moving. With the tests made after the move, at the new places, a reference is left as it was: a computed example.
-- Assumes nothing.
use mathlib.Core.Path.{◌≡◌, refl}
use mathlib.Core.Bool.{Bool, ◌&&◌, cond}
use mathlib.Core.List.{List, [], ◌∷◌, map}
use Prim.Native.Nat.{ℕ}
use lib.ListN.{get_or}
use Rattle.meaning.specs.Places.{places_from, below, src, marked}
use Rattle.meaning.specs.Slide.{fix_word}
use Rattle.meaning.specs.Words.{rest, starts, owner, live, field, fixed}

-- word j after the move, fixed where the tables read at j call for it
pub late : List ℕ → ℕ → (ℕ → Bool) → ℕ → ℕ
late heap top m j =
    let w : ℕ = get_or heap (src (live heap m) top j) 0 in cond (live heap m j && field heap j) (fix_word (below (live heap m)) w) w

-- a dead object of one word, and after it a record that refers to itself: its reference becomes 1, and late fixing leaves 3
abbrev example : List ℕ
example = 1 ∷ 4 ∷ 3 ∷ []

pub late_is_wrong : (map (fixed example (marked (2 ∷ []))) (places_from (live example (marked (2 ∷ []))) 0 3) ≡ 4 ∷ 1 ∷ []) × (late example 3 (marked (2 ∷ [])) 1 ≡ 3)
unfolding late fixed field live owner starts rest below src marked
late_is_wrong = (refl, refl)
