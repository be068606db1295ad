-- Cases P1 to P12 give what they should. Assumes nothing.
use mathlib.Core.Path.{◌≡◌, refl}
use mathlib.Core.List.{List, [], ◌∷◌}
use Prim.Native.Nat.{ℕ}
use Rattle.meaning.specs.Values.{value_of}
use Rattle.meaning.specs.Places.{below, up_to, marked, bits_from, bitmap}
use Rattle.meaning.specs.Objects.{parse}
use Rattle.meaning.specs.Slide.{slide, header_at, live_at, field_at}
use Rattle.meaning.specs.Blocks.{order_breaks}
use Rattle.meaning.specs.Collect.{checked, collect}
use Rattle.meaning.specs.Cases.{Fact, cases}

abbrev pub Hold : List (ℕ × Fact × Fact) → Type 0
Hold [] = Unit {0}
Hold (c ∷ cs) = (c.1 ≡ c.2) × Hold cs

pub cases_hold : Hold cases
unfolding cases value_of below up_to marked bits_from bitmap parse slide header_at live_at field_at order_breaks checked collect
cases_hold =
    (refl, (refl, (refl, (refl, (refl, (refl, (refl, (refl, (refl, (refl, (refl, (refl, (refl, (refl, (refl, (refl, (refl, (refl, tt))))))))))))))))))
