-- A table filled entry by entry. Assumes nothing.
use Prim.Native.Nat.{ℕ, zero, suc, ◌+◌}
use mathlib.Core.Path.{◌≡◌, refl, ap}
use mathlib.Core.Bool.{true}
use mathlib.Core.List.{List, [], ◌∷◌, ◌++◌, map}
use native.Mathlib.Numerals.{add-one}
use native.Mathlib.Omega.{arith}
use Rattle.std.specs.List.{range_with_len}
use Rattle.std.proofs.lemmas.List.FromFn.{map-range_with_len_more}
use Rattle.meaning.specs.Places.{places_from, up_to}

places_range : (a n : ℕ) → places_from (λ p. true) a n ≡ range_with_len a n
places_range a zero = refl
places_range a (suc n) = rw add-one (ap (λ (l : List ℕ). a ∷ l) (places_range (suc a) n))

pub table_none : {X : Type 0} (f : ℕ → X) → map f (up_to 0) ≡ []
unfolding up_to
table_none f = refl

-- one entry more
pub table_more : {X : Type 0} (f : ℕ → X) (n : ℕ) → map f (up_to (n + 1)) ≡ map f (up_to n) ++ (f n ∷ [])
unfolding up_to
table_more f n = rw (places_range 0 (n + 1), places_range 0 n) (map-range_with_len_more f 0 n n (omega arith))
