-- Decimals as the library writes them, and numbers after spaces, one more at a time. Assumes nothing.
use Prim.Native.Nat.{ℕ, ◌+◌, ◌/◌, ◌%◌, ◌^◌, ◌<◌, ◌≤◌}
use mathlib.Core.Path.{◌≡◌, refl}
use mathlib.Core.List.{List, [], ◌∷◌, ◌++◌, append_assoc, append-nil}
use Rattle.std.proofs.lemmas.List.{take_more}
use native.Mathlib.Omega.{arith}
use borrow.Author.Tests.{lt-ltb, le-ltb}
use lib.ListN.{length, take, get_or}
use Rattle.std.proofs.Common.{rules}
use Rattle.std.specs.Fmt.{decimal as written}
use Rattle.std.proofs.lemmas.Fmt.{AppendsLastDigit, decimal_from_appends, length-decimal-le}
use Rattle.meaning.specs.Text.{digits, decimal, spaced}

digits_by_last : AppendsLastDigit digits
unfolding digits
digits_by_last = search rules

pub decimal_written : (n : ℕ) → n < 2 ^ 32 → decimal n ≡ written n
decimal_written n h = decimal_from_appends digits digits_by_last 10 n (omega arith) (length-decimal-le 10 n (omega arith) (omega arith) (omega arith))

pub decimal_one : (n : ℕ) → n < 10 → decimal n ≡ (48 + n) ∷ []
unfolding digits
decimal_one n h = simp (lt-ltb n 10 h)

pub decimal_two : (n : ℕ) → 10 ≤ n → n < 100 → decimal n ≡ ((48 + n / 10) ∷ []) ++ ((48 + n % 10) ∷ [])
unfolding digits
decimal_two n low h = simp (le-ltb n 10 low, lt-ltb (n / 10) 10 (omega arith))

pub spaced_none : spaced [] ≡ []
unfolding spaced
spaced_none = refl

spaced-append : (a b : List ℕ) → spaced (a ++ b) ≡ spaced a ++ spaced b
unfolding spaced
spaced-append [] b = refl
spaced-append (n ∷ a) b = simp (spaced-append a b, append_assoc)

pub spaced_next : (ns : List ℕ) (i : ℕ) → i < length ns → spaced (take (i + 1) ns) ≡ spaced (take i ns) ++ (32 ∷ []) ++ decimal (get_or ns i 0)
unfolding spaced
spaced_next ns i h = simp (take_more ns i 0 h, spaced-append (take i ns) (get_or ns i 0 ∷ []), append-nil, append_assoc)
