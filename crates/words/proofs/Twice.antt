-- An integer's word is twice the integer in two's complement, and half of such a word is the integer. Assumes nothing.
use Rattle.std.proofs.Common.{◌≡◌, ℕ, suc, ◌*◌, ◌%◌, ◌<◌, ◌≤◌, ◌⊎◌, true, ℤ, pos, negsuc, ◌*ℤ◌, refl, ◌∙◌, inl, inr, arith, w32, FitsSigned, to_z, of_z, le-ltb, lt-ltb}
use Rattle.std.specs.Int.Signed.{shr_z, mag_shr}
use Rattle.std.proofs.Math.Facts.{sfits_to_z}
use Rattle.std.proofs.lemmas.Int.{ints, to_z-of_z}
use Rattle.meaning.specs.Values.{int, int_of, word_of, has_word}
use Rattle.meaning.proofs.Deciding.{le_or_lt}

pub twice_word : (v : ℤ) → has_word (int v) ≡ true → of_z w32 (pos 2 *ℤ v) ≡ word_of (int v)
unfolding word_of
twice_word (pos n) h = refl
twice_word (negsuc n) h = let q : 2 * suc n ≡ suc (suc (2 * n)) = omega arith in rw q (omega arith)

half_is : (w : ℕ) → w < 4294967296 → w % 2 ≡ 0 → shr_z (to_z w32 w) 2 ≡ int_of w
half_is w f e = go (le_or_lt 2147483648 w)
  where
    go : (2147483648 ≤ w) ⊎ (w < 2147483648) → shr_z (to_z w32 w) 2 ≡ int_of w
    go (inl up) = rw (le-ltb w 2147483648 up) (omega (arith, ints))
    go (inr down) = simp (lt-ltb w 2147483648 down)

half_fits : (w : ℕ) → w < 4294967296 → FitsSigned w32 (shr_z (to_z w32 w) 2)
half_fits w f = record { sfits = let g = sfits_to_z {w = w32} (record { fits = f }) in omega (arith, mag_shr (to_z w32 w) 2) }

-- z is the word's bits as a signed number
pub half_read : (w : ℕ) (z : ℤ) → w < 4294967296 → w % 2 ≡ 0 → z ≡ to_z w32 w → to_z w32 (of_z w32 (shr_z (to_z w32 (of_z w32 z)) 2)) ≡ int_of w
half_read w z f e q = let g = sfits_to_z {w = w32} (record { fits = f }) in rw (q, to_z-of_z w32 (to_z w32 w) g) (to_z-of_z w32 _ (half_fits w f) ∙ half_is w f e)
