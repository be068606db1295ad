-- Of the set bits of a word those that pass a test: gathered by `found |= bit << z`, or searched for the lowest. Assumes nothing.
use mathlib.Core.Path.{◌≡◌, refl, sym, ap, ◌∙◌}
use mathlib.Core.Logic.{⊎_elim}
use mathlib.Core.Bool.{Bool, true, false, ◌&&◌, ◌||◌, cond, and-false}
use mathlib.Core.List.{List, [], ◌∷◌, ◌++◌}
use Prim.Native.Nat.{ℕ, ◌*◌, ◌%◌, ◌^◌, ◌<◌}
use Rattle.std.proofs.Common.{Some, None}
use lib.Bits.{bit_or}
use lib.Dec.{eqb}
use borrow.Author.Tests.{eq-eqb, ne_eqb, eqb-true}
use Rattle.meaning.specs.Places.{bit_set, is_in}
use Rattle.meaning.proofs.Deciding.{eq_or_ne, true_or_false, both_and, or_one}
use Rattle.bits.proofs.Words.{bit_or_lem, bit_alone}
use Rattle.bits.proofs.SetPlaces.{Turn, in_more}
use Rattle.search.specs.Search.{first_of}
use Rattle.search.proofs.FirstPlace.{first_found, first_none}

-- ## All that pass
-- found has those of the bits ys that pass, and bit says whether z does; k is the number of bits of a word
pub gathered : (k : ℕ) (t : ℕ → Bool) (found bit z : ℕ) (ys : List ℕ) → z < k → bit ≡ cond (t z) 1 0 → ((i : ℕ) → bit_set found i ≡ is_in i ys && t i)
    → (i : ℕ) → bit_set (bit_or found (bit * 2 ^ z % 2 ^ k)) i ≡ is_in i (ys ++ z ∷ []) && t i
gathered k t found bit z ys h b done i =
    bit_or_lem found (bit * 2 ^ z % 2 ^ k) i
    ∙ rw (done i, b, bit_alone k z i (t z) h, in_more)
    (⊎_elim (λ (e : i ≡ z). rw (eq-eqb i z e, e) (here (is_in z ys) (t z))) (λ ne. rw (ne_eqb i z ne) (there (is_in i ys) (t i))) (eq_or_ne i z))
  where
    here : (a b : Bool) → a && b || b ≡ (a || true) && b
    here true true = refl
    here true false = refl
    here false b = refl

    there : (a b : Bool) → a && b || false ≡ (a || false) && b
    there true true = refl
    there true false = refl
    there false b = refl

-- ## The lowest that passes
-- none of the bits ys passes
abbrev pub NoneOf : (ℕ → Bool) → List ℕ → Type 0
NoneOf t ys = (i : ℕ) → is_in i ys ≡ true → t i ≡ false

pub none_next : (t : ℕ → Bool) (ys : List ℕ) (z : ℕ) → NoneOf t ys → t z ≡ false → NoneOf t (ys ++ z ∷ [])
none_next t ys z none e i h =
    ⊎_elim (λ old. none i old) (λ here. ap t (eqb-true i z here) ∙ e) (or_one (is_in i ys) (eqb i z) (sym (in_more i z ys) ∙ h))

-- k is the number of bits of the word
module _ (k word : ℕ) (t : ℕ → Bool) where
  abbrev passes : ℕ → Bool
  passes i = bit_set word i && t i

  fails : (i : ℕ) → (bit_set word i ≡ true → t i ≡ false) → passes i ≡ false
  fails i h = ⊎_elim (λ s. ap (λ (b : Bool). bit_set word i && b) (h s) ∙ and-false (bit_set word i)) (λ s. rw s) (true_or_false (bit_set word i))

  pub found_here : (ys : List ℕ) (z : ℕ) → Turn (bit_set word) k ys z → NoneOf t ys → t z ≡ true → Some z ≡ first_of passes k
  found_here ys z n none e =
      first_found passes k z n.within (both_and (bit_set word z) (t z) n.passes e) (λ i h. fails i (λ s. none i (n.before i h s)))

  pub found_none : (ys : List ℕ) → ((i : ℕ) → is_in i ys ≡ bit_set word i) → NoneOf t ys → None ≡ first_of passes k
  found_none ys all none = first_none passes k (λ i h. fails i (λ s. none i (all i ∙ s)))
