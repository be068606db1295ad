-- Where every mark is at a header, the number of kept objects is the number of marks. Assumes nothing.
use mathlib.Core.Path.{◌≡◌, refl, sym, ap, ap₂, ◌∙◌}
use mathlib.Core.Bool.{Bool, true, false, ◌&&◌, and-true, and-false}
use mathlib.Core.Logic.{⊎_elim}
use mathlib.Core.List.{List, [], ◌∷◌}
use Prim.Native.Nat.{ℕ, suc, ◌+◌, ◌*◌, ◌≤◌, ◌<◌}
use native.Mathlib.Nat.{suc-add}
use native.Mathlib.Omega.{arith}
use lib.Dec.{eqb}
use lib.ListN.{length, length-append}
use borrow.Author.Tests.{lt-ltb, le-ltb, eq-eqb, ne_eqb}
use Rattle.meaning.specs.Limits.{block_words}
use Rattle.meaning.specs.Places.{cons_if, places_from, below, marked}
use Rattle.meaning.specs.Objects.{Object, payload, size, all, parse, held_by}
use Rattle.meaning.specs.Slide.{kept, header_at}
use Rattle.meaning.proofs.Deciding.{true_or_false}
use Rattle.meaning.proofs.Counting.{places_split, places_same, places_none, below_same, below_flat}
use Rattle.meaning.proofs.ParseEncode.{total}
use Rattle.meaning.proofs.Bridge.{top-total, header_low}

module _ (m : ℕ → Bool) where
  -- q is a marked header of objects that begin at p
  marked_header : ℕ → List Object → ℕ → Bool
  marked_header p os q = m q && held_by (λ a o. eqb a q) p os q

  first : (p : ℕ) (o : Object) (os : List Object) → length (places_from (marked_header p (o ∷ os)) p (size o)) ≡ length (cons_if (m p) o [])
  unfolding marked_header
  first p o os =
      rw (
        places_none (marked_header p (o ∷ os)) (suc p) (length (payload o))
            (λ k h. rw (suc-add, lt-ltb (suc (p + k)) (p + size o) (omega arith), ne_eqb p (suc (p + k)) (λ e. omega arith)) (and-false (m (suc (p + k))))),
        lt-ltb p (p + size o) (omega arith),
        eq-eqb p p refl,
        and-true (m p),
      )
      (go (m p))
    where
      go : (b : Bool) → length (cons_if b p []) ≡ length (cons_if b o [])
      go true = refl
      go false = refl

  kept_from : (p : ℕ) (os : List Object) → length (places_from (marked_header p os) p (total os)) ≡ length (kept m p os)
  unfolding marked_header
  kept_from p [] = refl
  kept_from p (o ∷ os) =
      ap length (places_split (marked_header p (o ∷ os)) p (size o) (total os)) ∙ length-append (places_from (marked_header p (o ∷ os)) p (size o)) _
      ∙ ap₂ ◌+◌ (first p o os) (ap length (places_same (marked_header p (o ∷ os)) (marked_header (p + size o) os) (p + size o) (total os) later) ∙ kept_from (p + size o) os)
      ∙ go (m p)
    where
      later : (k : ℕ) → k < total os → marked_header p (o ∷ os) (p + size o + k) ≡ marked_header (p + size o) os (p + size o + k)
      later k h = rw (le-ltb (p + size o + k) (p + size o) (omega arith))

      go : (b : Bool) → length (cons_if b o []) + length (kept m (p + size o) os) ≡ length (cons_if b o (kept m (p + size o) os))
      go true = omega arith
      go false = omega arith

module _ (heap : List ℕ) (top : ℕ) (marks : List ℕ) (os : List Object) (room : top ≤ length heap) (parsed : parse heap top ≡ all os)
    (at_headers : (q : ℕ) → marked marks q ≡ true → header_at os q ≡ true) (covers : top ≤ block_words * length marks) where
  pub marked-objects : below (marked marks) (block_words * length marks) ≡ length (kept (marked marks) 0 os)
  unfolding below header_at marked_header
  marked-objects =
      below_flat (marked marks) top (block_words * length marks) covers (λ r l h. none r l)
      ∙ below_same (marked marks) (marked_header (marked marks) 0 os) top (λ q h. same q)
      ∙ ap (λ (n : ℕ). length (places_from (marked_header (marked marks) 0 os) 0 n)) (top-total heap top os room parsed)
      ∙ kept_from (marked marks) 0 os
    where
      none : (r : ℕ) → top ≤ r → marked marks r ≡ false
      none r l = ⊎_elim (λ e. absurd (omega (arith, header_low heap top os room parsed r (at_headers r e)))) (λ e. e) (true_or_false (marked marks r))

      same : (q : ℕ) → marked marks q ≡ marked_header (marked marks) 0 os q
      same q = ⊎_elim (λ e. rw (at_headers q e) (sym (and-true (marked marks q)))) (λ e. rw e) (true_or_false (marked marks q))
