-- What a heap that passes refusals 1 to 5 is: the checks pass exactly if every mark is at a header and every reference that counts is to a
-- marked place. Assumes nothing.
use mathlib.Core.Path.{◌≡◌, refl, ap}
use mathlib.Core.Bool.{Bool, true, false, not, ◌&&◌}
use mathlib.Core.Logic.{⊎_elim}
use mathlib.Core.List.{List, [], ◌∷◌}
use Prim.Native.Nat.{ℕ, ◌+◌, ◌*◌, ◌≤◌, ◌<◌}
use native.Mathlib.Omega.{arith}
use lib.ListN.{length, get_or}
use borrow.Author.Tests.{not-false}
use Rattle.meaning.specs.Limits.{block_words}
use Rattle.meaning.specs.Answers.{Answer, gives, refuse}
use Rattle.meaning.specs.Values.{is_ref, place_of}
use Rattle.meaning.specs.Places.{marked}
use Rattle.meaning.specs.Objects.{Object, Parsed, all, bad, parse}
use Rattle.meaning.specs.Slide.{header_at, field_at}
use Rattle.meaning.specs.Collect.{dangling, strays, bad_roots, bad_fields, judged, checked}
use Rattle.meaning.proofs.Deciding.{true_or_false, clash}
use Rattle.meaning.proofs.Counting.{places_none, none_passes}
use Rattle.meaning.proofs.Bitmaps.{marked_in}
use Rattle.meaning.proofs.Bridge.{RefsFound, field-low}

pub record Sound (heap : List ℕ) (top : ℕ) (roots marks : List ℕ) (os : List Object) : Type 0 where
  pub parsed : parse heap top ≡ all os
  pub at_headers : (q : ℕ) → marked marks q ≡ true → header_at os q ≡ true
  pub roots_marked : (i : ℕ) → i < length roots → is_ref (get_or roots i 0) ≡ true → marked marks (place_of (get_or roots i 0)) ≡ true
  pub fields_marked : (q : ℕ) → q < top → field_at (marked marks) os q ≡ true → is_ref (get_or heap q 0) ≡ true → marked marks (place_of (get_or heap q 0)) ≡ true

-- a and not b fails: where a holds b does
and_not : (a b : Bool) → a && not b ≡ false → a ≡ true → b ≡ true
and_not true b e q = not-false b e
and_not false b e q = absurd (clash false q refl)

not_and : (a b : Bool) → (a ≡ true → b ≡ true) → a && not b ≡ false
not_and true b h = ap not (h refl)
not_and false b h = refl

-- no refusal: there is no offending place
unrefused : {A : Type 0} (n : ℕ) (ps : List ℕ) (a : Answer A) (x : A) → refuse n ps a ≡ gives x → (ps ≡ []) × (a ≡ gives x)
unrefused n [] a x e = (refl, e)
unrefused n (p ∷ ps) a x e = absurd (let z : ◌≡◌ {A = ℕ} 0 1 = cc in omega arith)

module _ (heap : List ℕ) (top : ℕ) (roots marks : List ℕ) (os : List Object) where
  judged-sound : (r : Parsed) → parse heap top ≡ r → judged heap top roots marks r ≡ gives os → Sound heap top roots marks os
  judged-sound (bad p) q e = absurd (let z : ◌≡◌ {A = ℕ} 0 1 = cc in omega arith)
  judged-sound (all xs) q e =
      let a = unrefused 3 (strays xs marks) _ os e in
      let b = unrefused 4 (bad_roots roots marks) _ os a.1 in
      let c = unrefused 5 (bad_fields xs heap top marks) (gives xs) os b.1 in
      let same : xs ≡ os = cc in
      rw (← same)
      (record {
        parsed = q;
        at_headers = λ p h. and_not _ _ (none_passes _ _ a.0 p (marked_in marks p h)) h;
        roots_marked = λ i l h. and_not _ _ (none_passes _ _ b.0 i l) h;
        fields_marked = λ p l f h. and_not _ _ (rest f (none_passes _ _ c.0 p l)) h;
      })
    where
      rest : {a b : Bool} → a ≡ true → a && b ≡ false → b ≡ false
      rest {a} {b} f e = rw f at e

  pub checked-sound : (fit : Bool) → checked heap top roots marks fit ≡ gives os → (fit ≡ true) × Sound heap top roots marks os
  unfolding checked
  checked-sound true e = (refl, judged-sound (parse heap top) refl e)
  checked-sound false e = absurd (let z : ◌≡◌ {A = ℕ} 0 1 = cc in omega arith)

  pub sound-checked : Sound heap top roots marks os → checked heap top roots marks true ≡ gives os
  unfolding checked
  sound-checked s =
      rw (
        s.parsed,
        places_none (λ q. marked marks q && not (header_at os q)) 0 (block_words * length marks) (λ k h. not_and _ _ (s.at_headers (0 + k))),
        places_none (λ i. dangling (marked marks) (get_or roots i 0)) 0 (length roots) (λ k h. not_and _ _ (s.roots_marked (0 + k) (omega arith))),
        places_none (λ q. field_at (marked marks) os q && dangling (marked marks) (get_or heap q 0)) 0 top (λ k h. field-fine (0 + k) (omega arith)),
      )
    where
      field-fine : (q : ℕ) → q < top → field_at (marked marks) os q && dangling (marked marks) (get_or heap q 0) ≡ false
      field-fine q h = ⊎_elim (λ y. rw y (not_and _ _ (s.fields_marked q h y))) (λ n. rw n) (true_or_false (field_at (marked marks) os q))

  -- so each reference in a marked record is to an object's header
  pub sound_refs : (room : top ≤ length heap) (s : Sound heap top roots marks os) → RefsFound heap top os room s.parsed (marked marks)
  sound_refs room s q f r = s.at_headers _ (s.fields_marked q (field-low heap top os room s.parsed (marked marks) q f) f r)
