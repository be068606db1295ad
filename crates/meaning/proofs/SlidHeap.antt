-- The heap after a collection: it parses to exactly the kept objects, fixed; each stands at its new place, never above the old one and in the
-- old order; word j of it is the fixed word of live word j. Assumes nothing.
use mathlib.Core.Path.{◌≡◌, refl, sym, ap, ap₂, ◌∙◌, subst}
use mathlib.Core.Bool.{Bool, true, false, cond, and-true}
use mathlib.Core.Logic.{◌⊎◌, inl, inr}
use mathlib.Core.List.{List, [], ◌∷◌, ◌++◌, map}
use Prim.Native.Nat.{ℕ, ◌+◌, ◌≤◌, ◌<◌}
use native.Mathlib.Nat.{add-zero, zero-add, add_assoc}
use native.Mathlib.Omega.{arith}
use lib.ListN.{length, get_or}
use borrow.Author.Tests.{lt-ltb}
use Rattle.meaning.specs.Places.{cons_if, places_from, below, src}
use Rattle.meaning.specs.Objects.{Object, size, encode, all, parse}
use Rattle.meaning.specs.Slide.{kept, new_place, fix_object, slide, header_at, live_at}
use Rattle.meaning.specs.Words.{live, fixed}
use Rattle.meaning.proofs.Counting.{below-few, below-lt}
use Rattle.meaning.proofs.Bitmaps.{get_or-map}
use Rattle.meaning.proofs.ParseEncode.{total, length-encode, encode-parse, Legal, parse-encode}
use Rattle.meaning.proofs.ByObjects.{size_fix, new_zero}
use Rattle.meaning.proofs.Bridge.{RefsFound, bridge, live_all, new-below, header-live}

-- o stands at place q of the objects that begin at p
abbrev pub ObjectAt : ℕ → List Object → ℕ → Object → Type 0
ObjectAt p [] q o = ⊥
ObjectAt p (x ∷ os) q o = ((p ≡ q) × (x ≡ o)) ⊎ ObjectAt (p + size x) os q o

object_from : (p : ℕ) (os : List Object) (q : ℕ) (o : Object) → ObjectAt p os q o → p ≤ q
object_from p [] q o a = absurd a
object_from p (x ∷ os) q o (inl e) = omega (arith, e.0)
object_from p (x ∷ os) q o (inr a) = omega (arith, object_from (p + size x) os q o a)

module _ (m : ℕ → Bool) (f : ℕ → ℕ) where
  -- r: where the kept objects of os begin after the collection
  moved_from : (p r : ℕ) (os : List Object) (q : ℕ) (o : Object) → ObjectAt p os q o → m q ≡ true
      → ObjectAt r (map (fix_object f) (kept m p os)) (r + new_place m p os q) (fix_object f o)
  moved_from p r [] q o a e = absurd a
  moved_from p r (x ∷ os) q o (inl i) e =
      let there : m p ≡ true = ap m i.0 ∙ e in
      subst (λ (n : ℕ). ObjectAt r (map (fix_object f) (cons_if (m p) x (kept m (p + size x) os))) (r + n) (fix_object f o))
      (sym (new_zero m p (x ∷ os) q (omega (arith, i.0)))) (rw there (inl (sym (add-zero r), ap (fix_object f) i.1)))
  moved_from p r (x ∷ os) q o (inr a) e =
      rw (lt-ltb p q (omega (arith, object_from (p + size x) os q o a)), and-true (m p))
      (go (m p) (λ s. moved_from (p + size x) s os q o a e))
    where
      K : List Object
      K = map (fix_object f) (kept m (p + size x) os)

      N : ℕ
      N = new_place m (p + size x) os q

      go : (b : Bool) → ((s : ℕ) → ObjectAt s K (s + N) (fix_object f o)) → ObjectAt r (map (fix_object f) (cons_if b x (kept m (p + size x) os))) (r + (cond b (size x) 0 + N)) (fix_object f o)
      go true ih = inr (rw (size_fix f x, ← add_assoc r (size x) N) (ih (r + size x)))
      go false ih = rw zero-add (ih r)

-- a kept object stands at its new place, fixed
pub moved : (m : ℕ → Bool) (os : List Object) (q : ℕ) (o : Object) → ObjectAt 0 os q o → m q ≡ true
    → ObjectAt 0 (slide m os) (new_place m 0 os q) (fix_object (new_place m 0 os) o)
unfolding slide
moved m os q o a e = rw zero-add at (moved_from m (new_place m 0 os) 0 0 os q o a e)

legal_kept : (m : ℕ → Bool) (p : ℕ) (os : List Object) → Legal os → Legal (kept m p os)
legal_kept m p [] l = tt
legal_kept m p (o ∷ os) l = go (m p) (legal_kept m (p + size o) os l.1)
  where
    go : (b : Bool) → Legal (kept m (p + size o) os) → Legal (cons_if b o (kept m (p + size o) os))
    go true r = (l.0, r)
    go false r = r

legal_fix : (f : ℕ → ℕ) (os : List Object) → Legal os → Legal (map (fix_object f) os)
legal_fix f [] l = tt
legal_fix f (o ∷ os) l = (omega (arith, size_fix f o, l.0), legal_fix f os l.1)

total_fix : (f : ℕ → ℕ) (os : List Object) → total (map (fix_object f) os) ≡ total os
total_fix f [] = refl
total_fix f (o ∷ os) = ap₂ ◌+◌ (size_fix f o) (total_fix f os)

module _ (heap : List ℕ) (top : ℕ) (os : List Object) (room : top ≤ length heap) (parsed : parse heap top ≡ all os) (m : ℕ → Bool) where
  -- L is the words of the slid objects
  pub slid-length : length (encode (slide m os)) ≡ below (live_at m os) top
  unfolding slide
  slid-length = length-encode (slide m os) ∙ total_fix (new_place m 0 os) (kept m 0 os) ∙ sym (live_all heap top os room parsed m)

  -- the slid heap holds the kept objects, fixed, whatever stands above it
  pub slid_parses : (above : List ℕ) → parse (encode (slide m os) ++ above) (below (live_at m os) top) ≡ all (slide m os)
  unfolding slide
  slid_parses above = rw (← slid-length) inner
    where
      inner : parse (encode (slide m os) ++ above) (length (encode (slide m os))) ≡ all (slide m os)
      inner = parse-encode (slide m os) above (legal_fix (new_place m 0 os) (kept m 0 os) (legal_kept m 0 os (encode-parse heap top os parsed).legal))

  -- word j of it
  pub slid_word : RefsFound heap top os room parsed m → (j : ℕ) → j < below (live heap m) top
      → get_or (encode (slide m os)) j 0 ≡ fixed heap m (src (live heap m) top j)
  unfolding below src
  slid_word found j h = rw (← bridge heap top os room parsed m found) (get_or-map (fixed heap m) (places_from (live heap m) 0 top) j h)

  -- theorem 1 of 001
  pub new_not-above : (q : ℕ) → header_at os q ≡ true → new_place m 0 os q ≤ q
  new_not-above q h = omega (arith, new-below heap top os room parsed m q h, below-few (live_at m os) q)

  pub order_kept : (p q : ℕ) → header_at os p ≡ true → header_at os q ≡ true → m p ≡ true → p < q → new_place m 0 os p < new_place m 0 os q
  order_kept p q hp hq e l =
      omega (arith, new-below heap top os room parsed m p hp, new-below heap top os room parsed m q hq, below-lt (live_at m os) p q l (header-live heap top os room parsed m p hp e))
