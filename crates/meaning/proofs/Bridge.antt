-- The bridge: in a heap that holds objects, the collection by words is the collection by objects. Assumes nothing.
use mathlib.Core.Path.{◌≡◌, refl, sym, ap, ap₂, ◌∙◌, subst}
use mathlib.Core.Bool.{Bool, true, false, not, ◌&&◌, cond}
use mathlib.Core.Logic.{inl, inr, ⊎_elim}
use mathlib.Core.List.{List, [], ◌∷◌, map}
use Prim.Native.Nat.{ℕ, suc, ◌+◌, ◌*◌, ◌-◌, ◌%◌, ◌≤◌, ◌<◌}
use native.Mathlib.Nat.{add-suc, zero-add}
use native.Mathlib.Omega.{arith}
use lib.Dec.{ltb, eqb}
use lib.ListN.{length, get_or}
use lib.Seq.{get_or-take, length-take-le}
use borrow.Author.Tests.{eq-eqb, ne_eqb, lt-ltb, le-ltb, eqb-true}
use Rattle.meaning.specs.Values.{is_ref, place_of}
use Rattle.meaning.specs.Places.{places_from, below}
use Rattle.meaning.specs.Objects.{Object, rec, raw, payload, kind, size, words_of, encode, all, parse, held_by}
use Rattle.meaning.specs.Slide.{kept, new_place, slide, header_at, live_at, field_at}
use Rattle.meaning.specs.Words.{rest, starts, owner, live, field, fixed}
use Rattle.meaning.proofs.Deciding.{le_or_lt, clash}
use Rattle.meaning.proofs.Counting.{places_same, below_same}
use Rattle.meaning.proofs.ParseEncode.{total, length-encode, encode-parse, kind-two}
use Rattle.meaning.proofs.ByObjects.{Covers, IsPlace, FieldsOk, RefsOk, live_words, bridge_from, new_below_from, slide_same}
use Rattle.meaning.proofs.ByWords.{At, at_left, at_right, at_header, at_long, rest_next, covers-live, reads_fixed, field-test, Held, held, held_past}

-- a header's place is an object's
is_place : (p : ℕ) (os : List Object) (q : ℕ) → held_by (λ a o. eqb a q) p os q ≡ true → IsPlace p os q
is_place p [] q e = absurd (let z : ◌≡◌ {A = ℕ} 0 1 = cc in omega arith)
is_place p (o ∷ os) q e = go (ltb q (p + size o)) e (is_place (p + size o) os q)
  where
    go : (b : Bool) → cond b (eqb p q) (held_by (λ a o. eqb a q) (p + size o) os q) ≡ true
        → (held_by (λ a o. eqb a q) (p + size o) os q ≡ true → IsPlace (p + size o) os q) → IsPlace p (o ∷ os) q
    go true e ih = inl (eqb-true p q e)
    go false e ih = inr (ih e)

pub header_place : (os : List Object) (q : ℕ) → header_at os q ≡ true → IsPlace 0 os q
unfolding header_at
header_place os q e = is_place 0 os q e

-- a reference of a marked record, by words, is a reference of a kept record
refs_from : (heap : List ℕ) (m : ℕ → Bool) (place : ℕ → Type 0) (top p : ℕ) (os : List Object) → rest heap p ≡ 0 → At heap p (encode os) → p + total os ≤ top
    → ((q : ℕ) → q < top → live heap m q && field heap q ≡ true → is_ref (get_or heap q 0) ≡ true → place (place_of (get_or heap q 0)))
    → RefsOk m place p os
refs_from heap m place top p [] here a l w = tt
refs_from heap m place top p (o ∷ os) here a l w =
    let b = at_left heap p (words_of o) (encode os) a in (
      one o b here (omega arith),
      refs_from heap m place top (p + size o) os (rest_next heap p (length (payload o)) here (at_long heap p o b)) (at_right heap p (words_of o) (encode os) a) (omega arith) w,
    )
  where
    one : (o : Object) → At heap p (words_of o) → rest heap p ≡ 0 → p + size o ≤ top → m p ≡ true → FieldsOk m place o
    one (raw ws) b here l e = tt
    one (rec ws) b here l e = λ k h r.
        let x : get_or heap (suc (p + k)) 0 ≡ get_or ws k 0 = rw add-suc at (b (suc k) (omega arith)) in
        subst (λ (v : ℕ). place (place_of v)) x
        (w (suc (p + k)) (omega arith)
        (field-test heap m p (length ws) here (at_long heap p (rec ws) b) e k h ∙ ap (λ (v : ℕ). eqb (v % 4) 0) (at_header heap p (rec ws) b) ∙ eq-eqb ((4 * length ws + 0) % 4) 0 (omega arith))
        (rw x r))

module _ (heap : List ℕ) (top : ℕ) (os : List Object) (room : top ≤ length heap) (parsed : parse heap top ≡ all os) where
  pub top-total : top ≡ total os
  top-total = sym (length-take-le top heap room) ∙ ap length (encode-parse heap top os parsed).words ∙ length-encode os

  pub holds : At heap 0 (encode os)
  holds k h =
      rw (zero-add, ← (encode-parse heap top os parsed).words)
      (sym (get_or-take top heap k 0 (omega (arith, top-total, length-encode os))))

  -- ## The tests by objects and by words agree below the top; from the top on those by objects pass nowhere
  held_at : (q : ℕ) → q < top → Held heap 0 os q
  unfolding rest
  held_at q h = held heap 0 os q refl holds (omega arith) (omega (arith, top-total))

  pub starts_agree : (q : ℕ) → q < top → header_at os q ≡ starts heap q
  unfolding header_at
  starts_agree q h = let r = held_at q h in r.by _ ∙ sym r.begins

  module _ (m : ℕ → Bool) where
    pub live-agree : (q : ℕ) → q < top → live_at m os q ≡ live heap m q
    unfolding live_at live
    live-agree q h = (held_at q h).by _

    pub field-agree : (q : ℕ) → q < top → field_at m os q ≡ live heap m q && field heap q
    unfolding field_at live field
    field-agree q h =
        let r = held_at q h in
        r.by _
        ∙ ap₂ (λ (a b : Bool). m (owner heap q) && (a && b)) (later r ∙ ap not (sym r.begins))
        (ap (λ (w : ℕ). eqb w 0) (let k = kind-two r.object in let z : kind r.object ≡ get_or heap (owner heap q) 0 % 4 = omega (arith, r.header) in z))
      where
        later : Held heap 0 os q → ltb (owner heap q) q ≡ not (eqb (owner heap q) q)
        later r = ⊎_elim
            (λ (z : q ≤ owner heap q). le-ltb (owner heap q) q z ∙ ap not (sym (eq-eqb (owner heap q) q (omega (arith, r.before)))))
            (λ (z : owner heap q < q). lt-ltb (owner heap q) q z ∙ ap not (sym (ne_eqb (owner heap q) q (λ i. omega arith))))
            (le_or_lt q (owner heap q))

  past : (f : ℕ → Object → Bool) (q : ℕ) → held_by f 0 os q ≡ true → q < top
  past f q e = ⊎_elim (λ (h : top ≤ q). absurd (clash _ e (held_past f 0 os q (omega (arith, top-total))))) (λ h. h) (le_or_lt top q)

  pub header_low : (q : ℕ) → header_at os q ≡ true → q < top
  unfolding header_at
  header_low q e = past _ q e

  module _ (m : ℕ → Bool) where
    pub live-low : (q : ℕ) → live_at m os q ≡ true → q < top
    unfolding live_at
    live-low q e = past _ q e

    pub field-low : (q : ℕ) → field_at m os q ≡ true → q < top
    unfolding field_at
    field-low q e = past _ q e

    -- a marked header is live
    pub header-live : (q : ℕ) → header_at os q ≡ true → m q ≡ true → live_at m os q ≡ true
    unfolding header_at live_at
    header-live q h e = let r = held_at q (header_low q h) in r.by _ ∙ ap m (eqb-true (owner heap q) q (sym (r.by _) ∙ h)) ∙ e

    pub live-places : places_from (live_at m os) 0 top ≡ places_from (live heap m) 0 top
    live-places = places_same (live_at m os) (live heap m) 0 top (λ k h. rw zero-add (live-agree m k h))

    pub live_below : (q : ℕ) → q ≤ top → below (live_at m os) q ≡ below (live heap m) q
    live_below q h = below_same (live_at m os) (live heap m) q (λ k l. live-agree m k (omega arith))

    covers : Covers (live heap m) m 0 os
    unfolding rest
    covers = covers-live heap m 0 os refl holds

    -- ## L is the words of the kept objects, and the new place of an object is the number of live words below it
    pub live_all : below (live_at m os) top ≡ total (kept m 0 os)
    unfolding below
    live_all = ap length live-places ∙ ap (λ (n : ℕ). length (places_from (live heap m) 0 n)) top-total ∙ live_words (live heap m) m 0 os covers

    new-words : (q : ℕ) → header_at os q ≡ true → new_place m 0 os q ≡ below (live heap m) q
    unfolding below
    new-words q h =
        new_below_from (live heap m) m 0 os q covers (header_place os q h)
        ∙ ap (λ (n : ℕ). length (places_from (live heap m) 0 n)) (let z : q - 0 ≡ q = omega arith in z)

    pub new-below : (q : ℕ) → header_at os q ≡ true → new_place m 0 os q ≡ below (live_at m os) q
    new-below q h = new-words q h ∙ sym (live_below q (omega (arith, header_low q h)))

    -- ## The bridge
    -- each reference in a marked record is to an object's header
    abbrev pub RefsFound : Type 0
    RefsFound = (q : ℕ) → field_at m os q ≡ true → is_ref (get_or heap q 0) ≡ true → header_at os (place_of (get_or heap q 0)) ≡ true

    -- the fixed words of the live places, in order, are the words of the slid objects
    pub bridge : RefsFound → map (fixed heap m) (places_from (live heap m) 0 top) ≡ encode (slide m os)
    unfolding slide rest
    bridge found =
        ap (λ (n : ℕ). map (fixed heap m) (places_from (live heap m) 0 n)) top-total
        ∙ bridge_from (live heap m) m (below (live heap m)) (fixed heap m) 0 os covers (reads_fixed heap m 0 os refl holds)
        ∙ ap encode (sym (slide_same m (new_place m 0 os) (below (live heap m)) (λ q. header_at os q ≡ true) new-words 0 os
        (refs_from heap m (λ q. header_at os q ≡ true) top 0 os refl holds (omega (arith, top-total))
        (λ q h f r. found q (field-agree m q h ∙ f) r))))
