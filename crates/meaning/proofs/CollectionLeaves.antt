-- What a collection that succeeds leaves: the heap parses to the slid objects; each live word stands, fixed, at its new place, and the returned
-- tables know both places; references follow their objects, and every other live word and root is untouched. Assumes nothing.
use mathlib.Core.Path.{◌≡◌, refl, sym, ap, ap₂, ◌∙◌}
use mathlib.Core.Bool.{Bool, true, false, ◌&&◌, cond}
use mathlib.Core.Logic.{◌⊎◌, inl, inr}
use mathlib.Core.List.{List, [], ◌∷◌, ◌++◌}
use Prim.Native.Nat.{ℕ, ◌+◌, ◌*◌, ◌-◌, ◌≤◌, ◌<◌}
use native.Mathlib.Omega.{arith}
use lib.ListN.{length, get_or, drop, replicate, get_or-append}
use Rattle.meaning.specs.Limits.{block_words, table_entries}
use Rattle.meaning.specs.Answers.{gives}
use Rattle.meaning.specs.Values.{is_ref, place_of, ref_to}
use Rattle.meaning.specs.Places.{below, marked, bitmap}
use Rattle.meaning.specs.Objects.{Object, size, encode, all, parse}
use Rattle.meaning.specs.Slide.{new_place, fix_word, fix_object, slide, live_at, field_at}
use Rattle.meaning.specs.Words.{live, field, fixed}
use Rattle.meaning.specs.Collect.{Totals, After, offset_table, collect}
use Rattle.meaning.specs.Lookups.{at, old_to_new, new_to_old}
use Rattle.meaning.proofs.Deciding.{and_both, clash}
use Rattle.meaning.proofs.Counting.{below-lt, src_at}
use Rattle.meaning.proofs.Bitmaps.{marked-bitmap, get_or-map}
use Rattle.meaning.proofs.ByObjects.{IsPlace}
use Rattle.meaning.proofs.Bridge.{header_place, live-agree, field-agree, header_low, live-low, field-low, live_below, new-below}
use Rattle.meaning.proofs.SlidHeap.{ObjectAt, moved, slid-length, slid_parses, slid_word}
use Rattle.meaning.proofs.ChecksPassed.{sound_refs}
use Rattle.meaning.proofs.LookupsInverse.{Exact, tables-exact, below-marked, new_at, new_old}
use Rattle.meaning.proofs.CollectionSays.{Success, success}

-- the reference w becomes the word v: the reference to the new place of the object at w's place, where that object stands, fixed
pub record Follows (m : ℕ → Bool) (os : List Object) (w v : ℕ) : Type 0 where
  pub object : Object
  pub stood : ObjectAt 0 os (place_of w) object
  pub refers : v ≡ ref_to (new_place m 0 os (place_of w))
  pub stands : ObjectAt 0 (slide m os) (new_place m 0 os (place_of w)) (fix_object (new_place m 0 os) object)

-- at an object's place an object stands
object_there : (p : ℕ) (os : List Object) (q : ℕ) → IsPlace p os q → (o : Object) × ObjectAt p os q o
object_there p [] q i = absurd i
object_there p (o ∷ os) q (inl e) = (o, inl (e, refl))
object_there p (o ∷ os) q (inr i) = let (x, a) = object_there (p + size o) os q i in (x, inr a)

module _ (heap : List ℕ) (top : ℕ) (roots marks order Live-table offsets : List ℕ) (t : Totals)
    (done : (collect heap top roots marks order Live-table offsets).answer ≡ gives t) (os : List Object) (parsed : parse heap top ≡ all os) where
  abbrev after : After
  after = collect heap top roots marks order Live-table offsets

  abbrev m : ℕ → Bool
  m = marked marks

  parts : Success heap top roots marks Live-table offsets order t os
  parts = success heap top roots marks Live-table offsets order t done os parsed

  room : top ≤ length heap
  room = parts.fits.room

  heap_is : after.heap ≡ encode (slide m os) ++ (replicate (top - below (live_at m os) top) 0 ++ drop top heap)
  heap_is = ap (λ (a : After). a.heap) parts.leaves

  -- the heap holds the kept objects, fixed
  pub collect_parses : parse after.heap t.top ≡ all (slide m os)
  collect_parses =
      ap₂ parse heap_is (ap (λ (x : Totals). x.top) parts.totals-are) ∙ slid_parses heap top os room parsed m (replicate (top - below (live_at m os) top) 0 ++ drop top heap)

  few : length Live-table ≤ table_entries
  few = omega (arith, parts.fits.small, parts.fits.live_long)

  live_is : after.live ≡ bitmap (live_at m os) (length Live-table)
  live_is = ap (λ (a : After). a.live) parts.leaves

  offsets_are : after.offsets ≡ offset_table (live_at m os) (length Live-table)
  offsets_are = ap (λ (a : After). a.offsets) parts.leaves ∙ ap (offset_table (live_at m os)) (parts.fits.offsets_long ∙ sym parts.fits.live_long)

  -- the returned tables are exact
  pub returned_exact : Exact after.live after.offsets
  returned_exact = rw (live_is, offsets_are) (tables-exact (live_at m os) (length Live-table) few)

  -- ## A live place
  module _ (p : ℕ) (lives : live_at m os p ≡ true) where
    low : p < top
    low = live-low heap top os room parsed m p lives

    -- its word stands, fixed, at the new place: as many words up as are live below it
    pub live-word-moved : get_or after.heap (below (live_at m os) p) 0 ≡ fixed heap m p
    live-word-moved =
        let j : ℕ = below (live_at m os) p in
        let same : j ≡ below (live heap m) p = live_below heap top os room parsed m p (omega (arith, low)) in
        let by-words : live heap m p ≡ true = sym (live-agree heap top os room parsed m p low) ∙ lives in
        ap (λ (h : List ℕ). get_or h j 0) heap_is
        ∙ get_or-append (encode (slide m os)) _ 0 j (omega (arith, slid-length heap top os room parsed m, below-lt (live_at m os) p top low lives))
        ∙ ap (λ (k : ℕ). get_or (encode (slide m os)) k 0) same
        ∙ slid_word heap top os room parsed m (sound_refs heap top roots marks os room parts.sound) (below (live heap m) p) (below-lt (live heap m) p top low by-words)
        ∙ ap (fixed heap m) (src_at (live heap m) top p low by-words)

    in_table : p < block_words * length Live-table
    in_table = omega (arith, low, room, parts.fits.live_long)

    -- the lookups over the returned tables tell the new place and the old
    pub new-place-told : old_to_new after.live after.offsets p ≡ gives (at (below (live_at m os) p))
    new-place-told =
        new_at after.live after.offsets returned_exact p (rw live_is (marked-bitmap (live_at m os) (length Live-table) p in_table ∙ lives))
        ∙ ap (λ (n : ℕ). gives (at n)) (rw live_is (below-marked (live_at m os) (length Live-table) few p (omega (arith, in_table))))

    pub old-place-told : new_to_old after.live after.offsets (below (live_at m os) p) ≡ gives (at p)
    old-place-told = new_old after.live after.offsets returned_exact p (below (live_at m os) p) new-place-told

  -- ## References
  -- one to a marked place follows its object
  follows : (w v : ℕ) → m (place_of w) ≡ true → v ≡ ref_to (new_place m 0 os (place_of w)) → Follows m os w v
  follows w v e r =
      let (o, a) = object_there 0 os (place_of w) (header_place os (place_of w) (parts.sound.at_headers (place_of w) e)) in
      record { object = o; stood = a; refers = r; stands = moved m os (place_of w) o a e }

  -- a live word that is no reference, or no payload word of a record, stays as it is
  pub untouched : (p : ℕ) → live_at m os p ≡ true → (is_ref (get_or heap p 0) ≡ false) ⊎ (field_at m os p ≡ false)
      → get_or after.heap (below (live_at m os) p) 0 ≡ get_or heap p 0
  unfolding fixed
  untouched p lives why =
      live-word-moved p lives
      ∙ go (live heap m p && field heap p) (field-agree heap top os room parsed m p (live-low heap top os room parsed m p lives)) why
    where
      go : (b : Bool) → field_at m os p ≡ b → (is_ref (get_or heap p 0) ≡ false) ⊎ (field_at m os p ≡ false)
          → cond b (fix_word (below (live heap m)) (get_or heap p 0)) (get_or heap p 0) ≡ get_or heap p 0
      go true q (inl e) = rw e
      go true q (inr e) = absurd (clash (field_at m os p) q e)
      go false q why = refl

  -- a payload word of a marked record that is a reference follows its object
  pub references_follow : (p : ℕ) → field_at m os p ≡ true → is_ref (get_or heap p 0) ≡ true
      → Follows m os (get_or heap p 0) (get_or after.heap (below (live_at m os) p) 0)
  unfolding fixed
  references_follow p f r =
      let low : p < top = field-low heap top os room parsed m p f in
      let w = get_or heap p 0 in
      let is_field : live heap m p && field heap p ≡ true = sym (field-agree heap top os room parsed m p low) ∙ f in
      let lives = live-agree heap top os room parsed m p low ∙ (and_both (live heap m p) (field heap p) is_field).0 in
      let there = parts.sound.fields_marked p low f r in
      let header = parts.sound.at_headers (place_of w) there in
      follows w _ there
      (live-word-moved p lives
      ∙ rw (is_field, r) (ap ref_to (sym (new-below heap top os room parsed m (place_of w) header
      ∙ live_below heap top os room parsed m (place_of w) (omega (arith, header_low heap top os room parsed (place_of w) header))))))

  -- ## Roots
  module _ (i : ℕ) (h : i < length roots) where
    root-fixed : get_or after.roots i 0 ≡ fix_word (new_place m 0 os) (get_or roots i 0)
    root-fixed = ap (λ (a : After). get_or a.roots i 0) parts.leaves ∙ get_or-map (fix_word (new_place m 0 os)) roots i h

    pub roots-follow : is_ref (get_or roots i 0) ≡ true → Follows m os (get_or roots i 0) (get_or after.roots i 0)
    roots-follow r = follows (get_or roots i 0) _ (parts.sound.roots_marked i h r) (root-fixed ∙ rw r)

    pub roots-untouched : is_ref (get_or roots i 0) ≡ false → get_or after.roots i 0 ≡ get_or roots i 0
    roots-untouched r = root-fixed ∙ rw r
