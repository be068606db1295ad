-- Lowest offending places, one check after the other, are the judgement of meaning. Assumes nothing.
use mathlib.Core.Path.{◌≡◌, refl, sym, ap, ap₂, ◌∙◌}
use mathlib.Core.Bool.{Bool, true, false, not, ◌&&◌}
use mathlib.Core.Logic.{⊎_elim}
use mathlib.Core.List.{List, [], ◌∷◌, append-nil}
use Prim.Native.Nat.{ℕ, ◌+◌, ◌-◌, ◌*◌, ◌≤◌, ◌<◌}
use native.Mathlib.Omega.{arith}
use lib.ListN.{length, get_or, replicate}
use Rattle.meaning.specs.Limits.{block_words, table_entries}
use Rattle.meaning.specs.Answers.{Answer, gives, refused, refuse}
use Rattle.meaning.specs.Values.{is_ref}
use Rattle.meaning.specs.Places.{places_from, marked}
use Rattle.meaning.specs.Objects.{Object, all, parse}
use Rattle.meaning.specs.Slide.{header_at, live_at, field_at}
use Rattle.meaning.specs.Collect.{sizes_fit, dangling, strays, bad_roots, bad_fields, judged, checked, check}
use Rattle.meaning.proofs.Deciding.{true_or_false, and_both}
use Rattle.meaning.proofs.Counting.{places_split, places_none, places_same, below_same, below_flat}
use Rattle.meaning.proofs.Bitmaps.{marked_zeros}
use Rattle.meaning.proofs.Bridge.{live-low, field-low}
use Rattle.meaning.proofs.ChecksPassed.{checked-sound}
use Rattle.meaning.proofs.MarkedObjects.{marked-objects}
use Rattle.walk.specs.Survey.{Noted, Walked, Blank}
use Rattle.std.specs.List.{position}
use Rattle.search.proofs.FirstPlace.{first_position}
use Rattle.search.specs.Search.{first_of, stray, HoldsRef, bad_field}
use Rattle.std.proofs.Common.{Ok, Err, Some, None, slice_get}
use Rattle.refusals.specs.declared.Refusal.{Refusal}
use Rattle.walk.specs.declared.Survey.{Survey}
use Rattle.objects.specs.declared.Counts.{Counts}
use Rattle.objects.specs.Examined.{Surveyed, Examined, counts_of, checked_counts, bits_counted}
use Rattle.objects.proofs.Sizes.{Sizes, sizes}
use Rattle.objects.proofs.Surveying.{noted_header, surveyed, field-within}

-- a search says the lowest offending place, where there is one
pub refused_at : {A : Type 0} (t : ℕ → Bool) (end n r : ℕ) (a : Answer A) → Some r ≡ first_of t end → refuse n (places_from t 0 end) a ≡ refused n r
refused_at t end n r a found = go (places_from t 0 end) found
  where
    go : (ps : List ℕ) → Some r ≡ slice_get ps 0 → refuse n ps a ≡ refused n r
    go [] q = absurd (cc q)
    go (p ∷ ps) q = let z : r ≡ p = cc q in rw z

pub not-refused : {A : Type 0} (t : ℕ → Bool) (end n : ℕ) (a : Answer A) → None ≡ first_of t end → refuse n (places_from t 0 end) a ≡ a
not-refused t end n a found = go (places_from t 0 end) found
  where
    go : (ps : List ℕ) → None ≡ slice_get ps 0 → refuse n ps a ≡ a
    go [] q = refl
    go (p ∷ ps) q = absurd (cc q)

and_assoc : (a b c : Bool) → (a && b) && c ≡ a && (b && c)
and_assoc true b c = refl
and_assoc false b c = refl

-- the walk went through, and noted the objects
pub record Begun (heap : List ℕ) (top : ℕ) (roots marks headers words fields : List ℕ) : Type 0 where
  pub fit : Sizes heap top roots marks
  pub objects : List Object
  pub parsed : parse heap top ≡ all objects
  pub noted : Noted heap (marked marks) top headers words fields

pub begun : (heap : List ℕ) (top : ℕ) (roots marks headers words fields : List ℕ) (end : ℕ) → sizes_fit heap top roots marks ≡ true
    → Walked heap top (marked marks) headers words fields end → top ≤ end → Begun heap top roots marks headers words fields
begun heap top roots marks headers words fields end e w h =
    let ((os, parsed), noted) = w.through (omega (arith, w.low)) in
    record { fit = sizes heap top roots marks e; objects = os; parsed = parsed; noted = noted }

module _ {heap : List ℕ} {top : ℕ} {roots marks headers words fields : List ℕ} (g : Begun heap top roots marks headers words fields) where
  -- every field is within the heap
  pub fields_within : (q : ℕ) → marked fields q ≡ true → q < length heap
  fields_within = field-within heap top g.objects g.fit.room g.parsed (marked marks) headers words fields g.noted

  -- and of those, the references
  pub refs_hold : (refs : List ℕ) → ((q : ℕ) → marked refs q ≡ marked fields q && is_ref (get_or heap q 0)) → (q : ℕ) → marked refs q ≡ true → HoldsRef heap q
  refs_hold refs left q e = let (f, r) = and_both (marked fields q) (is_ref (get_or heap q 0)) (sym (left q) ∙ e) in (fields_within q f, r)

-- what the searches 3 to 5 say then, one after the other
module _ {heap : List ℕ} {top : ℕ} {roots marks headers words fields : List ℕ} (g : Begun heap top roots marks headers words fields) where
  abbrev m : ℕ → Bool
  m = marked marks

  abbrev end : ℕ
  end = block_words * length marks

  abbrev os : List Object
  os = g.objects

  is_header : (q : ℕ) → marked headers q ≡ header_at os q
  is_header = noted_header heap top os g.fit.room g.parsed m headers words fields g.noted

  abbrev Says : Answer (List Object) → Type 0
  Says a = judged heap top roots marks (parse heap top) ≡ a

  strays_same : places_from (stray marks headers) 0 end ≡ strays os marks
  strays_same = places_same (stray marks headers) (λ q. m q && not (header_at os q)) 0 end (λ k h. rw (is_header (0 + k)))

  pub judged-3 : (place : ℕ) → Some place ≡ first_of (stray marks headers) end → Says (refused 3 place)
  judged-3 place found = rw (g.parsed, ← strays_same) (refused_at _ end 3 place _ found)

  module _ (none-3 : None ≡ first_of (stray marks headers) end) where
    past-3 : Says (refuse 4 (bad_roots roots marks) (refuse 5 (bad_fields os heap top marks) (gives os)))
    past-3 = rw (g.parsed, ← strays_same) (not-refused _ end 3 _ none-3)

    pub judged-4 : (slot : ℕ) → Some slot ≡ position (dangling m) roots → Says (refused 4 slot)
    judged-4 slot found = past-3 ∙ refused_at _ (length roots) 4 slot _ (found ∙ first_position (dangling m) roots)

    module _ (none-4 : None ≡ position (dangling m) roots) (refs : List ℕ) (left : (q : ℕ) → marked refs q ≡ marked fields q && is_ref (get_or heap q 0)) where
      survey : Surveyed heap m os headers words refs
      survey = surveyed heap top os g.fit.room g.parsed m headers words fields g.noted refs left

      abbrev bad : ℕ → Bool
      bad q = field_at m os q && dangling m (get_or heap q 0)

      -- no field is at the top or above
      above : (q : ℕ) → top ≤ q → bad q ≡ false
      above q l = ⊎_elim (λ e. absurd (omega (arith, field-low heap top os g.fit.room g.parsed m q e))) (λ e. rw e) (true_or_false (field_at m os q))

      fields-same : places_from (bad_field heap marks refs) 0 end ≡ bad_fields os heap top marks
      fields-same =
          places_same (bad_field heap marks refs) bad 0 end (λ k h. rw (survey.holds_ref (0 + k)) (and_assoc (field_at m os (0 + k)) (is_ref (get_or heap (0 + k) 0)) _))
          ∙ ap (places_from bad 0) (let e : end ≡ top + (end - top) = omega (arith, g.fit.covers) in e) ∙ places_split bad 0 top (end - top)
          ∙ rw (places_none bad (0 + top) (end - top) (λ k h. above (0 + top + k) (omega arith))) (append-nil (places_from bad 0 top))

      past-4 : Says (refuse 5 (bad_fields os heap top marks) (gives os))
      past-4 = past-3 ∙ not-refused _ (length roots) 4 _ (none-4 ∙ first_position (dangling m) roots)

      pub judged-5 : (place : ℕ) → Some place ≡ first_of (bad_field heap marks refs) end → Says (refused 5 place)
      judged-5 place found = past-4 ∙ rw (← fields-same) (refused_at _ end 5 place _ found)

      pub judged-sound : None ≡ first_of (bad_field heap marks refs) end → (os : List Object) × Says (gives os) × Surveyed heap m os headers words refs
      judged-sound none-5 = (os, past-4 ∙ rw (← fields-same) (not-refused _ end 5 _ none-5), survey)

-- ## The check's answer, once the checks 2 to 5 refused or passed
pub refusal-said : (heap : List ℕ) (top : ℕ) (roots marks : List ℕ) (survey : Survey) (e : Refusal) → sizes_fit heap top roots marks ≡ true
    → Examined heap top roots marks survey (Err e) → checked_counts (Err e) ≡ check heap top roots marks
unfolding check checked
refusal-said heap top roots marks survey e fit refusal = rw (fit, refusal)

pub sound-counted : (heap : List ℕ) (top : ℕ) (roots marks headers words refs : List ℕ) (os : List Object) (c : Counts) → sizes_fit heap top roots marks ≡ true
    → judged heap top roots marks (parse heap top) ≡ gives os → Surveyed heap (marked marks) os headers words refs → counts_of c ≡ bits_counted words marks
    → checked_counts (Ok c) ≡ check heap top roots marks
unfolding check checked
sound-counted heap top roots marks headers words refs os c fit is-sound survey counts =
    let s = sizes heap top roots marks fit in
    let sound = (checked-sound heap top roots marks os true is-sound).1 in
    let m = marked marks in
    rw (fit, is-sound, counts)
    (ap₂ (λ (l o : ℕ). gives (record { live = l; objects = o }))
    (below_same (marked words) (live_at m os) (block_words * table_entries) (λ q h. survey.is_live q)
    ∙ below_flat (live_at m os) top (block_words * table_entries) (omega (arith, s.covers, s.few))
    (λ r l h. ⊎_elim (λ y. absurd (omega (arith, live-low heap top os s.room sound.parsed m r y))) (λ y. y) (true_or_false (live_at m os r))))
    (marked-objects heap top marks os s.room sound.parsed sound.at_headers s.covers))

-- nothing is noted at first
pub blank-start : (heap : List ℕ) (top : ℕ) (roots marks : List ℕ) → sizes_fit heap top roots marks ≡ true
    → Blank heap top (replicate table_entries 0) (replicate table_entries 0) (replicate table_entries 0)
blank-start heap top roots marks e =
    let s = sizes heap top roots marks e in
    let none : (q : ℕ) → marked (replicate table_entries 0) q ≡ false = marked_zeros table_entries in
    record { room = s.room; small = s.small; no_header = none; no_word = none; no_field = none }
