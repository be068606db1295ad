-- What a call does to the words and to the list leaves them standing for the same store. Assumes nothing.
use mathlib.Core.Path.{◌≡◌, refl, sym, ap, ap₂, ◌∙◌, fun_ext}
use mathlib.Core.List.{List, [], ◌∷◌, ◌++◌, map, append_assoc}
use Prim.Native.Nat.{ℕ, zero, suc, ◌+◌, ◌≤◌, ◌<◌}
use native.Mathlib.Omega.{arith}
use lib.ListN.{length, get_or, set, take, drop, length-append, length-set, length-take, length-drop, get_or-append}
use lib.Seq.{take-set-lt, take_at, get_or-append_seam}
use Rattle.meaning.specs.Limits.{payload_words}
use Rattle.meaning.specs.Values.{Value, int, nil, ref, ref_to}
use Rattle.meaning.specs.Objects.{Object, words_of}
use Rattle.meaning.specs.Calls.{done, tick}
use Rattle.meaning.specs.Store.{Mem, with_slot, with_word, with_new, only_says}
use Rattle.meaning.specs.SimpleList.{Born, gone, Simple, words, in_use, place, the, field_of, no_value, says_list, slot_list, born_list, changed_list}
use Rattle.meaning.proofs.Births.{value_word, born_words, list_words, Good, length-born_words, words-written, words_snoc, words_agree, map_agree, map-set, set_all, snoc_all, place_set, in_use-set, place_snoc, place_new, in_use_snoc, place-below, live_below}
use Rattle.meaning.proofs.SameStore.{Same}

pub only_said : {c : Mem} {a : Simple} → Same c a → Same (only_says c done).state (says_list a done a.objects a.slots).state
only_said r =
    record { room = r.room; fits = r.fits; at_top = r.at_top; calls = ap tick r.calls; below = r.below; slots = r.slots; counts = r.counts; fields = r.fields; held = r.held }

pub slot_kept : {c : Mem} {a : Simple} → Same c a → (s w : ℕ) (v : Value) → w ≡ value_word (place a.objects) v → Good a.objects v
    → Same (with_slot c s w).state (slot_list a s v).state
slot_kept {c} {a} r s w v e g =
    record {
      room = r.room;
      fits = r.fits;
      at_top = r.at_top;
      calls = ap tick r.calls;
      below = r.below;
      slots = rw (r.slots, e) (sym (map-set (value_word (place a.objects)) a.slots s v));
      counts = r.counts;
      fields = r.fields;
      held = set_all (Good a.objects) a.slots no_value v s g r.held;
    }

set_words : (os : List Born) (i j : ℕ) (o' : Born) → words o' ≡ words (the os i) → words (the (set os i o') j) ≡ words (the os j)
set_words [] i j o' e = refl
set_words (o ∷ os) zero zero o' e = e
set_words (o ∷ os) zero (suc j) o' e = refl
set_words (o ∷ os) (suc i) zero o' e = refl
set_words (o ∷ os) (suc i) (suc j) o' e = set_words os i j o' e

good_set : (os : List Born) (i : ℕ) (o' : Born) → words o' ≡ words (the os i) → (v : Value) → Good os v → Good (set os i o') v
good_set os i o' e (int z) h = h
good_set os i o' e nil h = h
good_set os i o' e (ref j) h = rw (set_words os i j o' e) h

-- word k of object i is written
pub word_kept : {c : Mem} {a : Simple} → Same c a → (i k q w : ℕ) (o' : Born) → q ≡ place a.objects i + k → k < words (the a.objects i)
    → words o' ≡ words (the a.objects i) → set (born_words (place a.objects) (the a.objects i)) k w ≡ born_words (place a.objects) o'
    → ((j : ℕ) → Good a.objects (field_of o' j)) → Same (with_word c q w).state (changed_list a i o').state
word_kept {c} {a} r i k q w o' eq h ew es g =
    let os : List Born = a.objects in
    let moved : place (set os i o') ≡ place os = fun_ext (λ j. place_set os i j o' ew) in
    let b = place-below os i k h in
    let t = r.at_top in
    record {
      room = length-set c.heap q w ∙ r.room;
      fits = rw (in_use-set os i o' ew) r.fits;
      at_top = r.at_top ∙ sym (in_use-set os i o' ew);
      calls = ap tick r.calls;
      below =
          take-set-lt c.store.top c.heap q w (omega arith)
          ∙ (ap₂ (λ (l : List ℕ) (n : ℕ). set l n w) r.below eq ∙ (words-written (place os) os i k w o' h es ∙ ap (λ (f : ℕ → ℕ). list_words f (set os i o')) (sym moved)));
      slots = r.slots ∙ ap (λ (f : ℕ → ℕ). map (value_word f) a.slots) (sym moved);
      counts = λ j. rw (set_words os i j o' ew) (r.counts j);
      fields =
          set_all (λ (o : Born). (m : ℕ) → Good (set os i o') (field_of o m)) os (gone 0) o' i (λ m. good_set os i o' ew (field_of o' m) (g m))
          (λ j m. good_set os i o' ew (field_of (the os j) m) (r.fields j m));
      held = λ s. good_set os i o' ew (get_or a.slots s no_value) (r.held s);
    }

abbrev put : List ℕ → ℕ → List ℕ → List ℕ
put h at ws = take at h ++ (ws ++ drop (at + length ws) h)

length-put : (h : List ℕ) (at : ℕ) (ws : List ℕ) → at + length ws ≤ length h → length (put h at ws) ≡ length h
length-put h at ws e = simp (length-append, length-take, length-drop) (omega arith)

take_put : (h : List ℕ) (at : ℕ) (ws : List ℕ) → at ≤ length h → take (at + length ws) (put h at ws) ≡ take at h ++ ws
take_put h at ws e =
    ap (take (at + length ws)) (sym (append_assoc (take at h) ws (drop (at + length ws) h)))
    ∙ take_at (take at h ++ ws) (drop (at + length ws) h) (at + length ws) (simp (length-append, length-take) (omega arith))

module _ (os : List Born) (o : Born) where
  good_snoc : (v : Value) → Good os v → Good (os ++ (o ∷ [])) v
  good_snoc (int z) h = h
  good_snoc nil h = h
  good_snoc (ref j) h = rw (get_or-append os (o ∷ []) (gone 0) j (live_below os j h)) h

  word_stays : (v : Value) → Good os v → value_word (place os) v ≡ value_word (place (os ++ (o ∷ []))) v
  word_stays (int z) h = refl
  word_stays nil h = refl
  word_stays (ref j) h = ap ref_to (sym (place_snoc os o j (live_below os j h)))

-- an object is born at the top
pub new_kept : {c : Mem} {a : Simple} → Same c a → (s : ℕ) (o : Born) (x : Object) → ((f : ℕ → ℕ) → born_words f o ≡ words_of x) → 0 < words o
    → words o ≤ suc payload_words → in_use a.objects + words o ≤ a.room → ((k : ℕ) → Good a.objects (field_of o k))
    → Same (with_new c s x).state (born_list a s o).state
new_kept {c} {a} r s o x e h₀ h₁ h₂ g =
    let os : List Born = a.objects in
    let os' : List Born = os ++ (o ∷ []) in
    let ws : List ℕ = words_of x in
    let lw : length ws ≡ words o = ap length (sym (e (place os))) ∙ length-born_words (place os) o in
    let t = r.at_top in
    let m = r.room in
    let u = in_use_snoc os o in
    record {
      room = length-put c.heap c.store.top ws (omega arith) ∙ r.room;
      fits = omega arith;
      at_top = omega arith;
      calls = ap tick r.calls;
      below =
          take_put c.heap c.store.top ws (omega arith)
          ∙ (ap₂ ◌++◌ (r.below ∙ words_agree (place os) (place os') os (λ i k. word_stays os o (field_of (the os i) k) (r.fields i k))) (sym (e (place os'))) ∙ sym (words_snoc (place os') os o));
      slots =
          rw (map-set, place_new)
          (ap₂ (λ (l : List ℕ) (n : ℕ). set l s (ref_to n)) (r.slots ∙ map_agree (value_word (place os)) (value_word (place os')) a.slots no_value (λ k. word_stays os o (get_or a.slots k no_value) (r.held k))) t);
      counts = snoc_all (λ (y : Born). words y ≤ suc payload_words) os (gone 0) o h₁ r.counts;
      fields =
          snoc_all (λ (y : Born). (k : ℕ) → Good os' (field_of y k)) os (gone 0) o (λ k. good_snoc os o (field_of o k) (g k))
          (λ i k. good_snoc os o (field_of (the os i) k) (r.fields i k));
      held =
          set_all (Good os') a.slots no_value (ref (length os)) s (rw (get_or-append_seam os o [] (gone 0)) h₀)
          (λ k. good_snoc os o (get_or a.slots k no_value) (r.held k));
    }
