-- The words and the simple list stand for the same store; what a slot shows in one it shows in the other. Assumes nothing.
use mathlib.Core.Path.{◌≡◌, refl, sym, ap, ◌∙◌}
use mathlib.Core.Bool.{true}
use mathlib.Core.List.{List, map}
use Prim.Native.Nat.{ℕ, suc, ◌+◌, ◌*◌, ◌/◌, ◌%◌, ◌≤◌, ◌<◌}
use native.Mathlib.Nat.{add-zero}
use native.Mathlib.Omega.{arith}
use borrow.Author.Tests.{lt-ltb, le-leb, leb-true}
use lib.Dec.{leb}
use lib.ListN.{length, get_or, take, length-map, get_or-map}
use lib.Seq.{get_or-take}
use Rattle.meaning.specs.Limits.{heap_words, payload_words}
use Rattle.meaning.specs.Answers.{Answer}
use Rattle.meaning.specs.Values.{Value, int, nil, ref, last_place, value_of, word_of, ref_to}
use Rattle.meaning.specs.Objects as O
use Rattle.meaning.specs.Objects.{Object, payload, kind}
use Rattle.meaning.specs.Calls.{Did, Shown, plain, object, stray, fits}
use Rattle.meaning.specs.Store.{Mem, shown_value, shown}
use Rattle.meaning.specs.SimpleList.{Born, rec, raw, gone, Simple, words, in_use, place, the, field_of, no_value, show_born, show_value, view_list}
use Rattle.meaning.specs.Sequences.{said, after}
use Rattle.meaning.proofs.Deciding.{and_both}
use Rattle.meaning.proofs.ValueWords.{read_made}
use Rattle.meaning.proofs.ParseEncode.{kind-two, header_legal, header_size}
use Rattle.meaning.proofs.Births.{value_word, born_words, list_words, Good, words-read, place-below}

-- the words below the top are the list's objects, a slot's word is its value's, and every reference is to an object that stands
pub record Same (c : Mem) (a : Simple) : Type 0 where
  pub room : length c.heap ≡ a.room
  pub fits : in_use a.objects ≤ a.room
  pub at_top : c.store.top ≡ in_use a.objects
  pub calls : c.store.calls ≡ a.calls
  pub below : take c.store.top c.heap ≡ list_words (place a.objects) a.objects
  pub slots : c.slots ≡ map (value_word (place a.objects)) a.slots
  pub counts : (i : ℕ) → words (the a.objects i) ≤ suc payload_words
  pub fields : (i k : ℕ) → Good a.objects (field_of (the a.objects i) k)
  pub held : (s : ℕ) → Good a.objects (get_or a.slots s no_value)

-- both say the same, and stand for the same store afterwards
pub record Both (c : Mem) (a : Simple) (x : Answer (Did Mem)) (y : Answer (Did Simple)) : Type 0 where
  pub rel : Same (after c x) (after a y)
  pub same : said x ≡ said y

pub length_same : {c : Mem} {a : Simple} → Same c a → length c.slots ≡ length a.slots
length_same {c} {a} r = ap length r.slots ∙ length-map a.slots (value_word (place a.objects))

no_value_word : (f : ℕ → ℕ) → value_word f no_value ≡ 0
unfolding word_of
no_value_word f = refl

-- a slot's word is its value's
pub slot_word : {c : Mem} {a : Simple} → Same c a → (s : ℕ) → get_or c.slots s 0 ≡ value_word (place a.objects) (get_or a.slots s no_value)
slot_word {c} {a} r s =
    let f = value_word (place a.objects) in
    ap (λ (l : List ℕ). get_or l s 0) r.slots
    ∙ (ap (λ (d : ℕ). get_or (map f a.slots) s d) (sym (no_value_word (place a.objects))) ∙ get_or-map f a.slots s no_value)

-- what is shown, with a birth number sent to a place
abbrev pub sent_shown : (ℕ → ℕ) → Shown → Shown
sent_shown f (plain a) = plain a
sent_shown f (object i k n) = object (f i) k n
sent_shown f stray = stray

pub value-nil : value_of (value_word (λ i. i) nil) ≡ nil
unfolding word_of
value-nil = (read_made nil refl).1

pub value-ref_to : (p : ℕ) → p ≤ last_place → value_of (ref_to p) ≡ ref p
unfolding word_of
value-ref_to p h = (read_made (ref p) (le-leb p last_place h)).1

-- an object's header shows it
header_shows : (heap : List ℕ) (top p : ℕ) (o : Object) → length (payload o) ≤ payload_words → p + suc (length (payload o)) ≤ top
    → get_or heap p 0 ≡ 4 * length (payload o) + kind o → shown_value heap top (ref p) ≡ object p (kind o) (length (payload o))
header_shows heap top p o few h e =
    let k = kind-two o in
    let n : ℕ = length (payload o) in
    let s : (4 * n + kind o) / 4 ≡ n = header_size o in
    let r : (4 * n + kind o) % 4 ≡ kind o = omega arith in
    rw (e, lt-ltb p top (omega arith), header_legal o few, s, le-leb (suc p + n) top (omega arith), r)

-- the heap below top is the words of the objects
module _ (heap : List ℕ) (top : ℕ) (os : List Born) (below : take top heap ≡ list_words (place os) os) (at_top : top ≡ in_use os) where
  pub heap-read : (i k : ℕ) → k < words (the os i) → get_or heap (place os i + k) 0 ≡ get_or (born_words (place os) (the os i)) k 0
  heap-read i k h =
      let b = place-below os i k h in
      sym (get_or-take top heap (place os i + k) 0 (omega arith))
      ∙ (ap (λ (l : List ℕ). get_or l (place os i + k) 0) below ∙ words-read (place os) os i k h)

  module _ (small : in_use os ≤ heap_words) (counts : (i : ℕ) → words (the os i) ≤ suc payload_words) where
    header_read : (i : ℕ) → 0 < words (the os i) → get_or heap (place os i) 0 ≡ get_or (born_words (place os) (the os i)) 0 0
    header_read i h = ap (λ (n : ℕ). get_or heap n 0) (sym (add-zero (place os i))) ∙ heap-read i 0 h

    show-born : (i : ℕ) (o : Born) → the os i ≡ o → 0 < words o → shown_value heap top (ref (place os i)) ≡ sent_shown (place os) (show_born i o)
    show-born i (rec vs) e h =
        let b = place-below os i (length vs) (rw e (omega arith)) in
        let c = rw e at (counts i) in
        let l = length-map vs (value_word (place os)) in
        header_shows heap top (place os i) (O.rec (map (value_word (place os)) vs)) (omega arith) (omega arith) (header_read i (rw e h) ∙ rw e)
        ∙ ap (object (place os i) 0) l
    show-born i (raw ws) e h =
        let b = place-below os i (length ws) (rw e (omega arith)) in
        let c = rw e at (counts i) in
        header_shows heap top (place os i) (O.raw ws) (omega arith) (omega arith) (header_read i (rw e h) ∙ rw e)
    show-born i (gone n) e h = absurd (omega arith)

    show-same : (v : Value) → Good os v → shown_value heap top (value_of (value_word (place os) v)) ≡ sent_shown (place os) (show_value os v)
    show-same (int z) h = rw (read_made (int z) h).1
    show-same nil h = rw value-nil
    show-same (ref i) h =
        let b = place-below os i 0 h in
        rw (value-ref_to (place os i) (omega arith)) (show-born i (the os i) refl h)

pub shown_same : {c : Mem} {a : Simple} → Same c a → in_use a.objects ≤ heap_words → (s : ℕ)
    → shown c s ≡ sent_shown (place a.objects) (show_value a.objects (get_or a.slots s no_value))
unfolding shown
shown_same {c} {a} r z s =
    rw (slot_word r s)
    (show-same c.heap c.store.top a.objects r.below r.at_top z r.counts (get_or a.slots s no_value) (r.held s))

-- what passes line 1 is small
pub fits-small : {c : Mem} {a : Simple} → Same c a → fits (view_list a) ≡ true → in_use a.objects ≤ heap_words
fits-small {c} {a} r e =
    let h = leb-true a.room heap_words (and_both (leb a.room heap_words) _ e).0 in
    let t = r.fits in
    omega arith
