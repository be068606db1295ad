-- References sent on where they stand: none yet, one, those of one place after the other, and block after block. Assumes nothing.
use mathlib.Core.Path.{◌≡◌, refl, sym, ap, ◌∙◌}
use mathlib.Core.Logic.{⊎_elim}
use mathlib.Core.Bool.{Bool, true, false, cond, ◌&&◌, ◌||◌, and-false, or-false}
use mathlib.Core.List.{List, [], ◌∷◌, ◌++◌}
use Prim.Native.Nat.{ℕ, ◌+◌, ◌*◌, ◌/◌, ◌%◌, ◌≤◌, ◌<◌}
use native.Mathlib.Omega.{arith}
use lib.Dec.{eqb, ltb}
use lib.ListN.{length, get_or, set, length-set}
use lib.Seq.{get_or-set_same, get_or-set_other}
use borrow.Author.Tests.{eq-eqb, ne_eqb, eqb-true, lt-ltb, le-ltb}
use Rattle.meaning.specs.Limits.{block_words}
use Rattle.meaning.specs.Values.{place_of, ref_to}
use Rattle.meaning.specs.Places.{is_in, bit_set, marked}
use Rattle.meaning.proofs.Deciding.{eq_or_ne, le_or_lt, and_both, true_or_false}
use Rattle.meaning.proofs.CollectedHeap.{Fixed}
use Rattle.std.specs.List.{All}
use Rattle.bits.specs.SetBits.{set_places}
use Rattle.bits.proofs.SetPlaces.{Turn, in_more, all_set}
use Rattle.fixing.specs.Fixable.{in_block, RefersWithin, Fixable}

-- ## Any places
module _ (f : ℕ → ℕ) where
  -- a word, sent on where the test says so
  abbrev sent_if : Bool → ℕ → ℕ
  sent_if b w = cond b (ref_to (f (place_of w))) w

  pub fixed_none : (refs : ℕ → Bool) (heap : List ℕ) → ((q : ℕ) → refs q ≡ false) → Fixed refs f heap heap
  fixed_none refs heap none = record { long = refl; word = λ q. sym (ap (λ (b : Bool). sent_if b (get_or heap q 0)) (none q)) }

  pub fixed_same : (refs also : ℕ → Bool) (before after : List ℕ) → ((q : ℕ) → also q ≡ refs q) → Fixed refs f before after → Fixed also f before after
  fixed_same refs also before after same w = record { long = w.long; word = λ q. w.word q ∙ sym (ap (λ (b : Bool). sent_if b (get_or before q 0)) (same q)) }

  fixed_one : (p word : ℕ) (heap : List ℕ) → p < length heap → word ≡ ref_to (f (place_of (get_or heap p 0))) → Fixed (λ q. eqb q p) f heap (set heap p word)
  fixed_one p word heap h e = record {
    long = length-set heap p word;
    word = λ q. ⊎_elim
        (λ (s : q ≡ p). rw (s, eq-eqb p p refl) (get_or-set_same heap p word 0 h ∙ e))
        (λ ne. rw (ne_eqb q p ne) (get_or-set_other heap p q word 0 ne))
        (eq_or_ne q p);
  }

  -- first those of one test, then those of another that none of the first passes
  fixed_both : (refs more both : ℕ → Bool) (before between after : List ℕ) → ((q : ℕ) → more q ≡ true → refs q ≡ false) → ((q : ℕ) → both q ≡ refs q || more q)
      → Fixed refs f before between → Fixed more f between after → Fixed both f before after
  fixed_both refs more both before between after apart either v w = record {
    long = w.long ∙ v.long;
    word = λ q. ⊎_elim
        (λ (e : more q ≡ true). w.word q ∙ rw (e, either q, apart q e, e) (ap (λ (x : ℕ). ref_to (f (place_of x))) (v.word q ∙ rw (apart q e))))
        (λ (e : more q ≡ false). w.word q ∙ rw (e, either q, e, or-false (refs q)) (v.word q))
        (true_or_false (more q));
  }

  -- a reference that is not yet sent on refers as it did
  refers_still : (refs : ℕ → Bool) (live before after : List ℕ) (q : ℕ) → refs q ≡ false → Fixed refs f before after → RefersWithin live before q → RefersWithin live after q
  refers_still refs live before after q e w r =
      let same : get_or after q 0 ≡ get_or before q 0 = w.word q ∙ rw e in
      record { in_heap = omega (arith, r.in_heap, w.long); holds_ref = rw same r.holds_ref; target = rw same r.target }

-- ## One block
in_block_at : (b word i : ℕ) → i < block_words → bit_set word i ≡ true → in_block b word (block_words * b + i) ≡ true
in_block_at b word i h s =
    let e : (block_words * b + i) % block_words ≡ i = omega arith in
    rw (eq-eqb ((block_words * b + i) / block_words) b (omega arith), e) s

-- the places of its references are in the heap
pub refs_in_heap : (b word : ℕ) (heap live : List ℕ) → Fixable (in_block b word) heap live → All (λ (i : ℕ). block_words * b + i < length heap) (set_places word)
refs_in_heap b word heap live x =
    all_set (λ (i : ℕ). block_words * b + i < length heap) word (λ i h s. (x.refers (block_words * b + i) (in_block_at b word i h s)).in_heap)

-- the places of block b that ys lists
abbrev pub listed : ℕ → List ℕ → ℕ → Bool
listed b ys q = eqb (q / block_words) b && is_in (q % block_words) ys

module _ (b word z : ℕ) (ys : List ℕ) (n : Turn (bit_set word) block_words ys z) where
  abbrev place : ℕ
  place = block_words * b + z

  not-yet : (q : ℕ) → eqb q place ≡ true → listed b ys q ≡ false
  not-yet q e = let h = n.within in
      let s = eqb-true q place e in
      let r : q % block_words ≡ z = omega arith in
      rw (r, n.new) (and-false (eqb (q / block_words) b))

  one_more : (q : ℕ) → listed b (ys ++ z ∷ []) q ≡ listed b ys q || eqb q place
  one_more q = let h = n.within in
      ⊎_elim
      (λ (e : q / block_words ≡ b). rw (eq-eqb (q / block_words) b e, in_more (q % block_words) z ys)
      (ap (λ (t : Bool). is_in (q % block_words) ys || t)
      (⊎_elim
      (λ (s : q ≡ place). rw (eq-eqb (q % block_words) z (omega arith), eq-eqb q place s))
      (λ ne. rw (ne_eqb (q % block_words) z (λ s. ne (omega arith)), ne_eqb q place ne))
      (eq_or_ne q place))))
      (λ ne. rw (ne_eqb (q / block_words) b ne, ne_eqb q place (λ s. ne (omega arith))))
      (eq_or_ne (q / block_words) b)

  module _ (f : ℕ → ℕ) (before after : List ℕ) (w : Fixed (listed b ys) f before after) where
    -- the word at the next place is a reference, as it was
    pub next_refers : (live : List ℕ) → Fixable (in_block b word) before live → RefersWithin live after place
    next_refers live x = refers_still f (listed b ys) live before after place (not-yet place (eq-eqb place place refl)) w (x.refers place (in_block_at b word z n.within n.passes))

    pub next_sent : (sent : ℕ) → place < length after → sent ≡ ref_to (f (place_of (get_or after place 0))) → Fixed (listed b (ys ++ z ∷ [])) f before (set after place sent)
    next_sent sent h e = fixed_both f (listed b ys) (λ q. eqb q place) _ before after _ not-yet one_more w (fixed_one f place sent after h e)

-- ## Block after block
-- the references of the blocks below b
abbrev pub in_blocks : List ℕ → ℕ → ℕ → Bool
in_blocks refs b q = ltb (q / block_words) b && marked refs q

module _ (refs : List ℕ) (b : ℕ) where
  abbrev in_this : ℕ → Bool
  in_this = in_block b (get_or refs b 0)

  of_this : (q : ℕ) → q / block_words ≡ b → in_this q ≡ marked refs q
  unfolding marked
  of_this q e = rw (eq-eqb (q / block_words) b e) (ap (λ (x : ℕ). bit_set (get_or refs x 0) (q % block_words)) (sym e))

  here : (q : ℕ) → in_this q ≡ true → q / block_words ≡ b
  here q e = eqb-true (q / block_words) b (and_both _ _ e).0

  apart : (q : ℕ) → in_this q ≡ true → in_blocks refs b q ≡ false
  apart q e = let s = here q e in rw (le-ltb (q / block_words) b (omega arith))

  one_block_more : (q : ℕ) → in_blocks refs (b + 1) q ≡ in_blocks refs b q || in_this q
  one_block_more q = ⊎_elim
      (λ (e : q / block_words ≡ b). rw (of_this q e, lt-ltb (q / block_words) (b + 1) (omega arith), le-ltb (q / block_words) b (omega arith)))
      (λ ne. rw (ne_eqb (q / block_words) b ne, or-false (in_blocks refs b q)) (⊎_elim
      (λ (u : b ≤ q / block_words). rw (le-ltb (q / block_words) (b + 1) (omega arith), le-ltb (q / block_words) b u))
      (λ (u : q / block_words < b). rw (lt-ltb (q / block_words) (b + 1) (omega arith), lt-ltb (q / block_words) b u))
      (le_or_lt b (q / block_words))))
      (eq_or_ne (q / block_words) b)

  module _ (f : ℕ → ℕ) (before after : List ℕ) (w : Fixed (in_blocks refs b) f before after) where
    pub block_fixable : (live : List ℕ) → Fixable (marked refs) before live → Fixable in_this after live
    block_fixable live x = record {
      covered = omega (arith, x.covered, w.long);
      refers = λ q e. refers_still f (in_blocks refs b) live before after q (apart q e) w (x.refers q (sym (of_this q (here q e)) ∙ e));
    }

    pub block_sent : (next : List ℕ) → Fixed in_this f after next → Fixed (in_blocks refs (b + 1)) f before next
    block_sent next v = fixed_both f (in_blocks refs b) in_this _ before after next apart one_block_more w v
