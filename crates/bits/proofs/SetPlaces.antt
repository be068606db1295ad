-- The set bits of a word as a list: its head is the lowest and its tail those of the word without it, and what a `for` over them has passed. Assumes nothing.
use mathlib.Core.Path.{◌≡◌, refl, sym, ap, ap₂, subst, ◌∙◌}
use mathlib.Core.Logic.{⊎_elim, ◌≢◌}
use mathlib.Core.Bool.{Bool, true, false, ◌||◌, and-true, and-false, or-false, or_assoc, true≢false}
use Rattle.std.proofs.lemmas.List.{get_or_default}
use Rattle.std.specs.Iterator.{Yields, YieldsFirst}
use Rattle.std.specs.List.{All}
use Rattle.std.proofs.Common.{Option, Some, None, slice_get}
use mathlib.Core.List.{List, [], ◌∷◌, ◌++◌, append-nil}
use Prim.Native.Nat.{ℕ, zero, suc, ◌+◌, ◌-◌, ◌^◌, ◌≤◌, ◌<◌}
use native.Mathlib.Nat.{zero-add}
use native.Mathlib.Omega.{arith}
use lib.Bits.{bit_and}
use lib.Count.{count_trailing_zeros}
use lib.Dec.{eqb}
use borrow.Author.Tests.{eq-eqb, ne_eqb, eqb-true}
use Rattle.meaning.specs.Limits.{block_words}
use Rattle.meaning.specs.Places.{cons_if, places_from, below, src, is_in, bit_set}
use Rattle.meaning.proofs.Deciding.{eq_or_ne, true_or_false, same_test, or_one, or_left, or_right}
use Rattle.meaning.proofs.Counting.{places_split, places_none, places_first, places_same, src-within, src_live}
use Rattle.meaning.proofs.Bitmaps.{bit_zero}
use Rattle.bits.specs.SetBits.{set_places}
use Rattle.bits.proofs.Words.{bit_within}
use Rattle.bits.proofs.LowestBit.{Lowest, lowest}

-- ## The head and the tail

pub set_none : set_places 0 ≡ []
unfolding set_places
set_none = places_none (bit_set 0) 0 block_words (λ k h. bit_zero (0 + k))

places_lowest : (k w z rest : ℕ) → Lowest k w z rest → places_from (bit_set w) 0 k ≡ z ∷ places_from (bit_set rest) 0 k
places_lowest k w z rest l =
    let n = k - suc z in
    let e : k ≡ z + suc n = omega (arith, l.within) in
    let f : k ≡ suc z + n = omega (arith, l.within) in
    ap (places_from (bit_set w) 0) e
    ∙ places_first (bit_set w) 0 z n (λ i h. rw zero-add (l.none_before i h)) (rw zero-add l.is_set)
    ∙ rw zero-add
    (ap (λ (ps : List ℕ). z ∷ ps)
    (sym (ap (places_from (bit_set rest) 0) f
    ∙ places_split (bit_set rest) 0 (suc z) n
    ∙ rw (places_none (bit_set rest) 0 (suc z) (λ i h. rw zero-add (up_to i h)), zero-add)
    (places_same (bit_set rest) (bit_set w) (suc z) n (λ i h. l.others (suc z + i) ∙ rw (ne_eqb (suc z + i) z (λ q. omega arith)) (and-true (bit_set w (suc z + i))))))))
  where
    up_to : (i : ℕ) → i < suc z → bit_set rest i ≡ false
    up_to i h = ⊎_elim
        (λ (e : i ≡ z). l.others i ∙ rw (eq-eqb i z e) (and-false (bit_set w i)))
        (λ ne. l.others i ∙ rw (l.none_before i (omega arith)) refl)
        (eq_or_ne i z)

pub set_next : (w : ℕ) → w ≢ 0 → w < 2 ^ block_words → set_places w ≡ count_trailing_zeros block_words w ∷ set_places (bit_and w (w - 1))
unfolding set_places
set_next w ne h = places_lowest block_words w _ _ (lowest block_words w ne h)

-- ## Which they are
module _ (t : ℕ → Bool) where
  pub places_in : (p n i : ℕ) → is_in i (places_from t p n) ≡ true → (t i ≡ true) × (p ≤ i) × (i < p + n)
  places_in p zero i e = absurd (true≢false (sym e))
  places_in p (suc n) i e = go (t p) refl e (λ q. let (s, l, r) = places_in (suc p) n i q in (s, omega arith, omega arith))
    where
      go : (b : Bool) → t p ≡ b → is_in i (cons_if b p (places_from t (suc p) n)) ≡ true
          → (is_in i (places_from t (suc p) n) ≡ true → (t i ≡ true) × (p ≤ i) × (i < p + suc n)) → (t i ≡ true) × (p ≤ i) × (i < p + suc n)
      go true s q later = ⊎_elim (λ h. let same = eqb-true i p h in (rw same s, omega arith, omega arith)) later (or_one (eqb i p) _ q)
      go false s q later = later q

  pub in_places : (p n i : ℕ) → t i ≡ true → p ≤ i → i < p + n → is_in i (places_from t p n) ≡ true
  in_places p zero i s h l = absurd (omega arith)
  in_places p (suc n) i s h l = ⊎_elim
      (λ (e : i ≡ p). rw (rw e at s) (or_left (eqb i p) _ (eq-eqb i p e)))
      (λ ne. go (t p) (in_places (suc p) n i s (omega arith) (omega arith)))
      (eq_or_ne i p)
    where
      go : (b : Bool) → is_in i (places_from t (suc p) n) ≡ true → is_in i (cons_if b p (places_from t (suc p) n)) ≡ true
      go true q = or_right (eqb i p) _ q
      go false q = q

  pub places_are : (n i : ℕ) → (t i ≡ true → i < n) → is_in i (places_from t 0 n) ≡ t i
  places_are n i h = same_test true (is_in i (places_from t 0 n)) (t i) (λ b. (places_in 0 n i b).0) (λ b. in_places 0 n i b (omega arith) (omega (arith, h b)))

  -- z is number `length ys` of the n places from p on, and ys are those before it
  pub record Cut (p n z : ℕ) (ys : List ℕ) : Type 0 where
    pub at : ℕ
    pub is : z ≡ p + at
    pub within : at < n
    pub passes : t z ≡ true
    pub before : ys ≡ places_from t p at

  pub places_cut : (p n z : ℕ) (ys rest : List ℕ) → places_from t p n ≡ ys ++ z ∷ rest → Cut p n z ys
  places_cut p zero z [] rest e = absurd (cc)
  places_cut p zero z (y ∷ ys) rest e = absurd (cc)
  places_cut p (suc n) z ys rest e = go (t p) refl ys e (λ later q. places_cut (suc p) n z later rest q)
    where
      go : (b : Bool) → t p ≡ b → (ys : List ℕ) → cons_if b p (places_from t (suc p) n) ≡ ys ++ z ∷ rest
          → ((later : List ℕ) → places_from t (suc p) n ≡ later ++ z ∷ rest → Cut (suc p) n z later) → Cut p (suc n) z ys
      go false s ys q cut =
          let c = cut ys q in
          record { at = suc c.at; is = omega (arith, c.is); within = omega (arith, c.within); passes = c.passes; before = c.before ∙ rw s refl }
      go true s [] q cut = let first : z ≡ p = cc in record { at = 0; is = omega arith; within = omega arith; passes = rw first s; before = refl }
      go true s (y ∷ ys) q cut =
          let first : y ≡ p = cc in
          let c = cut ys (cc) in
          record { at = suc c.at; is = omega (arith, c.is); within = omega (arith, c.within); passes = c.passes; before = ap₂ (λ (x : ℕ) (l : List ℕ). x ∷ l) first c.before ∙ ap (λ (b : Bool). cons_if b p (places_from t (suc p) c.at)) (sym s) }

  -- ## What a `for` over those below n has passed
  -- z comes next after ys
  pub record Turn (n : ℕ) (ys : List ℕ) (z : ℕ) : Type 0 where
    pub within : z < n
    pub passes : t z ≡ true
    pub new : is_in z ys ≡ false
    pub before : (i : ℕ) → i < z → t i ≡ true → is_in i ys ≡ true

  pub places_turn : (n z : ℕ) (ys rest : List ℕ) → places_from t 0 n ≡ ys ++ z ∷ rest → Turn n ys z
  places_turn n z ys rest e =
      let c = places_cut 0 n z ys rest e in
      let at : c.at ≡ z = omega (arith, c.is) in
      let below : ys ≡ places_from t 0 z = rw at at c.before in
      record {
        within = omega (arith, c.is, c.within);
        passes = c.passes;
        new = ⊎_elim (λ b. absurd (let l = (places_in 0 z z (rw below at b)).2 in omega arith)) (λ b. b) (true_or_false (is_in z ys));
        before = λ i l b. rw below (in_places 0 z i b (omega arith) (omega arith));
      }

  pub places_all : (P : ℕ → Type 0) (n : ℕ) → ((i : ℕ) → i < n → t i ≡ true → P i) → All P (places_from t 0 n)
  unfolding below src
  places_all P n a k d h =
      subst P (get_or_default (places_from t 0 n) k 0 d h) (a (src t n k) (src-within t n k h) (src_live t n k h))

-- what is shown of each set bit holds of each in the list
pub all_set : (P : ℕ → Type 0) (word : ℕ) → ((i : ℕ) → i < block_words → bit_set word i ≡ true → P i) → All P (set_places word)
unfolding set_places
all_set P word = places_all (bit_set word) P block_words

pub in_more : (i z : ℕ) (ys : List ℕ) → is_in i (ys ++ z ∷ []) ≡ is_in i ys || eqb i z
in_more i z [] = or-false (eqb i z)
in_more i z (y ∷ ys) = ap (λ (b : Bool). eqb i y || b) (in_more i z ys) ∙ sym (or_assoc (eqb i y) (is_in i ys) (eqb i z))

yields_rest : (s ys rest : List ℕ) → Yields (YieldsFirst (λ r. r)) s ys rest → s ≡ ys ++ rest
yields_rest s [] rest y = y
yields_rest s (x ∷ ys) rest y = y.1 ∙ ap (λ (l : List ℕ). x ∷ l) (yields_rest y.0 ys rest y.2)

all_in : (word : ℕ) (ys : List ℕ) (i : ℕ) → word < 2 ^ block_words → set_places word ≡ ys → is_in i ys ≡ bit_set word i
unfolding set_places
all_in word ys i h e = rw (← e) (places_are (bit_set word) block_words i (bit_within block_words word i h))

-- a `for` over the set bits of a word has passed ys, and rest is left
module _ (word : ℕ) {s : List ℕ} (e : s ≡ set_places word) (ys rest : List ℕ) (y : Yields (YieldsFirst (λ r. r)) s ys rest) where
  pub set_turn : (z : ℕ) (more : List ℕ) → rest ≡ z ∷ more → Turn (bit_set word) block_words ys z
  unfolding set_places
  set_turn z more q = places_turn (bit_set word) block_words z ys more (sym e ∙ yields_rest s ys rest y ∙ ap (λ (l : List ℕ). ys ++ l) q)

  -- where nothing is left, all of them
  pub set_end : rest ≡ [] → word < 2 ^ block_words → (i : ℕ) → is_in i ys ≡ bit_set word i
  set_end q h i = all_in word ys i h (sym e ∙ yields_rest s ys rest y ∙ ap (λ (l : List ℕ). ys ++ l) q ∙ append-nil ys)

-- the first that is given is the lowest
pub first_set : (word : ℕ) (s rest : List ℕ) (r : Option ℕ) → s ≡ set_places word → YieldsFirst (λ (l : List ℕ). l) s r rest
    → r ≡ slice_get (places_from (bit_set word) 0 block_words) 0
unfolding set_places
first_set word s rest None e y = rw (sym e ∙ y.0) refl
first_set word s rest (Some x) e y = rw (sym e ∙ y) refl
