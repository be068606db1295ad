-- A block's live words go to at most two target blocks, and two offset entries tell which, and so whether its step is too early. Assumes nothing.
use mathlib.Core.Path.{◌≡◌, ap, ◌∙◌}
use mathlib.Core.Logic.{◌⊎◌, inl, inr, ⊎_elim}
use mathlib.Core.Bool.{Bool, true, false, not, ◌&&◌, ◌||◌}
use mathlib.Core.List.{List}
use Prim.Native.Nat.{ℕ, ◌+◌, ◌*◌, ◌-◌, ◌/◌, ◌≤◌, ◌<◌}
use native.Mathlib.Omega.{arith}
use lib.Dec.{ltb, eqb}
use borrow.Author.Tests.{lt-ltb, le-ltb, eq-eqb, eqb-true, not-false}
use Rattle.meaning.specs.Limits.{block_words}
use Rattle.meaning.specs.Places.{places_from, below, src, is_in}
use Rattle.meaning.specs.Blocks.{early_from}
use Rattle.meaning.proofs.Deciding.{le_or_lt, eq_or_ne, and_both, or_one, or_left, or_right, same_test}
use Rattle.meaning.proofs.Counting.{below_mono, below_near, below-lt, src_below, src_live, src-within, src-up, src_at}
use Rattle.meaning.proofs.TooEarly.{Ready, ready_not-early, not-early_ready}
use Rattle.meaning.proofs.BlockMoves.{Up}

-- no new place is above the old one
pub up_places : (t : ℕ → Bool) (n : ℕ) → Up (places_from t 0 n)
unfolding below src
up_places t n = record { up = src-up t n }

-- offset entry b: the live places below block b
abbrev pub offset_entry : (ℕ → Bool) → ℕ → ℕ
offset_entry t b = below t (block_words * b)

-- p is a live place of block b
pub record LiveIn (t : ℕ → Bool) (b p : ℕ) : Type 0 where
  pub live : t p ≡ true
  pub block : p / block_words ≡ b

-- the new places of block b's live words, from its offset entry and the next: they are in two target blocks at most
pub record GoesTwo (t : ℕ → Bool) (b lo hi : ℕ) : Type 0 where
  pub two : (p : ℕ) → LiveIn t b p → (below t p / block_words ≡ lo / block_words) ⊎ (below t p / block_words ≡ (hi - 1) / block_words)
  pub first : lo < hi → (p : ℕ) × LiveIn t b p × (below t p ≡ lo)
  pub last : lo < hi → (p : ℕ) × LiveIn t b p × (below t p ≡ hi - 1)
  pub none : hi ≤ lo → (p : ℕ) → LiveIn t b p → ⊥

module _ (t : ℕ → Bool) (b : ℕ) where
  -- their new places are those from the entry on to before the next
  from-entry : (p : ℕ) → LiveIn t b p → offset_entry t b ≤ below t p
  from-entry p w = below_mono t (block_words * b) p (omega (arith, w.block))

  to_next : (p : ℕ) → LiveIn t b p → below t p < offset_entry t (b + 1)
  to_next p w = below-lt t p (block_words * (b + 1)) (omega (arith, w.block)) w.live

  reached : (j : ℕ) → offset_entry t b ≤ j → j < offset_entry t (b + 1) → (p : ℕ) × LiveIn t b p × (below t p ≡ j)
  reached j l h =
      let end : ℕ = block_words * (b + 1) in
      let p : ℕ = src t end j in
      let e : below t p ≡ j = src_below t end j h in
      let low : block_words * b ≤ p = ⊎_elim (λ g. g) (λ g. absurd (omega (arith, below-lt t p (block_words * b) g (src_live t end j h)))) (le_or_lt (block_words * b) p) in
      (p, record { live = src_live t end j h; block = omega (arith, src-within t end j h) }, e)

  pub goes_two : GoesTwo t b (offset_entry t b) (offset_entry t (b + 1))
  goes_two = record {
    two = λ p w. ⊎_elim inl
        (λ other.
        let next : offset_entry t (b + 1) ≡ below t (block_words * b + block_words) = ap (below t) (let e : block_words * (b + 1) ≡ block_words * b + block_words = omega arith in e) in
        inr (omega (arith, other, next, below_near t (block_words * b) block_words, from-entry p w, to_next p w)))
        (eq_or_ne (below t p / block_words) (offset_entry t b / block_words));
    first = λ h. reached (offset_entry t b) (omega arith) h;
    last = λ h. reached (offset_entry t (b + 1) - 1) (omega arith) (omega arith);
    none = λ h p w. omega (arith, from-entry p w, to_next p w);
  }

-- ## Too early, by two entries
-- block b's words that go to block k do not make its step wait
abbrev pub goes_ok : List ℕ → ℕ → ℕ → Bool
goes_ok done b k = eqb k b || is_in k done

abbrev pub early_by : ℕ → ℕ → List ℕ → ℕ → Bool
early_by lo hi done b = ltb lo hi && not (goes_ok done b (lo / block_words) && goes_ok done b ((hi - 1) / block_words))

module _ (t : ℕ → Bool) (n : ℕ) (top : (p : ℕ) → t p ≡ true → p < n) (done : List ℕ) (b : ℕ) where
  abbrev by_entries : Bool
  by_entries = early_by (offset_entry t b) (offset_entry t (b + 1)) done b

  by_ready : by_entries ≡ false → Ready done b (λ j. j) (places_from t 0 n)
  unfolding below src
  by_ready early j h s other =
      let lo = offset_entry t b in
      let hi = offset_entry t (b + 1) in
      let p = src t n j in
      let w : LiveIn t b p = record { live = src_live t n j h; block = s } in
      let e : below t p ≡ j = src_below t n j h in
      let some : lo < hi = omega (arith, from-entry t b p w, to_next t b p w) in
      let (first, last) = and_both (goes_ok done b (lo / block_words)) (goes_ok done b ((hi - 1) / block_words)) (not-false _ (rw (lt-ltb lo hi some) at early)) in
      let ok : goes_ok done b (j / block_words) ≡ true = ⊎_elim (λ q. rw (rw e at q) first) (λ q. rw (rw e at q) last) ((goes_two t b).two p w) in
      ⊎_elim (λ same. absurd (other (eqb-true (j / block_words) b same))) (λ gone. gone) (or_one (eqb (j / block_words) b) (is_in (j / block_words) done) ok)

  ready_ok : Ready done b (λ j. j) (places_from t 0 n) → (j : ℕ) → offset_entry t b ≤ j → j < offset_entry t (b + 1) → goes_ok done b (j / block_words) ≡ true
  unfolding below src
  ready_ok a j l h =
      let (p, w, e) = reached t b j l h in
      let within : p < n = top p w.live in
      let q : src t n j ≡ p = rw e at (src_at t n p within w.live) in
      ⊎_elim
      (λ same. or_left (eqb (j / block_words) b) (is_in (j / block_words) done) (eq-eqb (j / block_words) b same))
      (λ other.
      or_right (eqb (j / block_words) b) (is_in (j / block_words) done)
      (a j (omega (arith, e, below-lt t p n within w.live)) (ap (λ (x : ℕ). x / block_words) q ∙ w.block) other))
      (eq_or_ne (j / block_words) b)

  ready_by : Ready done b (λ j. j) (places_from t 0 n) → by_entries ≡ false
  ready_by a =
      let lo = offset_entry t b in
      let hi = offset_entry t (b + 1) in
      ⊎_elim
      (λ (g : hi ≤ lo). rw (le-ltb lo hi g))
      (λ (g : lo < hi). rw (ready_ok a lo (omega arith) g, ready_ok a (hi - 1) (omega arith) (omega arith), lt-ltb lo hi g))
      (le_or_lt hi lo)

  -- two offset entries tell whether a step is too early
  pub early-two : early_from done b 0 (places_from t 0 n) ≡ early_by (offset_entry t b) (offset_entry t (b + 1)) done b
  early-two =
      same_test false (early_from done b 0 (places_from t 0 n)) by_entries
      (λ e. ready_by (not-early_ready done b (places_from t 0 n) e)) (λ e. ready_not-early done b (places_from t 0 n) (by_ready e))
