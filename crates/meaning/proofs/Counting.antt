-- Places that pass a test: how many stand below a place, which is number j, and which the lowest. Assumes nothing.
use mathlib.Core.Path.{◌≡◌, refl, sym, ap, ap₂, ◌∙◌, subst}
use mathlib.Core.Bool.{Bool, true, false, cond}
use mathlib.Core.Logic.{⊎_elim, ◌≢◌}
use mathlib.Core.List.{List, [], ◌∷◌, ◌++◌, map}
use Prim.Native.Nat.{ℕ, zero, suc, ◌+◌, ◌-◌, ◌≤◌, ◌<◌}
use native.Mathlib.Nat.{add-zero, zero-add, add-suc, suc-add}
use native.Mathlib.Numerals.{add-one}
use native.Mathlib.Omega.{arith}
use lib.ListN.{length, get_or, length-append}
use lib.Seq.{get_or-append_seam}
use Rattle.meaning.specs.Places.{cons_if, places_from, below, src, up_to}
use Rattle.meaning.proofs.Deciding.{le_or_lt, true_or_false}

-- ## A stretch of places
module _ (t : ℕ → Bool) where
  pub places_split : (p n k : ℕ) → places_from t p (n + k) ≡ places_from t p n ++ places_from t (p + n) k
  places_split p zero k = rw (zero-add, add-zero)
  places_split p (suc n) k = rw (suc-add, add-suc, ← suc-add p n) (go (t p) (places_split (suc p) n k))
    where
      go : (b : Bool) → places_from t (suc p) (n + k) ≡ places_from t (suc p) n ++ places_from t (suc p + n) k → cons_if b p (places_from t (suc p) (n + k)) ≡ cons_if b p (places_from t (suc p) n) ++ places_from t (suc p + n) k
      go true e = ap (λ (l : List ℕ). p ∷ l) e
      go false e = e

  places_few : (p n : ℕ) → length (places_from t p n) ≤ n
  places_few p zero = omega arith
  places_few p (suc n) = go (t p) (places_few (suc p) n)
    where
      go : (b : Bool) → length (places_from t (suc p) n) ≤ n → length (cons_if b p (places_from t (suc p) n)) ≤ suc n
      go true l = omega arith
      go false l = omega arith

  -- where none passes there is none
  pub places_none : (p n : ℕ) → ((k : ℕ) → k < n → t (p + k) ≡ false) → places_from t p n ≡ []
  places_none p zero a = refl
  places_none p (suc n) a = rw (rw add-zero at (a 0 (omega arith))) (places_none (suc p) n (λ k h. rw (suc-add, ← add-suc p k) (a (suc k) (omega arith))))

  -- the first that passes is the first of them
  pub places_first : (p n k : ℕ) → ((i : ℕ) → i < n → t (p + i) ≡ false) → t (p + n) ≡ true → places_from t p (n + suc k) ≡ (p + n) ∷ places_from t (suc (p + n)) k
  places_first p n k a e = places_split p n (suc k) ∙ rw (places_none p n a, e)

  -- all pass, or none
  pub places_count : (b : Bool) (p n : ℕ) → ((k : ℕ) → k < n → t (p + k) ≡ b) → length (places_from t p n) ≡ cond b n 0
  places_count true p zero a = refl
  places_count true p (suc n) a = rw (rw add-zero at (a 0 (omega arith))) (ap suc (places_count true (suc p) n (λ k h. rw (suc-add, ← add-suc p k) (a (suc k) (omega arith)))))
  places_count false p n a = ap length (places_none p n a)

  -- where all pass, the places read a list as it stands
  pub places_read : (g : ℕ → ℕ) (p : ℕ) (xs : List ℕ) → ((k : ℕ) → k < length xs → t (p + k) ≡ true)
      → ((k : ℕ) → k < length xs → g (p + k) ≡ get_or xs k 0) → map g (places_from t p (length xs)) ≡ xs
  places_read g p [] a r = refl
  places_read g p (x ∷ xs) a r = rw (rw add-zero at (a 0 (omega arith))) (ap₂ ◌∷◌ (rw add-zero at (r 0 (omega arith))) (places_read g (suc p) xs (λ k h. rw (suc-add, ← add-suc p k) (a (suc k) (omega arith))) (λ k h. rw (suc-add, ← add-suc p k) (r (suc k) (omega arith)))))

  -- number j is p + d: it passes, and j stand before it
  record Found (p n j d : ℕ) : Type 0 where
    at : get_or (places_from t p n) j 0 ≡ p + d
    within : d < n
    passes : t (p + d) ≡ true
    before : length (places_from t p d) ≡ j

  found : (p n j : ℕ) → j < length (places_from t p n) → (d : ℕ) × Found p n j d
  found p zero j h = absurd (omega arith)
  found p (suc n) j h = go (t p) refl j h (found (suc p) n)
    where
      go : (b : Bool) → t p ≡ b → (j : ℕ) → j < length (cons_if b p (places_from t (suc p) n)) → ((j : ℕ) → j < length (places_from t (suc p) n) → (d : ℕ) × Found (suc p) n j d) → (d : ℕ) × Found p (suc n) j d
      go true e zero h ih =
          (0, record { at = rw e (sym (add-zero p)); within = omega arith; passes = rw add-zero e; before = refl })
      go true e (suc j) h ih =
          let (d, r) = ih j (omega arith) in
          (suc d, record { at = rw e (r.at ∙ omega arith); within = omega (arith, r.within); passes = rw (add-suc, ← suc-add p d) r.passes; before = rw e (ap suc r.before) })
      go false e j h ih =
          let (d, r) = ih j h in
          (suc d, record { at = rw e (r.at ∙ omega arith); within = omega (arith, r.within); passes = rw (add-suc, ← suc-add p d) r.passes; before = rw e r.before })

-- two tests that agree have the same places, wherever the stretches begin
pub places_shift : (t u : ℕ → Bool) (p q n : ℕ) → ((k : ℕ) → k < n → t (p + k) ≡ u (q + k)) → length (places_from t p n) ≡ length (places_from u q n)
places_shift t u p q zero a = refl
places_shift t u p q (suc n) a =
    go (t p) (u q) (rw (add-zero p, add-zero q) at (a 0 (omega arith))) (places_shift t u (suc p) (suc q) n (λ k h. rw (suc-add p k, suc-add q k, ← add-suc p k, ← add-suc q k) (a (suc k) (omega arith))))
  where
    go : (b c : Bool) → b ≡ c → length (places_from t (suc p) n) ≡ length (places_from u (suc q) n) → length (cons_if b p (places_from t (suc p) n)) ≡ length (cons_if c q (places_from u (suc q) n))
    go true true e i = ap suc i
    go false false e i = i
    go true false e i = absurd (let z : ◌≡◌ {A = ℕ} 0 1 = cc in omega arith)
    go false true e i = absurd (let z : ◌≡◌ {A = ℕ} 0 1 = cc in omega arith)

pub places_same : (t u : ℕ → Bool) (p n : ℕ) → ((k : ℕ) → k < n → t (p + k) ≡ u (p + k)) → places_from t p n ≡ places_from u p n
places_same t u p zero a = refl
places_same t u p (suc n) a =
    ap₂ (λ (b : Bool) (l : List ℕ). cons_if b p l) (rw add-zero at (a 0 (omega arith)))
    (places_same t u (suc p) n (λ k h. rw (suc-add, ← add-suc p k) (a (suc k) (omega arith))))

-- ## Below
module _ (t : ℕ → Bool) where
  pub below-zero : below t 0 ≡ 0
  unfolding below
  below-zero = refl

  pub below_split : (p k : ℕ) → below t (p + k) ≡ below t p + length (places_from t p k)
  unfolding below
  below_split p k = rw (places_split t 0 p k, length-append, zero-add)

  -- theorem 1 of 001: a new place is never above the old one
  pub below-few : (p : ℕ) → below t p ≤ p
  unfolding below
  below-few p = places_few t 0 p

  pub below_mono : (p q : ℕ) → p ≤ q → below t p ≤ below t q
  below_mono p q h = omega (arith, below_split p (q - p), ap (below t) (let e : p + (q - p) ≡ q = omega arith in e))

  pub below_near : (p n : ℕ) → below t (p + n) ≤ below t p + n
  below_near p n = omega (arith, below_split p n, places_few t p n)

  pub below_next : (p : ℕ) → t p ≡ true → below t (suc p) ≡ suc (below t p)
  below_next p e = ap (below t) (sym (add-one p)) ∙ below_split p 1 ∙ rw e (add-one (below t p))

  pub below_stay : (p : ℕ) → t p ≡ false → below t (suc p) ≡ below t p
  below_stay p e = ap (below t) (sym (add-one p)) ∙ below_split p 1 ∙ rw e (add-zero (below t p))

  -- no place from p to before q passes
  pub below_flat : (p q : ℕ) → p ≤ q → ((r : ℕ) → p ≤ r → r < q → t r ≡ false) → below t q ≡ below t p
  below_flat p q h a =
      let e : p + (q - p) ≡ q = omega arith in
      ap (below t) (sym e) ∙ below_split p (q - p)
      ∙ rw (places_none t p (q - p) (λ k l. a (p + k) (omega arith) (omega arith))) (add-zero (below t p))

  -- places that pass keep their order
  pub below-lt : (p q : ℕ) → p < q → t p ≡ true → below t p < below t q
  below-lt p q h e = omega (arith, below_next p e, below_mono (suc p) q h)

  -- and no two of them have as many below them
  pub below_one : (p q : ℕ) → t p ≡ true → t q ≡ true → below t p ≡ below t q → p ≡ q
  below_one p q ep eq e =
      ⊎_elim (λ (h : p ≤ q). ⊎_elim (λ (g : q ≤ p). omega arith) (λ (g : p < q). absurd (omega (arith, below-lt p q g ep))) (le_or_lt q p))
      (λ (h : q < p). absurd (omega (arith, below-lt q p h eq))) (le_or_lt p q)

  -- as many as there are places, so all of them
  pub below_full : (n : ℕ) → below t n ≡ n → (p : ℕ) → p < n → t p ≡ true
  below_full n e p h =
      ⊎_elim
      (λ passes. passes)
      (λ fails. let q : suc p + (n - suc p) ≡ n = omega arith in absurd (omega (arith, ap (below t) q, below_near (suc p) (n - suc p), below_stay p fails, below-few p)))
      (true_or_false (t p))

  pub full_below : (n : ℕ) → ((p : ℕ) → p < n → t p ≡ true) → below t n ≡ n
  unfolding below
  full_below n a = places_count t true 0 n (λ k h. rw zero-add (a k h))

pub below_same : (t u : ℕ → Bool) (n : ℕ) → ((p : ℕ) → p < n → t p ≡ u p) → below t n ≡ below u n
unfolding below
below_same t u n a = ap length (places_same t u 0 n (λ k h. rw zero-add (a k h)))

-- one place more that passes
pub below_more : (t u : ℕ → Bool) (n x : ℕ) → x < n → t x ≡ false → u x ≡ true → ((p : ℕ) → p ≢ x → u p ≡ t p) → below u n ≡ suc (below t n)
below_more t u n x h fails passes a =
    let k : ℕ = n - suc x in
    let e : suc x + k ≡ n = omega arith in
    let past : length (places_from u (suc x) k) ≡ length (places_from t (suc x) k) = places_shift u t (suc x) (suc x) k (λ i l. a (suc x + i) (λ q. omega arith)) in
    omega (
      arith,
      ap (below u) e,
      ap (below t) e,
      below_split u (suc x) k,
      below_split t (suc x) k,
      past,
      below_next u x passes,
      below_stay t x fails,
      below_same u t x (λ p l. a p (λ q. omega arith)),
    )

-- a stretch counts like the same stretch begun at 0
pub below_shift : (t u : ℕ → Bool) (p n : ℕ) → ((k : ℕ) → k < n → t (p + k) ≡ u k) → below t (p + n) ≡ below t p + below u n
unfolding below
below_shift t u p n a =
    below_split t p n ∙ ap (λ (x : ℕ). length (places_from t 0 p) + x) (places_shift t u p 0 n (λ k h. a k h ∙ ap u (sym (zero-add k))))

-- ## Number j
module _ (t : ℕ → Bool) (n j : ℕ) (h : j < below t n) where
  at-src : Found t 0 n j (src t n j)
  unfolding below src
  at-src = let (d, r) = found t 0 n j h in let e : get_or (places_from t 0 n) j 0 ≡ d = r.at ∙ zero-add d in rw e r

  pub src_below : below t (src t n j) ≡ j
  unfolding below
  src_below = at-src.before

  pub src_live : t (src t n j) ≡ true
  src_live = rw zero-add at at-src.passes

  pub src-within : src t n j < n
  src-within = at-src.within

  pub src-up : j ≤ src t n j
  src-up = omega (arith, src_below, below-few t (src t n j))

module _ (t : ℕ → Bool) where
  pub src_ascends : (n j k : ℕ) → j < k → k < below t n → src t n j < src t n k
  src_ascends n j k h l =
      ⊎_elim
      (λ (g : src t n k ≤ src t n j). absurd (omega (arith, below_mono t _ _ g, src_below t n j (omega arith), src_below t n k l)))
      (λ (g : src t n j < src t n k). g)
      (le_or_lt (src t n k) (src t n j))

  -- each place that passes is one of them, and its number is how many stand below it
  pub src_at : (n q : ℕ) → q < n → t q ≡ true → src t n (below t q) ≡ q
  unfolding below src
  src_at n q h e =
      ap (λ (l : List ℕ). get_or l (length (places_from t 0 q)) 0) (ap (places_from t 0) (let g : n ≡ q + suc (n - suc q) = omega arith in g) ∙ places_split t 0 q (suc (n - suc q)))
      ∙ rw (zero-add, e) (get_or-append_seam (places_from t 0 q) q (places_from t (suc q) (n - suc q)) 0)

-- ## The lowest
-- i is the lowest place that passes, and below n
pub record Lowest (t : ℕ → Bool) (n i : ℕ) : Type 0 where
  pub within : i < n
  pub passes : t i ≡ true
  pub before : (k : ℕ) → k < i → t k ≡ false

module _ (t : ℕ → Bool) where
  none_below : (n : ℕ) → below t n ≡ 0 → (p : ℕ) → p < n → t p ≡ false
  none_below n e p h = ⊎_elim (λ passes. absurd (omega (arith, below-lt t p n h passes))) (λ fails. fails) (true_or_false (t p))

  pub none_passes : (n : ℕ) → places_from t 0 n ≡ [] → (p : ℕ) → p < n → t p ≡ false
  unfolding below
  none_passes n e = none_below n (ap length e)

  pub lowest_is : (n i : ℕ) (rest : List ℕ) → places_from t 0 n ≡ i ∷ rest → Lowest t n i
  unfolding below src
  lowest_is n i rest e =
      let h : 0 < below t n = omega (arith, ap length e) in
      let s : src t n 0 ≡ i = ap (λ (l : List ℕ). get_or l 0 0) e in
      subst (Lowest t n) s
      (record {
        within = src-within t n 0 h;
        passes = src_live t n 0 h;
        before = none_below (src t n 0) (src_below t n 0 h);
      })

  pub is_lowest : (n i : ℕ) → Lowest t n i → (rest : List ℕ) × (places_from t 0 n ≡ i ∷ rest)
  is_lowest n i w =
      let e : n ≡ i + suc (n - suc i) = omega (arith, w.within) in (
        places_from t (suc i) (n - suc i),
        ap (places_from t 0) e ∙ (rw zero-add at (places_first t 0 i (n - suc i) (λ k l. rw zero-add (w.before k l)) (rw zero-add w.passes))),
      )

-- ## 0 to n - 1
pub length-up_to : (n : ℕ) → length (up_to n) ≡ n
unfolding up_to
length-up_to n = places_count (λ p. true) true 0 n (λ k h. refl)

pub get_or-up_to : (n i : ℕ) → i < n → get_or (up_to n) i 0 ≡ i
unfolding up_to src below
get_or-up_to n i h = ap (λ (j : ℕ). src (λ p. true) n j) (sym (places_count (λ p. true) true 0 i (λ k l. refl))) ∙ src_at (λ p. true) n i h refl
