-- The two lookups: new-to-old answers exactly the one live place with that many live places below it; with exact tables old-to-new answers
-- the number of live places below, and the two undo each other. Assumes nothing.
use mathlib.Core.Path.{◌≡◌, refl, sym, ap, ◌∙◌}
use mathlib.Core.Bool.{Bool, true, false, ◌&&◌, cond}
use mathlib.Core.Logic.{⊎_elim}
use mathlib.Core.List.{List}
use Prim.Native.Nat.{ℕ, ◌*◌, ◌/◌, ◌≤◌, ◌<◌}
use native.Mathlib.Omega.{arith}
use lib.Dec.{ltb, leb, eqb}
use lib.ListN.{length, get_or}
use borrow.Author.Tests.{lt-ltb, le-ltb, le-leb, eq-eqb, ltb-true, leb-true, eqb-true}
use Rattle.meaning.specs.Limits.{heap_words, block_words, table_entries}
use Rattle.meaning.specs.Answers.{Answer, gives, refused}
use Rattle.meaning.specs.Places.{below, src, marked, bitmap}
use Rattle.meaning.specs.Collect.{offset_table}
use Rattle.meaning.specs.Lookups.{Found, at, none, if_tables_fit, new_place_of, old_to_new, new_to_old}
use Rattle.meaning.proofs.Deciding.{le_or_lt, and_both}
use Rattle.meaning.proofs.Counting.{below-few, below-lt, below_same, src_below, src_live, src_at}
use Rattle.meaning.proofs.Bitmaps.{marked_in, below_at, length-bitmap, marked-bitmap, length_table, get_or_table}

-- the lengths are fit for a lookup
pub record TablesFit (live offsets : List ℕ) : Type 0 where
  pub same : length live ≡ length offsets
  pub few : length live ≤ table_entries

module _ (live offsets : List ℕ) where
  pub fit_gives : TablesFit live offsets → (a : Answer Found) → if_tables_fit live offsets a ≡ a
  fit_gives f a = rw (eq-eqb (length live) (length offsets) f.same, le-leb (length live) table_entries f.few)

  gives-fit : (a : Answer Found) (x : Found) → if_tables_fit live offsets a ≡ gives x → TablesFit live offsets × (a ≡ gives x)
  gives-fit a x e = go (eqb (length live) (length offsets) && leb (length live) table_entries) refl e
    where
      go : (b : Bool) → eqb (length live) (length offsets) && leb (length live) table_entries ≡ b → cond b a (refused 1 0) ≡ gives x → TablesFit live offsets × (a ≡ gives x)
      go true q e = let t = and_both _ _ q in (record { same = eqb-true _ _ t.0; few = leb-true _ _ t.1 }, e)
      go false q e = absurd (let z : ◌≡◌ {A = ℕ} 0 1 = cc in omega arith)

  -- ## New to old, from any tables
  -- the place that is marked with n marks below it is the answer
  pub old_at : TablesFit live offsets → (n p : ℕ) → marked live p ≡ true → below (marked live) p ≡ n → new_to_old live offsets n ≡ gives (at p)
  unfolding new_to_old
  old_at f n p e q =
      let h : p < block_words * length live = marked_in live p e in
      fit_gives f _
      ∙ rw (lt-ltb n (below (marked live) (block_words * length live)) (omega (arith, below-lt (marked live) p (block_words * length live) h e)), ← q)
      (ap (λ (x : ℕ). gives (at x)) (src_at (marked live) (block_words * length live) p h e))

  pub old_none : TablesFit live offsets → (n : ℕ) → below (marked live) (block_words * length live) ≤ n → new_to_old live offsets n ≡ gives none
  unfolding new_to_old
  old_none f n h = fit_gives f _ ∙ rw (le-ltb n (below (marked live) (block_words * length live)) h)

  -- and an answer is that place: there is one only
  pub old_exact : (n p : ℕ) → new_to_old live offsets n ≡ gives (at p) → (marked live p ≡ true) × (below (marked live) p ≡ n)
  unfolding new_to_old
  old_exact n p e = let r = gives-fit _ (at p) e in go (ltb n (below (marked live) (block_words * length live))) refl r.1
    where
      end : ℕ
      end = block_words * length live

      go : (b : Bool) → ltb n (below (marked live) end) ≡ b → cond b (gives (at (src (marked live) end n))) (gives none) ≡ gives (at p) → (marked live p ≡ true) × (below (marked live) p ≡ n)
      go true q e =
          let h = ltb-true n (below (marked live) end) q in
          let z : src (marked live) end n ≡ p = cc in
          (ap (marked live) (sym z) ∙ src_live (marked live) end n h, ap (below (marked live)) (sym z) ∙ src_below (marked live) end n h)
      go false q e = absurd (let z : ◌≡◌ {A = ℕ} 0 1 = cc in omega arith)

-- ## Exact tables: each offset entry is the number of live places below its block
pub record Exact (live offsets : List ℕ) : Type 0 where
  pub fit : TablesFit live offsets
  pub entry : (b : ℕ) → b < length live → get_or offsets b 0 ≡ below (marked live) (block_words * b)

module _ (live offsets : List ℕ) (x : Exact live offsets) where
  pub new_place_lem : (p : ℕ) → p / block_words < length live → new_place_of live offsets p ≡ below (marked live) p
  new_place_lem p h = omega (arith, x.entry (p / block_words) h, below_at live p)

  inside : (p : ℕ) → p / block_words < length live → old_to_new live offsets p ≡ cond (marked live p) (gives (at (below (marked live) p))) (gives none)
  unfolding old_to_new
  inside p h =
      let low = below-few (marked live) (block_words * (p / block_words)) in
      fit_gives live offsets x.fit _
      ∙ rw (lt-ltb (p / block_words) (length live) h, le-leb (get_or offsets (p / block_words) 0) heap_words (omega (arith, x.entry (p / block_words) h, x.fit.few)))
      (ap (λ (n : ℕ). cond (marked live p) (gives (at n)) (gives none)) (new_place_lem p h))

  outside : (p : ℕ) → length live ≤ p / block_words → old_to_new live offsets p ≡ gives none
  unfolding old_to_new
  outside p h = fit_gives live offsets x.fit _ ∙ rw (le-ltb (p / block_words) (length live) h)

  -- a live place's new place
  pub new_at : (p : ℕ) → marked live p ≡ true → old_to_new live offsets p ≡ gives (at (below (marked live) p))
  new_at p e = inside p (omega (arith, marked_in live p e)) ∙ rw e

  -- only a live place has one
  pub new_live : (p n : ℕ) → old_to_new live offsets p ≡ gives (at n) → (marked live p ≡ true) × (below (marked live) p ≡ n)
  new_live p n e = ⊎_elim
      (λ (h : length live ≤ p / block_words). absurd (let z : gives none ≡ gives (at n) = sym (outside p h) ∙ e in let y : ◌≡◌ {A = ℕ} 0 1 = cc in omega arith))
      (λ (h : p / block_words < length live). go (marked live p) refl (sym (inside p h) ∙ e))
      (le_or_lt (length live) (p / block_words))
    where
      go : (b : Bool) → marked live p ≡ b → cond b (gives (at (below (marked live) p))) (gives none) ≡ gives (at n) → (marked live p ≡ true) × (below (marked live) p ≡ n)
      go true q e = (q, cc)
      go false q e = absurd (let z : ◌≡◌ {A = ℕ} 0 1 = cc in omega arith)

  -- ## There and back, both ways
  pub new_old : (p n : ℕ) → old_to_new live offsets p ≡ gives (at n) → new_to_old live offsets n ≡ gives (at p)
  new_old p n e = let r = new_live p n e in old_at live offsets x.fit n p r.0 r.1

  pub old_new : (n p : ℕ) → new_to_old live offsets n ≡ gives (at p) → old_to_new live offsets p ≡ gives (at n)
  old_new n p e = let r = old_exact live offsets n p e in new_at p r.0 ∙ ap (λ (k : ℕ). gives (at k)) r.1

-- ## The tables of a collection are exact
module _ (t : ℕ → Bool) (n : ℕ) (few : n ≤ table_entries) where
  pub below-marked : (q : ℕ) → q ≤ block_words * n → below (marked (bitmap t n)) q ≡ below t q
  below-marked q h = below_same (marked (bitmap t n)) t q (λ p l. marked-bitmap t n p (omega arith))

  pub tables-exact : Exact (bitmap t n) (offset_table t n)
  tables-exact =
      let l = length-bitmap t n in
      record {
        fit = record { same = l ∙ sym (length_table (λ b. below t (block_words * b)) n); few = omega arith };
        entry = λ b h. get_or_table (λ b. below t (block_words * b)) n b (omega arith) ∙ sym (below-marked (block_words * b) (omega arith));
      }
