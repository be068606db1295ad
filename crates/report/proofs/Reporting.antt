-- What a placed text reports: the lines of a collection, and what is printed for an image. Assumes nothing.
use Prim.Native.Nat.{ℕ, ◌+◌, ◌/◌, ◌≤◌}
use mathlib.Core.Path.{◌≡◌, refl, sym, ap, subst, ◌∙◌}
use mathlib.Core.Bool.{◌&&◌}
use mathlib.Core.List.{List, [], ◌∷◌, ◌++◌}
use native.Mathlib.Omega.{arith}
use lib.ListN.{length, take, drop, replicate, length-replicate}
use lib.Seq.{length-take-le}
use Rattle.std.proofs.lemmas.List.{take-replicate}
use Rattle.meaning.specs.Limits.{blocks_of}
use Rattle.meaning.specs.Answers.{Answer, gives, refused}
use Rattle.meaning.specs.Places.{places_from, below, marked}
use Rattle.meaning.specs.Objects.{Object}
use Rattle.meaning.specs.Slide.{live_at}
use Rattle.meaning.specs.Blocks.{order_breaks}
use Rattle.meaning.specs.Collect.{Totals, After, ordered, collected, checked, sizes_fit, tables_fit, collect}
use Rattle.meaning.specs.Text.{refused_line, lines}
use Rattle.meaning.specs.Image.{most_words, most_roots, most_steps, Contents as Table, word_at, words_from, pairs_from, image_of, judged_contents, collection_of, lines_of, printed}
use Rattle.meaning.proofs.Counting.{below-few}
use Rattle.meaning.proofs.Bitmaps.{length_table}
use Rattle.std.proofs.Common.{Ok, Err}
use Rattle.refusals.specs.Paper.{number_of, place_of}
use Rattle.refusals.specs.declared.Refusal.{Refusal}
use Rattle.compactor.specs.declared.Totals.{Totals as Done}
use Rattle.compactor.specs.Collects.{totals_of, Collects}
use Rattle.text.specs.Placed.{Placed}
use Rattle.image.specs.Judging.{Fitting}
use Rattle.report.specs.Reports.{most_blocks, marks_after, Reports}

zeros_long : (n k : ℕ) → n ≤ k → length (take n (replicate {A = ℕ} k 0)) ≡ n
zeros_long n k h = length-take-le n (replicate k 0) (omega (arith, length-replicate {A = ℕ} k 0))

-- ## The bodies copied

module _ {bytes : List ℕ} {t : Table} (f : Fitting bytes t) where
  few : t.halves / 2 ≤ most_blocks
  few = omega (arith, f.blocks, f.words)

  -- the collection of an image is that of its bodies, with blank tables
  pub collection_is : (heap roots marks order live offsets : List ℕ)
      → heap ≡ (image_of bytes t).heap → roots ≡ (image_of bytes t).roots → marks ≡ (image_of bytes t).marks → order ≡ (image_of bytes t).order
      → live ≡ replicate (t.halves / 2) 0 → offsets ≡ replicate (t.halves / 2) 0
      → collect heap t.top roots marks order live offsets ≡ collection_of (image_of bytes t)
  unfolding collection_of
  collection_is heap roots marks order live offsets h r m o l e =
      let n : blocks_of (length (image_of bytes t).heap) ≡ t.halves / 2 = ap blocks_of (length_table (λ i. word_at bytes (t.heap + i)) t.words) ∙ sym f.blocks in
      rw (n, h, r, m, o, l, e) refl

  -- and so of its bodies in the first parts of the program's buffers
  pub collection_in_buffers : (found : List ℕ) → most_blocks ≤ length found → {heap roots marks order : List ℕ}
      → heap ≡ words_from bytes t.heap (length (take t.words (replicate {A = ℕ} most_words 0)))
      → roots ≡ words_from bytes t.roots (length (take t.slots (replicate {A = ℕ} most_roots 0)))
      → marks ≡ pairs_from bytes t.marks (length (take (t.halves / 2) found))
      → order ≡ words_from bytes t.order (length (take t.steps (replicate {A = ℕ} most_steps 0)))
      → collect heap t.top roots marks order (take (t.halves / 2) (replicate most_blocks 0)) (take (t.halves / 2) (replicate most_blocks 0))
      ≡ collection_of (image_of bytes t)
  collection_in_buffers found long {heap} {roots} {marks} {order} h r m o =
      let blank = take-replicate {X = ℕ} (t.halves / 2) most_blocks 0 few in
      collection_is heap roots marks order _ _
      (rw (zeros_long t.words most_words f.words) at h)
      (rw (zeros_long t.slots most_roots f.slots) at r)
      (rw (length-take-le (t.halves / 2) found (omega (arith, few))) at m)
      (rw (zeros_long t.steps most_steps f.steps) at o)
      blank
      blank

-- ## A text in the buffer

pub reports_placed : {text wanted marks before after : List ℕ} {most r : ℕ} → Placed before after 0 text most r → marks ≡ wanted → Reports text wanted marks before after r
reports_placed {text = text} {r = r} p e = record { ends = omega (arith, p.ends); written = p.written; rest = p.rest; marks_are = e }

-- the marks come first in a bitmap of which the rest is as found
pub reports_part : {text wanted marks before after : List ℕ} {r : ℕ} (rest : List ℕ) → Reports text wanted marks before after r → Reports text (wanted ++ rest) (marks ++ rest) before after r
reports_part rest p = record { ends = p.ends; written = p.written; rest = p.rest; marks_are = ap (λ (l : List ℕ). l ++ rest) p.marks_are }

-- ## A collection

module _ (heap : List ℕ) (top : ℕ) (roots marks : List ℕ) where
  ordered-low : (os : List Object) (live offsets breaks : List ℕ) (t : Totals) → (ordered heap top roots marks os live offsets breaks).answer ≡ gives t → t.top ≤ top
  ordered-low os live offsets [] t e =
      let same : t.top ≡ below (live_at (marked marks) os) top = cc in omega (arith, same, below-few (live_at (marked marks) os) top)
  ordered-low os live offsets (i ∷ is) t e = absurd cc

  collected-low : (order live offsets : List ℕ) (a : Answer (List Object)) (t : Totals) → (collected heap top roots marks order live offsets a).answer ≡ gives t → t.top ≤ top
  collected-low order live offsets (refused n p) t e = absurd cc
  collected-low order live offsets (gives os) t e = ordered-low os _ _ (order_breaks (places_from (live_at (marked marks) os) 0 top) order) t e

  -- the new top is not above the old one
  pub top-low : (order live offsets : List ℕ) (t : Totals) → (collect heap top roots marks order live offsets).answer ≡ gives t → t.top ≤ top
  unfolding collect
  top-low order live offsets t e =
      collected-low order live offsets (checked heap top roots marks (sizes_fit heap top roots marks && tables_fit heap order live offsets)) t e

module _ {c : After} {heap roots marks live offsets : List ℕ} {before after : List ℕ} {most n : ℕ} where
  pub reports_uncollected : {e : Refusal} → Collects c (Err e) heap roots marks live offsets
      → Placed before after 0 (refused_line (number_of e) (place_of e)) most n → Reports (lines_of c) c.marks marks before after n
  reports_uncollected s p = rw (← s.answer_is) (reports_placed p s.marks_are)

  pub reports_collected : {t : Done} → Collects c (Ok t) heap roots marks live offsets
      → Placed before after 0 (lines (gives (totals_of t)) heap roots) most n → Reports (lines_of c) c.marks marks before after n
  reports_collected s p = rw (← s.answer_is, ← s.heap_is, ← s.roots_are) (reports_placed p s.marks_are)

-- ## An image

pub reports_same : {c d : After} {marks before after : List ℕ} {r : ℕ} → c ≡ d → Reports (lines_of c) c.marks marks before after r → Reports (lines_of d) d.marks marks before after r
reports_same {marks = marks} {before} {after} {r} e p = subst (λ (c : After). Reports (lines_of c) c.marks marks before after r) e p

module _ (bytes marks : List ℕ) {before after : List ℕ} {r : ℕ} where
  -- contents refused
  pub reports_unfit : {number place most : ℕ} → refused number place ≡ judged_contents bytes → Placed before after 0 (refused_line number place) most r
      → Reports (printed bytes) (marks_after bytes marks) marks before after r
  unfolding printed marks_after
  reports_unfit e p = rw (← e) (reports_placed p refl)

  -- and accepted
  pub reports_good : {t : Table} {marks' : List ℕ} → gives t ≡ judged_contents bytes
      → (let c = collection_of (image_of bytes t) in Reports (lines_of c) (c.marks ++ drop (t.halves / 2) marks) marks' before after r)
      → Reports (printed bytes) (marks_after bytes marks) marks' before after r
  unfolding printed marks_after
  reports_good e p = rw (← e) p
