-- The promise of the collection settles its answer and every lent buffer, and what follows from it for accepted orders, the live words and
-- the lookups over the tables that it leaves. Assumes nothing.
use mathlib.Core.Path.{◌≡◌, refl, sym, ap, ◌∙◌}
use mathlib.Core.Bool.{true}
use mathlib.Core.List.{List}
use Prim.Native.Nat.{ℕ}
use lib.ListN.{get_or}
use contract.Lifetimes.{Lfts}
use denote.Ref.{Bor}
use denote.MutBor.{MutBor}
use Rattle.meaning.specs.Answers.{gives}
use Rattle.meaning.specs.Places.{below, marked}
use Rattle.meaning.specs.Objects.{Object, all, parse}
use Rattle.meaning.specs.Slide.{slide, live_at}
use Rattle.meaning.specs.Words.{fixed}
use Rattle.meaning.specs.Collect.{Totals as PaperTotals, After, collect as on_paper}
use Rattle.meaning.specs.Lookups.{at, old_to_new, new_to_old}
use Rattle.meaning.proofs.CollectionSays.{orders_agree}
use Rattle.meaning.proofs.CollectionLeaves.{collect_parses, live-word-moved, new-place-told, old-place-told}
use Rattle.std.proofs.Common.{Result, Ok}
use Rattle.refusals.specs.declared.Refusal.{Refusal}
use Rattle.refusals.proofs.OneToOne.{answer_one}
use Rattle.compactor.specs.Collects.{totals_of, collected_totals, Collects}
use Rattle.compactor.specs.declared.Totals.{Totals}
use Rattle.compactor.proofs.collect.Reads as collect

-- ## One to one
abbrev totals_at : PaperTotals → Totals
totals_at t = record { top = t.top; objects = t.objects; blocks = t.blocks }

pub collected_totals_one : (r s : Result Totals Refusal) → collected_totals r ≡ collected_totals s → r ≡ s
collected_totals_one = answer_one totals_of totals_at (λ t. refl)

-- accepted, with these numbers
abbrev pub accepted : ℕ → ℕ → ℕ → Result Totals Refusal
accepted top objects blocks = Ok (record { top = top; objects = objects; blocks = blocks })

-- ## Two ends
pub record Same (r s : Result Totals Refusal) (h h' t t' m m' l l' o o' : List ℕ) : Type 0 where
  pub answers : r ≡ s
  pub heaps : h ≡ h'
  pub roots_same : t ≡ t'
  pub marks_same : m ≡ m'
  pub lives : l ≡ l'
  pub offsets_same : o ≡ o'

-- the same collection on paper, the same answer and buffers
same_ends : (c d : After) (r s : Result Totals Refusal) (h h' t t' m m' l l' o o' : List ℕ) → c ≡ d → Collects c r h t m l o → Collects d s h' t' m' l' o'
    → Same r s h h' t t' m m' l l' o o'
same_ends c d r s h h' t t' m m' l l' o o' e p q = record {
  answers = collected_totals_one r s (p.answer_is ∙ ap (λ (a : After). a.answer) e ∙ sym q.answer_is);
  heaps = p.heap_is ∙ ap (λ (a : After). a.heap) e ∙ sym q.heap_is;
  roots_same = p.roots_are ∙ ap (λ (a : After). a.roots) e ∙ sym q.roots_are;
  marks_same = p.marks_are ∙ ap (λ (a : After). a.marks) e ∙ sym q.marks_are;
  lives = p.live_is ∙ ap (λ (a : After). a.live) e ∙ sym q.live_is;
  offsets_same = p.offsets_are ∙ ap (λ (a : After). a.offsets) e ∙ sym q.offsets_are;
}

module _ (κs : Lfts 6) (heap : MutBor (List ℕ)) (top : ℕ) (roots marks live offsets : MutBor (List ℕ)) where
  -- the call with an order ends with answer r, and the buffers hold h, t, m, l and o
  abbrev pub Collect : Bor (List ℕ) → Result Totals Refusal → MutBor (List ℕ) → MutBor (List ℕ) → MutBor (List ℕ) → MutBor (List ℕ) → MutBor (List ℕ) → Type 0
  Collect order r h t m l o =
      collect.Post κs (heap, (top, (roots, (marks, (order, (live, (offsets, tt))))))) r (h, (top, (t, (m, (order, (l, (o, tt)))))))

  -- two ends of one call are the same
  pub collect_settled : (order : Bor (List ℕ)) (r s : Result Totals Refusal) (h h' t t' m m' l l' o o' : MutBor (List ℕ))
      → Collect order r h t m l o → Collect order s h' t' m' l' o'
      → Same r s h.now h'.now t.now t'.now m.now m'.now l.now l'.now o.now o'.now
  collect_settled order r s h h' t t' m m' l l' o o' p q = same_ends _ _ r s _ _ _ _ _ _ _ _ _ _ refl p q

  -- and so are the ends of two calls whose orders are accepted
  pub orders_settled : (order order' : Bor (List ℕ)) (L n b L' n' b' : ℕ) (h h' t t' m m' l l' o o' : MutBor (List ℕ))
      → Collect order (accepted L n b) h t m l o → Collect order' (accepted L' n' b') h' t' m' l' o'
      → Same (accepted L n b) (accepted L' n' b') h.now h'.now t.now t'.now m.now m'.now l.now l'.now o.now o'.now
  orders_settled order order' L n b L' n' b' h h' t t' m m' l l' o o' p q =
      same_ends _ _ (accepted L n b) (accepted L' n' b') _ _ _ _ _ _ _ _ _ _
      (orders_agree heap.now top roots.now marks.now live.now offsets.now order.now order'.now _ _ (sym p.answer_is) (sym q.answer_is)) p q

  -- ## After a success, where the heap parsed to os
  module _ (order : Bor (List ℕ)) (L n b : ℕ) (h t m l o : MutBor (List ℕ)) (end : Collect order (accepted L n b) h t m l o)
      (os : List Object) (parsed : parse heap.now top ≡ all os) where
    done : (on_paper heap.now top roots.now marks.now order.now live.now offsets.now).answer ≡ gives (record { top = L; objects = n; blocks = b })
    done = sym end.answer_is

    -- the heap holds the kept objects, fixed
    pub heap-settled : parse h.now L ≡ all (slide (marked marks.now) os)
    heap-settled = rw end.heap_is (collect_parses heap.now top roots.now marks.now order.now live.now offsets.now _ done os parsed)

    module _ (p : ℕ) (lives : live_at (marked marks.now) os p ≡ true) where
      -- a live word stands, fixed, at its new place
      pub live-word-settled : get_or h.now (below (live_at (marked marks.now) os) p) 0 ≡ fixed heap.now (marked marks.now) p
      live-word-settled =
          rw end.heap_is (live-word-moved heap.now top roots.now marks.now order.now live.now offsets.now _ done os parsed p lives)

      -- and the tables tell the new place and the old
      pub new-place-settled : old_to_new l.now o.now p ≡ gives (at (below (live_at (marked marks.now) os) p))
      new-place-settled =
          rw (end.live_is, end.offsets_are) (new-place-told heap.now top roots.now marks.now order.now live.now offsets.now _ done os parsed p lives)

      pub old-place-settled : new_to_old l.now o.now (below (live_at (marked marks.now) os) p) ≡ gives (at p)
      old-place-settled =
          rw (end.live_is, end.offsets_are) (old-place-told heap.now top roots.now marks.now order.now live.now offsets.now _ done os parsed p lives)
