-- The promises of the two wrappers settle what is said, the record and every lent buffer. Assumes nothing.
use Rattle.std.proofs.Common.{◌≡◌, ℕ, List, Result, sym, ap, ◌∙◌, Bor, MutBor}
use contract.Lifetimes.{Lfts}
use Rattle.meaning.specs.Answers.{Answer as Answered}
use Rattle.meaning.specs.Calls.{Did}
use Rattle.meaning.specs.Store.{Mem}
use Rattle.refusals.specs.declared.Refusal.{Refusal}
use Rattle.store.specs.declared.Store.{Store}
use Rattle.store.specs.declared.Said.{Said}
use Rattle.store.specs.declared.Call.{Call}
use Rattle.calling.proofs.Settled.{said_one, store_back}
use Rattle.lent.specs.Lent.{Leaves}
use Rattle.lent.proofs.answer.Reads as answer
use Rattle.lent.proofs.collect.Reads as collect

-- two ends of a call: what is said, the record, heap and slots
pub record Same (r r' : Result Said Refusal) (s s' : Store) (h h' t t' : List ℕ) : Type 0 where
  pub answers : r ≡ r'
  pub records : s ≡ s'
  pub heaps : h ≡ h'
  pub slots_same : t ≡ t'

leaves_settled : {m : Mem} {x : Answered (Did Mem)} {r r' : Result Said Refusal} {s s' : Store} {h h' t t' : List ℕ} → Leaves m x r s h t → Leaves m x r' s' h' t' → Same r r' s s' h h' t t'
leaves_settled {m} {x} {r} {r'} {s} {s'} p q = record {
  answers = said_one r r' (p.answer_is ∙ sym q.answer_is);
  records = ap store_back (p.store_is ∙ sym q.store_is);
  heaps = p.heap_is ∙ sym q.heap_is;
  slots_same = p.slots_are ∙ sym q.slots_are;
}

-- of a collection also marks and tables
pub record SameCollected (r r' : Result Said Refusal) (s s' : Store) (h h' t t' m m' l l' o o' : List ℕ) : Type 0 where
  pub ends : Same r r' s s' h h' t t'
  pub marks_same : m ≡ m'
  pub lives : l ≡ l'
  pub offsets_same : o ≡ o'

module _ (κs : Lfts 3) (store : MutBor Store) (heap roots : MutBor (List ℕ)) (call : Call) where
  -- the call says r, and leaves the record s, the heap h and the slots t
  abbrev Answer : Result Said Refusal → MutBor Store → MutBor (List ℕ) → MutBor (List ℕ) → Type 0
  Answer r s h t = answer.Post κs (store, (heap, (roots, (call, tt)))) r (s, (h, (t, (call, tt))))

  -- two ends of one call are the same
  pub answer_settled : (r r' : Result Said Refusal) (s s' : MutBor Store) (h h' t t' : MutBor (List ℕ)) → Answer r s h t → Answer r' s' h' t'
      → Same r r' s.now s'.now h.now h'.now t.now t'.now
  answer_settled r r' s s' h h' t t' = leaves_settled

module _ (κs : Lfts 7) (store : MutBor Store) (heap roots marks : MutBor (List ℕ)) (order : Bor (List ℕ)) (live offsets : MutBor (List ℕ)) where
  -- the collection says r, and leaves the record s and the buffers h, t, m, l and o
  abbrev Collect : Result Said Refusal → MutBor Store → MutBor (List ℕ) → MutBor (List ℕ) → MutBor (List ℕ) → MutBor (List ℕ) → MutBor (List ℕ) → Type 0
  Collect r s h t m l o =
      collect.Post κs (store, (heap, (roots, (marks, (order, (live, (offsets, tt))))))) r (s, (h, (t, (m, (order, (l, (o, tt)))))))

  pub collect_settled : (r r' : Result Said Refusal) (s s' : MutBor Store) (h h' t t' m m' l l' o o' : MutBor (List ℕ)) → Collect r s h t m l o → Collect r' s' h' t' m' l' o'
      → SameCollected r r' s.now s'.now h.now h'.now t.now t'.now m.now m'.now l.now l'.now o.now o'.now
  collect_settled r r' s s' h h' t t' m m' l l' o o' p q = record {
    ends = leaves_settled p.leaves q.leaves;
    marks_same = p.marks_are ∙ sym q.marks_are;
    lives = p.live_is ∙ sym q.live_is;
    offsets_same = p.offsets_are ∙ sym q.offsets_are;
  }
