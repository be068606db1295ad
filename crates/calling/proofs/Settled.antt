-- The promises of the store's calls settle the answer, the record and every lent buffer. Assumes nothing.
use Rattle.std.proofs.Common.{◌≡◌, ℕ, List, ℤ, Result, Ok, Err, sym, refl, ap, ◌∙◌, Bor, MutBor}
use contract.Lifetimes.{Lfts}
use Rattle.meaning.specs.Answers.{Answer as Answered}
use Rattle.meaning.specs.Calls.{Brought, Did, Said as OnPaper, done, integer, is_nil, is_record, is_raw, word, the_same, collected}
use Rattle.meaning.specs.Store.{Store as PaperStore, Mem}
use Rattle.refusals.specs.Paper.{answer_of}
use Rattle.refusals.specs.declared.Refusal.{Refusal}
use Rattle.refusals.proofs.OneToOne.{answer_one}
use Rattle.store.specs.declared.Store.{Store}
use Rattle.store.specs.declared.Answer.{Answer}
use Rattle.store.specs.declared.Call.{Call}
use Rattle.store.specs.declared.Said.{Said}
use Rattle.store.specs.declared.Said.TheVariants.{Done, Integer, Nil, Record, Raw, Word, Same as SameSaid, Collected}
use Rattle.store.specs.Contract.{paper_said, said_of, store_after, Leaves, LeavesCollected}
use Rattle.calling.proofs.answer.Reads as answer
use Rattle.calling.proofs.collect.Reads as collect
use Rattle.slots.proofs.put_int.Reads as put-int
use Rattle.slots.proofs.put_nil.Reads as put-nil
use Rattle.slots.proofs.copy.Reads as copy
use Rattle.slots.proofs.same.Reads as same
use Rattle.births.proofs.new_record.Reads as new-record
use Rattle.births.proofs.new_raw.Reads as new-raw
use Rattle.fields.proofs.ask.Reads as ask
use Rattle.fields.proofs.read_field.Reads as read-field
use Rattle.fields.proofs.write_field.Reads as write-field
use Rattle.fields.proofs.read_raw.Reads as read-raw
use Rattle.fields.proofs.write_raw.Reads as write-raw

-- ## One to one
abbrev pub said_back : OnPaper → Said
said_back done = Done
said_back (integer z) = Integer z
said_back is_nil = Nil
said_back (is_record n) = Record n
said_back (is_raw n) = Raw n
said_back (word w) = Word w
said_back (the_same b) = SameSaid b
said_back (collected t) = Collected t.top t.objects t.blocks

said_back_lem : (a : Said) → said_back (paper_said a) ≡ a
said_back_lem Done = refl
said_back_lem (Integer z) = refl
said_back_lem Nil = refl
said_back_lem (Record n) = refl
said_back_lem (Raw n) = refl
said_back_lem (Word w) = refl
said_back_lem (SameSaid b) = refl
said_back_lem (Collected top objects blocks) = refl

pub paper_back : (x : OnPaper) → paper_said (said_back x) ≡ x
paper_back done = refl
paper_back (integer z) = refl
paper_back is_nil = refl
paper_back (is_record n) = refl
paper_back (is_raw n) = refl
paper_back (word w) = refl
paper_back (the_same b) = refl
paper_back (collected t) = refl

pub said_one : (a b : Result Said Refusal) → answer_of paper_said a ≡ answer_of paper_said b → a ≡ b
said_one = answer_one paper_said said_back said_back_lem

abbrev pub store_back : PaperStore → Store
store_back p = record { top = p.top; calls = p.calls }

-- an answer is known by what it says and the record that stands after it
pub answer_known : (m : Mem) (r s : Result (Answer Said) Refusal) → said_of r ≡ said_of s → store_after m r ≡ store_after m s → r ≡ s
answer_known m (Ok a) (Ok b) e f =
    let s : a.said ≡ b.said = let q = said_one (Ok a.said) (Ok b.said) e in cc in
    let t : a.store ≡ b.store = ap store_back f in
    λ i. Ok (record { store = t i; said = s i })
answer_known m (Err d) (Err e) p f = let q : ◌≡◌ {A = Result Said Refusal} (Err d) (Err e) = said_one (Err d) (Err e) p in cc
answer_known m (Ok a) (Err e) p f = cc
answer_known m (Err d) (Ok b) p f = cc

-- ## Two ends
pub record Same (r s : Result (Answer Said) Refusal) (h h' t t' : List ℕ) : Type 0 where
  pub answers : r ≡ s
  pub heaps : h ≡ h'
  pub slots_same : t ≡ t'

-- the same memory and call on paper, the same answer and buffers
pub leaves_settled : {m : Mem} {x : Answered (Did Mem)} {r s : Result (Answer Said) Refusal} {h h' t t' : List ℕ} → Leaves m x r h t → Leaves m x s h' t' → Same r s h h' t t'
leaves_settled {m} {x} {r} {s} p q = record {
  answers = answer_known m r s (p.answer_is ∙ sym q.answer_is) (p.store_is ∙ sym q.store_is);
  heaps = p.heap_is ∙ sym q.heap_is;
  slots_same = p.slots_are ∙ sym q.slots_are;
}

-- of a collection also marks and tables
pub record SameCollected (r s : Result (Answer Said) Refusal) (h h' t t' m m' l l' o o' : List ℕ) : Type 0 where
  pub ends : Same r s h h' t t'
  pub marks_same : m ≡ m'
  pub lives : l ≡ l'
  pub offsets_same : o ≡ o'

pub leaves-collected_settled : {mem : Mem} {b : Brought} {r s : Result (Answer Said) Refusal} {h h' t t' m m' l l' o o' : List ℕ}
    → LeavesCollected mem b r h t m l o → LeavesCollected mem b s h' t' m' l' o' → SameCollected r s h h' t t' m m' l l' o o'
leaves-collected_settled p q = record {
  ends = leaves_settled p.leaves q.leaves;
  marks_same = p.marks_are ∙ sym q.marks_are;
  lives = p.live_is ∙ sym q.live_is;
  offsets_same = p.offsets_are ∙ sym q.offsets_are;
}

-- ## The functions' own promises: two ends of one call are the same
-- a call that lends heap and slots to be changed, one of them, or none
abbrev Both : (Result (Answer Said) Refusal → MutBor (List ℕ) → MutBor (List ℕ) → Type 0) → Type 0
Both End = (r s : Result (Answer Said) Refusal) (h h' t t' : MutBor (List ℕ)) → End r h t → End s h' t' → Same r s h.now h'.now t.now t'.now

abbrev One : (Result (Answer Said) Refusal → MutBor (List ℕ) → Type 0) → Type 0
One End = (r s : Result (Answer Said) Refusal) (b b' : MutBor (List ℕ)) → End r b → End s b' → (r ≡ s) × (b.now ≡ b'.now)

abbrev Alone : (Result (Answer Said) Refusal → Type 0) → Type 0
Alone End = (r s : Result (Answer Said) Refusal) → End r → End s → r ≡ s

module _ (κs : Lfts 2) (store : Store) where
  -- heap and slots lent to be changed
  module _ (heap roots : MutBor (List ℕ)) where
    pub answer_settled : (k : Call) → Both (λ r h t. answer.Post κs (store, (heap, (roots, (k, tt)))) r (store, (h, (t, (k, tt)))))
    answer_settled k r s h h' t t' p q = leaves_settled p q

    pub new_record_settled : (slot k : ℕ) → Both (λ r h t. new-record.Post κs (store, (heap, (roots, (slot, (k, tt))))) r (store, (h, (t, (slot, (k, tt))))))
    new_record_settled slot k r s h h' t t' p q = leaves_settled p q

    pub new_raw_settled : (slot k : ℕ) → Both (λ r h t. new-raw.Post κs (store, (heap, (roots, (slot, (k, tt))))) r (store, (h, (t, (slot, (k, tt))))))
    new_raw_settled slot k r s h h' t t' p q = leaves_settled p q

  -- the slots lent to be changed
  module _ (heap : Bor (List ℕ)) (roots : MutBor (List ℕ)) where
    pub put_int_settled : (slot : ℕ) (value : ℤ) → One (λ r b. put-int.Post κs (store, (heap, (roots, (slot, (value, tt))))) r (store, (heap, (b, (slot, (value, tt))))))
    put_int_settled slot value r s b b' p q = let e = leaves_settled p q in (e.answers, e.slots_same)

    pub put_nil_settled : (slot : ℕ) → One (λ r b. put-nil.Post κs (store, (heap, (roots, (slot, tt)))) r (store, (heap, (b, (slot, tt)))))
    put_nil_settled slot r s b b' p q = let e = leaves_settled p q in (e.answers, e.slots_same)

    pub copy_settled : (source target : ℕ) → One (λ r b. copy.Post κs (store, (heap, (roots, (source, (target, tt))))) r (store, (heap, (b, (source, (target, tt))))))
    copy_settled source target r s b b' p q = let e = leaves_settled p q in (e.answers, e.slots_same)

    pub read_field_settled : (o f target : ℕ) → One (λ r b. read-field.Post κs (store, (heap, (roots, (o, (f, (target, tt)))))) r (store, (heap, (b, (o, (f, (target, tt)))))))
    read_field_settled o f target r s b b' p q = let e = leaves_settled p q in (e.answers, e.slots_same)

  -- the heap lent to be changed
  module _ (heap : MutBor (List ℕ)) (roots : Bor (List ℕ)) where
    pub write_field_settled : (o f source : ℕ) → One (λ r b. write-field.Post κs (store, (heap, (roots, (o, (f, (source, tt)))))) r (store, (b, (roots, (o, (f, (source, tt)))))))
    write_field_settled o f source r s b b' p q = let e = leaves_settled p q in (e.answers, e.heaps)

    pub write_raw_settled : (o f w : ℕ) → One (λ r b. write-raw.Post κs (store, (heap, (roots, (o, (f, (w, tt)))))) r (store, (b, (roots, (o, (f, (w, tt)))))))
    write_raw_settled o f w r s b b' p q = let e = leaves_settled p q in (e.answers, e.heaps)

  -- both lent to be read
  module _ (heap roots : Bor (List ℕ)) where
    pub read_raw_settled : (o f : ℕ) → Alone (λ r. read-raw.Post κs (store, (heap, (roots, (o, (f, tt))))) r (store, (heap, (roots, (o, (f, tt))))))
    read_raw_settled o f r s p q = (leaves_settled p q).answers

    pub ask_settled : (slot : ℕ) → Alone (λ r. ask.Post κs (store, (heap, (roots, (slot, tt)))) r (store, (heap, (roots, (slot, tt)))))
    ask_settled slot r s p q = (leaves_settled p q).answers

    pub same_settled : (first second : ℕ) → Alone (λ r. same.Post κs (store, (heap, (roots, (first, (second, tt))))) r (store, (heap, (roots, (first, (second, tt))))))
    same_settled first second r s p q = (leaves_settled p q).answers

module _ (κs : Lfts 6) (store : Store) (heap roots marks : MutBor (List ℕ)) (order : Bor (List ℕ)) (live offsets : MutBor (List ℕ)) where
  -- the collection ends with answer r, and the buffers hold h, t, m, l and o
  abbrev Collect : Result (Answer Said) Refusal → MutBor (List ℕ) → MutBor (List ℕ) → MutBor (List ℕ) → MutBor (List ℕ) → MutBor (List ℕ) → Type 0
  Collect r h t m l o =
      collect.Post κs (store, (heap, (roots, (marks, (order, (live, (offsets, tt))))))) r (store, (h, (t, (m, (order, (l, (o, tt)))))))

  pub collect_settled : (r s : Result (Answer Said) Refusal) (h h' t t' m m' l l' o o' : MutBor (List ℕ)) → Collect r h t m l o → Collect s h' t' m' l' o'
      → SameCollected r s h.now h'.now t.now t'.now m.now m'.now l.now l'.now o.now o'.now
  collect_settled r s h h' t t' m m' l l' o o' p q = leaves-collected_settled p q
