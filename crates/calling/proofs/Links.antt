-- A call made by its own function is a link of a sequence as one made by `answer` is. Assumes nothing.
use Rattle.std.proofs.Common.{ℕ, List, ℤ, Result, refl, Bor, MutBor}
use contract.Lifetimes.{Lfts}
use Rattle.refusals.specs.declared.Refusal.{Refusal}
use Rattle.store.specs.declared.Store.{Store}
use Rattle.store.specs.declared.Answer.{Answer}
use Rattle.store.specs.declared.Said.{Said}
use Rattle.store.specs.declared.Call.{Call}
use Rattle.store.specs.declared.Call.TheVariants.{PutInt, PutNil, Copy, NewRecord, NewRaw, ReadField, WriteField, ReadRaw, WriteRaw, Ask, Same}
use Rattle.calling.proofs.Sequence.{Lent, Answers, record_after, leaves_link}
use Rattle.slots.proofs.put_int.Reads as put-int
use Rattle.slots.proofs.put_nil.Reads as put-nil
use Rattle.slots.proofs.copy.Reads as copy
use Rattle.slots.proofs.same.Reads as same
use Rattle.births.proofs.new_record.Reads as new-record
use Rattle.births.proofs.new_raw.Reads as new-raw
use Rattle.fields.proofs.ask.Reads as ask
use Rattle.fields.proofs.read_field.Reads as read-field
use Rattle.fields.proofs.write_field.Reads as write-field
use Rattle.fields.proofs.read_raw.Reads as read-raw
use Rattle.fields.proofs.write_raw.Reads as write-raw

module _ (κs : Lfts 2) (store : Store) (r : Result (Answer Said) Refusal) where
  abbrev given : List ℕ → List ℕ → Lent
  given heap slots = record { store = store; heap = heap; slots = slots }

  -- over this heap and these slots the call k leaves the answer r, the heap h and the slots t
  abbrev Linked : List ℕ → List ℕ → Call → List ℕ → List ℕ → Type 0
  Linked heap slots k h t = Answers (given heap slots) k (record { answer = r; store = record_after store r; heap = h; slots = t })

  -- heap and slots lent to be changed
  module _ (heap roots : MutBor (List ℕ)) where
    pub new_record_link : (slot k : ℕ) (h t : MutBor (List ℕ)) → new-record.Post κs (store, (heap, (roots, (slot, (k, tt))))) r (store, (h, (t, (slot, (k, tt))))) → Linked heap.now roots.now (NewRecord slot k) h.now t.now
    new_record_link slot k h t p = leaves_link (given heap.now roots.now) (NewRecord slot k) _ refl p

    pub new_raw_link : (slot k : ℕ) (h t : MutBor (List ℕ)) → new-raw.Post κs (store, (heap, (roots, (slot, (k, tt))))) r (store, (h, (t, (slot, (k, tt))))) → Linked heap.now roots.now (NewRaw slot k) h.now t.now
    new_raw_link slot k h t p = leaves_link (given heap.now roots.now) (NewRaw slot k) _ refl p

  -- the slots lent to be changed
  module _ (heap : Bor (List ℕ)) (roots : MutBor (List ℕ)) where
    pub put_int_link : (slot : ℕ) (value : ℤ) (t : MutBor (List ℕ)) → put-int.Post κs (store, (heap, (roots, (slot, (value, tt))))) r (store, (heap, (t, (slot, (value, tt))))) → Linked heap.now roots.now (PutInt slot value) heap.now t.now
    put_int_link slot value t p = leaves_link (given heap.now roots.now) (PutInt slot value) _ refl p

    pub put_nil_link : (slot : ℕ) (t : MutBor (List ℕ)) → put-nil.Post κs (store, (heap, (roots, (slot, tt)))) r (store, (heap, (t, (slot, tt)))) → Linked heap.now roots.now (PutNil slot) heap.now t.now
    put_nil_link slot t p = leaves_link (given heap.now roots.now) (PutNil slot) _ refl p

    pub copy_link : (source target : ℕ) (t : MutBor (List ℕ)) → copy.Post κs (store, (heap, (roots, (source, (target, tt))))) r (store, (heap, (t, (source, (target, tt))))) → Linked heap.now roots.now (Copy source target) heap.now t.now
    copy_link source target t p = leaves_link (given heap.now roots.now) (Copy source target) _ refl p

    pub read_field_link : (o f target : ℕ) (t : MutBor (List ℕ)) → read-field.Post κs (store, (heap, (roots, (o, (f, (target, tt)))))) r (store, (heap, (t, (o, (f, (target, tt)))))) → Linked heap.now roots.now (ReadField o f target) heap.now t.now
    read_field_link o f target t p = leaves_link (given heap.now roots.now) (ReadField o f target) _ refl p

  -- the heap lent to be changed
  module _ (heap : MutBor (List ℕ)) (roots : Bor (List ℕ)) where
    pub write_field_link : (o f source : ℕ) (h : MutBor (List ℕ)) → write-field.Post κs (store, (heap, (roots, (o, (f, (source, tt)))))) r (store, (h, (roots, (o, (f, (source, tt)))))) → Linked heap.now roots.now (WriteField o f source) h.now roots.now
    write_field_link o f source h p = leaves_link (given heap.now roots.now) (WriteField o f source) _ refl p

    pub write_raw_link : (o f w : ℕ) (h : MutBor (List ℕ)) → write-raw.Post κs (store, (heap, (roots, (o, (f, (w, tt)))))) r (store, (h, (roots, (o, (f, (w, tt)))))) → Linked heap.now roots.now (WriteRaw o f w) h.now roots.now
    write_raw_link o f w h p = leaves_link (given heap.now roots.now) (WriteRaw o f w) _ refl p

  -- both lent to be read
  module _ (heap roots : Bor (List ℕ)) where
    pub read_raw_link : (o f : ℕ) → read-raw.Post κs (store, (heap, (roots, (o, (f, tt))))) r (store, (heap, (roots, (o, (f, tt))))) → Linked heap.now roots.now (ReadRaw o f) heap.now roots.now
    read_raw_link o f p = leaves_link (given heap.now roots.now) (ReadRaw o f) _ refl p

    pub ask_link : (slot : ℕ) → ask.Post κs (store, (heap, (roots, (slot, tt)))) r (store, (heap, (roots, (slot, tt)))) → Linked heap.now roots.now (Ask slot) heap.now roots.now
    ask_link slot p = leaves_link (given heap.now roots.now) (Ask slot) _ refl p

    pub same_link : (first second : ℕ) → same.Post κs (store, (heap, (roots, (first, (second, tt))))) r (store, (heap, (roots, (first, (second, tt))))) → Linked heap.now roots.now (Same first second) heap.now roots.now
    same_link first second p = leaves_link (given heap.now roots.now) (Same first second) _ refl p
