-- Each function for C, by its contract as its source states it: two ends of one call are the same. Assumes nothing.
use Prim.Native.Nat.{ℕ}
use mathlib.Core.Path.{◌≡◌}
use mathlib.Core.List.{List}
use lib.IntN.{ℤ}
use contract.Lifetimes.{Lfts}
use denote.Ref.{Bor, MutBor}
use Rattle.hasurimba.proofs.Settled.{answer_settled, bare_collect_settled, tells_settled, says_settled, collect_settled, Same, SameBuffers, SameTables}
use Rattle.hasurimba.proofs.hasurimba_check.Reads as check
use Rattle.hasurimba.proofs.hasurimba_collect.Reads as bare-collect
use Rattle.hasurimba.proofs.hasurimba_old_to_new.Reads as old-to-new
use Rattle.hasurimba.proofs.hasurimba_new_to_old.Reads as new-to-old
use Rattle.hasurimba.proofs.calls.hasurimba_put_integer.Reads as put-integer
use Rattle.hasurimba.proofs.calls.hasurimba_put_nil.Reads as put-nil
use Rattle.hasurimba.proofs.calls.hasurimba_copy.Reads as copy
use Rattle.hasurimba.proofs.calls.hasurimba_new_record.Reads as new-record
use Rattle.hasurimba.proofs.calls.hasurimba_new_raw.Reads as new-raw
use Rattle.hasurimba.proofs.calls.hasurimba_read_field.Reads as read-field
use Rattle.hasurimba.proofs.calls.hasurimba_write_field.Reads as write-field
use Rattle.hasurimba.proofs.calls.hasurimba_read_raw.Reads as read-raw
use Rattle.hasurimba.proofs.calls.hasurimba_write_raw.Reads as write-raw
use Rattle.hasurimba.proofs.calls.hasurimba_ask.Reads as ask
use Rattle.hasurimba.proofs.calls.hasurimba_same.Reads as same
use Rattle.hasurimba.proofs.calls.hasurimba_store_collect.Reads as store-collect

-- a buffer lent to be changed, and one lent to be read
abbrev Lent : Type 0
Lent = MutBor (List ℕ)

abbrev Shared : Type 0
Shared = Bor (List ℕ)

-- ## The check and the lookups: the number and the lent words
abbrev Says : (ℕ → Lent → Type 0) → Type 0
Says End = (r r' : ℕ) (out₁ out₂ : Lent) → End r out₁ → End r' out₂ → (r ≡ r') × (out₁.now ≡ out₂.now)

pub check_settled : (κs : Lfts 4) (heap : Shared) (top : ℕ) (roots marks : Shared) (out : Lent)
    → Says (λ r o. check.Post κs (heap, (top, (roots, (marks, (out, tt))))) r (heap, (top, (roots, (marks, (o, tt))))))
check_settled κs heap top roots marks out r r' out₁ out₂ = answer_settled

module _ (κs : Lfts 3) (live offsets : Shared) (place : ℕ) (out : Lent) where
  pub old_to_new_settled : Says (λ r o. old-to-new.Post κs (live, (offsets, (place, (out, tt)))) r (live, (offsets, (place, (o, tt)))))
  old_to_new_settled r r' out₁ out₂ = answer_settled

  pub new_to_old_settled : Says (λ r o. new-to-old.Post κs (live, (offsets, (place, (out, tt)))) r (live, (offsets, (place, (o, tt)))))
  new_to_old_settled r r' out₁ out₂ = answer_settled

-- ## The store calls: number, record, heap and roots
abbrev Tells : (ℕ → Lent → Lent → Lent → Type 0) → Type 0
Tells End = (r r' : ℕ) (k k' h h' t t' : Lent) → End r k h t → End r' k' h' t' → Same r r' k.now k'.now h.now h'.now t.now t'.now

module _ (κs : Lfts 3) (kept heap roots : Lent) where
  pub put-integer_settled : (slot : ℕ) (value : ℤ) → Tells (λ r k h t. put-integer.Post κs (kept, (heap, (roots, (slot, (value, tt))))) r (k, (h, (t, (slot, (value, tt))))))
  put-integer_settled slot value r r' k k' h h' t t' = tells_settled

  pub put_nil_settled : (slot : ℕ) → Tells (λ r k h t. put-nil.Post κs (kept, (heap, (roots, (slot, tt)))) r (k, (h, (t, (slot, tt)))))
  put_nil_settled slot r r' k k' h h' t t' = tells_settled

  pub copy_settled : (source target : ℕ) → Tells (λ r k h t. copy.Post κs (kept, (heap, (roots, (source, (target, tt))))) r (k, (h, (t, (source, (target, tt))))))
  copy_settled source target r r' k k' h h' t t' = tells_settled

  pub new_record_settled : (slot count : ℕ) → Tells (λ r k h t. new-record.Post κs (kept, (heap, (roots, (slot, (count, tt))))) r (k, (h, (t, (slot, (count, tt))))))
  new_record_settled slot count r r' k k' h h' t t' = tells_settled

  pub new_raw_settled : (slot count : ℕ) → Tells (λ r k h t. new-raw.Post κs (kept, (heap, (roots, (slot, (count, tt))))) r (k, (h, (t, (slot, (count, tt))))))
  new_raw_settled slot count r r' k k' h h' t t' = tells_settled

  pub read_field_settled : (object field target : ℕ) → Tells (λ r k h t. read-field.Post κs (kept, (heap, (roots, (object, (field, (target, tt)))))) r (k, (h, (t, (object, (field, (target, tt)))))))
  read_field_settled object field target r r' k k' h h' t t' = tells_settled

  pub write_field_settled : (object field source : ℕ) → Tells (λ r k h t. write-field.Post κs (kept, (heap, (roots, (object, (field, (source, tt)))))) r (k, (h, (t, (object, (field, (source, tt)))))))
  write_field_settled object field source r r' k k' h h' t t' = tells_settled

  pub write_raw_settled : (object index word : ℕ) → Tells (λ r k h t. write-raw.Post κs (kept, (heap, (roots, (object, (index, (word, tt)))))) r (k, (h, (t, (object, (index, (word, tt)))))))
  write_raw_settled object index word r r' k k' h h' t t' = tells_settled

-- with values: the lent words too
abbrev Shows : (ℕ → Lent → Lent → Lent → Lent → Type 0) → Type 0
Shows End = (r r' : ℕ) (k k' h h' t t' out₁ out₂ : Lent) → End r k h t out₁ → End r' k' h' t' out₂
    → Same r r' k.now k'.now h.now h'.now t.now t'.now × (out₁.now ≡ out₂.now)

module _ (κs : Lfts 4) (kept heap roots out : Lent) where
  pub read_raw_settled : (object index : ℕ) → Shows (λ r k h t o. read-raw.Post κs (kept, (heap, (roots, (object, (index, (out, tt)))))) r (k, (h, (t, (object, (index, (o, tt)))))))
  read_raw_settled object index r r' k k' h h' t t' out₁ out₂ = says_settled

  pub ask_settled : (slot : ℕ) → Shows (λ r k h t o. ask.Post κs (kept, (heap, (roots, (slot, (out, tt))))) r (k, (h, (t, (slot, (o, tt))))))
  ask_settled slot r r' k k' h h' t t' out₁ out₂ = says_settled

  pub same_settled : (first second : ℕ) → Shows (λ r k h t o. same.Post κs (kept, (heap, (roots, (first, (second, (out, tt)))))) r (k, (h, (t, (first, (second, (o, tt)))))))
  same_settled first second r r' k k' h h' t t' out₁ out₂ = says_settled

-- ## The collections: every buffer
module _ (κs : Lfts 7) (heap : Lent) (top : ℕ) (roots marks : Lent) (order : Shared) (live offsets out : Lent) where
  abbrev BareCollect : ℕ → Lent → Lent → Lent → Lent → Lent → Lent → Type 0
  BareCollect r h t m l o w =
      bare-collect.Post κs (heap, (top, (roots, (marks, (order, (live, (offsets, (out, tt)))))))) r (h, (top, (t, (m, (order, (l, (o, (w, tt))))))))

  pub bare_collection_settled : (r r' : ℕ) (h h' t t' m m' l l' o o' w w' : Lent) → BareCollect r h t m l o w → BareCollect r' h' t' m' l' o' w'
      → ((r ≡ r') × (w.now ≡ w'.now)) × SameBuffers h.now h'.now t.now t'.now m.now m'.now l.now l'.now o.now o'.now
  bare_collection_settled r r' h h' t t' m m' l l' o o' w w' = bare_collect_settled

module _ (κs : Lfts 8) (kept heap roots marks : Lent) (order : Shared) (live offsets out : Lent) where
  abbrev StoreCollect : ℕ → Lent → Lent → Lent → Lent → Lent → Lent → Lent → Type 0
  StoreCollect r k h t m l o w =
      store-collect.Post κs (kept, (heap, (roots, (marks, (order, (live, (offsets, (out, tt)))))))) r (k, (h, (t, (m, (order, (l, (o, (w, tt))))))))

  pub store-collection_settled : (r r' : ℕ) (k k' h h' t t' m m' l l' o o' w w' : Lent) → StoreCollect r k h t m l o w → StoreCollect r' k' h' t' m' l' o' w'
      → (Same r r' k.now k'.now h.now h'.now t.now t'.now × (w.now ≡ w'.now)) × SameTables m.now m'.now l.now l'.now o.now o'.now
  store-collection_settled r r' k k' h h' t t' m m' l l' o o' w w' = collect_settled
