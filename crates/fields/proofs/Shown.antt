-- What a slot shows decides what a call about it says and leaves. Assumes nothing.
use Rattle.std.proofs.Common.{◌≡◌, ℕ, suc, ◌+◌, ◌<◌, true, List, length, refl, sym, ap, ◌∙◌, Result, Ok, Err}
use borrow.Author.Tests.{lt-ltb}
use Rattle.meaning.specs.Answers.{Answer as Answered, gives, refused}
use Rattle.meaning.specs.Calls.{Call, Did, Shown, find, fits, judgeable, ask, admit}
use Rattle.meaning.specs.Store.{Mem, view_of, shown, asked, act, answered}
use Rattle.refusals.specs.Paper.{number_of, place_of}
use Rattle.refusals.specs.declared.Refusal.{Refusal}
use Rattle.headers.specs.declared.Kind.{Kind}
use Rattle.store.specs.declared.Store.{Store}
use Rattle.store.specs.declared.Said.{Said}
use Rattle.store.specs.declared.Answer.{Answer}
use Rattle.store.specs.Contract.{mem_of, store_of, paper_said, Leaves, ticked_of, told_of}
use Rattle.fields.specs.declared.Seen.{Seen}
use Rattle.fields.specs.declared.Seen.TheVariants.{Number, Empty, Object, Stray}
use Rattle.fields.specs.Fields.{seen_of, no_object, found_of, finding, field_of, Finds}

-- where no object is shown, 13 or 8
pub no_find : (kind o f : ℕ) (x : Seen) → ((p : ℕ) (k : Kind) (n : ℕ) → x ≡ Object p k n → ⊥)
    → find kind o f (seen_of x) ≡ refused (number_of (no_object (seen_of x) o)) o
no_find kind o f (Number z) h = refl
no_find kind o f Empty h = refl
no_find kind o f Stray h = refl
no_find kind o f (Object p k n) h = absurd (h p k n refl)

-- what is not stray is judgeable
pub judged_seen : (s : ℕ) (x : Seen) → (x ≡ Stray → ⊥) → (p : ℕ) × (judgeable s (seen_of x) ≡ gives p)
judged_seen s (Number z) h = (0, refl)
judged_seen s Empty h = (0, refl)
judged_seen s (Object p k n) h = (p, refl)
judged_seen s Stray h = absurd (h refl)

-- an ask of what is not stray
pub leaves-asked : (heap slots : List ℕ) (s : Store) (slot : ℕ) (x : Seen) (a : Said) (r : Result (Answer Said) Refusal)
    → fits (view_of (mem_of heap slots s)) ≡ true → slot < length slots → seen_of x ≡ shown (mem_of heap slots s) slot → (x ≡ Stray → ⊥)
    → r ≡ Ok (told_of s a) → paper_said a ≡ asked (seen_of x) → Leaves (mem_of heap slots s) (answered (mem_of heap slots s) (ask slot)) r heap slots
unfolding answered admit
leaves-asked heap slots s slot x a r f h e t q v =
    rw (f, lt-ltb slot (length slots) h, ← e, (judged_seen slot x t).1, q)
    (record { answer_is = ap gives v ∙ ap (λ (y : Shown). gives (asked y)) e; store_is = refl; heap_is = refl; slots_are = refl })

-- the place of an object that is found, from the word of its field
found_place : (f w : ℕ) (x : Answered ℕ) → gives w ≡ field_of f x → (p : ℕ) × (x ≡ gives p) × (suc p + f ≡ w)
found_place f w (refused n p) e = absurd (cc e)
found_place f w (gives p) e = (p, refl, cc e)

-- a call that finds its word leaves what it does with the word, d
pub leaves-found : {heap slots : List ℕ} {kind o f t w : ℕ} {x : Result ℕ Refusal} {r : Result (Answer Said) Refusal} {a : Said} (s : Store) (c : Call)
    (d : Mem → ℕ → Did Mem) → let m = mem_of heap slots s in admit (view_of m) c ≡ finding m kind o f t → Finds m kind o f t x → x ≡ Ok w
    → ((p : ℕ) → act m c p ≡ d m (suc p + f)) → r ≡ Ok (told_of s a) → paper_said a ≡ (d m w).said
    → store_of (ticked_of s) ≡ (d m w).state.store → Leaves m (answered m c) r (d m w).state.heap (d m w).state.slots
unfolding answered
leaves-found {heap} {slots} {kind} {o} {f} {t} {w} {x} {r} {a} s c d g h e k q v u =
    let m = mem_of heap slots s in
    let (p, found, word) = found_place f w (finding m kind o f t) (sym (ap found_of e) ∙ h.found_is) in
    rw (q, g, found, k p, word) (record { answer_is = ap gives v; store_is = u; heap_is = refl; slots_are = refl })

not_found : (f n p : ℕ) (x : Answered ℕ) → refused n p ≡ field_of f x → x ≡ refused n p
not_found f n p (refused a b) e = cc
not_found f n p (gives a) e = absurd (cc e)

-- one that does not find it leaves all as found
pub leaves_unfound : {heap slots : List ℕ} {s : Store} {kind o f t : ℕ} {e : Refusal} {x : Result ℕ Refusal} {r : Result (Answer Said) Refusal} (c : Call)
    → let m = mem_of heap slots s in admit (view_of m) c ≡ finding m kind o f t → Finds m kind o f t x → x ≡ Err e → r ≡ Err e
    → Leaves m (answered m c) r heap slots
unfolding answered
leaves_unfound {heap} {slots} {s} {kind} {o} {f} {t} {e} {x} {r} c g h is q =
    let m = mem_of heap slots s in
    let unfound = not_found f (number_of e) (place_of e) (finding m kind o f t) (sym (ap found_of is) ∙ h.found_is) in
    rw (q, g, unfound) (record { answer_is = refl; store_is = refl; heap_is = refl; slots_are = refl })
