-- The store on words: heap, slots, and the small record that goes in and comes back.
use Rattle.std.specs.Prelude.{ℕ, suc, ◌+◌, ◌/◌, ◌%◌, Bool, ◌&&◌, cond, List, ◌++◌, length, get_or, take, drop, set, replicate, ltb, leb, eqb}
use Rattle.meaning.specs.Answers.{Answer, gives, refused}
use Rattle.meaning.specs.Values.{Value, int, nil, ref, nil_word, value_of, word_of, ref_to}
use Rattle.meaning.specs.Objects.{Object, rec, raw, size, words_of, legal_header}
use Rattle.meaning.specs.Collect.{Totals, After, collect}
use Rattle.meaning.specs.Calls.{Call, put_int, put_nil, copy, new_record, new_raw, read_field, write_field, read_raw, write_raw, ask, same, Brought, Said, done, integer, is_nil, is_record, is_raw, word, the_same, collected, Did, tick, Shown, plain, object, stray, View, admit}

pub record Store : Type 0 where
  pub top : ℕ
  pub calls : ℕ

-- the record after an accepted call: with the same top, with n words more, with the top n
abbrev pub ticked : Store → Store
ticked s = record { top = s.top; calls = tick s.calls }

abbrev pub grown : Store → ℕ → Store
grown s n = record { top = s.top + n; calls = tick s.calls }

abbrev pub shrunk : Store → ℕ → Store
shrunk s n = record { top = n; calls = tick s.calls }

pub record Mem : Type 0 where
  pub heap : List ℕ
  pub slots : List ℕ
  pub store : Store

-- a reference to place p refers to an object: p is below the top, and a legal header stands there, of an object not past the top
abbrev pub refers_to_object : List ℕ → ℕ → ℕ → Bool
refers_to_object heap top p = ltb p top && (legal_header (get_or heap p 0) && leb (suc p + get_or heap p 0 / 4) top)

-- what a slot's value shows
abbrev pub shown_value : List ℕ → ℕ → Value → Shown
shown_value heap top (int z) = plain (integer z)
shown_value heap top nil = plain is_nil
shown_value heap top (ref p) = cond (refers_to_object heap top p) (object p (get_or heap p 0 % 4) (get_or heap p 0 / 4)) stray

unfoldable pub shown : Mem → ℕ → Shown
shown m s = shown_value m.heap m.store.top (value_of (get_or m.slots s 0))

abbrev pub view_of : Mem → View
view_of m = record { room = length m.heap; in_use = m.store.top; slots = length m.slots; shows = shown m }

abbrev pub says : Said → List ℕ → List ℕ → Store → Did Mem
says a heap slots store = record { said = a; state = record { heap = heap; slots = slots; store = store } }

-- a slot, or a heap word, changed, or nothing but the count
abbrev pub with_slot : Mem → ℕ → ℕ → Did Mem
with_slot m s w = says done m.heap (set m.slots s w) (ticked m.store)

abbrev pub with_word : Mem → ℕ → ℕ → Did Mem
with_word m p w = says done (set m.heap p w) m.slots (ticked m.store)

abbrev pub only_says : Mem → Said → Did Mem
only_says m a = says a m.heap m.slots (ticked m.store)

-- a new object starts at the old top and the slot gets its reference
abbrev pub with_new : Mem → ℕ → Object → Did Mem
with_new m s o =
    let top = m.store.top in
    says done (take top m.heap ++ (words_of o ++ drop (top + size o) m.heap)) (set m.slots s (ref_to top)) (grown m.store (size o))

-- what an ask says of what is shown
abbrev pub asked : Shown → Said
asked (plain a) = a
asked (object p k n) = cond (eqb k 0) (is_record n) (is_raw n)
asked stray = is_nil

-- an admitted call; p is the place of the object that it is about
abbrev pub act : Mem → Call → ℕ → Did Mem
act m (put_int s z) p = with_slot m s (word_of (int z))
act m (put_nil s) p = with_slot m s nil_word
act m (copy s t) p = with_slot m t (get_or m.slots s 0)
act m (new_record s k) p = with_new m s (rec (replicate k nil_word))
act m (new_raw s k) p = with_new m s (raw (replicate k 0))
act m (read_field o f t) p = with_slot m t (get_or m.heap (suc p + f) 0)
act m (write_field o f s) p = with_word m (suc p + f) (get_or m.slots s 0)
act m (read_raw o f) p = only_says m (word (get_or m.heap (suc p + f) 0))
act m (write_raw o f w) p = with_word m (suc p + f) w
act m (ask s) p = only_says m (asked (shown m s))
act m (same s t) p = only_says m (the_same (eqb (get_or m.slots s 0) (get_or m.slots t 0)))

abbrev pub acted : Mem → Call → Answer ℕ → Answer (Did Mem)
acted m c (refused n p) = refused n p
acted m c (gives p) = gives (act m c p)

-- a call on the words
unfoldable pub answered : Mem → Call → Answer (Did Mem)
answered m c = acted m c (admit (view_of m) c)

abbrev pub taken : Mem → After → Answer Totals → Answer (Did Mem)
taken m after (refused n p) = refused n p
taken m after (gives totals) = gives (says (collected totals) after.heap after.roots (shrunk m.store totals.top))

-- the store's collect: the bare collection of its heap, top and slots
unfoldable pub collects : Mem → Brought → Answer (Did Mem)
collects m b =
    let after = collect m.heap m.store.top m.slots b.marks b.order b.live b.offsets in
    taken m after after.answer
