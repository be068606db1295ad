-- Every refusal of a call on paper is one of the table: a number and a place that a `Refusal` has. Assumes nothing.
use Rattle.std.proofs.Common.{◌≡◌, ℕ, ◌+◌, Bool, true, false, ◌&&◌, List, [], ◌∷◌, ltb, leb, eqb, refl}
use Rattle.meaning.specs.Answers.{Answer as Answered, gives, refused, refuse}
use Rattle.meaning.specs.Limits.{payload_words}
use Rattle.meaning.specs.Values.{int, has_word}
use Rattle.meaning.specs.Objects.{Object, Parsed, all, bad, parse}
use Rattle.meaning.specs.Places.{places_from, marked}
use Rattle.meaning.specs.Slide.{live_at}
use Rattle.meaning.specs.Blocks.{order_breaks}
use Rattle.meaning.specs.Calls.{Call, put_int, put_nil, copy, new_record, new_raw, read_field, write_field, read_raw, write_raw, ask, same, Shown, plain, object, stray, View, need, slot, find, judgeable, room_for, guards, fits, admit}
use Rattle.meaning.specs.Collect.{Totals, After, collect, collected, ordered, checked, judged, strays, bad_roots, bad_fields, sizes_fit, tables_fit}
use Rattle.meaning.specs.Store.{Mem, view_of, acted, answered, taken, collects}
use Rattle.meaning.specs.Sequences.{Step, call, collect as collecting, step}
use Rattle.refusals.specs.Paper.{number_of, place_of}
use Rattle.refusals.specs.declared.Refusal.{Refusal}
use Rattle.refusals.specs.declared.Refusal.TheVariants.{Sizes, BadObject, StrayMark, LostRoot, LostField, OrderBreaks, NoSlot, OtherKind, NoField, OutOfRange, NoRoom, TooLong, NoObject}

-- accepted, or refused by a number and a place of the table
abbrev pub Listed : {A : Type 0} → Answered A → Type 0
Listed (gives a) = Unit {0}
Listed (refused n p) = (e : Refusal) × (number_of e ≡ n) × (place_of e ≡ p)

need_listed : {A : Type 0} (b : Bool) (e : Refusal) (x : Answered A) → Listed x → Listed (need b (number_of e) (place_of e) x)
need_listed true e x l = l
need_listed false e x l = (e, refl, refl)

slot_listed : (v : View) (s : ℕ) (x : Answered ℕ) → Listed x → Listed (slot v s x)
slot_listed v s x l = need_listed (ltb s v.slots) (NoSlot s) x l

find_listed : (kind o f : ℕ) (x : Shown) → Listed (find kind o f x)
find_listed kind o f (plain a) = (OtherKind o, refl, refl)
find_listed kind o f (object i k n) = need_listed (eqb k kind) (OtherKind o) (need (ltb f n) 9 f (gives i)) (need_listed (ltb f n) (NoField f) (gives i) tt)
find_listed kind o f stray = (NoObject o, refl, refl)

judgeable_listed : (s : ℕ) (x : Shown) → Listed (judgeable s x)
judgeable_listed s (plain a) = tt
judgeable_listed s (object i k n) = tt
judgeable_listed s stray = (NoObject s, refl, refl)

room_listed : (v : View) (k : ℕ) → Listed (room_for v k)
room_listed v k =
    let b = leb (v.in_use + 1 + k) v.room in
    need_listed (leb k payload_words) TooLong (need b 11 0 (gives 0)) (need_listed b NoRoom (gives 0) tt)

guards_listed : (v : View) (c : Call) → Listed (guards v c)
guards_listed v (put_int s z) = slot_listed v s (need (has_word (int z)) 10 0 (gives 0)) (need_listed (has_word (int z)) OutOfRange (gives 0) tt)
guards_listed v (put_nil s) = slot_listed v s (gives 0) tt
guards_listed v (copy s t) = slot_listed v s (slot v t (gives 0)) (slot_listed v t (gives 0) tt)
guards_listed v (new_record s k) = slot_listed v s (room_for v k) (room_listed v k)
guards_listed v (new_raw s k) = slot_listed v s (room_for v k) (room_listed v k)
guards_listed v (read_field o f t) = slot_listed v o (slot v t (find 0 o f (v.shows o))) (slot_listed v t (find 0 o f (v.shows o)) (find_listed 0 o f (v.shows o)))
guards_listed v (write_field o f s) = slot_listed v o (slot v s (find 0 o f (v.shows o))) (slot_listed v s (find 0 o f (v.shows o)) (find_listed 0 o f (v.shows o)))
guards_listed v (read_raw o f) = slot_listed v o (find 1 o f (v.shows o)) (find_listed 1 o f (v.shows o))
guards_listed v (write_raw o f w) = slot_listed v o (find 1 o f (v.shows o)) (find_listed 1 o f (v.shows o))
guards_listed v (ask s) = slot_listed v s (judgeable s (v.shows s)) (judgeable_listed s (v.shows s))
guards_listed v (same s t) = slot_listed v s (slot v t (gives 0)) (slot_listed v t (gives 0) tt)

acted_listed : (m : Mem) (c : Call) (x : Answered ℕ) → Listed x → Listed (acted m c x)
acted_listed m c (gives p) l = tt
acted_listed m c (refused n p) l = l

refuse_listed : {A : Type 0} (case : ℕ → Refusal) (n : ℕ) (ps : List ℕ) (x : Answered A) → ((p : ℕ) → (number_of (case p) ≡ n) × (place_of (case p) ≡ p)) → Listed x → Listed (refuse n ps x)
refuse_listed case n [] x k l = l
refuse_listed case n (p ∷ ps) x k l = (case p, (k p).0, (k p).1)

judged_listed : (heap : List ℕ) (top : ℕ) (roots marks : List ℕ) (x : Parsed) → Listed (judged heap top roots marks x)
judged_listed heap top roots marks (bad p) = (BadObject p, refl, refl)
judged_listed heap top roots marks (all os) =
    refuse_listed StrayMark 3 (strays os marks) _ (λ p. (refl, refl))
    (refuse_listed LostRoot 4 (bad_roots roots marks) _ (λ p. (refl, refl))
    (refuse_listed LostField 5 (bad_fields os heap top marks) (gives os) (λ p. (refl, refl)) tt))

checked_listed : (heap : List ℕ) (top : ℕ) (roots marks : List ℕ) (fit : Bool) → Listed (checked heap top roots marks fit)
unfolding checked
checked_listed heap top roots marks true = judged_listed heap top roots marks (parse heap top)
checked_listed heap top roots marks false = (Sizes, refl, refl)

ordered_listed : (heap : List ℕ) (top : ℕ) (roots marks : List ℕ) (os : List Object) (live offsets breaks : List ℕ) → Listed (ordered heap top roots marks os live offsets breaks).answer
ordered_listed heap top roots marks os live offsets [] = tt
ordered_listed heap top roots marks os live offsets (i ∷ is) = (OrderBreaks i, refl, refl)

collected_listed : (heap : List ℕ) (top : ℕ) (roots marks order live offsets : List ℕ) (x : Answered (List Object)) → Listed x → Listed (collected heap top roots marks order live offsets x).answer
collected_listed heap top roots marks order live offsets (refused n p) l = l
collected_listed heap top roots marks order live offsets (gives os) l = ordered_listed heap top roots marks os _ _ (order_breaks (places_from (live_at (marked marks) os) 0 top) order)

collect_listed : (heap : List ℕ) (top : ℕ) (roots marks order live offsets : List ℕ) → Listed (collect heap top roots marks order live offsets).answer
unfolding collect
collect_listed heap top roots marks order live offsets =
    let fit = sizes_fit heap top roots marks && tables_fit heap order live offsets in
    collected_listed heap top roots marks order live offsets (checked heap top roots marks fit) (checked_listed heap top roots marks fit)

taken_listed : (m : Mem) (a : After) (x : Answered Totals) → Listed x → Listed (taken m a x)
taken_listed m a (gives t) l = tt
taken_listed m a (refused n p) l = l

pub step_listed : (m : Mem) (k : Step) → Listed (step m k)
unfolding answered admit collects
step_listed m (call c) = acted_listed m c (admit (view_of m) c) (need_listed (fits (view_of m)) Sizes (guards (view_of m) c) (guards_listed (view_of m) c))
step_listed m (collecting b) =
    let a = collect m.heap m.store.top m.slots b.marks b.order b.live b.offsets in
    taken_listed m a a.answer (collect_listed m.heap m.store.top m.slots b.marks b.order b.live b.offsets)
