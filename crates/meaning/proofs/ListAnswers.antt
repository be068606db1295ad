-- What the answers of a sequence tell: no answer is refusal 2 or 13, and an ask says exactly what the simple list's slot holds. Assumes nothing.
use mathlib.Core.Path.{◌≡◌, refl, sym, ap, ◌∙◌}
use mathlib.Core.Logic.{◌⊎◌, inl, inr, ◌≢◌}
use mathlib.Core.Bool.{Bool, true, false, not, ◌&&◌}
use mathlib.Core.List.{List, [], ◌∷◌}
use Prim.Native.Nat.{ℕ, suc, ◌+◌, ◌*◌, ◌<◌}
use native.Mathlib.Omega.{arith}
use borrow.Author.Tests.{lt-ltb}
use lib.Dec.{ltb, leb, eqb}
use lib.IntN.{ℤ}
use lib.ListN.{length}
use Rattle.meaning.specs.Limits.{block_words, payload_words}
use Rattle.meaning.specs.Answers.{Answer, gives, refused, refuse}
use Rattle.meaning.specs.Values.{Value, int, nil, ref, has_word}
use Rattle.meaning.specs.Places.{places_from, marked}
use Rattle.meaning.specs.Blocks.{order_breaks}
use Rattle.meaning.specs.Calls.{Call, put_int, put_nil, copy, new_record, new_raw, read_field, write_field, read_raw, write_raw, ask, same, Brought, Said, integer, is_record, is_raw, Did, Shown, plain, object, stray, View, need, find, judgeable, room_for, guards, fits, admit}
use Rattle.meaning.specs.Store.{Mem, answered}
use Rattle.meaning.specs.SimpleList.{Born, rec, raw, gone, Simple, words, in_use, the, show_born, show_value, held, view_list, say_born, say_value, acted_list, answered_list}
use Rattle.meaning.specs.ListCollect.{place_in, live_in, lost_from, lost_in, brought_fits, collects_list}
use Rattle.meaning.specs.Sequences.{Step, call, collect, Seen, said, step, step_list, run, empty}
use Rattle.meaning.proofs.Deciding.{clash}
use Rattle.meaning.proofs.Births.{Good}
use Rattle.meaning.proofs.SameStore.{Same}
use Rattle.meaning.proofs.CallsSame.{answered_same}
use Rattle.meaning.proofs.DemandThree.{step_same, empty_same}

-- ## No refusal 2, no refusal 13
-- a number that is neither 2 nor 13
abbrev other : ℕ → Bool
other n = not (eqb n 2) && not (eqb n 13)

-- a refusal's number, 0 for an accepted call
abbrev number : {A : Type 0} → Answer A → ℕ
number (gives x) = 0
number (refused n p) = n

-- an integer, nil or an object is shown
abbrev known : Shown → Bool
known (plain x) = true
known (object i k n) = true
known stray = false

-- a good value is never shown as a stray reference
show-known : (os : List Born) (v : Value) → Good os v → known (show_value os v) ≡ true
show-known os (int z) h = refl
show-known os nil h = refl
show-known os (ref i) h = one (the os i) h
  where
    one : (o : Born) → 0 < words o → known (show_born i o) ≡ true
    one (rec vs) h = refl
    one (raw ws) h = refl
    one (gone n) h = absurd (omega arith)

-- an answer that is not refusal 2 and not refusal 13
record Other {A : Type 0} (x : Answer A) : Type 0 where
  is : other (number x) ≡ true

-- an accepted call is no refusal
gives_other : {A : Type 0} (x : A) → Other (gives x)
gives_other x = record { is = refl }

-- a refusal with another number
refused-other : {A : Type 0} (n p : ℕ) → other n ≡ true → Other {A = A} (refused n p)
refused-other n p h = record { is = h }

-- a test that fails says its own number, one that holds says what follows
need-other : {A : Type 0} {x : Answer A} (b : Bool) (n p : ℕ) → other n ≡ true → Other x → Other (need b n p x)
need-other true n p h g = g
need-other false n p h g = refused-other n p h

-- the same of offending places
refuse-other : {A : Type 0} {x : Answer A} (n : ℕ) (ps : List ℕ) → other n ≡ true → Other x → Other (refuse n ps x)
refuse-other n [] h g = g
refuse-other n (p ∷ ps) h g = refused-other n p h

-- the search for an object's field says 8 or 9 where no stray reference is shown
find-other : (kind o f : ℕ) (y : Shown) → known y ≡ true → Other (find kind o f y)
find-other kind o f (plain x) h = refused-other 8 o refl
find-other kind o f (object i k n) h = need-other (eqb k kind) 8 o refl (need-other (ltb f n) 9 f refl (gives_other i))
find-other kind o f stray h = absurd (clash false h refl)

-- an ask's guard lets pass what is no stray reference
judge-gives : (s : ℕ) (y : Shown) → known y ≡ true → (i : ℕ) × (judgeable s y ≡ gives i)
judge-gives s (plain x) h = (0, refl)
judge-gives s (object i k n) h = (i, refl)
judge-gives s stray h = absurd (clash false h refl)

-- so it refuses nothing there
judge-other : (s : ℕ) (y : Shown) → known y ≡ true → Other (judgeable s y)
judge-other s y h = let (i, e) = judge-gives s y h in rw e (gives_other i)

-- the room for a new object is refused with 12 or 11
room-other : (v : View) (k : ℕ) → Other (room_for v k)
room-other v k = need-other (leb k payload_words) 12 0 refl (need-other (leb (v.in_use + 1 + k) v.room) 11 0 refl (gives_other 0))

-- a slot's guard says 7
slot-other : {x : Answer ℕ} (v : View) (s : ℕ) → Other x → Other (need (ltb s v.slots) 7 s x)
slot-other v s h = need-other (ltb s v.slots) 7 s refl h

-- the guards never say 2 or 13 where no slot shows a stray reference
guards-other : (v : View) → ((s : ℕ) → known (v.shows s) ≡ true) → (k : Call) → Other (guards v k)
guards-other v h (put_int s z) = slot-other v s (need-other (has_word (int z)) 10 0 refl (gives_other 0))
guards-other v h (put_nil s) = slot-other v s (gives_other 0)
guards-other v h (copy s t) = slot-other v s (slot-other v t (gives_other 0))
guards-other v h (new_record s k) = slot-other v s (room-other v k)
guards-other v h (new_raw s k) = slot-other v s (room-other v k)
guards-other v h (read_field o f t) = slot-other v o (slot-other v t (find-other 0 o f (v.shows o) (h o)))
guards-other v h (write_field o f s) = slot-other v o (slot-other v s (find-other 0 o f (v.shows o) (h o)))
guards-other v h (read_raw o f) = slot-other v o (find-other 1 o f (v.shows o) (h o))
guards-other v h (write_raw o f w) = slot-other v o (find-other 1 o f (v.shows o) (h o))
guards-other v h (ask s) = slot-other v s (judge-other s (v.shows s) (h s))
guards-other v h (same s t) = slot-other v s (slot-other v t (gives_other 0))

-- a call refused on the list is refused with its guard's number
acted-other : (a : Simple) (k : Call) (x : Answer ℕ) → Other x → Other (acted_list a k x)
acted-other a k (refused n p) h = refused-other n p h.is
acted-other a k (gives i) h = gives_other _

-- every slot of the list shows an integer, nil or an object
shows-known : {c : Mem} {a : Simple} → Same c a → (s : ℕ) → known (show_value a.objects (held a s)) ≡ true
shows-known {c} {a} r s = show-known a.objects (held a s) (r.held s)

-- no call on the list says 2 or 13
answered-other : {c : Mem} {a : Simple} → Same c a → (k : Call) → Other (answered_list a k)
unfolding answered_list admit
answered-other {c} {a} r k =
    acted-other a k _ (need-other (fits (view_list a)) 1 0 refl (guards-other (view_list a) (shows-known r) k))

-- no collect on the list says 2 or 13
collects-other : (a : Simple) (b : Brought) → Other (collects_list a b)
unfolding collects_list
collects-other a b =
    let m = marked b.marks in
    let os = a.objects in
    need-other (fits (view_list a) && brought_fits a.room b) 1 0 refl
    (refuse-other 3 (places_from (λ q. m q && not (place_in 0 os q)) 0 (block_words * length b.marks)) refl
    (refuse-other 4 (lost_from m os 0 a.slots) refl
    (refuse-other 5 (lost_in m os 0 os) refl
    (refuse-other 6 (order_breaks (places_from (live_in m 0 os) 0 (in_use os)) b.order) refl (gives_other _)))))

-- no step on the list says 2 or 13
step_other : {c : Mem} {a : Simple} → Same c a → (k : Step) → Other (step_list a k)
step_other r (call k) = answered-other r k
step_other {c} {a} r (collect b) = collects-other a b

-- what an answer says has the answer's number
said-other : {S : Type 0} (x : Answer (Did S)) → Other x → other (number (said x)) ≡ true
said-other (gives d) h = refl
said-other (refused n p) h = h.is

-- an answer with another number is not refusal 2 and not refusal 13, at whatever place
other_neither : (x : Answer Said) → other (number x) ≡ true → (p : ℕ) → (x ≢ refused 2 p) × (x ≢ refused 13 p)
other_neither x h p =
    (λ e. clash (other (number x)) h (ap (λ (y : Answer Said). other (number y)) e), λ e. clash (other (number x)) h (ap (λ (y : Answer Said). other (number y)) e))

-- P holds of each thing seen
abbrev pub Each : (Seen → Type 0) → List Seen → Type 0
Each P [] = Unit {0}
Each P (x ∷ xs) = P x × Each P xs

-- the answer is not refusal 2 and not refusal 13, at whatever place
abbrev pub Neither : Seen → Type 0
Neither seen = (p : ℕ) → (seen.answer ≢ refused 2 p) × (seen.answer ≢ refused 13 p)

-- from a store that the list stands for, no answer is refusal 2 or 13
pub neither_from : (ks : List Step) {c : Mem} {a : Simple} → Same c a → Each Neither (run c ks)
unfolding run
neither_from [] r = tt
neither_from (k ∷ ks) {c} {a} r =
    let b = step_same r k in
    (other_neither (said (step c k)) (ap (λ (y : Answer Said). other (number y)) b.same ∙ said-other (step_list a k) (step_other r k)), neither_from ks b.rel)

-- in any sequence from the empty store no answer is refusal 2 or 13
pub never_two_or_thirteen : (heap : List ℕ) (n : ℕ) (ks : List Step) → Each (λ seen. (p : ℕ) → (seen.answer ≢ refused 2 p) × (seen.answer ≢ refused 13 p)) (run (empty heap n) ks)
never_two_or_thirteen heap n ks = neither_from ks (empty_same heap n)

-- ## What an ask tells of a slot
-- an ask that the list accepts says its slot's value
list_says : (a : Simple) (s : ℕ) (x : Said) → said (answered_list a (ask s)) ≡ gives x → say_value a.objects (held a s) ≡ x
unfolding answered_list
list_says a s x e = go (admit (view_list a) (ask s)) e
  where
    go : (y : Answer ℕ) → said (acted_list a (ask s) y) ≡ gives x → say_value a.objects (held a s) ≡ x
    go (refused n p) e = absurd (let z : ◌≡◌ {A = ℕ} 0 1 = cc in omega arith)
    go (gives i) e = cc

-- an ask that is accepted says what the list's slot holds
pub asked-says : {c : Mem} {a : Simple} → Same c a → (s : ℕ) (x : Said) → said (answered c (ask s)) ≡ gives x → say_value a.objects (held a s) ≡ x
asked-says {c} {a} r s x e = list_says a s x (sym (answered_same r (ask s)).same ∙ e)

-- only an integer is said as that integer
say-integer : (os : List Born) (v : Value) (z : ℤ) → say_value os v ≡ integer z → v ≡ int z
say-integer os (int x) z e = cc
say-integer os nil z e = absurd (let q : ◌≡◌ {A = ℕ} 0 1 = cc in omega arith)
say-integer os (ref i) z e = absurd (one (the os i) e)
  where
    one : (o : Born) → say_born o ≡ integer z → ⊥
    one (rec vs) e = let q : ◌≡◌ {A = ℕ} 0 1 = cc in omega arith
    one (raw ws) e = let q : ◌≡◌ {A = ℕ} 0 1 = cc in omega arith
    one (gone n) e = let q : ◌≡◌ {A = ℕ} 0 1 = cc in omega arith

-- a slot answered as an integer holds it
pub asked-integer : {c : Mem} {a : Simple} → Same c a → (s : ℕ) (z : ℤ) → said (answered c (ask s)) ≡ gives (integer z) → held a s ≡ int z
asked-integer {c} {a} r s z e = say-integer a.objects (held a s) z (asked-says r s (integer z) e)

-- an object said as a record or a raw object with n words has n words and its header
say_words : (o : Born) (n : ℕ) → (say_born o ≡ is_record n) ⊎ (say_born o ≡ is_raw n) → words o ≡ suc n
say_words (rec vs) n (inl e) = cc
say_words (rec vs) n (inr e) = absurd (let q : ◌≡◌ {A = ℕ} 0 1 = cc in omega arith)
say_words (raw ws) n (inl e) = absurd (let q : ◌≡◌ {A = ℕ} 0 1 = cc in omega arith)
say_words (raw ws) n (inr e) = cc
say_words (gone m) n (inl e) = absurd (let q : ◌≡◌ {A = ℕ} 0 1 = cc in omega arith)
say_words (gone m) n (inr e) = absurd (let q : ◌≡◌ {A = ℕ} 0 1 = cc in omega arith)

-- only a reference is said as an object
say-object : (os : List Born) (v : Value) (n : ℕ) → (say_value os v ≡ is_record n) ⊎ (say_value os v ≡ is_raw n) → (i : ℕ) × (v ≡ ref i) × (words (the os i) ≡ suc n)
say-object os (int z) n (inl e) = absurd (let q : ◌≡◌ {A = ℕ} 0 1 = cc in omega arith)
say-object os (int z) n (inr e) = absurd (let q : ◌≡◌ {A = ℕ} 0 1 = cc in omega arith)
say-object os nil n (inl e) = absurd (let q : ◌≡◌ {A = ℕ} 0 1 = cc in omega arith)
say-object os nil n (inr e) = absurd (let q : ◌≡◌ {A = ℕ} 0 1 = cc in omega arith)
say-object os (ref i) n e = (i, refl, say_words (the os i) n e)

-- a slot answered as an object of n words holds a reference to an object of n words and its header
pub asked-object : {c : Mem} {a : Simple} → Same c a → (s n : ℕ)
    → (said (answered c (ask s)) ≡ gives (is_record n)) ⊎ (said (answered c (ask s)) ≡ gives (is_raw n))
    → (i : ℕ) × (held a s ≡ ref i) × (words (the a.objects i) ≡ suc n)
asked-object {c} {a} r s n (inl e) = say-object a.objects (held a s) n (inl (asked-says r s (is_record n) e))
asked-object {c} {a} r s n (inr e) = say-object a.objects (held a s) n (inr (asked-says r s (is_raw n) e))

-- the list accepts an ask of a slot that is there
list_asked : {c : Mem} {a : Simple} → Same c a → (s : ℕ) → fits (view_list a) ≡ true → s < length a.slots
    → said (answered_list a (ask s)) ≡ gives (say_value a.objects (held a s))
unfolding answered_list admit
list_asked {c} {a} r s f h =
    let (i, e) = judge-gives s (show_value a.objects (held a s)) (shows-known r s) in
    rw (f, lt-ltb s (length a.slots) h, e)

-- an ask of a slot that is there says what the slot holds
pub value-asked : {c : Mem} {a : Simple} → Same c a → (s : ℕ) → fits (view_list a) ≡ true → s < length a.slots
    → said (answered c (ask s)) ≡ gives (say_value a.objects (held a s))
value-asked r s f h = (answered_same r (ask s)).same ∙ list_asked r s f h

-- a slot that holds an integer is answered as that integer
pub integer-asked : {c : Mem} {a : Simple} → Same c a → (s : ℕ) (z : ℤ) → fits (view_list a) ≡ true → s < length a.slots → held a s ≡ int z
    → said (answered c (ask s)) ≡ gives (integer z)
integer-asked {c} {a} r s z f h e = value-asked r s f h ∙ ap (λ (v : Value). gives (say_value a.objects v)) e

-- a slot that holds a reference is answered as its object's kind and count
pub object-asked : {c : Mem} {a : Simple} → Same c a → (s i : ℕ) → fits (view_list a) ≡ true → s < length a.slots → held a s ≡ ref i
    → said (answered c (ask s)) ≡ gives (say_born (the a.objects i))
object-asked {c} {a} r s i f h e = value-asked r s f h ∙ ap (λ (v : Value). gives (say_value a.objects v)) e
