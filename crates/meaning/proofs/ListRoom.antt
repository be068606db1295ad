-- Room on the simple list: refusal 11 says that a new object does not fit, and words in use are words born less words dropped. Assumes nothing.
use mathlib.Core.Path.{◌≡◌, refl, sym, ap, subst, ◌∙◌}
use mathlib.Core.Logic.{◌⊎◌, inl, inr, ◌≢◌}
use mathlib.Core.Bool.{Bool, true, false, not, ◌&&◌}
use mathlib.Core.List.{List, [], ◌∷◌, ◌++◌}
use Prim.Native.Nat.{ℕ, zero, suc, ◌+◌, ◌-◌, ◌*◌, ◌≤◌, ◌<◌}
use native.Mathlib.Omega.{arith}
use lib.Dec.{ltb, leb, eqb}
use lib.ListN.{length, set, replicate, length-set, length-replicate}
use borrow.Author.Tests.{ltb-true, leb-true, leb-false, lt-ltb, le-leb, lt-leb}
use Rattle.meaning.specs.Limits.{block_words, blocks_of, payload_words}
use Rattle.meaning.specs.Answers.{Answer, gives, refused, refuse}
use Rattle.meaning.specs.Values.{Value, nil, int, has_word}
use Rattle.meaning.specs.Places.{places_from, marked}
use Rattle.meaning.specs.Blocks.{order_breaks}
use Rattle.meaning.specs.Collect.{Totals}
use Rattle.meaning.specs.Calls.{Call, put_int, put_nil, copy, new_record, new_raw, read_field, write_field, read_raw, write_raw, ask, same, Brought, collected, Did, Shown, plain, object, stray, View, need, slot, find, judgeable, room_for, guards, fits, admit}
use Rattle.meaning.specs.SimpleList.{Born, rec, raw, gone, Simple, words, in_use, the, held, put_field, put_raw, view_list, act_list, acted_list, answered_list, says_list}
use Rattle.meaning.specs.ListCollect.{standing, place_in, live_in, lost_from, lost_in, keep, keep_in, brought_fits, collects_list}
use Rattle.meaning.specs.Sequences.{Step, call, collect, step_list}
use Rattle.meaning.proofs.Births.{in_use-set}

-- ## Refusal 11
-- what refuses with m and not with n has passed the test for n
need-not : (b : Bool) (n p m q : ℕ) (x : Answer ℕ) → n ≢ m → need b n p x ≡ refused m q → (b ≡ true) × (x ≡ refused m q)
need-not true n p m q x h e = (refl, e)
need-not false n p m q x h e = absurd (h cc)

-- what refuses with n and otherwise gives has failed the test
need_failed : (b : Bool) (n p m q i : ℕ) → need {A = ℕ} b n p (gives i) ≡ refused m q → b ≡ false
need_failed true n p m q i e = cc
need_failed false n p m q i e = refl

-- a new object that does not fit, with nothing else wrong, is refused with 11
pub no_room : (v : View) (s k : ℕ) (c : Call) → guards v c ≡ slot v s (room_for v k)
    → fits v ≡ true → s < v.slots → k ≤ payload_words → v.room < v.in_use + 1 + k → admit v c ≡ refused 11 0
unfolding admit
no_room v s k c g f h few full =
    rw (f, g, lt-ltb s v.slots h, le-leb k payload_words few, lt-leb (v.in_use + 1 + k) v.room full)

-- a new object refused with 11 has nothing else wrong, and does not fit
pub no_room_only : (v : View) (s k : ℕ) (c : Call) → guards v c ≡ slot v s (room_for v k)
    → admit v c ≡ refused 11 0 → (fits v ≡ true) × (s < v.slots) × (k ≤ payload_words) × (v.room < v.in_use + 1 + k)
unfolding admit
no_room_only v s k c g e =
    let one = need-not (fits v) 1 0 11 0 (guards v c) (λ x. omega arith) e in
    let two = need-not (ltb s v.slots) 7 s 11 0 (room_for v k) (λ x. omega arith) (sym g ∙ one.1) in
    let three = need-not (leb k payload_words) 12 0 11 0 (need (leb (v.in_use + 1 + k) v.room) 11 0 (gives 0)) (λ x. omega arith) two.1 in
    let four = need_failed (leb (v.in_use + 1 + k) v.room) 11 0 11 0 0 three.1 in
    (one.0, ltb-true s v.slots two.0, leb-true k payload_words three.0, leb-false (v.in_use + 1 + k) v.room four)

-- an answer is no refusal
gives_other : (i n p : ℕ) → ◌≡◌ {A = Answer ℕ} (gives i) (refused n p) → ⊥
gives_other i n p e = let z : ◌≡◌ {A = ℕ} 0 1 = cc in omega arith

-- no look at an object refuses with 11
find-other : (kind o f p : ℕ) (x : Shown) → find kind o f x ≢ refused 11 p
find-other kind o f p (plain a) e = let z : ◌≡◌ {A = ℕ} 8 11 = cc in omega arith
find-other kind o f p (object i k n) e =
    let one = need-not (eqb k kind) 8 o 11 p (need (ltb f n) 9 f (gives i)) (λ x. omega arith) e in
    let two = need-not (ltb f n) 9 f 11 p (gives i) (λ x. omega arith) one.1 in
    gives_other i 11 p two.1
find-other kind o f p stray e = let z : ◌≡◌ {A = ℕ} 13 11 = cc in omega arith

-- nor does the look that an ask takes
judge-other : (s p : ℕ) (x : Shown) → judgeable s x ≢ refused 11 p
judge-other s p (plain a) e = gives_other 0 11 p e
judge-other s p (object i k n) e = gives_other i 11 p e
judge-other s p stray e = let z : ◌≡◌ {A = ℕ} 13 11 = cc in omega arith

-- what passes slots alone refuses with 11 where the rest does
slot_past : (v : View) (s p : ℕ) (x : Answer ℕ) → slot v s x ≡ refused 11 p → x ≡ refused 11 p
slot_past v s p x e = (need-not (ltb s v.slots) 7 s 11 p x (λ y. omega arith) e).1

-- only the making of an object is refused with 11
pub room_only_births : (v : View) (c : Call) (p : ℕ) → guards v c ≡ refused 11 p
    → (s : ℕ) × (k : ℕ) × ((c ≡ new_record s k) ⊎ (c ≡ new_raw s k))
room_only_births v (put_int s z) p e =
    let one = slot_past v s p (need (has_word (int z)) 10 0 (gives 0)) e in
    absurd (gives_other 0 11 p (need-not (has_word (int z)) 10 0 11 p (gives 0) (λ y. omega arith) one).1)
room_only_births v (put_nil s) p e = absurd (gives_other 0 11 p (slot_past v s p (gives 0) e))
room_only_births v (copy s t) p e =
    absurd (gives_other 0 11 p (slot_past v t p (gives 0) (slot_past v s p (slot v t (gives 0)) e)))
room_only_births v (new_record s k) p e = (s, k, inl refl)
room_only_births v (new_raw s k) p e = (s, k, inr refl)
room_only_births v (read_field o f t) p e =
    let x = find 0 o f (v.shows o) in
    absurd (find-other 0 o f p (v.shows o) (slot_past v t p x (slot_past v o p (slot v t x) e)))
room_only_births v (write_field o f s) p e =
    let x = find 0 o f (v.shows o) in
    absurd (find-other 0 o f p (v.shows o) (slot_past v s p x (slot_past v o p (slot v s x) e)))
room_only_births v (read_raw o f) p e = absurd (find-other 1 o f p (v.shows o) (slot_past v o p (find 1 o f (v.shows o)) e))
room_only_births v (write_raw o f w) p e = absurd (find-other 1 o f p (v.shows o) (slot_past v o p (find 1 o f (v.shows o)) e))
room_only_births v (ask s) p e = absurd (judge-other s p (v.shows s) (slot_past v s p (judgeable s (v.shows s)) e))
room_only_births v (same s t) p e =
    absurd (gives_other 0 11 p (slot_past v t p (gives 0) (slot_past v s p (slot v t (gives 0)) e)))

-- ## Words born and words dropped
-- the words that a dropped object had
abbrev pub had : Born → ℕ
had (rec vs) = 0
had (raw ws) = 0
had (gone n) = n

-- words dropped
abbrev pub dropped : List Born → ℕ
dropped [] = 0
dropped (o ∷ os) = had o + dropped os

-- an object's words are in use or dropped, kept or not
keep-sum : (b : Bool) (o : Born) → words (keep b o) + had (keep b o) ≡ words o + had o
keep-sum true o = refl
keep-sum false (rec vs) = omega arith
keep-sum false (raw ws) = omega arith
keep-sum false (gone n) = refl

-- a collect drops exactly what is no longer in use
pub kept-sum : (m : ℕ → Bool) (p : ℕ) (os : List Born) → in_use (keep_in m p os) + dropped (keep_in m p os) ≡ in_use os + dropped os
kept-sum m p [] = refl
kept-sum m p (o ∷ os) =
    let one = keep-sum (m p) o in
    let rest = kept-sum m (p + words o) os in
    omega arith

-- a birth adds the new object's words
pub born-sum : (os : List Born) (o : Born)
    → in_use (os ++ (o ∷ [])) + dropped (os ++ (o ∷ [])) ≡ in_use os + dropped os + (words o + dropped (o ∷ []))
born-sum [] o = omega arith
born-sum (x ∷ os) o = let r = born-sum os o in omega arith

-- all words ever born
abbrev pub born : Simple → ℕ
born a = in_use a.objects + dropped a.objects

-- the words that a step bears
abbrev pub born_by : Step → ℕ
born_by (call (put_int s z)) = 0
born_by (call (put_nil s)) = 0
born_by (call (copy s t)) = 0
born_by (call (new_record s k)) = suc k
born_by (call (new_raw s k)) = suc k
born_by (call (read_field o f t)) = 0
born_by (call (write_field o f s)) = 0
born_by (call (read_raw o f)) = 0
born_by (call (write_raw o f w)) = 0
born_by (call (ask s)) = 0
born_by (call (same s t)) = 0
born_by (collect b) = 0

-- an object put for one that had as many words drops none
dropped-set : (os : List Born) (i : ℕ) (o' : Born) → had o' ≡ had (the os i) → dropped (set os i o') ≡ dropped os
dropped-set [] i o' e = refl
dropped-set (o ∷ os) zero o' e = ap (λ (n : ℕ). n + dropped os) e
dropped-set (o ∷ os) (suc i) o' e = ap (λ (n : ℕ). had o + n) (dropped-set os i o' e)

-- a written field keeps an object's words
field_words : (o : Born) (f : ℕ) (v : Value) → words (put_field o f v) ≡ words o
field_words (rec vs) f v = ap suc (length-set vs f v)
field_words (raw ws) f v = refl
field_words (gone n) f v = refl

-- and the words that it had
field-had : (o : Born) (f : ℕ) (v : Value) → had (put_field o f v) ≡ had o
field-had (rec vs) f v = refl
field-had (raw ws) f v = refl
field-had (gone n) f v = refl

-- a written number keeps an object's words
raw_words : (o : Born) (f w : ℕ) → words (put_raw o f w) ≡ words o
raw_words (rec vs) f w = refl
raw_words (raw ws) f w = ap suc (length-set ws f w)
raw_words (gone n) f w = refl

-- and the words that it had
raw-had : (o : Born) (f w : ℕ) → had (put_raw o f w) ≡ had o
raw-had (rec vs) f w = refl
raw-had (raw ws) f w = refl
raw-had (gone n) f w = refl

-- an admitted call bears what its step bears
act-counted : (a : Simple) (c : Call) (i : ℕ) → born (act_list a c i).state ≡ born a + born_by (call c)
act-counted a (put_int s z) i = omega arith
act-counted a (put_nil s) i = omega arith
act-counted a (copy s t) i = omega arith
act-counted a (new_record s k) i =
    let r = born-sum a.objects (rec (replicate k nil)) in
    let n = length-replicate {A = Value} k nil in
    omega arith
act-counted a (new_raw s k) i =
    let r = born-sum a.objects (raw (replicate k 0)) in
    let n = length-replicate {A = ℕ} k 0 in
    omega arith
act-counted a (read_field o f t) i = omega arith
act-counted a (write_field o f s) i =
    let x = the a.objects i in
    let u = in_use-set a.objects i (put_field x f (held a s)) (field_words x f (held a s)) in
    let d = dropped-set a.objects i (put_field x f (held a s)) (field-had x f (held a s)) in
    omega arith
act-counted a (read_raw o f) i = omega arith
act-counted a (write_raw o f w) i =
    let x = the a.objects i in
    let u = in_use-set a.objects i (put_raw x f w) (raw_words x f w) in
    let d = dropped-set a.objects i (put_raw x f w) (raw-had x f w) in
    omega arith
act-counted a (ask s) i = omega arith
act-counted a (same s t) i = omega arith

-- and so does one that was asked for and not refused
acted-counted : (a : Simple) (c : Call) (x : Answer ℕ) (d : Did Simple) → acted_list a c x ≡ gives d → born d.state ≡ born a + born_by (call c)
acted-counted a c (refused n p) d e = cc
acted-counted a c (gives i) d e =
    let z : act_list a c i ≡ d = cc in
    subst (λ (y : Did Simple). born y.state ≡ born a + born_by (call c)) z (act-counted a c i)

-- a collect that gives an answer gives the one behind its five tests
collect-gives : (t : Bool) (p3 p4 p5 p6 : List ℕ) (x d : Did Simple)
    → need t 1 0 (refuse 3 p3 (refuse 4 p4 (refuse 5 p5 (refuse 6 p6 (gives x))))) ≡ gives d → x ≡ d
collect-gives false p3 p4 p5 p6 x d e = cc
collect-gives true (q ∷ p3) p4 p5 p6 x d e = cc
collect-gives true [] (q ∷ p4) p5 p6 x d e = cc
collect-gives true [] [] (q ∷ p5) p6 x d e = cc
collect-gives true [] [] [] (q ∷ p6) x d e = cc
collect-gives true [] [] [] [] x d e = cc

-- a collect bears none
collect-counted : (a : Simple) (b : Brought) (d : Did Simple) → collects_list a b ≡ gives d → born d.state ≡ born a + 0
unfolding collects_list
collect-counted a b d e =
    let m = marked b.marks in
    let os = a.objects in
    let left = keep_in m 0 os in
    let totals : Totals = record { top = in_use left; objects = standing left; blocks = blocks_of (in_use left) } in
    let z =
    collect-gives (fits (view_list a) && brought_fits a.room b)
    (places_from (λ q. m q && not (place_in 0 os q)) 0 (block_words * length b.marks))
    (lost_from m os 0 a.slots)
    (lost_in m os 0 os)
    (order_breaks (places_from (live_in m 0 os) 0 (in_use os)) b.order)
    (says_list a (collected totals) left a.slots) d e in
    let r = kept-sum m 0 os in
    subst (λ (y : Did Simple). born y.state ≡ born a + 0) z (omega arith)

-- each step adds to the words born what it bears
pub born-counted : (a : Simple) (k : Step) (d : Did Simple) → step_list a k ≡ gives d → born d.state ≡ born a + born_by k
unfolding answered_list
born-counted a (call c) d e = acted-counted a c (admit (view_list a) c) d e
born-counted a (collect b) d e = collect-counted a b d e

-- words in use are words born less words dropped
pub in_use_of : (a : Simple) → in_use a.objects ≡ born a - dropped a.objects
in_use_of a = omega arith
