-- A heap that holds objects, word by word: which object holds a place, and what the tests by words say of it. Assumes nothing.
use mathlib.Core.Path.{◌≡◌, refl, sym, ap, ◌∙◌}
use mathlib.Core.Bool.{Bool, true, false, ◌&&◌, cond, and-false}
use mathlib.Core.Logic.{⊎_elim}
use mathlib.Core.List.{List, [], ◌∷◌, ◌++◌}
use Prim.Native.Nat.{ℕ, zero, suc, ◌+◌, ◌*◌, ◌/◌, ◌%◌, ◌-◌, ◌≤◌, ◌<◌}
use native.Mathlib.Nat.{add-zero, add-suc, add_assoc}
use native.Mathlib.Omega.{arith}
use lib.ListN.{length, get_or, length-append, length-map, get_or-append, get_or-map}
use lib.Seq.{get_or-append-add}
use lib.Dec.{eqb}
use borrow.Author.Tests.{eq-eqb, ne_eqb, lt-ltb, le-ltb}
use Rattle.meaning.specs.Objects.{Object, rec, raw, payload, kind, size, words_of, encode, held_by}
use Rattle.meaning.specs.Places.{below}
use Rattle.meaning.specs.Slide.{fix_word, fix_object}
use Rattle.meaning.specs.Words.{rest_step, rest, starts, owner, live, field, fixed}
use Rattle.meaning.proofs.Deciding.{le_or_lt}
use Rattle.meaning.proofs.ParseEncode.{total, header_size}
use Rattle.meaning.proofs.ByObjects.{Covers, Reads}

-- ## The object that starts at p
pub starts-here : (heap : List ℕ) (p : ℕ) → rest heap p ≡ 0 → starts heap p ≡ true
unfolding starts
starts-here heap p here = rw here

owner_here : (heap : List ℕ) (p : ℕ) → rest heap p ≡ 0 → owner heap p ≡ p
unfolding owner
owner_here heap zero here = refl
owner_here heap (suc p) here = rw (starts-here heap (suc p) here)

module _ (heap : List ℕ) (p n : ℕ) (here : rest heap p ≡ 0) (long : get_or heap p 0 / 4 ≡ n) where
  rest_in : (k : ℕ) → k ≤ n → rest heap (suc (p + k)) ≡ n - k
  unfolding rest
  rest_in zero h = rw (add-zero, here) (omega arith)
  rest_in (suc k) h = rw (add-suc) (ap (λ (r : ℕ). rest_step r (get_or heap (suc (p + k)) 0)) (rest_in k (omega arith) ∙ e) ∙ refl)
    where
      e : n - k ≡ suc (n - suc k)
      e = omega arith

  pub rest_next : rest heap (p + suc n) ≡ 0
  rest_next = rw add-suc (rest_in n (omega arith) ∙ omega arith)

  pub starts_in : (k : ℕ) → k < n → starts heap (suc (p + k)) ≡ false
  unfolding starts
  starts_in k h = ne_eqb (rest heap (suc (p + k))) 0 (λ e. omega (arith, rest_in k (omega arith)))

  owner_in : (k : ℕ) → k < n → owner heap (suc (p + k)) ≡ p
  unfolding owner
  owner_in zero h = rw (starts_in 0 h, add-zero) (owner_here heap p here)
  owner_in (suc k) h = rw (starts_in (suc k) h, add-suc) (owner_in k (omega arith))

-- ## The heap holds ws from p on
abbrev pub At : List ℕ → ℕ → List ℕ → Type 0
At heap p ws = (k : ℕ) → k < length ws → get_or heap (p + k) 0 ≡ get_or ws k 0

module _ (heap : List ℕ) (p : ℕ) where
  pub at_left : (xs ys : List ℕ) → At heap p (xs ++ ys) → At heap p xs
  at_left xs ys a k h = a k (omega (arith, length-append xs ys)) ∙ get_or-append xs ys 0 k h

  pub at_right : (xs ys : List ℕ) → At heap p (xs ++ ys) → At heap (p + length xs) ys
  at_right xs ys a k h = rw (add_assoc p) (a (length xs + k) (omega (arith, length-append xs ys)) ∙ get_or-append-add xs ys k 0)

  pub at_header : (o : Object) → At heap p (words_of o) → get_or heap p 0 ≡ 4 * length (payload o) + kind o
  at_header o a = rw add-zero at (a 0 (omega arith))

  pub at_long : (o : Object) → At heap p (words_of o) → get_or heap p 0 / 4 ≡ length (payload o)
  at_long o a = rw (at_header o a) (header_size o)

module _ (heap : List ℕ) (m : ℕ → Bool) where
  -- a word of an object is live just if the object is marked
  pub live_owned : (p n : ℕ) → rest heap p ≡ 0 → get_or heap p 0 / 4 ≡ n → (k : ℕ) → k < suc n → live heap m (p + k) ≡ m p
  unfolding live
  live_owned p n here l zero h = rw add-zero (ap m (owner_here heap p here))
  live_owned p n here l (suc k) h = rw add-suc (ap m (owner_in heap p n here l k (omega arith)))

  pub covers-live : (p : ℕ) (os : List Object) → rest heap p ≡ 0 → At heap p (encode os) → Covers (live heap m) m p os
  covers-live p [] here a = tt
  covers-live p (o ∷ os) here a =
      let l = at_long heap p o (at_left heap p (words_of o) (encode os) a) in (
        live_owned p (length (payload o)) here l,
        covers-live (p + size o) os (rest_next heap p (length (payload o)) here l) (at_right heap p (words_of o) (encode os) a),
      )

  field_header : (p : ℕ) → rest heap p ≡ 0 → fixed heap m p ≡ get_or heap p 0
  unfolding fixed field
  field_header p here = rw (starts-here heap p here, and-false (live heap m p))

  -- a payload word of a marked object is a field just if the object is a record
  pub field-test : (p n : ℕ) → rest heap p ≡ 0 → get_or heap p 0 / 4 ≡ n → m p ≡ true → (k : ℕ) → k < n
      → live heap m (suc (p + k)) && field heap (suc (p + k)) ≡ eqb (get_or heap p 0 % 4) 0
  unfolding field live
  field-test p n here l e k h = rw (starts_in heap p n here l k h, owner_in heap p n here l k h, e)

  field-payload : (p n : ℕ) → rest heap p ≡ 0 → get_or heap p 0 / 4 ≡ n → m p ≡ true → (k : ℕ) → k < n
      → fixed heap m (suc (p + k)) ≡ cond (eqb (get_or heap p 0 % 4) 0) (fix_word (below (live heap m)) (get_or heap (suc (p + k)) 0)) (get_or heap (suc (p + k)) 0)
  unfolding fixed
  field-payload p n here l e k h = rw (field-test p n here l e k h)

  -- the words of a kept object, fixed
  reads_one : (p : ℕ) (o : Object) → rest heap p ≡ 0 → At heap p (words_of o) → m p ≡ true → (k : ℕ) → k < size o
      → fixed heap m (p + k) ≡ get_or (words_of (fix_object (below (live heap m)) o)) k 0
  reads_one p (rec ws) here a e zero h =
      rw (add-zero p) (field_header p here ∙ at_header heap p (rec ws) a ∙ ap (λ (n : ℕ). 4 * n + 0) (sym (length-map ws (fix_word (below (live heap m))))))
  reads_one p (raw ws) here a e zero h = rw add-zero (field_header p here ∙ at_header heap p (raw ws) a)
  reads_one p (rec ws) here a e (suc k) h =
      rw add-suc
      (field-payload p (length ws) here (at_long heap p (rec ws) a) e k (omega arith)
      ∙ rw (at_header heap p (rec ws) a, eq-eqb ((4 * length ws + 0) % 4) 0 (omega arith), ← add-suc p k, a (suc k) h)
      (sym (get_or-map (fix_word (below (live heap m))) ws k 0)))
  reads_one p (raw ws) here a e (suc k) h =
      rw add-suc
      (field-payload p (length ws) here (at_long heap p (raw ws) a) e k (omega arith)
      ∙ rw (at_header heap p (raw ws) a, ne_eqb ((4 * length ws + 1) % 4) 0 (λ z. omega arith), ← add-suc p k) (a (suc k) h))

  pub reads_fixed : (p : ℕ) (os : List Object) → rest heap p ≡ 0 → At heap p (encode os) → Reads m (below (live heap m)) (fixed heap m) p os
  reads_fixed p [] here a = tt
  reads_fixed p (o ∷ os) here a =
      let b = at_left heap p (words_of o) (encode os) a in (
        reads_one p o here b,
        reads_fixed (p + size o) os (rest_next heap p (length (payload o)) here (at_long heap p o b)) (at_right heap p (words_of o) (encode os) a),
      )

-- ## The object that holds a place
module _ (heap : List ℕ) where
  -- of objects that begin at p, the one that holds q begins at q's owner
  pub record Held (p : ℕ) (os : List Object) (q : ℕ) : Type 0 where
    pub object : Object
    pub by : (f : ℕ → Object → Bool) → held_by f p os q ≡ f (owner heap q) object
    pub header : get_or heap (owner heap q) 0 ≡ 4 * length (payload object) + kind object
    pub before : owner heap q ≤ q
    pub begins : starts heap q ≡ eqb (owner heap q) q

  held_one : (p : ℕ) (o : Object) (os : List Object) → rest heap p ≡ 0 → At heap p (words_of o) → (d : ℕ) → d < size o
      → owner heap (p + d) ≡ p → starts heap (p + d) ≡ eqb p (p + d) → Held p (o ∷ os) (p + d)
  held_one p o os here a d h own beg =
      record {
        object = o;
        by = λ f. rw (lt-ltb (p + d) (p + size o) (omega arith), own);
        header = rw own (at_header heap p o a);
        before = rw own (omega arith);
        begins = rw own beg;
      }

  held-here : (p : ℕ) (o : Object) (os : List Object) → rest heap p ≡ 0 → At heap p (words_of o) → (d : ℕ) → d < size o → Held p (o ∷ os) (p + d)
  held-here p o os here a zero h =
      held_one p o os here a zero h (rw add-zero (owner_here heap p here)) (rw add-zero (starts-here heap p here ∙ sym (eq-eqb p p refl)))
  held-here p o os here a (suc d) h =
      let l = at_long heap p o a in
      held_one p o os here a (suc d) h (rw add-suc (owner_in heap p (length (payload o)) here l d (omega arith)))
      (rw add-suc (starts_in heap p (length (payload o)) here l d (omega arith) ∙ sym (ne_eqb p (suc (p + d)) (λ e. omega arith))))

  pub held : (p : ℕ) (os : List Object) (q : ℕ) → rest heap p ≡ 0 → At heap p (encode os) → p ≤ q → q < p + total os → Held p os q
  held p [] q here a l h = absurd (omega arith)
  held p (o ∷ os) q here a l h =
      let b = at_left heap p (words_of o) (encode os) a in
      ⊎_elim
      (λ (g : p + size o ≤ q).
      let r = held (p + size o) os q (rest_next heap p (length (payload o)) here (at_long heap p o b)) (at_right heap p (words_of o) (encode os) a) g (omega arith) in
      record { object = r.object; by = λ f. rw (le-ltb q (p + size o) g) (r.by f); header = r.header; before = r.before; begins = r.begins })
      (λ (g : q < p + size o). let e : p + (q - p) ≡ q = omega arith in rw e at (held-here p o os here b (q - p) (omega arith)))
      (le_or_lt (p + size o) q)

-- past the objects there is none
pub held_past : (f : ℕ → Object → Bool) (p : ℕ) (os : List Object) (q : ℕ) → p + total os ≤ q → held_by f p os q ≡ false
held_past f p [] q h = refl
held_past f p (o ∷ os) q h = rw (le-ltb q (p + size o) (omega arith)) (held_past f (p + size o) os q (omega arith))
