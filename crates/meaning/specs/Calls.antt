-- The store calls: what each takes, what it says, and when it is refused. The words and the simple list share these guards and nothing else.
use Rattle.std.specs.Prelude.{ℕ, suc, ◌+◌, ◌%◌, Bool, true, false, ◌&&◌, List, ltb, leb, eqb, ℤ}
use Rattle.meaning.specs.Limits.{heap_words, root_slots, payload_words}
use Rattle.meaning.specs.Answers.{Answer, gives, refused}
use Rattle.meaning.specs.Values.{int, has_word}
use Rattle.meaning.specs.Collect.{Totals}

-- slots by their numbers: the one that holds the object first, then the field, then the source or the target; a new object's slot,
-- then its count
pub data Call : Type 0 where
  put_int : ℕ → ℤ → Call
  put_nil : ℕ → Call
  copy : ℕ → ℕ → Call
  new_record : ℕ → ℕ → Call
  new_raw : ℕ → ℕ → Call
  read_field : ℕ → ℕ → ℕ → Call
  write_field : ℕ → ℕ → ℕ → Call
  read_raw : ℕ → ℕ → Call
  write_raw : ℕ → ℕ → ℕ → Call
  ask : ℕ → Call
  same : ℕ → ℕ → Call

-- what a collect call brings: marks and order, and tables that may hold anything
pub record Brought : Type 0 where
  pub marks : List ℕ
  pub order : List ℕ
  pub live : List ℕ
  pub offsets : List ℕ

-- what a call says; no place of an object among it
pub data Said : Type 0 where
  done : Said
  integer : ℤ → Said
  is_nil : Said
  is_record : ℕ → Said
  is_raw : ℕ → Said
  word : ℕ → Said
  the_same : Bool → Said
  collected : Totals → Said

-- what an accepted call says, and the state after it; a refused one leaves the state as found
pub record Did (S : Type 0) : Type 0 where
  pub said : Said
  pub state : S

-- the calls answered without refusal, as a 64-bit number that wraps on purpose
abbrev pub tick : ℕ → ℕ
tick n = suc n % 18446744073709551616

-- what a slot holds: an integer or nil, an object by its number, kind and count, or a reference to no object
pub data Shown : Type 0 where
  plain : Said → Shown
  object : ℕ → ℕ → ℕ → Shown
  stray : Shown

-- what the guards look at: the heap's length, the words in use, the number of slots, and what a slot holds
pub record View : Type 0 where
  pub room : ℕ
  pub in_use : ℕ
  pub slots : ℕ
  pub shows : ℕ → Shown

-- refusal n at p where the test fails
abbrev pub need : {A : Type 0} → Bool → ℕ → ℕ → Answer A → Answer A
need true n p a = a
need false n p a = refused n p

-- 7
abbrev pub slot : View → ℕ → Answer ℕ → Answer ℕ
slot v s a = need (ltb s v.slots) 7 s a

-- 13, 8 and 9: the number of the object of this kind that slot o holds and that has a field f
abbrev pub find : ℕ → ℕ → ℕ → Shown → Answer ℕ
find kind o f (plain said) = refused 8 o
find kind o f (object i k n) = need (eqb k kind) 8 o (need (ltb f n) 9 f (gives i))
find kind o f stray = refused 13 o

-- 13 alone
abbrev pub judgeable : ℕ → Shown → Answer ℕ
judgeable s (plain said) = gives 0
judgeable s (object i k n) = gives i
judgeable s stray = refused 13 s

-- 12 and 11
abbrev pub room_for : View → ℕ → Answer ℕ
room_for v k = need (leb k payload_words) 12 0 (need (leb (v.in_use + 1 + k) v.room) 11 0 (gives 0))

abbrev pub guards : View → Call → Answer ℕ
guards v (put_int s z) = slot v s (need (has_word (int z)) 10 0 (gives 0))
guards v (put_nil s) = slot v s (gives 0)
guards v (copy s t) = slot v s (slot v t (gives 0))
guards v (new_record s k) = slot v s (room_for v k)
guards v (new_raw s k) = slot v s (room_for v k)
guards v (read_field o f t) = slot v o (slot v t (find 0 o f (v.shows o)))
guards v (write_field o f s) = slot v o (slot v s (find 0 o f (v.shows o)))
guards v (read_raw o f) = slot v o (find 1 o f (v.shows o))
guards v (write_raw o f w) = slot v o (find 1 o f (v.shows o))
guards v (ask s) = slot v s (judgeable s (v.shows s))
guards v (same s t) = slot v s (slot v t (gives 0))

-- 1, of heap, top and slots
abbrev pub fits : View → Bool
fits v = leb v.room heap_words && (leb v.in_use v.room && leb v.slots root_slots)

-- a call is refused, or goes on with the number of the object that it is about (0 for none)
unfoldable pub admit : View → Call → Answer ℕ
admit v c = need (fits v) 1 0 (guards v c)
