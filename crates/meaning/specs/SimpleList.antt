-- The simple list: objects in order of birth. A reference is the object itself, by its number in that order, which never changes.
use Rattle.std.specs.Prelude.{ℕ, zero, suc, ◌+◌, Bool, true, false, List, [], ◌∷◌, ◌++◌, length, get_or, set, replicate, ℤ, pos, negsuc, eqb}
use Rattle.meaning.specs.Answers.{Answer, gives, refused}
use Rattle.meaning.specs.Values.{Value, int, nil, ref}
use Rattle.meaning.specs.Calls.{Call, put_int, put_nil, copy, new_record, new_raw, read_field, write_field, read_raw, write_raw, ask, same, Said, done, integer, is_nil, is_record, is_raw, word, the_same, Did, tick, Shown, plain, object, stray, View, admit}

-- a record of values, a raw object of numbers, or what is left of a dropped one: how many words it had
pub data Born : Type 0 where
  rec : List Value → Born
  raw : List ℕ → Born
  gone : ℕ → Born

pub record Simple : Type 0 where
  pub room : ℕ
  pub objects : List Born
  pub slots : List Value
  pub calls : ℕ

-- the words that an object takes
abbrev pub words : Born → ℕ
words (rec vs) = suc (length vs)
words (raw ws) = suc (length ws)
words (gone n) = 0

-- words in use
abbrev pub in_use : List Born → ℕ
in_use [] = 0
in_use (o ∷ os) = words o + in_use os

-- an object's place: the words of all objects before it
abbrev pub place : List Born → ℕ → ℕ
place [] i = 0
place (o ∷ os) zero = 0
place (o ∷ os) (suc i) = words o + place os i

abbrev pub the : List Born → ℕ → Born
the os i = get_or os i (gone 0)

abbrev pub show_born : ℕ → Born → Shown
show_born i (rec vs) = object i 0 (length vs)
show_born i (raw ws) = object i 1 (length ws)
show_born i (gone n) = stray

abbrev pub show_value : List Born → Value → Shown
show_value os (int z) = plain (integer z)
show_value os nil = plain is_nil
show_value os (ref i) = show_born i (the os i)

-- what stands past the end of a list of values; no call comes to it
abbrev pub no_value : Value
no_value = int (pos 0)

abbrev pub held : Simple → ℕ → Value
held a s = get_or a.slots s no_value

abbrev pub view_list : Simple → View
view_list a =
    record { room = a.room; in_use = in_use a.objects; slots = length a.slots; shows = λ s. show_value a.objects (held a s) }

abbrev pub says_list : Simple → Said → List Born → List Value → Did Simple
says_list a said objects slots = record { said = said; state = record { room = a.room; objects = objects; slots = slots; calls = tick a.calls } }

abbrev pub slot_list : Simple → ℕ → Value → Did Simple
slot_list a s v = says_list a done a.objects (set a.slots s v)

abbrev pub born_list : Simple → ℕ → Born → Did Simple
born_list a s o = says_list a done (a.objects ++ (o ∷ [])) (set a.slots s (ref (length a.objects)))

abbrev pub changed_list : Simple → ℕ → Born → Did Simple
changed_list a i o = says_list a done (set a.objects i o) a.slots

abbrev pub field_of : Born → ℕ → Value
field_of (rec vs) f = get_or vs f no_value
field_of (raw ws) f = no_value
field_of (gone n) f = no_value

abbrev pub raw_of : Born → ℕ → ℕ
raw_of (rec vs) f = 0
raw_of (raw ws) f = get_or ws f 0
raw_of (gone n) f = 0

abbrev pub put_field : Born → ℕ → Value → Born
put_field (rec vs) f v = rec (set vs f v)
put_field (raw ws) f v = raw ws
put_field (gone n) f v = gone n

abbrev pub put_raw : Born → ℕ → ℕ → Born
put_raw (rec vs) f w = rec vs
put_raw (raw ws) f w = raw (set ws f w)
put_raw (gone n) f w = gone n

-- what an ask says of a value; no slot holds a dropped object
abbrev pub say_born : Born → Said
say_born (rec vs) = is_record (length vs)
say_born (raw ws) = is_raw (length ws)
say_born (gone n) = is_nil

abbrev pub say_value : List Born → Value → Said
say_value os (int z) = integer z
say_value os nil = is_nil
say_value os (ref i) = say_born (the os i)

abbrev pub same_int : ℤ → ℤ → Bool
same_int (pos x) (pos y) = eqb x y
same_int (pos x) (negsuc y) = false
same_int (negsuc x) (pos y) = false
same_int (negsuc x) (negsuc y) = eqb x y

-- the same integer, both nil, or the same object
abbrev pub same_value : Value → Value → Bool
same_value (int x) (int y) = same_int x y
same_value (int x) nil = false
same_value (int x) (ref j) = false
same_value nil (int y) = false
same_value nil nil = true
same_value nil (ref j) = false
same_value (ref i) (int y) = false
same_value (ref i) nil = false
same_value (ref i) (ref j) = eqb i j

-- an admitted call; i is the number of the object that it is about
abbrev pub act_list : Simple → Call → ℕ → Did Simple
act_list a (put_int s z) i = slot_list a s (int z)
act_list a (put_nil s) i = slot_list a s nil
act_list a (copy s t) i = slot_list a t (held a s)
act_list a (new_record s k) i = born_list a s (rec (replicate k nil))
act_list a (new_raw s k) i = born_list a s (raw (replicate k 0))
act_list a (read_field o f t) i = slot_list a t (field_of (the a.objects i) f)
act_list a (write_field o f s) i = changed_list a i (put_field (the a.objects i) f (held a s))
act_list a (read_raw o f) i = says_list a (word (raw_of (the a.objects i) f)) a.objects a.slots
act_list a (write_raw o f w) i = changed_list a i (put_raw (the a.objects i) f w)
act_list a (ask s) i = says_list a (say_value a.objects (held a s)) a.objects a.slots
act_list a (same s t) i = says_list a (the_same (same_value (held a s) (held a t))) a.objects a.slots

abbrev pub acted_list : Simple → Call → Answer ℕ → Answer (Did Simple)
acted_list a c (refused n p) = refused n p
acted_list a c (gives i) = gives (act_list a c i)

-- a call on the list
unfoldable pub answered_list : Simple → Call → Answer (Did Simple)
answered_list a c = acted_list a c (admit (view_list a) c)
