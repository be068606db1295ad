-- The number of each refusal on paper, the place that it reports, and what a fallible answer stands for.
use Rattle.std.specs.Prelude.{ℕ, Bool, true, false, ⊤, Result, Ok, Err, List, ◌++◌, codes}
use Rattle.std.specs.Fmt.{decimal}
use Rattle.meaning.specs.Answers.{Answer, gives, refused}
use Rattle.refusals.specs.declared.Refusal.{Refusal}
use Rattle.refusals.specs.declared.Refusal.TheVariants.{Sizes, BadObject, StrayMark, LostRoot, LostField, OrderBreaks, NoSlot, OtherKind, NoField, OutOfRange, NoRoom, TooLong, NoObject, BadImage}

abbrev pub number_of : Refusal → ℕ
number_of Sizes = 1
number_of (BadObject p) = 2
number_of (StrayMark p) = 3
number_of (LostRoot s) = 4
number_of (LostField p) = 5
number_of (OrderBreaks i) = 6
number_of (NoSlot s) = 7
number_of (OtherKind s) = 8
number_of (NoField f) = 9
number_of OutOfRange = 10
number_of NoRoom = 11
number_of TooLong = 12
number_of (NoObject s) = 13
number_of BadImage = 14

-- the place, slot, position or field; 0 where there is none
abbrev pub place_of : Refusal → ℕ
place_of Sizes = 0
place_of (BadObject p) = p
place_of (StrayMark p) = p
place_of (LostRoot s) = s
place_of (LostField p) = p
place_of (OrderBreaks i) = i
place_of (NoSlot s) = s
place_of (OtherKind s) = s
place_of (NoField f) = f
place_of OutOfRange = 0
place_of NoRoom = 0
place_of TooLong = 0
place_of (NoObject s) = s
place_of BadImage = 0

-- what is printed of it
abbrev pub text_of : Refusal → List ℕ
text_of e = codes "refused " ++ decimal (number_of e) ++ codes " at " ++ decimal (place_of e)

-- the answer on paper, where f x is what the value x stands for, and a refusal reports a number and a place
abbrev pub answer_by : {T E A : Type 0} → (E → ℕ) → (E → ℕ) → (T → A) → Result T E → Answer A
answer_by number place f (Ok x) = gives (f x)
answer_by number place f (Err e) = refused (number e) (place e)

-- the same of the refusals above
abbrev pub answer_of : {T A : Type 0} → (T → A) → Result T Refusal → Answer A
answer_of = answer_by number_of place_of

-- nothing where c holds, else this refusal
abbrev pub refuse_unless : Bool → Refusal → Result ⊤ Refusal
refuse_unless true e = Ok tt
refuse_unless false e = Err e
