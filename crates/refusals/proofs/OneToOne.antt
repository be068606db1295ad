-- A refusal is known by its number and place, and an answer by what it stands for. Assumes nothing.
use Rattle.std.proofs.Common.{ℕ, [], ◌∷◌, get_or, ◌≡◌, refl, ap, Result, Ok, Err}
use Rattle.meaning.specs.Answers.{Answer, gives, refused}
use Rattle.refusals.specs.Paper.{number_of, place_of, answer_of}
use Rattle.refusals.specs.declared.Refusal.{Refusal}
use Rattle.refusals.specs.declared.Refusal.TheVariants.{Sizes, BadObject, StrayMark, LostRoot, LostField, OrderBreaks, NoSlot, OtherKind, NoField, OutOfRange, NoRoom, TooLong, NoObject, BadImage}

-- the refusal with this number and place
abbrev pub refusal_at : ℕ → ℕ → Refusal
refusal_at n p = get_or (BadImage ∷ Sizes ∷ BadObject p ∷ StrayMark p ∷ LostRoot p ∷ LostField p ∷ OrderBreaks p ∷ NoSlot p ∷ OtherKind p ∷ NoField p
    ∷ OutOfRange ∷ NoRoom ∷ TooLong ∷ NoObject p ∷ []) n BadImage

pub refusal_back : (e : Refusal) → refusal_at (number_of e) (place_of e) ≡ e
refusal_back Sizes = refl
refusal_back (BadObject p) = refl
refusal_back (StrayMark p) = refl
refusal_back (LostRoot p) = refl
refusal_back (LostField p) = refl
refusal_back (OrderBreaks p) = refl
refusal_back (NoSlot p) = refl
refusal_back (OtherKind p) = refl
refusal_back (NoField p) = refl
refusal_back OutOfRange = refl
refusal_back NoRoom = refl
refusal_back TooLong = refl
refusal_back (NoObject p) = refl
refusal_back BadImage = refl

-- back from the answer on paper, where g leads back from the values
abbrev pub answer_at : {T A : Type 0} → (A → T) → Answer A → Result T Refusal
answer_at g (gives a) = Ok (g a)
answer_at g (refused n p) = Err (refusal_at n p)

pub answer_back : {T A : Type 0} (f : T → A) (g : A → T) → ((x : T) → g (f x) ≡ x) → (r : Result T Refusal) → answer_at g (answer_of f r) ≡ r
answer_back f g back (Ok x) = ap Ok (back x)
answer_back f g back (Err e) = ap Err (refusal_back e)

-- an answer on paper stands for one answer, where a value on paper stands for one value
pub answer_one : {T A : Type 0} (f : T → A) (g : A → T) → ((x : T) → g (f x) ≡ x) → (r s : Result T Refusal) → answer_of f r ≡ answer_of f s → r ≡ s
answer_one f g back r s e = cc (ap (answer_at g) e, answer_back f g back r, answer_back f g back s)
