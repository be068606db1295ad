-- What a slot shows and what a call about a field finds, as on paper.
use Rattle.std.specs.Prelude.{ℕ, suc, ◌+◌, ◌≡◌, Result}
use Rattle.meaning.specs.Answers.{Answer as Answered, gives, refused}
use Rattle.meaning.specs.Calls.{Said, integer, is_nil, Shown, plain, object, stray, need, slot, find, fits}
use Rattle.meaning.specs.Store.{Mem, view_of, shown, asked}
use Rattle.refusals.specs.Paper.{answer_of}
use Rattle.refusals.specs.declared.Refusal.{Refusal}
use Rattle.refusals.specs.declared.Refusal.TheVariants.{OtherKind, NoObject}
use Rattle.headers.specs.Paper.{kind_number}
use Rattle.fields.specs.declared.Seen.{Seen}
use Rattle.fields.specs.declared.Seen.TheVariants.{Number, Empty, Object, Stray}

-- what a slot's word shows, on paper
abbrev pub seen_of : Seen → Shown
seen_of (Number z) = plain (integer z)
seen_of Empty = plain is_nil
seen_of (Object p k n) = object p (kind_number k) n
seen_of Stray = stray

-- the refusal where a slot shows no object
abbrev pub no_object : Shown → ℕ → Refusal
no_object (plain a) s = OtherKind s
no_object (object p k n) s = OtherKind s
no_object stray s = NoObject s

-- what an ask of slot s says of what it shows
abbrev pub says_of : ℕ → Shown → Answered Said
says_of s (plain a) = gives a
says_of s (object p k n) = gives (asked (object p k n))
says_of s stray = refused 13 s

-- the place that is found, or the refusal
abbrev pub found_of : Result ℕ Refusal → Answered ℕ
found_of = answer_of (λ p. p)

-- the guards of a call about field f of the object of this kind in slot o, and slot t
unfoldable pub finding : Mem → ℕ → ℕ → ℕ → ℕ → Answered ℕ
finding m kind o f t = need (fits (view_of m)) 1 0 (slot (view_of m) o (slot (view_of m) t (find kind o f (shown m o))))

-- the word of field f, where its object is found
abbrev pub field_of : ℕ → Answered ℕ → Answered ℕ
field_of f (gives p) = gives (suc p + f)
field_of f (refused n p) = refused n p

-- what is found is that word, or the first refusal of those guards
pub record Finds (m : Mem) (kind o f t : ℕ) (r : Result ℕ Refusal) : Type 0 where
  pub found_is : found_of r ≡ field_of f (finding m kind o f t)
