-- What a lookup's answer stands for.
use Rattle.std.specs.Prelude.{ℕ, ◌&&◌, false, ◌≡◌, List, length, eqb, leb, Option, Some, None, Result}
use Rattle.meaning.specs.Limits.{table_entries}
use Rattle.meaning.specs.Answers.{Answer}
use Rattle.meaning.specs.Lookups.{Found, at, none}
use Rattle.words.specs.declared.Place.{Place}
use Rattle.refusals.specs.declared.Refusal.{Refusal}
use Rattle.refusals.specs.Paper.{answer_of}

-- a place, or none
abbrev pub found_of : Option Place → Found
found_of (Some p) = at p.0
found_of None = none

abbrev pub lookup_answer : Result (Option Place) Refusal → Answer Found
lookup_answer = answer_of found_of

-- the lengths are not fit for a lookup
abbrev pub Unfit : List ℕ → List ℕ → Type 0
Unfit live offsets = eqb (length live) (length offsets) && leb (length live) table_entries ≡ false
