-- The cases of the store calls say what they should. Assumes nothing.
use mathlib.Core.Path.{◌≡◌, refl}
use mathlib.Core.List.{List, [], ◌∷◌}
use Rattle.meaning.specs.Values.{value_of, word_of}
use Rattle.meaning.specs.Calls.{admit}
use Rattle.meaning.specs.Store.{shown, answered}
use Rattle.meaning.specs.CallCases.{call_cases}

-- each row is an equation
abbrev pub Hold : {A : Type 0} → List (A × A) → Type 0
Hold [] = Unit {0}
Hold (c ∷ cs) = (c.0 ≡ c.1) × Hold cs

pub call_cases_hold : Hold call_cases
unfolding call_cases answered admit shown value_of word_of
call_cases_hold =
    (refl, (refl, (refl, (refl, (refl, (refl, (refl, (refl, (refl, (refl, (refl, (refl, (refl, (refl, (refl, (refl, (refl, (refl, (refl, (refl, (refl, (refl, (refl, (refl, (refl, (refl, (refl, (refl, (refl, (refl, tt))))))))))))))))))))))))))))))
