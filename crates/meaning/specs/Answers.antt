-- What a call answers: its values, or a refusal's number and the place that it reports.
use Rattle.std.specs.Prelude.{ℕ, List, [], ◌∷◌}

pub data Answer (A : Type 0) : Type 0 where
  gives : A → Answer A
  refused : ℕ → ℕ → Answer A

-- refused with number n at the first of the offending places, where there is one
abbrev pub refuse : {A : Type 0} → ℕ → List ℕ → Answer A → Answer A
refuse n [] a = a
refuse n (p ∷ ps) a = refused n p
