-- An answer as C gets it: a number, and values in the words that it lends.
use Rattle.std.specs.Prelude.{ℕ, ◌+◌, ◌-◌, ◌*◌, ◌≡◌, cond, List, [], ◌∷◌, ℤ, pos, negsuc}
use Rattle.std.proofs.lemmas.List.Edits.{sets}
use Rattle.meaning.specs.Answers.{Answer, gives, refused}
use Rattle.meaning.specs.Collect.{Counts, Totals, After}
use Rattle.meaning.specs.Lookups.{Found, at, none}
use Rattle.meaning.specs.Calls.{Said, done, integer, is_nil, is_record, is_raw, word, the_same, collected}

-- 0 where accepted, else the refusal's number + 256 * the place reported
abbrev pub code : {A : Type 0} → Answer A → ℕ
code (gives a) = 0
code (refused n p) = n + 256 * p

-- the lent words with the values in front; as found on a refusal
abbrev pub out_of : {A : Type 0} → (A → List ℕ) → List ℕ → Answer A → List ℕ
out_of values out (gives a) = sets out 0 (values a)
out_of values out (refused n p) = out

-- L and the number of marked objects
abbrev pub count_words : Counts → List ℕ
count_words c = c.live ∷ c.objects ∷ []

-- the new top L, the number of marked objects and the target blocks T
abbrev pub total_words : Totals → List ℕ
total_words t = t.top ∷ t.objects ∷ t.blocks ∷ []

-- 1 and the place, or 0 for dead or none
abbrev pub found_words : Found → List ℕ
found_words (at p) = 1 ∷ p ∷ []
found_words none = 0 ∷ []

-- an integer in 64 bits, two's complement
abbrev pub bits64 : ℤ → ℕ
bits64 (pos n) = n
bits64 (negsuc n) = 18446744073709551615 - n

-- the values of what a call says
abbrev pub said_words : Said → List ℕ
said_words done = []
said_words (integer z) = 0 ∷ bits64 z ∷ []
said_words is_nil = 1 ∷ []
said_words (is_record n) = 2 ∷ n ∷ []
said_words (is_raw n) = 3 ∷ n ∷ []
said_words (word w) = w ∷ []
said_words (the_same b) = cond b 1 0 ∷ []
said_words (collected t) = total_words t

-- the number and the lent words afterwards say an answer
pub record Says {A : Type 0} (values : A → List ℕ) (a : Answer A) (out : List ℕ) (r : ℕ) (after : List ℕ) : Type 0 where
  pub number : r ≡ code a
  pub words : after ≡ out_of values out a

-- the same of a collection, with every lent buffer
pub record SaysCollected (c : After) (out : List ℕ) (r : ℕ) (heap roots marks live offsets after : List ℕ) : Type 0 where
  pub says : Says total_words c.answer out r after
  pub heap_is : heap ≡ c.heap
  pub roots_are : roots ≡ c.roots
  pub marks_are : marks ≡ c.marks
  pub live_is : live ≡ c.live
  pub offsets_are : offsets ≡ c.offsets
