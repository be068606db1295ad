-- What the code's answers stand for.
use Rattle.std.specs.Prelude.{ℕ, Result}
use Rattle.meaning.specs.Answers.{Answer}
use Rattle.meaning.specs.Values.{Value, int, nil, ref}
use Rattle.refusals.specs.Paper.{answer_of}
use Rattle.refusals.specs.declared.Refusal.{Refusal}
use Rattle.words.specs.declared.Word.{Word}
use Rattle.words.specs.declared.Shown.{Shown}
use Rattle.words.specs.declared.Shown.TheVariants.{Int, Nil, Ref}

-- the value that is shown
abbrev pub shown_value : Shown → Value
shown_value (Int v) = int v
shown_value Nil = nil
shown_value (Ref p) = ref p.0

-- the word that is made, or the refusal
abbrev pub made_word : Result Word Refusal → Answer ℕ
made_word = answer_of (λ w. w.0)
