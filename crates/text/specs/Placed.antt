-- A text written into a buffer.
use Rattle.std.specs.Prelude.{ℕ, ◌+◌, ◌≤◌, ◌≡◌, List, ◌++◌, length, take, drop}
use Rattle.text.specs.declared.Line.{Line}

-- after is before with the text from place `at` on, at most `most` long, and nothing else changed; r is the place after it
pub record Placed (before after : List ℕ) (at : ℕ) (text : List ℕ) (most r : ℕ) : Type 0 where
  pub ends : r ≡ at + length text
  pub within : r ≤ at + most
  pub written : take r after ≡ take at before ++ text
  pub rest : drop r after ≡ drop r before

-- the line goes on, in the same buffer, with the text
pub record Puts (before after : Line) (text : List ℕ) (most : ℕ) : Type 0 where
  pub same_buffer : after.out.ghost_name ≡ before.out.ghost_name
  pub same_size : length after.out.now ≡ length before.out.now
  pub placed : Placed before.out.now after.out.now before.at text most after.at
