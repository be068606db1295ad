-- The contents on paper, and what an accepted image has.
use Rattle.std.specs.Prelude.{ℕ, ◌+◌, ◌*◌, ◌/◌, ◌%◌, ◌≤◌, ◌≡◌, List, length}
use Rattle.meaning.specs.Limits.{blocks_of}
use Rattle.meaning.specs.Image.{most_words, most_roots, most_steps, Contents as Table}
use Rattle.image.specs.declared.Contents.{Contents}

-- the ten words
abbrev pub table_of : Contents → Table
table_of t = record {
  kind = t.kind;
  top = t.top;
  heap = t.heap.start;
  words = t.heap.length;
  roots = t.roots.start;
  slots = t.roots.length;
  marks = t.marks.start;
  halves = t.marks.length;
  order = t.order.start;
  steps = t.order.length;
}

-- sizes within the program's limits, and bodies that lie one after the other in the bytes to their end
pub record Fitting (bytes : List ℕ) (t : Table) : Type 0 where
  pub words : t.words ≤ most_words
  pub top : t.top ≤ t.words
  pub slots : t.slots ≤ most_roots
  pub blocks : t.halves / 2 ≡ blocks_of t.words
  pub steps : t.steps ≤ most_steps
  pub heap : t.heap ≡ 10
  pub roots : t.roots ≡ t.heap + t.words
  pub marks : t.marks ≡ t.roots + t.slots
  pub order : t.order ≡ t.marks + t.halves
  pub even : t.halves % 2 ≡ 0
  pub whole : length bytes ≡ 4 * (t.order + t.steps)
