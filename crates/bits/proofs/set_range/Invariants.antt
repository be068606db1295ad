-- `bits::set_range` meets its contract. The loop has marked the places from `from` to before `at`. Assumes nothing.
use mathlib.Core.Path.{◌≡◌}
use Prim.Native.Nat.{◌≤◌, ◌-◌, max}
use lib.ListN.{length}
use Rattle.meaning.proofs.Bitmaps.{Fit}
use Rattle.bits.specs.Ranges.{Gains}
use Rattle.bits.proofs.set_range.Given as goal

abbrev pub invariant-loop-at : goal.invariant-loop-at
invariant-loop-at l = (l.from ≤ l.at) × (l.at ≤ max l.from l.to) × (length l.map ≡ length l.initial.map) × Fit l.map × Gains l.initial.map l.map l.from l.at

abbrev pub decreases-loop-at : goal.decreases-loop-at
decreases-loop-at l = l.to - l.at
