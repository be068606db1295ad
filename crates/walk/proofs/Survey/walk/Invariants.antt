-- At each turn the objects before `p` are sound and noted.
use Prim.Native.Nat.{◌-◌}
use Rattle.meaning.specs.Places.{marked}
use Rattle.walk.proofs.WalkLaws.{Passing}
use Rattle.walk.proofs.Survey.walk.Given as goal

abbrev pub invariant-objects : goal.invariant-objects
invariant-objects l = Passing l.heap l.top (marked l.marks) l.p l.self.headers l.self.words l.self.fields

abbrev pub decreases-objects : goal.decreases-objects
decreases-objects l = l.top - l.p
