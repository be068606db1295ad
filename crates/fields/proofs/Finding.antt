-- The calls about a field do what they do to the object that is found. Assumes nothing.
use Rattle.std.proofs.Common.{◌≡◌, ℕ, Bool, true, false, ltb, length, refl, ap}
use Rattle.meaning.specs.Answers.{Answer as Answered}
use Rattle.meaning.specs.Calls.{Call, need, slot, fits, find, admit, read_field, write_field, read_raw, write_raw}
use Rattle.meaning.specs.Store.{Mem, view_of, shown, acted, answered}
use Rattle.fields.specs.Fields.{finding}

pub reads_field : (m : Mem) (o f t : ℕ) → answered m (read_field o f t) ≡ acted m (read_field o f t) (finding m 0 o f t)
unfolding answered admit finding
reads_field m o f t = refl

pub writes_field : (m : Mem) (o f s : ℕ) → answered m (write_field o f s) ≡ acted m (write_field o f s) (finding m 0 o f s)
unfolding answered admit finding
writes_field m o f s = refl

twice : {A : Type 0} (b : Bool) (n q : ℕ) (x : Answered A) → need b n q x ≡ need b n q (need b n q x)
twice true n q x = refl
twice false n q x = refl

-- a call with one slot asks for it once
pub finding-once : (m : Mem) (kind o f : ℕ) → need (fits (view_of m)) 1 0 (slot (view_of m) o (find kind o f (shown m o))) ≡ finding m kind o f o
unfolding finding
finding-once m kind o f = ap (need (fits (view_of m)) 1 0) (twice (ltb o (length m.slots)) 7 o (find kind o f (shown m o)))

raw_found : (m : Mem) (c : Call) (o f : ℕ) → acted m c (need (fits (view_of m)) 1 0 (need (ltb o (length m.slots)) 7 o (find 1 o f (shown m o)))) ≡ acted m c (finding m 1 o f o)
unfolding finding
raw_found m c o f = ap (λ x. acted m c (need (fits (view_of m)) 1 0 x)) (twice (ltb o (length m.slots)) 7 o (find 1 o f (shown m o)))

pub reads_raw : (m : Mem) (o f : ℕ) → answered m (read_raw o f) ≡ acted m (read_raw o f) (finding m 1 o f o)
unfolding answered admit
reads_raw m o f = raw_found m (read_raw o f) o f

pub writes_raw : (m : Mem) (o f w : ℕ) → answered m (write_raw o f w) ≡ acted m (write_raw o f w) (finding m 1 o f o)
unfolding answered admit
writes_raw m o f w = raw_found m (write_raw o f w) o f
