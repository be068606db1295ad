-- `input::read_full` meets its contract: each read goes on where the one before it ended. Assumes nothing.
use Rattle.std.proofs.Common.{◌≡◌, ℕ, ◌+◌, ◌-◌, ◌≤◌, List, ◌++◌, rules, length, take, sym, ap, ◌∙◌, subst, length-take-le}
use Rattle.std.proofs.Math.Seq.{take-append-add}
use Rattle.std.proofs.lemmas.List.{take-append-le}
use Rattle.std.specs.Io.KnownBytes.{Consumes}
use Rattle.std.proofs.KnownBytes.{Consumes-trans}
use borrow.Rule.Slice.PartMut.{put_mid, post_of}
use Rattle.input.proofs.read_full.Goals as goal

-- what stood at the front, and then what was read
take-put_mid_read : (at k n : ℕ) (buffer part : List ℕ) → at ≤ length buffer → n ≤ length part → take (at + n) (put_mid at k buffer part) ≡ take at buffer ++ take n part
take-put_mid_read at k n buffer part within fits =
    let front = take at buffer in
    let after = post_of at k buffer in
    let long : at ≡ length front = sym (length-take-le at buffer within) in
    ap (λ (m : ℕ). take (m + n) (front ++ (part ++ after))) long
    ∙ take-append-add front (part ++ after) n
    ∙ ap (λ (l : List ℕ). front ++ l) (take-append-le n part after fits)

pub loop-done-preserved : goal.loop-done-preserved
loop-done-preserved g c =
    let d = c.loop-done.done in
    let b = c.loop-done.buffer in
    let joined = take-put_mid_read d (length b - d) c.in-Ok.n b c.read.new.buf c.loop-done.invariant.0 c.in-Ok.ensures.bound.0 in
    (search rules, subst (Consumes _ _) (sym joined) (Consumes-trans _ _ _ _ _ c.loop-done.invariant.1 c.in-Ok.ensures.bytes.0))
