-- `put_image` meets its contract: the collection of the bodies copied is that of the image. Assumes nothing.
use Prim.Native.Nat.{ℕ}
use native.Mathlib.Omega.{arith}
use lib.ListN.{length-take}
use mathlib.Core.Path.{sym}
use Rattle.report.proofs.Reporting.{collection_in_buffers, top-low, reports_part, reports_same, reports_uncollected, reports_collected}
use Rattle.report.proofs.put_image.Goals as goal

pub put_collected-requires : goal.put_collected-requires
put_collected-requires c =
    let low = top-low _ _ _ _ _ _ _ _ (sym c.in-Ok.ensures.answer_is) in
    (omega (arith, low, c.collect.auto, length-take {A = ℕ}), omega (arith, low, c.collect.auto, length-take {A = ℕ}))

pub returns-in-Err : goal.returns-in-Err
returns-in-Err c =
    let same = collection_in_buffers c.requires.0 _ c.requires.1 c.copy.ensures c.copy-2.ensures c.copy-3.ensures c.copy-4.ensures in
    reports_part _ (reports_same same (reports_uncollected c.in-Err.ensures c.put_refusal.ensures))

pub returns-in-Ok : goal.returns-in-Ok
returns-in-Ok c =
    let same = collection_in_buffers c.requires.0 _ c.requires.1 c.copy.ensures c.copy-2.ensures c.copy-3.ensures c.copy-4.ensures in
    reports_part _ (reports_same same (reports_collected c.in-Ok.ensures c.put_collected.ensures))
