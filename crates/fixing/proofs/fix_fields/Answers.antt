-- `fixing::fix_fields` meets its contract: the references of the blocks so far are sent on. Assumes nothing.
use Rattle.fixing.proofs.SentOn.{block_fixable, block_sent}
use Rattle.fixing.proofs.fix_fields.Goals as goal

pub fix_block-requires : goal.fix_block-requires
fix_block-requires c = block_fixable _ _ _ _ _ c.loop-b.invariant _ c.requires

pub loop-b-preserved : goal.loop-b-preserved
loop-b-preserved c = block_sent _ _ _ _ _ c.loop-b.invariant _ c.fix_block.ensures
