use Rattle.std.proofs.Common.{sym, ◌∙◌}
use Rattle.mdr_syntax.specs.Pieces.{close_at}
use Rattle.mdr_syntax.proofs.Texts.{close-on}
use Rattle.mdr_syntax.proofs.comment.close_at.Goals as goal

pub loop-i-preserved : goal.loop-i-preserved
loop-i-preserved c =
    close-on c.loop-i.i c.args.bytes.now (close_at c.args.bytes.now) c.loop-i-test.true (sym c.begins_with.ensures.value ∙ c.if-begins_with.false) c.loop-i.invariant
