use Rattle.std.proofs.Common.{sym, ◌∙◌}
use Rattle.mdr_script.proofs.Lists.{args_step}
use Rattle.mdr_script.proofs.arguments.args_at.Goals as goal

pub loop-word-preserved : goal.loop-word-preserved
loop-word-preserved c = args_step c.args.any c.loop-word.most c.loop-word.args c.push.new.self c.loop-word.rest.now c.word_at.result.0.now c.word_at.result.1.now c.in_ok-arg_of.field-0 _ c.if-most-eq0.false c.word_at.ensures (sym c.is_empty.ensures ∙ c.if-is_empty.false) c.in_ok-arg_of.ensures c.in_ok-push.ensures.ok c.loop-word.invariant
