use Rattle.std.proofs.Common.{◌+◌, ◌-◌, ◌++◌, sym, ap, ◌∙◌}
use Rattle.mdr_print.specs.Marks.{spell}
use Rattle.mdr_print.specs.Types.{stars}
use Rattle.mdr_print.proofs.Steps.{stars_step}
use Rattle.mdr_print.proofs.types.put_stars.Goals as goal

pub loop-preserved : goal.loop-preserved
loop-preserved c = λ rest. c.in_ok-put_sign.ensures (stars (c.args.count - (c.loop.counter + 1)) rest) ∙ ap (λ m. c.loop.out.items ++ spell m) (sym (stars_step c.args.count c.loop.counter c.loop-test.true rest)) ∙ c.loop.invariant rest
