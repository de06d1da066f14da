use Rattle.std.proofs.Common.{◌+◌, ◌-◌, ◌++◌, sym, ap, ◌∙◌}
use Rattle.mdr_print.specs.Marks.{spell, tabs}
use Rattle.mdr_print.proofs.Steps.{tabs_step}
use Rattle.mdr_print.proofs.put.put_tabs.Goals as goal

pub loop-preserved : goal.loop-preserved
loop-preserved c = λ rest. c.in_ok-put_tab.ensures (tabs (c.args.depth - (c.loop.counter + 1)) rest) ∙ ap (λ m. c.loop.out.items ++ spell m) (sym (tabs_step c.args.depth c.loop.counter c.loop-test.true rest)) ∙ c.loop.invariant rest
