use Rattle.std.proofs.Common.{List, ap, subst, ◌∙◌}
use Rattle.std.specs.Prelude.{map}
use Rattle.std.proofs.lemmas.Result.{IfOk-weaker}
use Rattle.mdr_meaning.specs.declared.wire.Wire.{Wire}
use Rattle.mdr_model.specs.Memory.{normal}
use Rattle.mdr_watch.specs.Watching.{driver_in}
use Rattle.mdr_turns.specs.Coming.{ComesTo, down_begins, from_active}
use Rattle.mdr_turns.proofs.downs.goes_down.Goals as goal

pub returns-in-Ok-clause-comes : goal.returns-in-Ok-clause-comes
returns-in-Ok-clause-comes c =
    IfOk-weaker c.crossed.result _ _
    (λ p h. λ script.
    subst (λ (vs : List Wire). ComesTo (driver_in c.args.watch) p script (from_active (driver_in c.args.watch) c.args.active script (down_begins (driver_in c.args.watch) c.args.active.guarded.world c.args.down.now.at c.args.down.now.func vs c.args.down.now.depth)))
    (c.in-Ok.ensures ∙ ap (map (normal c.args.active.guarded.world.memory)) c.as_slice.ensures)
    (h script c.args.active.guarded.world))
    c.crossed.ensures.comes
