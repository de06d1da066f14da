use Rattle.std.proofs.Common.{◌∙◌, ap}
use Rattle.mdr_events.specs.Values.{wires_of}
use Rattle.mdr_world.specs.Driven.{Driven}
use Rattle.mdr_watch.proofs.Nested.{only_left, ran_entered, ran_within}
use Rattle.mdr_watch.proofs.upcall.enter_first.Goals as goal

pub enter-requires-clause-same : goal.enter-requires-clause-same
enter-requires-clause-same c = ap (λ (d : Driven). d.program) c.new-guarded.ensures ∙ c.requires.same

pub closed-requires : goal.closed-requires
closed-requires c = record {
  only =
      only_left c.args.activation (wires_of c.args.args.now) c.args.world.world c.args.set c.in-Ok.gave c.enter.new.guarded.world c.requires.begins
      (ran_within c.args.activation (wires_of c.args.args.now) c.args.set c.args.world.program c.in-Ok.gave c.args.world.world c.new-guarded.result c.enter.new.guarded c.new-guarded.ensures c.in-Ok.ensures.gave)
      c.requires.alone;
}

pub returns-in-Ok-clause-gave : goal.returns-in-Ok-clause-gave
returns-in-Ok-clause-gave c =
    ran_entered c.args.activation (wires_of c.args.args.now) c.args.set c.in-Ok.gave c.closed.result.gave c.args.world.world c.enter.new.guarded.world c.closed.result.world.world
    (ran_within c.args.activation (wires_of c.args.args.now) c.args.set c.args.world.program c.in-Ok.gave c.args.world.world c.new-guarded.result c.enter.new.guarded c.new-guarded.ensures c.in-Ok.ensures.gave)
    c.closed.ensures.gave
