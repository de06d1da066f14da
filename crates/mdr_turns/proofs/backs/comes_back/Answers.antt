use Rattle.std.proofs.Common.{◌∙◌, ap, sym}
use Rattle.std.proofs.lemmas.Result.{IfOk-weaker}
use Rattle.mdr_meaning.specs.Values.{wire_of}
use Rattle.mdr_watch.specs.Watching.{driver_in}
use Rattle.mdr_whole.specs.declared.ending.Gave.TheVariants as gave
use Rattle.mdr_whole.specs.Ending.{gave_as}
use Rattle.mdr_turns.proofs.Behind.{behind_stays}
use Rattle.mdr_turns.proofs.Resuming.{down_told}
use Rattle.mdr_turns.proofs.backs.comes_back.Goals as goal

pub back_told-requires : goal.back_told-requires
back_told-requires c = record {
  active = record {
    same = c.in-Ok-Value.ensures.kept;
    passes = c.requires.active.passes;
    behind = behind_stays c.args.watch.program.now c.args.active.guarded.world c.come_back.new.guarded.world c.args.active.behind c.in-Ok-Value.ensures.stays c.requires.active.behind;
  };
}

pub returns-in-Ok-Value-clause-comes : goal.returns-in-Ok-Value-clause-comes
returns-in-Ok-Value-clause-comes c =
    IfOk-weaker c.back_told.result _ _
    (λ p h.
    down_told (driver_in c.args.watch) p c.args.active c.args.crossing.now (wire_of c.args.value) (gave_as (gave.Value c.in-Ok-Value.value) c.come_back.new.guarded.world)
    (ap (λ g. gave_as g c.come_back.new.guarded.world) (sym c.in-Ok-Value.field-0-is) ∙ c.in-Ok-Value.ensures.gave) h)
    c.back_told.ensures.comes

pub returns-in-Ok-Stopped-clause-comes : goal.returns-in-Ok-Stopped-clause-comes
returns-in-Ok-Stopped-clause-comes c =
    down_told (driver_in c.args.watch) c.over_in.result c.args.active c.args.crossing.now (wire_of c.args.value) (gave_as (gave.Stopped c.in-Ok-Stopped.kind c.in-Ok-Stopped.at) c.come_back.new.guarded.world)
    (ap (λ g. gave_as g c.come_back.new.guarded.world) (sym c.in-Ok-Stopped.field-0-is) ∙ c.in-Ok-Stopped.ensures.gave)
    (λ script before. c.over_in.ensures.comes (driver_in c.args.watch) script c.args.active.ledger)

pub returns-in-Ok-Stopped-clause-kept : goal.returns-in-Ok-Stopped-clause-kept
returns-in-Ok-Stopped-clause-kept c = c.over_in.ensures.kept c.args.watch c.in-Ok-Stopped.ensures.kept
