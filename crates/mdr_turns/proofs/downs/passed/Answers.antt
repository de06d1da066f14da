use Rattle.std.proofs.Common.{◌∙◌, ap}
use Rattle.std.specs.Prelude.{map}
use Rattle.mdr_events.specs.Values.{wires_of}
use Rattle.mdr_model.specs.Memory.{normal}
use Rattle.mdr_turns.proofs.downs.passed.Goals as goal

pub returns : goal.returns
returns c =
    c.in_ok-passed.ensures
    ∙ (λ i. map (normal (c.world.ensures.memory i)) (wires_of (c.as_slice.ensures i)))
    ∙ ap (map (normal c.args.guarded.now.world.memory)) c.in_ok-values.ensures
