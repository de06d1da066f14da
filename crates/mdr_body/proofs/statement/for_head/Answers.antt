use Rattle.std.proofs.Math.Path.{ap, ◌∙◌}
use Rattle.mdr_faults.specs.Faults.{told}
use Rattle.mdr_body.specs.declared.here.Here.{Here}
use Rattle.mdr_body.specs.Statements.{for_head, steps_made}
use Rattle.mdr_body.specs.Pieces.{given_setting, part_of}
use Rattle.mdr_body.proofs.statement.for_head.Goals as goal

pub returns-in-Ok-clause-told : goal.returns-in-Ok-clause-told
unfolding for_head
returns-in-Ok-clause-told g c =
    c.paired.ensures _ _ c.in_ok-two.ensures.told
    (c.in-Ok.ensures.told ∙ ap (λ (h : Here). told (steps_made (given_setting g.R.Typing.rules c.args.setting.now) h (part_of c.args.parts.step.now))) c.in_ok-two.ensures.grown)
