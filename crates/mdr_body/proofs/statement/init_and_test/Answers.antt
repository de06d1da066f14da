use Rattle.std.proofs.Math.Path.{ap, ◌∙◌}
use Rattle.std.specs.Option.{option_map}
use Rattle.mdr_faults.specs.Faults.{told}
use Rattle.mdr_operand.specs.Written.{written_of}
use Rattle.mdr_body.specs.declared.here.Here.{Here}
use Rattle.mdr_body.specs.Statements.{perhaps_condition}
use Rattle.mdr_body.proofs.statement.init_and_test.Goals as goal

pub returns-clause-told : goal.returns-clause-told
returns-clause-told g c =
    c.paired.ensures _ _ c.in_ok-first.ensures.told
    (c.in_ok-second.ensures ∙ ap (λ (h : Here). told (perhaps_condition (g.R.Typing.rules c.args.setting.now.rules.now) c.args.setting.now.scope.now h c.args.place (option_map written_of c.args.parts.test.now))) c.in_ok-first.ensures.grown)
