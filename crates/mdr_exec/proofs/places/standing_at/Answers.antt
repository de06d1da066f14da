use Rattle.std.proofs.Common.{◌∙◌, ap, sym, option_copied}
use Rattle.mdr_exec.proofs.PlaceLaws.{found_at, turn_found}
use Rattle.mdr_exec.proofs.places.standing_at.Goals as goal

pub returns-in-Some-clause-code : goal.returns-in-Some-clause-code
returns-in-Some-clause-code c =
    found_at c.args.found.statements.now c.args.found.turn c.args.i c.in-Some.statement.now (sym (ap option_copied c.in-Some.is) ∙ c.statement_at.ensures)

pub returns-in-None-clause-code : goal.returns-in-None-clause-code
returns-in-None-clause-code c = c.turn_at.ensures.code ∙ turn_found c.args.found.statements.now c.args.found.turn c.args.i (sym (ap option_copied c.in-None.is) ∙ c.statement_at.ensures)
