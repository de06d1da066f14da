use Rattle.std.proofs.Common.{option_copied, ◌∙◌, ap, sym}
use Rattle.mdr_exec.proofs.MakingLaws.{has_its_body, has_no_body, has_no_function}
use Rattle.mdr_exec.proofs.halves.has_body.Goals as goal

pub returns-in-Some-body : goal.returns-in-Some-body
returns-in-Some-body c = has_its_body c.args.program.now c.args.func c.in-Some.func.now c.in-Some-body.field-0 (sym c.func_at.ensures ∙ ap option_copied c.in-Some.is) c.in-Some-body.is

pub returns-in-None-body : goal.returns-in-None-body
returns-in-None-body c = has_no_body c.args.program.now c.args.func c.in-Some.func.now (sym c.func_at.ensures ∙ ap option_copied c.in-Some.is) c.in-None-body.is

pub returns-in-None : goal.returns-in-None
returns-in-None c = has_no_function c.args.program.now c.args.func (sym c.func_at.ensures ∙ ap option_copied c.in-None.is)
