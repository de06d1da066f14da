use Rattle.std.proofs.Common.{subst, Err}
use Rattle.mdr_grammar.specs.Statements.{source}
use Rattle.mdr_grammar.specs.Running.{run}
use Rattle.mdr_parse.specs.Ending.{Ends}
use Rattle.mdr_parse.proofs.Sources.{tree_told, fault_told}
use Rattle.mdr_parse.proofs.parsing.parse.Goals as goal

pub returns-in-Ok : goal.returns-in-Ok
returns-in-Ok c = tree_told c.args.halves c.args.tokens.now c.in-Ok.tree c.in-Ok.ensures

pub returns-in_ok-first_error-in-Err-Fault : goal.returns-in_ok-first_error-in-Err-Fault
returns-in_ok-first_error-in-Err-Fault c = fault_told c.args.halves c.args.tokens.now c.in-Err-Fault.left c.in_ok-first_error-in-Err-Fault.field-0 (subst (λ e. Ends (Err e) (run c.args.halves source c.args.tokens.now)) c.in-Err-Fault.field-0-is c.in-Err-Fault.ensures) c.in_ok-first_error-in-Err-Fault.ensures
