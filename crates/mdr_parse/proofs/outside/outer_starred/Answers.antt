use Rattle.std.proofs.Common.{sym, subst}
use Rattle.mdr_reader.specs.Gives.{Gives}
use Rattle.mdr_parse.proofs.OuterForms.{other_outer}
use Rattle.mdr_parse.proofs.outside.outer_starred.Goals as goal

pub returns-in_default-sort : goal.returns-in_default-sort
returns-in_default-sort c = record { reads = subst (λ o. Gives (λ x. x.0) (λ x. x.1.now) c.pointer_globals.result o) (sym (other_outer c.args.reader.halves c.args.place c.args.base.now c.args.count c.in-Some.ensures.found c.in_default-sort.not-Name)) c.pointer_globals.ensures.reads; shorter = c.pointer_globals.ensures.shorter }
