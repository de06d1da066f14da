use Rattle.std.proofs.Common.{sym, subst}
use Rattle.mdr_reader.specs.Gives.{Gives}
use Rattle.mdr_parse.proofs.OuterForms.{function_named, globals_named}
use Rattle.mdr_parse.proofs.outside.named.Goals as goal

pub returns-in-Some-clause-reads : goal.returns-in-Some-clause-reads
returns-in-Some-clause-reads c = subst (λ o. Gives (λ x. x.0) (λ x. x.1.now) c.function.result o) (sym (function_named c.args.reader.halves c.args.place c.args.base.now c.args.count c.args.name.now c.args.tokens.now c.in-Some.ensures.found)) c.function.ensures.reads

pub returns-in-None-clause-reads : goal.returns-in-None-clause-reads
returns-in-None-clause-reads c = subst (λ o. Gives (λ x. x.0) (λ x. x.1.now) c.named_globals.result o) (sym (globals_named c.args.reader.halves c.args.place c.args.base.now c.args.count c.args.name.now c.args.tokens.now c.in-None.ensures.found)) c.named_globals.ensures.reads
