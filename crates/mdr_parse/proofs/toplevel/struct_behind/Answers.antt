use Rattle.std.proofs.Common.{sym, subst}
use Rattle.mdr_reader.specs.Gives.{Gives}
use Rattle.mdr_parse.proofs.OuterForms.{struct_fields, struct_alone}
use Rattle.mdr_parse.proofs.toplevel.struct_behind.Goals as goal

pub returns-in-Some-clause-reads : goal.returns-in-Some-clause-reads
returns-in-Some-clause-reads c = subst (λ o. Gives (λ x. x.0) (λ x. x.1.now) c.fields.result o) (sym (struct_fields c.args.reader.halves c.args.word.now c.args.name.now c.args.tokens.now c.in-Some.ensures.found)) c.fields.ensures.reads

pub returns-in-None-clause-reads : goal.returns-in-None-clause-reads
returns-in-None-clause-reads c = subst (λ o. Gives (λ x. x.0) (λ x. x.1.now) c.struct_outer.result o) (sym (struct_alone c.args.reader.halves c.args.word.now c.args.name.now c.args.tokens.now c.in-None.ensures.found)) c.struct_outer.ensures.reads
