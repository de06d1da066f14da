use Rattle.std.proofs.Common.{refl, sym, ap, subst, ◌∙◌, Ok}
use Rattle.mdr_grammar.specs.declared.sort.Sort.{Sort}
use Rattle.mdr_grammar.specs.Forms.Part.{item}
use Rattle.mdr_grammar.specs.Forms.Nonterminal.{part}
use Rattle.mdr_reader.specs.Gives.{Gives}
use Rattle.mdr_reader.proofs.Arms.{goes, arm, at_end}
use Rattle.mdr_parse.proofs.OuterForms.{only_qualified}
use Rattle.mdr_parse.proofs.toplevel.item.Goals as goal

pub returns-in_default-clause-reads : goal.returns-in_default-clause-reads
returns-in_default-clause-reads c = at_end c.args.reader.halves (part item) c.in_default.ensures.found

pub returns-in_ok-define-in-Define-clause-reads : goal.returns-in_ok-define-in-Define-clause-reads
returns-in_ok-define-in-Define-clause-reads c = goes c.args.reader.halves (part item) Sort.Define c.in-Some.ensures.found c.in-Define.is refl refl ∙ ap (λ v. Ok (v, c.in-Some.rest.now)) (sym c.in_ok-define-in-Define.ensures.value)

pub returns-in-Enum-clause-reads : goal.returns-in-Enum-clause-reads
returns-in-Enum-clause-reads c = arm c.args.reader.halves (part item) (λ x. x.0) (λ x. x.1.now) c.enum_behind.result Sort.Enum c.in-Some.ensures.found c.in-Enum.is refl refl c.enum_behind.ensures.reads

pub returns-in-Struct-clause-reads : goal.returns-in-Struct-clause-reads
returns-in-Struct-clause-reads c = arm c.args.reader.halves (part item) (λ x. x.0) (λ x. x.1.now) c.struct_there.result Sort.Struct c.in-Some.ensures.found c.in-Struct.is refl refl c.struct_there.ensures.reads

pub returns-in_default-sort : goal.returns-in_default-sort
returns-in_default-sort c = record { reads = subst (λ o. Gives (λ x. x.0) (λ x. x.1.now) c.qualified.result o) (sym (only_qualified c.args.reader.halves c.in-Some.ensures.found c.in_default-sort.not-Define c.in_default-sort.not-Enum c.in_default-sort.not-Struct)) c.qualified.ensures.reads; shorter = c.qualified.ensures.shorter }
