use Rattle.std.proofs.Common.{refl, sym, subst, ◌∙◌, arith}
use Rattle.mdr_grammar.specs.declared.sort.Sort.{Sort}
use Rattle.mdr_grammar.specs.Forms.Part.{specifiers}
use Rattle.mdr_grammar.specs.Forms.Nonterminal.{part}
use Rattle.mdr_reader.specs.Gives.{Gives}
use Rattle.mdr_reader.proofs.Arms.{past, read_again}
use Rattle.mdr_declaration.proofs.Alike.{only_base}
use Rattle.mdr_declaration.proofs.declarators.specifiers.Goals as goal

pub qualifiers-preserved : goal.qualifiers-preserved
qualifiers-preserved c = record { read = sym (past c.args.reader.halves (part specifiers) Sort.Qualifier c.qualifiers.rest.now c.in-Some.ensures.found refl refl ∙ read_again _) ∙ c.qualifiers.invariant.read; shorter = omega (arith, c.in-Some.ensures.shorter, c.qualifiers.invariant.shorter) }

pub returns-in-None-clause-reads : goal.returns-in-None-clause-reads
returns-in-None-clause-reads c = subst (λ o. Gives (λ x. x.0) (λ x. x.1.now) c.base.result o) (sym (only_base c.args.reader.halves c.qualifiers.rest.now c.in-None.ensures.found) ∙ c.qualifiers.invariant.read) c.base.ensures.reads
