use Rattle.std.proofs.Common.{refl}
use Rattle.mdr_grammar.specs.declared.sort.Sort.{Sort}
use Rattle.mdr_grammar.specs.Forms.Part.{enumerator}
use Rattle.mdr_grammar.specs.Forms.Nonterminal.{part}
use Rattle.mdr_reader.proofs.Arms.{past_arm, not_past}
use Rattle.mdr_reader.proofs.Nones.{no_enumerator}
use Rattle.mdr_declaration.proofs.fields.enumerator.Goals as goal

pub returns-in-Some-clause-reads : goal.returns-in-Some-clause-reads
returns-in-Some-clause-reads c = past_arm c.args.reader.halves (part enumerator) (λ x. x.0) (λ x. x.1.now) c.enumerator_behind.result Sort.Name c.args.tokens.now c.in-Some.ensures.found refl refl c.enumerator_behind.ensures.reads

pub returns-in-None-clause-reads : goal.returns-in-None-clause-reads
returns-in-None-clause-reads c = not_past c.args.reader.halves (part enumerator) Sort.Name c.args.tokens.now c.in-None.ensures.found no_enumerator
