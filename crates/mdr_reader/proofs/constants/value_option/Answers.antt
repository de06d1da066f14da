use Rattle.std.proofs.Common.{refl, true}
use Rattle.mdr_grammar.specs.declared.sort.Sort.{Sort}
use Rattle.mdr_grammar.specs.Forms.Part.{value}
use Rattle.mdr_grammar.specs.Forms.Nonterminal.{option}
use Rattle.mdr_reader.proofs.Arms.{past_arm, not_past}
use Rattle.mdr_reader.proofs.Nones.{no_value}
use Rattle.mdr_reader.proofs.constants.value_option.Goals as goal

pub returns-in-Some-clause-reads : goal.returns-in-Some-clause-reads
returns-in-Some-clause-reads c = past_arm c.args.reader.halves (option true value) (λ x. x.0) (λ x. x.1.now) c.some_constant.result Sort.Equals c.args.tokens.now c.in-Some.ensures.found refl refl c.some_constant.ensures.reads

pub returns-in-None-clause-reads : goal.returns-in-None-clause-reads
returns-in-None-clause-reads c = not_past c.args.reader.halves (option true value) Sort.Equals c.args.tokens.now c.in-None.ensures.found no_value
