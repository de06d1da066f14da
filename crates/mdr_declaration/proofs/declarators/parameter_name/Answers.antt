use Rattle.std.proofs.Common.{refl, ap, ◌∙◌, not, None}
use Rattle.mdr_grammar.specs.declared.sort.Sort.{Sort}
use Rattle.mdr_grammar.specs.Forms.Nonterminal.{parameter_name}
use Rattle.mdr_grammar.specs.Forms.Empty.{may}
use Rattle.mdr_grammar.specs.Front.{nothing_at}
use Rattle.mdr_reader.proofs.Arms.{past, not_past}
use Rattle.mdr_reader.proofs.Nones.{no_name}
use Rattle.mdr_declaration.proofs.declarators.parameter_name.Goals as goal

pub returns-in-Some-clause-reads : goal.returns-in-Some-clause-reads
returns-in-Some-clause-reads c = past c.args.reader.halves (parameter_name c.args.is_named) Sort.Name c.args.tokens.now c.in-Some.ensures.found refl refl

pub returns-then-is_named-clause-reads : goal.returns-then-is_named-clause-reads
returns-then-is_named-clause-reads c = not_past c.args.reader.halves (parameter_name c.args.is_named) Sort.Name c.args.tokens.now c.in-None.ensures.found (no_name c.args.is_named) ∙ ap (λ b. nothing_at (may (not b) None) c.args.tokens.now) c.if-is_named.true

pub returns-else-is_named-clause-reads : goal.returns-else-is_named-clause-reads
returns-else-is_named-clause-reads c = not_past c.args.reader.halves (parameter_name c.args.is_named) Sort.Name c.args.tokens.now c.in-None.ensures.found (no_name c.args.is_named) ∙ ap (λ b. nothing_at (may (not b) None) c.args.tokens.now) c.if-is_named.false
