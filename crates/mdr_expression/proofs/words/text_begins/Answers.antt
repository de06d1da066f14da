use Rattle.std.proofs.Common.{sym, ap, ◌∙◌}
use Rattle.mdr_grammar.specs.Sorts.{is_level}
use Rattle.mdr_grammar.specs.Forms.Nonterminal.{text_behind}
use Rattle.mdr_reader.proofs.Arms.{at_end}
use Rattle.mdr_expression.proofs.Wording.{text_first, name_first, other_first}
use Rattle.mdr_expression.proofs.words.text_begins.Goals as goal

pub returns-in_default : goal.returns-in_default
returns-in_default c = at_end c.args.halves text_behind c.in_default.ensures.found

pub returns-in-Text : goal.returns-in-Text
returns-in-Text c = text_first c.args.halves c.in-Some.ensures.found c.in-Text.is

pub returns-in-Name : goal.returns-in-Name
returns-in-Name c = name_first c.args.halves c.is_level.result c.in-Some.ensures.found c.in-Name.is (ap is_level (sym c.text_of.ensures) ∙ sym c.is_level.ensures)

pub returns-in_default-sort : goal.returns-in_default-sort
returns-in_default-sort c = other_first c.args.halves c.in-Some.ensures.found c.in_default-sort.not-Text c.in_default-sort.not-Name
