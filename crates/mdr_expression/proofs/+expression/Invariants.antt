-- The measures of expressions, and the invariants of their loops.
use Rattle.std.proofs.Common.{◌≡◌, ◌≤◌, ◌+◌, ◌*◌, ◌-◌, suc, length}
use Rattle.mdr_grammar.specs.Forms.Nonterminal.{postfix, commas}
use Rattle.mdr_grammar.specs.Forms.Separated.{arguments_at}
use Rattle.mdr_grammar.specs.Expressions.{operators_from}
use Rattle.mdr_grammar.specs.Front.{first, front}
use Rattle.mdr_expression.specs.Tails.{IsMeasured, AreMeasured}
use Rattle.mdr_expression.proofs.+expression.Given as goal

abbrev pub decreases-operands::operand : goal.decreases-operands::operand
decreases-operands::operand l = 8 * length l.tokens.now

abbrev pub decreases-operands::operator_behind : goal.decreases-operands::operator_behind
decreases-operands::operator_behind l = 8 * length l.tokens.now + 1

abbrev pub decreases-operands::cast : goal.decreases-operands::cast
decreases-operands::cast l = 8 * length l.tokens.now + 1

abbrev pub decreases-operands::grouped : goal.decreases-operands::grouped
decreases-operands::grouped l = 8 * length l.tokens.now + 3

abbrev pub decreases-operands::parentheses : goal.decreases-operands::parentheses
decreases-operands::parentheses l = 8 * length l.tokens.now + 4

abbrev pub decreases-operands::service : goal.decreases-operands::service
decreases-operands::service l = 8 * length l.tokens.now

abbrev pub decreases-operators::tighter : goal.decreases-operators::tighter
decreases-operators::tighter l = 8 * length l.tokens.now + 1

abbrev pub decreases-operators::expression : goal.decreases-operators::expression
decreases-operators::expression l = 8 * length l.tokens.now + 2

abbrev pub decreases-operators::operators : goal.decreases-operators::operators
decreases-operators::operators l = 8 * length l.tokens.now

abbrev pub decreases-operators::choice : goal.decreases-operators::choice
decreases-operators::choice l = 8 * length l.tokens.now

abbrev pub decreases-operators::branches : goal.decreases-operators::branches
decreases-operators::branches l = 8 * length l.tokens.now + 3

abbrev pub decreases-postfix::postfix : goal.decreases-postfix::postfix
decreases-postfix::postfix l = 8 * length l.tokens.now

abbrev pub decreases-postfix::longer : goal.decreases-postfix::longer
decreases-postfix::longer l = 8 * length l.tokens.now + 7

abbrev pub decreases-postfix::subscript : goal.decreases-postfix::subscript
decreases-postfix::subscript l = 8 * length l.tokens.now + 3

abbrev pub decreases-arguments::call : goal.decreases-arguments::call
decreases-arguments::call l = 8 * length l.tokens.now + 6

abbrev pub decreases-arguments::closed_arguments : goal.decreases-arguments::closed_arguments
decreases-arguments::closed_arguments l = 8 * length l.tokens.now + 5

abbrev pub decreases-arguments::listed_arguments : goal.decreases-arguments::listed_arguments
decreases-arguments::listed_arguments l = 8 * length l.tokens.now + 4

abbrev pub decreases-arguments::argument : goal.decreases-arguments::argument
decreases-arguments::argument l = 8 * length l.tokens.now + 3

abbrev pub decreases-arguments::word : goal.decreases-arguments::word
decreases-arguments::word l = 8 * length l.tokens.now + 1

abbrev pub decreases-arguments::more_arguments : goal.decreases-arguments::more_arguments
decreases-arguments::more_arguments l = 8 * length l.tokens.now

abbrev pub invariant-arguments::more_arguments-loop-behind : goal.invariant-arguments::more_arguments-loop-behind
invariant-arguments::more_arguments-loop-behind l = record {
  read : first l.reader.halves (commas (arguments_at l.level l.depth) l.so_far.forms) l.rest ≡ first l.fn.reader.halves (commas (arguments_at l.fn.level l.fn.depth) l.fn.arguments.forms) l.fn.tokens;
  measured : AreMeasured l.so_far l.level;
  shorter : length l.rest ≤ length l.fn.tokens;
}

abbrev pub decreases-arguments::more_arguments-loop-behind : goal.decreases-arguments::more_arguments-loop-behind
decreases-arguments::more_arguments-loop-behind l = length l.rest

abbrev pub invariant-operators::operators-loop-precedence : goal.invariant-operators::operators-loop-precedence
invariant-operators::operators-loop-precedence l = record {
  read : front l.reader.halves (operators_from (l.most - l.above) (suc l.above) l.level l.depth l.so_far.form) l.rest ≡ front l.fn.reader.halves (operators_from (11 - l.fn.above) (suc l.fn.above) l.fn.level l.fn.depth l.fn.part.form) l.fn.tokens;
  measured : IsMeasured l.so_far l.level;
  low : l.above ≤ l.most;
  high : l.most ≤ 11;
  shorter : length l.rest ≤ length l.fn.tokens;
}

abbrev pub decreases-operators::operators-loop-precedence : goal.decreases-operators::operators-loop-precedence
decreases-operators::operators-loop-precedence l = length l.rest

abbrev pub invariant-postfix::postfix-loop-tail : goal.invariant-postfix::postfix-loop-tail
invariant-postfix::postfix-loop-tail l = record {
  read : first l.reader.halves (postfix l.level l.depth l.first l.so_far.form l.so_far.alone) l.rest ≡ first l.fn.reader.halves (postfix l.fn.level l.fn.depth l.fn.first l.fn.part.form l.fn.part.alone) l.fn.tokens;
  measured : IsMeasured l.so_far l.level;
  shorter : length l.rest ≤ length l.fn.tokens;
}

abbrev pub decreases-postfix::postfix-loop-tail : goal.decreases-postfix::postfix-loop-tail
decreases-postfix::postfix-loop-tail l = length l.rest
