-- The measures of statements, and the invariants of their loops.
use Rattle.std.proofs.Common.{◌≡◌, ◌≤◌, ◌+◌, ◌-◌, ◌*◌, [], length, true}
use Rattle.mdr_grammar.specs.Forms.Repeated.{statements, clauses}
use Rattle.mdr_grammar.specs.Forms.Nonterminal.{many}
use Rattle.mdr_grammar.specs.Front.{first}
use Rattle.mdr_simple.proofs.Deeper.{SoFar}
use Rattle.mdr_statement.proofs.+statement.Given as goal

abbrev pub decreases-blocks::nested : goal.decreases-blocks::nested
decreases-blocks::nested l = 16 * (256 - l.level) + 1

abbrev pub decreases-blocks::block : goal.decreases-blocks::block
decreases-blocks::block l = 16 * (256 - l.level) + 2

abbrev pub decreases-blocks::one_statement : goal.decreases-blocks::one_statement
decreases-blocks::one_statement l = 16 * (256 - l.level) + 6

abbrev pub decreases-blocks::block_item : goal.decreases-blocks::block_item
decreases-blocks::block_item l = 16 * (256 - l.level) + 7

abbrev pub decreases-blocks::item_option : goal.decreases-blocks::item_option
decreases-blocks::item_option l = 16 * (256 - l.level) + 8

abbrev pub decreases-blocks::block_items : goal.decreases-blocks::block_items
decreases-blocks::block_items l = 16 * (256 - l.level) + 9

abbrev pub decreases-branches::second_branch : goal.decreases-branches::second_branch
decreases-branches::second_branch l = 16 * (256 - l.level) + 1

abbrev pub decreases-branches::first_branch : goal.decreases-branches::first_branch
decreases-branches::first_branch l = 16 * (256 - l.level) + 2

abbrev pub decreases-branches::if_behind : goal.decreases-branches::if_behind
decreases-branches::if_behind l = 16 * (256 - l.level) + 3

abbrev pub decreases-iteration::while_body : goal.decreases-iteration::while_body
decreases-iteration::while_body l = 16 * (256 - l.level) + 1

abbrev pub decreases-iteration::while_behind : goal.decreases-iteration::while_behind
decreases-iteration::while_behind l = 16 * (256 - l.level) + 2

abbrev pub decreases-iteration::for_body : goal.decreases-iteration::for_body
decreases-iteration::for_body l = 16 * (256 - l.level) + 1

abbrev pub decreases-iteration::for_behind : goal.decreases-iteration::for_behind
decreases-iteration::for_behind l = 16 * (256 - l.level) + 2

abbrev pub decreases-iteration::do_behind : goal.decreases-iteration::do_behind
decreases-iteration::do_behind l = 16 * (256 - l.level) + 1

abbrev pub decreases-statements::deeper : goal.decreases-statements::deeper
decreases-statements::deeper l = 16 * (256 - l.level) + 4

abbrev pub decreases-statements::statement : goal.decreases-statements::statement
decreases-statements::statement l = 16 * (256 - l.level) + 5

abbrev pub decreases-statements::single_at : goal.decreases-statements::single_at
decreases-statements::single_at l = 16 * (256 - l.level) + 1

abbrev pub decreases-statements::single : goal.decreases-statements::single
decreases-statements::single l = 16 * (256 - l.level) + 2

abbrev pub decreases-statements::body : goal.decreases-statements::body
decreases-statements::body l = 16 * (256 - l.level) + 3

abbrev pub decreases-statements::boxed_body : goal.decreases-statements::boxed_body
decreases-statements::boxed_body l = 16 * (256 - l.level) + 4

abbrev pub decreases-statements::other_branch : goal.decreases-statements::other_branch
decreases-statements::other_branch l = 16 * (256 - l.level) + 5

abbrev pub decreases-statements::otherwise : goal.decreases-statements::otherwise
decreases-statements::otherwise l = 16 * (256 - l.level) + 6

abbrev pub decreases-switches::switch_body : goal.decreases-switches::switch_body
decreases-switches::switch_body l = 16 * (256 - l.level) + 1

abbrev pub decreases-switches::switch_behind : goal.decreases-switches::switch_behind
decreases-switches::switch_behind l = 16 * (256 - l.level) + 2

abbrev pub decreases-switches::plain_node : goal.decreases-switches::plain_node
decreases-switches::plain_node l = 16 * (256 - l.level) + 6

abbrev pub decreases-switches::plain : goal.decreases-switches::plain
decreases-switches::plain l = 16 * (256 - l.level) + 7

abbrev pub decreases-switches::plain_option : goal.decreases-switches::plain_option
decreases-switches::plain_option l = 16 * (256 - l.level) + 8

abbrev pub decreases-switches::more_statements : goal.decreases-switches::more_statements
decreases-switches::more_statements l = 16 * (256 - l.level) + 9

abbrev pub decreases-switches::clause_body : goal.decreases-switches::clause_body
decreases-switches::clause_body l = 16 * (256 - l.level) + 10

abbrev pub decreases-switches::labelled : goal.decreases-switches::labelled
decreases-switches::labelled l = 16 * (256 - l.level) + 11

abbrev pub decreases-switches::clause : goal.decreases-switches::clause
decreases-switches::clause l = 16 * (256 - l.level) + 12

abbrev pub decreases-switches::clause_option : goal.decreases-switches::clause_option
decreases-switches::clause_option l = 16 * (256 - l.level) + 13

abbrev pub decreases-switches::clauses : goal.decreases-switches::clauses
decreases-switches::clauses l = 16 * (256 - l.level) + 14

abbrev pub invariant-blocks::block_items-more : goal.invariant-blocks::block_items-more
invariant-blocks::block_items-more l = record {
  read : SoFar l.reader.halves l.level l.all l.rest l.fn.tokens;
  shorter : length l.rest ≤ length l.fn.tokens;
}

abbrev pub decreases-blocks::block_items-more : goal.decreases-blocks::block_items-more
decreases-blocks::block_items-more l = length l.rest

abbrev pub invariant-switches::clauses-more : goal.invariant-switches::clauses-more
invariant-switches::clauses-more l = record {
  read : first l.reader.halves (many true (clauses l.level) l.all) l.rest ≡ first l.fn.reader.halves (many true (clauses l.fn.level) []) l.fn.tokens;
  shorter : length l.rest ≤ length l.fn.tokens;
}

abbrev pub decreases-switches::clauses-more : goal.decreases-switches::clauses-more
decreases-switches::clauses-more l = length l.rest

abbrev pub invariant-switches::more_statements-more : goal.invariant-switches::more_statements-more
invariant-switches::more_statements-more l = record {
  read : first l.reader.halves (many true (statements l.level) l.all) l.rest ≡ first l.fn.reader.halves (many true (statements l.fn.level) l.fn.list) l.fn.tokens;
  shorter : length l.rest ≤ length l.fn.tokens;
}

abbrev pub decreases-switches::more_statements-more : goal.decreases-switches::more_statements-more
decreases-switches::more_statements-more l = length l.rest
