use Rattle.std.proofs.Common.{◌≡◌, ◌≤◌, length, List, [], true}
use Rattle.mdr_syntax.specs.declared.tree.Item.{Item}
use Rattle.mdr_grammar.specs.Forms.Repeated.{items}
use Rattle.mdr_grammar.specs.Forms.Nonterminal.{many}
use Rattle.mdr_grammar.specs.Statements.{joined}
use Rattle.mdr_grammar.specs.Front.{first}
use Rattle.mdr_parse.proofs.toplevel.item_lists.Given as goal

abbrev pub invariant-more : goal.invariant-more
invariant-more l = record {
  lists : List (List Item);
  flat : joined lists ≡ l.all;
  read : first l.reader.halves (many true items lists) l.rest ≡ first l.fn.reader.halves (many true items []) l.fn.tokens;
  shorter : length l.rest ≤ length l.fn.tokens;
}

abbrev pub decreases-more : goal.decreases-more
decreases-more l = length l.rest
