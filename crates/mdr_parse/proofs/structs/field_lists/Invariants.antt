use Rattle.std.proofs.Common.{◌≡◌, ◌≤◌, length, List, [], true}
use Rattle.mdr_syntax.specs.declared.tree.Decl.{Decl}
use Rattle.mdr_grammar.specs.Forms.Repeated.{field_groups}
use Rattle.mdr_grammar.specs.Forms.Nonterminal.{many}
use Rattle.mdr_grammar.specs.Statements.{joined}
use Rattle.mdr_grammar.specs.Front.{first}
use Rattle.mdr_parse.proofs.structs.field_lists.Given as goal

abbrev pub invariant-more : goal.invariant-more
invariant-more l = record {
  lists : List (List Decl);
  flat : joined lists ≡ l.all;
  read : first l.reader.halves (many true field_groups lists) l.rest ≡ first l.fn.reader.halves (many true field_groups []) l.fn.tokens;
  shorter : length l.rest ≤ length l.fn.tokens;
}

abbrev pub decreases-more : goal.decreases-more
decreases-more l = length l.rest
