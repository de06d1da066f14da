use Rattle.std.proofs.Common.{◌≡◌, ◌≤◌, length}
use Rattle.mdr_grammar.specs.Forms.Separated.{globals}
use Rattle.mdr_grammar.specs.Forms.Nonterminal.{commas}
use Rattle.mdr_grammar.specs.Front.{first}
use Rattle.mdr_declaration.proofs.globals.further.Given as goal

abbrev pub invariant-more : goal.invariant-more
invariant-more l = record {
  read : first l.reader.halves (commas (globals l.place l.base) l.all) l.rest ≡ first l.fn.reader.halves (commas (globals l.fn.place l.fn.base) l.fn.list) l.fn.tokens;
  shorter : length l.rest ≤ length l.fn.tokens;
}

abbrev pub decreases-more : goal.decreases-more
decreases-more l = length l.rest
