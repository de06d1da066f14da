use Rattle.std.proofs.Common.{◌≡◌, ◌≤◌, length}
use Rattle.mdr_grammar.specs.Forms.Nonterminal.{qualified}
use Rattle.mdr_grammar.specs.Front.{first}
use Rattle.mdr_parse.proofs.toplevel.qualified.Given as goal

abbrev pub invariant-qualifiers : goal.invariant-qualifiers
invariant-qualifiers l = record {
  read : first l.reader.halves (qualified l.place) l.rest ≡ first l.fn.reader.halves (qualified l.fn.place) l.fn.tokens;
  shorter : length l.rest ≤ length l.fn.tokens;
}

abbrev pub decreases-qualifiers : goal.decreases-qualifiers
decreases-qualifiers l = length l.rest
