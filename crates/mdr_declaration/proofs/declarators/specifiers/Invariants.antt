use Rattle.std.proofs.Common.{◌≡◌, ◌≤◌, length}
use Rattle.mdr_grammar.specs.Forms.Part.{specifiers}
use Rattle.mdr_grammar.specs.Forms.Nonterminal.{part}
use Rattle.mdr_grammar.specs.Front.{first}
use Rattle.mdr_declaration.proofs.declarators.specifiers.Given as goal

abbrev pub invariant-qualifiers : goal.invariant-qualifiers
invariant-qualifiers l = record {
  read : first l.reader.halves (part specifiers) l.rest ≡ first l.fn.reader.halves (part specifiers) l.fn.tokens;
  shorter : length l.rest ≤ length l.fn.tokens;
}

abbrev pub decreases-qualifiers : goal.decreases-qualifiers
decreases-qualifiers l = length l.rest
