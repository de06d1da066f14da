use Rattle.std.proofs.Common.{◌≡◌, ◌≤◌, length}
use Rattle.mdr_grammar.specs.Forms.Nonterminal.{stars}
use Rattle.mdr_grammar.specs.Front.{first}
use Rattle.mdr_reader.proofs.constants.stars.Given as goal

abbrev pub invariant-loop-count : goal.invariant-loop-count
invariant-loop-count l = record {
  read : first l.reader.halves (stars l.count) l.rest ≡ first l.fn.reader.halves (stars 0) l.fn.tokens;
  shorter : length l.rest ≤ length l.fn.tokens;
}

abbrev pub decreases-loop-count : goal.decreases-loop-count
decreases-loop-count l = length l.rest
