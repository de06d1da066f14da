use Rattle.std.proofs.Common.{◌≡◌, ◌≤◌, length}
use Rattle.mdr_grammar.specs.Forms.Nonterminal.{text_after}
use Rattle.mdr_grammar.specs.Front.{first}
use Rattle.mdr_expression.proofs.words.text_after.Given as goal

abbrev pub invariant-loop-behind : goal.invariant-loop-behind
invariant-loop-behind l = record {
  read : first l.reader.halves text_after l.rest ≡ first l.fn.reader.halves text_after l.fn.tokens;
  shorter : length l.rest ≤ length l.fn.tokens;
}

abbrev pub decreases-loop-behind : goal.decreases-loop-behind
decreases-loop-behind l = length l.rest
