use Rattle.std.proofs.Common.{◌≡◌, ◌≤◌, length, true}
use Rattle.mdr_grammar.specs.Forms.Repeated.{labels}
use Rattle.mdr_grammar.specs.Forms.Nonterminal.{many}
use Rattle.mdr_grammar.specs.Front.{first}
use Rattle.mdr_simple.proofs.labels.more_labels.Given as goal

abbrev pub invariant-more : goal.invariant-more
invariant-more l = record {
  read : first l.reader.halves (many true labels l.all) l.rest ≡ first l.fn.reader.halves (many true labels l.fn.list) l.fn.tokens;
  shorter : length l.rest ≤ length l.fn.tokens;
}

abbrev pub decreases-more : goal.decreases-more
decreases-more l = length l.rest
