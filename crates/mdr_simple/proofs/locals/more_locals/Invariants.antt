use Rattle.std.proofs.Common.{◌≡◌, ◌≤◌, length}
use Rattle.mdr_grammar.specs.Forms.Separated.{locals}
use Rattle.mdr_grammar.specs.Forms.Nonterminal.{commas}
use Rattle.mdr_grammar.specs.Front.{first}
use Rattle.mdr_simple.proofs.locals.more_locals.Given as goal

abbrev pub invariant-more : goal.invariant-more
invariant-more l = record {
  read : first l.reader.halves (commas (locals l.place l.base l.level l.depth) l.all) l.rest ≡ first l.fn.reader.halves (commas (locals l.fn.place l.fn.base l.fn.level l.fn.depth) l.fn.list) l.fn.tokens;
  shorter : length l.rest ≤ length l.fn.tokens;
}

abbrev pub decreases-more : goal.decreases-more
decreases-more l = length l.rest
