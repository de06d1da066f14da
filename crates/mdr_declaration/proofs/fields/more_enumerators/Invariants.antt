use Rattle.std.proofs.Common.{◌≡◌, ◌≤◌, length}
use Rattle.mdr_grammar.specs.Forms.Enclosed.{enumerators}
use Rattle.mdr_grammar.specs.Forms.Nonterminal.{commas_open}
use Rattle.mdr_grammar.specs.Front.{first}
use Rattle.mdr_declaration.proofs.fields.more_enumerators.Given as goal

abbrev pub invariant-more : goal.invariant-more
invariant-more l = record {
  read : first l.reader.halves (commas_open enumerators l.all) l.rest ≡ first l.fn.reader.halves (commas_open enumerators l.fn.list) l.fn.tokens;
  shorter : length l.rest ≤ length l.fn.tokens;
}

abbrev pub decreases-more : goal.decreases-more
decreases-more l = length l.rest
