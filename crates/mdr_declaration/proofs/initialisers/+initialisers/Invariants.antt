use Rattle.std.proofs.Common.{◌≡◌, ◌≤◌, ◌+◌, ◌-◌, ◌*◌, length}
use Rattle.mdr_grammar.specs.Forms.Enclosed.{elements}
use Rattle.mdr_grammar.specs.Forms.Nonterminal.{commas_open}
use Rattle.mdr_grammar.specs.Front.{first}
use Rattle.mdr_declaration.proofs.initialisers.+initialisers.Given as goal

abbrev pub invariant-more_elements-more : goal.invariant-more_elements-more
invariant-more_elements-more l = record {
  read : first l.reader.halves (commas_open (elements l.braces) l.all) l.rest ≡ first l.fn.reader.halves (commas_open (elements l.fn.braces) l.fn.list) l.fn.tokens;
  shorter : length l.rest ≤ length l.fn.tokens;
}

abbrev pub decreases-more_elements-more : goal.decreases-more_elements-more
decreases-more_elements-more l = length l.rest

abbrev pub decreases-initialiser : goal.decreases-initialiser
decreases-initialiser l = 8 * (256 - l.braces) + 1

abbrev pub decreases-braces_behind : goal.decreases-braces_behind
decreases-braces_behind l = 8 * (256 - l.braces)

abbrev pub decreases-more_elements : goal.decreases-more_elements
decreases-more_elements l = 8 * (256 - l.braces) + 5

abbrev pub decreases-element_option : goal.decreases-element_option
decreases-element_option l = 8 * (256 - l.braces) + 4

abbrev pub decreases-element : goal.decreases-element
decreases-element l = 8 * (256 - l.braces) + 3

abbrev pub decreases-field_element : goal.decreases-field_element
decreases-field_element l = 8 * (256 - l.braces) + 2

abbrev pub decreases-bare_element : goal.decreases-bare_element
decreases-bare_element l = 8 * (256 - l.braces) + 2
