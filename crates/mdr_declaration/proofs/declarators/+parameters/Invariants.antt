use Rattle.std.proofs.Common.{◌≡◌, ◌≤◌, ◌+◌, ◌-◌, ◌*◌, length}
use Rattle.mdr_grammar.specs.Forms.Separated.{parameters_at}
use Rattle.mdr_grammar.specs.Forms.Nonterminal.{commas}
use Rattle.mdr_grammar.specs.Front.{first}
use Rattle.mdr_declaration.proofs.declarators.+parameters.Given as goal

abbrev pub invariant-more_parameters-more : goal.invariant-more_parameters-more
invariant-more_parameters-more l = record {
  read : first l.reader.halves (commas (parameters_at l.are_named l.depth) l.all) l.rest ≡ first l.fn.reader.halves (commas (parameters_at l.fn.are_named l.fn.depth) l.fn.list) l.fn.tokens;
  shorter : length l.rest ≤ length l.fn.tokens;
}

abbrev pub decreases-more_parameters-more : goal.decreases-more_parameters-more
decreases-more_parameters-more l = length l.rest

abbrev pub decreases-parameter_pointer : goal.decreases-parameter_pointer
decreases-parameter_pointer l = 16 * (512 - l.depth) + 2

abbrev pub decreases-pointed_parameters : goal.decreases-pointed_parameters
decreases-pointed_parameters l = 16 * (512 - l.depth) + 1

abbrev pub decreases-parameter_behind_stars : goal.decreases-parameter_behind_stars
decreases-parameter_behind_stars l = 16 * (512 - l.depth) + 3

abbrev pub decreases-parameter_declarator : goal.decreases-parameter_declarator
decreases-parameter_declarator l = 16 * (512 - l.depth) + 4

abbrev pub decreases-typed_parameter : goal.decreases-typed_parameter
decreases-typed_parameter l = 16 * (512 - l.depth) + 5

abbrev pub decreases-parameter : goal.decreases-parameter
decreases-parameter l = 16 * (512 - l.depth) + 6

abbrev pub decreases-more_parameters : goal.decreases-more_parameters
decreases-more_parameters l = 16 * (512 - l.depth) + 7

abbrev pub decreases-listed_parameters : goal.decreases-listed_parameters
decreases-listed_parameters l = 16 * (512 - l.depth) + 8

abbrev pub decreases-void_first : goal.decreases-void_first
decreases-void_first l = 16 * (512 - l.depth) + 8

abbrev pub decreases-void_declared : goal.decreases-void_declared
decreases-void_declared l = 16 * (512 - l.depth) + 8

abbrev pub decreases-void_annotated : goal.decreases-void_annotated
decreases-void_annotated l = 16 * (512 - l.depth) + 8

abbrev pub decreases-after_void : goal.decreases-after_void
decreases-after_void l = 16 * (512 - l.depth) + 9

abbrev pub decreases-parameters : goal.decreases-parameters
decreases-parameters l = 16 * (512 - l.depth) + 10
