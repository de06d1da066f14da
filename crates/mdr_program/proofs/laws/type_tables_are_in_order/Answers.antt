use Rattle.mdr_program.proofs.Rising.{tables_are_in_order}
use Rattle.mdr_program.proofs.laws.type_tables_are_in_order.Goals as goal

pub returns : goal.returns
returns c = tables_are_in_order
