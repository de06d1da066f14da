-- The equations of the folds over statements.
use Rattle.std.proofs.Common.{◌≡◌}
use Rattle.mdr_core.specs.declared.place.Place.{Place}
use Rattle.mdr_syntax.specs.declared.tree.Clause.{Clause, out-Clause}
use Rattle.mdr_syntax.specs.declared.tree.NodeWhat.TheFolds.{fold_out-Clause}
use Rattle.mdr_operand.specs.Written.{Line, Labelled, node_what_written, clause_written, node_written, clause_of, lines_of}

pub clause_is : (c : Clause) → clause_of c ≡ ((out-Clause c).labels, lines_of (out-Clause c).body)
clause_is c = fold_out-Clause (Place → Line) Labelled Line node_what_written clause_written node_written c
