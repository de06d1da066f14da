-- for proofs
-- Statements whose text can be read again.
use Rattle.std.specs.Prelude.{Bool, true, ◌&&◌}
use Rattle.std.specs.List.{list_all}
use Rattle.mdr_syntax.specs.declared.tree.Label.{Label}
use Rattle.mdr_syntax.specs.declared.tree.Node.{Node}
use Rattle.mdr_syntax.specs.declared.tree.NodeWhat.{NodeWhat}
use Rattle.mdr_syntax.specs.declared.tree.Clause.{Clause}
use Rattle.mdr_syntax.specs.declared.tree.NodeWhat.TheOpen.{NodeWhat-F, Node-F, Clause-F}
use Rattle.mdr_syntax.specs.declared.tree.NodeWhat.TheFolds.{fold-Node, fold-NodeWhat, fold-Clause}
use Rattle.mdr_roundtrip.specs.Words.{is_sign}
use Rattle.mdr_roundtrip.specs.Printable.{all, is_printable_form}
use Rattle.mdr_roundtrip.specs.PrintableDeclarations.{maybe, is_constant, is_printable_decl}

abbrev pub holds : Bool → Bool
holds b = b

abbrev pub node_what_printable : NodeWhat-F Bool Bool Bool → Bool
node_what_printable NodeWhat-F.Empty = true
node_what_printable (NodeWhat-F.Block ss) = all ss
node_what_printable (NodeWhat-F.Local d value) = is_printable_decl d && maybe is_printable_form value
node_what_printable (NodeWhat-F.Assign place op a b) = is_sign op && (is_printable_form a && is_printable_form b)
node_what_printable (NodeWhat-F.Plain f) = is_printable_form f
node_what_printable (NodeWhat-F.If test a b) = is_printable_form test && (a && maybe holds b)
node_what_printable (NodeWhat-F.While test a) = is_printable_form test && a
node_what_printable (NodeWhat-F.For init test step a) = all init && (maybe is_printable_form test && (maybe holds step && a))
node_what_printable (NodeWhat-F.Do a test) = a && is_printable_form test
node_what_printable (NodeWhat-F.Switch value clauses) = is_printable_form value && all clauses
node_what_printable (NodeWhat-F.Return value) = maybe is_printable_form value
node_what_printable NodeWhat-F.Break = true
node_what_printable NodeWhat-F.Continue = true

abbrev pub is_label : Label → Bool
is_label l = maybe is_constant l.value

abbrev pub clause_printable : Clause-F Bool Bool Bool → Bool
clause_printable c = list_all is_label c.labels && all c.body

abbrev pub node_printable : Node-F Bool Bool Bool → Bool
node_printable n = n.what

abbrev pub is_printable_node : Node → Bool
is_printable_node = fold-Node Bool Bool Bool node_what_printable clause_printable node_printable

abbrev pub is_printable_statement : NodeWhat → Bool
is_printable_statement = fold-NodeWhat Bool Bool Bool node_what_printable clause_printable node_printable

abbrev pub is_printable_clause : Clause → Bool
is_printable_clause = fold-Clause Bool Bool Bool node_what_printable clause_printable node_printable
