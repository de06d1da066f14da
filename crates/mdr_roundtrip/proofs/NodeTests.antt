-- Whether statements can be printed.
use Rattle.std.proofs.Common.{◌≡◌, refl, sym, ap, ◌∙◌, ℕ, Bool, true, List, Option, Some, None, map}
use Rattle.std.specs.Prelude.{◌&&◌}
use Rattle.std.specs.List.{list_all}
use Rattle.mdr_core.specs.declared.place.Place.{Place}
use Rattle.mdr_syntax.specs.declared.tree.Clause.{Clause}
use Rattle.mdr_syntax.specs.declared.tree.Decl.{Decl}
use Rattle.mdr_syntax.specs.declared.tree.Form.{Form}
use Rattle.mdr_syntax.specs.declared.tree.Label.{Label}
use Rattle.mdr_syntax.specs.declared.tree.Node.{Node}
use Rattle.mdr_syntax.specs.declared.tree.NodeWhat
use Rattle.mdr_syntax.specs.declared.tree.NodeWhat.{NodeWhat}
use Rattle.mdr_syntax.specs.declared.tree.NodeWhat.TheOpen.{NodeWhat-F}
use Rattle.mdr_syntax.specs.declared.tree.NodeWhat.TheFolds.{map-NodeWhat, fold-roll-NodeWhat, fold-roll-Clause, fold_out-Node}
use Rattle.mdr_syntax.specs.declared.tree.NodeWhat.TheVariants.{rolls-Empty, rolls-Block, rolls-Local, rolls-Assign, rolls-Plain, rolls-If, rolls-While, rolls-For, rolls-Do, rolls-Switch, rolls-Return, rolls-Break, rolls-Continue}
use Rattle.mdr_syntax.specs.declared.tree.NodeWhat.TheViews.{roll-NodeWhat, roll-Clause}
use Rattle.mdr_roundtrip.specs.Words.{is_sign}
use Rattle.mdr_roundtrip.specs.Printable.{all, is_printable_form}
use Rattle.mdr_roundtrip.specs.PrintableDeclarations.{maybe, is_printable_decl}
use Rattle.mdr_roundtrip.specs.PrintableStatements.{is_label, node_what_printable, clause_printable, node_printable, is_printable_node, is_printable_statement, is_printable_clause}
use Rattle.mdr_grammar.specs.Statements.{node_at}
use Rattle.mdr_roundtrip.proofs.Bools.{also, all_mapped}

made : (place : Place) (l : NodeWhat-F NodeWhat Clause Node) (w : NodeWhat) → roll-NodeWhat l ≡ w → node_what_printable (map-NodeWhat NodeWhat Clause Node Bool Bool Bool is_printable_statement is_printable_clause is_printable_node l) ≡ true → is_printable_node (node_at place w) ≡ true
made place l w e h =
    fold_out-Node Bool Bool Bool node_what_printable clause_printable node_printable (record { place = place; what = w }) ∙ ap is_printable_statement (sym e)
    ∙ fold-roll-NodeWhat Bool Bool Bool node_what_printable clause_printable node_printable l ∙ h

pub empty_is : (place : Place) → is_printable_node (node_at place NodeWhat.Empty) ≡ true
empty_is place = made place NodeWhat-F.Empty NodeWhat.Empty rolls-Empty refl

pub break_is : (place : Place) → is_printable_node (node_at place NodeWhat.Break) ≡ true
break_is place = made place NodeWhat-F.Break NodeWhat.Break rolls-Break refl

pub continue_is : (place : Place) → is_printable_node (node_at place NodeWhat.Continue) ≡ true
continue_is place = made place NodeWhat-F.Continue NodeWhat.Continue rolls-Continue refl

pub block_is : (place : Place) (ns : List Node) → list_all is_printable_node ns ≡ true → is_printable_node (node_at place (NodeWhat.Block ns)) ≡ true
block_is place ns h = made place (NodeWhat-F.Block ns) (NodeWhat.Block ns) (rolls-Block ns) (all_mapped is_printable_node ns h)

pub local_is : (place : Place) (d : Decl) (v : Option Form) → is_printable_decl d ≡ true → maybe is_printable_form v ≡ true → is_printable_node (node_at place (NodeWhat.Local d v)) ≡ true
local_is place d v h k = made place (NodeWhat-F.Local d v) (NodeWhat.Local d v) (rolls-Local d v) (also (is_printable_decl d) (maybe is_printable_form v) h k)

pub assign_is : (place at : Place) (op : List ℕ) (a b : Form) → is_sign op ≡ true → is_printable_form a ≡ true → is_printable_form b ≡ true → is_printable_node (node_at place (NodeWhat.Assign at op a b)) ≡ true
assign_is place at op a b o h k = made place (NodeWhat-F.Assign at op a b) (NodeWhat.Assign at op a b) (rolls-Assign at op a b) (also (is_sign op) (is_printable_form a && is_printable_form b) o (also (is_printable_form a) (is_printable_form b) h k))

pub plain_is : (place : Place) (f : Form) → is_printable_form f ≡ true → is_printable_node (node_at place (NodeWhat.Plain f)) ≡ true
plain_is place f h = made place (NodeWhat-F.Plain f) (NodeWhat.Plain f) (rolls-Plain f) h

pub if_is : (place : Place) (c : Form) (a : Node) (b : Option Node) → is_printable_form c ≡ true → is_printable_node a ≡ true → maybe is_printable_node b ≡ true → is_printable_node (node_at place (NodeWhat.If c a b)) ≡ true
if_is place c a None h k j = made place (NodeWhat-F.If c a None) (NodeWhat.If c a None) (rolls-If c a None) (also (is_printable_form c) (is_printable_node a && true) h (also (is_printable_node a) true k refl))
if_is place c a (Some b) h k j = made place (NodeWhat-F.If c a (Some b)) (NodeWhat.If c a (Some b)) (rolls-If c a (Some b)) (also (is_printable_form c) (is_printable_node a && is_printable_node b) h (also (is_printable_node a) (is_printable_node b) k j))

pub while_is : (place : Place) (c : Form) (a : Node) → is_printable_form c ≡ true → is_printable_node a ≡ true → is_printable_node (node_at place (NodeWhat.While c a)) ≡ true
while_is place c a h k = made place (NodeWhat-F.While c a) (NodeWhat.While c a) (rolls-While c a) (also (is_printable_form c) (is_printable_node a) h k)

pub for_is : (place : Place) (i : List Node) (c : Option Form) (s : Option Node) (a : Node) → list_all is_printable_node i ≡ true → maybe is_printable_form c ≡ true → maybe is_printable_node s ≡ true → is_printable_node a ≡ true → is_printable_node (node_at place (NodeWhat.For i c s a)) ≡ true
for_is place i c None a p q r k = made place (NodeWhat-F.For i c None a) (NodeWhat.For i c None a) (rolls-For i c None a)
    (also (all (map is_printable_node i)) (maybe is_printable_form c && (true && is_printable_node a)) (all_mapped is_printable_node i p) (also (maybe is_printable_form c) (true && is_printable_node a) q k))
for_is place i c (Some s) a p q r k = made place (NodeWhat-F.For i c (Some s) a) (NodeWhat.For i c (Some s) a) (rolls-For i c (Some s) a)
    (also (all (map is_printable_node i)) (maybe is_printable_form c && (is_printable_node s && is_printable_node a)) (all_mapped is_printable_node i p) (also (maybe is_printable_form c) (is_printable_node s && is_printable_node a) q (also (is_printable_node s) (is_printable_node a) r k)))

pub do_is : (place : Place) (a : Node) (c : Form) → is_printable_node a ≡ true → is_printable_form c ≡ true → is_printable_node (node_at place (NodeWhat.Do a c)) ≡ true
do_is place a c h k = made place (NodeWhat-F.Do a c) (NodeWhat.Do a c) (rolls-Do a c) (also (is_printable_node a) (is_printable_form c) h k)

pub switch_is : (place : Place) (c : Form) (cs : List Clause) → is_printable_form c ≡ true → list_all is_printable_clause cs ≡ true → is_printable_node (node_at place (NodeWhat.Switch c cs)) ≡ true
switch_is place c cs h k = made place (NodeWhat-F.Switch c cs) (NodeWhat.Switch c cs) (rolls-Switch c cs) (also (is_printable_form c) (all (map is_printable_clause cs)) h (all_mapped is_printable_clause cs k))

pub return_is : (place : Place) (v : Option Form) → maybe is_printable_form v ≡ true → is_printable_node (node_at place (NodeWhat.Return v)) ≡ true
return_is place v h = made place (NodeWhat-F.Return v) (NodeWhat.Return v) (rolls-Return v) h

pub clause_is : (ls : List Label) (ns : List Node) → list_all is_label ls ≡ true → list_all is_printable_node ns ≡ true → is_printable_clause (roll-Clause (record { labels = ls; body = ns })) ≡ true
clause_is ls ns h k = fold-roll-Clause Bool Bool Bool node_what_printable clause_printable node_printable (record { labels = ls; body = ns }) ∙ also (list_all is_label ls) (all (map is_printable_node ns)) h (all_mapped is_printable_node ns k)
