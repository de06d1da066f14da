-- Printable statements are apart.
use Rattle.std.proofs.Common.{◌≡◌, ℕ, Bool, true, Some, None, List, [], ◌∷◌, map, refl, sym, ap, subst, ◌∙◌, codes}
use Rattle.std.specs.Prelude.{◌&&◌}
use Rattle.std.specs.List.{AllByRecursion, list_all}
use Rattle.mdr_syntax.specs.declared.tree.Node.{Node}
use Rattle.mdr_syntax.specs.declared.tree.NodeWhat.{NodeWhat}
use Rattle.mdr_syntax.specs.declared.tree.Clause.{Clause}
use Rattle.mdr_syntax.specs.declared.tree.NodeWhat.TheOpen.{NodeWhat-F}
use Rattle.mdr_syntax.specs.declared.tree.NodeWhat.TheFolds.{ind-Node, map-NodeWhat, fold-roll-NodeWhat, fold-roll-Clause, fold_out-Node}
use Rattle.mdr_print.specs.Marks.{Marks}
use Rattle.mdr_print.specs.Forms.{form}
use Rattle.mdr_print.specs.Statements.{Written, for_parts, what_written, clause_written, node_written, written, written_what, written_clause}
use Rattle.mdr_roundtrip.specs.Words.{is_sign}
use Rattle.mdr_roundtrip.specs.Printable.{all, is_printable_form}
use Rattle.mdr_roundtrip.specs.PrintableDeclarations.{maybe, is_printable_decl}
use Rattle.mdr_roundtrip.specs.PrintableStatements.{is_label, node_what_printable, clause_printable, node_printable, is_printable_node, is_printable_statement, is_printable_clause}
use Rattle.mdr_roundtrip.proofs.Tests.{both}
use Rattle.mdr_roundtrip.proofs.FormsApart.{forms_apart}
use Rattle.mdr_roundtrip.proofs.StatedParts.{IsWritten, AllFree, empty_is, block_is, local_is, assign_is, alone_is, if_is, headed_is, do_is, parts_apart, return_is, leave_is, switch_is, clause_free}

record GoodWhat (w : NodeWhat) : Type 0 where
  by : is_printable_statement w ≡ true → IsWritten (written_what w)

record GoodNode (n : Node) : Type 0 where
  by : is_printable_node n ≡ true → IsWritten (written n)

record GoodClause (c : Clause) : Type 0 where
  by : is_printable_clause c ≡ true → AllFree (written_clause c)

abbrev Bodies : List Node → Type 0
Bodies ns = all (map is_printable_node ns) ≡ true → AllByRecursion IsWritten (map written ns)

nodes_are : {X : Type 0} (of : X → Node) → ((x : X) → GoodNode (of x)) → (xs : List X) → Bodies (map of xs)
nodes_are of good [] h = tt
nodes_are of good (x ∷ xs) h =
    let k = both (is_printable_node (of x)) (all (map is_printable_node (map of xs))) h in
    ((good x).by k.0, nodes_are of good xs k.1)

clauses_are : {X : Type 0} (of : X → Clause) → ((x : X) → GoodClause (of x)) → (xs : List X) → all (map is_printable_clause (map of xs)) ≡ true → AllByRecursion AllFree (map written_clause (map of xs))
clauses_are of good [] h = tt
clauses_are of good (x ∷ xs) h =
    let k = both (is_printable_clause (of x)) (all (map is_printable_clause (map of xs))) h in
    ((good x).by k.0, clauses_are of good xs k.1)

abbrev Layer : NodeWhat-F NodeWhat Clause Node → Type 0
Layer l = node_what_printable (map-NodeWhat NodeWhat Clause Node Bool Bool Bool is_printable_statement is_printable_clause is_printable_node l) ≡ true
    → IsWritten (what_written (map-NodeWhat NodeWhat Clause Node Written (ℕ → Marks) Written written_what written_clause written l))

layer_is : {X Y Z : Type 0} (what : X → NodeWhat) (clause : Y → Clause) (of : Z → Node) → ((y : Y) → GoodClause (clause y)) → ((z : Z) → GoodNode (of z)) → (l : NodeWhat-F X Y Z)
    → Layer (map-NodeWhat X Y Z NodeWhat Clause Node what clause of l)
layer_is what clause of gc gn NodeWhat-F.Empty h = empty_is
layer_is what clause of gc gn (NodeWhat-F.Block ss) h = block_is (map written (map of ss)) (nodes_are of gn ss h)
layer_is what clause of gc gn (NodeWhat-F.Local d value) h = let k = both (is_printable_decl d) (maybe is_printable_form value) h in local_is d value k.0 k.1
layer_is what clause of gc gn (NodeWhat-F.Assign place op a b) h =
    let k = both (is_sign op) (is_printable_form a && is_printable_form b) h in
    let j = both (is_printable_form a) (is_printable_form b) k.1 in
    assign_is op a b k.0 j.0 j.1
layer_is what clause of gc gn (NodeWhat-F.Plain f) h = alone_is (form f) (forms_apart f h)
layer_is what clause of gc gn (NodeWhat-F.If test a None) h =
    let k = both (is_printable_form test) (is_printable_node (of a) && true) h in
    if_is test (written (of a)) None k.0 ((gn a).by (both (is_printable_node (of a)) true k.1).0) tt
layer_is what clause of gc gn (NodeWhat-F.If test a (Some b)) h =
    let k = both (is_printable_form test) (is_printable_node (of a) && is_printable_node (of b)) h in
    let j = both (is_printable_node (of a)) (is_printable_node (of b)) k.1 in
    if_is test (written (of a)) (Some (written (of b))) k.0 ((gn a).by j.0) ((gn b).by j.1)
layer_is what clause of gc gn (NodeWhat-F.While test a) h =
    let k = both (is_printable_form test) (is_printable_node (of a)) h in
    headed_is (codes "while") (form test) (written (of a)) refl (forms_apart test k.0) ((gn a).by k.1)
layer_is what clause of gc gn (NodeWhat-F.For init test None a) h =
    let k = both (all (map is_printable_node (map of init))) (maybe is_printable_form test && (true && is_printable_node (of a))) h in
    let j = both (maybe is_printable_form test) (is_printable_node (of a)) k.1 in
    headed_is (codes "for") (for_parts (map written (map of init)) test None) (written (of a)) refl
    (parts_apart (map written (map of init)) test None (nodes_are of gn init k.0) j.0 tt) ((gn a).by j.1)
layer_is what clause of gc gn (NodeWhat-F.For init test (Some s) a) h =
    let k = both (all (map is_printable_node (map of init))) (maybe is_printable_form test && (is_printable_node (of s) && is_printable_node (of a))) h in
    let j = both (maybe is_printable_form test) (is_printable_node (of s) && is_printable_node (of a)) k.1 in
    let i = both (is_printable_node (of s)) (is_printable_node (of a)) j.1 in
    headed_is (codes "for") (for_parts (map written (map of init)) test (Some (written (of s)))) (written (of a)) refl
    (parts_apart (map written (map of init)) test (Some (written (of s))) (nodes_are of gn init k.0) j.0 ((gn s).by i.0)) ((gn a).by i.1)
layer_is what clause of gc gn (NodeWhat-F.Do a test) h =
    let k = both (is_printable_node (of a)) (is_printable_form test) h in
    do_is (written (of a)) test ((gn a).by k.0) k.1
layer_is what clause of gc gn (NodeWhat-F.Switch value cs) h =
    let k = both (is_printable_form value) (all (map is_printable_clause (map clause cs))) h in
    switch_is value (map written_clause (map clause cs)) k.0 (clauses_are clause gc cs k.1)
layer_is what clause of gc gn (NodeWhat-F.Return value) h = return_is value h
layer_is what clause of gc gn NodeWhat-F.Break h = leave_is (codes "break") refl
layer_is what clause of gc gn NodeWhat-F.Continue h = leave_is (codes "continue") refl

good_nodes : (n : Node) → GoodNode n
good_nodes = ind-Node GoodWhat GoodClause GoodNode
    (λ x y is. record {
      by = λ q. subst IsWritten (sym (fold-roll-NodeWhat Written (ℕ → Marks) Written what_written clause_written node_written x))
          (subst Layer is (layer_is (λ e. e.0) (λ e. e.0) (λ e. e.0) (λ e. e.1) (λ e. e.1) y) (sym (fold-roll-NodeWhat Bool Bool Bool node_what_printable clause_printable node_printable x) ∙ q));
    })
    (λ x y is. record {
      by = λ q.
          let k = both (list_all is_label x.labels) (all (map is_printable_node x.body))
          (sym (fold-roll-Clause Bool Bool Bool node_what_printable clause_printable node_printable x) ∙ q) in
          subst AllFree (sym (fold-roll-Clause Written (ℕ → Marks) Written what_written clause_written node_written x))
          (clause_free x.labels (map written x.body) k.0 (subst Bodies (ap (λ z. z.body) is) (nodes_are (λ e. e.0) (λ e. e.1) y.body) k.1));
    })
    (λ x y is. record {
      by = λ q. subst IsWritten (sym (fold_out-Node Written (ℕ → Marks) Written what_written clause_written node_written (record { place = x.place; what = x.what })))
          ((subst GoodWhat (ap (λ z. z.what) is) (y.what.1)).by (sym (fold_out-Node Bool Bool Bool node_what_printable clause_printable node_printable (record { place = x.place; what = x.what })) ∙ q));
    })

pub statements_are : (ns : List Node) → all (map is_printable_node ns) ≡ true → AllByRecursion IsWritten (map written ns)
statements_are [] h = tt
statements_are (n ∷ ns) h =
    let k = both (is_printable_node n) (all (map is_printable_node ns)) h in
    ((good_nodes n).by k.0, statements_are ns k.1)
