-- Statements that differ in places alone.
use Rattle.mdr_core.specs.declared.place.Place.{Place}
use Rattle.mdr_placeless.proofs.Annotated.{AreWhole, wholes}
use Rattle.mdr_placeless.proofs.Constants.{AreConsts, consts}
use Rattle.mdr_placeless.proofs.Scopes.{Pairs, Perhaps}
use Rattle.mdr_placeless.proofs.Scopes.Pairs.{Cons, Nil}
use Rattle.mdr_placeless.proofs.Scopes.Perhaps.{Nones, Somes}
use Rattle.mdr_placeless.proofs.Written.{AreWritten, writtens}
use Rattle.mdr_roundtrip.specs.Declarations.{unplaced_decl}
use Rattle.mdr_roundtrip.specs.Initialised.{unplaced_const}
use Rattle.mdr_roundtrip.specs.Stated.{clause_unplaced, node_unplaced, statement_unplaced, unplaced_clause, unplaced_label, unplaced_node, unplaced_statement}
use Rattle.mdr_roundtrip.specs.Unplaced.{nowhere, unplaced_form}
use Rattle.mdr_syntax.specs.declared.tree.Clause.{Clause}
use Rattle.mdr_syntax.specs.declared.tree.Const.{Const}
use Rattle.mdr_syntax.specs.declared.tree.Decl.{Decl}
use Rattle.mdr_syntax.specs.declared.tree.Form.{Form}
use Rattle.mdr_syntax.specs.declared.tree.Label.{Label}
use Rattle.mdr_syntax.specs.declared.tree.Node.{Node}
use Rattle.std.proofs.Common.{List, None, Option, Some, [], ap, map, option_map, subst, sym, ℕ, ◌∙◌, ◌∷◌, ◌≡◌}
use Rattle.mdr_body.specs.Addresses.{line_what}
use Rattle.mdr_operand.specs.Written.{Written, Line, Lines, Clauses, Labelled, written_of, line_list, clause_list, node_what_written, clause_written, node_written, line_of, lines_of, clause_of}
use Rattle.mdr_syntax.specs.declared.tree.NodeWhat.TheFolds.{ind-Node, map-NodeWhat, fold-roll-NodeWhat, fold-roll-Clause, fold_out-Node}
use Rattle.mdr_syntax.specs.declared.tree.NodeWhat.TheOpen.{NodeWhat-F}
use Rattle.mdr_syntax.specs.declared.tree.NodeWhat.TheVariants.{rolls-Empty, rolls-Block, rolls-Local, rolls-Assign, rolls-Plain, rolls-If, rolls-While, rolls-For, rolls-Do, rolls-Switch, rolls-Return, rolls-Break, rolls-Continue}
use Rattle.mdr_syntax.specs.declared.tree.NodeWhat.TheViews.{roll-NodeWhat}
use Rattle.mdr_syntax.specs.declared.tree.NodeWhat.{NodeWhat}

pub record AreLabels (x y : Label) : Type 0 where
  pub value : Perhaps AreConsts x.value y.value

mutual
  pub data AreLine : Line → Line → Type 0 where
    Empties : (p q : Place) → AreLine (Line.Empty p) (Line.Empty q)
    Blocks : (p q : Place) {ls ks : Lines} → AreLines ls ks → AreLine (Line.Block p ls) (Line.Block q ks)
    Locals : (p q : Place) {d e : Decl} {o o' : Option Written} → AreWhole d e → Perhaps AreWritten o o' → AreLine (Line.Local p d o) (Line.Local q e o')
    Assigns : (p q at there : Place) (op : List ℕ) {v w v' w' : Written} → AreWritten v v' → AreWritten w w' → AreLine (Line.Assign p at op v w) (Line.Assign q there op v' w')
    Plains : (p q : Place) {v w : Written} → AreWritten v w → AreLine (Line.Plain p v) (Line.Plain q w)
    Ifs : (p q : Place) {v w : Written} {l k : Line} {ls ks : Lines} → AreWritten v w → AreLine l k → AreLines ls ks → AreLine (Line.If p v l ls) (Line.If q w k ks)
    Whiles : (p q : Place) {v w : Written} {l k : Line} → AreWritten v w → AreLine l k → AreLine (Line.While p v l) (Line.While q w k)
    Fors : (p q : Place) {ls ks ls' ks' : Lines} {o o' : Option Written} {l k : Line} → AreLines ls ks → Perhaps AreWritten o o' → AreLines ls' ks' → AreLine l k → AreLine (Line.For p ls o ls' l) (Line.For q ks o' ks' k)
    Dos : (p q : Place) {v w : Written} {l k : Line} → AreLine l k → AreWritten v w → AreLine (Line.Do p l v) (Line.Do q k w)
    Switches : (p q : Place) {v w : Written} {cs ds : Clauses} → AreWritten v w → AreClauses cs ds → AreLine (Line.Switch p v cs) (Line.Switch q w ds)
    Returns : (p q : Place) {o o' : Option Written} → Perhaps AreWritten o o' → AreLine (Line.Return p o) (Line.Return q o')
    Breaks : (p q : Place) → AreLine (Line.Break p) (Line.Break q)
    Continues : (p q : Place) → AreLine (Line.Continue p) (Line.Continue q)

  pub data AreLines : Lines → Lines → Type 0 where
    Ends : AreLines Lines.End Lines.End
    Thens : {l k : Line} {ls ks : Lines} → AreLine l k → AreLines ls ks → AreLines (Lines.Then l ls) (Lines.Then k ks)

  pub data AreClauses : Clauses → Clauses → Type 0 where
    NoClauses : AreClauses Clauses.NoPart Clauses.NoPart
    MoreClauses : {xs ys : List Label} {ls ks : Lines} {cs ds : Clauses} → Pairs AreLabels xs ys → AreLines ls ks → AreClauses cs ds → AreClauses (Clauses.Part xs ls cs) (Clauses.Part ys ks ds)

-- ---- each statement and itself without places

rolled : (l : NodeWhat-F NodeWhat Clause Node) (w : NodeWhat) → roll-NodeWhat l ≡ w → (p : Place) → line_what w p ≡ node_what_written (map-NodeWhat NodeWhat Clause Node (Place → Line) Labelled Line line_what clause_of line_of l) p
rolled l w e p = ap (λ (x : NodeWhat). line_what x p) (sym e) ∙ ap (λ (f : Place → Line). f p) (fold-roll-NodeWhat (Place → Line) Labelled Line node_what_written clause_written node_written l)

record GoodWhat (w : NodeWhat) : Type 0 where
  by : (p : Place) → AreLine (line_what w p) (line_what (unplaced_statement w) nowhere)

record GoodNode (n : Node) : Type 0 where
  by : AreLine (line_of n) (line_of (unplaced_node n))

record AreLabelled (c d : Labelled) : Type 0 where
  labels : Pairs AreLabels c.0 d.0
  lines : AreLines c.1 d.1

record GoodClause (c : Clause) : Type 0 where
  by : AreLabelled (clause_of c) (clause_of (unplaced_clause c))

perhaps_consts : (o : Option Const) → Perhaps AreConsts o (option_map unplaced_const o)
perhaps_consts None = Nones
perhaps_consts (Some c) = Somes (consts c)

all_labels : (xs : List Label) → Pairs AreLabels xs (map unplaced_label xs)
all_labels [] = Nil
all_labels (x ∷ xs) = Cons (record { value = perhaps_consts x.value }) (all_labels xs)

all_good : {Z : Type 0} (of : Z → Node) → ((z : Z) → GoodNode (of z)) → (zs : List Z) → AreLines (line_list (map line_of (map of zs))) (line_list (map line_of (map unplaced_node (map of zs))))
all_good of good [] = Ends
all_good of good (z ∷ zs) = Thens (good z).by (all_good of good zs)

all_clauses : {Y : Type 0} (clause : Y → Clause) → ((y : Y) → GoodClause (clause y)) → (ys : List Y) → AreClauses (clause_list (map clause_of (map clause ys))) (clause_list (map clause_of (map unplaced_clause (map clause ys))))
all_clauses clause good [] = NoClauses
all_clauses clause good (y ∷ ys) = MoreClauses (good y).by.labels (good y).by.lines (all_clauses clause good ys)

perhaps_writtens : (o : Option Form) → Perhaps AreWritten (option_map written_of o) (option_map written_of (option_map unplaced_form o))
perhaps_writtens None = Nones
perhaps_writtens (Some f) = Somes (writtens f)

abbrev Layer : NodeWhat-F NodeWhat Clause Node → Type 0
Layer l = (p : Place) → AreLine (node_what_written (map-NodeWhat NodeWhat Clause Node (Place → Line) Labelled Line line_what clause_of line_of l) p) (line_what (statement_unplaced (map-NodeWhat NodeWhat Clause Node NodeWhat Clause Node unplaced_statement unplaced_clause unplaced_node l)) nowhere)

moved : (v w x : Line) → w ≡ x → AreLine v x → AreLine v w
moved v w x e h = subst (λ y. AreLine v y) (sym e) h

layer_is : {X Y Z : Type 0} (what : X → NodeWhat) (clause : Y → Clause) (of : Z → Node) → ((y : Y) → GoodClause (clause y)) → ((z : Z) → GoodNode (of z)) → (l : NodeWhat-F X Y Z) → Layer (map-NodeWhat X Y Z NodeWhat Clause Node what clause of l)
layer_is what clause of in_clauses good NodeWhat-F.Empty p = moved _ _ _ (rolled NodeWhat-F.Empty _ rolls-Empty nowhere) (Empties p nowhere)
layer_is what clause of in_clauses good (NodeWhat-F.Block zs) p = moved _ _ _ (rolled (NodeWhat-F.Block (map unplaced_node (map of zs))) _ (rolls-Block (map unplaced_node (map of zs))) nowhere) (Blocks p nowhere (all_good of good zs))
layer_is what clause of in_clauses good (NodeWhat-F.Local d o) p = moved _ _ _ (rolled (NodeWhat-F.Local (unplaced_decl d) (option_map unplaced_form o)) _ (rolls-Local (unplaced_decl d) (option_map unplaced_form o)) nowhere) (Locals p nowhere (wholes d) (perhaps_writtens o))
layer_is what clause of in_clauses good (NodeWhat-F.Assign at op a b) p = moved _ _ _ (rolled (NodeWhat-F.Assign nowhere op (unplaced_form a) (unplaced_form b)) _ (rolls-Assign nowhere op (unplaced_form a) (unplaced_form b)) nowhere) (Assigns p nowhere at nowhere op (writtens a) (writtens b))
layer_is what clause of in_clauses good (NodeWhat-F.Plain f) p = moved _ _ _ (rolled (NodeWhat-F.Plain (unplaced_form f)) _ (rolls-Plain (unplaced_form f)) nowhere) (Plains p nowhere (writtens f))
layer_is what clause of in_clauses good (NodeWhat-F.If c a None) p = moved _ _ _ (rolled (NodeWhat-F.If (unplaced_form c) (unplaced_node (of a)) None) _ (rolls-If (unplaced_form c) (unplaced_node (of a)) None) nowhere) (Ifs p nowhere (writtens c) (good a).by Ends)
layer_is what clause of in_clauses good (NodeWhat-F.If c a (Some b)) p = moved _ _ _ (rolled (NodeWhat-F.If (unplaced_form c) (unplaced_node (of a)) (Some (unplaced_node (of b)))) _ (rolls-If (unplaced_form c) (unplaced_node (of a)) (Some (unplaced_node (of b)))) nowhere) (Ifs p nowhere (writtens c) (good a).by (Thens (good b).by Ends))
layer_is what clause of in_clauses good (NodeWhat-F.While c a) p = moved _ _ _ (rolled (NodeWhat-F.While (unplaced_form c) (unplaced_node (of a))) _ (rolls-While (unplaced_form c) (unplaced_node (of a))) nowhere) (Whiles p nowhere (writtens c) (good a).by)
layer_is what clause of in_clauses good (NodeWhat-F.For zs c None a) p = moved _ _ _ (rolled (NodeWhat-F.For (map unplaced_node (map of zs)) (option_map unplaced_form c) None (unplaced_node (of a))) _ (rolls-For (map unplaced_node (map of zs)) (option_map unplaced_form c) None (unplaced_node (of a))) nowhere) (Fors p nowhere (all_good of good zs) (perhaps_writtens c) Ends (good a).by)
layer_is what clause of in_clauses good (NodeWhat-F.For zs c (Some n) a) p = moved _ _ _ (rolled (NodeWhat-F.For (map unplaced_node (map of zs)) (option_map unplaced_form c) (Some (unplaced_node (of n))) (unplaced_node (of a))) _ (rolls-For (map unplaced_node (map of zs)) (option_map unplaced_form c) (Some (unplaced_node (of n))) (unplaced_node (of a))) nowhere) (Fors p nowhere (all_good of good zs) (perhaps_writtens c) (Thens (good n).by Ends) (good a).by)
layer_is what clause of in_clauses good (NodeWhat-F.Do a c) p = moved _ _ _ (rolled (NodeWhat-F.Do (unplaced_node (of a)) (unplaced_form c)) _ (rolls-Do (unplaced_node (of a)) (unplaced_form c)) nowhere) (Dos p nowhere (good a).by (writtens c))
layer_is what clause of in_clauses good (NodeWhat-F.Switch c cs) p = moved _ _ _ (rolled (NodeWhat-F.Switch (unplaced_form c) (map unplaced_clause (map clause cs))) _ (rolls-Switch (unplaced_form c) (map unplaced_clause (map clause cs))) nowhere) (Switches p nowhere (writtens c) (all_clauses clause in_clauses cs))
layer_is what clause of in_clauses good (NodeWhat-F.Return o) p = moved _ _ _ (rolled (NodeWhat-F.Return (option_map unplaced_form o)) _ (rolls-Return (option_map unplaced_form o)) nowhere) (Returns p nowhere (perhaps_writtens o))
layer_is what clause of in_clauses good NodeWhat-F.Break p = moved _ _ _ (rolled NodeWhat-F.Break _ rolls-Break nowhere) (Breaks p nowhere)
layer_is what clause of in_clauses good NodeWhat-F.Continue p = moved _ _ _ (rolled NodeWhat-F.Continue _ rolls-Continue nowhere) (Continues p nowhere)

moved_both : (v w x y : Line) → v ≡ x → w ≡ y → AreLine x y → AreLine v w
moved_both v w x y e f h = subst (λ z. AreLine z w) (sym e) (subst (λ z. AreLine x z) (sym f) h)

abbrev ClauseLayer : List Label → List Node → Type 0
ClauseLayer xs ns = AreLabelled (xs, line_list (map line_of ns)) (map unplaced_label xs, line_list (map line_of (map unplaced_node ns)))

both_labelled : (c d x y : Labelled) → c ≡ x → d ≡ y → AreLabelled x y → AreLabelled c d
both_labelled c d x y e f h = subst (λ z. AreLabelled z d) (sym e) (subst (λ z. AreLabelled x z) (sym f) h)

good_nodes : (n : Node) → GoodNode n
good_nodes = ind-Node GoodWhat GoodClause GoodNode
    (λ x y is. record {
      by = λ p. moved_both _ _ _ _
          (ap (λ (f : Place → Line). f p) (fold-roll-NodeWhat (Place → Line) Labelled Line node_what_written clause_written node_written x))
          (ap (λ (w : NodeWhat). line_what w nowhere) (fold-roll-NodeWhat NodeWhat Clause Node statement_unplaced clause_unplaced node_unplaced x))
          (subst Layer is (layer_is (λ e. e.0) (λ e. e.0) (λ e. e.0) (λ e. e.1) (λ e. e.1) y) p);
    })
    (λ x y is. record {
      by = both_labelled _ _ _ _
          (fold-roll-Clause (Place → Line) Labelled Line node_what_written clause_written node_written x)
          (ap clause_of (fold-roll-Clause NodeWhat Clause Node statement_unplaced clause_unplaced node_unplaced x) ∙ fold-roll-Clause (Place → Line) Labelled Line node_what_written clause_written node_written (record { labels = map unplaced_label x.labels; body = map unplaced_node x.body }))
          (subst (ClauseLayer x.labels) (ap (λ z. z.body) is) (record { labels = all_labels x.labels; lines = all_good (λ e. e.0) (λ e. e.1) y.body }));
    })
    (λ x y is. record {
      by = moved_both _ _ _ _
          (fold_out-Node (Place → Line) Labelled Line node_what_written clause_written node_written (record { place = x.place; what = x.what }))
          (ap line_of (fold_out-Node NodeWhat Clause Node statement_unplaced clause_unplaced node_unplaced (record { place = x.place; what = x.what })) ∙ fold_out-Node (Place → Line) Labelled Line node_what_written clause_written node_written (record { place = nowhere; what = unplaced_statement x.what }))
          ((subst GoodWhat (ap (λ z. z.what) is) (y.what.1)).by x.place);
    })

pub lines_both : (ns : List Node) → AreLines (lines_of ns) (lines_of (map unplaced_node ns))
lines_both [] = Ends
lines_both (n ∷ ns) = Thens (good_nodes n).by (lines_both ns)
