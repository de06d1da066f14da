-- What is printed of a statement doesn't show its places.
use Rattle.std.proofs.Common.{◌≡◌, ℕ, suc, true, Option, Some, None, List, map, refl, sym, ap, subst, ◌∙◌, codes}
use Rattle.std.specs.Option.{option_map}
use Rattle.mdr_syntax.specs.declared.tree.Clause.{Clause}
use Rattle.mdr_syntax.specs.declared.tree.Const.{Const}
use Rattle.mdr_syntax.specs.declared.tree.Const.TheVariants as const
use Rattle.mdr_syntax.specs.declared.tree.Form.{Form}
use Rattle.mdr_syntax.specs.declared.tree.Label.{Label}
use Rattle.mdr_syntax.specs.declared.tree.Node.{Node}
use Rattle.mdr_syntax.specs.declared.tree.NodeWhat.{NodeWhat}
use Rattle.mdr_syntax.specs.declared.tree.NodeWhat.TheOpen.{NodeWhat-F}
use Rattle.mdr_syntax.specs.declared.tree.NodeWhat.TheFolds.{ind-Node, map-NodeWhat, fold-roll-NodeWhat, fold-roll-Clause, fold_out-Node}
use Rattle.mdr_syntax.specs.declared.tree.NodeWhat.TheVariants.{rolls-Empty, rolls-Block, rolls-Local, rolls-Assign, rolls-Plain, rolls-If, rolls-While, rolls-For, rolls-Do, rolls-Switch, rolls-Return, rolls-Break, rolls-Continue}
use Rattle.mdr_syntax.specs.declared.tree.NodeWhat.TheViews.{roll-NodeWhat}
use Rattle.mdr_print.specs.Marks.{Marks, nothing, word, sign, blank, newline, tabs, spaced, row, ◌▸◌}
use Rattle.mdr_print.specs.Declarations.{equals}
use Rattle.mdr_print.specs.Statements.{Written, semicolon, lines, braced, clause_head, sole, simple, block, assigned, optional, step_of, head_list, next_part, clauses_words, otherwise, returned, what_written, node_written, label_words, label, clause_lines, clause_written, written, written_what, written_clause}
use Rattle.mdr_roundtrip.specs.Unplaced.{nowhere, unplaced_form}
use Rattle.mdr_roundtrip.specs.Initialised.{unplaced_const}
use Rattle.mdr_roundtrip.specs.Declarations.{unplaced_decl}
use Rattle.mdr_roundtrip.specs.Stated.{unplaced_label, statement_unplaced, clause_unplaced, node_unplaced, unplaced_node, unplaced_statement, unplaced_clause}
use Rattle.mdr_roundtrip.proofs.PrintedForms.{all_alike, parts_alike, form_alike, left_alike}
use Rattle.mdr_roundtrip.proofs.PrintedDecls.{declaration_alike, declarator_alike}

-- ---- parts

assigned_alike : (o : Option Form) → assigned (option_map unplaced_form o) ≡ assigned o
assigned_alike None = refl
assigned_alike (Some f) = ap (λ (m : Marks). equals ▸ m) (form_alike f)

optional_alike : (o : Option Form) → optional (option_map unplaced_form o) ≡ optional o
optional_alike None = refl
optional_alike (Some f) = form_alike f

returned_alike : (o : Option Form) → returned (option_map unplaced_form o) ≡ returned o
returned_alike None = refl
returned_alike (Some f) = ap (λ (m : Marks). blank ▸ m) (form_alike f)

value_alike : (o : Option Const) → label_words (option_map unplaced_const o) ≡ label_words o
value_alike None = refl
value_alike (Some (const.Number place is_negative n kind)) = refl
value_alike (Some (const.Name place name)) = refl

label_alike : (depth : ℕ) (x : Label) → label depth (unplaced_label x) ≡ label depth x
label_alike depth x = λ i. tabs depth ▸ value_alike x.value i ▸ sign (codes ":") ▸ newline

-- ---- statements

written_made : (l : NodeWhat-F NodeWhat Clause Node) (w : NodeWhat) → roll-NodeWhat l ≡ w → written_what w ≡ what_written (map-NodeWhat NodeWhat Clause Node Written (ℕ → Marks) Written written_what written_clause written l)
written_made l w e = ap written_what (sym e) ∙ fold-roll-NodeWhat Written (ℕ → Marks) Written what_written clause_written node_written l

abbrev IsAlike : Node → Type 0
IsAlike n = written (unplaced_node n) ≡ written n

abbrev WhatAlike : NodeWhat → Type 0
WhatAlike w = written_what (unplaced_statement w) ≡ written_what w

abbrev ClauseAlike : Clause → Type 0
ClauseAlike c = written_clause (unplaced_clause c) ≡ written_clause c

abbrev Layer : NodeWhat-F NodeWhat Clause Node → Type 0
Layer l = written_what (statement_unplaced (map-NodeWhat NodeWhat Clause Node NodeWhat Clause Node unplaced_statement unplaced_clause unplaced_node l))
    ≡ what_written (map-NodeWhat NodeWhat Clause Node Written (ℕ → Marks) Written written_what written_clause written l)

layer_is : {X Y Z : Type 0} (what : X → NodeWhat) (clause : Y → Clause) (of : Z → Node) → ((y : Y) → ClauseAlike (clause y)) → ((z : Z) → IsAlike (of z)) → (l : NodeWhat-F X Y Z)
    → Layer (map-NodeWhat X Y Z NodeWhat Clause Node what clause of l)
layer_is what clause of apart same NodeWhat-F.Empty = written_made NodeWhat-F.Empty _ rolls-Empty
layer_is what clause of apart same (NodeWhat-F.Block ns) =
    written_made (NodeWhat-F.Block (map unplaced_node (map of ns))) _ (rolls-Block (map unplaced_node (map of ns)))
    ∙ ap block (parts_alike written unplaced_node of same ns)
layer_is what clause of apart same (NodeWhat-F.Local x o) =
    written_made (NodeWhat-F.Local (unplaced_decl x) (option_map unplaced_form o)) _ (rolls-Local (unplaced_decl x) (option_map unplaced_form o))
    ∙ (λ i. simple (declaration_alike x i ▸ assigned_alike o i) (declarator_alike x i ▸ assigned_alike o i))
layer_is what clause of apart same (NodeWhat-F.Assign place op f g) =
    written_made (NodeWhat-F.Assign nowhere op (unplaced_form f) (unplaced_form g)) _ (rolls-Assign nowhere op (unplaced_form f) (unplaced_form g))
    ∙ (λ i. simple (left_alike f i ▸ spaced op ▸ form_alike g i) nothing)
layer_is what clause of apart same (NodeWhat-F.Plain f) =
    written_made (NodeWhat-F.Plain (unplaced_form f)) _ (rolls-Plain (unplaced_form f))
    ∙ (λ i. simple (form_alike f i) nothing)
layer_is what clause of apart same (NodeWhat-F.If c a None) =
    written_made (NodeWhat-F.If (unplaced_form c) (unplaced_node (of a)) None) _ (rolls-If (unplaced_form c) (unplaced_node (of a)) None)
    ∙ (λ i. sole (λ depth. clause_head (codes "if") (form_alike c i) ▸ blank ▸ braced depth (same a i).body ▸ otherwise depth None))
layer_is what clause of apart same (NodeWhat-F.If c a (Some b)) =
    written_made (NodeWhat-F.If (unplaced_form c) (unplaced_node (of a)) (Some (unplaced_node (of b)))) _ (rolls-If (unplaced_form c) (unplaced_node (of a)) (Some (unplaced_node (of b))))
    ∙ (λ i. sole (λ depth. clause_head (codes "if") (form_alike c i) ▸ blank ▸ braced depth (same a i).body ▸ otherwise depth (Some (same b i))))
layer_is what clause of apart same (NodeWhat-F.While c a) =
    written_made (NodeWhat-F.While (unplaced_form c) (unplaced_node (of a))) _ (rolls-While (unplaced_form c) (unplaced_node (of a)))
    ∙ (λ i. sole (λ depth. clause_head (codes "while") (form_alike c i) ▸ blank ▸ braced depth (same a i).body))
layer_is what clause of apart same (NodeWhat-F.For ns c None a) =
    written_made (NodeWhat-F.For (map unplaced_node (map of ns)) (option_map unplaced_form c) None (unplaced_node (of a))) _ (rolls-For (map unplaced_node (map of ns)) (option_map unplaced_form c) None (unplaced_node (of a)))
    ∙ (λ i. sole (λ depth. clause_head (codes "for") (head_list true (parts_alike written unplaced_node of same ns i) ▸ (next_part ▸ optional_alike c i ▸ next_part) ▸ step_of None) ▸ blank ▸ braced depth (same a i).body))
layer_is what clause of apart same (NodeWhat-F.For ns c (Some n) a) =
    written_made (NodeWhat-F.For (map unplaced_node (map of ns)) (option_map unplaced_form c) (Some (unplaced_node (of n))) (unplaced_node (of a))) _ (rolls-For (map unplaced_node (map of ns)) (option_map unplaced_form c) (Some (unplaced_node (of n))) (unplaced_node (of a)))
    ∙ (λ i. sole (λ depth. clause_head (codes "for") (head_list true (parts_alike written unplaced_node of same ns i) ▸ (next_part ▸ optional_alike c i ▸ next_part) ▸ step_of (Some (same n i))) ▸ blank ▸ braced depth (same a i).body))
layer_is what clause of apart same (NodeWhat-F.Do a c) =
    written_made (NodeWhat-F.Do (unplaced_node (of a)) (unplaced_form c)) _ (rolls-Do (unplaced_node (of a)) (unplaced_form c))
    ∙ (λ i. sole (λ depth. word (codes "do") ▸ blank ▸ braced depth (same a i).body ▸ blank ▸ clause_head (codes "while") (form_alike c i) ▸ semicolon))
layer_is what clause of apart same (NodeWhat-F.Switch c cs) =
    written_made (NodeWhat-F.Switch (unplaced_form c) (map unplaced_clause (map clause cs))) _ (rolls-Switch (unplaced_form c) (map unplaced_clause (map clause cs)))
    ∙ (λ i. sole (λ depth. clause_head (codes "switch") (form_alike c i) ▸ blank ▸ clauses_words (parts_alike written_clause unplaced_clause clause apart cs i) depth))
layer_is what clause of apart same (NodeWhat-F.Return o) =
    written_made (NodeWhat-F.Return (option_map unplaced_form o)) _ (rolls-Return (option_map unplaced_form o))
    ∙ (λ i. sole (λ depth. word (codes "return") ▸ returned_alike o i ▸ semicolon))
layer_is what clause of apart same NodeWhat-F.Break = written_made NodeWhat-F.Break _ rolls-Break
layer_is what clause of apart same NodeWhat-F.Continue = written_made NodeWhat-F.Continue _ rolls-Continue

-- a clause's labels and statements
abbrev ClauseLayer : List Label → List Node → Type 0
ClauseLayer xs ns = clause_lines (map unplaced_label xs) (map written (map unplaced_node ns)) ≡ clause_lines xs (map written ns)

clause_layer : (xs : List Label) {Z : Type 0} (of : Z → Node) → ((z : Z) → IsAlike (of z)) → (zs : List Z) → ClauseLayer xs (map of zs)
clause_layer xs of same zs = λ i depth. row (all_alike (label depth) unplaced_label (label_alike depth) xs i) ▸ lines (suc depth) (parts_alike written unplaced_node of same zs i)

pub written_alike : (n : Node) → IsAlike n
written_alike = ind-Node WhatAlike ClauseAlike IsAlike
    (λ x y is.
    ap written_what (fold-roll-NodeWhat NodeWhat Clause Node statement_unplaced clause_unplaced node_unplaced x)
    ∙ subst Layer is (layer_is (λ e. e.0) (λ e. e.0) (λ e. e.0) (λ e. e.1) (λ e. e.1) y)
    ∙ sym (fold-roll-NodeWhat Written (ℕ → Marks) Written what_written clause_written node_written x))
    (λ x y is.
    ap written_clause (fold-roll-Clause NodeWhat Clause Node statement_unplaced clause_unplaced node_unplaced x)
    ∙ fold-roll-Clause Written (ℕ → Marks) Written what_written clause_written node_written (record { labels = map unplaced_label x.labels; body = map unplaced_node x.body })
    ∙ subst (ClauseLayer x.labels) (ap (λ z. z.body) is) (clause_layer x.labels (λ e. e.0) (λ e. e.1) y.body)
    ∙ sym (fold-roll-Clause Written (ℕ → Marks) Written what_written clause_written node_written x))
    (λ x y is.
    ap written (fold_out-Node NodeWhat Clause Node statement_unplaced clause_unplaced node_unplaced (record { place = x.place; what = x.what }))
    ∙ fold_out-Node Written (ℕ → Marks) Written what_written clause_written node_written (record { place = nowhere; what = unplaced_statement x.what })
    ∙ subst WhatAlike (ap (λ z. z.what) is) (y.what.1)
    ∙ sym (fold_out-Node Written (ℕ → Marks) Written what_written clause_written node_written (record { place = x.place; what = x.what })))
