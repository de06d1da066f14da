-- The equations of the folds over statements.
use Rattle.std.proofs.Common.{◌≡◌, ℕ, List, map, sym, ap, refl, ◌∙◌}
use Rattle.mdr_syntax.specs.declared.tree.Node.{Node}
use Rattle.mdr_syntax.specs.declared.tree.NodeWhat.{NodeWhat}
use Rattle.mdr_syntax.specs.declared.tree.NodeWhat.TheVariants.{Block, rolls-Block}
use Rattle.mdr_syntax.specs.declared.tree.NodeWhat.TheOpen.{NodeWhat-F}
use Rattle.mdr_syntax.specs.declared.tree.NodeWhat.TheFolds.{fold-roll-NodeWhat, fold_out-Clause}
use Rattle.mdr_syntax.specs.declared.tree.NodeWhat.TheViews.{out-NodeWhat, roll-NodeWhat, roll-out-NodeWhat}
use Rattle.mdr_syntax.specs.declared.tree.Clause.{Clause, out-Clause}
use Rattle.mdr_print.specs.Marks.{Marks}
use Rattle.mdr_print.specs.Statements.{Written, block, clause_lines, what_written, clause_written, node_written, written, written_what, written_clause, line_of, body_of}

pub block_is : (ss : List Node) → written_what (Block ss) ≡ block (map written ss)
block_is ss = ap written_what (sym (rolls-Block ss)) ∙ fold-roll-NodeWhat Written (ℕ → Marks) Written what_written clause_written node_written (NodeWhat-F.Block ss)

pub clause_is : (c : Clause) → written_clause c ≡ clause_lines (out-Clause c).labels (map written (out-Clause c).body)
clause_is c = fold_out-Clause Written (ℕ → Marks) Written what_written clause_written node_written c

abbrev Layer : Type 0
Layer = NodeWhat-F NodeWhat Clause Node

-- what isn't a block has the lines of a block of one
layer_body : (l : Layer) → ((x : List Node) → roll-NodeWhat l ≡ Block x → ⊥) → (depth : ℕ) → body_of depth (written_what (roll-NodeWhat l)) ≡ line_of depth (written_what (roll-NodeWhat l))
layer_body (NodeWhat-F.Block ss) other depth = absurd (other ss (rolls-Block ss))
layer_body NodeWhat-F.Empty other depth = rw (fold-roll-NodeWhat Written (ℕ → Marks) Written what_written clause_written node_written NodeWhat-F.Empty) refl
layer_body (NodeWhat-F.Local d v) other depth = rw (fold-roll-NodeWhat Written (ℕ → Marks) Written what_written clause_written node_written (NodeWhat-F.Local d v)) refl
layer_body (NodeWhat-F.Assign p op a b) other depth = rw (fold-roll-NodeWhat Written (ℕ → Marks) Written what_written clause_written node_written (NodeWhat-F.Assign p op a b)) refl
layer_body (NodeWhat-F.Plain f) other depth = rw (fold-roll-NodeWhat Written (ℕ → Marks) Written what_written clause_written node_written (NodeWhat-F.Plain f)) refl
layer_body (NodeWhat-F.If e a b) other depth = rw (fold-roll-NodeWhat Written (ℕ → Marks) Written what_written clause_written node_written (NodeWhat-F.If e a b)) refl
layer_body (NodeWhat-F.While e a) other depth = rw (fold-roll-NodeWhat Written (ℕ → Marks) Written what_written clause_written node_written (NodeWhat-F.While e a)) refl
layer_body (NodeWhat-F.For i t s a) other depth = rw (fold-roll-NodeWhat Written (ℕ → Marks) Written what_written clause_written node_written (NodeWhat-F.For i t s a)) refl
layer_body (NodeWhat-F.Do a e) other depth = rw (fold-roll-NodeWhat Written (ℕ → Marks) Written what_written clause_written node_written (NodeWhat-F.Do a e)) refl
layer_body (NodeWhat-F.Switch e cs) other depth = rw (fold-roll-NodeWhat Written (ℕ → Marks) Written what_written clause_written node_written (NodeWhat-F.Switch e cs)) refl
layer_body (NodeWhat-F.Return e) other depth = rw (fold-roll-NodeWhat Written (ℕ → Marks) Written what_written clause_written node_written (NodeWhat-F.Return e)) refl
layer_body NodeWhat-F.Break other depth = rw (fold-roll-NodeWhat Written (ℕ → Marks) Written what_written clause_written node_written NodeWhat-F.Break) refl
layer_body NodeWhat-F.Continue other depth = rw (fold-roll-NodeWhat Written (ℕ → Marks) Written what_written clause_written node_written NodeWhat-F.Continue) refl

pub sole_body : (s : NodeWhat) → ((x : List Node) → s ≡ Block x → ⊥) → (depth : ℕ) → body_of depth (written_what s) ≡ line_of depth (written_what s)
sole_body s other depth =
    let e = roll-out-NodeWhat s in
    rw (sym e) (layer_body (out-NodeWhat s) (λ x i. other x (sym e ∙ i)) depth)
