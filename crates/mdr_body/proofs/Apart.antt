-- Which statements have a form of their own.
use Rattle.std.proofs.Common.{ℕ, ◌≡◌, Bool, true, false, List, Option, Result, Ok, Err, IfOk, OnOk, refl, ap, subst}
use Rattle.std.proofs.Math.Path.{sym, ◌∙◌}
use Rattle.mdr_core.specs.declared.place.Place.{Place}
use Rattle.mdr_syntax.specs.declared.tree.Decl.{Decl}
use Rattle.mdr_syntax.specs.declared.tree.Form.{Form}
use Rattle.mdr_syntax.specs.declared.tree.Node.{Node}
use Rattle.mdr_syntax.specs.declared.tree.Clause.{Clause}
use Rattle.mdr_syntax.specs.declared.tree.NodeWhat.{NodeWhat}
use Rattle.mdr_syntax.specs.declared.tree.NodeWhat.TheVariants.{Block, Local, If, While, For, Do, Switch, rolls-Block, rolls-Local, rolls-If, rolls-While, rolls-For, rolls-Do, rolls-Switch}
use Rattle.mdr_syntax.specs.declared.tree.NodeWhat.TheOpen.{NodeWhat-F}
use Rattle.mdr_syntax.specs.declared.tree.NodeWhat.TheFolds.{fold-roll-NodeWhat}
use Rattle.mdr_syntax.specs.declared.tree.NodeWhat.TheViews.{out-NodeWhat, roll-NodeWhat, roll-out-NodeWhat}
use Rattle.mdr_faults.specs.declared.fault.Fault.{Fault}
use Rattle.mdr_faults.specs.declared.scope.Scope.{Scope}
use Rattle.mdr_faults.specs.Faults.{Checked, told}
use Rattle.mdr_operand.specs.Written.{Line, Lines, Labelled, node_what_written, clause_written, node_written}
use Rattle.mdr_body.specs.declared.here.Frame.{Frame}
use Rattle.mdr_body.specs.declared.here.Here.{Here}
use Rattle.mdr_body.specs.declared.here.Standing.{Standing}
use Rattle.mdr_body.specs.Locals.{numbered}
use Rattle.mdr_body.specs.Addresses.{line_what}
use Rattle.mdr_body.specs.Simple.{declares}
use Rattle.mdr_body.specs.Statements.{Setting, simple_made, simple_behind, line_made, line_behind}

pub differ : true ≡ false → ⊥
differ h = cc

abbrev Layer : Type 0
Layer = NodeWhat-F NodeWhat Clause Node

abbrev has_parts : Line → Bool
has_parts (Line.Empty p) = false
has_parts (Line.Block p ls) = true
has_parts (Line.Local p d init) = false
has_parts (Line.Assign p at op a b) = false
has_parts (Line.Plain p w) = false
has_parts (Line.If p e one other) = true
has_parts (Line.While p e body) = true
has_parts (Line.For p init test step body) = true
has_parts (Line.Do p body e) = true
has_parts (Line.Switch p e cs) = true
has_parts (Line.Return p e) = false
has_parts (Line.Break p) = false
has_parts (Line.Continue p) = false

layer_apart : (l : Layer) → ((d : Decl) (v : Option Form) → roll-NodeWhat l ≡ Local d v → ⊥) → (p : Place) → declares (line_what (roll-NodeWhat l) p) ≡ false
layer_apart NodeWhat-F.Empty other p = rw (fold-roll-NodeWhat (Place → Line) Labelled Line node_what_written clause_written node_written NodeWhat-F.Empty) refl
layer_apart (NodeWhat-F.Block ss) other p = rw (fold-roll-NodeWhat (Place → Line) Labelled Line node_what_written clause_written node_written (NodeWhat-F.Block ss)) refl
layer_apart (NodeWhat-F.Local d v) other p = absurd (other d v (rolls-Local d v))
layer_apart (NodeWhat-F.Assign q op a b) other p = rw (fold-roll-NodeWhat (Place → Line) Labelled Line node_what_written clause_written node_written (NodeWhat-F.Assign q op a b)) refl
layer_apart (NodeWhat-F.Plain f) other p = rw (fold-roll-NodeWhat (Place → Line) Labelled Line node_what_written clause_written node_written (NodeWhat-F.Plain f)) refl
layer_apart (NodeWhat-F.If e a b) other p = rw (fold-roll-NodeWhat (Place → Line) Labelled Line node_what_written clause_written node_written (NodeWhat-F.If e a b)) refl
layer_apart (NodeWhat-F.While e a) other p = rw (fold-roll-NodeWhat (Place → Line) Labelled Line node_what_written clause_written node_written (NodeWhat-F.While e a)) refl
layer_apart (NodeWhat-F.For i t s a) other p = rw (fold-roll-NodeWhat (Place → Line) Labelled Line node_what_written clause_written node_written (NodeWhat-F.For i t s a)) refl
layer_apart (NodeWhat-F.Do a e) other p = rw (fold-roll-NodeWhat (Place → Line) Labelled Line node_what_written clause_written node_written (NodeWhat-F.Do a e)) refl
layer_apart (NodeWhat-F.Switch e cs) other p = rw (fold-roll-NodeWhat (Place → Line) Labelled Line node_what_written clause_written node_written (NodeWhat-F.Switch e cs)) refl
layer_apart (NodeWhat-F.Return e) other p = rw (fold-roll-NodeWhat (Place → Line) Labelled Line node_what_written clause_written node_written (NodeWhat-F.Return e)) refl
layer_apart NodeWhat-F.Break other p = rw (fold-roll-NodeWhat (Place → Line) Labelled Line node_what_written clause_written node_written NodeWhat-F.Break) refl
layer_apart NodeWhat-F.Continue other p = rw (fold-roll-NodeWhat (Place → Line) Labelled Line node_what_written clause_written node_written NodeWhat-F.Continue) refl

pub apart : (s : NodeWhat) → ((d : Decl) (v : Option Form) → s ≡ Local d v → ⊥) → (p : Place) → declares (line_what s p) ≡ false
apart s other p =
    let e = roll-out-NodeWhat s in
    rw (sym e) (layer_apart (out-NodeWhat s) (λ d v i. other d v (sym e ∙ i)) p)

declared : (d : Decl) (v : Option Form) (p : Place) → declares (line_what (Local d v) p) ≡ true
declared d v p = ap (λ (n : NodeWhat). declares (line_what n p)) (sym (rolls-Local d v)) ∙ ap (λ (f : Place → Line). declares (f p)) (fold-roll-NodeWhat (Place → Line) Labelled Line node_what_written clause_written node_written (NodeWhat-F.Local d v))

-- what declares isn't said to declare nothing
pub not_apart : (s : NodeWhat) (d : Decl) (v : Option Form) → s ≡ Local d v → (p : Place) → declares (line_what s p) ≡ false → ⊥
not_apart s d v e p h = differ (sym (ap (λ (n : NodeWhat). declares (line_what n p)) e ∙ declared d v p) ∙ h)

layer_whole : (l : Layer) → ((ss : List Node) → roll-NodeWhat l ≡ Block ss → ⊥) → ((e : Form) (a : Node) (b : Option Node) → roll-NodeWhat l ≡ If e a b → ⊥) → ((e : Form) (a : Node) → roll-NodeWhat l ≡ While e a → ⊥) → ((i : List Node) (t : Option Form) (s : Option Node) (a : Node) → roll-NodeWhat l ≡ For i t s a → ⊥) → ((a : Node) (e : Form) → roll-NodeWhat l ≡ Do a e → ⊥) → ((e : Form) (cs : List Clause) → roll-NodeWhat l ≡ Switch e cs → ⊥) → (p : Place) → has_parts (line_what (roll-NodeWhat l) p) ≡ false
layer_whole NodeWhat-F.Empty no_block no_if no_while no_for no_do no_switch p = rw (fold-roll-NodeWhat (Place → Line) Labelled Line node_what_written clause_written node_written NodeWhat-F.Empty) refl
layer_whole (NodeWhat-F.Block ss) no_block no_if no_while no_for no_do no_switch p = absurd (no_block ss (rolls-Block ss))
layer_whole (NodeWhat-F.Local d v) no_block no_if no_while no_for no_do no_switch p = rw (fold-roll-NodeWhat (Place → Line) Labelled Line node_what_written clause_written node_written (NodeWhat-F.Local d v)) refl
layer_whole (NodeWhat-F.Assign q op a b) no_block no_if no_while no_for no_do no_switch p = rw (fold-roll-NodeWhat (Place → Line) Labelled Line node_what_written clause_written node_written (NodeWhat-F.Assign q op a b)) refl
layer_whole (NodeWhat-F.Plain f) no_block no_if no_while no_for no_do no_switch p = rw (fold-roll-NodeWhat (Place → Line) Labelled Line node_what_written clause_written node_written (NodeWhat-F.Plain f)) refl
layer_whole (NodeWhat-F.If e a b) no_block no_if no_while no_for no_do no_switch p = absurd (no_if e a b (rolls-If e a b))
layer_whole (NodeWhat-F.While e a) no_block no_if no_while no_for no_do no_switch p = absurd (no_while e a (rolls-While e a))
layer_whole (NodeWhat-F.For i t s a) no_block no_if no_while no_for no_do no_switch p = absurd (no_for i t s a (rolls-For i t s a))
layer_whole (NodeWhat-F.Do a e) no_block no_if no_while no_for no_do no_switch p = absurd (no_do a e (rolls-Do a e))
layer_whole (NodeWhat-F.Switch e cs) no_block no_if no_while no_for no_do no_switch p = absurd (no_switch e cs (rolls-Switch e cs))
layer_whole (NodeWhat-F.Return e) no_block no_if no_while no_for no_do no_switch p = rw (fold-roll-NodeWhat (Place → Line) Labelled Line node_what_written clause_written node_written (NodeWhat-F.Return e)) refl
layer_whole NodeWhat-F.Break no_block no_if no_while no_for no_do no_switch p = rw (fold-roll-NodeWhat (Place → Line) Labelled Line node_what_written clause_written node_written NodeWhat-F.Break) refl
layer_whole NodeWhat-F.Continue no_block no_if no_while no_for no_do no_switch p = rw (fold-roll-NodeWhat (Place → Line) Labelled Line node_what_written clause_written node_written NodeWhat-F.Continue) refl

whole : (n : NodeWhat) → ((ss : List Node) → n ≡ Block ss → ⊥) → ((e : Form) (a : Node) (b : Option Node) → n ≡ If e a b → ⊥) → ((e : Form) (a : Node) → n ≡ While e a → ⊥) → ((i : List Node) (t : Option Form) (s : Option Node) (a : Node) → n ≡ For i t s a → ⊥) → ((a : Node) (e : Form) → n ≡ Do a e → ⊥) → ((e : Form) (cs : List Clause) → n ≡ Switch e cs → ⊥) → (p : Place) → has_parts (line_what n p) ≡ false
whole n no_block no_if no_while no_for no_do no_switch p =
    let e = roll-out-NodeWhat n in
    rw (sym e) (layer_whole (out-NodeWhat n) (λ ss i. no_block ss (sym e ∙ i)) (λ x a b i. no_if x a b (sym e ∙ i)) (λ x a i. no_while x a (sym e ∙ i)) (λ x t s a i. no_for x t s a (sym e ∙ i)) (λ a x i. no_do a x (sym e ∙ i)) (λ x cs i. no_switch x cs (sym e ∙ i)) p)

behind_plain : (scope : Scope) (frame : Frame) (here : Here) (t : Bool) (l : Line) → declares l ≡ false → simple_behind scope frame here t l ≡ here
behind_plain scope frame here t (Line.Empty p) h = refl
behind_plain scope frame here t (Line.Block p ls) h = refl
behind_plain scope frame here t (Line.Local p d init) h = absurd (differ h)
behind_plain scope frame here t (Line.Assign p at op a b) h = refl
behind_plain scope frame here t (Line.Plain p w) h = refl
behind_plain scope frame here t (Line.If p e one other) h = refl
behind_plain scope frame here t (Line.While p e body) h = refl
behind_plain scope frame here t (Line.For p init test step body) h = refl
behind_plain scope frame here t (Line.Do p body e) h = refl
behind_plain scope frame here t (Line.Switch p e cs) h = refl
behind_plain scope frame here t (Line.Return p e) h = refl
behind_plain scope frame here t (Line.Break p) h = refl
behind_plain scope frame here t (Line.Continue p) h = refl

simple_line : (setting : Setting) (standing : Standing) (here : Here) (l : Line) → has_parts l ≡ false → line_made setting standing here l ≡ simple_made setting standing.jumps here standing.is_taken l
simple_line setting standing here (Line.Empty p) h = refl
simple_line setting standing here (Line.Block p ls) h = absurd (differ h)
simple_line setting standing here (Line.Local p d init) h = refl
simple_line setting standing here (Line.Assign p at op a b) h = refl
simple_line setting standing here (Line.Plain p w) h = refl
simple_line setting standing here (Line.If p e one other) h = absurd (differ h)
simple_line setting standing here (Line.While p e body) h = absurd (differ h)
simple_line setting standing here (Line.For p init test step body) h = absurd (differ h)
simple_line setting standing here (Line.Do p body e) h = absurd (differ h)
simple_line setting standing here (Line.Switch p e cs) h = absurd (differ h)
simple_line setting standing here (Line.Return p e) h = refl
simple_line setting standing here (Line.Break p) h = refl
simple_line setting standing here (Line.Continue p) h = refl

behind_simple : (scope : Scope) (frame : Frame) (here : Here) (t : Bool) (l : Line) → has_parts l ≡ false → line_behind scope frame here t l ≡ numbered (simple_behind scope frame here t l)
behind_simple scope frame here t (Line.Empty p) h = refl
behind_simple scope frame here t (Line.Block p ls) h = absurd (differ h)
behind_simple scope frame here t (Line.Local p d init) h = refl
behind_simple scope frame here t (Line.Assign p at op a b) h = refl
behind_simple scope frame here t (Line.Plain p w) h = refl
behind_simple scope frame here t (Line.If p e one other) h = absurd (differ h)
behind_simple scope frame here t (Line.While p e body) h = absurd (differ h)
behind_simple scope frame here t (Line.For p init test step body) h = absurd (differ h)
behind_simple scope frame here t (Line.Do p body e) h = absurd (differ h)
behind_simple scope frame here t (Line.Switch p e cs) h = absurd (differ h)
behind_simple scope frame here t (Line.Return p e) h = refl
behind_simple scope frame here t (Line.Break p) h = refl
behind_simple scope frame here t (Line.Continue p) h = refl

pub behind_made_plain : (scope : Scope) (frame : Frame) (here : Here) (t : Bool) (s : NodeWhat) → ((d : Decl) (v : Option Form) → s ≡ Local d v → ⊥) → (p : Place) → simple_behind scope frame here t (line_what s p) ≡ here
behind_made_plain scope frame here t s other p = behind_plain scope frame here t (line_what s p) (apart s other p)

pub made_simple : (setting : Setting) (standing : Standing) (here : Here) (n : NodeWhat) → ((ss : List Node) → n ≡ Block ss → ⊥) → ((e : Form) (a : Node) (b : Option Node) → n ≡ If e a b → ⊥) → ((e : Form) (a : Node) → n ≡ While e a → ⊥) → ((i : List Node) (t : Option Form) (s : Option Node) (a : Node) → n ≡ For i t s a → ⊥) → ((a : Node) (e : Form) → n ≡ Do a e → ⊥) → ((e : Form) (cs : List Clause) → n ≡ Switch e cs → ⊥) → (p : Place) → line_made setting standing here (line_what n p) ≡ simple_made setting standing.jumps here standing.is_taken (line_what n p)
made_simple setting standing here n no_block no_if no_while no_for no_do no_switch p = simple_line setting standing here (line_what n p) (whole n no_block no_if no_while no_for no_do no_switch p)

pub behind_made_simple : (scope : Scope) (frame : Frame) (here : Here) (t : Bool) (n : NodeWhat) → ((ss : List Node) → n ≡ Block ss → ⊥) → ((e : Form) (a : Node) (b : Option Node) → n ≡ If e a b → ⊥) → ((e : Form) (a : Node) → n ≡ While e a → ⊥) → ((i : List Node) (t : Option Form) (s : Option Node) (a : Node) → n ≡ For i t s a → ⊥) → ((a : Node) (e : Form) → n ≡ Do a e → ⊥) → ((e : Form) (cs : List Clause) → n ≡ Switch e cs → ⊥) → (p : Place) → line_behind scope frame here t (line_what n p) ≡ numbered (simple_behind scope frame here t (line_what n p))
behind_made_simple scope frame here t n no_block no_if no_while no_for no_do no_switch p = behind_simple scope frame here t (line_what n p) (whole n no_block no_if no_while no_for no_do no_switch p)

pub told_same : {A E : Type 0} (r : Result (Result A Fault) E) (c d : Checked A) → c ≡ d → IfOk r (λ x. x ≡ told d) → IfOk r (λ x. x ≡ told c)
told_same {A = A} r c d e h = subst (λ (w : Checked A). IfOk r (λ x. x ≡ told w)) (sym e) h

pub grown_same : {A E : Type 0} (r : Result A E) (x y z : Here) → x ≡ y → OnOk r (z ≡ y) → OnOk r (z ≡ x)
grown_same r x y z e h = subst (λ (w : Here). OnOk r (z ≡ w)) (sym e) h

pub always : {A E : Type 0} (r : Result A E) (P : Type 0) → P → OnOk r P
always (Ok x) P h = h
always (Err e) P h = tt
