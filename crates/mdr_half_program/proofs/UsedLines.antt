-- Bodies without faults use no name that gives nothing.
use Rattle.std.proofs.Common.{◌≡◌, ℕ, ◌+◌, ◌||◌, Bool, true, false, List, [], ◌∷◌, map, Option, Some, None, refl, sym, ap, ◌∙◌, subst}
use Rattle.std.specs.Str.{bytes_eq}
use Rattle.mdr_rich.specs.declared.code.Expr.{Expr}
use Rattle.mdr_rich.specs.declared.code.Step.{Step}
use Rattle.mdr_rich.specs.declared.code.Stmt.{Stmt}
use Rattle.mdr_core.specs.declared.place.Place.{Place}
use Rattle.mdr_core.specs.Layout.{chosen}
use Rattle.mdr_syntax.specs.declared.tree.Decl.{Decl, out-Decl}
use Rattle.mdr_syntax.specs.declared.tree.Node.{Node}
use Rattle.mdr_syntax.specs.declared.tree.NodeWhat.{NodeWhat}
use Rattle.mdr_syntax.specs.declared.tree.NodeWhat.TheOpen.{NodeWhat-F}
use Rattle.mdr_syntax.specs.declared.tree.NodeWhat.TheFolds.{ind-Node, map-NodeWhat, fold-NodeWhat, fold-roll-NodeWhat, fold-roll-Clause, fold_out-Node}
use Rattle.mdr_syntax.specs.declared.tree.Clause.{Clause}
use Rattle.mdr_faults.specs.declared.fault.FaultKind.TheVariants.{Mismatch}
use Rattle.mdr_faults.specs.declared.scope.Object.{Object}
use Rattle.mdr_faults.specs.declared.scope.Scope.{Scope}
use Rattle.mdr_faults.specs.Declarations.{is_same_name, is_void}
use Rattle.mdr_faults.specs.Faults.{Checked, Right, again, both, demand, told}
use Rattle.mdr_faults.specs.Scopes.{entity_named, or_else}
use Rattle.mdr_headings.specs.Structs.{name_or_none}
use Rattle.mdr_operand.specs.declared.operand.Integer.{Integer}
use Rattle.mdr_operand.specs.declared.room.LocalName.{LocalName}
use Rattle.mdr_operand.specs.Rooms.{local_from, local_named}
use Rattle.mdr_operand.specs.Written.{Written, Line, Lines, Clauses, Labelled, line_list, clause_list, node_what_written, clause_written, node_written, line_of, lines_of, clause_of}
use Rattle.mdr_express.specs.Expressions.{typed}
use Rattle.mdr_call.specs.Services.{service_named}
use Rattle.mdr_body.specs.declared.clauses.MadeClause.{MadeClause}
use Rattle.mdr_body.specs.declared.here.Frame.{Frame}
use Rattle.mdr_body.specs.declared.here.Here.{Here}
use Rattle.mdr_body.specs.declared.here.Jumps.{Jumps}
use Rattle.mdr_body.specs.declared.here.Tested.{Tested}
use Rattle.mdr_body.specs.declared.labels.CaseLabel.{CaseLabel}
use Rattle.mdr_body.specs.Bodies.{body_of, body_rule, declared_locals, frame_of}
use Rattle.mdr_body.specs.Clauses.{clause_place, ends, is_last, made_clause, switch_value}
use Rattle.mdr_body.specs.Labels.{labels_behind, labels_made}
use Rattle.mdr_body.specs.Locals.{entered, first_here, is_own_object, is_taken, left, local_object, name_of, named_local, numbered, parameter_means, parameter_taken, parameters_from, with_local}
use Rattle.mdr_body.specs.Addresses.{hides, is_declared_by}
use Rattle.mdr_body.specs.Uses.{first_use, is_parameter, perhaps_use, use_along, use_at, use_in, use_in_clauses}
use Rattle.mdr_body.specs.Statements.{setting_of, standing_of, tail_of, target_of}
use Rattle.mdr_body.specs.Statements.{ForHead, appended, as_part, behind_head, block_of, clause_jumps, clauses_made, condition, declared_then, do_of, for_head, for_of, head_taken, heads_behind, heads_made, if_of, initial_by, initial_step, inner_jumps, is_single, jumps_before, line_behind, line_made, lines_behind, lines_made, local_made, loop_jumps, no_jumps, own_place, pair, perhaps_condition, perhaps_made, return_by, return_step, simple_behind, simple_made, single, some, steps_behind, steps_made, switch_of, tested, tested_at, tested_value, text_of, while_of}
use Rattle.mdr_typing.specs.Profile.{assigned, called, profile_rules, returned, stored}
use Rattle.mdr_sound.proofs.Rights.{after_right, both_right, chosen_right, demand_right, not_right, refused_right}
use Rattle.mdr_sound.specs.Written.{AreNamed, AreProper, AreProperClauses, AreStatements, IsNamed, IsProper, IsStatement}
use Rattle.mdr_sound.proofs.Growing.{left_keeps, lines_grow, names_keep}
use Rattle.mdr_sound.proofs.Naming.{named_last}
use Rattle.mdr_half_program.specs.Usable.{BodiesUseWhatIsDeclared, GivesNothing}
use Rattle.mdr_half_program.proofs.UsedForms.{assigned_free, called_free, neither, returned_free, stored_free, typed_free}

-- ---- what may be missing is one line at most

abbrev AtMostOne : Lines → Type 0
AtMostOne Lines.End = Unit {0}
AtMostOne (Lines.Then l Lines.End) = Unit {0}
AtMostOne (Lines.Then l (Lines.Then m ls)) = ⊥

abbrev mutual
  IsWhole : Line → Type 0
  IsWhole (Line.Empty p) = Unit {0}
  IsWhole (Line.Block p ls) = AreWhole ls
  IsWhole (Line.Local p d init) = Unit {0}
  IsWhole (Line.Assign p at op a b) = Unit {0}
  IsWhole (Line.Plain p w) = Unit {0}
  IsWhole (Line.If p e one other) = IsWhole one × (AtMostOne other × AreWhole other)
  IsWhole (Line.While p e body) = IsWhole body
  IsWhole (Line.For p init test step body) = AtMostOne step × IsWhole body
  IsWhole (Line.Do p body e) = IsWhole body
  IsWhole (Line.Switch p e cs) = AreWholeClauses cs
  IsWhole (Line.Return p e) = Unit {0}
  IsWhole (Line.Break p) = Unit {0}
  IsWhole (Line.Continue p) = Unit {0}

  AreWhole : Lines → Type 0
  AreWhole Lines.End = Unit {0}
  AreWhole (Lines.Then l ls) = IsWhole l × AreWhole ls

  AreWholeClauses : Clauses → Type 0
  AreWholeClauses Clauses.NoPart = Unit {0}
  AreWholeClauses (Clauses.Part labels ls cs) = AreWhole ls × AreWholeClauses cs

abbrev line_what : NodeWhat → Place → Line
line_what = fold-NodeWhat (Place → Line) Labelled Line node_what_written clause_written node_written

abbrev WholeWhat : NodeWhat → Type 0
WholeWhat w = (p : Place) → IsWhole (line_what w p)

abbrev WholeNode : Node → Type 0
WholeNode n = IsWhole (line_of n)

abbrev WholeClause : Clause → Type 0
WholeClause c = AreWhole (clause_of c).1

abbrev WholeLayer : NodeWhat-F NodeWhat Clause Node → Type 0
WholeLayer l = (p : Place) → IsWhole (node_what_written (map-NodeWhat NodeWhat Clause Node (Place → Line) Labelled Line line_what clause_of line_of l) p)

all_whole : {Z : Type 0} (of : Z → Node) → ((z : Z) → WholeNode (of z)) → (zs : List Z) → AreWhole (line_list (map line_of (map of zs)))
all_whole of good [] = tt
all_whole of good (z ∷ zs) = (good z, all_whole of good zs)

all_whole_clauses : {Y : Type 0} (clause : Y → Clause) → ((y : Y) → WholeClause (clause y)) → (ys : List Y) → AreWholeClauses (clause_list (map clause_of (map clause ys)))
all_whole_clauses clause good [] = tt
all_whole_clauses clause good (y ∷ ys) = (good y, all_whole_clauses clause good ys)

layer_whole : {X Y Z : Type 0} (what : X → NodeWhat) (clause : Y → Clause) (of : Z → Node) → ((y : Y) → WholeClause (clause y)) → ((z : Z) → WholeNode (of z)) → (l : NodeWhat-F X Y Z) → WholeLayer (map-NodeWhat X Y Z NodeWhat Clause Node what clause of l)
layer_whole what clause of in_clauses good NodeWhat-F.Empty p = tt
layer_whole what clause of in_clauses good (NodeWhat-F.Block zs) p = all_whole of good zs
layer_whole what clause of in_clauses good (NodeWhat-F.Local d value) p = tt
layer_whole what clause of in_clauses good (NodeWhat-F.Assign place op a b) p = tt
layer_whole what clause of in_clauses good (NodeWhat-F.Plain f) p = tt
layer_whole what clause of in_clauses good (NodeWhat-F.If c a None) p = (good a, (tt, tt))
layer_whole what clause of in_clauses good (NodeWhat-F.If c a (Some b)) p = (good a, (tt, (good b, tt)))
layer_whole what clause of in_clauses good (NodeWhat-F.While c a) p = good a
layer_whole what clause of in_clauses good (NodeWhat-F.For zs c None a) p = (tt, good a)
layer_whole what clause of in_clauses good (NodeWhat-F.For zs c (Some s) a) p = (tt, good a)
layer_whole what clause of in_clauses good (NodeWhat-F.Do a c) p = good a
layer_whole what clause of in_clauses good (NodeWhat-F.Switch c cs) p = all_whole_clauses clause in_clauses cs
layer_whole what clause of in_clauses good (NodeWhat-F.Return o) p = tt
layer_whole what clause of in_clauses good NodeWhat-F.Break p = tt
layer_whole what clause of in_clauses good NodeWhat-F.Continue p = tt

abbrev HoldsWhole : Labelled → Type 0
HoldsWhole c = AreWhole c.1

abbrev ClauseLayer : List Node → Type 0
ClauseLayer ns = AreWhole (line_list (map line_of ns))

node_whole : (n : Node) → WholeNode n
node_whole = ind-Node WholeWhat WholeClause WholeNode
    (λ x y is p. subst IsWhole (sym (ap (λ (f : Place → Line). f p) (fold-roll-NodeWhat (Place → Line) Labelled Line node_what_written clause_written node_written x)))
    (subst WholeLayer is (layer_whole (λ e. e.0) (λ e. e.0) (λ e. e.0) (λ e. e.1) (λ e. e.1) y) p))
    (λ x y is. subst HoldsWhole (sym (fold-roll-Clause (Place → Line) Labelled Line node_what_written clause_written node_written x))
    (subst ClauseLayer (ap (λ z. z.body) is) (all_whole (λ e. e.0) (λ e. e.1) y.body)))
    (λ x y is. subst IsWhole (sym (fold_out-Node (Place → Line) Labelled Line node_what_written clause_written node_written (record { place = x.place; what = x.what })))
    ((subst WholeWhat (ap (λ z. z.what) is) (y.what.1)) x.place))

nodes_whole : (ns : List Node) → AreWhole (lines_of ns)
nodes_whole [] = tt
nodes_whole (n ∷ ns) = (node_whole n, nodes_whole ns)

-- ---- no use

no_either : (b : Bool) → ◌≡◌ {A = Option Place} (chosen b None None) None
no_either true = refl
no_either false = refl

-- what holds where a line doesn't hide the name
unless : (t : Bool) (m : Option Place) → (t ≡ false → m ≡ None) → chosen t None m ≡ None
unless true m h = refl
unless false m h = h refl

text_free : (name : List ℕ) (w : Written) (bytes : List ℕ) → text_of w ≡ Some bytes → use_in name w ≡ None
text_free name (Written.Number p n k) bytes e = refl
text_free name (Written.Null p) bytes e = refl
text_free name (Written.Name p other) bytes e = absurd cc
text_free name (Written.Prefix p op a) bytes e = absurd cc
text_free name (Written.Post p op a) bytes e = absurd cc
text_free name (Written.Cast p b n a) bytes e = absurd cc
text_free name (Written.Binary p op a b) bytes e = absurd cc
text_free name (Written.Choice p c a b) bytes e = absurd cc
text_free name (Written.Subscript p a i) bytes e = absurd cc
text_free name (Written.Member p a is_arrow at other) bytes e = absurd cc
text_free name (Written.Call p f args) bytes e = absurd cc
text_free name (Written.Text p bs) bytes e = refl
text_free name (Written.Names p b n) bytes e = refl

declared_same : (name : List ℕ) (d : Decl) → IsNamed d → bytes_eq (name_of d) name ≡ is_declared_by name d
declared_same name d n = ap (λ o. bytes_eq (name_or_none o) name) n.is ∙ sym (ap (λ o. is_same_name o (Some name)) n.is)

module _ (scope : Scope) (name : List ℕ) (gives : GivesNothing (entity_named scope name)) (plain : service_named name ≡ None) (frame : Frame) where
  -- no local has the name
  abbrev IsFree : Here → Type 0
  IsFree here = local_named here.names name ≡ None

  free_local : (here : Here) (t : Bool) (d : Decl) → IsNamed d → is_declared_by name d ≡ false → IsFree here → IsFree (with_local scope frame.locks t d here)
  unfolding with_local named_local
  free_local here t d n q f =
      named_last here.names (named_local here.slot t d (told (local_object scope frame.locks d))) name
      ∙ ap (λ b. chosen b (Some (named_local here.slot t d (told (local_object scope frame.locks d)))) (local_named here.names name)) (declared_same name d n ∙ q)
      ∙ f

  -- ---- conditions

  condition_free : (here : Here) (p : Place) (w : Written) (x : Expr) → IsFree here → condition profile_rules scope here p w ≡ Right x → use_in name w ≡ None
  unfolding condition
  condition_free here p w x f e = let a = after_right (typed scope here.names w) (tested p) x e in typed_free scope name gives plain here.names f w a.value a.right

  tested_free : (here : Here) (p : Place) (w : Written) (v : Integer) → IsFree here → tested_value profile_rules scope here p w ≡ Right v → use_in name w ≡ None
  unfolding tested_value
  tested_free here p w v f e = let a = after_right (typed scope here.names w) (switch_value p) v e in typed_free scope name gives plain here.names f w a.value a.right

  perhaps_free : (here : Here) (p : Place) (o : Option Written) (x : Option Expr) → IsFree here → perhaps_condition profile_rules scope here p o ≡ Right x → perhaps_use name o ≡ None
  unfolding perhaps_condition
  perhaps_free here p None x f e = refl
  perhaps_free here p (Some w) x f e = let a = after_right (condition profile_rules scope here p w) some x e in condition_free here p w a.value f a.right

  -- ---- declarations

  initial_free : (names : List LocalName) (p : Place) (slot : ℕ) (t : Bool) (w : Written) (o : Option (List ℕ)) (object : Object) (s : Step) → local_named names name ≡ None → text_of w ≡ o → initial_by (profile_rules.stored scope names) (target_of p slot t) w o object ≡ Right s → use_in name w ≡ None
  initial_free names p slot t w (Some bytes) object s f q e = text_free name w bytes q
  initial_free names p slot t w None object s f q e =
      let c = chosen_right (is_single object) (stored scope names p (own_place (is_own_object t object) slot object.ty) object.ty w) p Mismatch s e in
      stored_free scope name gives plain names f p (own_place (is_own_object t object) slot object.ty) object.ty w s c.right

  local_free : (here : Here) (t : Bool) (d : Decl) (init : Option Written) (ss : List Stmt) → IsNamed d → IsFree here → local_made (setting_of profile_rules scope frame) here t d init ≡ Right ss → chosen (is_declared_by name d) None (perhaps_use name init) ≡ None
  unfolding local_made initial_step
  local_free here t d None ss n f e = no_either (is_declared_by name d)
  local_free here t d (Some w) ss n f e =
      let a = after_right (initial_step (setting_of profile_rules scope frame) here t d w) (declared_then here.number here.slot) ss e in
      let b = after_right (local_object scope frame.locks d) (initial_by (profile_rules.stored scope (with_local scope frame.locks t d here).names) (target_of (out-Decl d).place here.slot t) w (text_of w)) a.value a.right in
      unless (is_declared_by name d) (use_in name w) (λ q. initial_free (with_local scope frame.locks t d here).names (out-Decl d).place here.slot t w (text_of w) b.value a.value (free_local here t d n q f) refl b.made)

  -- ---- statements without parts

  return_free : (here : Here) (p : Place) (o : Option Written) (s : Step) → IsFree here → return_step (setting_of profile_rules scope frame) here p o ≡ Right s → perhaps_use name o ≡ None
  unfolding return_step
  return_free here p None s f e = refl
  return_free here p (Some w) s f e =
      let a = after_right (again frame.result) (return_by (profile_rules.returned scope here.names) p (Some w)) s e in
      let r = refused_right (is_void a.value) (returned scope here.names p a.value w) p Mismatch s a.made in
      returned_free scope name gives plain here.names f p a.value w s r.right

  simple_free : (jumps : Jumps) (here : Here) (t : Bool) (l : Line) (ss : List Stmt) → IsProper l → IsFree here → simple_made (setting_of profile_rules scope frame) jumps here t l ≡ Right ss → use_at name l ≡ None
  simple_free jumps here t (Line.Empty p) ss h f e = refl
  simple_free jumps here t (Line.Block p ls) ss h f e = not_right _ ss e
  simple_free jumps here t (Line.Local p d init) ss h f e = local_free here t d init ss h.0 f e
  simple_free jumps here t (Line.Assign p at op a b) ss h f e =
      let s = after_right (assigned scope here.names at op a b) (single here.number) ss e in
      assigned_free scope name gives plain here.names f at op a b s.value s.right
  simple_free jumps here t (Line.Plain p w) ss h f e =
      let s = after_right (called scope here.names w) (single here.number) ss e in
      called_free scope name gives plain here.names f w s.value s.right
  simple_free jumps here t (Line.If p c one other) ss h f e = not_right _ ss e
  simple_free jumps here t (Line.While p c body) ss h f e = not_right _ ss e
  simple_free jumps here t (Line.For p init test step body) ss h f e = not_right _ ss e
  simple_free jumps here t (Line.Do p body c) ss h f e = not_right _ ss e
  simple_free jumps here t (Line.Switch p c cs) ss h f e = not_right _ ss e
  simple_free jumps here t (Line.Return p o) ss h f e =
      let s = after_right (return_step (setting_of profile_rules scope frame) here p o) (single here.number) ss e in
      return_free here p o s.value f s.right
  simple_free jumps here t (Line.Break p) ss h f e = refl
  simple_free jumps here t (Line.Continue p) ss h f e = refl

  -- ---- behind a statement that doesn't hide the name

  free_simple : (here : Here) (t : Bool) (l : Line) → IsProper l → hides name l ≡ false → IsFree here → IsFree (simple_behind scope frame here t l)
  free_simple here t (Line.Local p d init) h q f = free_local here t d h.0 q f
  free_simple here t l h q f = f

  free_kept : (here : Here) (t : Bool) (l : Line) → IsStatement l → IsProper l → IsFree here → IsFree (line_behind scope frame here t l)
  free_kept here t l s h f = ap (λ ns. local_named ns name) (names_keep scope frame here t l s h) ∙ f

  free_line : (here : Here) (t : Bool) (l : Line) → IsProper l → hides name l ≡ false → IsFree here → IsFree (line_behind scope frame here t l)
  free_line here t (Line.Empty p) h q f = f
  free_line here t (Line.Block p ls) h q f = free_kept here t (Line.Block p ls) refl h f
  free_line here t (Line.Local p d init) h q f = free_local here t d h.0 q f
  free_line here t (Line.Assign p at op a b) h q f = f
  free_line here t (Line.Plain p w) h q f = f
  free_line here t (Line.If p c one other) h q f = free_kept here t (Line.If p c one other) refl h f
  free_line here t (Line.While p c body) h q f = free_kept here t (Line.While p c body) refl h f
  free_line here t (Line.For p init test step body) h q f = free_kept here t (Line.For p init test step body) refl h f
  free_line here t (Line.Do p body c) h q f = free_kept here t (Line.Do p body c) refl h f
  free_line here t (Line.Switch p c cs) h q f = free_kept here t (Line.Switch p c cs) refl h f
  free_line here t (Line.Return p o) h q f = f
  free_line here t (Line.Break p) h q f = f
  free_line here t (Line.Continue p) h q f = f

  free_steps : (here : Here) (ls : Lines) → AreStatements ls → IsFree here → IsFree (steps_behind scope frame here ls)
  free_steps here Lines.End s f = f
  free_steps here (Lines.Then (Line.Local p d init) ls) s f = absurd cc
  free_steps here (Lines.Then l ls) s f = f

  -- ---- the head of a `for`

  heads_free : (here : Here) (test : Option Written) (step : Lines) (body : Line) (ls : Lines) (ss : List Stmt) (behind : Option Place) → AreProper ls → IsFree here → (IsFree (heads_behind scope frame here (tail_of test step body) ls) → behind ≡ None)
      → heads_made (setting_of profile_rules scope frame) here (tail_of test step body) ls ≡ Right ss → use_along name ls behind ≡ None
  unfolding heads_made heads_behind
  heads_free here test step body Lines.End ss behind h f k e = k f
  heads_free here test step body (Lines.Then l ls) ss behind h f k e =
      let t : Bool = head_taken l ls (tail_of test step body) in
      let b = both_right (simple_made (setting_of profile_rules scope frame) no_jumps here t l) (heads_made (setting_of profile_rules scope frame) (simple_behind scope frame here t l) (tail_of test step body) ls) appended ss e in
      neither (use_at name l) (chosen (hides name l) None (use_along name ls behind)) (simple_free no_jumps here t l b.left h.0 f b.first)
      (unless (hides name l) (use_along name ls behind) (λ q. heads_free (simple_behind scope frame here t l) test step body ls b.right behind h.1 (free_simple here t l h.0 q f) k b.second))

  steps_free : (here : Here) (ls : Lines) (ss : List Stmt) → AtMostOne ls → AreProper ls → IsFree here → steps_made (setting_of profile_rules scope frame) here ls ≡ Right ss → use_along name ls None ≡ None
  steps_free here Lines.End ss a h f e = refl
  steps_free here (Lines.Then l Lines.End) ss a h f e = neither (use_at name l) (chosen (hides name l) None None) (simple_free no_jumps here false l ss h.0 f e) (no_either (hides name l))
  steps_free here (Lines.Then l (Lines.Then m ls)) ss a h f e = absurd a

  for_free : (here : Here) (p : Place) (init : Lines) (test : Option Written) (step : Lines) (body : Line) (x : ForHead) → (AreProper init × (AreStatements step × AreProper step)) → AtMostOne step → IsFree here
      → (IsFree (behind_head scope frame here init (tail_of test step body)) → use_at name body ≡ None)
      → for_head (setting_of profile_rules scope frame) here p init (tail_of test step body) ≡ Right x → use_along name init (or_else (perhaps_use name test) (or_else (use_along name step None) (use_at name body))) ≡ None
  unfolding for_head behind_head
  for_free here p init test step body x h one f k e =
      let there : Here = heads_behind scope frame here (tail_of test step body) init in
      let outer = both_right (both (heads_made (setting_of profile_rules scope frame) here (tail_of test step body) init) (perhaps_condition profile_rules scope there p test) pair) (steps_made (setting_of profile_rules scope frame) there step) pair x e in
      let inner = both_right (heads_made (setting_of profile_rules scope frame) here (tail_of test step body) init) (perhaps_condition profile_rules scope there p test) pair outer.left outer.first in
      heads_free here test step body init inner.left (or_else (perhaps_use name test) (or_else (use_along name step None) (use_at name body))) h.0 f
      (λ g. neither (perhaps_use name test) (or_else (use_along name step None) (use_at name body)) (perhaps_free there p test inner.right g inner.second)
      (neither (use_along name step None) (use_at name body) (steps_free there step outer.right one h.1.1 g outer.second) (k (free_steps there step h.1.0 g))))
      inner.first

  -- ---- all statements

  part_comes : (is_part : Bool) (c : Checked (List Stmt)) (ss : List Stmt) → as_part is_part c ≡ Right ss → (ys : List Stmt) × (c ≡ Right ys)
  part_comes true c ss e = (ss, e)
  part_comes false c ss e = let a = after_right c block_of ss e in (a.value, a.right)

  mutual
    line_free : (jumps : Jumps) (is_part : Bool) (here : Here) (t : Bool) (l : Line) (ss : List Stmt) → IsProper l → IsWhole l → IsFree here → line_made (setting_of profile_rules scope frame) (standing_of jumps is_part t) here l ≡ Right ss → use_at name l ≡ None
    line_free jumps is_part here t (Line.Empty p) ss h w f e = refl
    line_free jumps is_part here t (Line.Block p ls) ss h w f e =
        let c = part_comes is_part (lines_made (setting_of profile_rules scope frame) (inner_jumps jumps) (entered here) ls) ss e in
        lines_free (inner_jumps jumps) (entered here) ls c.0 h w f c.1
    line_free jumps is_part here t (Line.Local p d init) ss h w f e = simple_free jumps here t (Line.Local p d init) ss h f e
    line_free jumps is_part here t (Line.Assign p at op a b) ss h w f e = simple_free jumps here t (Line.Assign p at op a b) ss h f e
    line_free jumps is_part here t (Line.Plain p v) ss h w f e = simple_free jumps here t (Line.Plain p v) ss h f e
    line_free jumps is_part here t (Line.If p c one other) ss h w f e =
        let there : Here = line_behind scope frame (numbered here) false one in
        let outer = both_right (both (condition profile_rules scope here p c) (line_made (setting_of profile_rules scope frame) (standing_of (inner_jumps jumps) true false) (numbered here) one) pair) (perhaps_made (setting_of profile_rules scope frame) (inner_jumps jumps) there other) (if_of here.number) ss e in
        let inner = both_right (condition profile_rules scope here p c) (line_made (setting_of profile_rules scope frame) (standing_of (inner_jumps jumps) true false) (numbered here) one) pair outer.left outer.first in
        neither (use_in name c) (or_else (use_at name one) (use_along name other None)) (condition_free here p c inner.left f inner.first)
        (neither (use_at name one) (use_along name other None) (line_free (inner_jumps jumps) true (numbered here) false one inner.right h.1.0.1 w.0 f inner.second)
        (others_free (inner_jumps jumps) there other outer.right h.1.1.1 w.1.0 w.1.1 (free_kept (numbered here) false one h.1.0.0 h.1.0.1 f) outer.second))
    line_free jumps is_part here t (Line.While p c body) ss h w f e =
        let b = both_right (condition profile_rules scope here p c) (line_made (setting_of profile_rules scope frame) (standing_of loop_jumps true false) (numbered here) body) (while_of here.number) ss e in
        neither (use_in name c) (use_at name body) (condition_free here p c b.left f b.first) (line_free loop_jumps true (numbered here) false body b.right h.1.1 w f b.second)
    line_free jumps is_part here t (Line.For p init test step body) ss h w f e =
        let there : Here = behind_head scope frame (entered here) init (tail_of test step body) in
        let b = both_right (for_head (setting_of profile_rules scope frame) (entered here) p init (tail_of test step body)) (line_made (setting_of profile_rules scope frame) (standing_of loop_jumps true false) there body) (for_of here.number) ss e in
        for_free (entered here) p init test step body b.left (h.0.0, h.1.0) w.0 f (λ g. line_free loop_jumps true there false body b.right h.1.1.1 w.1 g b.second) b.first
    line_free jumps is_part here t (Line.Do p body c) ss h w f e =
        let there : Here = line_behind scope frame (numbered here) false body in
        let b = both_right (line_made (setting_of profile_rules scope frame) (standing_of loop_jumps true false) (numbered here) body) (condition profile_rules scope there p c) (do_of here.number) ss e in
        neither (use_at name body) (use_in name c) (line_free loop_jumps true (numbered here) false body b.left h.0.1 w f b.first)
        (condition_free there p c b.right (free_kept (numbered here) false body h.0.0 h.0.1 f) b.second)
    line_free jumps is_part here t (Line.Switch p c cs) ss h w f e =
        let tested : Checked Integer = tested_value profile_rules scope here p c in
        let b = both_right tested (clauses_made (setting_of profile_rules scope frame) (clause_jumps jumps) (numbered here) (tested_at p tested) [] cs) (switch_of here.number) ss e in
        neither (use_in name c) (use_in_clauses name cs) (tested_free here p c b.left f b.first) (clauses_free (clause_jumps jumps) (numbered here) (tested_at p tested) [] cs b.right h.1 w f b.second)
    line_free jumps is_part here t (Line.Return p o) ss h w f e = simple_free jumps here t (Line.Return p o) ss h f e
    line_free jumps is_part here t (Line.Break p) ss h w f e = refl
    line_free jumps is_part here t (Line.Continue p) ss h w f e = refl

    others_free : (jumps : Jumps) (here : Here) (ls : Lines) (ss : List Stmt) → AreProper ls → AtMostOne ls → AreWhole ls → IsFree here → perhaps_made (setting_of profile_rules scope frame) jumps here ls ≡ Right ss → use_along name ls None ≡ None
    others_free jumps here Lines.End ss h a w f e = refl
    others_free jumps here (Lines.Then l Lines.End) ss h a w f e = neither (use_at name l) (chosen (hides name l) None None) (line_free jumps true here false l ss h.0 w.0 f e) (no_either (hides name l))
    others_free jumps here (Lines.Then l (Lines.Then m ls)) ss h a w f e = absurd a

    lines_free : (jumps : Jumps) (here : Here) (ls : Lines) (ss : List Stmt) → AreProper ls → AreWhole ls → IsFree here → lines_made (setting_of profile_rules scope frame) jumps here ls ≡ Right ss → use_along name ls None ≡ None
    lines_free jumps here Lines.End ss h w f e = refl
    lines_free jumps here (Lines.Then l ls) ss h w f e =
        let t : Bool = is_taken l ls in
        let b = both_right (line_made (setting_of profile_rules scope frame) (standing_of (jumps_before jumps ls) false t) here l) (lines_made (setting_of profile_rules scope frame) jumps (line_behind scope frame here t l) ls) appended ss e in
        neither (use_at name l) (chosen (hides name l) None (use_along name ls None)) (line_free (jumps_before jumps ls) false here t l b.left h.0 w.0 f b.first)
        (unless (hides name l) (use_along name ls None) (λ q. lines_free jumps (line_behind scope frame here t l) ls b.right h.1 w.1 (free_line here t l h.0 q f) b.second))

    -- each clause in front of those behind it
    clauses_free : (jumps : Jumps) (here : Here) (at : Tested) (seen : List CaseLabel) (cs : Clauses) (ms : List MadeClause) → AreProperClauses cs → AreWholeClauses cs → IsFree here → clauses_made (setting_of profile_rules scope frame) jumps here at seen cs ≡ Right ms → use_in_clauses name cs ≡ None
    clauses_free jumps here at seen Clauses.NoPart ms h w f e = refl
    clauses_free jumps here at seen (Clauses.Part labels ls cs) ms h w f e =
        let there : Here = left here (lines_behind scope frame (entered here) ls) in
        let made = lines_made (setting_of profile_rules scope frame) jumps (entered here) ls in
        let checked = labels_made scope here.names at.kind seen labels in
        let body = demand (clause_place at.place labels) Mismatch (ends ls (is_last cs)) made in
        let all = both_right (both checked body (made_clause at.kind)) (clauses_made (setting_of profile_rules scope frame) jumps there at (labels_behind scope here.names at.kind seen labels) cs) appended ms e in
        let own = both_right checked body (made_clause at.kind) all.left all.first in
        let right = demand_right (clause_place at.place labels) Mismatch (ends ls (is_last cs)) made own.right own.second in
        neither (use_along name ls None) (use_in_clauses name cs) (lines_free jumps (entered here) ls own.right h.0.1 w.0 f right.right)
        (clauses_free jumps there at (labels_behind scope here.names at.kind seen labels) cs all.right h.1 w.1 (ap (λ ns. local_named ns name) (left_keeps here _ (lines_grow scope frame (entered here) ls)) ∙ f) all.second)

-- ---- parameters

or_left : (a b : Bool) → (a || b) ≡ false → a ≡ false
or_left true b e = absurd cc
or_left false b e = refl

or_right : (a b : Bool) → (a || b) ≡ false → b ≡ false
or_right true b e = absurd cc
or_right false b e = e

params_free : (scope : Scope) (name : List ℕ) (body : Lines) (slot : ℕ) (ds : List Decl) → AreNamed ds → is_parameter ds name ≡ false → local_named (parameters_from scope body slot ds) name ≡ None
unfolding parameters_from local_from named_local
params_free scope name body slot [] n q = refl
params_free scope name body slot (d ∷ ds) n q =
    ap (λ b. local_from (chosen b (Some (named_local slot (parameter_taken body d) d (told (parameter_means scope d)))) None) (parameters_from scope body (slot + 1) ds) name) (declared_same name d n.0 ∙ or_left (is_declared_by name d) (is_parameter ds name) q)
    ∙ params_free scope name body (slot + 1) ds n.1 (or_right (is_declared_by name d) (is_parameter ds name) q)

first_free : (scope : Scope) (name : List ℕ) (body : Lines) (ds : List Decl) → AreNamed ds → is_parameter ds name ≡ false → local_named (first_here scope body ds).names name ≡ None
unfolding first_here
first_free scope name body ds n q = params_free scope name body 0 ds n q

-- ---- bodies
pub bodies_free : BodiesUseWhatIsDeclared
unfolding body_rule first_use
bodies_free scope h nodes b name n proper gives plain e =
    let ls : Lines = lines_of nodes in
    let frame : Frame = frame_of scope h in
    let here : Here = first_here scope ls h.params in
    let c = both_right (declared_locals (lines_behind scope frame here ls).locals) (lines_made (setting_of profile_rules scope frame) no_jumps here ls) (body_of (map (parameter_taken ls) h.params)) b e in
    unless (is_parameter h.params name) (use_along name ls None) (λ q. lines_free scope name gives plain frame no_jumps here ls c.right proper (nodes_whole nodes) (first_free scope name ls h.params n q) c.second)
