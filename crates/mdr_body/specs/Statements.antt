-- believed
-- Statements: what each comes to, and what is known behind it (C99 6.8).
use Rattle.std.specs.Prelude.{ℕ, ◌&&◌, ◌||◌, not, nat_lt, Bool, true, false, List, [], ◌∷◌, ◌++◌, length, Option, Some, None}
use Rattle.mdr_rich.specs.declared.code.Expr.{Expr}
use Rattle.mdr_rich.specs.declared.code.Lval.{Lval}
use Rattle.mdr_rich.specs.declared.code.Lval.TheVariants as lval
use Rattle.mdr_rich.specs.declared.code.Step.{Step}
use Rattle.mdr_rich.specs.declared.code.Step.TheVariants as step
use Rattle.mdr_rich.specs.declared.code.Stmt.{Stmt}
use Rattle.mdr_core.specs.declared.kind.Kind.{Kind}
use Rattle.mdr_core.specs.declared.place.Place.{Place}
use Rattle.mdr_core.specs.declared.types.Ty.{Ty}
use Rattle.mdr_core.specs.Layout.{chosen}
use Rattle.mdr_core.specs.Types.{is_scalar}
use Rattle.mdr_syntax.specs.declared.tree.Decl.{Decl, out-Decl}
use Rattle.mdr_syntax.specs.declared.tree.Label.{Label}
use Rattle.mdr_faults.specs.declared.fault.FaultKind.TheVariants.{Mismatch}
use Rattle.mdr_faults.specs.declared.scope.Object.{Object}
use Rattle.mdr_faults.specs.declared.scope.Scope.{Scope}
use Rattle.mdr_faults.specs.Declarations.{is_void}
use Rattle.mdr_faults.specs.Faults.{Checked, Right, refuse, again, after, both, demand}
use Rattle.mdr_headings.specs.Annotations.{is_character}
use Rattle.mdr_operand.specs.declared.operand.Integer.{Integer}
use Rattle.mdr_operand.specs.declared.operand.Operand.{Operand}
use Rattle.mdr_operand.specs.declared.operand.Scalar.{Scalar}
use Rattle.mdr_operand.specs.declared.room.LocalName.{LocalName}
use Rattle.mdr_operand.specs.Forms.{scalar_at, expression_of}
use Rattle.mdr_operand.specs.Written.{Written, Line, Lines, Clauses}
use Rattle.mdr_body.specs.declared.clauses.MadeClause.{MadeClause}
use Rattle.mdr_body.specs.declared.clauses.SortedClauses.{SortedClauses}
use Rattle.mdr_body.specs.declared.here.Breaks.{Breaks}
use Rattle.mdr_body.specs.declared.here.Breaks.TheVariants as break_of
use Rattle.mdr_body.specs.declared.here.Frame.{Frame}
use Rattle.mdr_body.specs.declared.here.Here.{Here}
use Rattle.mdr_body.specs.declared.here.Jumps.{Jumps}
use Rattle.mdr_body.specs.declared.here.Standing.{Standing}
use Rattle.mdr_body.specs.declared.here.Target.{Target}
use Rattle.mdr_body.specs.declared.here.Tested.{Tested}
use Rattle.mdr_body.specs.declared.labels.CaseLabel.{CaseLabel}
use Rattle.mdr_body.specs.Locals.{local_object, is_own_object, with_local, is_taken, entered, left, numbered}
use Rattle.mdr_body.specs.Addresses.{perhaps_takes, takes_at, takes_along}
use Rattle.mdr_body.specs.Labels.{labels_made, labels_behind}
use Rattle.mdr_body.specs.Clauses.{switch_value, label_kind, clause_place, ends, is_last, made_clause, sorted, no_clauses}

-- ---- what statements are made of

-- the rules of expressions, assignments and calls
pub record Rules : Type 0 where
  -- an expression
  pub typed : Scope → List LocalName → Written → Checked Operand
  -- an assignment, by its operator (6.5.16)
  pub assigned : Scope → List LocalName → (at : Place) → (operator : List ℕ) → Written → Written → Checked Step
  -- what is a statement by itself: a call (6.8.3)
  pub called : Scope → List LocalName → Written → Checked Step
  -- a value or a call's result, given to an object of the type, as if by assignment (6.7.8, paragraph 11)
  pub stored : Scope → List LocalName → Place → Lval → Ty → Written → Checked Step
  -- the same, given to the caller (6.8.6.4, paragraph 3)
  pub returned : Scope → List LocalName → Place → Ty → Written → Checked Step

-- what is the same wherever one stands in a body: the rules, the names of the file, and what the whole body shares
pub record Setting : Type 0 where
  pub rules : Rules
  pub scope : Scope
  pub frame : Frame

abbrev pub setting_of : Rules → Scope → Frame → Setting
setting_of rules scope frame = record { rules = rules; scope = scope; frame = frame }

abbrev pub stmt : ℕ → Step → Stmt
stmt n s = record { number = n; step = s }

abbrev pub single : ℕ → Step → Checked (List Stmt)
single n s = Right (stmt n s ∷ [])

abbrev pub stated : ℕ → Checked Step → Checked (List Stmt)
stated n c = after c (single n)

-- ---- conditions (6.8.4.1, 6.8.5)

-- a scalar (paragraphs 1 and 2)
abbrev pub tested : Place → Operand → Checked Expr
tested p x = after (scalar_at p x) (λ v. Right (expression_of v))

unfoldable pub condition : Rules → Scope → Here → Place → Written → Checked Expr
condition rules scope here p w = after (rules.typed scope here.names w) (tested p)

abbrev pub some : Expr → Checked (Option Expr)
some e = Right (Some e)

unfoldable pub perhaps_condition : Rules → Scope → Here → Place → Option Written → Checked (Option Expr)
perhaps_condition rules scope here p None = Right None
perhaps_condition rules scope here p (Some w) = after (condition rules scope here p w) some

-- ---- declarations (6.7)

-- a text as an initialiser
abbrev pub text_of : Written → Option (List ℕ)
text_of (Written.Text p bytes) = Some bytes
text_of w = None

-- it is for an array of characters, in which it has room but perhaps for its closing zero (6.7.8, paragraph 14)
abbrev pub takes_text : Object → (bytes : ℕ) → Bool
takes_text o n = is_character o.ty && (o.array && not (nat_lt o.count n))

abbrev pub is_single : Object → Bool
is_single o = is_scalar o.ty && not o.array

abbrev pub own_place : (is_object : Bool) → (slot : ℕ) → Ty → Lval
own_place true slot t = lval.Object slot t
own_place false slot t = lval.Slot slot t

abbrev pub target_of : Place → (slot : ℕ) → (is_taken : Bool) → Target
target_of p slot t = record { place = p; slot = slot; is_taken = t }

-- by how a value is stored: a text, or a value
abbrev pub initial_by : (stored : Place → Lval → Ty → Written → Checked Step) → Target → Written → Option (List ℕ) → Object → Checked Step
initial_by stored at w (Some bytes) o = chosen (takes_text o (length bytes)) (Right (step.Text at.slot bytes)) (refuse at.place Mismatch)
initial_by stored at w None o = chosen (is_single o) (stored at.place (own_place (is_own_object at.is_taken o) at.slot o.ty) o.ty w) (refuse at.place Mismatch)

-- the initialiser is in the scope of what it is for
unfoldable pub initial_step : Setting → Here → (is_taken : Bool) → Decl → Written → Checked Step
initial_step setting here t d w =
    after (local_object setting.scope setting.frame.locks d)
    (initial_by (setting.rules.stored setting.scope (with_local setting.scope setting.frame.locks t d here).names)
    (target_of (out-Decl d).place here.slot t) w (text_of w))

abbrev pub declared_then : (number slot : ℕ) → Step → Checked (List Stmt)
declared_then n slot s = Right (stmt n (step.Declare slot) ∷ stmt n s ∷ [])

-- the declarator, and its initialiser, which have one number
unfoldable pub local_made : Setting → Here → (is_taken : Bool) → Decl → Option Written → Checked (List Stmt)
local_made setting here t d None = single here.number (step.Declare here.slot)
local_made setting here t d (Some w) = after (initial_step setting here t d w) (declared_then here.number here.slot)

-- ---- jumps (6.8.6)

-- outside loops and switches
abbrev pub no_jumps : Jumps
no_jumps = record { in_loop = false; breaks = break_of.Loop }

-- in the body of a loop
abbrev pub loop_jumps : Jumps
loop_jumps = record { in_loop = true; breaks = break_of.Loop }

-- in the statements of a clause
abbrev pub clause_jumps : Jumps → Jumps
clause_jumps jumps = record { in_loop = jumps.in_loop; breaks = break_of.Clause }

-- the `break` of a clause stands at its end alone, and in no statement there
abbrev pub not_at_end : Breaks → Breaks
not_at_end break_of.Loop = break_of.Loop
not_at_end break_of.Clause = break_of.Nothing
not_at_end break_of.Nothing = break_of.Nothing

abbrev pub inner_jumps : Jumps → Jumps
inner_jumps jumps = record { in_loop = jumps.in_loop; breaks = not_at_end jumps.breaks }

-- in a statement with others behind it
abbrev pub jumps_before : Jumps → (rest : Lines) → Jumps
jumps_before jumps Lines.End = jumps
jumps_before jumps (Lines.Then l ls) = inner_jumps jumps

-- `break` and `continue` stand in a loop (6.8.6.2, 6.8.6.3)
abbrev pub jumped : Place → (in_loop : Bool) → Step → Checked Step
jumped p true s = Right s
jumped p false s = refuse p Mismatch

-- `break` leaves the innermost loop or `switch` (6.8.6.3, paragraph 2). At the end of a clause it does nothing, since no clause goes on into another
abbrev pub broken_by : ℕ → Place → (in_loop : Bool) → Breaks → Checked (List Stmt)
broken_by n p in_loop break_of.Loop = stated n (jumped p in_loop step.Break)
broken_by n p in_loop break_of.Clause = Right []
broken_by n p in_loop break_of.Nothing = refuse p Mismatch

unfoldable pub broken : ℕ → Place → Jumps → Checked (List Stmt)
broken n p jumps = broken_by n p jumps.in_loop jumps.breaks

-- without a value where the function gives none (6.8.6.4, paragraph 1)
abbrev pub bare_return : Place → Ty → Checked Step
bare_return p t = chosen (is_void t) (Right (step.Return None)) (refuse p Mismatch)

-- with one, by how a value is given to the caller
abbrev pub value_return : (returned : Place → Ty → Written → Checked Step) → Place → Written → Ty → Checked Step
value_return returned p w t = chosen (is_void t) (refuse p Mismatch) (returned p t w)

abbrev pub return_by : (returned : Place → Ty → Written → Checked Step) → Place → Option Written → Ty → Checked Step
return_by returned p None t = bare_return p t
return_by returned p (Some w) t = value_return returned p w t

unfoldable pub return_step : Setting → Here → Place → Option Written → Checked Step
return_step setting here p e = after (again setting.frame.result) (return_by (setting.rules.returned setting.scope here.names) p e)

-- ---- statements without parts

-- of all others none stands where these do
abbrev pub simple_made : Setting → Jumps → Here → (is_taken : Bool) → Line → Checked (List Stmt)
simple_made setting jumps here t (Line.Empty p) = single here.number step.Empty
simple_made setting jumps here t (Line.Block p ls) = refuse p Mismatch
simple_made setting jumps here t (Line.Local p d init) = local_made setting here t d init
simple_made setting jumps here t (Line.Assign p at op a b) = stated here.number (setting.rules.assigned setting.scope here.names at op a b)
simple_made setting jumps here t (Line.Plain p w) = stated here.number (setting.rules.called setting.scope here.names w)
simple_made setting jumps here t (Line.If p e one other) = refuse p Mismatch
simple_made setting jumps here t (Line.While p e body) = refuse p Mismatch
simple_made setting jumps here t (Line.For p init test step body) = refuse p Mismatch
simple_made setting jumps here t (Line.Do p body e) = refuse p Mismatch
simple_made setting jumps here t (Line.Switch p e cs) = refuse p Mismatch
simple_made setting jumps here t (Line.Return p e) = stated here.number (return_step setting here p e)
simple_made setting jumps here t (Line.Break p) = broken here.number p jumps
simple_made setting jumps here t (Line.Continue p) = stated here.number (jumped p jumps.in_loop step.Continue)

-- behind one, but for its number
abbrev pub simple_behind : Scope → Frame → Here → (is_taken : Bool) → Line → Here
simple_behind scope frame here t (Line.Local p d init) = with_local scope frame.locks t d here
simple_behind scope frame here t l = here

-- ---- the head of a `for` (6.8.5.3)

abbrev pub appended : {A : Type 0} → List A → List A → Checked (List A)
appended xs ys = Right (xs ++ ys)

abbrev pub pair : {A B : Type 0} → A → B → Checked (A × B)
pair x y = Right (x, y)

-- what stands behind its init
pub record ForTail : Type 0 where
  pub test : Option Written
  pub step : Lines
  pub body : Line

abbrev pub tail_of : (test : Option Written) → (step : Lines) → (body : Line) → ForTail
tail_of test step body = record { test = test; step = step; body = body }

-- whether the address of what the head declares is taken in the head or in the body
abbrev pub taken_behind : Option (List ℕ) → Option Written → (rest : Lines) → ForTail → Bool
taken_behind None init rest tail = false
taken_behind (Some name) init rest tail =
    perhaps_takes name init || takes_along name rest (perhaps_takes name tail.test || (takes_along name tail.step false || takes_at name tail.body))

abbrev pub head_taken : Line → (rest : Lines) → ForTail → Bool
head_taken (Line.Local p d init) rest tail = taken_behind (out-Decl d).name init rest tail
head_taken l rest tail = false

unfoldable pub heads_made : Setting → Here → ForTail → Lines → Checked (List Stmt)
heads_made setting here tail Lines.End = Right []
heads_made setting here tail (Lines.Then l ls) =
    both (simple_made setting no_jumps here (head_taken l ls tail) l)
    (heads_made setting (simple_behind setting.scope setting.frame here (head_taken l ls tail) l) tail ls) appended

unfoldable pub heads_behind : Scope → Frame → Here → ForTail → Lines → Here
heads_behind scope frame here tail Lines.End = here
heads_behind scope frame here tail (Lines.Then l ls) = heads_behind scope frame (simple_behind scope frame here (head_taken l ls tail) l) tail ls

-- the last part: nothing, or a statement
abbrev pub steps_made : Setting → Here → Lines → Checked (List Stmt)
steps_made setting here Lines.End = Right []
steps_made setting here (Lines.Then l ls) = simple_made setting no_jumps here false l

abbrev pub steps_behind : Scope → Frame → Here → Lines → Here
steps_behind scope frame here Lines.End = here
steps_behind scope frame here (Lines.Then l ls) = simple_behind scope frame here false l

-- the statements of the init, the test and the step, which share the number of the `for`
abbrev pub ForHead : Type 0
ForHead = (List Stmt × Option Expr) × List Stmt

unfoldable pub for_head : Setting → Here → Place → (init : Lines) → ForTail → Checked ForHead
for_head setting here p init tail =
    both
    (both (heads_made setting here tail init)
    (perhaps_condition setting.rules setting.scope (heads_behind setting.scope setting.frame here tail init) p tail.test) pair)
    (steps_made setting (heads_behind setting.scope setting.frame here tail init) tail.step) pair

unfoldable pub behind_head : Scope → Frame → Here → (init : Lines) → ForTail → Here
behind_head scope frame here init tail = numbered (steps_behind scope frame (heads_behind scope frame here tail init) tail.step)

-- ---- statements with parts

-- the statements of a block: those of the part that it is of another statement, or one
abbrev pub block_of : List Stmt → Checked (List Stmt)
block_of ss = single 0 (step.Block ss)

abbrev pub as_part : (is_part : Bool) → Checked (List Stmt) → Checked (List Stmt)
as_part true c = c
as_part false c = after c block_of

abbrev pub if_of : ℕ → Expr × List Stmt → List Stmt → Checked (List Stmt)
if_of n half other = single n (step.If half.0 half.1 other)

abbrev pub while_of : ℕ → Expr → List Stmt → Checked (List Stmt)
while_of n e body = single n (step.While e body)

abbrev pub for_of : ℕ → ForHead → List Stmt → Checked (List Stmt)
for_of n head body = single n (step.For head.0.0 head.0.1 head.1 body)

abbrev pub do_of : ℕ → List Stmt → Expr → Checked (List Stmt)
do_of n body e = single n (step.Do body e)

abbrev pub switch_by : ℕ → Expr → SortedClauses → Checked (List Stmt)
switch_by n e cs = single n (step.Switch e cs.tried cs.fallback)

abbrev pub switch_of : ℕ → Integer → List MadeClause → Checked (List Stmt)
switch_of n v cs = switch_by n v.value (sorted no_clauses cs)

-- the value that a `switch` tests
unfoldable pub tested_value : Rules → Scope → Here → Place → Written → Checked Integer
tested_value rules scope here p w = after (rules.typed scope here.names w) (switch_value p)

abbrev pub tested_at : Place → Checked Integer → Tested
tested_at p c = record { place = p; kind = label_kind c }

abbrev pub standing_of : Jumps → (is_part is_taken : Bool) → Standing
standing_of jumps is_part t = record { jumps = jumps; is_part = is_part; is_taken = t }

-- as a part of another statement; it is no declaration (6.8, paragraph 1)
abbrev pub in_part : Jumps → Standing
in_part jumps = standing_of jumps true false

-- in a list, with others behind it
abbrev pub in_list : Jumps → Line → (rest : Lines) → Standing
in_list jumps l ls = standing_of (jumps_before jumps ls) false (is_taken l ls)

-- what is known behind a statement, whatever is wrong in it: its locals are declared, and its numbers and slots are counted
abbrev mutual
  pub line_behind : Scope → Frame → Here → (is_taken : Bool) → Line → Here
  line_behind scope frame here t (Line.Empty p) = numbered here
  line_behind scope frame here t (Line.Block p ls) = left here (lines_behind scope frame (entered here) ls)
  line_behind scope frame here t (Line.Local p d init) = numbered (with_local scope frame.locks t d here)
  line_behind scope frame here t (Line.Assign p at op a b) = numbered here
  line_behind scope frame here t (Line.Plain p w) = numbered here
  line_behind scope frame here t (Line.If p e one other) = perhaps_behind scope frame (line_behind scope frame (numbered here) false one) other
  line_behind scope frame here t (Line.While p e body) = line_behind scope frame (numbered here) false body
  line_behind scope frame here t (Line.For p init test step body) = left here (line_behind scope frame (behind_head scope frame (entered here) init (tail_of test step body)) false body)
  line_behind scope frame here t (Line.Do p body e) = line_behind scope frame (numbered here) false body
  line_behind scope frame here t (Line.Switch p e cs) = clauses_behind scope frame (numbered here) cs
  line_behind scope frame here t (Line.Return p e) = numbered here
  line_behind scope frame here t (Line.Break p) = numbered here
  line_behind scope frame here t (Line.Continue p) = numbered here

  pub perhaps_behind : Scope → Frame → Here → Lines → Here
  perhaps_behind scope frame here Lines.End = here
  perhaps_behind scope frame here (Lines.Then l ls) = line_behind scope frame here false l

  pub lines_behind : Scope → Frame → Here → Lines → Here
  lines_behind scope frame here Lines.End = here
  lines_behind scope frame here (Lines.Then l ls) = lines_behind scope frame (line_behind scope frame here (is_taken l ls) l) ls

  -- each clause is a block
  pub clauses_behind : Scope → Frame → Here → Clauses → Here
  clauses_behind scope frame here Clauses.NoPart = here
  clauses_behind scope frame here (Clauses.Part labels ls cs) = clauses_behind scope frame (left here (lines_behind scope frame (entered here) ls)) cs

-- each part of an `if` and of a loop is a block (6.8.4, paragraph 3; 6.8.5, paragraph 5)
abbrev mutual
  pub line_made : Setting → Standing → Here → Line → Checked (List Stmt)
  line_made setting standing here (Line.Empty p) = simple_made setting standing.jumps here standing.is_taken (Line.Empty p)
  line_made setting standing here (Line.Block p ls) = as_part standing.is_part (lines_made setting (inner_jumps standing.jumps) (entered here) ls)
  line_made setting standing here (Line.Local p d init) = simple_made setting standing.jumps here standing.is_taken (Line.Local p d init)
  line_made setting standing here (Line.Assign p at op a b) = simple_made setting standing.jumps here standing.is_taken (Line.Assign p at op a b)
  line_made setting standing here (Line.Plain p w) = simple_made setting standing.jumps here standing.is_taken (Line.Plain p w)
  line_made setting standing here (Line.If p e one other) =
      both (both (condition setting.rules setting.scope here p e) (line_made setting (in_part (inner_jumps standing.jumps)) (numbered here) one) pair)
      (perhaps_made setting (inner_jumps standing.jumps) (line_behind setting.scope setting.frame (numbered here) false one) other) (if_of here.number)
  line_made setting standing here (Line.While p e body) =
      both (condition setting.rules setting.scope here p e) (line_made setting (in_part loop_jumps) (numbered here) body) (while_of here.number)
  line_made setting standing here (Line.For p init test step body) =
      both (for_head setting (entered here) p init (tail_of test step body))
      (line_made setting (in_part loop_jumps) (behind_head setting.scope setting.frame (entered here) init (tail_of test step body)) body) (for_of here.number)
  line_made setting standing here (Line.Do p body e) =
      both (line_made setting (in_part loop_jumps) (numbered here) body)
      (condition setting.rules setting.scope (line_behind setting.scope setting.frame (numbered here) false body) p e) (do_of here.number)
  line_made setting standing here (Line.Switch p e cs) =
      both (tested_value setting.rules setting.scope here p e)
      (clauses_made setting (clause_jumps standing.jumps) (numbered here) (tested_at p (tested_value setting.rules setting.scope here p e)) [] cs)
      (switch_of here.number)
  line_made setting standing here (Line.Return p e) = simple_made setting standing.jumps here standing.is_taken (Line.Return p e)
  line_made setting standing here (Line.Break p) = simple_made setting standing.jumps here standing.is_taken (Line.Break p)
  line_made setting standing here (Line.Continue p) = simple_made setting standing.jumps here standing.is_taken (Line.Continue p)

  pub perhaps_made : Setting → Jumps → Here → Lines → Checked (List Stmt)
  perhaps_made setting jumps here Lines.End = Right []
  perhaps_made setting jumps here (Lines.Then l ls) = line_made setting (in_part jumps) here l

  pub lines_made : Setting → Jumps → Here → Lines → Checked (List Stmt)
  lines_made setting jumps here Lines.End = Right []
  lines_made setting jumps here (Lines.Then l ls) =
      both (line_made setting (in_list jumps l ls) here l)
      (lines_made setting jumps (line_behind setting.scope setting.frame here (is_taken l ls) l) ls) appended

  -- the clauses of a `switch`, behind the labels that were seen in it
  pub clauses_made : Setting → Jumps → Here → Tested → (seen : List CaseLabel) → Clauses → Checked (List MadeClause)
  clauses_made setting jumps here at seen Clauses.NoPart = Right []
  clauses_made setting jumps here at seen (Clauses.Part labels ls cs) =
      both
      (both (labels_made setting.scope here.names at.kind seen labels)
      (demand (clause_place at.place labels) Mismatch (ends ls (is_last cs)) (lines_made setting jumps (entered here) ls)) (made_clause at.kind))
      (clauses_made setting jumps (left here (lines_behind setting.scope setting.frame (entered here) ls)) at
      (labels_behind setting.scope here.names at.kind seen labels) cs)
      appended
