-- protocol
-- The parts of declarations and statements, and what each of them comes to (C99 6.7, 6.8).
use Rattle.std.specs.Prelude.{ℕ, not, false, List, length, map, Option}
use Rattle.std.specs.Option.{option_map}
use Rattle.mdr_rich.specs.declared.code.Expr.{Expr}
use Rattle.mdr_rich.specs.declared.code.Step.{Step}
use Rattle.mdr_rich.specs.declared.code.Stmt.{Stmt}
use Rattle.mdr_core.specs.declared.place.Place.{Place}
use Rattle.mdr_core.specs.declared.program.Local.{Local}
use Rattle.mdr_syntax.specs.declared.tree.Clause.{Clause}
use Rattle.mdr_syntax.specs.declared.tree.Decl.{Decl}
use Rattle.mdr_syntax.specs.declared.tree.Head.{Head}
use Rattle.mdr_syntax.specs.declared.tree.Node.{Node}
use Rattle.mdr_faults.specs.declared.fault.FaultKind.TheVariants.{Redefined, Mismatch, Limit}
use Rattle.mdr_faults.specs.declared.scope.Scope.{Scope}
use Rattle.mdr_faults.specs.Faults.{Checked, after, both, demand}
use Rattle.mdr_headings.specs.declared.body.Body.{Body}
use Rattle.mdr_operand.specs.declared.room.LocalName.{LocalName}
use Rattle.mdr_operand.specs.Written.{Written, Line, Lines, Labelled, perhaps}
use Rattle.mdr_operand.specs.Written.{written_of, line_of, lines_of, clauses_of}
use Rattle.mdr_body.specs.declared.clauses.MadeClause.{MadeClause}
use Rattle.mdr_body.specs.declared.here.Assignment.{Assignment}
use Rattle.mdr_body.specs.declared.here.ClauseStanding.{ClauseStanding}
use Rattle.mdr_body.specs.declared.here.ForParts.{ForParts}
use Rattle.mdr_body.specs.declared.here.Frame.{Frame}
use Rattle.mdr_body.specs.declared.here.Here.{Here}
use Rattle.mdr_body.specs.declared.here.Jumps.{Jumps}
use Rattle.mdr_body.specs.declared.here.Placed.{Placed}
use Rattle.mdr_body.specs.declared.here.Setting as given
use Rattle.mdr_body.specs.declared.here.Target.{Target}
use Rattle.mdr_body.specs.declared.labels.CaseLabel.{CaseLabel}
use Rattle.mdr_body.specs.Locals.{local_object, is_again, has_place, entered, left, numbered}
use Rattle.mdr_body.specs.Locals.{parameter_taken, first_here}
use Rattle.mdr_body.specs.Labels.{labels_made}
use Rattle.mdr_body.specs.Clauses.{clause_place, ends, made_clause}
use Rattle.mdr_body.specs.Statements.{Rules, Setting, setting_of, in_part, condition, perhaps_condition, text_of, initial_by, declared_then, no_jumps}
use Rattle.mdr_body.specs.Statements.{pair, heads_made, heads_behind, ForHead, ForTail, tail_of, for_head, behind_head}
use Rattle.mdr_body.specs.Statements.{line_made, line_behind, lines_made, lines_behind}
use Rattle.mdr_body.specs.Bodies.{body_by}

-- ---- what is handed on

-- where one stands in a body, by what the rules are
abbrev pub given_setting : {A : Type 0} → (A → Rules) → given.Setting A → Setting
given_setting rules s = setting_of (rules s.rules.now) s.scope.now s.frame.now

-- an assignment, by its operator (6.5.16)
abbrev pub assigned_by : Rules → Scope → List LocalName → Assignment → Checked Step
assigned_by rules scope names a = rules.assigned scope names a.at a.operator.now (written_of a.left.now) (written_of a.right.now)

-- ---- declarations

-- a name that its block doesn't have yet, and for which there is room (6.7, paragraph 3)
abbrev pub named_once : Here → Place → (name : List ℕ) → Checked Local → Checked Local
named_once here p name c =
    demand p Redefined (not (is_again here.first name here.names)) (demand p Limit (has_place (length here.locals) name) c)

-- the initialiser of a local, among the names behind its declarator (6.7.8; 6.2.1, paragraph 7)
abbrev pub initial_among : Setting → List LocalName → Target → Decl → Written → Checked Step
initial_among setting names at d w =
    after (local_object setting.scope setting.frame.locks d)
    (initial_by (setting.rules.stored setting.scope names) at w (text_of w))

-- a declarator and its initialiser, by what is known between them (6.7.8)
abbrev pub initialised : Setting → Here → Target → Decl → Written → Checked (List Stmt)
initialised setting here at d w =
    after (initial_among setting here.names at d w) (declared_then here.number at.slot)

-- ---- statements with parts, as lines

-- a part that may be missing: behind `else` (6.8.4.1), or the step of a `for` (6.8.5.3)
abbrev pub part_of : Option Node → Lines
part_of n = perhaps (option_map line_of n)

-- what stands behind the init of a `for` (6.8.5.3)
abbrev pub tail_in : ForParts → (body : Node) → ForTail
tail_in parts body = tail_of (option_map written_of parts.test.now) (part_of parts.step.now) (line_of body)

-- `switch (e) { clauses }` (6.8.4.2)
abbrev pub switch_line : Placed → List Clause → Line
switch_line e cs = Line.Switch e.place (written_of e.form.now) (clauses_of cs)

-- `while (e) body` (6.8.5.1)
abbrev pub while_line : Placed → (body : Node) → Line
while_line e body = Line.While e.place (written_of e.form.now) (line_of body)

-- `do body while (e);` (6.8.5.2)
abbrev pub do_line : (body : Node) → Placed → Line
do_line body e = Line.Do e.place (line_of body) (written_of e.form.now)

-- `for (init; test; step) body` (6.8.5.3)
abbrev pub for_line : Place → ForParts → (body : Node) → Line
for_line p parts body = Line.For p (lines_of parts.init.now) (option_map written_of parts.test.now) (part_of parts.step.now) (line_of body)

-- ---- what they come to

-- a statement as a part of another; it is no declaration (6.8, paragraph 1)
abbrev pub statement_made : Setting → Jumps → Here → Line → Checked (List Stmt)
statement_made setting jumps here l = line_made setting (in_part jumps) here l

-- behind it (6.8)
abbrev pub statement_behind : Setting → Here → Line → Here
statement_behind setting here l = line_behind setting.scope setting.frame here false l

-- a loop, whose body may hold the same jumps wherever the loop stands (6.8.6.2, 6.8.6.3)
abbrev pub loop_made : Setting → Here → Line → Checked (List Stmt)
loop_made setting here l = statement_made setting no_jumps here l

-- the statements of a block, which has names of its own (6.8.2)
abbrev pub block_made : Setting → Jumps → Here → Lines → Checked (List Stmt)
block_made setting jumps here ls = lines_made setting jumps (entered here) ls

-- behind the block, where its names have ended (6.8.2; 6.2.1, paragraph 4)
abbrev pub block_behind : Setting → Here → Lines → Here
block_behind setting here ls = left here (lines_behind setting.scope setting.frame (entered here) ls)

-- the condition of an `if` and its first branch (6.8.4.1)
abbrev pub half_made : Setting → Jumps → Here → Placed → (one : Node) → Checked (Expr × List Stmt)
half_made setting jumps here e one =
    both (condition setting.rules setting.scope here e.place (written_of e.form.now))
    (statement_made setting jumps (numbered here) (line_of one)) pair

-- behind the first branch (6.8.4.1)
abbrev pub half_behind : Setting → Here → (one : Node) → Here
half_behind setting here one = statement_behind setting (numbered here) (line_of one)

-- ---- the head of a `for`

-- its init (6.8.5.3)
abbrev pub init_made : Setting → Here → ForParts → (body : Node) → Checked (List Stmt)
init_made setting here parts body = heads_made setting here (tail_in parts body) (lines_of parts.init.now)

-- behind the init (6.8.5.3)
abbrev pub init_behind : Setting → Here → ForParts → (body : Node) → Here
init_behind setting here parts body = heads_behind setting.scope setting.frame here (tail_in parts body) (lines_of parts.init.now)

-- its init and, behind that, its test (6.8.5.3)
abbrev pub init_and_test : Setting → Here → Place → ForParts → (body : Node) → Checked (List Stmt × Option Expr)
init_and_test setting here p parts body =
    both (init_made setting here parts body)
    (perhaps_condition setting.rules setting.scope (init_behind setting here parts body) p (option_map written_of parts.test.now)) pair

-- its init, its test and its step (6.8.5.3)
abbrev pub head_made : Setting → Here → Place → ForParts → (body : Node) → Checked ForHead
head_made setting here p parts body = for_head setting here p (lines_of parts.init.now) (tail_in parts body)

-- behind the head, which has a number (6.8.5.3)
abbrev pub head_behind : Setting → Here → ForParts → (body : Node) → Here
head_behind setting here parts body = behind_head setting.scope setting.frame here (lines_of parts.init.now) (tail_in parts body)

-- ---- the clauses of a `switch`

-- the statements of the clause at this place, which may not go on into the clause behind it (6.8.4.2)
abbrev pub ended_made : Setting → ClauseStanding → Here → Place → Lines → Checked (List Stmt)
ended_made setting standing here p ls =
    demand p Mismatch (ends ls standing.is_last) (block_made setting standing.jumps here ls)

-- a clause, behind the labels that were seen before it: its own labels and its statements (6.8.1, 6.8.4.2)
abbrev pub clause_made : Setting → ClauseStanding → Here → (seen : List CaseLabel) → Labelled → Checked (List MadeClause)
clause_made setting standing here seen c =
    both (labels_made setting.scope here.names standing.tested.kind seen c.0)
    (ended_made setting standing here (clause_place standing.tested.place c.0) c.1) (made_clause standing.tested.kind)

-- ---- bodies

-- a function's body in its frame (6.9.1)
abbrev pub body_in : Rules → Scope → Frame → Head → List Node → Checked Body
body_in rules scope frame h nodes =
    body_by (setting_of rules scope frame) (first_here scope (lines_of nodes) h.params)
    (map (parameter_taken (lines_of nodes)) h.params) (lines_of nodes)
