-- believed
-- A function's body: its parameters' places, its locals, its statements (C99 6.9.1).
use Rattle.std.specs.Prelude.{Bool, List, map}
use Rattle.mdr_rich.specs.declared.code.Stmt.{Stmt}
use Rattle.mdr_core.specs.declared.program.Local.{Local}
use Rattle.mdr_syntax.specs.declared.tree.Head.{Head}
use Rattle.mdr_syntax.specs.declared.tree.Node.{Node}
use Rattle.mdr_faults.specs.declared.scope.Scope.{Scope}
use Rattle.mdr_faults.specs.Faults.{Checked, Right, again, both, each, told}
use Rattle.mdr_headings.specs.declared.body.Body.{Body}
use Rattle.mdr_headings.specs.Heads.{head_result}
use Rattle.mdr_operand.specs.Written.{Lines, lines_of}
use Rattle.mdr_body.specs.declared.here.DeclaredLocal.{DeclaredLocal}
use Rattle.mdr_body.specs.declared.here.Frame.{Frame}
use Rattle.mdr_body.specs.declared.here.Here.{Here}
use Rattle.mdr_body.specs.Locals.{struct_locks, parameter_taken, first_here}
use Rattle.mdr_body.specs.Statements.{Rules, Setting, setting_of, no_jumps, lines_made, lines_behind}

abbrev pub local_again : DeclaredLocal → Checked Local
local_again d = again d.means

unfoldable pub declared_locals : List DeclaredLocal → Checked (List Local)
declared_locals ds = each (map local_again ds)

unfoldable pub frame_of : Scope → Head → Frame
frame_of scope h = record { locks = struct_locks scope; result = told (head_result scope h) }

abbrev pub body_of : List Bool → List Local → List Stmt → Checked Body
body_of objects locals ss = Right (record { objects = objects; locals = locals; statements = ss })

abbrev pub body_by : Setting → Here → (objects : List Bool) → Lines → Checked Body
body_by setting here objects ls =
    both (declared_locals (lines_behind setting.scope setting.frame here ls).locals)
    (lines_made setting no_jumps here ls)
    (body_of objects)

-- the outermost block. The scope is that behind the function's name
unfoldable pub body_rule : Rules → Scope → Head → List Node → Checked Body
body_rule rules scope h nodes =
    body_by (setting_of rules scope (frame_of scope h)) (first_here scope (lines_of nodes) h.params)
    (map (parameter_taken (lines_of nodes)) h.params) (lines_of nodes)
