-- believed
-- Names (C99 6.5.1).
use Rattle.std.specs.Prelude.{ℕ, List, ◌∷◌, Option, Some, None}
use Rattle.mdr_rich.specs.declared.code.Expr.TheVariants as expr
use Rattle.mdr_rich.specs.declared.code.Lval.{Lval}
use Rattle.mdr_rich.specs.declared.code.Lval.TheVariants as lval
use Rattle.mdr_core.specs.declared.place.Place.{Place}
use Rattle.mdr_core.specs.declared.types.Ty.{Ty}
use Rattle.mdr_core.specs.declared.value.Value.TheVariants as value
use Rattle.mdr_core.specs.Layout.{chosen}
use Rattle.mdr_faults.specs.declared.fault.FaultKind.TheVariants.{UnknownName}
use Rattle.mdr_faults.specs.declared.scope.Constant.{Constant}
use Rattle.mdr_faults.specs.declared.scope.Entity.{Entity}
use Rattle.mdr_faults.specs.declared.scope.Entity.TheVariants as entity
use Rattle.mdr_faults.specs.declared.scope.Named.{Named}
use Rattle.mdr_faults.specs.declared.scope.Object.{Object}
use Rattle.mdr_faults.specs.declared.scope.Scope.{Scope}
use Rattle.mdr_faults.specs.declared.scope.Signature.{Signature}
use Rattle.mdr_faults.specs.Faults.{Checked, Right, refuse, again, after}
use Rattle.mdr_faults.specs.Scopes.{entity_named}
use Rattle.mdr_operand.specs.declared.operand.Operand.{Operand}
use Rattle.mdr_operand.specs.declared.operand.Operand.TheVariants as operand
use Rattle.mdr_operand.specs.declared.room.LocalName.{LocalName}
use Rattle.mdr_operand.specs.Forms.{number}
use Rattle.mdr_operand.specs.Rooms.{local_named}

-- an object by its lvalue: an array, or a single one
abbrev pub object_operand : Lval → Object → Operand
object_operand l o = chosen o.array (operand.Array l o.ty o.count) (operand.Object l o.ty)

abbrev pub constant_operand : Constant → Operand
constant_operand c = number (expr.Lit (value.Int c.kind c.number)) c.kind

-- a function has the type of its first declaration. Whether it is defined is asked of the whole file (6.9, paragraph 3)
abbrev pub function_operand : Signature → Operand
function_operand f = operand.Function f.number (f.result ∷ f.params)

unfoldable pub entity_operand : Entity → Operand
entity_operand (entity.Constant c) = constant_operand c
entity_operand (entity.Global g o) = object_operand (lval.Global g o.ty) o
entity_operand (entity.Function f) = function_operand f

unfoldable pub file_name : Place → Option Named → Checked Operand
file_name p None = refuse p UnknownName
file_name p (Some entry) = after (again entry.means) (λ e. Right (entity_operand e))

abbrev pub place_of_local : LocalName → Ty → Lval
place_of_local n t = chosen n.is_object (lval.Object n.slot t) (lval.Slot n.slot t)

unfoldable pub local_operand : LocalName → Checked Operand
local_operand n = after (again n.means) (λ o. Right (object_operand (place_of_local n o.ty) o))

abbrev pub local_or : Option LocalName → Checked Operand → Checked Operand
local_or None other = other
local_or (Some n) other = local_operand n

-- a local hides what the file declares (6.2.1, paragraph 4)
unfoldable pub name_rule : Scope → (locals : List LocalName) → Place → List ℕ → Checked Operand
name_rule scope locals p name = local_or (local_named locals name) (file_name p (entity_named scope name))
