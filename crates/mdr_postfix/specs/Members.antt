-- believed
-- Members (C99 6.5.2.3).
use Rattle.std.specs.Prelude.{ℕ, Bool, true, false, List, Option, Some, None, position, slice_get}
use Rattle.std.specs.Str.{bytes_eq}
use Rattle.mdr_rich.specs.declared.code.Lval.TheVariants as lval
use Rattle.mdr_core.specs.declared.place.Place.{Place}
use Rattle.mdr_core.specs.declared.types.Ty.{Ty, out-Ty}
use Rattle.mdr_core.specs.declared.types.Ty.TheOpen.{Ty-F}
use Rattle.mdr_faults.specs.declared.fault.FaultKind.TheVariants.{UnknownName}
use Rattle.mdr_faults.specs.declared.scope.Member.{Member}
use Rattle.mdr_faults.specs.declared.scope.Object.{Object}
use Rattle.mdr_faults.specs.declared.scope.Scope.{Scope}
use Rattle.mdr_faults.specs.declared.scope.StructEntry.{StructEntry}
use Rattle.mdr_faults.specs.Faults.{Checked, Right, refuse, again, after}
use Rattle.mdr_operand.specs.declared.operand.Operand.{Operand}
use Rattle.mdr_operand.specs.declared.operand.Operand.TheVariants as operand
use Rattle.mdr_operand.specs.declared.operand.Pointer.{Pointer}
use Rattle.mdr_operand.specs.Forms.{needed, pointer_at}
use Rattle.mdr_postfix.specs.declared.located.Located.{Located}
use Rattle.mdr_postfix.specs.declared.member.Found.{Found}
use Rattle.mdr_postfix.specs.Names.{object_operand}

-- ---- what has members

abbrev pub object_of : Operand → Option Located
object_of (operand.Value v) = None
object_of (operand.Zero k) = None
object_of operand.Null = None
object_of (operand.Object l t) = Some (record { lval = l; ty = t })
object_of (operand.Array l t n) = None
object_of (operand.Function f ts) = None

-- an operand of the form at place p is a single object
unfoldable pub object_at : Place → Operand → Checked Located
object_at p x = needed p (object_of x)

abbrev pub target : Pointer → Located
target x = record { lval = lval.Deref x.value; ty = x.ty }

-- an operand of the form at place p is a pointer: what it names
unfoldable pub target_located : Place → Operand → Checked Located
target_located p x = after (pointer_at p x) (λ x. Right (target x))

-- the left side of `.` is a struct (paragraph 1), that of `->` a pointer to one (paragraph 2)
unfoldable pub located : Place → (is_arrow : Bool) → Operand → Checked Located
located p true x = target_located p x
located p false x = object_at p x

-- ---- members

abbrev pub struct_by : Ty-F Ty → Option ℕ
struct_by (Ty-F.Int k) = None
struct_by Ty-F.Lock = None
struct_by (Ty-F.Struct s) = Some s
struct_by (Ty-F.Ptr t) = None
struct_by Ty-F.VoidPtr = None
struct_by (Ty-F.Fun ts) = None
struct_by Ty-F.Void = None

-- the struct that a type is
abbrev pub struct_of : Ty → Option ℕ
struct_of t = struct_by (out-Ty t)

abbrev pub member_numbered : (at : Place) → ℕ → Option Member → Checked Found
member_numbered at f None = refuse at UnknownName
member_numbered at f (Some m) = after (again m.means) (λ o. Right (record { number = f; object = o }))

unfoldable pub member_position : List Member → List ℕ → Option ℕ
member_position members name = position (λ m. bytes_eq m.name name) members

abbrev pub member_found : (at : Place) → List Member → Option ℕ → Checked Found
member_found at members None = refuse at UnknownName
member_found at members (Some f) = member_numbered at f (slice_get members f)

unfoldable pub member_among : (at : Place) → List ℕ → StructEntry → Checked Found
member_among at name s = member_found at s.members (member_position s.members name)

-- a struct that isn't complete at the form has no members yet (6.2.5, paragraph 22)
abbrev pub struct_entry : Scope → Option ℕ → Option StructEntry
struct_entry scope None = None
struct_entry scope (Some s) = slice_get scope.structs s

-- a member of the type, at its own place; the form's place is p
unfoldable pub member_named : Scope → (p at : Place) → List ℕ → Ty → Checked Found
member_named scope p at name t = after (needed p (struct_entry scope (struct_of t))) (member_among at name)

abbrev pub member_operand : Located → Found → Operand
member_operand x m = object_operand (lval.Member x.lval m.number m.object.ty) m.object

unfoldable pub member_in : Scope → (p at : Place) → List ℕ → Located → Checked Operand
member_in scope p at name x = after (member_named scope p at name x.ty) (λ m. Right (member_operand x m))

unfoldable pub member_of : Scope → (p at : Place) → (is_arrow : Bool) → List ℕ → Operand → Checked Operand
member_of scope p at is_arrow name x = after (located p is_arrow x) (member_in scope p at name)

unfoldable pub member_rule : Scope → (p at : Place) → (is_arrow : Bool) → List ℕ → Checked Operand → Checked Operand
member_rule scope p at is_arrow name c = after c (member_of scope p at is_arrow name)
