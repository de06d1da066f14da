-- for proofs
-- What is known at a place of a body, as of the slots of the finished function (C99 6.2.1, 6.2.4).
use Rattle.std.specs.Prelude.{◌≡◌, ◌⊎◌, ℕ, ◌+◌, ◌≤◌, ◌||◌, ◌&&◌, not, Bool, false, List, length, Option, Some, None, Ok, slice_get}
use Rattle.mdr_core.specs.declared.place.Place.{Place}
use Rattle.mdr_core.specs.declared.program.Field.{Field}
use Rattle.mdr_core.specs.declared.program.Local.{Local}
use Rattle.mdr_core.specs.declared.program.Program.{Program}
use Rattle.mdr_core.specs.declared.types.Ty.{Ty}
use Rattle.mdr_core.specs.declared.types.Ty.TheVariants as type
use Rattle.mdr_core.specs.Layout.{fields_of}
use Rattle.mdr_core.specs.Sound.{all_cells}
use Rattle.mdr_core.specs.Types.{Scalar, sort_of}
use Rattle.mdr_core.specs.Typing.{Slot, slot_of_local}
use Rattle.mdr_syntax.specs.declared.tree.Decl.{Decl, out-Decl}
use Rattle.mdr_syntax.specs.declared.tree.Head.{Head}
use Rattle.mdr_faults.specs.declared.scope.Member.{Member}
use Rattle.mdr_faults.specs.declared.scope.Object.{Object}
use Rattle.mdr_faults.specs.declared.scope.Scope.{Scope}
use Rattle.mdr_faults.specs.declared.scope.StructEntry.{StructEntry}
use Rattle.mdr_faults.specs.Declarations.{declarator, object_declared}
use Rattle.mdr_faults.specs.Faults.{Right}
use Rattle.mdr_headings.specs.Heads.{head_result}
use Rattle.mdr_operand.specs.declared.room.LocalName.{LocalName}
use Rattle.mdr_operand.specs.Rooms.{local_named}
use Rattle.mdr_operand.specs.Written.{Written, Line}
use Rattle.mdr_body.specs.declared.here.DeclaredLocal.{DeclaredLocal}
use Rattle.mdr_body.specs.declared.here.Here.{Here}
use Rattle.mdr_body.specs.Addresses.{perhaps_takes, takes_at, hides}
use Rattle.mdr_sound.specs.Knowing.{IsFormed, KnowsLocals}

-- ---- declarations

-- a field is what a member of its struct came to
pub record IsOfMember (entry : StructEntry) (f : ℕ) (x : Field) : Type 0 where
  pub member : Member
  pub at : slice_get entry.members f ≡ Some member
  pub object : Object
  pub means : member.means ≡ Ok object
  pub ty : object.ty ≡ x.ty

-- what is declared in a scope keeps to the rules of the program
pub record KnowsDeclarations (program : Program) (scope : Scope) : Type 0 where
  pub formed : (limit : Place) (d : Decl) (o : Object) → object_declared scope limit d ≡ Right o → IsFormed program o.ty
  -- an object has as many cells as are counted
  pub small : (limit : Place) (d : Decl) (o : Object) → object_declared scope limit d ≡ Right o → length (all_cells program o.ty o.count) ≤ 65536
  pub parameters : (d : Decl) (t : Ty) → (declarator scope d).parameter ≡ Right t → sort_of (length program.structs) t ≡ Scalar
  pub results : (h : Head) (t : Ty) → head_result scope h ≡ Right t → (sort_of (length program.structs) t ≡ Scalar) ⊎ (t ≡ type.Void)
  -- a struct that is complete has no other fields than its members
  pub fields : (s f : ℕ) (entry : StructEntry) (x : Field) → slice_get scope.structs s ≡ Some entry → slice_get (fields_of program.structs s) f ≡ Some x → IsOfMember entry f x

-- ---- locals

-- a local's declaration is right, and the local is what the slot is for
pub record IsDeclared (slots : List Slot) (i : ℕ) (d : DeclaredLocal) : Type 0 where
  pub local : Local
  pub means : d.means ≡ Ok local
  pub names : slice_get slots i ≡ Some (slot_of_local local)

-- the locals have the slots from `base` on
pub record AreDeclared (slots : List Slot) (base : ℕ) (ds : List DeclaredLocal) : Type 0 where
  pub each : (i : ℕ) (d : DeclaredLocal) → slice_get ds i ≡ Some d → IsDeclared slots (base + i) d

-- ---- addresses

-- a line in front of what takes the addresses of some names takes those of these (6.2.1, paragraph 4)
abbrev pub in_front : Line → (behind : List ℕ → Bool) → List ℕ → Bool
in_front l behind name = takes_at name l || (not (hides name l) && behind name)

abbrev pub takes_behind : Option (List ℕ) → Option Written → (behind : List ℕ → Bool) → Bool
takes_behind None init behind = false
takes_behind (Some name) init behind = perhaps_takes name init || behind name

-- it is known whether the address of what a line declares is taken
abbrev pub IsTold : (is_taken : Bool) → Line → (behind : List ℕ → Bool) → Type 0
IsTold t (Line.Local p d init) behind = t ≡ takes_behind (out-Decl d).name init behind
IsTold t l behind = Unit {0}

-- ---- a place of a body

-- in front of what takes the addresses of the names that `rest` tells: it takes that of no name that is in a slot
pub record IsHere (program : Program) (slots : List Slot) (base : ℕ) (here : Here) (rest : List ℕ → Bool) : Type 0 where
  pub knows : KnowsLocals program slots here.names
  pub untaken : (name : List ℕ) (n : LocalName) → local_named here.names name ≡ Some n → n.is_object ≡ false → rest name ≡ false
  pub slot : here.slot ≡ base + length here.locals
  pub number : 1 ≤ here.number
