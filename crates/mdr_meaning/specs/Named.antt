-- believed
-- The type of what an lvalue names, of each element where it is an array, and of what a pointer points to (C99 6.3.2.1, 6.5.1 to 6.5.6).
use Rattle.std.specs.Prelude.{ℕ, List, Option, Some, None, slice_get}
use Rattle.std.specs.Option.{option_map}
use Rattle.mdr_core.specs.declared.types.Ty.{Ty, out-Ty}
use Rattle.mdr_core.specs.declared.types.Ty.TheOpen.{Ty-F}
use Rattle.mdr_core.specs.declared.program.Program.{Program}
use Rattle.mdr_core.specs.declared.program.Field.{Field}
use Rattle.mdr_core.specs.declared.program.GlobalDef.{GlobalDef}
use Rattle.mdr_core.specs.Code.{Term, Lvalue}
use Rattle.mdr_core.specs.Layout.{fields_of, struct_of}
use Rattle.mdr_core.specs.Typing.{Slot}

abbrev pub slot_type : Slot → Ty
slot_type s = s.ty

abbrev pub global_type : GlobalDef → Ty
global_type def = def.ty

abbrev pub field_type : Field → Ty
field_type x = x.ty

abbrev pub target_by : Ty-F Ty → Option Ty
target_by (Ty-F.Ptr t) = Some t
target_by _ = None

abbrev pub target_of : Option Ty → Option Ty
target_of None = None
target_of (Some ty) = target_by (out-Ty ty)

abbrev pub field_of : Program → Option ℕ → (f : ℕ) → Option Ty
field_of program None f = None
field_of program (Some s) f = option_map field_type (slice_get (fields_of program.structs s) f)

abbrev pub member_type : Program → Option Ty → (f : ℕ) → Option Ty
member_type program None f = None
member_type program (Some ty) f = field_of program (struct_of ty) f

abbrev mutual
  pub named_type : Program → List Slot → Lvalue → Option Ty
  named_type program slots (Lvalue.Slot i) = option_map slot_type (slice_get slots i)
  named_type program slots (Lvalue.Object i) = option_map slot_type (slice_get slots i)
  named_type program slots (Lvalue.Global g) = option_map global_type (slice_get program.globals g)
  named_type program slots (Lvalue.Deref e) = pointed_type program slots e
  named_type program slots (Lvalue.Member p f) = member_type program (named_type program slots p) f
  named_type program slots (Lvalue.Index p e) = named_type program slots p

  -- a null constant points to nothing
  pub pointed_type : Program → List Slot → Term → Option Ty
  pointed_type program slots (Term.Load p) = target_of (named_type program slots p)
  pointed_type program slots (Term.Addr p) = named_type program slots p
  pointed_type program slots (Term.Decay p) = named_type program slots p
  pointed_type program slots (Term.FromVoid t e) = Some t
  pointed_type program slots (Term.Move back p i) = pointed_type program slots p
  pointed_type program slots _ = None
