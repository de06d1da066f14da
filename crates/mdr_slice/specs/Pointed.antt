-- believed
-- The types of what lvalues name and of what pointers point to.
use Rattle.std.specs.Prelude.{ℕ, List, Option, Some, None, slice_get}
use Rattle.std.specs.Option.{option_map}
use Rattle.mdr_core.specs.declared.types.Ty.{Ty, out-Ty}
use Rattle.mdr_core.specs.declared.types.Ty.TheOpen.{Ty-F}
use Rattle.mdr_core.specs.declared.program.Program.{Program}
use Rattle.mdr_core.specs.declared.value.Value.{Value}
use Rattle.mdr_core.specs.declared.value.Value.TheVariants as value
use Rattle.mdr_core.specs.Code.{Term, Lvalue}
use Rattle.mdr_core.specs.Layout.{fields_of, struct_of}
use Rattle.mdr_core.specs.Suited.{global_type, field_type}
use Rattle.mdr_core.specs.Typing.{Slot, function_type}

abbrev pub slot_type : Slot → Ty
slot_type s = s.ty

-- what a pointer of the type points to
abbrev pub target_by : Ty-F Ty → Option Ty
target_by (Ty-F.Int k) = None
target_by Ty-F.Lock = None
target_by (Ty-F.Struct s) = None
target_by (Ty-F.Ptr t) = Some t
target_by Ty-F.VoidPtr = None
target_by (Ty-F.Fun ts) = None
target_by Ty-F.Void = None

abbrev pub target_of : Option Ty → Option Ty
target_of None = None
target_of (Some ty) = target_by (out-Ty ty)

abbrev pub field_of : Program → Option ℕ → ℕ → Option Ty
field_of program None f = None
field_of program (Some s) f = option_map field_type (slice_get (fields_of program.structs s) f)

-- the type of a struct's field
abbrev pub member_type : Program → Option Ty → ℕ → Option Ty
member_type program None f = None
member_type program (Some ty) f = field_of program (struct_of ty) f

abbrev mutual
  -- the type of what an lvalue names, of each element where it is an array (C99 6.5.1 to 6.5.3)
  pub named_type : Program → List Slot → Lvalue → Option Ty
  named_type program slots (Lvalue.Slot i) = option_map slot_type (slice_get slots i)
  named_type program slots (Lvalue.Object i) = option_map slot_type (slice_get slots i)
  named_type program slots (Lvalue.Global g) = option_map global_type (slice_get program.globals g)
  named_type program slots (Lvalue.Deref e) = pointed_type program slots e
  named_type program slots (Lvalue.Member p f) = member_type program (named_type program slots p) f
  named_type program slots (Lvalue.Index p e) = named_type program slots p

  -- the type of what a pointer to an object points to (6.3.2.1, 6.5.3.2, 6.5.6). A null constant has no such type of its own
  pub pointed_type : Program → List Slot → Term → Option Ty
  pointed_type program slots (Term.Load p) = target_of (named_type program slots p)
  pointed_type program slots (Term.Addr p) = named_type program slots p
  pointed_type program slots (Term.Decay p) = named_type program slots p
  pointed_type program slots (Term.FromVoid t e) = Some t
  pointed_type program slots (Term.Move back p i) = pointed_type program slots p
  pointed_type program slots (Term.Lit v) = None
  pointed_type program slots (Term.Neg k e) = None
  pointed_type program slots (Term.Flip k e) = None
  pointed_type program slots (Term.Not e) = None
  pointed_type program slots (Term.Bin op k a b) = None
  pointed_type program slots (Term.Rel op a b) = None
  pointed_type program slots (Term.And a b) = None
  pointed_type program slots (Term.Or a b) = None
  pointed_type program slots (Term.Conv k e) = None
  pointed_type program slots (Term.ToVoid e) = None
  pointed_type program slots (Term.Diff p q) = None

-- the type of a function's address (6.3.2.1, paragraph 4). A null constant points to no function
abbrev pub value_type : Program → Value → Option Ty
value_type program (value.Fn f) = option_map function_type (slice_get program.funcs f)
value_type program (value.Int k n) = None
value_type program value.Null = None
value_type program (value.Ptr v) = None
value_type program value.Dead = None
value_type program (value.Lock s) = None
value_type program value.NoValue = None

-- the type of a pointer to a function: a function's address, or what an object holds
abbrev pub called_type : Program → List Slot → Term → Option Ty
called_type program slots (Term.Lit v) = value_type program v
called_type program slots (Term.Load p) = named_type program slots p
called_type program slots _ = None
