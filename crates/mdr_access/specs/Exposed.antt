-- believed
-- The fields whose addresses are taken.
use Rattle.std.specs.Prelude.{◌≡◌, ℕ, slice_get, List, [], ◌∷◌, ◌++◌, Option, Some, None}
use Rattle.mdr_core.specs.declared.types.Ty.{Ty}
use Rattle.mdr_core.specs.declared.program.Program.{Program}
use Rattle.mdr_core.specs.declared.program.Func.{Func}
use Rattle.mdr_core.specs.declared.plan.Key.{Key}
use Rattle.mdr_core.specs.declared.plan.Key.TheVariants as key
use Rattle.mdr_core.specs.Code.{Term, Lvalue, Called, CallOf, Goal, Code, Codes}
use Rattle.mdr_core.specs.Layout.{struct_of}
use Rattle.mdr_core.specs.Typing.{Slot, slots_of}
use Rattle.mdr_slice.specs.Calls.{body_code}
use Rattle.mdr_slice.specs.Pointed.{named_type}

-- the list has the item
pub record IsOneOf {A : Type 0} (xs : List A) (x : A) : Type 0 where
  pub at : ℕ
  pub is : slice_get xs at ≡ Some x

-- the key of a field of what has this type
abbrev pub field_by : Option ℕ → ℕ → List Key
field_by None f = []
field_by (Some s) f = key.Field s f ∷ []

abbrev pub field_key : Option Ty → ℕ → List Key
field_key None f = []
field_key (Some ty) f = field_by (struct_of ty) f

-- the field that an lvalue names, itself or an element of it
abbrev pub named_field : Program → List Slot → Lvalue → List Key
named_field program slots (Lvalue.Slot i) = []
named_field program slots (Lvalue.Object i) = []
named_field program slots (Lvalue.Global g) = []
named_field program slots (Lvalue.Deref e) = []
named_field program slots (Lvalue.Member p f) = field_key (named_type program slots p) f
named_field program slots (Lvalue.Index p e) = named_field program slots p

-- ---- fields to which `&` is applied, or to one of whose elements, or whose array decays (C99 6.5.3.2, 6.3.2.1). A direct subscript is a form of its own, in which nothing decays

abbrev mutual
  pub term_fields : Program → List Slot → Term → List Key
  term_fields program slots (Term.Lit v) = []
  term_fields program slots (Term.Load p) = lvalue_fields program slots p
  term_fields program slots (Term.Addr p) = named_field program slots p ++ lvalue_fields program slots p
  term_fields program slots (Term.Decay p) = named_field program slots p ++ lvalue_fields program slots p
  term_fields program slots (Term.Neg k e) = term_fields program slots e
  term_fields program slots (Term.Flip k e) = term_fields program slots e
  term_fields program slots (Term.Not e) = term_fields program slots e
  term_fields program slots (Term.Bin op k a b) = term_fields program slots a ++ term_fields program slots b
  term_fields program slots (Term.Rel op a b) = term_fields program slots a ++ term_fields program slots b
  term_fields program slots (Term.And a b) = term_fields program slots a ++ term_fields program slots b
  term_fields program slots (Term.Or a b) = term_fields program slots a ++ term_fields program slots b
  term_fields program slots (Term.Conv k e) = term_fields program slots e
  term_fields program slots (Term.ToVoid e) = term_fields program slots e
  term_fields program slots (Term.FromVoid t e) = term_fields program slots e
  term_fields program slots (Term.Move back p i) = term_fields program slots p ++ term_fields program slots i
  term_fields program slots (Term.Diff p q) = term_fields program slots p ++ term_fields program slots q

  pub lvalue_fields : Program → List Slot → Lvalue → List Key
  lvalue_fields program slots (Lvalue.Slot i) = []
  lvalue_fields program slots (Lvalue.Object i) = []
  lvalue_fields program slots (Lvalue.Global g) = []
  lvalue_fields program slots (Lvalue.Deref e) = term_fields program slots e
  lvalue_fields program slots (Lvalue.Member p f) = lvalue_fields program slots p
  lvalue_fields program slots (Lvalue.Index p e) = lvalue_fields program slots p ++ term_fields program slots e

abbrev pub all_term_fields : Program → List Slot → List Term → List Key
all_term_fields program slots [] = []
all_term_fields program slots (e ∷ es) = term_fields program slots e ++ all_term_fields program slots es

abbrev pub called_fields : Program → List Slot → Called → List Key
called_fields program slots (Called.Direct f) = []
called_fields program slots (Called.Through e) = term_fields program slots e
called_fields program slots (Called.Service n) = []

abbrev pub call_fields : Program → List Slot → CallOf → List Key
call_fields program slots call = called_fields program slots call.callee ++ all_term_fields program slots call.args

abbrev pub goal_fields : Program → List Slot → Goal → List Key
goal_fields program slots Goal.Nowhere = []
goal_fields program slots (Goal.Into p) = lvalue_fields program slots p
goal_fields program slots Goal.Back = []

abbrev pub option_fields : Program → List Slot → Option Term → List Key
option_fields program slots None = []
option_fields program slots (Some e) = term_fields program slots e

abbrev mutual
  pub code_fields : Program → List Slot → Code → List Key
  code_fields program slots (Code.Declare n i) = []
  code_fields program slots (Code.Text n i bytes) = []
  code_fields program slots (Code.Assign n p e) = lvalue_fields program slots p ++ term_fields program slots e
  code_fields program slots (Code.Call n goal call) = goal_fields program slots goal ++ call_fields program slots call
  code_fields program slots (Code.If n e one other) = term_fields program slots e ++ (all_code_fields program slots one ++ all_code_fields program slots other)
  code_fields program slots (Code.Loop n e step body) = term_fields program slots e ++ (all_code_fields program slots step ++ all_code_fields program slots body)
  code_fields program slots (Code.Block body) = all_code_fields program slots body
  code_fields program slots (Code.Return n e) = option_fields program slots e
  code_fields program slots (Code.Jump n way) = []

  pub all_code_fields : Program → List Slot → Codes → List Key
  all_code_fields program slots Codes.End = []
  all_code_fields program slots (Codes.Then c cs) = code_fields program slots c ++ all_code_fields program slots cs

unfoldable pub funcs_fields : Program → List Func → List Key
funcs_fields program [] = []
funcs_fields program (func ∷ funcs) = all_code_fields program (slots_of func) (body_code func.body) ++ funcs_fields program funcs

-- the exposed fields of a program
abbrev pub exposed_fields : Program → List Key
exposed_fields program = funcs_fields program program.funcs

-- an exposed key: a script may pass the address of each global, and an element's is what a pointer names
abbrev pub IsExposed : Program → Key → Type 0
IsExposed program (key.Global g) = Unit {0}
IsExposed program (key.Field s f) = IsOneOf (exposed_fields program) (key.Field s f)
IsExposed program (key.Elem ty) = Unit {0}
