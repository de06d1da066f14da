-- believed
-- The access forms: which cells code reads or writes, as keys.
use Rattle.std.specs.Prelude.{◌≡◌, ◌==◌, ℕ, Bool, false, List, [], ◌∷◌, ◌++◌, Option, Some, None, slice_get}
use Rattle.std.specs.Option.{option_map}
use Rattle.mdr_core.specs.declared.kind.Kind.TheVariants.{U8}
use Rattle.mdr_core.specs.declared.types.Ty.{Ty}
use Rattle.mdr_core.specs.declared.types.Ty.TheVariants as type
use Rattle.mdr_core.specs.declared.program.Program.{Program}
use Rattle.mdr_core.specs.declared.program.Func.{Func}
use Rattle.mdr_core.specs.declared.program.Param.{Param}
use Rattle.mdr_core.specs.declared.plan.Key.{Key}
use Rattle.mdr_core.specs.declared.plan.Key.TheVariants as key
use Rattle.mdr_core.specs.Code.{Term, Lvalue, Called, CallOf, Goal, Code, Codes}
use Rattle.mdr_core.specs.Layout.{chosen, key_at}
use Rattle.mdr_core.specs.Suited.{key_type}
use Rattle.mdr_core.specs.Types.{is_scalar}
use Rattle.mdr_core.specs.Typing.{Slot, slots_of}
use Rattle.mdr_slice.specs.Calls.{body_code}
use Rattle.mdr_slice.specs.Pointed.{slot_type, named_type, pointed_type}
use Rattle.mdr_access.specs.Exposed.{IsExposed, field_key}

pub data Form : Type 0 where
  -- a read or write of cells with the key
  Touch : Key → Form
  -- one through a pointer to scalars of the type
  Follow : Ty → Form
  -- an object of the type, of which all cells are written
  Whole : Ty → Form

-- the key is that of a cell of an element of the type, which stands in a block that is no global
pub record IsCellKey (program : Program) (ty : Ty) (k : Key) : Type 0 where
  pub number : ℕ
  pub names : slice_get program.types number ≡ Some ty
  pub cell : ℕ
  pub is : key_at program None number cell ≡ Some k

-- the key is one of the form's. A pointer to a scalar may point to each element of its type, and to each exposed global or field whose cells have it
abbrev pub FormHas : Program → Form → Key → Type 0
FormHas program (Touch j) k = k ≡ j
FormHas program (Follow ty) k = IsExposed program k × (key_type program k ≡ Some ty)
FormHas program (Whole ty) k = IsCellKey program ty k

-- ---- expressions and lvalues

abbrev pub touches : List Key → List Form
touches [] = []
touches (k ∷ ks) = Touch k ∷ touches ks

abbrev pub wholes : Option Ty → List Form
wholes None = []
wholes (Some ty) = Whole ty ∷ []

abbrev pub follows : Option Ty → List Form
follows None = []
follows (Some ty) = chosen (is_scalar ty) (Follow ty ∷ []) []

-- the cells that an lvalue names: a local in a slot has none, an object's are those of its type, an element's those of its array
abbrev pub named_cells : Program → List Slot → Lvalue → List Form
named_cells program slots (Lvalue.Slot i) = []
named_cells program slots (Lvalue.Object i) = wholes (option_map slot_type (slice_get slots i))
named_cells program slots (Lvalue.Global g) = Touch (key.Global g) ∷ []
named_cells program slots (Lvalue.Deref e) = follows (pointed_type program slots e)
named_cells program slots (Lvalue.Member p f) = touches (field_key (named_type program slots p) f)
named_cells program slots (Lvalue.Index p e) = named_cells program slots p

abbrev mutual
  -- what an expression reads
  pub term_forms : Program → List Slot → Term → List Form
  term_forms program slots (Term.Lit v) = []
  term_forms program slots (Term.Load p) = place_forms program slots p ++ named_cells program slots p
  term_forms program slots (Term.Addr p) = place_forms program slots p
  term_forms program slots (Term.Decay p) = place_forms program slots p
  term_forms program slots (Term.Neg k e) = term_forms program slots e
  term_forms program slots (Term.Flip k e) = term_forms program slots e
  term_forms program slots (Term.Not e) = term_forms program slots e
  term_forms program slots (Term.Bin op k a b) = term_forms program slots a ++ term_forms program slots b
  term_forms program slots (Term.Rel op a b) = term_forms program slots a ++ term_forms program slots b
  term_forms program slots (Term.And a b) = term_forms program slots a ++ term_forms program slots b
  term_forms program slots (Term.Or a b) = term_forms program slots a ++ term_forms program slots b
  term_forms program slots (Term.Conv k e) = term_forms program slots e
  term_forms program slots (Term.ToVoid e) = term_forms program slots e
  term_forms program slots (Term.FromVoid t e) = term_forms program slots e
  term_forms program slots (Term.Move back p i) = term_forms program slots p ++ term_forms program slots i
  term_forms program slots (Term.Diff p q) = term_forms program slots p ++ term_forms program slots q

  -- what is read to find the place that an lvalue names
  pub place_forms : Program → List Slot → Lvalue → List Form
  place_forms program slots (Lvalue.Slot i) = []
  place_forms program slots (Lvalue.Object i) = []
  place_forms program slots (Lvalue.Global g) = []
  place_forms program slots (Lvalue.Deref e) = term_forms program slots e
  place_forms program slots (Lvalue.Member p f) = place_forms program slots p
  place_forms program slots (Lvalue.Index p e) = place_forms program slots p ++ term_forms program slots e

abbrev pub all_term_forms : Program → List Slot → List Term → List Form
all_term_forms program slots [] = []
all_term_forms program slots (e ∷ es) = term_forms program slots e ++ all_term_forms program slots es

-- ---- statements

-- a write to what an lvalue names
abbrev pub stored_forms : Program → List Slot → Lvalue → List Form
stored_forms program slots p = place_forms program slots p ++ named_cells program slots p

-- `deliver`, service 9, reads bytes through a pointer
abbrev pub called_forms : Program → List Slot → Called → List Form
called_forms program slots (Called.Direct f) = []
called_forms program slots (Called.Through e) = term_forms program slots e
called_forms program slots (Called.Service n) = chosen (n == 9) (Follow (type.Int U8) ∷ []) []

abbrev pub call_forms : Program → List Slot → CallOf → List Form
call_forms program slots call = called_forms program slots call.callee ++ all_term_forms program slots call.args

abbrev pub goal_forms : Program → List Slot → Goal → List Form
goal_forms program slots Goal.Nowhere = []
goal_forms program slots (Goal.Into p) = stored_forms program slots p
goal_forms program slots Goal.Back = []

abbrev pub option_forms : Program → List Slot → Option Term → List Form
option_forms program slots None = []
option_forms program slots (Some e) = term_forms program slots e

-- a local that is an object is born with all its cells
abbrev pub is_object : Option Slot → Bool
is_object None = false
is_object (Some s) = s.object

abbrev pub declared_forms : List Slot → ℕ → List Form
declared_forms slots i = chosen (is_object (slice_get slots i)) (wholes (option_map slot_type (slice_get slots i))) []

abbrev mutual
  pub code_forms : Program → List Slot → Code → List Form
  code_forms program slots (Code.Declare n i) = declared_forms slots i
  code_forms program slots (Code.Text n i bytes) = wholes (option_map slot_type (slice_get slots i))
  code_forms program slots (Code.Assign n p e) = stored_forms program slots p ++ term_forms program slots e
  code_forms program slots (Code.Call n goal call) = goal_forms program slots goal ++ call_forms program slots call
  code_forms program slots (Code.If n e one other) = term_forms program slots e ++ (all_code_forms program slots one ++ all_code_forms program slots other)
  code_forms program slots (Code.Loop n e step body) = term_forms program slots e ++ (all_code_forms program slots step ++ all_code_forms program slots body)
  code_forms program slots (Code.Block body) = all_code_forms program slots body
  code_forms program slots (Code.Return n e) = option_forms program slots e
  code_forms program slots (Code.Jump n way) = []

  pub all_code_forms : Program → List Slot → Codes → List Form
  all_code_forms program slots Codes.End = []
  all_code_forms program slots (Codes.Then c cs) = code_forms program slots c ++ all_code_forms program slots cs

-- ---- functions

-- a parameter that is an object is born as a local is
abbrev pub param_forms : List Param → List Form
param_forms [] = []
param_forms (p ∷ ps) = chosen p.object (Whole p.ty ∷ []) [] ++ param_forms ps

-- the access forms of a function
abbrev pub func_forms : Program → Func → List Form
func_forms program func = param_forms func.params ++ all_code_forms program (slots_of func) (body_code func.body)
