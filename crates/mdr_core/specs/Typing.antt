-- believed
-- The types of expressions, of lvalues and of statements (C99 6.5, 6.8). What converts does so by a form of its own.
use Rattle.std.specs.Prelude.{◌≡◌, ℕ, ◌≤◌, Bool, true, false, List, [], ◌∷◌, ◌++◌, length, map, Option, Some, None, slice_get, IsTrue, ◌⊎◌}
use Rattle.mdr_core.specs.declared.kind.Kind.{Kind}
use Rattle.mdr_core.specs.declared.kind.Kind.TheVariants.{U8, S8, S32, S64}
use Rattle.mdr_core.specs.declared.types.Ty.{Ty}
use Rattle.mdr_core.specs.declared.types.Ty.TheVariants as type
use Rattle.mdr_core.specs.declared.program.Program.{Program}
use Rattle.mdr_core.specs.declared.program.Field.{Field}
use Rattle.mdr_core.specs.declared.program.Func.{Func}
use Rattle.mdr_core.specs.declared.program.GlobalDef.{GlobalDef}
use Rattle.mdr_core.specs.declared.program.Param.{Param}
use Rattle.mdr_core.specs.declared.program.Local.{Local}
use Rattle.mdr_core.specs.declared.value.Value.{Value}
use Rattle.mdr_core.specs.declared.value.Value.TheVariants as value
use Rattle.mdr_core.specs.declared.code.BinOp.{BinOp}
use Rattle.mdr_core.specs.declared.code.BinOp.TheVariants.{Add, Sub, Mul, Div, Rem, Shl, Shr, BitAnd, BitOr, BitXor}
use Rattle.mdr_core.specs.declared.code.RelOp.{RelOp}
use Rattle.mdr_core.specs.declared.code.RelOp.TheVariants.{Eq, Ne, Lt, Le, Gt, Ge}
use Rattle.mdr_core.specs.Code.{Term, Lvalue, Called, CallOf, Goal, Way, Code, Codes}
use Rattle.mdr_core.specs.Kinds.{is_in_range}
use Rattle.mdr_core.specs.Layout.{chosen, fields_of}
use Rattle.mdr_core.specs.Services.{Service, RequestIrq, Signature, offered, service_numbered}
use Rattle.mdr_core.specs.Types.{Scalar, Becomes, HasNumber, is_scalar, is_pointer, is_object_pointer, sort_of}

abbrev pub int : Kind → Ty
int k = type.Int k

abbrev pub ptr : Ty → Ty
ptr t = type.Ptr t

abbrev pub struct_type : ℕ → Ty
struct_type s = type.Struct s

abbrev pub void_ptr : Ty
void_ptr = type.VoidPtr

-- ---- what is declared

-- what an lvalue designates: an object of a type, or an array of so many elements
pub data Extent : Type 0 where
  One : Ty → Extent
  Many : Ty → ℕ → Extent

abbrev pub extent : (array : Bool) → Ty → ℕ → Extent
extent array ty count = chosen array (Many ty count) (One ty)

-- a parameter or a local, by its slot: parameters first, then locals
pub record Slot : Type 0 where
  pub ty : Ty
  pub count : ℕ
  pub array : Bool
  pub object : Bool
  pub is_local : Bool

abbrev pub slot_of_param : Param → Slot
slot_of_param p = record { ty = p.ty; count = 1; array = false; object = p.object; is_local = false }

abbrev pub slot_of_local : Local → Slot
slot_of_local l = record { ty = l.ty; count = l.count; array = l.array; object = l.object; is_local = true }

abbrev pub slots_of : Func → List Slot
slots_of func = map slot_of_param func.params ++ map slot_of_local func.locals

-- the type of a function's address (6.3.2.1, paragraph 4)
abbrev pub function_type : Func → Ty
function_type func = type.Fun (func.result ∷ map (λ (p : Param). p.ty) func.params)

-- ---- the rule of each form, over those of its parts

-- a constant in code (6.4.4, 6.3.2.3, 6.3.2.1)
abbrev pub Literal : Program → Value → Ty → Type 0
Literal program (value.Int k n) t = (t ≡ type.Int k) × IsTrue (is_in_range k n)
Literal program value.Null t = IsTrue (is_pointer t)
Literal program (value.Ptr v) t = ⊥
Literal program value.Dead t = ⊥
Literal program (value.Fn f) t = (func : Func) × (slice_get program.funcs f ≡ Some func) × (t ≡ function_type func)
Literal program (value.Lock s) t = ⊥
Literal program value.NoValue t = ⊥

-- a slot that is an object or not (6.5.1)
pub record IsSlot (slots : List Slot) (i : ℕ) (object : Bool) (x : Extent) : Type 0 where
  pub slot : Slot
  pub names : slice_get slots i ≡ Some slot
  pub kept : slot.object ≡ object
  pub is : x ≡ extent slot.array slot.ty slot.count

pub record IsGlobal (program : Program) (g : ℕ) (x : Extent) : Type 0 where
  pub def : GlobalDef
  pub names : slice_get program.globals g ≡ Some def
  pub is : x ≡ extent def.array def.ty def.count

-- what a pointer names (6.5.3.2, paragraph 4)
pub record IsTarget (e : Ty → Type 0) (x : Extent) : Type 0 where
  pub type : Ty
  pub pointer : e (ptr type)
  pub is : x ≡ One type

-- a member of a struct (6.5.2.3)
pub record IsMember (program : Program) (p : Extent → Type 0) (f : ℕ) (x : Extent) : Type 0 where
  pub struct : ℕ
  pub whole : p (One (struct_type struct))
  pub field : Field
  pub names : slice_get (fields_of program.structs struct) f ≡ Some field
  pub is : x ≡ extent field.array field.ty field.count

-- an element of an array (6.5.2.1)
pub record IsElement (p : Extent → Type 0) (e : Ty → Type 0) (x : Extent) : Type 0 where
  pub type : Ty
  pub count : ℕ
  pub kind : Kind
  pub array : p (Many type count)
  pub index : e (int kind)
  pub is : x ≡ One type

-- the value of an object (6.3.2.1, paragraph 2)
pub record IsLoad (p : Extent → Type 0) (t : Ty) : Type 0 where
  pub object : p (One t)
  pub scalar : IsTrue (is_scalar t)

-- a parameter or local in a slot has no address
abbrev pub HasAddress : Lvalue → Type 0
HasAddress (Lvalue.Slot i) = ⊥
HasAddress (Lvalue.Object i) = Unit {0}
HasAddress (Lvalue.Global g) = Unit {0}
HasAddress (Lvalue.Deref e) = Unit {0}
HasAddress (Lvalue.Member p f) = HasAddress p
HasAddress (Lvalue.Index p e) = HasAddress p

-- the address of an object (6.5.3.2, paragraph 3)
pub record IsAddress (lvalue : Lvalue) (p : Extent → Type 0) (t : Ty) : Type 0 where
  pub type : Ty
  pub object : p (One type)
  pub kept : HasAddress lvalue
  pub is : t ≡ ptr type

-- an array as a pointer to its first element (6.3.2.1, paragraph 3)
pub record IsDecay (p : Extent → Type 0) (t : Ty) : Type 0 where
  pub type : Ty
  pub count : ℕ
  pub array : p (Many type count)
  pub is : t ≡ ptr type

-- an operation on one integer of the kind (6.5.3.3)
pub record IsUnary (k : Kind) (e : Ty → Type 0) (t : Ty) : Type 0 where
  pub operand : e (int k)
  pub is : t ≡ int k

-- what is compared with 0 (6.5.3.3, paragraph 5; 6.5.13; 6.8.4.1)
pub record IsCondition (e : Ty → Type 0) : Type 0 where
  pub type : Ty
  pub operand : e type
  pub scalar : IsTrue (is_scalar type)

pub record IsNegation (e : Ty → Type 0) (t : Ty) : Type 0 where
  pub operand : IsCondition e
  pub is : t ≡ int S32

-- the right operand of an operator at a kind: the count of a shift has a kind of its own (6.5.7, paragraph 3)
abbrev pub RightOperand : BinOp → Kind → (Ty → Type 0) → Type 0
RightOperand Shl k b = (l : Kind) × b (int l)
RightOperand Shr k b = (l : Kind) × b (int l)
RightOperand Add k b = b (int k)
RightOperand Sub k b = b (int k)
RightOperand Mul k b = b (int k)
RightOperand Div k b = b (int k)
RightOperand Rem k b = b (int k)
RightOperand BitAnd k b = b (int k)
RightOperand BitOr k b = b (int k)
RightOperand BitXor k b = b (int k)

-- 6.5.5 to 6.5.7, 6.5.10 to 6.5.12
pub record IsBinary (op : BinOp) (k : Kind) (a b : Ty → Type 0) (t : Ty) : Type 0 where
  pub left : a (int k)
  pub right : RightOperand op k b
  pub is : t ≡ int k

-- what two pointers of one type may be compared by: all by equality, those to objects by order (6.5.8, 6.5.9)
abbrev pub Compares : RelOp → Ty → Type 0
Compares Eq t = IsTrue (is_pointer t)
Compares Ne t = IsTrue (is_pointer t)
Compares Lt t = IsTrue (is_object_pointer t)
Compares Le t = IsTrue (is_object_pointer t)
Compares Gt t = IsTrue (is_object_pointer t)
Compares Ge t = IsTrue (is_object_pointer t)

pub record IsRelation (op : RelOp) (a b : Ty → Type 0) (t : Ty) : Type 0 where
  pub type : Ty
  pub left : a type
  pub right : b type
  pub compares : ((k : Kind) × (type ≡ int k)) ⊎ Compares op type
  pub is : t ≡ int S32

-- 6.5.13, 6.5.14
pub record IsLogical (a b : Ty → Type 0) (t : Ty) : Type 0 where
  pub left : IsCondition a
  pub right : IsCondition b
  pub is : t ≡ int S32

-- an integer converted (6.3.1.3)
pub record IsConversion (k : Kind) (e : Ty → Type 0) (t : Ty) : Type 0 where
  pub from : Kind
  pub operand : e (int from)
  pub is : t ≡ int k

-- a pointer converted to `void *` (6.3.2.3, paragraph 1)
pub record IsToVoid (e : Ty → Type 0) (t : Ty) : Type 0 where
  pub type : Ty
  pub pointer : e (ptr type)
  pub is : t ≡ void_ptr

-- and back
pub record IsFromVoid (structs : ℕ) (type : Ty) (e : Ty → Type 0) (t : Ty) : Type 0 where
  pub pointer : e void_ptr
  pub formed : sort_of structs (ptr type) ≡ Scalar
  pub is : t ≡ ptr type

-- a pointer and an integer (6.5.6, paragraph 8)
pub record IsMove (p i : Ty → Type 0) (t : Ty) : Type 0 where
  pub type : Ty
  pub kind : Kind
  pub pointer : p (ptr type)
  pub steps : i (int kind)
  pub is : t ≡ ptr type

-- the difference of two pointers (6.5.6, paragraph 9)
pub record IsDifference (p q : Ty → Type 0) (t : Ty) : Type 0 where
  pub type : Ty
  pub left : p (ptr type)
  pub right : q (ptr type)
  pub is : t ≡ int S64

-- ---- expressions and lvalues of a function with these slots

abbrev mutual
  -- the expression has the type
  pub Has : Program → List Slot → Term → Ty → Type 0
  Has program slots (Term.Lit v) t = Literal program v t
  Has program slots (Term.Load p) t = IsLoad (Designates program slots p) t
  Has program slots (Term.Addr p) t = IsAddress p (Designates program slots p) t
  Has program slots (Term.Decay p) t = IsDecay (Designates program slots p) t
  Has program slots (Term.Neg k e) t = IsUnary k (Has program slots e) t
  Has program slots (Term.Flip k e) t = IsUnary k (Has program slots e) t
  Has program slots (Term.Not e) t = IsNegation (Has program slots e) t
  Has program slots (Term.Bin op k a b) t = IsBinary op k (Has program slots a) (Has program slots b) t
  Has program slots (Term.Rel op a b) t = IsRelation op (Has program slots a) (Has program slots b) t
  Has program slots (Term.And a b) t = IsLogical (Has program slots a) (Has program slots b) t
  Has program slots (Term.Or a b) t = IsLogical (Has program slots a) (Has program slots b) t
  Has program slots (Term.Conv k e) t = IsConversion k (Has program slots e) t
  Has program slots (Term.ToVoid e) t = IsToVoid (Has program slots e) t
  Has program slots (Term.FromVoid u e) t = IsFromVoid (length program.structs) u (Has program slots e) t
  Has program slots (Term.Move back p i) t = IsMove (Has program slots p) (Has program slots i) t
  Has program slots (Term.Diff p q) t = IsDifference (Has program slots p) (Has program slots q) t

  -- the lvalue designates such an object or array
  pub Designates : Program → List Slot → Lvalue → Extent → Type 0
  Designates program slots (Lvalue.Slot i) x = IsSlot slots i false x
  Designates program slots (Lvalue.Object i) x = IsSlot slots i true x
  Designates program slots (Lvalue.Global g) x = IsGlobal program g x
  Designates program slots (Lvalue.Deref e) x = IsTarget (Has program slots e) x
  Designates program slots (Lvalue.Member p f) x = IsMember program (Designates program slots p) f x
  Designates program slots (Lvalue.Index p e) x = IsElement (Designates program slots p) (Has program slots e) x

-- ---- calls

-- the arguments have the parameters' types, and are as many (6.5.2.2, paragraph 2)
abbrev pub HaveAll : Program → List Slot → List Term → List Ty → Type 0
HaveAll program slots [] [] = Unit {0}
HaveAll program slots [] (t ∷ ts) = ⊥
HaveAll program slots (e ∷ es) [] = ⊥
HaveAll program slots (e ∷ es) (t ∷ ts) = Has program slots e t × HaveAll program slots es ts

-- a call of a function, which names no type and has no text
pub record CallsFunction (program : Program) (slots : List Slot) (call : CallOf) (params : List Ty) : Type 0 where
  pub no_type : call.shape ≡ None
  pub no_text : call.format ≡ None
  pub args : HaveAll program slots call.args params

pub record CallsDirectly (program : Program) (slots : List Slot) (call : CallOf) (f : ℕ) (result : Ty) : Type 0 where
  pub func : Func
  pub names : slice_get program.funcs f ≡ Some func
  pub call_is : CallsFunction program slots call (map (λ (p : Param). p.ty) func.params)
  pub is : result ≡ func.result

pub record CallsThrough (program : Program) (slots : List Slot) (call : CallOf) (e : Term) (result : Ty) : Type 0 where
  pub params : List Ty
  pub pointer : Has program slots e (type.Fun (result ∷ params))
  pub call_is : CallsFunction program slots call params

-- `request_irq` takes the name of a function, and no other value
abbrev pub NamesHandler : Service → List Term → Type 0
NamesHandler RequestIrq args = (f : ℕ) × (args ≡ Term.Lit (value.Fn f) ∷ [])
NamesHandler s args = Unit {0}

-- the type that an allocation names has objects (6.2.5, paragraph 1), and stands in the type table
pub record IsAllocated (program : Program) (t : Ty) : Type 0 where
  pub formed : sort_of (length program.structs) (ptr t) ≡ Scalar
  pub in_table : HasNumber program t

abbrev pub NamesObject : Program → Option Ty → Type 0
NamesObject program None = Unit {0}
NamesObject program (Some t) = IsAllocated program t

pub record CallsService (program : Program) (slots : List Slot) (call : CallOf) (n : ℕ) (result : Ty) : Type 0 where
  pub service : Service
  pub names : service_numbered n ≡ Some service
  pub signature : Signature
  pub offers : offered service call.shape call.format ≡ Some signature
  pub args : HaveAll program slots call.args signature.params
  pub handler : NamesHandler service call.args
  pub object : NamesObject program call.shape
  pub is : result ≡ signature.result

-- service 15 calls back: the function that its first argument points to, with the second
pub record CallsBack (program : Program) (slots : List Slot) (call : CallOf) (n : ℕ) (result : Ty) : Type 0 where
  pub back : n ≡ 15
  pub no_type : call.shape ≡ None
  pub no_text : call.format ≡ None
  pub param : Ty
  pub args : HaveAll program slots call.args (type.Fun (result ∷ param ∷ []) ∷ param ∷ [])

-- a call gives a value of this type, or `void`
abbrev pub gives_by : Called → Program → List Slot → CallOf → Ty → Type 0
gives_by (Called.Direct f) program slots call result = CallsDirectly program slots call f result
gives_by (Called.Through e) program slots call result = CallsThrough program slots call e result
gives_by (Called.Service n) program slots call result = CallsService program slots call n result ⊎ CallsBack program slots call n result

abbrev pub CallGives : Program → List Slot → CallOf → Ty → Type 0
CallGives program slots call result = gives_by call.callee program slots call result

-- ---- statements

-- a local, by its slot
pub record IsLocal (slots : List Slot) (i : ℕ) : Type 0 where
  pub slot : Slot
  pub names : slice_get slots i ≡ Some slot
  pub local : slot.is_local ≡ true

-- a text fits an array of characters, its closing zero aside (6.7.8, paragraph 14)
pub record TakesText (slots : List Slot) (i : ℕ) (text : List ℕ) : Type 0 where
  pub slot : Slot
  pub names : slice_get slots i ≡ Some slot
  pub local : slot.is_local ≡ true
  pub array : slot.array ≡ true
  pub characters : (slot.ty ≡ int U8) ⊎ (slot.ty ≡ int S8)
  pub fits : length text ≤ slot.count

-- 6.5.16.1
pub record IsAssignment (program : Program) (slots : List Slot) (p : Lvalue) (e : Term) : Type 0 where
  pub type : Ty
  pub scalar : IsTrue (is_scalar type)
  pub object : Designates program slots p (One type)
  pub value : Has program slots e type

-- a call's value is stored: it converts as by assignment (6.5.16.1)
pub record IsStored (program : Program) (slots : List Slot) (p : Lvalue) (call : CallOf) : Type 0 where
  pub type : Ty
  pub given : Ty
  pub scalar : IsTrue (is_scalar type)
  pub object : Designates program slots p (One type)
  pub call_gives : CallGives program slots call given
  pub becomes : Becomes given type

-- a call's value is returned (6.8.6.4)
pub record IsHandedBack (program : Program) (slots : List Slot) (result : Ty) (call : CallOf) : Type 0 where
  pub given : Ty
  pub scalar : IsTrue (is_scalar result)
  pub call_gives : CallGives program slots call given
  pub becomes : Becomes given result

abbrev pub GoesTo : Program → List Slot → Ty → Goal → CallOf → Type 0
GoesTo program slots result Goal.Nowhere call = (given : Ty) × CallGives program slots call given
GoesTo program slots result (Goal.Into p) call = IsStored program slots p call
GoesTo program slots result Goal.Back call = IsHandedBack program slots result call

-- 6.8.6.4, paragraph 1
abbrev pub Returns : Program → List Slot → Ty → Option Term → Type 0
Returns program slots result None = result ≡ type.Void
Returns program slots result (Some e) = IsTrue (is_scalar result) × Has program slots e result

-- `break` and `continue` stand in a loop (6.8.6.2, 6.8.6.3)
abbrev pub JumpsInside : (in_loop : Bool) → Way → Type 0
JumpsInside in_loop Way.Ends = Unit {0}
JumpsInside in_loop Way.Breaks = IsTrue in_loop
JumpsInside in_loop Way.Continues = IsTrue in_loop

pub record IsIf (number : ℕ) (test : Type 0) (one other : Type 0) : Type 0 where
  pub numbered : 1 ≤ number
  pub condition : test
  pub first : one
  pub second : other

pub record IsLoop (number : ℕ) (test : Type 0) (step body : Type 0) : Type 0 where
  pub numbered : 1 ≤ number
  pub condition : test
  pub stepped : step
  pub turn : body

pub record IsNumbered (number : ℕ) (rest : Type 0) : Type 0 where
  pub numbered : 1 ≤ number
  pub right : rest

abbrev mutual
  -- the statement is right in a function with this result, in a loop or outside
  pub IsTyped : Program → List Slot → (result : Ty) → (in_loop : Bool) → Code → Type 0
  IsTyped program slots result in_loop (Code.Declare n i) = IsNumbered n (IsLocal slots i)
  IsTyped program slots result in_loop (Code.Text n i text) = IsNumbered n (TakesText slots i text)
  IsTyped program slots result in_loop (Code.Assign n p e) = IsNumbered n (IsAssignment program slots p e)
  IsTyped program slots result in_loop (Code.Call n goal call) = IsNumbered n (GoesTo program slots result goal call)
  IsTyped program slots result in_loop (Code.If n e one other) = IsIf n (IsCondition (Has program slots e)) (AreTyped program slots result in_loop one) (AreTyped program slots result in_loop other)
  IsTyped program slots result in_loop (Code.Loop n e step body) = IsLoop n (IsCondition (Has program slots e)) (AreTyped program slots result false step) (AreTyped program slots result true body)
  IsTyped program slots result in_loop (Code.Block body) = AreTyped program slots result in_loop body
  IsTyped program slots result in_loop (Code.Return n e) = IsNumbered n (Returns program slots result e)
  IsTyped program slots result in_loop (Code.Jump n way) = IsNumbered n (JumpsInside in_loop way)

  pub AreTyped : Program → List Slot → (result : Ty) → (in_loop : Bool) → Codes → Type 0
  AreTyped program slots result in_loop Codes.End = Unit {0}
  AreTyped program slots result in_loop (Codes.Then c cs) = IsTyped program slots result in_loop c × AreTyped program slots result in_loop cs
