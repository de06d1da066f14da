-- for proofs
-- The types of the forms of a source's bodies (C99 6.5, 6.8): the rules of a program's forms, over those of their parts.
use Rattle.std.specs.Prelude.{◌≡◌, ℕ, ◌≤◌, Bool, true, false, List, [], ◌∷◌, length, map, Option, Some, None, slice_get, IsTrue, ◌⊎◌}
use Rattle.mdr_core.specs.declared.kind.Kind.{Kind}
use Rattle.mdr_core.specs.declared.types.Ty.{Ty}
use Rattle.mdr_core.specs.declared.types.Ty.TheVariants as type
use Rattle.mdr_core.specs.declared.program.Program.{Program}
use Rattle.mdr_core.specs.declared.program.Func.{Func}
use Rattle.mdr_core.specs.declared.program.Param.{Param}
use Rattle.mdr_core.specs.declared.value.Value.{Value}
use Rattle.mdr_core.specs.declared.value.Value.TheVariants as value
use Rattle.mdr_core.specs.Services.{Service, RequestIrq, Signature, offered, service_numbered}
use Rattle.mdr_core.specs.Types.{Scalar, Becomes, is_scalar, sort_of}
use Rattle.mdr_core.specs.Typing.{Slot, Extent, One, Many, int, ptr, Literal, IsSlot, IsGlobal, IsTarget, IsMember, IsElement, IsLoad, IsDecay, IsUnary, IsCondition, IsNegation, IsBinary, IsRelation, IsLogical, IsConversion, IsToVoid, IsFromVoid, IsMove, IsDifference, IsLocal, TakesText, JumpsInside, IsIf, IsLoop, IsNumbered}
use Rattle.mdr_rich.specs.Code.{Term, Lvalue, Called, Terms, CallOf, Goal, Code, Codes, Clauses, term_list}

-- ---- addresses

-- a parameter or local in a slot has no address
abbrev pub HasAddress : Lvalue → Type 0
HasAddress (Lvalue.Slot i t) = ⊥
HasAddress (Lvalue.Object i t) = Unit {0}
HasAddress (Lvalue.Global g t) = Unit {0}
HasAddress (Lvalue.Deref e) = Unit {0}
HasAddress (Lvalue.Member p f t) = HasAddress p
HasAddress (Lvalue.Index p e) = HasAddress p

-- the address of an object (6.5.3.2, paragraph 3)
pub record IsAddress (lvalue : Lvalue) (p : Extent → Type 0) (t : Ty) : Type 0 where
  pub type : Ty
  pub object : p (One type)
  pub kept : HasAddress lvalue
  pub is : t ≡ ptr type

-- ---- types that forms carry

-- of what is designated, of an array that of its elements
abbrev pub type_in : Extent → Ty
type_in (One t) = t
type_in (Many t n) = t

-- a scalar type of a program with so many structs
abbrev pub IsScalar : Program → Ty → Type 0
IsScalar program t = sort_of (length program.structs) t ≡ Scalar

-- what an allocation names is a type of objects. That it stands in the type table is asked of a program's code
abbrev pub IsShape : Program → Option Ty → Type 0
IsShape program None = Unit {0}
IsShape program (Some t) = IsScalar program (ptr t)

-- what points isn't a literal, which has no one type
abbrev pub IsNoLiteral : Term → Type 0
IsNoLiteral (Term.Lit v) = ⊥
IsNoLiteral e = Unit {0}

-- ---- calls

-- arguments of such types, and no type and no text beside them
pub record TakesArguments (have : List Ty → Type 0) (shape : Option Ty) (format : Option (List ℕ)) (params : List Ty) : Type 0 where
  pub no_type : shape ≡ None
  pub no_text : format ≡ None
  pub args : have params

pub record NamesFunction (program : Program) (have : List Ty → Type 0) (shape : Option Ty) (format : Option (List ℕ)) (f : ℕ) (result : Ty) : Type 0 where
  pub func : Func
  pub names : slice_get program.funcs f ≡ Some func
  pub call_is : TakesArguments have shape format (map (λ (p : Param). p.ty) func.params)
  pub is : result ≡ func.result

pub record PointsToFunction (have : List Ty → Type 0) (shape : Option Ty) (format : Option (List ℕ)) (points : Ty → Type 0) (result : Ty) : Type 0 where
  pub params : List Ty
  pub pointer : points (type.Fun (result ∷ params))
  pub call_is : TakesArguments have shape format params

pub record AsksService (program : Program) (have : List Ty → Type 0) (handles : Service → Type 0) (shape : Option Ty) (format : Option (List ℕ)) (n : ℕ) (result : Ty) : Type 0 where
  pub service : Service
  pub names : service_numbered n ≡ Some service
  pub signature : Signature
  pub offers : offered service shape format ≡ Some signature
  pub args : have signature.params
  pub handler : handles service
  pub object : IsShape program shape
  pub is : result ≡ signature.result

-- service 15 calls back: the function that its first argument points to, with the second
pub record AsksBack (have : List Ty → Type 0) (shape : Option Ty) (format : Option (List ℕ)) (n : ℕ) (result : Ty) : Type 0 where
  pub back : n ≡ 15
  pub no_type : shape ≡ None
  pub no_text : format ≡ None
  pub param : Ty
  pub args : have (type.Fun (result ∷ param ∷ []) ∷ param ∷ [])

-- what is called gives a value of this type, or `void`
abbrev pub gives_of : Program → (args : List Ty → Type 0) → (handler : Service → Type 0) → (pointer : Ty → Type 0) → Option Ty → Option (List ℕ) → Called → Ty → Type 0
gives_of program args handler pointer shape format (Called.Direct f) result = NamesFunction program args shape format f result
gives_of program args handler pointer shape format (Called.Through e) result = PointsToFunction args shape format pointer result
gives_of program args handler pointer shape format (Called.Service n) result = AsksService program args handler shape format n result ⊎ AsksBack args shape format n result

-- `request_irq` takes the name of a function, and no other value
abbrev pub NamesHandler : Service → List Term → Type 0
NamesHandler RequestIrq args = (f : ℕ) × (args ≡ Term.Lit (value.Fn f) ∷ [])
NamesHandler s args = Unit {0}

abbrev pub HandlerAmong : Terms → Service → Type 0
HandlerAmong args RequestIrq = (f : ℕ) × (args ≡ Terms.Then (Term.Lit (value.Fn f)) Terms.End)
HandlerAmong args s = Unit {0}

-- ---- values of calls, choices and steps, which have a scalar type

pub record IsCalled (program : Program) (call : Ty → Type 0) (t u : Ty) : Type 0 where
  pub gives : call t
  pub formed : IsScalar program t
  pub is : u ≡ t

-- 6.5.15
pub record IsChoice (program : Program) (c a b : Ty → Type 0) (t u : Ty) : Type 0 where
  pub test : IsCondition c
  pub one : a t
  pub other : b t
  pub formed : IsScalar program t
  pub is : u ≡ t

-- integers and pointers to objects
abbrev pub IsStepped : Ty → Type 0
IsStepped t = ((k : Kind) × (t ≡ int k)) ⊎ ((target : Ty) × (t ≡ ptr target))

-- 6.5.2.4, 6.5.3.1
pub record IsBump (program : Program) (p : Extent → Type 0) (t u : Ty) : Type 0 where
  pub object : p (One t)
  pub steps : IsStepped t
  pub formed : IsScalar program t
  pub is : u ≡ t

-- ---- expressions and lvalues of a function with these slots

abbrev mutual
  -- the expression has the type
  pub Has : Program → List Slot → Term → Ty → Type 0
  Has program slots (Term.Lit v) t = Literal program v t
  Has program slots (Term.Load p) t = IsLoad (Designates program slots p) t × IsScalar program t
  Has program slots (Term.Addr p) t = IsAddress p (Designates program slots p) t × IsScalar program t
  Has program slots (Term.Decay p) t = IsDecay (Designates program slots p) t × IsScalar program t
  Has program slots (Term.Neg k e) t = IsUnary k (Has program slots e) t
  Has program slots (Term.Flip k e) t = IsUnary k (Has program slots e) t
  Has program slots (Term.Not e) t = IsNegation (Has program slots e) t
  Has program slots (Term.Bin op k a b) t = IsBinary op k (Has program slots a) (Has program slots b) t
  Has program slots (Term.Rel op a b) t = IsRelation op (Has program slots a) (Has program slots b) t
  Has program slots (Term.And a b) t = IsLogical (Has program slots a) (Has program slots b) t
  Has program slots (Term.Or a b) t = IsLogical (Has program slots a) (Has program slots b) t
  Has program slots (Term.Conv k e) t = IsConversion k (Has program slots e) t
  Has program slots (Term.ToVoid e) t = IsToVoid (Has program slots e) t
  Has program slots (Term.FromVoid u e) t = IsFromVoid (length program.structs) u (Has program slots e) t
  Has program slots (Term.Move back p i) t = IsMove (Has program slots p) (Has program slots i) t × IsNoLiteral p
  Has program slots (Term.Diff p q) t = IsDifference (Has program slots p) (Has program slots q) t
  Has program slots (Term.Cond u c a b) t = IsChoice program (Has program slots c) (Has program slots a) (Has program slots b) u t
  Has program slots (Term.Call u f args shape format) t = IsCalled program (gives_of program (HasEach program slots args) (HandlerAmong args) (PointerHas program slots f) shape format f) u t
  Has program slots (Term.Bump u up first p) t = IsBump program (Designates program slots p) u t

  -- the lvalue designates such an object or array
  pub Designates : Program → List Slot → Lvalue → Extent → Type 0
  Designates program slots (Lvalue.Slot i t) x = IsSlot slots i false x × (t ≡ type_in x)
  Designates program slots (Lvalue.Object i t) x = IsSlot slots i true x × (t ≡ type_in x)
  Designates program slots (Lvalue.Global g t) x = IsGlobal program g x × (t ≡ type_in x)
  Designates program slots (Lvalue.Deref e) x = IsTarget (Has program slots e) x × IsNoLiteral e
  Designates program slots (Lvalue.Member p f t) x = IsMember program (Designates program slots p) f x × (t ≡ type_in x)
  Designates program slots (Lvalue.Index p e) x = IsElement (Designates program slots p) (Has program slots e) x × IsScalar program (ptr (type_in x))

  -- what is called through a pointer has the pointer's type
  pub PointerHas : Program → List Slot → Called → Ty → Type 0
  PointerHas program slots (Called.Direct f) t = ⊥
  PointerHas program slots (Called.Through e) t = Has program slots e t
  PointerHas program slots (Called.Service n) t = ⊥

  -- the arguments have the parameters' types, and are as many (6.5.2.2, paragraph 2)
  pub HasEach : Program → List Slot → Terms → List Ty → Type 0
  HasEach program slots Terms.End [] = Unit {0}
  HasEach program slots Terms.End (t ∷ ts) = ⊥
  HasEach program slots (Terms.Then e es) [] = ⊥
  HasEach program slots (Terms.Then e es) (t ∷ ts) = Has program slots e t × HasEach program slots es ts

-- ---- calls as statements

abbrev pub HaveAll : Program → List Slot → List Term → List Ty → Type 0
HaveAll program slots es ts = HasEach program slots (term_list es) ts

-- a call of a function, which names no type and has no text
abbrev pub CallsFunction : Program → List Slot → CallOf → (params : List Ty) → Type 0
CallsFunction program slots call params = TakesArguments (HaveAll program slots call.args) call.shape call.format params

abbrev pub CallsDirectly : Program → List Slot → CallOf → ℕ → Ty → Type 0
CallsDirectly program slots call f result = NamesFunction program (HaveAll program slots call.args) call.shape call.format f result

abbrev pub CallsThrough : Program → List Slot → CallOf → Term → Ty → Type 0
CallsThrough program slots call e result = PointsToFunction (HaveAll program slots call.args) call.shape call.format (Has program slots e) result

abbrev pub CallsService : Program → List Slot → CallOf → ℕ → Ty → Type 0
CallsService program slots call n result = AsksService program (HaveAll program slots call.args) (λ s. NamesHandler s call.args) call.shape call.format n result

abbrev pub CallsBack : Program → List Slot → CallOf → ℕ → Ty → Type 0
CallsBack program slots call n result = AsksBack (HaveAll program slots call.args) call.shape call.format n result

-- a call gives a value of this type, or `void`
abbrev pub gives_by : Called → Program → List Slot → CallOf → Ty → Type 0
gives_by f program slots call result = gives_of program (HaveAll program slots call.args) (λ s. NamesHandler s call.args) (PointerHas program slots f) call.shape call.format f result

abbrev pub CallGives : Program → List Slot → CallOf → Ty → Type 0
CallGives program slots call result = gives_by call.callee program slots call result

-- ---- statements

-- 6.5.16.1
pub record IsAssignment (program : Program) (slots : List Slot) (p : Lvalue) (e : Term) : Type 0 where
  pub type : Ty
  pub scalar : IsTrue (is_scalar type)
  pub object : Designates program slots p (One type)
  pub value : Has program slots e type

-- a call's value is stored: it converts as by assignment (6.5.16.1)
pub record IsStored (program : Program) (slots : List Slot) (p : Lvalue) (call : CallOf) : Type 0 where
  pub type : Ty
  pub given : Ty
  pub scalar : IsTrue (is_scalar type)
  pub object : Designates program slots p (One type)
  pub call_gives : CallGives program slots call given
  pub becomes : Becomes given type

-- a call's value is returned (6.8.6.4)
pub record IsHandedBack (program : Program) (slots : List Slot) (result : Ty) (call : CallOf) : Type 0 where
  pub given : Ty
  pub scalar : IsTrue (is_scalar result)
  pub call_gives : CallGives program slots call given
  pub becomes : Becomes given result

abbrev pub GoesTo : Program → List Slot → Ty → Goal → CallOf → Type 0
GoesTo program slots result Goal.Nowhere call = (given : Ty) × CallGives program slots call given
GoesTo program slots result (Goal.Into p) call = IsStored program slots p call
GoesTo program slots result Goal.Back call = IsHandedBack program slots result call

-- 6.8.6.4, paragraph 1
abbrev pub Returns : Program → List Slot → Ty → Option Term → Type 0
Returns program slots result None = result ≡ type.Void
Returns program slots result (Some e) = IsTrue (is_scalar result) × Has program slots e result

-- 6.8.5.2
pub record IsDo (number : ℕ) (body test : Type 0) : Type 0 where
  pub numbered : 1 ≤ number
  pub turn : body
  pub condition : test

-- 6.8.4.2: an integer is tried with constants of its kind
pub record IsSwitch (number : ℕ) (tested : Ty → Type 0) (clauses : Kind → Type 0) : Type 0 where
  pub numbered : 1 ≤ number
  pub kind : Kind
  pub value : tested (int kind)
  pub parts : clauses kind

-- constants of a kind
abbrev pub AreLabels : Program → Kind → List Value → Type 0
AreLabels program k [] = Unit {0}
AreLabels program k (v ∷ vs) = Literal program v (int k) × AreLabels program k vs

pub record IsClause (labels body rest : Type 0) : Type 0 where
  pub labelled : labels
  pub turn : body
  pub later : rest

abbrev mutual
  -- the statement is right in a function with this result, in a loop or outside
  pub IsTyped : Program → List Slot → (result : Ty) → (in_loop : Bool) → Code → Type 0
  IsTyped program slots result in_loop (Code.Declare n i) = IsNumbered n (IsLocal slots i)
  IsTyped program slots result in_loop (Code.Text n i text) = IsNumbered n (TakesText slots i text)
  IsTyped program slots result in_loop (Code.Assign n p e) = IsNumbered n (IsAssignment program slots p e)
  IsTyped program slots result in_loop (Code.Call n goal call) = IsNumbered n (GoesTo program slots result goal call)
  IsTyped program slots result in_loop (Code.If n e one other) = IsIf n (IsCondition (Has program slots e)) (AreTyped program slots result in_loop one) (AreTyped program slots result in_loop other)
  IsTyped program slots result in_loop (Code.Loop n e step body) = IsLoop n (IsCondition (Has program slots e)) (AreTyped program slots result false step) (AreTyped program slots result true body)
  IsTyped program slots result in_loop (Code.Do n body e) = IsDo n (AreTyped program slots result true body) (IsCondition (Has program slots e))
  IsTyped program slots result in_loop (Code.Switch n e clauses) = IsSwitch n (Has program slots e) (λ k. AreClauses program slots result in_loop k clauses)
  IsTyped program slots result in_loop (Code.Block body) = AreTyped program slots result in_loop body
  IsTyped program slots result in_loop (Code.Return n e) = IsNumbered n (Returns program slots result e)
  IsTyped program slots result in_loop (Code.Jump n way) = IsNumbered n (JumpsInside in_loop way)

  pub AreTyped : Program → List Slot → (result : Ty) → (in_loop : Bool) → Codes → Type 0
  AreTyped program slots result in_loop Codes.End = Unit {0}
  AreTyped program slots result in_loop (Codes.Then c cs) = IsTyped program slots result in_loop c × AreTyped program slots result in_loop cs

  -- the clauses of a `switch` over a value of the kind
  pub AreClauses : Program → List Slot → (result : Ty) → (in_loop : Bool) → Kind → Clauses → Type 0
  AreClauses program slots result in_loop k (Clauses.Default body) = AreTyped program slots result in_loop body
  AreClauses program slots result in_loop k (Clauses.Clause labels body rest) = IsClause (AreLabels program k labels) (AreTyped program slots result in_loop body) (AreClauses program slots result in_loop k rest)
