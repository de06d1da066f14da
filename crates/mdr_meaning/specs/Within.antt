-- believed
-- Which functions code names: those whose addresses it takes, those that it may call, and those that handle interrupts.
use Rattle.std.specs.Prelude.{◌≡◌, ℕ, Bool, true, List, [], ◌∷◌, Option, Some, None, slice_get}
use Rattle.std.specs.Option.{option_map}
use Rattle.mdr_core.specs.declared.types.Ty.{Ty}
use Rattle.mdr_core.specs.declared.value.Value.{Value}
use Rattle.mdr_core.specs.declared.value.Value.TheVariants as value
use Rattle.mdr_core.specs.declared.program.Program.{Program}
use Rattle.mdr_core.specs.declared.program.Func.{Func}
use Rattle.mdr_core.specs.Code.{Term, Lvalue, Called, CallOf, Goal, Code, Codes}
use Rattle.mdr_core.specs.Services.{RequestIrq, service_numbered}
use Rattle.mdr_core.specs.Typing.{Slot, function_type}
use Rattle.mdr_meaning.specs.Named.{named_type}
use Rattle.mdr_meaning.specs.Sides.{Body, Side}

-- a bound on what code does with functions
pub record Uses : Type 0 where
  -- the address is taken: the name stands as a value (6.3.2.1, paragraph 4)
  pub taken : ℕ → Bool
  -- the one may call the other
  pub calls : (caller callee : ℕ) → Bool
  -- `request_irq` is given its name
  pub handles : ℕ → Bool

abbrev pub ValueWithin : (ℕ → Bool) → Value → Type 0
ValueWithin taken (value.Fn f) = taken f ≡ true
ValueWithin taken v = Unit {0}

-- each function whose name is a value in the expression is taken
abbrev mutual
  pub TermWithin : (ℕ → Bool) → Term → Type 0
  TermWithin taken (Term.Lit v) = ValueWithin taken v
  TermWithin taken (Term.Load p) = LvalueWithin taken p
  TermWithin taken (Term.Addr p) = LvalueWithin taken p
  TermWithin taken (Term.Decay p) = LvalueWithin taken p
  TermWithin taken (Term.Neg k e) = TermWithin taken e
  TermWithin taken (Term.Flip k e) = TermWithin taken e
  TermWithin taken (Term.Not e) = TermWithin taken e
  TermWithin taken (Term.Bin op k a b) = TermWithin taken a × TermWithin taken b
  TermWithin taken (Term.Rel op a b) = TermWithin taken a × TermWithin taken b
  TermWithin taken (Term.And a b) = TermWithin taken a × TermWithin taken b
  TermWithin taken (Term.Or a b) = TermWithin taken a × TermWithin taken b
  TermWithin taken (Term.Conv k e) = TermWithin taken e
  TermWithin taken (Term.ToVoid e) = TermWithin taken e
  TermWithin taken (Term.FromVoid t e) = TermWithin taken e
  TermWithin taken (Term.Move back p i) = TermWithin taken p × TermWithin taken i
  TermWithin taken (Term.Diff p q) = TermWithin taken p × TermWithin taken q

  pub LvalueWithin : (ℕ → Bool) → Lvalue → Type 0
  LvalueWithin taken (Lvalue.Slot i) = Unit {0}
  LvalueWithin taken (Lvalue.Object i) = Unit {0}
  LvalueWithin taken (Lvalue.Global g) = Unit {0}
  LvalueWithin taken (Lvalue.Deref e) = TermWithin taken e
  LvalueWithin taken (Lvalue.Member p f) = LvalueWithin taken p
  LvalueWithin taken (Lvalue.Index p e) = LvalueWithin taken p × TermWithin taken e

abbrev pub TermsWithin : (ℕ → Bool) → List Term → Type 0
TermsWithin taken [] = Unit {0}
TermsWithin taken (e ∷ es) = TermWithin taken e × TermsWithin taken es

-- the type of a function's address. A null constant points to no function
abbrev pub value_type : Program → Value → Option Ty
value_type program (value.Fn f) = option_map function_type (slice_get program.funcs f)
value_type program v = None

-- the type of a pointer to a function: a function's address, or what an object holds
abbrev pub called_type : Program → List Slot → Term → Option Ty
called_type program slots (Term.Lit v) = value_type program v
called_type program slots (Term.Load p) = named_type program slots p
called_type program slots _ = None

-- each function of a pointer's type whose address is taken may be called
abbrev pub PointerWithin : Program → Uses → List Slot → (caller : ℕ) → Term → Type 0
PointerWithin program uses slots caller e =
    (f : ℕ) (func : Func) → slice_get program.funcs f ≡ Some func → called_type program slots e ≡ Some (function_type func) → uses.taken f ≡ true → uses.calls caller f ≡ true

abbrev pub FirstWithin : Program → Uses → List Slot → (caller : ℕ) → List Term → Type 0
FirstWithin program uses slots caller [] = Unit {0}
FirstWithin program uses slots caller (e ∷ es) = PointerWithin program uses slots caller e

-- a function is called by its name, or through a pointer; `request_irq` is given a handler, and the service that calls back, of number 15, a pointer
abbrev pub CalleeWithin : Program → Uses → List Slot → (caller : ℕ) → Called → List Term → Type 0
CalleeWithin program uses slots caller (Called.Direct f) args = uses.calls caller f ≡ true
CalleeWithin program uses slots caller (Called.Through e) args =
    TermWithin uses.taken e × PointerWithin program uses slots caller e
CalleeWithin program uses slots caller (Called.Service n) args =
    ((f : ℕ) → service_numbered n ≡ Some RequestIrq → args ≡ Term.Lit (value.Fn f) ∷ [] → uses.handles f ≡ true)
    × (n ≡ 15 → FirstWithin program uses slots caller args)

abbrev pub FormWithin : Program → Uses → List Slot → (caller : ℕ) → CallOf → Type 0
FormWithin program uses slots caller form = CalleeWithin program uses slots caller form.callee form.args × TermsWithin uses.taken form.args

abbrev pub GoalWithin : (ℕ → Bool) → Goal → Type 0
GoalWithin taken Goal.Nowhere = Unit {0}
GoalWithin taken (Goal.Into p) = LvalueWithin taken p
GoalWithin taken Goal.Back = Unit {0}

abbrev pub OptionWithin : (ℕ → Bool) → Option Term → Type 0
OptionWithin taken None = Unit {0}
OptionWithin taken (Some e) = TermWithin taken e

-- code of the function `caller` with these slots
abbrev mutual
  pub CodeWithin : Program → Uses → List Slot → (caller : ℕ) → Code → Type 0
  CodeWithin program uses slots caller (Code.Declare n i) = Unit {0}
  CodeWithin program uses slots caller (Code.Text n i bytes) = Unit {0}
  CodeWithin program uses slots caller (Code.Assign n p e) = LvalueWithin uses.taken p × TermWithin uses.taken e
  CodeWithin program uses slots caller (Code.Call n goal form) = GoalWithin uses.taken goal × FormWithin program uses slots caller form
  CodeWithin program uses slots caller (Code.If n e one other) = TermWithin uses.taken e × CodesWithin program uses slots caller one × CodesWithin program uses slots caller other
  CodeWithin program uses slots caller (Code.Loop n e step body) = TermWithin uses.taken e × CodesWithin program uses slots caller step × CodesWithin program uses slots caller body
  CodeWithin program uses slots caller (Code.Block body) = CodesWithin program uses slots caller body
  CodeWithin program uses slots caller (Code.Return n e) = OptionWithin uses.taken e
  CodeWithin program uses slots caller (Code.Jump n way) = Unit {0}

  pub CodesWithin : Program → Uses → List Slot → (caller : ℕ) → Codes → Type 0
  CodesWithin program uses slots caller Codes.End = Unit {0}
  CodesWithin program uses slots caller (Codes.Then c cs) = CodeWithin program uses slots caller c × CodesWithin program uses slots caller cs

-- the bodies of a side keep to it
pub record IsWithin (program : Program) (side : Side) (uses : Uses) : Type 0 where
  pub bodies : (f : ℕ) (body : Body) → side.own f ≡ Some body → CodesWithin program uses body.slots f body.code

-- no bound at all
abbrev pub all_uses : Uses
all_uses = record { taken = λ f. true; calls = λ f g. true; handles = λ f. true }

-- each side and each expression keeps to that
abbrev pub AllKeepToIt : Type 0
AllKeepToIt = ((program : Program) (side : Side) → IsWithin program side all_uses) × ((e : Term) → TermWithin all_uses.taken e)
