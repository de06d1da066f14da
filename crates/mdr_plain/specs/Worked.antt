-- for proofs
-- Words for worked examples: small drivers whose bodies are written with `mdr_meaning`'s, their scripts, and what is printed of a run.
use Rattle.std.specs.Prelude.{ℕ, false, List, [], ◌∷◌, ◌++◌, Some, None, slice_get, pos}
use Rattle.mdr_core.specs.declared.kind.Kind.TheVariants.{U32}
use Rattle.mdr_core.specs.declared.types.Ann.TheVariants.{Single}
use Rattle.mdr_core.specs.declared.types.Ty.{Ty, out-Ty}
use Rattle.mdr_core.specs.declared.types.Ty.TheOpen.{Ty-F}
use Rattle.mdr_core.specs.declared.types.Ty.TheVariants as ty
use Rattle.mdr_core.specs.declared.value.Value.{Value}
use Rattle.mdr_core.specs.declared.value.Value.TheVariants as value
use Rattle.mdr_core.specs.declared.program.Func.{Func}
use Rattle.mdr_core.specs.declared.program.GlobalDef.{GlobalDef}
use Rattle.mdr_core.specs.declared.program.Program.{Program}
use Rattle.mdr_core.specs.declared.program.StructDef.{StructDef}
use Rattle.mdr_core.specs.Code.{Term, Lvalue, Called, Goal, Code}
use Rattle.mdr_core.specs.Kinds.{kind_number}
use Rattle.mdr_core.specs.Types.{first_types}
use Rattle.mdr_device.specs.declared.rule.Rule.{Rule}
use Rattle.mdr_meaning.specs.Bodies.{without_funcs}
use Rattle.mdr_meaning.specs.Sides.{Body, Side}
use Rattle.mdr_meaning.specs.Worked.{form, side_by}
use Rattle.mdr_model.specs.declared.command.Command.{Command}
use Rattle.mdr_model.specs.declared.command.Command.TheVariants as command
use Rattle.mdr_bound.specs.declared.bound.Bound.{Bound}
use Rattle.mdr_plain.specs.declared.outcome.Outcome.{Outcome}
use Rattle.mdr_plain.specs.Outcome.{outcome_of}
use Rattle.mdr_plain.specs.Plain.{plain_of}
use Rattle.mdr_plain.specs.Report.{report}

-- ---- drivers

-- a driver has one struct, which is type 9, and one pointer type, which is type 10. What a pointer's type points to doesn't compute, so to code a pointer that it is given by a call is a `void *`, and the table says what it is
abbrev pub number_by : Ty-F Ty → ℕ
number_by (Ty-F.Int k) = kind_number k
number_by Ty-F.Lock = 8
number_by (Ty-F.Struct s) = 9
number_by (Ty-F.Ptr t) = 10
number_by Ty-F.VoidPtr = 10
number_by (Ty-F.Fun ts) = 10
number_by Ty-F.Void = 10

abbrev pub number_of : Ty → ℕ
number_of t = number_by (out-Ty t)

pub record Driver : Type 0 where
  pub struct : StructDef
  pub pointer : Ty
  pub globals : List GlobalDef
  pub funcs : List Func
  pub bodies : List Body

abbrev pub program_of : Driver → Program
program_of d = record { types = first_types ++ (ty.Struct 0 ∷ d.pointer ∷ []); structs = d.struct ∷ []; globals = d.globals; funcs = d.funcs }

abbrev pub side_of : Driver → Side
side_of d = side_by number_of (without_funcs (program_of d)) (λ f. slice_get d.bodies f) false

abbrev pub global_named : List ℕ → Ty → (first : List Value) → GlobalDef
global_named name t first = record { name = name; ty = t; count = 1; array = false; ann = Single; init = first }

abbrev pub of_type : Ty → (first : List Value) → GlobalDef
of_type t first = global_named [] t first

-- what is told of a function but its body
abbrev pub named : List ℕ → Func
named name = record { name = name; params = []; result = ty.Void; ann = Single; locals = []; critical = false; body = None }

abbrev pub zero_u32 : Value
zero_u32 = value.Int U32 (pos 0)

-- ---- code

abbrev pub serves : (number service : ℕ) → List Term → Code
serves n service args = Code.Call n Goal.Nowhere (form (Called.Service service) args)

abbrev pub serves_into : (number service : ℕ) → Lvalue → List Term → Code
serves_into n service p args = Code.Call n (Goal.Into p) (form (Called.Service service) args)

-- elements of a type are allocated, one or as many as the arguments say
abbrev pub allocates : (number service : ℕ) → Lvalue → Ty → List Term → Code
allocates n service p t args = Code.Call n (Goal.Into p) (record { callee = Called.Service service; args = args; shape = Some t; format = None })

-- ---- scripts

abbrev pub just : List Command → Bound
just cs = record { words = []; rules = []; fails = []; commands = cs }

abbrev pub with_rules : List Rule → List Command → Bound
with_rules rules cs = record { words = []; rules = rules; fails = []; commands = cs }

abbrev pub calls : (func : ℕ) → Command
calls f = command.Call f []

-- ---- runs

-- what a run shows, under a budget of ticks
abbrev pub shown : Driver → Bound → (budget : ℕ) → Outcome
shown d script budget = outcome_of (program_of d) (plain_of (program_of d) (side_of d) script budget)

abbrev pub printed : Driver → Bound → (budget : ℕ) → List ℕ
printed d script budget = report (program_of d) (shown d script budget)
