-- believed
-- Which function may call which.
use Rattle.std.specs.Prelude.{◌≡◌, ℕ, ◌<◌, ◌↔◌, ◌⊎◌, Bool, true, false, List, [], ◌∷◌, Some, slice_get, get_or, length}
use Rattle.mdr_core.specs.declared.program.Program.{Program}
use Rattle.mdr_core.specs.declared.program.Func.{Func}
use Rattle.mdr_core.specs.Code.{Term, Called, CallOf}
use Rattle.mdr_core.specs.Typing.{Slot, slots_of, function_type}
use Rattle.mdr_paths.specs.Paths.{is_in, Rises}
use Rattle.mdr_paths.specs.Numbers.{numbers}
use Rattle.mdr_slice.specs.Calls.{all_calls, body_code, names_of, handlers_of}
use Rattle.mdr_slice.specs.Pointed.{called_type}

-- a pointer may point to function g: g has the pointer's type, and g's address is taken somewhere
pub record MayPointTo (program : Program) (slots : List Slot) (e : Term) (g : ℕ) : Type 0 where
  pub func : Func
  pub names : slice_get program.funcs g ≡ Some func
  pub typed : called_type program slots e ≡ Some (function_type func)
  pub taken : is_in numbers (names_of program) g ≡ true

-- `kcall(e, ..)`, service 15, calls what e points to
abbrev pub KernelCallReaches : Program → List Slot → ℕ → List Term → ℕ → Type 0
KernelCallReaches program slots service [] g = ⊥
KernelCallReaches program slots service (e ∷ es) g = (service ≡ 15) × MayPointTo program slots e g

-- what a call may call; a `kcall` counts or not
abbrev pub reaches_by : Program → List Slot → (kernel_calls : Bool) → Called → List Term → ℕ → Type 0
reaches_by program slots counts (Called.Direct f) args g = f ≡ g
reaches_by program slots counts (Called.Through e) args g = MayPointTo program slots e g
reaches_by program slots true (Called.Service n) args g = KernelCallReaches program slots n args g
reaches_by program slots false (Called.Service n) args g = ⊥

abbrev pub Reaches : Program → List Slot → (kernel_calls : Bool) → CallOf → ℕ → Type 0
Reaches program slots counts call g = reaches_by program slots counts call.callee call.args g

-- one of these calls may call g
pub record OneReaches (program : Program) (slots : List Slot) (kernel_calls : Bool) (cs : List CallOf) (g : ℕ) : Type 0 where
  pub at : ℕ
  pub call : CallOf
  pub is : slice_get cs at ≡ Some call
  pub leads : Reaches program slots kernel_calls call g

-- f may call g
pub record MayCall (program : Program) (kernel_calls : Bool) (f g : ℕ) : Type 0 where
  pub func : Func
  pub names : slice_get program.funcs f ≡ Some func
  pub inside : g < length program.funcs
  pub by : OneReaches program (slots_of func) kernel_calls (all_calls (body_code func.body)) g

-- the list has the functions that f may call, rising
pub record IsRow (program : Program) (kernel_calls : Bool) (f : ℕ) (callees : List ℕ) : Type 0 where
  pub rises : Rises numbers callees
  pub exact : (g : ℕ) → (is_in numbers callees g ≡ true) ↔ MayCall program kernel_calls f g

-- for each function those that it may call
pub record AreCallees (program : Program) (kernel_calls : Bool) (edges : List (List ℕ)) : Type 0 where
  pub size : length edges ≡ length program.funcs
  pub rows : (f : ℕ) → f < length program.funcs → IsRow program kernel_calls f (get_or edges f [])

-- a function is a root: it is marked `__critical`, or `request_irq` is given its name
pub record IsRoot (program : Program) (f : ℕ) : Type 0 where
  pub func : Func
  pub names : slice_get program.funcs f ≡ Some func
  pub why : (func.critical ≡ true) ⊎ (is_in numbers (handlers_of program) f ≡ true)

pub record AreRoots (program : Program) (roots : List ℕ) : Type 0 where
  pub rises : Rises numbers roots
  pub exact : (f : ℕ) → (is_in numbers roots f ≡ true) ↔ IsRoot program f
