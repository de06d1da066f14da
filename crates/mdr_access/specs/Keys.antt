-- believed
-- S(t): the keys of the cells that a user-half function may touch, with all that it calls in its half; and the plan that has them.
use Rattle.std.specs.Prelude.{◌≡◌, ◌↔◌, ℕ, true, List, [], length, map, Some, slice_get, IsTrue}
use Rattle.mdr_core.specs.declared.program.Program.{Program}
use Rattle.mdr_core.specs.declared.program.Func.{Func}
use Rattle.mdr_core.specs.declared.plan.Key.{Key}
use Rattle.mdr_core.specs.declared.plan.Half.{Half}
use Rattle.mdr_core.specs.declared.plan.Half.TheVariants.{Kernel, User}
use Rattle.mdr_core.specs.declared.plan.Plan.{Plan}
use Rattle.mdr_core.specs.Suited.{is_key}
use Rattle.mdr_paths.specs.Chains.{Chain}
use Rattle.mdr_paths.specs.Paths.{Rises, is_in}
use Rattle.mdr_access.specs.KeyOrder.{keys}
use Rattle.mdr_slice.specs.declared.halves.Halves.{Halves}
use Rattle.mdr_slice.specs.Graph.{MayCall}
use Rattle.mdr_access.specs.Exposed.{IsOneOf}
use Rattle.mdr_access.specs.Forms.{Form, FormHas, func_forms}

-- a call of a function of the user half. A call by which the kernel calls back counts
pub record CallsUser (program : Program) (halves : List Half) (f g : ℕ) : Type 0 where
  pub calls : MayCall program true f g
  pub user : slice_get halves g ≡ Some User

-- a list of calls through functions of the user half alone leads from t to f
abbrev pub LeadsTo : Program → List Half → (t f : ℕ) → Type 0
LeadsTo program halves t f = Chain (λ s. s ≡ t) (CallsUser program halves) f

-- the key is in S(t): such a list leads to a function that has an access form for it, and it names no lock
pub record IsTouched (program : Program) (halves : List Half) (t : ℕ) (k : Key) : Type 0 where
  pub func : ℕ
  pub reached : LeadsTo program halves t func
  pub own : Func
  pub names : slice_get program.funcs func ≡ Some own
  pub form : Form
  pub one : IsOneOf (func_forms program own) form
  pub has : FormHas program form k
  pub kept : IsTrue (is_key program k)

-- the list has the keys of S(t), each once, in their order
pub record AreKeys (program : Program) (halves : List Half) (t : ℕ) (ks : List Key) : Type 0 where
  pub rises : Rises keys ks
  pub exact : (k : Key) → (is_in keys ks k ≡ true) ↔ IsTouched program halves t k

-- the halves have one item for each function in each of their lists
pub record HasEach (program : Program) (halves : Halves) : Type 0 where
  pub halves_size : length halves.halves ≡ length program.funcs
  pub roots_size : length halves.roots ≡ length program.funcs
  pub down_size : length halves.down ≡ length program.funcs

-- the plan of a program and its halves
pub record IsPlan (program : Program) (halves : Halves) (plan : Plan) : Type 0 where
  pub types : plan.types ≡ program.types
  pub names : plan.names ≡ map (λ (func : Func). func.name) program.funcs
  pub halves_are : plan.halves ≡ halves.halves
  pub roots : plan.roots ≡ halves.roots
  pub down : plan.down ≡ halves.down
  pub lists : length plan.keys ≡ length program.funcs
  pub kernel : (f : ℕ) (ks : List Key) → slice_get halves.halves f ≡ Some Kernel → slice_get plan.keys f ≡ Some ks → ks ≡ []
  pub user : (t : ℕ) (ks : List Key) → slice_get halves.halves t ≡ Some User → slice_get plan.keys t ≡ Some ks → AreKeys program halves.halves t ks
