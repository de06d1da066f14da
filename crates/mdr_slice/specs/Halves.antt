-- believed
-- Which half a function belongs to.
use Rattle.std.specs.Prelude.{◌≡◌, ◌↔◌, ℕ, ◌<◌, true, false, List, Some, slice_get, length}
use Rattle.mdr_core.specs.declared.plan.Half.TheVariants.{Kernel, User}
use Rattle.mdr_core.specs.declared.program.Program.{Program}
use Rattle.mdr_paths.specs.Chains.{Chain}
use Rattle.mdr_paths.specs.Paths.{is_in}
use Rattle.mdr_paths.specs.Numbers.{numbers}
use Rattle.mdr_slice.specs.Graph.{MayCall}
use Rattle.mdr_slice.specs.declared.halves.Halves.{Halves}

-- a list of possible calls leads from a root to the function. A call by which the kernel half calls back counts for nothing here
abbrev pub IsKernel : Program → List ℕ → ℕ → Type 0
IsKernel program roots f = Chain (λ r. is_in numbers roots r ≡ true) (MayCall program false) f

-- any other function is of the user half
pub record IsUser (program : Program) (roots : List ℕ) (f : ℕ) : Type 0 where
  pub inside : f < length program.funcs
  pub no_list : IsKernel program roots f → ⊥

-- a function of the kernel half that one of the user half may call
pub record HasDownStub (program : Program) (roots : List ℕ) (f : ℕ) : Type 0 where
  pub kernel : IsKernel program roots f
  pub caller : ℕ
  pub user : IsUser program roots caller
  pub calls : MayCall program true caller f

pub record AreHalves (program : Program) (roots : List ℕ) (halves : Halves) : Type 0 where
  pub halves_size : length halves.halves ≡ length program.funcs
  pub roots_size : length halves.roots ≡ length program.funcs
  pub down_size : length halves.down ≡ length program.funcs
  pub kernel : (f : ℕ) → (slice_get halves.halves f ≡ Some Kernel) ↔ IsKernel program roots f
  pub user : (f : ℕ) → (slice_get halves.halves f ≡ Some User) ↔ IsUser program roots f
  pub root : (f : ℕ) → (slice_get halves.roots f ≡ Some true) ↔ (is_in numbers roots f ≡ true)
  pub stub : (f : ℕ) → (slice_get halves.down f ≡ Some true) ↔ HasDownStub program roots f

-- the roots are functions of the program
pub record AreFunctions (program : Program) (roots : List ℕ) : Type 0 where
  pub inside : (f : ℕ) → is_in numbers roots f ≡ true → f < length program.funcs
