-- for proofs
-- What is promised of the halves of every program.
use Rattle.std.specs.Prelude.{◌≡◌, ℕ, Bool, true, false, List}
use Rattle.mdr_core.specs.declared.program.Program.{Program}
use Rattle.mdr_paths.specs.Paths.{is_in}
use Rattle.mdr_paths.specs.Numbers.{numbers}
use Rattle.mdr_slice.specs.Graph.{MayCall, AreRoots}
use Rattle.mdr_slice.specs.Halves.{AreFunctions, IsKernel}

pub record KernelHalfIsLeast : Type 0 where
  -- it has the roots, and what its functions may call
  pub rooted : (program : Program) (roots : List ℕ) (f : ℕ) → is_in numbers roots f ≡ true → IsKernel program roots f
  pub closed : (program : Program) (roots : List ℕ) (f g : ℕ) → IsKernel program roots f → MayCall program false f g → IsKernel program roots g
  -- and nothing that not every such set has
  pub least : (program : Program) (roots : List ℕ) (kept : ℕ → Bool)
      → ((f : ℕ) → is_in numbers roots f ≡ true → kept f ≡ true)
      → ((f g : ℕ) → kept f ≡ true → MayCall program false f g → kept g ≡ true)
      → (f : ℕ) → IsKernel program roots f → kept f ≡ true
  -- more roots, more functions
  pub grows : (program : Program) (roots more : List ℕ) → ((f : ℕ) → is_in numbers roots f ≡ true → is_in numbers more f ≡ true) → (f : ℕ) → IsKernel program roots f → IsKernel program more f

-- what `roots_of` gives are functions, as `slice` asks
abbrev pub RootsAreFunctions : Type 0
RootsAreFunctions = (program : Program) (roots : List ℕ) → AreRoots program roots → AreFunctions program roots
