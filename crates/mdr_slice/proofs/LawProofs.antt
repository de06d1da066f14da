-- Proofs of the laws of halves.
use Rattle.std.proofs.Common.{◌≡◌, ℕ, Bool, true, false, List}
use Rattle.mdr_core.specs.declared.program.Program.{Program}
use Rattle.mdr_paths.specs.Chains.{Chain}
use Rattle.mdr_paths.specs.Paths.{is_in}
use Rattle.mdr_paths.specs.Numbers.{numbers}
use Rattle.mdr_slice.specs.Graph.{MayCall}
use Rattle.mdr_slice.specs.Halves.{IsKernel}
use Rattle.mdr_slice.specs.Laws.{KernelHalfIsLeast, RootsAreFunctions}
use Rattle.mdr_slice.proofs.GraphLaws.{some_inside}

least : (program : Program) (roots : List ℕ) (kept : ℕ → Bool)
    → ((f : ℕ) → is_in numbers roots f ≡ true → kept f ≡ true)
    → ((f g : ℕ) → kept f ≡ true → MayCall program false f g → kept g ≡ true)
    → (f : ℕ) → IsKernel program roots f → kept f ≡ true
least program roots kept first next _ (Chain.Begin c start) = first c start
least program roots kept first next _ (Chain.Next d c chain step) = next d c (least program roots kept first next d chain) step

grows : (program : Program) (roots more : List ℕ) → ((f : ℕ) → is_in numbers roots f ≡ true → is_in numbers more f ≡ true) → (f : ℕ) → IsKernel program roots f → IsKernel program more f
grows program roots more wider _ (Chain.Begin c start) = Chain.Begin c (wider c start)
grows program roots more wider _ (Chain.Next d c chain step) = Chain.Next d c (grows program roots more wider d chain) step

pub kernel_half_is_least : KernelHalfIsLeast
kernel_half_is_least = record {
  rooted = λ program roots f h. Chain.Begin f h;
  closed = λ program roots f g chain step. Chain.Next f g chain step;
  least = least;
  grows = grows;
}

pub roots_are_functions : RootsAreFunctions
roots_are_functions program roots are = record { inside = λ f h. let root = (are.exact f).0 h in some_inside program.funcs f root.func root.names }
