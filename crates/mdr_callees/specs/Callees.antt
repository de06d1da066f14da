-- believed
-- What running code does with functions, bounded by what the slicer says of a program.
use Rattle.std.specs.Prelude.{◌≡◌, ℕ, true, false, List, [], Some, slice_get, get_or}
use Rattle.mdr_core.specs.declared.plan.Half.TheVariants.{Kernel, User}
use Rattle.mdr_core.specs.declared.program.Program.{Program}
use Rattle.mdr_core.specs.Backs.{CallsNothingBack}
use Rattle.mdr_core.specs.Sound.{IsSound}
use Rattle.mdr_paths.specs.Paths.{is_in}
use Rattle.mdr_paths.specs.Numbers.{numbers}
use Rattle.mdr_slice.specs.declared.halves.Halves.{Halves}
use Rattle.mdr_slice.specs.Calls.{handlers_of, names_of}
use Rattle.mdr_slice.specs.Graph.{AreCallees}
use Rattle.mdr_slice.specs.Halves.{AreHalves}
use Rattle.mdr_meaning.specs.FairTrees.{IsSideOf}
use Rattle.mdr_meaning.specs.Sides.{Side}
use Rattle.mdr_meaning.specs.Within.{IsWithin, Uses}

-- by a call graph: the functions whose names stand for their addresses somewhere, the calls that may be made, and the functions that `request_irq` is given
abbrev pub uses_by : Program → (callees : List (List ℕ)) → Uses
uses_by program callees = record {
  taken = is_in numbers (names_of program);
  calls = λ f g. is_in numbers (get_or callees f []) g;
  handles = is_in numbers (handlers_of program);
}

-- calls back through the kernel count in the graph
abbrev pub CodeKeepsToTheCallGraph : Type 0
CodeKeepsToTheCallGraph =
    (program : Program) → IsSound program → (callees : List (List ℕ)) → AreCallees program true callees
    → (side : Side) → IsSideOf program side → IsWithin program side (uses_by program callees)

-- where nothing is called back, the graph is the same without them
abbrev pub OneGraphWhereNothingCallsBack : Type 0
OneGraphWhereNothingCallsBack = (program : Program) → CallsNothingBack program → (callees : List (List ℕ)) → AreCallees program false callees → AreCallees program true callees

abbrev pub CrossingsHaveStubs : Type 0
CrossingsHaveStubs =
    (program : Program) (roots : List ℕ) (halves : Halves) → AreHalves program roots halves → (callees : List (List ℕ)) → AreCallees program true callees
    → (f g : ℕ) → slice_get halves.halves f ≡ Some User → slice_get halves.halves g ≡ Some Kernel → (uses_by program callees).calls f g ≡ true
    → slice_get halves.down g ≡ Some true

abbrev pub TheKernelHalfCrossesNowhere : Type 0
TheKernelHalfCrossesNowhere =
    (program : Program) (roots : List ℕ) (halves : Halves) → AreHalves program roots halves → (callees : List (List ℕ)) → AreCallees program false callees
    → (f g : ℕ) → slice_get halves.halves f ≡ Some Kernel → (uses_by program callees).calls f g ≡ true
    → slice_get halves.halves g ≡ Some Kernel
