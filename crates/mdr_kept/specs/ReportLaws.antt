-- for proofs
-- Laws of reports: where a run keeps its annotations, the watched run has the plain run's report.
use Rattle.std.specs.Prelude.{◌≡◌, ℕ, Bool, List}
use Rattle.mdr_core.specs.declared.plan.Plan.{Plan}
use Rattle.mdr_core.specs.declared.program.Program.{Program}
use Rattle.mdr_core.specs.Sound.{IsSound}
use Rattle.mdr_holds.specs.Laws.{HaveBodies, IsScript}
use Rattle.mdr_plain.specs.Outcome.{outcome_of}
use Rattle.mdr_plain.specs.Plain.{plain}
use Rattle.mdr_plain.specs.Report.{report}
use Rattle.mdr_bound.specs.declared.bound.Bound.{Bound}
use Rattle.mdr_kept.specs.Scopes.{IsScoped}
use Rattle.mdr_slice.specs.declared.halves.Halves.{Halves}
use Rattle.mdr_slice.specs.Graph.{AreCallees, AreRoots}
use Rattle.mdr_slice.specs.Halves.{AreHalves}
use Rattle.mdr_watched.specs.Driver.{driver_of}
use Rattle.mdr_watched.specs.Kept.{Kept, followed_of}
use Rattle.mdr_watched.specs.Watched.{watched}
use Rattle.mdr_kept.specs.Strict.{strict_of}

-- each program has a call graph, in which the service that calls back counts or not
abbrev pub ProgramsHaveGraphs : Type 0
ProgramsHaveGraphs = (program : Program) (kernel_calls : Bool) → (callees : List (List ℕ)) × AreCallees program kernel_calls callees

-- the plan has the halves that the program's roots give, as each plan that the slicer makes
pub record IsSliced (program : Program) (plan : Plan) : Type 0 where
  pub roots : List ℕ
  pub are_roots : AreRoots program roots
  pub halves : Halves
  pub are_halves : AreHalves program roots halves
  pub halves_are : plan.halves ≡ halves.halves

-- a sound program that names objects where they live, in which each function has a body, with its plan
pub record IsDriven (program : Program) (plan : Plan) : Type 0 where
  pub sound : IsSound program
  pub scoped : IsScoped program
  pub bodies : HaveBodies program
  pub sliced : IsSliced program plan

-- nothing but a stop ends a followed run of it: it passes no pointer to a block that has died
abbrev pub FollowedRunsAreStrict : Type 0
FollowedRunsAreStrict = (program : Program) (plan : Plan) → IsDriven program plan → (script : Bound) → IsScript program script → (budget : ℕ) → strict_of (driver_of program plan) script budget ≡ followed_of (driver_of program plan) script budget

-- so where annotations are kept, no interrupt meets user code, and none is called back while a handler runs or a lock is held that spins, the report of the watched run is that of the plain run
abbrev pub KeptReportsAgree : Type 0
KeptReportsAgree = (program : Program) (plan : Plan) → IsDriven program plan → (script : Bound) → IsScript program script → (budget : ℕ) → Kept program plan script budget
    → report program (outcome_of program (watched program plan script budget)) ≡ report program (outcome_of program (plain program script budget))
