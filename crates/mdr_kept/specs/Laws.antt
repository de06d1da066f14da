-- for proofs
-- Laws of runs that keep their annotations.
use Rattle.std.specs.Prelude.{◌≡◌, ℕ}
use Rattle.mdr_core.specs.declared.plan.Plan.{Plan}
use Rattle.mdr_core.specs.declared.program.Program.{Program}
use Rattle.mdr_model.specs.declared.outcome.End.TheVariants as ends
use Rattle.mdr_plain.specs.declared.outcome.Outcome.{Outcome}
use Rattle.mdr_plain.specs.Outcome.{outcome_of}
use Rattle.mdr_plain.specs.Plain.{plain}
use Rattle.mdr_plain.specs.Report.{report}
use Rattle.mdr_bound.specs.declared.bound.Bound.{Bound}
use Rattle.mdr_watched.specs.Driver.{Driver, driver_of}
use Rattle.mdr_watched.specs.Kept.{Kept, followed_of}
use Rattle.mdr_watched.specs.Watched.{watched, watched_of}
use Rattle.mdr_kept.specs.Alike.{plainly_finished, spun_outcome}
use Rattle.mdr_kept.specs.Strict.{strict_of}

-- annotations are kept, no interrupt meets user code, user code is called back only where kernel code may wait, and no pointer to a dead block is passed
abbrev pub IsStrict : Program → Plan → Bound → (budget : ℕ) → Type 0
IsStrict program plan script budget = (strict_of (driver_of program plan) script budget).end ≡ ends.Ok

-- a strict run that meets no stop is the watched run, and the followed one
pub record StrictRunsAreFollowed : Type 0 where
  pub followed : (d : Driver) (script : Bound) (budget : ℕ) → (strict_of d script budget).end ≡ ends.Ok → followed_of d script budget ≡ strict_of d script budget
  -- so its annotations are kept
  pub kept : (program : Program) (plan : Plan) (script : Bound) (budget : ℕ) → IsStrict program plan script budget → Kept program plan script budget
  pub watched : (d : Driver) (script : Bound) (budget : ℕ) → (strict_of d script budget).end ≡ ends.Ok → watched_of d script budget ≡ strict_of d script budget

-- it is the plain run, visible sets and how a lock is held set aside, for any program and any plan
abbrev pub StrictRunsArePlain : Type 0
StrictRunsArePlain = (program : Program) (plan : Plan) (script : Bound) (budget : ℕ) → IsStrict program plan script budget → plainly_finished (plain program script budget) ≡ plainly_finished (strict_of (driver_of program plan) script budget)

-- no event shows a lock that sleeps
abbrev pub ShowsNoSleep : Outcome → Type 0
ShowsNoSleep o = spun_outcome o ≡ o

-- so the watched run shows what the plain run shows, but for how a lock is held in its events
pub record StrictOutcomesAgree : Type 0 where
  pub alike : (program : Program) (plan : Plan) (script : Bound) (budget : ℕ) → IsStrict program plan script budget
      → spun_outcome (outcome_of program (watched program plan script budget)) ≡ spun_outcome (outcome_of program (plain program script budget))
  pub same : (program : Program) (plan : Plan) (script : Bound) (budget : ℕ) → IsStrict program plan script budget
      → ShowsNoSleep (outcome_of program (watched program plan script budget)) → ShowsNoSleep (outcome_of program (plain program script budget))
      → outcome_of program (watched program plan script budget) ≡ outcome_of program (plain program script budget)

-- no report prints how a lock is held
abbrev pub LocksAreHeld : Type 0
LocksAreHeld = (program : Program) (o : Outcome) → report program (spun_outcome o) ≡ report program o

-- so both have one report
abbrev pub StrictReportsAgree : Type 0
StrictReportsAgree = (program : Program) (plan : Plan) (script : Bound) (budget : ℕ) → IsStrict program plan script budget
    → report program (outcome_of program (watched program plan script budget)) ≡ report program (outcome_of program (plain program script budget))
