-- protocol
-- A run over two halves of which a transcript may be printed.
use Rattle.std.specs.Prelude.{◌≢◌, ℕ, List, Option}
use Rattle.mdr_core.specs.declared.plan.Plan.{Plan}
use Rattle.mdr_cut.specs.declared.texts.Texts.{Texts}
use Rattle.mdr_due.specs.declared.status.Status.{Status}
use Rattle.mdr_due.specs.declared.status.Status.TheVariants as status
use Rattle.mdr_honest.specs.Honest.{IsHonest}
use Rattle.mdr_outside.specs.declared.far.Exchange.{Exchange}
use Rattle.mdr_outside.specs.declared.far.Loaded.{Loaded}
use Rattle.mdr_bound.specs.declared.bound.Bound.{Bound}
use Rattle.mdr_source.specs.declared.outcome.Source.{Source}
use Rattle.mdr_top.specs.CutInto.{IsCutInto}
use Rattle.mdr_top.specs.Reports.{Ran}

-- the budget of a run of which nothing else is said
abbrev pub budget : ℕ
budget = 1000000

-- a script is run over the halves of a source; the far side is honest and never fails. These are the exchanges with it, and this is the report
pub record IsHonestRun (source : Source) (script : Bound) (es : List Exchange) (report : List ℕ) : Type 0 where
  pub plan : Plan
  pub texts : Texts
  pub cut : IsCutInto source plan texts
  pub loaded : Option Loaded
  pub honest : IsHonest loaded es
  pub ended : Status
  pub ran : Ran source.program plan texts script budget loaded es ended report
  pub answered : ended ≢ status.FarFault
