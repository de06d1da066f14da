-- What a run over an honest far side is reported as.
use Rattle.std.proofs.Common.{ℕ, ◌⊎◌, List, Option}
use Rattle.mdr_core.specs.declared.plan.Plan.{Plan}
use Rattle.mdr_cut.specs.declared.texts.Texts.{Texts}
use Rattle.mdr_exchanges.specs.Meanings.{IsMeant}
use Rattle.mdr_exchanges.specs.Runs.{IsFarFault}
use Rattle.mdr_honest.proofs.Meant.{meaning}
use Rattle.mdr_honest.proofs.Taken.{texts_are_taken}
use Rattle.mdr_honest.specs.Honest.{IsHonest}
use Rattle.mdr_outside.specs.declared.far.Exchange.{Exchange}
use Rattle.mdr_outside.specs.declared.far.Loaded.{Loaded}
use Rattle.mdr_plain.specs.declared.outcome.Outcome.{Outcome}
use Rattle.mdr_top.specs.Scripts.{HasScript}
use Rattle.mdr_bound.specs.declared.bound.Bound.{Bound}
use Rattle.mdr_slicer.specs.Slicing.{HasSource}
use Rattle.mdr_source.specs.declared.outcome.Source.{Source}
use Rattle.mdr_top.proofs.Meanings.{outcome_means as meant_so, split_runs_mean}
use Rattle.mdr_top.specs.CutInto.{IsCutInto}
use Rattle.mdr_top.specs.Means.{SplitRunsMean}
use Rattle.mdr_top.specs.Reports.{RanTo}

-- what a run shows over an honest far side
pub outcome_means : (bytes lines : List ℕ) (source : Source) (plan : Plan) (texts : Texts) (script : Bound) (ticks : ℕ) (es : List Exchange) → HasSource bytes source → HasScript source.program lines script → IsCutInto source plan texts
    → (loaded : Option Loaded) (o : Outcome) → IsHonest loaded es → RanTo source.program plan texts script ticks loaded es o → IsFarFault o.end ⊎ IsMeant source.program plan script ticks es o
outcome_means bytes lines source plan texts script ticks es h b c loaded o honest ran = meant_so meaning texts_are_taken bytes lines source plan texts script ticks es h b c loaded o honest ran

pub runs_mean : SplitRunsMean
runs_mean = split_runs_mean meaning texts_are_taken
