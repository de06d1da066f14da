-- protocol
-- What is due for a run of a seed's driver and script.
use Rattle.std.specs.Prelude.{◌≡◌, ℕ, List}
use Rattle.mdr_core.specs.declared.program.Program.{Program}
use Rattle.mdr_due.specs.declared.status.Status.{Status}
use Rattle.mdr_due.specs.declared.status.Status.TheVariants as status
use Rattle.mdr_gen.specs.Answer.{answer_text}
use Rattle.mdr_gen.specs.declared.answer.Counts.{Counts}
use Rattle.mdr_model.specs.declared.outcome.End.TheVariants as ends
use Rattle.mdr_outside.specs.declared.far.Exchange.{Exchange}
use Rattle.mdr_outside.specs.Sides.{FarSide}
use Rattle.mdr_plain.specs.declared.outcome.Outcome.{Outcome}
use Rattle.mdr_bound.specs.declared.bound.Bound.{Bound}
use Rattle.mdr_source.specs.declared.outcome.Source.{Source}
use Rattle.mdr_top.specs.Messages.{messages_in}
use Rattle.mdr_top.specs.Reports.{Reported}
use Rattle.mdr_top.specs.SplitRuns.{IsSplitOutcome}
use Rattle.mdr_top.specs.declared.recipe.Recipe.{Recipe}

-- the largest budget
abbrev pub budget : ℕ
budget = 100000000

-- what is counted of a run: its ticks, the messages of both halves, and the blocks that live at its end
abbrev pub counts_of : Outcome → List Exchange → Counts
counts_of o es = record { ticks = o.ticks; messages = messages_in es; live = o.live }

-- the counts are told where the run ended by itself, and its report where it ended otherwise
pub data IsTold (recipe : Recipe) (program : Program) (es : List Exchange) (o : Outcome) (s : Status) (text : List ℕ) : Type 0 where
  counted : o.end ≡ ends.Ok → s ≡ status.Done → text ≡ answer_text recipe.seed recipe.size (counts_of o es) → IsTold recipe program es o s text
  reported : (o.end ≡ ends.Ok → ⊥) → Reported program o s text → IsTold recipe program es o s text

-- the driver is cut, the far side is loaded with its texts and gets the run's messages, and what the run shows is told
pub record IsGeneratedRun (recipe : Recipe) (source : Source) (script : Bound) (far far' : FarSide) (s : Status) (text : List ℕ) : Type 0 where
  pub outcome : Outcome
  pub run : IsSplitOutcome source script budget far far' outcome
  pub told : IsTold recipe source.program far'.exchanges outcome s text
