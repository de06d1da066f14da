-- for proofs
-- What a run over an honest far side means.
use Rattle.std.specs.Prelude.{◌≡◌, ℕ, ◌⊎◌, List, Some}
use Rattle.mdr_core.specs.declared.plan.Plan.{Plan}
use Rattle.mdr_half.specs.Halves.{user_text}
use Rattle.mdr_half.specs.Plans.{plan_text}
use Rattle.mdr_outside.specs.declared.far.Exchange.{Exchange}
use Rattle.mdr_outside.specs.declared.far.Loaded.{Loaded}
use Rattle.mdr_plain.specs.declared.outcome.Outcome.{Outcome}
use Rattle.mdr_exchanges.specs.Meanings.{IsMeant}
use Rattle.mdr_exchanges.specs.Runs.{IsFarFault, IsRun}
use Rattle.mdr_bound.specs.declared.bound.Bound.{Bound}
use Rattle.mdr_source.specs.declared.outcome.Source.{Source}
use Rattle.mdr_watched.specs.Driver.{driver_of}
use Rattle.mdr_honest.specs.Honest.{IsHonest}
use Rattle.mdr_honest.specs.Loading.{IsCut}
use Rattle.mdr_honest.specs.Scripts.{IsScriptFor}

-- the far side was loaded with the texts of the user half and of the plan that the source is cut into
pub record HasTexts (source : Source) (plan : Plan) (l : Loaded) : Type 0 where
  pub user_is : l.user ≡ user_text plan source.tree
  pub plan_is : l.plan ≡ plan_text source.program plan

-- a run of a source without faults and a script that is bound to it, over a far side that was loaded with the source's texts and is honest, means what one memory does, or the far side failed
abbrev pub RunIsMeaning : Type 0
RunIsMeaning =
    (bytes script_bytes : List ℕ) (source : Source) (plan : Plan) (script : Bound) (budget : ℕ) (l : Loaded) (es : List Exchange) (o : Outcome)
    → IsCut bytes source plan → IsScriptFor source.program script_bytes script → HasTexts source plan l → IsHonest (Some l) es → IsRun (driver_of source.program plan) script budget es o
    → IsFarFault o.end ⊎ IsMeant source.program plan script budget es o
