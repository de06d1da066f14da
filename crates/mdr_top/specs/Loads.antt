-- believed
-- What the far side gets.
use Rattle.std.specs.Prelude.{◌≡◌, ℕ, List, ◌++◌}
use Rattle.mdr_core.specs.declared.plan.Plan.{Plan}
use Rattle.mdr_core.specs.declared.program.Program.{Program}
use Rattle.mdr_cut.specs.declared.texts.Texts.{Texts}
use Rattle.mdr_exchanges.specs.Calls.{IsPart, sends}
use Rattle.mdr_outside.specs.Calls.{FarCall, Loads, and_then}
use Rattle.mdr_outside.specs.declared.far.Exchange.{Exchange}
use Rattle.mdr_bound.specs.declared.bound.Bound.{Bound}
use Rattle.mdr_watched.specs.Driver.{driver_of}

-- it was loaded once, with the texts of the user half and of the plan, and then got messages
abbrev pub LoadedOnce : Texts → (old new : List FarCall) → (sent : List (List ℕ)) → Type 0
LoadedOnce texts old new sent = new ≡ and_then old (Loads texts.user texts.plan) ++ sends sent

-- messages were sent that are a beginning of the run's
pub record SentPart (program : Program) (plan : Plan) (script : Bound) (ticks : ℕ) (old new : List FarCall) (es : List Exchange) : Type 0 where
  pub sent : List (List ℕ)
  pub sends : new ≡ old ++ sends sent
  pub part : IsPart (driver_of program plan) script ticks es sent

-- it was loaded once, and then got a beginning of the run's messages
pub record LoadedPart (program : Program) (plan : Plan) (texts : Texts) (script : Bound) (ticks : ℕ) (old new : List FarCall) (es : List Exchange) : Type 0 where
  pub sent : List (List ℕ)
  pub loads : LoadedOnce texts old new sent
  pub part : IsPart (driver_of program plan) script ticks es sent
