-- protocol
-- What texts that are loaded come to, and that those of a source are loaded.
use Rattle.std.specs.Prelude.{◌≡◌, ℕ, List}
use Rattle.mdr_core.specs.declared.plan.Plan.{Plan}
use Rattle.mdr_core.specs.declared.program.Program.{Program}
use Rattle.mdr_core.specs.Sound.{IsSound}
use Rattle.mdr_core.specs.Suited.{IsSuited}
use Rattle.mdr_cut.specs.Cuts.{IsPlanOf}
use Rattle.mdr_half.specs.Halves.{user_text}
use Rattle.mdr_half.specs.Plans.{plan_text}
use Rattle.mdr_model.specs.KernelState.{Reading}
use Rattle.mdr_outside.specs.declared.far.LoadAnswer.{LoadAnswer}
use Rattle.mdr_outside.specs.declared.far.LoadAnswer.TheVariants as loads
use Rattle.mdr_source.specs.declared.outcome.Source.{Source}
use Rattle.mdr_source.specs.Sources.{IsSource}
use Rattle.mdr_split.specs.User.{user_reply}
use Rattle.mdr_watched.specs.Driver.{driver_of}
use Rattle.mdr_honest.specs.Honest.{IsHonestLoad}
use Rattle.mdr_half_source.specs.Loads.{AreRefused, Loads}

-- ---- texts

-- one program and one plan
pub record AreSame (program other : Program) (plan another : Plan) : Type 0 where
  pub programs : program ≡ other
  pub plans : plan ≡ another

-- texts are loaded as one thing
abbrev pub TextsLoadOneThing : Type 0
TextsLoadOneThing = (user text : List ℕ) (program other : Program) (plan another : Plan) → Loads user text program plan → Loads user text other another → AreSame program other plan another

-- and aren't refused then
abbrev pub LoadedTextsAreNotRefused : Type 0
LoadedTextsAreNotRefused = (user text : List ℕ) (program : Program) (plan : Plan) (cause : ℕ) → Loads user text program plan → AreRefused user text cause → ⊥

-- a user half that is loaded: its program is sound, and the plan suits it
pub record IsHalf (program : Program) (plan : Plan) : Type 0 where
  pub sound : IsSound program
  pub suited : IsSuited plan program

abbrev pub LoadedHalvesAreSound : Type 0
LoadedHalvesAreSound = (user text : List ℕ) (program : Program) (plan : Plan) → Loads user text program plan → IsHalf program plan

-- ---- the texts of sources

-- a source without faults, with its plan
pub record IsCut (bytes : List ℕ) (source : Source) (plan : Plan) : Type 0 where
  pub source_is : IsSource bytes source
  pub plan_is : IsPlanOf source.program plan

-- the texts of the user half and of the plan are loaded, and that half gives the replies of the whole program
pub record AreItsHalf (source : Source) (plan : Plan) : Type 0 where
  pub part : Program
  pub loaded : Loads (user_text plan source.tree) (plan_text source.program plan) part plan
  pub replies : (before : List Reading) (last : Reading) → user_reply (driver_of part plan) before last ≡ user_reply (driver_of source.program plan) before last

abbrev pub TextsOfSourcesAreLoaded : Type 0
TextsOfSourcesAreLoaded = (bytes : List ℕ) (source : Source) (plan : Plan) → IsCut bytes source plan → AreItsHalf source plan

-- so an honest far side doesn't refuse them
abbrev pub IsTaken : LoadAnswer → Type 0
IsTaken loads.Ok = Unit {0}
IsTaken (loads.Refused cause) = ⊥
IsTaken loads.Failed = Unit {0}
IsTaken loads.OutOfMemory = ⊥

abbrev pub TextsOfSourcesAreTaken : Type 0
TextsOfSourcesAreTaken = (bytes : List ℕ) (source : Source) (plan : Plan) (answer : LoadAnswer) → IsCut bytes source plan → IsHonestLoad (user_text plan source.tree) (plan_text source.program plan) answer → IsTaken answer
