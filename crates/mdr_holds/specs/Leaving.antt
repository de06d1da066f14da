-- believed
-- What a piece of work leaves of a run's state.
use Rattle.std.specs.Prelude.{◌≡◌, ℕ, suc, ◌+◌, ◌<◌, ◌≤◌, false, List, [], ◌∷◌, map, Option, Some}
use Rattle.mdr_core.specs.declared.place.At.{At}
use Rattle.mdr_core.specs.declared.program.Program.{Program}
use Rattle.mdr_core.specs.declared.stop.StopKind.{StopKind}
use Rattle.mdr_core.specs.declared.types.Ty.{Ty}
use Rattle.mdr_meaning.specs.declared.wire.Wire.{Wire}
use Rattle.mdr_meaning.specs.Fit.{Knowledge, Grows, IsResult}
use Rattle.mdr_model.specs.declared.message.BirthKind.TheVariants.{Auto}
use Rattle.mdr_model.specs.declared.message.New.{New}
use Rattle.mdr_model.specs.Agreement.{MayFollow}
use Rattle.mdr_model.specs.Memory.{Memory, born_at}
use Rattle.mdr_plain.specs.Services.{is_heap}
use Rattle.mdr_plain.specs.Storage.{next_serial, pointer_to}
use Rattle.mdr_plain.specs.World.{World, Ran, Ended, Stopped}
use Rattle.mdr_watched.specs.Views.{living}
use Rattle.mdr_holds.specs.Holding.{Holds}

-- ---- objects of locals

-- a pointer to an object of a local as a whole, which lives, and was born when the next serial was this one, or later
pub record IsObject (m : Memory) (from : ℕ) (v : Wire) : Type 0 where
  pub block : New
  pub is : v ≡ pointer_to block
  pub live : born_at m block.serial ≡ Some block
  pub auto : block.kind ≡ Auto
  pub later : from ≤ block.serial

-- objects that live, in the order of their births
abbrev pub AreObjects : Memory → (from : ℕ) → List Wire → Type 0
AreObjects m from [] = Unit {0}
AreObjects m from (v ∷ vs) = (o : IsObject m from v) × AreObjects m (suc o.block.serial) vs

-- ---- how a run has gone on

-- more is known, and the state holds; old blocks died or are as they were, and of those with serials below `from` only allocated ones died; ticks passed as the budget went down, and no command began
pub record Later (program : Program) (from : ℕ) (K : Knowledge) (w : World) (K' : Knowledge) (w' : World) : Type 0 where
  pub grows : Grows K K'
  pub holds : Holds program K' w'
  pub follows : MayFollow program (next_serial w) w.memory (next_serial w') w'.memory
  pub stays : (serial : ℕ) (b : New) → serial < from → born_at w.memory serial ≡ Some b → is_heap b.kind ≡ false → born_at w'.memory serial ≡ Some b
  pub time : w'.clock.ticks + w'.clock.rest ≡ w.clock.ticks + w.clock.rest
  pub later : w.clock.ticks ≤ w'.clock.ticks
  pub calls : w'.kept.calls ≡ w.kept.calls

-- whether a handler runs is as it was
abbrev pub IsAsBefore : World → World → Type 0
IsAsBefore w w' = w'.kept.in_handler ≡ w.kept.in_handler

-- the visible sets are the old ones, without the cells of blocks that died
abbrev pub ViewsStay : World → World → Type 0
ViewsStay w w' = w'.views ≡ map (living w'.memory) w.views

-- ---- where work leads

-- to an end with a result, or to a stop; each leaves a state
pub data Leads {A : Type 0} (Left : Knowledge → World → Type 0) (Gives : Knowledge → A → World → Type 0) : Ran A → Type 0 where
  ended : (K : Knowledge) (x : A) (w : World) → Left K w → Gives K x w → Leads Left Gives (Ended x w)
  stopped : (K : Knowledge) (kind : StopKind) (at : Option At) (w : World) → Left K w → Leads Left Gives (Stopped kind at w)

-- code that was begun in a state ends with a result of this type
pub record GivesResult (program : Program) (result : Ty) (w : World) (K' : Knowledge) (v : Wire) (w' : World) : Type 0 where
  pub fits : IsResult program K' result v
  pub handling : IsAsBefore w w'

-- code that is called, and ended or stopped
abbrev pub Returns : Program → (from : ℕ) → (result : Ty) → Knowledge → World → Ran Wire → Type 0
Returns program from result K w ran = Leads (Later program from K w) (GivesResult program result w) ran
