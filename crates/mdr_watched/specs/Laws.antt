-- for proofs
-- Laws of watched runs.
use Rattle.std.specs.Prelude.{◌≡◌, ◌↔◌, ◌<◌, ℕ, true, false, List, [], ◌∷◌, length, None, Err}
use Rattle.mdr_access.specs.Keys.{AreKeys, HasEach, IsPlan}
use Rattle.mdr_core.specs.declared.plan.Plan.{Plan}
use Rattle.mdr_core.specs.declared.program.Program.{Program}
use Rattle.mdr_core.specs.declared.stop.StopKind.TheVariants as stop
use Rattle.mdr_meaning.specs.declared.wire.Wire.{Wire}
use Rattle.mdr_model.specs.declared.outcome.End.TheVariants as ends
use Rattle.mdr_slice.specs.declared.halves.Halves.{Halves}
use Rattle.mdr_meaning.specs.declared.wire.Wire.TheVariants as wire
use Rattle.mdr_meaning.specs.declared.wire.WireView.{WireView}
use Rattle.mdr_model.specs.declared.memory.Cell.{Cell}
use Rattle.mdr_model.specs.Memory.{cell_of, is_live, reached}
use Rattle.mdr_plain.specs.Gate.{due}
use Rattle.mdr_plain.specs.Storage.{died}
use Rattle.mdr_plain.specs.World.{World, Ended}
use Rattle.mdr_bound.specs.declared.bound.Bound.{Bound}
use Rattle.mdr_watched.specs.Driver.{Driver, is_user, touched_by}
use Rattle.mdr_watched.specs.Kept.{KeptOf, followed_of}
use Rattle.mdr_watched.specs.Views.{may_touch}
use Rattle.mdr_watched.specs.Watched.{calls_back, held, upcall, watched_of}

-- while an upcall is open no interrupt is due
abbrev pub InterruptsWait : Type 0
InterruptsWait = (w : World) (set : List Cell) (sets : List (List Cell)) → w.views ≡ set ∷ sets → due w ≡ None

-- a pointer to a live block, with its index in range, whose cell is in no visible set of the innermost upcall
pub record Leaves (w : World) (p : WireView) : Type 0 where
  pub live : is_live w.memory p.serial ≡ true
  pub inside : p.index < p.count
  pub outside : may_touch w (cell_of p) ≡ false

-- no cell of a block that died may be touched, whatever the set was
abbrev pub TheDeadLeave : Type 0
TheDeadLeave = (w : World) (serial : ℕ) (c : Cell) → may_touch (died serial w) c ≡ true → c.serial ≡ serial → ⊥

-- where annotations are kept and no interrupt meets user code, holding interrupts back changes nothing
abbrev pub KeptRunsAgree : Type 0
KeptRunsAgree = (d : Driver) (script : Bound) (budget : ℕ) → KeptOf d script budget → watched_of d script budget ≡ followed_of d script budget

-- user code that follows a pointer outside its set stops, where the block lives and the index is in range; so the other stops of an access come first
abbrev pub AccessesAreHeld : Type 0
AccessesAreHeld = (w : World) (p : WireView) → (reached (may_touch w) w.memory (wire.Ptr p) ≡ Err stop.Annotation) ↔ Leaves w p

-- an upcall that ended leaves as many sets as there were before it: its own is gone
abbrev pub UpcallsClose : Type 0
UpcallsClose = (d : Driver) (room f : ℕ) (args : List Wire) (depth : ℕ) (w : World) (v : Wire) (w' : World) → upcall d (held d) (calls_back d (held d) room) f args depth w ≡ Ended v w' → length w'.views ≡ length w.views

-- so there is none behind a run that meets no stop, and interrupts are tried as in a plain run behind each upcall
abbrev pub NoSetIsLeft : Type 0
NoSetIsLeft = (d : Driver) (script : Bound) (budget : ℕ) → (watched_of d script budget).end ≡ ends.Ok → (watched_of d script budget).world.views ≡ []

-- a plan's keys of a function of the user half are those of S(t)
abbrev pub KeysAreTouched : Type 0
KeysAreTouched = (program : Program) (halves : Halves) (plan : Plan) (t : ℕ) → HasEach program halves → IsPlan program halves plan → is_user plan t ≡ true
    → AreKeys program halves.halves t (touched_by plan t)
