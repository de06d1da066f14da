-- What is open behind an event, with the upcalls below.
use Rattle.std.proofs.Common.{◌≡◌, ℕ, List, [], ◌∷◌, refl}
use Rattle.mdr_events.specs.declared.event.Event.{Event}
use Rattle.mdr_events.specs.declared.event.Event.TheVariants as event
use Rattle.mdr_model.specs.declared.memory.Cell.{Cell}
use Rattle.mdr_split.specs.User.{User, resting}
use Rattle.mdr_user_memory.specs.Kept.{Kept}
use Rattle.mdr_watched.specs.Driver.{Driver}
use Rattle.mdr_user_code.specs.declared.state.Awaits.TheVariants as awaits
use Rattle.mdr_user_code.specs.declared.state.State.{State}
use Rattle.mdr_user_code.specs.declared.state.Suspended.{Suspended}
use Rattle.mdr_user_code.specs.Replying.{rested_by, state_behind}
use Rattle.mdr_user_code.specs.Standing.{Opens, downs_of, kept_by, opens_below, user_of}

-- memory and view are put apart from it
rested_so : (b : List Suspended) (s : State) (k : Kept) (view : List Cell) → record (rested_by b s) { memory = k; view = view } ≡ rested_by b (record s { memory = k; view = view })
rested_so [] s k view = refl
rested_so (x ∷ b) s k view = refl

pub settled_so : (left : ℕ) (e : Event) (s : State) (k : Kept) (view : List Cell) → record (state_behind left e s) { memory = k; view = view } ≡ state_behind left e (record s { memory = k; view = view })
settled_so left (event.Done v) s k view = rested_so s.below s k view
settled_so left (event.Cross c) s k view = refl
settled_so left (event.Service q) s k view = refl
settled_so left (event.TicksOut at) s k view = refl
settled_so left (event.Stop kind at) s k view = refl

-- ---- where an upcall ended

pub rested_user : (d : Driver) (fuel : ℕ) (b : List Suspended) (s : State) → user_of d fuel (rested_by b s) ≡ record { agreed = s.memory.agreed; entered = s.entered; work = resting (downs_of d fuel b) }
rested_user d fuel [] s = refl
rested_user d fuel (x ∷ b) s = refl

pub rested_kept : (b : List Suspended) (s : State) → kept_by (rested_by b s).awaits ≡ 0
rested_kept [] s = refl
rested_kept (x ∷ b) s = refl

pub rested_opens : (d : Driver) (b : List Suspended) (s : State) → opens_below d b → Opens d (rested_by b s)
rested_opens d [] s o = (tt, tt)
rested_opens d (x ∷ b) s o = o
