-- What is tried before a tick gives no tick back.
use Rattle.std.proofs.Common.{ℕ, ◌≤◌, Bool, true, false, Option, Some, None, [], suc, le_refl}
use Rattle.mdr_core.specs.declared.program.Program.{Program}
use Rattle.mdr_meaning.specs.declared.wire.Wire.{Wire}
use Rattle.mdr_meaning.specs.Bodies.{started}
use Rattle.mdr_meaning.specs.Sides.{Side}
use Rattle.mdr_meaning.specs.Tree.{Tree}
use Rattle.mdr_plain.specs.Gate.{due}
use Rattle.mdr_plain.specs.Laws.{GivesNoTicks}
use Rattle.mdr_plain.specs.Running.{call, handled, handling, interrupted, interrupts, nothing}
use Rattle.mdr_plain.specs.World.{World, Ran, Ended, Stopped, after, done, left}
use Rattle.mdr_runs.specs.Following.{code_by, setting_by, tried_by}
use Rattle.mdr_runs.proofs.Around.{kernel_keeps_ticks, runs_keep_ticks}

nothing_gives : GivesNoTicks nothing
nothing_gives d w = le_refl w.clock.rest

after_handler : (r : ℕ) (ran : Ran Wire) → (left ran).clock.rest ≤ r → (left (after ran (λ v w. done (handling false w)))).clock.rest ≤ r
after_handler r (Ended v w) h = h
after_handler r (Stopped kind at w) h = h

handlers_give_none : (program : Program) (half : Bool) (side : Side) (d : ℕ) (o : Option ℕ) (w : World) → (left (handled (code_by program half side) d o w)).clock.rest ≤ w.clock.rest
unfolding call
handlers_give_none program half side d None w = le_refl w.clock.rest
handlers_give_none program half side d (Some f) w =
    after_handler w.clock.rest (call (code_by program half side) nothing f [] d (interrupted f w))
    (runs_keep_ticks (setting_by program half) nothing (kernel_keeps_ticks program half) nothing_gives (started side (suc w.clock.rest) f [] d Tree.Idle) (interrupted f w))

pub tries_give_none : (tries : Bool) (program : Program) (half : Bool) (side : Side) → GivesNoTicks (tried_by tries program half side)
unfolding interrupts
tries_give_none true program half side d w = handlers_give_none program half side d (due w) w
tries_give_none false program half side d w = le_refl w.clock.rest
