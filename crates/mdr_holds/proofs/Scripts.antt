-- Commands and whole runs leave states that hold.
use Rattle.std.proofs.Common.{◌≡◌, ℕ, false, List, refl, subst, sym}
use Rattle.mdr_core.specs.declared.program.Func.{Func}
use Rattle.mdr_core.specs.declared.program.Program.{Program}
use Rattle.mdr_core.specs.Sound.{IsSound}
use Rattle.mdr_meaning.specs.declared.wire.Wire.{Wire}
use Rattle.mdr_meaning.specs.Fit.{Knowledge}
use Rattle.mdr_meaning.specs.Numbers.{Numbered}
use Rattle.mdr_meaning.specs.Sides.{Side}
use Rattle.mdr_meaning.specs.Within.{Uses}
use Rattle.mdr_model.specs.declared.command.Command.{Command}
use Rattle.mdr_plain.specs.Plain.{entered, never, plain_of, whole}
use Rattle.mdr_plain.specs.Running.{Crossing, call, interrupts}
use Rattle.mdr_plain.specs.Scripts.{first_world}
use Rattle.mdr_plain.specs.Storage.{next_serial}
use Rattle.mdr_plain.specs.World.{Ran, World}
use Rattle.mdr_bound.specs.declared.bound.Bound.{Bound}
use Rattle.mdr_watched.specs.Driver.{Driver, is_user}
use Rattle.mdr_watched.specs.Watched.{backs, does_with, held, kernel_of, kernel_with, may_not, upcall, watched_of}
use Rattle.mdr_holds.specs.Holding.{Holds, first_knowledge}
use Rattle.mdr_holds.specs.Laws.{CallsAcross, CommandsLeave, IsCalled, IsCode, IsCommand, IsDriver, IsScript, RunsHold, TakesFirst, noted_command}
use Rattle.mdr_holds.specs.Leaving.{IsAsBefore, Later, Leads, Returns}
use Rattle.mdr_holds.proofs.Commands.{begins_right, commands_hold, does_leads, noted_holds, returned_leads}
use Rattle.mdr_holds.proofs.First.{first_holds}
use Rattle.mdr_holds.proofs.Kernel.{called, may_not_across, never_across, tried}
use Rattle.mdr_holds.proofs.User.{back_leaves, upcall_leaves}

-- a driver, whose kernel half calls back so
module _ (d : Driver) (uses : Uses) (driver : IsDriver d uses) (crosses : Crossing) (across : CallsAcross d.program uses crosses) where
  abbrev enters : (func : ℕ) (args : List Wire) → World → Ran Wire
  enters f args w = call (kernel_with d crosses) (interrupts (kernel_of d)) f args 0 w

  abbrev opens : (func : ℕ) (args : List Wire) → World → Ran Wire
  opens f args w = upcall d (held d) crosses f args 0 w

  pub enters_leave : (K : Knowledge) (w : World) → K.uses ≡ uses → Holds d.program K w → (f : ℕ) (func : Func) (args : List Wire) → IsCalled d.program K f func args → Returns d.program (next_serial w) func.result K w (enters f args w)
  enters_leave K w same h f func args c =
      called d.program driver.sound uses d.kernel driver.kernel crosses across (interrupts (kernel_of d)) (tried d.program driver.sound uses d.kernel driver.kernel may_not (may_not_across d.program uses)) K w same h f func args 0 c

  pub opens_leave : (K : Knowledge) (w : World) → K.uses ≡ uses → Holds d.program K w → (f : ℕ) (func : Func) (args : List Wire) → IsCalled d.program K f func args → Returns d.program (next_serial w) func.result K w (opens f args w)
  opens_leave K w same h f func args c = upcall_leaves d uses driver crosses across f func args 0 K w same h c

  pub command_leads : (K : Knowledge) (w : World) → K.uses ≡ uses → Holds d.program K w → (c : Command) → IsCommand d.program c
      → Leads (Later d.program (next_serial (noted_command d.program c w)) K (noted_command d.program c w)) (λ K' x w'. IsAsBefore (noted_command d.program c w) w') (does_with d (held d) crosses c w)
  command_leads K w same h c r = does_leads d.program driver.sound uses d.kernel driver.kernel may_not (may_not_across d.program uses) (is_user d.plan) enters opens enters_leave opens_leave K w same h c r

pub commands_leave : CommandsLeave
commands_leave = record {
  first = first_holds;
  noted = noted_holds;
  begins = λ d uses driver K w same h c r. begins_right d.program driver.sound uses d.kernel driver.kernel may_not (may_not_across d.program uses) (is_user d.plan) K w same h c r;
  entered = λ d uses driver crosses across K w same h f func args c.
      returned_leads d.program driver.sound uses d.kernel driver.kernel may_not (may_not_across d.program uses) K w same func.result _ (enters_leave d uses driver crosses across K w same h f func args c);
  done = λ d uses driver K w same h c r. command_leads d uses driver (backs d (held d)) (back_leaves d uses driver 256) K w same h c r;
}

watched_holds : (d : Driver) (uses : Uses) → IsDriver d uses → TakesFirst d.program uses → (script : Bound) → IsScript d.program script → (budget : ℕ) → (K : Knowledge) × Holds d.program K (watched_of d script budget).world
unfolding watched_of
watched_holds d uses driver first script fits budget =
    let crosses : Crossing = backs d (held d) in
    let across : CallsAcross d.program uses crosses = back_leaves d uses driver 256 in
    commands_hold d.program driver.sound uses d.kernel driver.kernel may_not (may_not_across d.program uses) (is_user d.plan) (enters d uses driver crosses across) (opens d uses driver crosses across)
    (enters_leave d uses driver crosses across) (opens_leave d uses driver crosses across) script.commands (first_knowledge d.program uses) (first_world d.kernel.known script budget) refl
    (subst (λ (known : Numbered). Holds d.program (first_knowledge d.program uses) (first_world known script budget)) (sym driver.kernel.bodies.known) (first_holds d.program driver.sound uses first script fits budget)) fits.commands

plain_holds : (program : Program) → IsSound program → (uses : Uses) (side : Side) → IsCode program uses side → TakesFirst program uses → (script : Bound) → IsScript program script → (budget : ℕ) → (K : Knowledge) × Holds program K (plain_of program side script budget).world
unfolding plain_of
plain_holds program sound uses side code first script fits budget =
    commands_hold program sound uses side code never (never_across program uses) (λ f. false) (entered (whole program side)) (entered (whole program side))
    (λ K w same h f func args c. called program sound uses side code never (never_across program uses) (interrupts (whole program side)) (tried program sound uses side code never (never_across program uses)) K w same h f func args 0 c)
    (λ K w same h f func args c. called program sound uses side code never (never_across program uses) (interrupts (whole program side)) (tried program sound uses side code never (never_across program uses)) K w same h f func args 0 c) script.commands
    (first_knowledge program uses) (first_world side.known script budget) refl
    (subst (λ (known : Numbered). Holds program (first_knowledge program uses) (first_world known script budget)) (sym code.bodies.known) (first_holds program sound uses first script fits budget)) fits.commands

pub runs_hold : RunsHold
runs_hold = record { watched = watched_holds; plain = plain_holds }
