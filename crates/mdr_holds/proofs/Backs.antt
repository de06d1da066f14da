-- Where code of the kernel half calls nothing back, it is no matter what calls back do.
use Rattle.std.proofs.Common.{◌≡◌, ℕ, suc, ◌+◌, Bool, true, false, List, [], ◌∷◌, map, Result, Some, Ok, Err, refl, sym, ◌∙◌, ap, subst, arith}
use Rattle.mdr_core.specs.declared.program.Func.{Func}
use Rattle.mdr_core.specs.declared.program.Param.{Param}
use Rattle.mdr_extents.specs.Reaching.{Failing, visible}
use Rattle.mdr_meaning.specs.declared.wire.Wire.{Wire}
use Rattle.mdr_meaning.specs.Bodies.{started}
use Rattle.mdr_meaning.specs.Fit.{Knowledge}
use Rattle.mdr_meaning.specs.Numbers.{Numbered}
use Rattle.mdr_meaning.specs.Sides.{Body}
use Rattle.mdr_meaning.specs.Tree.{Tree}
use Rattle.mdr_meaning.specs.Values.{wire_of}
use Rattle.mdr_meaning.specs.Within.{Uses}
use Rattle.mdr_model.specs.declared.command.Command.{Command}
use Rattle.mdr_model.specs.declared.command.Command.TheVariants as command
use Rattle.mdr_model.specs.declared.memory.Cell.{Cell}
use Rattle.mdr_model.specs.Memory.{normal}
use Rattle.mdr_bound.specs.declared.bound.Bound.{Bound}
use Rattle.mdr_plain.specs.Running.{Crossing, all_cells, call, interrupts, nothing}
use Rattle.mdr_plain.specs.Scripts.{Finish, and_then, begin, begun, called_by, commands, first_world, in_place, returned}
use Rattle.mdr_plain.specs.Services.{served}
use Rattle.mdr_plain.specs.Storage.{next_serial}
use Rattle.mdr_plain.specs.World.{Work, World, after}
use Rattle.mdr_watched.specs.Driver.{Driver, entry_roots, is_user, touched_by}
use Rattle.mdr_watched.specs.Views.{may_touch, opened, taken}
use Rattle.mdr_watched.specs.Watched.{backs, closing, does, does_with, downcall, entered, held, kernel_of, kernel_with, may_not, returns_to, serves, upcall, watched_of}
use Rattle.mdr_watched.proofs.MemoryOrder.{order_kept_around}
use Rattle.mdr_holds.specs.Holding.{Holds, first_knowledge}
use Rattle.mdr_holds.specs.Laws.{AgreeAround, AreCommands, CallsAcross, CallsBackAreNone, CallsItself, HaveHalves, IsCalled, IsCommand, IsDriver, IsScript, TakesFirst, noted_command}
use Rattle.mdr_holds.specs.Leaving.{IsAsBefore, Later, Leads, ended, stopped}
use Rattle.mdr_holds.proofs.Commands.{noted_holds}
use Rattle.mdr_holds.proofs.First.{first_holds}
use Rattle.mdr_holds.proofs.Fitting.{all_now}
use Rattle.mdr_holds.proofs.Kernel.{may_not_across, start_fair, with_interrupts}
use Rattle.mdr_holds.proofs.Memories.{globals_known}
use Rattle.mdr_holds.proofs.Running.{code_agrees, code_stays}
use Rattle.mdr_holds.proofs.Scripts.{command_leads}
use Rattle.mdr_holds.proofs.Steps.{in_order}
use Rattle.mdr_holds.proofs.User.{around_user, back_leaves, views_later}

module _ (d : Driver) (uses : Uses) (driver : IsDriver d uses) (itself : CallsItself uses d.kernel) where
  -- ---- kernel code

  called_same : (crosses other : Crossing) → CallsAcross d.program uses crosses → (K : Knowledge) (w : World) → K.uses ≡ uses → Holds d.program K w
      → (f : ℕ) (func : Func) (args : List Wire) (depth : ℕ) → IsCalled d.program K f func args → (body : Body) → d.kernel.own f ≡ Some body
      → call (kernel_with d crosses) (interrupts (kernel_of d)) f args depth w ≡ call (kernel_with d other) (interrupts (kernel_of d)) f args depth w
  unfolding call
  called_same crosses other across K w same h f func args depth c body own =
      code_stays d.program driver.sound uses (served d.program) crosses (interrupts (kernel_of d)) (with_interrupts d.program driver.sound uses d.kernel driver.kernel may_not (may_not_across d.program uses) crosses across) all_cells (suc depth + 256) d.kernel itself
      func.result K w (next_serial w) [] (started d.kernel (suc w.clock.rest) f args depth Tree.Idle) same h (omega arith) tt (start_fair d.program driver.sound uses d.kernel driver.kernel K w same h f func args depth c body own (suc w.clock.rest)) other

  module _ (halves : HaveHalves d) (crosses other : Crossing) (across : CallsAcross d.program uses crosses) where
    -- ---- upcalls

    down_same : (t : ℕ) → AgreeAround d.program uses d.user (serves d (held d) t) (downcall d (held d) t crosses) nothing (serves d (held d) t) (downcall d (held d) t other) nothing
    down_same t = record {
      serve = λ K w same h from live remains a s early objects names ask parts. refl;
      cross = λ K w same h at f args depth func place none c.
          let owned : (body : Body) × (d.kernel.own f ≡ Some body) = halves.across f func c.names none in
          ap (λ r. after r (λ v w'. returns_to d (held d) t at f (map (normal w.memory) args) v w'))
          (called_same crosses other across K w same h f func (map (normal w.memory) args) depth (record { names = c.names; fit = all_now d.program K w.memory args (map (λ (p : Param). p.ty) func.params) c.fit }) owned.0 owned.1);
      tries = λ K w same h depth. refl;
    }

    upcall_same : (K : Knowledge) (w : World) → K.uses ≡ uses → Holds d.program K w → (f : ℕ) (func : Func) (args : List Wire) (depth : ℕ) → IsCalled d.program K f func args → (body : Body) → d.user.own f ≡ Some body
        → upcall d (held d) crosses f args depth w ≡ upcall d (held d) other f args depth w
    unfolding upcall
    upcall_same K w same h f func args depth c body own = by_set (visible d.program (touched_by d.plan f) w.memory [] (entry_roots d.program f args)) refl where
      by_set : (r : Result (List Cell) Failing) → visible d.program (touched_by d.plan f) w.memory [] (entry_roots d.program f args) ≡ r
          → taken r (record { func = f; stmt = 0 }) w (λ set. entered d (held d) crosses f args depth set w) ≡ taken r (record { func = f; stmt = 0 }) w (λ set. entered d (held d) other f args depth set w)
      by_set (Ok set) e =
          let order = order_kept_around.opens d.program (touched_by d.plan f) [] (entry_roots d.program f args) set w e (in_order d.program K w h) in
          let open_now : Later d.program (next_serial w) K w K (opened set w) = views_later d.program (next_serial w) K w _ h order.live in
          ap (λ r. closing r)
          (code_agrees d.program driver.sound uses (serves d (held d) f) (downcall d (held d) f crosses) nothing (around_user d uses driver crosses across f) may_touch (suc depth + 256) d.user func.result K (opened set w) (next_serial (opened set w)) []
          (started d.user (suc w.clock.rest) f args depth Tree.Idle) same open_now.holds (omega arith) tt
          (start_fair d.program driver.sound uses d.user driver.user K (opened set w) same open_now.holds f func args depth c body own (suc w.clock.rest))
          (serves d (held d) f) (downcall d (held d) f other) nothing (down_same f))
      by_set (Err failing) e = refl

    -- ---- commands

    begun_same : (K : Knowledge) (w : World) → K.uses ≡ uses → Holds d.program K w → (f : ℕ) (func : Func) (args : List Wire) → IsCalled d.program K f func args → (user : Bool) → is_user d.plan f ≡ user
        → in_place (kernel_of d) (λ g vs w'. call (kernel_with d crosses) (interrupts (kernel_of d)) g vs 0 w') (λ g vs w'. upcall d (held d) crosses g vs 0 w') (called_by user (kernel_of d) f args w)
        ≡ in_place (kernel_of d) (λ g vs w'. call (kernel_with d other) (interrupts (kernel_of d)) g vs 0 w') (λ g vs w'. upcall d (held d) other g vs 0 w') (called_by user (kernel_of d) f args w)
    begun_same K w same h f func args c true e =
        let owned : (body : Body) × (d.user.own f ≡ Some body) = halves.user f func c.names e in
        ap (λ r. returned (interrupts (kernel_of d)) r) (upcall_same K w same h f func args 0 c owned.0 owned.1)
    begun_same K w same h f func args c false e =
        let owned : (body : Body) × (d.kernel.own f ≡ Some body) = halves.kernel f func c.names e in
        ap (λ r. returned (interrupts (kernel_of d)) r) (called_same crosses other across K w same h f func args 0 c owned.0 owned.1)

    does_same : (K : Knowledge) (w : World) → K.uses ≡ uses → Holds d.program K w → (c : Command) → IsCommand d.program c → does_with d (held d) crosses c w ≡ does_with d (held d) other c w
    unfolding begin
    does_same K w same h (command.Call f args) c =
        let holds : Holds d.program K (begun d.program f args w) = noted_holds d.program K w (command.Call f args) h in
        begun_same K (begun d.program f args w) same holds f c.0 (map wire_of args) (record { names = c.1; fit = c.2 K (globals_known d.program K w.memory h.memory) }) (is_user d.plan f) refl
    does_same K w same h (command.Idle n) c = refl
    does_same K w same h (command.Show g) c = refl
    does_same K w same h (command.Poke serial index n) c = refl
    does_same K w same h (command.Say text) c = refl

  -- ---- whole runs

  goes_same : (K : Knowledge) (w : World) → K.uses ≡ uses → (r : Work) → Leads (Later d.program (next_serial w) K w) (λ K' x w'. IsAsBefore w w') r
      → (go go' : World → Finish) → ((K' : Knowledge) (w' : World) → K'.uses ≡ uses → Holds d.program K' w' → go w' ≡ go' w') → and_then r go ≡ and_then r go'
  goes_same K w same _ (ended K' x w' l g) go go' each = each K' w' (l.grows.same ∙ same) l.holds
  goes_same K w same _ (stopped K' kind at w' l) go go' each = refl

  module _ (halves : HaveHalves d) where
    commands_same : (cs : List Command) (K : Knowledge) (w : World) → K.uses ≡ uses → Holds d.program K w → AreCommands d.program cs → commands (does d (held d)) cs w ≡ commands (does_with d (held d) may_not) cs w
    unfolding commands
    commands_same [] K w same h r = refl
    commands_same (c ∷ cs) K w same h r =
        ap (λ (x : Work). and_then x (λ w'. commands (does d (held d)) cs w')) (does_same halves (backs d (held d)) may_not (back_leaves d uses driver 256) K w same h c r.0)
        ∙ goes_same K (noted_command d.program c w) same (does_with d (held d) may_not c w) (command_leads d uses driver may_not (may_not_across d.program uses) K w same h c r.0) _ _ (λ K' w' same' h'. commands_same cs K' w' same' h' r.1)

watched_same : (d : Driver) (uses : Uses) → IsDriver d uses → CallsItself uses d.kernel → HaveHalves d → TakesFirst d.program uses → (script : Bound) → IsScript d.program script → (budget : ℕ)
    → watched_of d script budget ≡ commands (does_with d (held d) may_not) script.commands (first_world d.kernel.known script budget)
unfolding watched_of
watched_same d uses driver itself halves first script fits budget =
    commands_same d uses driver itself halves script.commands (first_knowledge d.program uses) (first_world d.kernel.known script budget) refl
    (subst (λ (known : Numbered). Holds d.program (first_knowledge d.program uses) (first_world known script budget)) (sym driver.kernel.bodies.known) (first_holds d.program driver.sound uses first script fits budget)) fits.commands

pub calls_back_are_none : CallsBackAreNone
calls_back_are_none = record {
  called = λ d uses driver itself crosses other across K w same h f func args depth c body own. called_same d uses driver itself crosses other across K w same h f func args depth c body own;
  upcall = λ d uses driver itself halves crosses other across K w same h f func args depth c body own. upcall_same d uses driver itself halves crosses other across K w same h f func args depth c body own;
  does = λ d uses driver itself halves crosses other across K w same h c r. does_same d uses driver itself halves crosses other across K w same h c r;
  watched = watched_same;
}
