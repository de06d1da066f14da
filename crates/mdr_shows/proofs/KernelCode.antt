-- What code of the kernel half leaves of memory.
use Rattle.std.proofs.Common.{ℕ, zero, suc, List, [], Option, Some, None, Result, Ok, Err}
use Rattle.mdr_core.specs.declared.place.At.{At}
use Rattle.mdr_core.specs.declared.program.Program.{Program}
use Rattle.mdr_core.specs.declared.stop.StopKind.{StopKind}
use Rattle.mdr_meaning.specs.declared.wire.Wire.{Wire}
use Rattle.mdr_meaning.specs.Tree.{Tree}
use Rattle.mdr_model.specs.declared.memory.Cell.{Cell}
use Rattle.mdr_model.specs.declared.message.BirthKind.TheVariants.{Auto}
use Rattle.mdr_model.specs.Agreement.{IsBelow, IsFormed, MayFollow}
use Rattle.mdr_model.specs.Memory.{reached, stored, stored_into}
use Rattle.mdr_model.proofs.KernelSteps.{steps_may_follow}
use Rattle.mdr_plain.specs.Gate.{due}
use Rattle.mdr_plain.specs.Running.{Before, all_cells, call, handled, in_kernel, interrupted, interrupts, nothing, run}
use Rattle.mdr_plain.specs.Services.{served}
use Rattle.mdr_plain.specs.Storage.{births, deaths, next_serial, remembers}
use Rattle.mdr_plain.specs.World.{World, Ran, Ended, Stopped, Work, advanced, after, counted, given, left, then}
use Rattle.mdr_watched.specs.Driver.{Driver}
use Rattle.mdr_watched.specs.Watched.{kernel_of, may_not}
use Rattle.mdr_shows.specs.Laws.{KernelCodeMayFollow}
use Rattle.mdr_shows.proofs.Births.{births_follow}
use Rattle.mdr_shows.proofs.Deaths.{deaths_follow}
use Rattle.mdr_shows.proofs.Serving.{served_follows}

-- a memory that code may begin on
record IsReady (program : Program) (w : World) : Type 0 where
  formed : IsFormed program w.memory
  low : IsBelow (next_serial w) w.memory

-- work leaves what may follow on the memory that it began on
record Follows {A : Type 0} (program : Program) (w : World) (r : Ran A) : Type 0 where
  at_end : MayFollow program (next_serial w) w.memory (next_serial (left r)) (left r).memory

module _ (program : Program) where
  so : {A : Type 0} {w : World} {r : Ran A} → MayFollow program (next_serial w) w.memory (next_serial (left r)) (left r).memory → Follows program w r
  so e = record { at_end = e }

  same : (w : World) → IsReady program w → MayFollow program (next_serial w) w.memory (next_serial w) w.memory
  same w g = steps_may_follow.none program (next_serial w) w.memory g.formed g.low

  -- ---- one thing after another

  goes_on : {A : Type 0} (w w' : World) (r : Ran A) → MayFollow program (next_serial w) w.memory (next_serial w') w'.memory → (IsReady program w' → Follows program w' r) → Follows program w r
  goes_on w w' r first each = so (steps_may_follow.more first (each (record { formed = first.formed; low = first.low })).at_end)

  goes : {A B : Type 0} (w : World) (r : Ran A) (go : A → World → Ran B) → Follows program w r → ((x : A) (w' : World) → IsReady program w' → Follows program w' (go x w')) → Follows program w (after r go)
  goes w (Ended x w') go a each = goes_on w w' (go x w') a.at_end (each x w')
  goes w (Stopped kind at w') go a each = so a.at_end

  goes_then : {B : Type 0} (w : World) (r : Work) (go : World → Ran B) → Follows program w r → ((w' : World) → IsReady program w' → Follows program w' (go w')) → Follows program w (then r go)
  goes_then w (Ended x w') go a each = goes_on w w' (go w') a.at_end (each w')
  goes_then w (Stopped kind at w') go a each = so a.at_end

  goes_given : {A B : Type 0} (r : Result A StopKind) (at : At) (w : World) (go : A → Ran B) → IsReady program w → ((x : A) → Follows program w (go x)) → Follows program w (given r at w go)
  goes_given (Ok x) at w go g each = each x
  goes_given (Err kind) at w go g each = so (same w g)

  goes_counted : {A : Type 0} (n : ℕ) (at : Option At) (w : World) (go : World → Ran A) → IsReady program w → ((w' : World) → IsReady program w' → Follows program w' (go w')) → Follows program w (counted n at w go)
  goes_counted zero at w go g each = so (same w g)
  goes_counted (suc n) at w go g each = so (each (record w { clock = advanced 1 w.clock }) (record { formed = g.formed; low = g.low })).at_end

  goes_stored : {A : Type 0} (w : World) (v : Wire) (r : Result Cell StopKind) (at : At) (go : World → Ran A) → IsReady program w → ((w' : World) → IsReady program w' → Follows program w' (go w')) → Follows program w (given (remembers w (stored_into w.memory v r)) at w go)
  goes_stored w v (Ok c) at go g each = goes_on w _ (go _) (steps_may_follow.store program (next_serial w) w.memory c v g.formed g.low) (each _)
  goes_stored w v (Err kind) at go g each = so (same w g)

  -- ---- code

  module _ (before : Before) (tries : (depth : ℕ) (w : World) → IsReady program w → Follows program w (before depth w)) where
    run_follows : (t : Tree) (w : World) → IsReady program w → Follows program w (run (in_kernel program may_not) before t w)
    unfolding run stored
    run_follows Tree.Idle w g = so (same w g)
    run_follows (Tree.Waits k) w g = so (same w g)
    run_follows (Tree.Done v t) w g = so (same w g)
    run_follows (Tree.Stop kind at) w g = so (same w g)
    run_follows (Tree.Tick at d t) w g = goes_then w (before d w) _ (tries d w g) (λ w' g'. goes_counted w'.clock.rest _ w' _ g' (λ w'' g''. run_follows t w'' g''))
    run_follows (Tree.Load at p k) w g = goes_given _ at w _ g (λ v. run_follows (k v) w g)
    run_follows (Tree.Store at p v t) w g = goes_stored w v (reached (all_cells w) w.memory p) at _ g (λ w' g'. run_follows t w' g')
    run_follows (Tree.Read at p n k) w g = goes_given _ at w _ g (λ bytes. run_follows (k bytes) w g)
    run_follows (Tree.Fresh at v k) w g = goes_given _ at w _ g (λ x. run_follows (k x) w g)
    run_follows (Tree.Birth at shapes k) w g =
        goes_on w (births program Auto shapes w).memory (run (in_kernel program may_not) before (k (births program Auto shapes w).pointers) (births program Auto shapes w).memory)
        (births_follow program Auto shapes w g.formed g.low) (λ g'. run_follows (k (births program Auto shapes w).pointers) (births program Auto shapes w).memory g')
    run_follows (Tree.Death at ps t) w g = goes_on w (deaths ps w) (run (in_kernel program may_not) before t (deaths ps w)) (deaths_follow program ps w g.formed g.low) (λ g'. run_follows t (deaths ps w) g')
    run_follows (Tree.Ask a k) w g = goes w (served program a w) _ (so (served_follows program a w g.formed g.low)) (λ results w' g'. run_follows (k results) w' g')
    run_follows (Tree.Cross at f args d k) w g = so (same w g)

module _ (d : Driver) where
  call_follows : (before : Before) → ((depth : ℕ) (w : World) → IsReady d.program w → Follows d.program w (before depth w)) → (f : ℕ) (args : List Wire) (depth : ℕ) (w : World) → IsReady d.program w → Follows d.program w (call (kernel_of d) before f args depth w)
  unfolding call
  call_follows before tries f args depth w g = run_follows d.program before tries _ w g

  handled_follows : (n : ℕ) (handler : Option ℕ) (w : World) → IsReady d.program w → Follows d.program w (handled (kernel_of d) n handler w)
  handled_follows n None w g = so d.program (same d.program w g)
  handled_follows n (Some f) w g =
      goes d.program w (call (kernel_of d) nothing f [] n (interrupted f w)) _
      (so d.program (call_follows nothing (λ n' w' g'. so d.program (same d.program w' g')) f [] n (interrupted f w) (record { formed = g.formed; low = g.low })).at_end) (λ v w' g'. so d.program (same d.program w' g'))

  interrupts_follow : (n : ℕ) (w : World) → IsReady d.program w → Follows d.program w (interrupts (kernel_of d) n w)
  unfolding interrupts
  interrupts_follow n w g = handled_follows n (due w) w g

pub kernel_code_may_follow : KernelCodeMayFollow
kernel_code_may_follow d f args depth w formed low = (call_follows d (interrupts (kernel_of d)) (interrupts_follow d) f args depth w (record { formed = formed; low = low })).at_end
