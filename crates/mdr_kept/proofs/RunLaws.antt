-- Whole runs: commands one by one, and then the reports.
use Rattle.std.proofs.Common.{◌≡◌, ℕ, ℤ, zero, suc, ◌+◌, Bool, true, false, List, [], ◌∷◌, map, Option, Some, None, refl, sym, ap, ◌∙◌, subst}
use Rattle.std.specs.Option.{option_map}
use Rattle.mdr_core.specs.declared.place.At.{At}
use Rattle.mdr_core.specs.declared.plan.Plan.{Plan}
use Rattle.mdr_core.specs.declared.program.Func.{Func}
use Rattle.mdr_core.specs.declared.program.Param.{Param}
use Rattle.mdr_core.specs.declared.program.Program.{Program}
use Rattle.mdr_core.specs.declared.stop.StopKind.{StopKind}
use Rattle.mdr_core.specs.declared.value.Value.{Value}
use Rattle.mdr_core.specs.Layout.{chosen}
use Rattle.mdr_meaning.specs.declared.wire.Wire.{Wire}
use Rattle.mdr_meaning.specs.Fit.{Knowledge, KnowsGlobals, global_shape}
use Rattle.mdr_meaning.specs.Numbers.{Numbered}
use Rattle.mdr_meaning.specs.Sides.{Body}
use Rattle.mdr_meaning.specs.Values.{wire_of}
use Rattle.mdr_meaning.specs.Within.{Uses}
use Rattle.mdr_model.specs.declared.command.Command.{Command}
use Rattle.mdr_model.specs.declared.command.Command.TheVariants as command
use Rattle.mdr_model.specs.declared.memory.Cell.{Cell}
use Rattle.mdr_model.specs.Memory.{is_live}
use Rattle.mdr_model.specs.Values.{value_of}
use Rattle.mdr_plain.specs.declared.outcome.Happened.{Happened}
use Rattle.mdr_plain.specs.declared.outcome.Happened.TheVariants as happened
use Rattle.mdr_plain.specs.Gate.{are_none, due}
use Rattle.mdr_plain.specs.Running.{call, interrupts}
use Rattle.mdr_plain.specs.Scripts.{Finish, and_then, begin, begun, called_by, commands, first_world, idle, in_place, poked_memory, returned, showed}
use Rattle.mdr_plain.specs.Storage.{next_serial, with_memory}
use Rattle.mdr_plain.specs.World.{Ended, Ran, Stopped, Work, World, advanced, after, counted, noted, then}
use Rattle.mdr_bound.specs.declared.bound.Bound.{Bound}
use Rattle.mdr_watched.specs.Driver.{Driver, driver_of, is_user}
use Rattle.mdr_watched.specs.Kept.{due_plainly, followed_of, free, meets_none, unless_due}
use Rattle.mdr_watched.specs.Watched.{backs, does, held, kernel_of, kernel_with, may_not, upcall}
use Rattle.mdr_watched.proofs.KeptProofs.{backs_lead, calls_lead, upcalls_lead}
use Rattle.mdr_holds.specs.Holding.{Holds, first_knowledge}
use Rattle.mdr_holds.specs.Laws.{AreCommands, IsCalled, IsCommand, IsScript}
use Rattle.mdr_holds.specs.Leaving.{GivesResult, Later}
use Rattle.mdr_holds.proofs.Drivers.{programs_are_drivers}
use Rattle.mdr_holds.proofs.First.{first_holds}
use Rattle.mdr_holds.proofs.Kernel.{called as kernel_called, may_not_across, tried as tried_kernel}
use Rattle.mdr_holds.proofs.Memories.{globals_known}
use Rattle.mdr_holds.proofs.Poking.{poked_later}
use Rattle.mdr_holds.proofs.Steps.{kept_holds, tick_later}
use Rattle.mdr_holds.proofs.User.{back_leaves, upcall_leaves}
use Rattle.mdr_kept.specs.Current.{AreCurrent}
use Rattle.mdr_kept.specs.Strict.{call_alive, called, does as does_strictly, handled_alive, strict_of, tries, upcall as upcall_strictly, ups}
use Rattle.mdr_kept.proofs.EvenLaws.{NoViews}
use Rattle.mdr_kept.proofs.ShownLaws.{strict_reports_agree}
use Rattle.mdr_kept.specs.ReportLaws.{FollowedRunsAreStrict, IsDriven, KeptReportsAgree}
use Rattle.mdr_kept.proofs.AliveLaws.{Reaches, ended_is, reaches}
use Rattle.mdr_kept.proofs.AloneLaws.{alone_at_end, call_alone, interrupts_alone, up_alone}
use Rattle.mdr_kept.proofs.CallLaws.{arguments_current}
use Rattle.mdr_kept.proofs.Graphs.{graph_of}
use Rattle.mdr_kept.proofs.KernelLaws.{d, downs_same, driver, interrupts_reach, interrupts_same, no_user_body, uses}
use Rattle.mdr_kept.proofs.LiveLaws.{knows}
use Rattle.mdr_kept.proofs.UserLaws.{backs_same, upcall_same}

no_end : {A X : Type 0} (kind : StopKind) (at : Option At) (w w' : World) (x : A) → ◌≡◌ {A = Ran A} (Stopped kind at w) (Ended x w') → X
no_end kind at w w' x e = absurd cc

first_knows : (program : Program) (u : Uses) → KnowsGlobals program (first_knowledge program u)
first_knows program u = record { knows = λ g def e. ap (option_map (global_shape program)) e }

module _ (program : Program) (plan : Plan) (driven : IsDriven program plan) where
  abbrev e : Driver
  e = d program plan driven

  abbrev u : Uses
  u = uses program plan driven

  -- a state that holds, in which no upcall is open
  record Fine (w : World) : Type 0 where
    known : Knowledge
    uses_are : known.uses ≡ u
    holds : Holds program known w
    alone : w.views ≡ []

  -- the same work, which leaves such a state where it ends
  record Same {A : Type 0} (r s : Ran A) : Type 0 where
    is : r ≡ s
    fine : (x : A) (w : World) → r ≡ Ended x w → Fine w

  same_after : {A B : Type 0} (r s : Ran A) (go go' : A → World → Ran B) → Same r s → ((x : A) (w : World) → Fine w → Same (go x w) (go' x w)) → Same (after r go) (after s go')
  same_after (Ended x w) s go go' h each = let next : Same (go x w) (go' x w) = each x w (h.fine x w refl) in record { is = next.is ∙ ap (λ (r : Ran _). after r go') h.is; fine = next.fine }
  same_after (Stopped kind at w) s go go' h each = record { is = ap (λ (r : Ran _). after r go') h.is; fine = λ x w' q. no_end kind at w w' x q }

  same_then : {B : Type 0} (r s : Work) (go go' : World → Ran B) → Same r s → ((w : World) → Fine w → Same (go w) (go' w)) → Same (then r go) (then s go')
  same_then (Ended x w) s go go' h each = let next : Same (go w) (go' w) = each w (h.fine x w refl) in record { is = next.is ∙ ap (λ (r : Work). then r go') h.is; fine = next.fine }
  same_then (Stopped kind at w) s go go' h each = record { is = ap (λ (r : Work). then r go') h.is; fine = λ x w' q. no_end kind at w w' x q }

  fine_noted : (event : Happened) (w : World) → Fine w → Fine (noted event w)
  fine_noted event w f = record { known = f.known; uses_are = f.uses_are; holds = kept_holds program f.known w _ f.holds f.holds.handler; alone = f.alone }

  same_counted : {A : Type 0} (w : World) → Fine w → (rest : ℕ) → w.clock.rest ≡ rest → (at : Option At) (go go' : World → Ran A) → ((w' : World) → Fine w' → Same (go w') (go' w')) → Same (counted rest at w go) (counted rest at w go')
  same_counted w f zero q at go go' each = record { is = refl; fine = λ x w' r. no_end _ at w w' x r }
  same_counted w f (suc n) q at go go' each =
      each (record w { clock = advanced 1 w.clock }) (record { known = f.known; uses_are = f.uses_are; holds = (tick_later program (next_serial w) f.known w n f.holds q).holds; alone = f.alone })

  -- ---- interrupts where no upcall is open

  tried : (w : World) → Fine w → Same (interrupts (kernel_of e) 0 w) (tries e 0 w)
  unfolding NoViews
  tried w f = record {
    is = interrupts_same program plan driven f.known w f.uses_are f.holds 0 ∙ ap (λ (views : List (List Cell)). chosen (are_none views) (handled_alive e 0 (due w) w) (unless_due (due_plainly w) w)) (sym f.alone);
    fine = λ x w' q. let r = interrupts_reach program plan driven f.known w f.uses_are f.holds 0 x w' q in
        record { known = r.known; uses_are = r.left.grows.same ∙ f.uses_are; holds = r.left.holds; alone = alone_at_end (interrupts (kernel_of e) 0 w) (interrupts_alone e 0 w f.alone) x w' q };
  }

  returned_same : (r s : Ran Wire) → Same r s → Same (returned (interrupts (kernel_of e)) r) (returned (tries e) s)
  returned_same r s h = same_after r s _ _ h (λ v w f. tried (noted (happened.Ret (value_of v)) w) (fine_noted (happened.Ret (value_of v)) w f))

  idle_same : (n : ℕ) (w : World) → Fine w → Same (idle (interrupts (kernel_of e)) n w) (idle (tries e) n w)
  unfolding idle
  idle_same zero w f = record { is = refl; fine = λ x w' q. subst Fine (ended_is tt x w w' q).1 f }
  idle_same (suc n) w f = same_then _ _ _ _ (tried w f) (λ w' f'. same_counted w' f' w'.clock.rest refl None _ _ (λ w'' f''. idle_same n w'' f''))

  -- ---- calls

  module _ (f : ℕ) (func : Func) (args : List Wire) (w : World) (fine : Fine w) (c : IsCalled program fine.known f func args) (current : AreCurrent (is_live w.memory) args) where
    up_same : is_user plan f ≡ true → Same (upcall e (free e) (backs e (free e)) f args 0 w) (upcall_strictly e (ups e) f args 0 w)
    unfolding NoViews
    up_same user =
        let owned : (body : Body) × (e.user.own f ≡ Some body) = (programs_are_drivers.halves program driven.bodies plan).user f func c.names user in
        record {
          is = upcall_same program plan driven (backs e (free e)) (ups e) (backs_same program plan driven 256) f func args 0 fine.known w fine.uses_are fine.holds c current owned.0 owned.1;
          fine = λ v w' q.
              let there = (upcalls_lead e (backs e (free e)) (backs e (held e)) (backs_lead e 256) f args 0 w).by v w' q in
              let r : Reaches (Later program (next_serial w) fine.known w) (GivesResult program func.result w) v w' = reaches _ _ (upcall e (held e) (backs e (held e)) f args 0 w)
              (upcall_leaves e u (driver program plan driven) (backs e (held e)) (back_leaves e u (driver program plan driven) 256) f func args 0 fine.known w fine.uses_are fine.holds c) v w' there in
              record { known = r.known; uses_are = r.left.grows.same ∙ fine.uses_are; holds = r.left.holds; alone = alone_at_end (upcall e (held e) (backs e (held e)) f args 0 w) (up_alone e 256 f args 0 w fine.alone) v w' there };
        }

    call_same : is_user plan f ≡ false → Same (call (kernel_with e (backs e (free e))) (meets_none (kernel_of e)) f args 0 w) (call_alive e (ups e) (tries e) f args 0 w)
    unfolding NoViews
    call_same kernel = record {
      is = downs_same program plan driven (backs e (free e)) (ups e) (backs_same program plan driven 256) fine.known w fine.uses_are fine.holds f func args 0 c current (no_user_body program plan driven f kernel);
      fine = λ v w' q.
          let there : call (kernel_with e (backs e (held e))) (interrupts (kernel_of e)) f args 0 w ≡ Ended v w' = (calls_lead e (backs e (free e)) (backs e (held e)) (backs_lead e 256) f args 0 w).by v w' q in
          let r : Reaches (Later program (next_serial w) fine.known w) (GivesResult program func.result w) v w' =
          reaches _ _ (call (kernel_with e (backs e (held e))) (interrupts (kernel_of e)) f args 0 w)
          (kernel_called program driven.sound u e.kernel (driver program plan driven).kernel (backs e (held e)) (back_leaves e u (driver program plan driven) 256) (interrupts (kernel_of e))
          (tried_kernel program driven.sound u e.kernel (driver program plan driven).kernel may_not (may_not_across program u)) fine.known w fine.uses_are fine.holds f func args 0 c) v w' there in
          record { known = r.known; uses_are = r.left.grows.same ∙ fine.uses_are; holds = r.left.holds; alone = alone_at_end (call (kernel_with e (backs e (held e))) (interrupts (kernel_of e)) f args 0 w) (call_alone e 256 f args 0 w fine.alone) v w' there };
    }

  called_same : (w : World) (f : ℕ) (func : Func) (args : List Wire) (fine : Fine w) → IsCalled program fine.known f func args → AreCurrent (is_live w.memory) args → (b : Bool) → is_user plan f ≡ b
      → Same (in_place (kernel_of e) (λ g vs w'. call (kernel_with e (backs e (free e))) (meets_none (kernel_of e)) g vs 0 w') (λ g vs w'. upcall e (free e) (backs e (free e)) g vs 0 w') (called_by b (kernel_of e) f args w)) (returned (tries e) (called e b f args w))
  called_same w f func args fine c current true is = returned_same _ _ (up_same f func args w fine c current is)
  called_same w f func args fine c current false is = returned_same _ _ (call_same f func args w fine c current is)

  -- ---- commands

  fine_begun : (f : ℕ) (args : List Value) (w : World) → Fine w → Fine (begun program f args w)
  fine_begun f args w fine = fine_noted _ _ (record { known = fine.known; uses_are = fine.uses_are; holds = kept_holds program fine.known w (record w.kept { calls = w.kept.calls + 1 }) fine.holds fine.holds.handler; alone = fine.alone })

  fine_poked : (c : Cell) (n : ℤ) (w : World) → Fine w → Fine (with_memory w (poked_memory c n w.memory))
  fine_poked c n w fine = record {
    known = fine.known;
    uses_are = fine.uses_are;
    holds = (poked_later program (next_serial w) fine.known w fine.holds c n).holds;
    alone = fine.alone;
  }

  does_same : (c : Command) (w : World) → Fine w → IsCommand program c → Same (does e (free e) c w) (does_strictly e c w)
  unfolding begin
  does_same (command.Call f args) w fine r =
      let now : Fine (begun program f args w) = fine_begun f args w fine in
      let lives = knows program now.known (begun program f args w) now.holds (next_serial w) [] tt in
      called_same (begun program f args w) f r.0 (map wire_of args) now (record { names = r.1; fit = r.2 now.known (globals_known program now.known w.memory now.holds.memory) })
      (arguments_current program u (is_live w.memory) lives.globals (map wire_of args) (map (λ (p : Param). p.ty) r.0.params) (r.2 (first_knowledge program u) (first_knows program u))) (is_user plan f) refl
  does_same (command.Idle n) w fine r = same_then _ _ _ _ (idle_same n (noted (happened.Idle n) w) (fine_noted (happened.Idle n) w fine)) tried
  does_same (command.Show g) w fine r = record { is = refl; fine = λ x w' q. subst Fine (ended_is tt x (showed program g w) w' q).1 (fine_noted _ w fine) }
  does_same (command.Poke serial index n) w fine r =
      let at : Cell = record { serial = serial; index = index } in
      record { is = refl; fine = λ x w' q. subst Fine (ended_is tt x (with_memory w (poked_memory at n w.memory)) w' q).1 (fine_poked at n w fine) }
  does_same (command.Say text) w fine r = record { is = refl; fine = λ x w' q. subst Fine (ended_is tt x (noted (happened.Say text) w) w' q).1 (fine_noted (happened.Say text) w fine) }

  same_and_then : (r s : Work) (go go' : World → Finish) → Same r s → ((w : World) → Fine w → go w ≡ go' w) → and_then r go ≡ and_then s go'
  same_and_then (Ended x w) s go go' h each = each w (h.fine x w refl) ∙ ap (λ (r : Work). and_then r go') h.is
  same_and_then (Stopped kind at w) s go go' h each = ap (λ (r : Work). and_then r go') h.is

  commands_same : (cs : List Command) (w : World) → Fine w → AreCommands program cs → commands (does e (free e)) cs w ≡ commands (does_strictly e) cs w
  unfolding commands
  commands_same [] w fine r = refl
  commands_same (c ∷ cs) w fine r = same_and_then _ _ _ _ (does_same c w fine r.0) (λ w' f. commands_same cs w' f r.1)

  first_fine : (script : Bound) → IsScript program script → (budget : ℕ) → Fine (first_world e.kernel.known script budget)
  unfolding first_world
  first_fine script fits budget = record {
    known = first_knowledge program u;
    uses_are = refl;
    holds = subst (λ (known : Numbered). Holds program (first_knowledge program u) (first_world known script budget)) (sym (driver program plan driven).kernel.bodies.known)
        (first_holds program driven.sound u (programs_are_drivers.first program (graph_of program true)) script fits budget);
    alone = refl;
  }

pub followed_runs_are_strict : FollowedRunsAreStrict
unfolding strict_of followed_of
followed_runs_are_strict program plan driven script fits budget =
    sym (commands_same program plan driven script.commands (first_world (driver_of program plan).kernel.known script budget) (first_fine program plan driven script fits budget) fits.commands)

pub kept_reports_agree : KeptReportsAgree
kept_reports_agree program plan driven script fits budget kept =
    strict_reports_agree program plan script budget (ap (λ (f : Finish). f.end) (followed_runs_are_strict program plan driven script fits budget) ∙ kept)
