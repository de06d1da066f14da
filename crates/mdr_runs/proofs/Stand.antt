-- A driver's code on one memory stands from event to event.
use Rattle.std.proofs.Common.{◌≡◌, refl, ◌∙◌, subst}
use Rattle.mdr_core.specs.declared.program.Program.{Program}
use Rattle.mdr_meaning.specs.Walk.{Accesses, walk, walked}
use Rattle.mdr_plain.specs.Running.{all_cells, call}
use Rattle.mdr_plain.specs.Storage.{accesses}
use Rattle.mdr_plain.specs.World.{World}
use Rattle.mdr_runs.specs.Around.{IsSeenBy}
use Rattle.mdr_runs.specs.Following.{setting_by}
use Rattle.mdr_runs.specs.Laws.{CallsAreStarted, RunsMayBeCut, RunsStand, ServicesAreAnswered, TicksStand}
use Rattle.mdr_runs.specs.Seen.{IsSeen}
use Rattle.mdr_runs.proofs.Around.{cut_runs, kernel_keeps_ticks}
use Rattle.mdr_runs.proofs.Standing.{call_is_started, run_stands, service_is_answered, tick_stands}

pub runs_may_be_cut : RunsMayBeCut
runs_may_be_cut program half before gives r t w h = cut_runs (setting_by program half) before (kernel_keeps_ticks program half) gives r t w h

pub calls_are_started : CallsAreStarted
unfolding call
calls_are_started program half side before gives func args depth h w is = call_is_started (setting_by program half) before (kernel_keeps_ticks program half) gives side func args depth h w is

pub services_are_answered : ServicesAreAnswered
services_are_answered program half side before h h' q w w' results fuel all s is answer =
    service_is_answered (setting_by program half) before (kernel_keeps_ticks program half) side h h' q w w' results fuel all s is answer

module _ {M : Type 0} (a : Accesses M) (world_in : M → World) (program_in : M → Program) (seen : IsSeen a world_in program_in) where
  seen_by : (program : Program) → IsSeenBy (accesses program all_cells) a world_in program_in program
  seen_by program = record {
    walks = λ n t m same. subst (λ p. walk (accesses p all_cells) n t (world_in m) ≡ walked (walk a n t m).reached (world_in (walk a n t m).memory) (walk a n t m).left) same (seen.walks n t m);
    stays = λ n t m same. seen.stays n t m ∙ same;
  }

  pub runs_stand : RunsStand a world_in program_in
  runs_stand half side before gives h h' m m' e rest f enough ran =
      run_stands (setting_by (program_in m) half) before (kernel_keeps_ticks (program_in m) half) gives a world_in program_in (program_in m) (seen_by (program_in m)) side h h' m m' e rest f refl enough ran

  pub ticks_stand : TicksStand a world_in program_in
  ticks_stand half side before gives h h' at w w' m m' e rest f n all s tried has passed ran =
      tick_stands (setting_by (program_in m) half) before (kernel_keeps_ticks (program_in m) half) gives a world_in program_in (program_in m) (seen_by (program_in m)) side h h' at w w' m m' e rest f n all refl s tried has passed ran
