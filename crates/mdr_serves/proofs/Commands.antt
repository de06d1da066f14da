-- The split run of a script comes to the end of the watched run: command after command.
use Rattle.std.proofs.Common.{◌≡◌, ℕ, ◌+◌, ◌*◌, ◌≤◌, ◌<◌, Bool, true, false, List, [], ◌∷◌, length, map, Some, refl, sym, subst, arith}
use Rattle.std.specs.Prelude.{slice_get}
use Rattle.mdr_core.specs.declared.program.Func.{Func}
use Rattle.mdr_core.specs.declared.program.Param.{Param}
use Rattle.mdr_core.specs.declared.types.Ty.{Ty}
use Rattle.mdr_core.specs.declared.value.Value.{Value}
use Rattle.mdr_holds.proofs.Scripts.{commands_leave}
use Rattle.mdr_holds.specs.Holding.{first_knowledge}
use Rattle.mdr_holds.specs.Laws.{AreCommands, BeginsRight, HaveHalves, IsCalled, IsCommand, noted_command}
use Rattle.mdr_holds.specs.Leaving.{IsAsBefore, Later, Leads, ended as leads_ended, stopped as leads_stopped}
use Rattle.mdr_limits.proofs.FewSteps.{Leads as Moves, idled_leads as idled_moves, interrupts_lead as interrupts_move, itself as stays}
use Rattle.mdr_meaning.specs.declared.wire.Wire.{Wire}
use Rattle.mdr_meaning.specs.Fair.{AllFit}
use Rattle.mdr_meaning.specs.Fit.{Knowledge, KnowsGlobals}
use Rattle.mdr_meaning.specs.Sides.{Body}
use Rattle.mdr_meaning.specs.Values.{wire_of}
use Rattle.mdr_meaning.specs.Within.{Uses}
use Rattle.mdr_model.specs.declared.command.Command.{Command}
use Rattle.mdr_model.specs.declared.command.Command.TheVariants as command
use Rattle.mdr_model.specs.declared.outcome.End.TheVariants as ends
use Rattle.mdr_model.specs.Report.{func_name}
use Rattle.mdr_model.specs.Values.{value_of}
use Rattle.mdr_plain.specs.declared.outcome.Happened.TheVariants as happened
use Rattle.mdr_plain.specs.Running.{call, interrupts}
use Rattle.mdr_plain.specs.Scripts.{Beginning, Finish, and_then, begin, begun, called_by, commands, in_place, returned}
use Rattle.mdr_plain.specs.Storage.{next_serial}
use Rattle.mdr_plain.specs.World.{World, Ran, Ended, Work, noted}
use Rattle.mdr_split.specs.Kernel.{calls, continued, gave, kernel_tree, runs_kernel, split_by, split_commands, then_split, went}
use Rattle.mdr_split.specs.State.{Kernel, Commanded, Noted}
use Rattle.mdr_watched.specs.Driver.{Driver, is_user}
use Rattle.mdr_watched.specs.Views.{closed}
use Rattle.mdr_watched.specs.Watched.{backs, calls_back, does, held, kernel_of, kernel_with, upcall}
use Rattle.mdr_serves.proofs.Calls.{call_finishes}
use Rattle.mdr_serves.proofs.KernelWork.{agree_counted, agree_later, agree_noted, interrupts_lead, uses_all}
use Rattle.mdr_serves.proofs.Messages.{first_globals, globals_now}
use Rattle.mdr_serves.proofs.Relations.{Agree, IsPaid, IsRight, owing}
use Rattle.mdr_serves.proofs.Rooms.{runs_all, serves_all}
use Rattle.mdr_serves.proofs.Runs.{EndsOn, Finishes, GoesOn, idle_user, is_over, paid_less}

module _ (d : Driver) (uses : Uses) (right : IsRight d uses) (halves : HaveHalves d) (fuel budget : ℕ) (enough : budget < fuel) where
  -- the whole run of commands
  abbrev whole_run : List Command → World → Finish
  whole_run cs w = commands (does d (held d)) cs w

  -- a script comes to its end
  abbrev pub FinishesAll : List Command → Type 0
  FinishesAll script = (K KU : Knowledge) (k : Kernel) → Agree d uses budget K KU k.agreed k.world → IsPaid d uses (owing k.exchanges (length k.world.views) 0) k.world
      → Finishes d uses fuel budget k.exchanges (split_commands d script k) (idle_user k.agreed) (whole_run script k.world)

  -- work of the kernel half, and what follows it
  work_finishes : (cs : List Command) → FinishesAll cs → (K KU : Knowledge) (k : Kernel) (w : World) (from : ℕ) → Agree d uses budget K KU k.agreed w → IsPaid d uses (owing k.exchanges (length w.views) 0) w
      → (work : Work) → Leads (Later d.program from K w) (λ K' x w'. IsAsBefore w w') work → Moves w work
      → Finishes d uses fuel budget k.exchanges (then_split work k (λ k'. split_commands d cs k')) (idle_user k.agreed) (and_then work (λ w'. whole_run cs w'))
  work_finishes cs onward K KU k w from a paid _ (leads_ended K' x w' l g) moves =
      onward K' KU (record k { world = w' }) (agree_later d uses budget K KU k.agreed w w' from K' a l)
      (record { six = omega (arith, paid.six, l.later, l.calls, moves.at_end.2); four = λ itself. let h = paid.four itself in omega (arith, h, l.later, l.calls, moves.at_end.2) })
  work_finishes cs onward K KU k w from a paid _ (leads_stopped K' kind at w' l) moves =
      is_over (ends.Stop kind at) (record k { world = w' }) (idle_user k.agreed) (record { six = omega (arith, paid.six, l.later, l.calls); four = λ itself. let h = paid.four itself in omega (arith, h, l.later, l.calls) })

  -- what the whole run does after a function that a command called
  abbrev noted_then : List Command → Ran Wire → Finish
  noted_then cs ran = and_then (returned (interrupts (kernel_of d)) ran) (λ w. whole_run cs w)

  -- a result is noted, and the interrupt rule is tried
  result_finishes : (cs : List Command) → FinishesAll cs → (K KU : Knowledge) (k : Kernel) (w : World) (v : Wire) → Agree d uses budget K KU k.agreed w → IsPaid d uses (owing k.exchanges (length w.views) 0) w
      → Finishes d uses fuel budget k.exchanges (then_split (returned (interrupts (kernel_of d)) (Ended v w)) k (λ k'. split_commands d cs k')) (idle_user k.agreed) (noted_then cs (Ended v w))
  result_finishes cs onward K KU k w v a paid =
      let w' : World = noted (happened.Ret (value_of v)) w in
      let a' : Agree d uses budget K KU k.agreed w' = agree_noted d uses budget K KU k.agreed (happened.Ret (value_of v)) w a in
      work_finishes cs onward K KU k w' (next_serial w) a' (record { six = paid.six; four = paid.four }) (interrupts (kernel_of d) 0 w') (interrupts_lead d uses right K w' (uses_all a') a'.holds 0) (interrupts_move w' d 0 w' (stays w'))

  goes_on : (cs : List Command) → FinishesAll cs → (K KU : Knowledge) (result : Ty) (all : Ran Wire) → GoesOn d uses fuel budget cs K KU result [] Noted [] 0 all (noted_then cs)
  goes_on cs onward K KU result all = record {
    by = λ K' KU' up grows k v fits is a paid.
        subst (λ (ran : Ran Wire). Finishes d uses fuel budget k.exchanges (continued d v k Noted cs) (idle_user k.agreed) (noted_then cs ran)) (sym is) (result_finishes cs onward K' KU' k (closed k.world) v a (record { six = paid.six; four = paid.four }));
    stops = λ kind at w. refl;
  }

  ends_on : (cs : List Command) → FinishesAll cs → (K KU : Knowledge) (result : Ty) (all : Ran Wire) → EndsOn d uses fuel budget cs K KU result [] Commanded [] 0 all (noted_then cs)
  ends_on cs onward K KU result all = record {
    by = λ K' KU' up grows k v w fits is now a paid.
        subst (λ (ran : Ran Wire). Finishes d uses fuel budget k.exchanges (gave d Commanded (Ended v w) k (λ k'. split_commands d cs k') cs) (idle_user k.agreed) (noted_then cs ran)) (sym is) (result_finishes cs onward K' KU' k w v a paid);
    stops = λ kind at w. refl;
  }

  -- ---- calls

  -- with so much room for calls back
  kernel_command : (n : ℕ) → 256 ≤ n + 0 → (f : ℕ) (func : Func) (args : List Wire) (cs : List Command) → FinishesAll cs → (K KU : Knowledge) (k : Kernel) (w : World) → Agree d uses budget K KU k.agreed w → IsPaid d uses (owing k.exchanges (length w.views) 0) w
      → IsCalled d.program K f func args → is_user d.plan f ≡ false
      → Finishes d uses fuel budget k.exchanges (went d Commanded (runs_kernel d (kernel_tree d f args 0 w) w) k (λ k'. split_commands d cs k') cs) (idle_user k.agreed) (noted_then cs (call (kernel_with d (calls_back d (held d) n)) (interrupts (kernel_of d)) f args 0 w))
  kernel_command n room f func args cs onward K KU k w a paid called kernel =
      let own : (body : Body) × (d.kernel.own f ≡ Some body) = halves.kernel f func called.names kernel in
      let gives : Ran Wire = call (kernel_with d (calls_back d (held d) n)) (interrupts (kernel_of d)) f args 0 w in
      runs_all d uses right halves fuel budget enough n f func args 0 (omega arith) room own.0 own.1 K KU called cs [] Commanded [] 0 gives (noted_then cs) (ends_on cs onward K KU func.result gives) (λ deeper more. refl) k w a tt paid refl

  user_command : (n : ℕ) → 256 ≤ n + 0 → (f : ℕ) (func : Func) (args : List Wire) (cs : List Command) → FinishesAll cs → (K KU : Knowledge) (k : Kernel) (w : World) → Agree d uses budget K KU k.agreed w → IsPaid d uses (owing k.exchanges (length w.views) 0 + 6) w
      → slice_get d.program.funcs f ≡ Some func → is_user d.plan f ≡ true → ((K' : Knowledge) → KnowsGlobals d.program K' → AllFit d.program K' args (map (λ (p : Param). p.ty) func.params))
      → Finishes d uses fuel budget k.exchanges (calls d f 0 args w k Noted cs) (idle_user k.agreed) (noted_then cs (upcall d (held d) (calls_back d (held d) n) f args 0 w))
  user_command n room f func args cs onward K KU k w a paid names user fit =
      let gives : Ran Wire = upcall d (held d) (calls_back d (held d) n) f args 0 w in
      call_finishes d uses right fuel budget enough n (serves_all d uses right halves fuel budget enough n) f func args 0 (omega arith) room names user K KU cs [] Noted [] 0 gives (noted_then cs) (goes_on cs onward K KU func.result gives)
      k w a tt refl (globals_now d.program uses K w a.holds args (map (λ (p : Param). p.ty) func.params) (fit (first_knowledge d.program uses) (first_globals d.program uses)))
      (λ K' globals grows known. fit K' globals) paid refl

  -- ---- commands

  -- what a command comes to, and what follows it
  abbrev BeginsWell : List Command → Kernel → Beginning → Type 0
  BeginsWell cs k b =
      Finishes d uses fuel budget k.exchanges (split_by b d cs k (λ k'. split_commands d cs k')) (idle_user k.agreed)
      (and_then (in_place (kernel_of d) (λ g vs w. call (kernel_with d (backs d (held d))) (interrupts (kernel_of d)) g vs 0 w) (λ g vs w. upcall d (held d) (backs d (held d)) g vs 0 w) b) (λ w'. whole_run cs w'))

  call_command : (f : ℕ) (func : Func) (vs : List Value) (cs : List Command) → FinishesAll cs → (K KU : Knowledge) (k : Kernel) (w : World) → Agree d uses budget K KU k.agreed w → IsPaid d uses (owing k.exchanges (length w.views) 0 + 6) w
      → slice_get d.program.funcs f ≡ Some func → ((K' : Knowledge) → KnowsGlobals d.program K' → AllFit d.program K' (map wire_of vs) (map (λ (p : Param). p.ty) func.params))
      → (b : Bool) → is_user d.plan f ≡ b → BeginsRight d.program K w (called_by b (kernel_of d) f (map wire_of vs) w) → BeginsWell cs k (called_by b (kernel_of d) f (map wire_of vs) w)
  call_command f func vs cs onward K KU k w a paid names fit true e right' = user_command 256 (omega arith) f func (map wire_of vs) cs onward K KU k w a paid names e fit
  call_command f func vs cs onward K KU k w a paid names fit false e right' =
      kernel_command 256 (omega arith) f right'.0 (map wire_of vs) cs onward K KU k w a (paid_less (owing k.exchanges (length w.views) 0) (omega arith) paid) right'.1 e

  command_finishes : (c : Command) (cs : List Command) → IsCommand d.program c → FinishesAll cs → (K KU : Knowledge) (k : Kernel) → Agree d uses budget K KU k.agreed k.world → IsPaid d uses (owing k.exchanges (length k.world.views) 0) k.world
      → BeginsRight d.program K (noted_command d.program c k.world) (begin (kernel_of d) (is_user d.plan) c k.world) → BeginsWell cs k (begin (kernel_of d) (is_user d.plan) c k.world)
  unfolding begin agree_noted agree_counted
  command_finishes (command.Call f vs) cs named onward K KU k a paid right' =
      let counted : Agree d uses budget K KU k.agreed (record k.world { kept = record k.world.kept { calls = k.world.kept.calls + 1 } }) = agree_counted d uses budget K KU k.agreed (k.world.kept.calls + 1) k.world a in
      call_command f named.0 vs cs onward K KU k (begun d.program f vs k.world) (agree_noted d uses budget K KU k.agreed (happened.Call (func_name d.program f) vs) _ counted)
      (record { six = omega (arith, paid.six); four = λ itself. let h = paid.four itself in omega (arith, h) }) named.1 named.2 (is_user d.plan f) refl right'
  command_finishes (command.Idle n) cs named onward K KU k a paid right' =
      work_finishes cs onward K KU k (noted_command d.program (command.Idle n) k.world) (next_serial k.world) (agree_noted d uses budget K KU k.agreed (happened.Idle n) k.world a) (record { six = paid.six; four = paid.four }) _ right'
      (idled_moves (noted_command d.program (command.Idle n) k.world) d n k.world (stays k.world))
  command_finishes (command.Show g) cs named onward K KU k a paid right' =
      work_finishes cs onward K KU k (noted_command d.program (command.Show g) k.world) (next_serial k.world) (agree_noted d uses budget K KU k.agreed _ k.world a) (record { six = paid.six; four = paid.four }) _ right' (record { at_end = stays k.world })
  command_finishes (command.Poke serial index n) cs named onward K KU k a paid right' = work_finishes cs onward K KU k k.world (next_serial k.world) a paid _ right' (record { at_end = stays k.world })
  command_finishes (command.Say text) cs named onward K KU k a paid right' =
      work_finishes cs onward K KU k (noted_command d.program (command.Say text) k.world) (next_serial k.world) (agree_noted d uses budget K KU k.agreed (happened.Say text) k.world a) (record { six = paid.six; four = paid.four }) _ right' (record { at_end = stays k.world })

  pub finishes : (script : List Command) → AreCommands d.program script → FinishesAll script
  unfolding split_commands commands
  finishes [] named K KU k a paid = is_over ends.Ok k (idle_user k.agreed) (paid_less (2 * k.exchanges) (omega arith) paid)
  finishes (c ∷ cs) named K KU k a paid =
      command_finishes c cs named.0 (finishes cs named.1) K KU k a paid (commands_leave.begins d uses right.driver K k.world (uses_all a) a.holds c named.0)
