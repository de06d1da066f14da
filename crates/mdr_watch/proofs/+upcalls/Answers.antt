-- The cycle of upcalls within one another.
use Rattle.std.proofs.Common.{[], ◌∷◌, ◌∙◌, ap, subst, sym}
use Rattle.std.proofs.lemmas.Result.{IfOk-weaker}
use Rattle.mdr_events.specs.declared.event.Event.{Event}
use Rattle.mdr_events.specs.Going.{LeavesAt}
use Rattle.mdr_events.specs.Values.{wires_of}
use Rattle.mdr_exec.proofs.ReadyLaws.{takes_one}
use Rattle.mdr_reach.specs.Answers.{answered}
use Rattle.mdr_watched.specs.Watched.{closing}
use Rattle.mdr_watch.specs.Going.{held_in, program_in}
use Rattle.mdr_watch.specs.Watching.{driver_in}
use Rattle.mdr_watch.proofs.Below as below
use Rattle.mdr_watch.proofs.Nested.{back_called, elsewhere_runs, machine_runs, no_room, ran_within, set_fails, set_taken, stops_atomic, taken_from, within_left}
use Rattle.mdr_watch.proofs.Turns.{began, crossed_on, way_begins, way_gives, way_goes, way_keeps}
use Rattle.mdr_watch.proofs.+upcalls.Goals as goal

-- ---- a machine

pub turn::run-loop-turns-init : goal.turn::run-loop-turns-init
turn::run-loop-turns-init t c = way_begins c.args.activation c.args.machine.now c.args.guarded.now c.go.new.machine c.in_ok-event.event c.go.new.guarded
    (began c.args.activation c.args.machine.now c.go.new.machine c.args.guarded.now c.go.new.guarded c.in_ok-event.event _ c.requires.same c.requires.ready c.in_ok-event.ensures.ran)

pub turn::run-loop-turns-preserved : goal.turn::run-loop-turns-preserved
turn::run-loop-turns-preserved t c =
    way_goes c.args.activation c.args.machine.now c.args.guarded.now c.loop-turns.machine c.follow_up.new.machine c.loop-turns.event c.in-Came.other c.loop-turns.guarded c.follow_up.new.guarded c.in_ok-next.next
    c.in-Came.is c.loop-turns.invariant c.in_ok-next.ensures

pub turn::run-returns-in-Gave-clause-kept : goal.turn::run-returns-in-Gave-clause-kept
turn::run-returns-in-Gave-clause-kept t c =
    way_keeps c.args.activation c.args.machine.now c.args.guarded.now c.loop-turns.machine c.follow_up.new.machine c.loop-turns.event c.loop-turns.guarded c.follow_up.new.guarded c.in_ok-next.next
    c.in-Gave.gave c.in-Gave.is c.loop-turns.invariant c.in_ok-next.ensures

pub turn::run-returns-in-Gave-clause-gave : goal.turn::run-returns-in-Gave-clause-gave
turn::run-returns-in-Gave-clause-gave t c =
    way_gives c.args.activation c.args.machine.now c.args.guarded.now c.loop-turns.machine c.follow_up.new.machine c.loop-turns.event c.loop-turns.guarded c.follow_up.new.guarded c.in_ok-next.next
    c.in-Gave.gave c.in-Gave.is c.loop-turns.invariant c.in_ok-next.ensures

pub turn::follow-answer-requires-clause-waiting : goal.turn::follow-answer-requires-clause-waiting
turn::follow-answer-requires-clause-waiting t c = subst (λ (e : Event). LeavesAt e (held_in c.args.activation.upcall c.args.machine.now)) c.in-Service.is c.requires.left

pub turn::follow-tick-requires-clause-ready : goal.turn::follow-tick-requires-clause-ready
turn::follow-tick-requires-clause-ready t c = subst (λ (e : Event). LeavesAt e (held_in c.args.activation.upcall c.args.machine.now)) c.in-TicksOut.is c.requires.left

pub turn::cross-returns-in-Value : goal.turn::cross-returns-in-Value
turn::cross-returns-in-Value t c =
    IfOk-weaker c.resume.result _ _
    (λ n h.
    crossed_on c.args.activation c.args.machine.now c.args.guarded.now c.args.crossing.now c.in_ok-gave.gave c.in-Value.value c.downcall.new.guarded c.resume.new.guarded c.resume.new.machine n c.in-Value.is c.in_ok-gave.ensures.gave h)
    c.resume.ensures

pub turn::cross-resume-requires-clause-takes : goal.turn::cross-resume-requires-clause-takes
turn::cross-resume-requires-clause-takes t c = takes_one (program_in c.args.activation.upcall) c.args.machine.now (c.in-Value.value ∷ []) c.requires.waiting

-- ---- code of the kernel half

pub downcalls::downcall-returns-in-Value-clause-gave : goal.downcalls::downcall-returns-in-Value-clause-gave
downcalls::downcall-returns-in-Value-clause-gave t c =
    IfOk-weaker c.come_back.result _ _
    (λ g h. below.down_on c.args.activation c.args.crossing.now c.in_ok-sent.sent c.args.guarded.now.world c.call_below.new.guarded.world c.in_ok-sent.ensures c.in_ok-gave.gave c.in_ok-gave.ensures.gave c.in-Value.value _ c.in-Value.is h)
    c.come_back.ensures.gave

pub downcalls::downcall-returns-clause-gave : goal.downcalls::downcall-returns-clause-gave
downcalls::downcall-returns-clause-gave t c =
    below.down_out c.args.activation c.args.crossing.now c.in_ok-sent.sent c.args.guarded.now.world c.call_below.new.guarded.world c.in_ok-sent.ensures c.in_ok-gave.gave c.in_ok-gave.ensures.gave c.in-Stopped.kind c.in-Stopped.at c.in-Stopped.is

pub downcalls::call_below-loop-turns-init : goal.downcalls::call_below-loop-turns-init
downcalls::call_below-loop-turns-init t c =
    below.way_begins c.args.activation c.args.crossing.now c.in_ok-went.went c.args.guarded.now c.enter_below.new.guarded c.in_ok-went.ensures.went c.in_ok-went.ensures.kept c.in_ok-went.ensures.waiting

pub downcalls::call_below-loop-turns-preserved : goal.downcalls::call_below-loop-turns-preserved
downcalls::call_below-loop-turns-preserved t c =
    below.way_goes c.args.activation _ c.loop-turns.went c.in_ok-went-in-Calls.went c.in-Calls.back c.in-Calls.paused c.loop-turns.guarded c.back_below.new.guarded c.in-Calls.is c.loop-turns.invariant
    c.in_ok-went-in-Calls.ensures.went c.in_ok-went-in-Calls.ensures.kept c.in_ok-went-in-Calls.ensures.waiting

pub downcalls::call_below-returns-in-Gave-clause-kept : goal.downcalls::call_below-returns-in-Gave-clause-kept
downcalls::call_below-returns-in-Gave-clause-kept t c = c.loop-turns.invariant.same

pub downcalls::call_below-returns-in-Gave-clause-gave : goal.downcalls::call_below-returns-in-Gave-clause-gave
downcalls::call_below-returns-in-Gave-clause-gave t c = below.way_gives c.args.activation _ c.loop-turns.went c.in-Gave.gave c.loop-turns.guarded c.in-Gave.is c.loop-turns.invariant

pub downcalls::back_below-returns-in-Ok-Value-clause-went : goal.downcalls::back_below-returns-in-Ok-Value-clause-went
downcalls::back_below-returns-in-Ok-Value-clause-went t c =
    IfOk-weaker c.go_on_below.result _ _
    (λ g h.
    below.back_on c.args.activation c.args.crossing c.args.paused c.args.guarded.now.world c.call_back.new.guarded.world c.in-Ok-Value.field-0 c.in-Ok-Value.ensures.gave
    c.in-Ok-Value.value g c.go_on_below.new.guarded.world c.in-Ok-Value.field-0-is h)
    c.go_on_below.ensures.went

pub downcalls::back_below-returns-in-Ok-Stopped-clause-went : goal.downcalls::back_below-returns-in-Ok-Stopped-clause-went
downcalls::back_below-returns-in-Ok-Stopped-clause-went t c =
    below.back_out c.args.activation c.args.crossing c.args.paused c.args.guarded.now.world c.call_back.new.guarded.world c.in-Ok-Stopped.field-0 c.in-Ok-Stopped.ensures.gave
    c.in-Ok-Stopped.kind c.in-Ok-Stopped.at c.in-Ok-Stopped.field-0-is

-- ---- it calls back

pub backs::call_back-returns-then-activation-eq0-clause-gave : goal.backs::call_back-returns-then-activation-eq0-clause-gave
backs::call_back-returns-then-activation-eq0-clause-gave t c = no_room (driver_in c.args.activation.upcall.watch) c.args.crossing.now.at c.args.crossing.now.func (wires_of c.args.crossing.now.args) c.args.crossing.now.depth c.args.guarded.now.world c.args.activation.room c.if-activation-eq0.true

pub backs::call_back-returns-then-atomic-clause-gave : goal.backs::call_back-returns-then-atomic-clause-gave
backs::call_back-returns-then-atomic-clause-gave t c =
    stops_atomic (driver_in c.args.activation.upcall.watch) c.args.crossing.now.at c.args.crossing.now.func (wires_of c.args.crossing.now.args) c.args.crossing.now.depth c.args.guarded.now.world c.args.activation.room c.if-activation-eq0.false
    (sym c.atomic.ensures ∙ c.if-atomic.true)

pub backs::call_back-returns-clause-gave : goal.backs::call_back-returns-clause-gave
backs::call_back-returns-clause-gave t c =
    back_called c.args.activation c.args.crossing.now c.in_ok-sent.sent c.args.guarded.now.world _ _ c.if-activation-eq0.false (sym c.atomic.ensures ∙ c.if-atomic.false) c.in_ok-sent.ensures c.as_slice.ensures c.in_ok-gave.ensures.gave

pub backs::call_within-returns-in-Ok-Ok-clause-gave : goal.backs::call_within-returns-in-Ok-Ok-clause-gave
backs::call_within-returns-in-Ok-Ok-clause-gave t c =
    IfOk-weaker c.enter_within.result _ _
    (λ g h. h ∙ set_taken c.args.activation (wires_of c.args.args.now) c.args.guarded.now.world c.in-Ok-Ok.set
    (sym (ap answered c.in-Ok-Ok.field-0-is) ∙ c.in-Ok-Ok.ensures.exact ∙ ap (taken_from c.args.activation.upcall (wires_of c.args.args.now)) c.world.ensures.memory))
    c.enter_within.ensures.gave

pub backs::call_within-returns-in-Ok-Err-clause-gave : goal.backs::call_within-returns-in-Ok-Err-clause-gave
backs::call_within-returns-in-Ok-Err-clause-gave t c =
    set_fails c.args.activation (wires_of c.args.args.now) c.args.guarded.now.world _ c.no_set.result
    (sym (ap answered c.in-Ok-Err.field-0-is) ∙ c.in-Ok-Err.ensures.exact ∙ ap (taken_from c.args.activation.upcall (wires_of c.args.args.now)) c.world.ensures.memory) c.no_set.ensures

-- ---- an upcall within others

pub backs::enter_within-closed_within-requires : goal.backs::enter_within-closed_within-requires
backs::enter_within-closed_within-requires t c = record {
  within =
      within_left c.args.activation (wires_of c.args.args.now) c.args.guarded.now.world c.args.set c.in_ok-gave.gave c.enter.new.guarded.world _ c.requires.begins
      (ran_within c.args.activation (wires_of c.args.args.now) c.args.set c.args.guarded.now.program c.in_ok-gave.gave c.args.guarded.now.world c.push.new.self c.enter.new.guarded c.in_ok-push.ensures c.in_ok-gave.ensures.gave)
      c.below-around.ensures;
}

pub backs::enter_within-returns-clause-gave : goal.backs::enter_within-returns-clause-gave
backs::enter_within-returns-clause-gave t c =
    c.closed_within.ensures.gave
    ∙ ap closing (ran_within c.args.activation (wires_of c.args.args.now) c.args.set c.args.guarded.now.program c.in_ok-gave.gave c.args.guarded.now.world c.push.new.self c.enter.new.guarded c.in_ok-push.ensures c.in_ok-gave.ensures.gave)

pub upcall::enter-returns-then-is_user-clause-gave : goal.upcall::enter-returns-then-is_user-clause-gave
upcall::enter-returns-then-is_user-clause-gave t c =
    IfOk-weaker c.run-gave.result _ _
    (λ g h. machine_runs c.args.activation (wires_of c.args.args.now) c.args.guarded.now.world c.in_ok-machine.machine g c.run-gave.new.guarded.world c.in_ok-machine.ensures h)
    c.run-gave.ensures.gave

pub upcall::enter-returns-clause-gave : goal.upcall::enter-returns-clause-gave
upcall::enter-returns-clause-gave t c =
    elsewhere_runs c.args.activation (wires_of c.args.args.now) c.args.guarded.now.world c.in_ok-crossing.crossing c.in_ok-gave.gave c.passed_on.result c.downcall.new.guarded.world
    (sym c.is_user.ensures ∙ c.if-is_user.false) c.in_ok-crossing.ensures c.in_ok-gave.ensures.gave c.passed_on.ensures
