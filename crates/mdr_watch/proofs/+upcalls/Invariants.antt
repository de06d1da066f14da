-- The measures of upcalls within one another, by the room that is left, and the invariants of their loops.
use Rattle.std.proofs.Common.{◌+◌, ◌-◌, ◌*◌}
use Rattle.mdr_watch.specs.Nesting.{called_in}
use Rattle.mdr_watch.proofs.Below.{OnItsWay}
use Rattle.mdr_watch.proofs.Turns.{UnderWay}
use Rattle.mdr_watch.proofs.+upcalls.Given as goal

abbrev pub decreases-backs::call_back : goal.decreases-backs::call_back
decreases-backs::call_back l = 16 * l.activation.room

abbrev pub decreases-downcalls::back_below : goal.decreases-downcalls::back_below
decreases-downcalls::back_below l = 16 * l.activation.room + 1

abbrev pub decreases-downcalls::call_below : goal.decreases-downcalls::call_below
decreases-downcalls::call_below l = 16 * l.activation.room + 2

abbrev pub decreases-downcalls::downcall : goal.decreases-downcalls::downcall
decreases-downcalls::downcall l = 16 * l.activation.room + 3

abbrev pub decreases-turn::cross : goal.decreases-turn::cross
decreases-turn::cross l = 16 * l.activation.room + 4

abbrev pub decreases-turn::follow : goal.decreases-turn::follow
decreases-turn::follow l = 16 * l.activation.room + 5

abbrev pub decreases-turn::follow_up : goal.decreases-turn::follow_up
decreases-turn::follow_up l = 16 * l.activation.room + 6

abbrev pub decreases-turn::run : goal.decreases-turn::run
decreases-turn::run l = 16 * l.activation.room + 7

abbrev pub decreases-upcall::enter : goal.decreases-upcall::enter
decreases-upcall::enter l = 16 * l.activation.room + 8

abbrev pub decreases-backs::enter_within : goal.decreases-backs::enter_within
decreases-backs::enter_within l = 16 * l.activation.room + 9

abbrev pub decreases-backs::call_within : goal.decreases-backs::call_within
decreases-backs::call_within l = 16 * l.activation.room + 10

-- what is under way does what was to be done at first
abbrev pub invariant-turn::run-loop-turns : goal.invariant-turn::run-loop-turns
invariant-turn::run-loop-turns l = UnderWay l.activation l.fn.machine l.fn.guarded l.machine l.event l.guarded

abbrev pub decreases-turn::run-loop-turns : goal.decreases-turn::run-loop-turns
decreases-turn::run-loop-turns l = 18446744073709551615 - l.turns

-- and what follows how far code of the kernel half went is what all of it does
abbrev pub invariant-downcalls::call_below-loop-turns : goal.invariant-downcalls::call_below-loop-turns
invariant-downcalls::call_below-loop-turns l = OnItsWay l.activation (called_in l.activation l.crossing l.fn.guarded.world) l.went l.guarded

abbrev pub decreases-downcalls::call_below-loop-turns : goal.decreases-downcalls::call_below-loop-turns
decreases-downcalls::call_below-loop-turns l = 18446744073709551615 - l.turns
