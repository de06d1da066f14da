use Rattle.mdr_plain.proofs.InterruptProofs.{starves_handler, takes_interrupt, takes_one_at_a_time, waits_for_lock}
use Rattle.mdr_plain.proofs.worked.interrupts_are_taken.Goals as goal

pub returns : goal.returns
returns c = record { between = takes_interrupt; one = takes_one_at_a_time; starved = starves_handler; locked = waits_for_lock }
