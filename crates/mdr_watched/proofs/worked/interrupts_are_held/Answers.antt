use Rattle.mdr_watched.proofs.WorkedProofs.{holds_in_downcall, holds_interrupt}
use Rattle.mdr_watched.proofs.worked.interrupts_are_held.Goals as goal

pub returns : goal.returns
returns c = record { upcall = holds_interrupt; downcall = holds_in_downcall }
