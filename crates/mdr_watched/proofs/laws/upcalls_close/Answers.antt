use Rattle.mdr_watched.proofs.CloseLaws.{no_set_is_left, upcalls_close}
use Rattle.mdr_watched.proofs.laws.upcalls_close.Goals as goal

pub returns : goal.returns
returns c = record { each = upcalls_close; all = no_set_is_left }
