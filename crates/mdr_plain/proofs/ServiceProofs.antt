-- The worked services stop and give what they are said to.
use Rattle.std.proofs.Common.{refl}
use Rattle.mdr_plain.specs.WorkedServices.{ServicesStop, ServicesGive}
use Rattle.mdr_plain.proofs.Computing.{runs}

pub services_stop : ServicesStop
unfolding runs
services_stop = record {
  null_lock = refl;
  lock_behind = refl;
  lock_held = refl;
  lock_free = refl;
  lock_twice = refl;
  global_freed = refl;
  inside_freed = refl;
  locked_freed = refl;
  member_freed = refl;
  null_freed = refl;
  bug = refl;
  read_behind = refl;
  written_behind = refl;
  last_read = refl;
  null_delivered = refl;
  too_many_delivered = refl;
  none_delivered = refl;
}

pub services_give : ServicesGive
unfolding runs
services_give = record {
  word = refl;
  first_handler = refl;
  second_handler = refl;
  again = refl;
  none = refl;
  too_many = refl;
  two = refl;
  counted = refl;
  third = refl;
  spins = refl;
  sleeps = refl;
  freed = refl;
  dead = refl;
}
