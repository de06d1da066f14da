-- A device, by computing.
use Rattle.std.proofs.Common.{refl}
use Rattle.mdr_device.specs.Rules.{effected, ruled, one_tick}
use Rattle.mdr_device.specs.Machines.{read, written, ticked}
use Rattle.mdr_device.specs.Worked.{DevicesWork}

pub devices_work : DevicesWork
unfolding effected ruled one_tick read written ticked
devices_work = record {
  counted_down = refl;
  lowered = refl;
  unguarded = refl;
  guard_later = refl;
  guard_first = refl;
  at_once = refl;
  taken = refl;
}
