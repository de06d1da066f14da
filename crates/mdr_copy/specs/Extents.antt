-- protocol
-- Where the cells of a run lie, as the code keeps it: its length has no bound of 32 bits.
use Rattle.mdr_model.specs.declared.message.SetRun.{SetRun}
use Rattle.mdr_copy.specs.declared.extents.Extent.{Extent}

abbrev pub set_run : Extent → SetRun
set_run e = record { serial = e.serial; first = e.first; len = e.len }
