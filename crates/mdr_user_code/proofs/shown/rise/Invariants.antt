use Rattle.std.proofs.Common.{◌≡◌, None, drop}
use Rattle.std.specs.Prelude.{option_map}
use Rattle.mdr_copy.specs.Extents.{set_run}
use Rattle.mdr_model.specs.Sets.{rises_after}
use Rattle.mdr_user_code.proofs.shown.rise.Given as goal

abbrev pub invariant-loop-run : goal.invariant-loop-run
invariant-loop-run l = rises_after (option_map set_run l.before) (drop l.run-index l.runs) ≡ rises_after None l.runs
