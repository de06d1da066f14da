use Rattle.std.proofs.Common.{refl}
use Rattle.mdr_top.proofs.RunLaws.{whole_done, whole_part}
use Rattle.mdr_top.proofs.ways.ran.Goals as goal

pub returns-in-Whole-clause-done : goal.returns-in-Whole-clause-done
returns-in-Whole-clause-done g c = whole_done c.run_whole.result c.args.way c.in-Whole.manner c.args.source_name.now c.args.script_name.now _ c.in-Whole.is refl c.run_whole.ensures.done

pub returns-in-Whole-clause-part : goal.returns-in-Whole-clause-part
returns-in-Whole-clause-part g c = whole_part c.run_whole.result c.args.way c.in-Whole.manner c.args.source_name.now c.args.script_name.now _ c.in-Whole.is refl c.run_whole.ensures.part
