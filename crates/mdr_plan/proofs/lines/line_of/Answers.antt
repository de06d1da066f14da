use Rattle.mdr_plan.specs.LineReading.{line_at}
use Rattle.mdr_plan.specs.Lines.{Reads}
use Rattle.mdr_plan.proofs.Found.{found_by}
use Rattle.mdr_plan.proofs.LinesAre.{line_is}
use Rattle.mdr_plan.proofs.LinesAgain.{line_again}
use Rattle.mdr_plan.proofs.lines.line_of.Goals as goal

pub returns : goal.returns
returns c = found_by (Reads c.args.reader.now c.args.bytes.now) c.line_at.result (line_at c.args.reader.now c.args.bytes.now) (line_is c.args.reader.now c.args.bytes.now) (line_again c.args.reader.now c.args.bytes.now) c.line_at.ensures
