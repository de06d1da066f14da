use Rattle.mdr_roundtrip.proofs.Printing.{trees_are_printable}
use Rattle.mdr_roundtrip.proofs.laws.sources_are_printable.Goals as goal

pub returns : goal.returns
returns c = trees_are_printable
