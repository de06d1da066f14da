use Rattle.std.proofs.Common.{[], refl}
use Rattle.mdr_print.specs.Forms.{form}
use Rattle.mdr_print.specs.Marks.{spell}
use Rattle.mdr_print.proofs.Reading.{reads_tree}
use Rattle.mdr_roundtrip.proofs.FormsApart.{forms_apart}
use Rattle.mdr_roundtrip.proofs.token_laws.printable_expressions_are_read.Goals as goal

pub returns : goal.returns
unfolding spell
returns c f h = reads_tree (form f []) (forms_apart f h [] tt refl)
