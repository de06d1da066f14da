use Rattle.mdr_type_table.proofs.Apart.{pointer_texts_are_read}
use Rattle.mdr_type_table.proofs.text_laws.pointer_texts_are_read.Goals as goal

pub returns : goal.returns
returns c = pointer_texts_are_read
