use Rattle.mdr_type_table.proofs.Apart.{texts_tell_types_apart}
use Rattle.mdr_type_table.proofs.text_laws.texts_tell_types_apart.Goals as goal

pub returns : goal.returns
returns c = texts_tell_types_apart
