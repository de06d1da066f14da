use Rattle.mdr_sound.proofs.Tables.{table_sound}
use Rattle.mdr_sound.proofs.declaration_laws.tables_are_sound.Goals as goal

pub returns : goal.returns
returns c = table_sound
