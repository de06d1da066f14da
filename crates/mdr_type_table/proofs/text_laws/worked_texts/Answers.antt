use Rattle.mdr_type_table.proofs.WorkedTexts.{worked_texts}
use Rattle.mdr_type_table.proofs.text_laws.worked_texts.Goals as goal

pub returns : goal.returns
returns c = worked_texts
