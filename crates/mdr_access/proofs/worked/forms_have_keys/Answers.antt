use Rattle.mdr_access.proofs.WorkedFormProofs.{forms_have_keys}
use Rattle.mdr_access.proofs.worked.forms_have_keys.Goals as goal

pub returns : goal.returns
returns c = forms_have_keys
