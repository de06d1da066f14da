use Rattle.mdr_roundtrip.proofs.FormsApart.{forms_apart}
use Rattle.mdr_roundtrip.proofs.token_laws.printable_expressions_are_apart.Goals as goal

pub returns : goal.returns
returns c = forms_apart
