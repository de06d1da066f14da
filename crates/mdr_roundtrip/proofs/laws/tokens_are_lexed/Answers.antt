use Rattle.mdr_roundtrip.proofs.Lexemes.{tokens_are_lexed}
use Rattle.mdr_roundtrip.proofs.laws.tokens_are_lexed.Goals as goal

pub returns : goal.returns
returns c = tokens_are_lexed
