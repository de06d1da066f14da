-- believed
-- Messages that have spellings.
use Rattle.std.specs.Prelude.{List}
use Rattle.std.specs.List.{AllByRecursion}
use Rattle.mdr_model.specs.declared.message.Message.{Message}
use Rattle.mdr_msg.specs.WellFormed.{IsMessage}

-- each message has a spelling: no list is longer than its length can say, and each number fits its bytes
abbrev pub HaveSpellings : List Message → Type 0
HaveSpellings ms = AllByRecursion IsMessage ms
