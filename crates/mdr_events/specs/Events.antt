-- protocol
-- What running code asks for, as definitions have it.
use Rattle.mdr_meaning.specs.Lives.{asked_for}
use Rattle.mdr_meaning.specs.Tree.{Asked}
use Rattle.mdr_events.specs.declared.event.Asked.{Asked as Question}
use Rattle.mdr_events.specs.Values.{wires_of}

abbrev pub asked_as : Question → Asked
asked_as q = asked_for q.service q.at (wires_of q.args) q.shapes q.bytes
