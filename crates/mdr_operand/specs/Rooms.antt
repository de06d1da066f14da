-- believed
-- Names inside a function (C99 6.2.1).
use Rattle.std.specs.Prelude.{ℕ, List, [], ◌∷◌, Option, Some, None}
use Rattle.std.specs.Str.{bytes_eq}
use Rattle.mdr_core.specs.Layout.{chosen}
use Rattle.mdr_operand.specs.declared.room.LocalName.{LocalName}

-- the innermost declaration of a name is the last so far: the names of a block stand behind those of the blocks around it (6.2.1, paragraph 4)
unfoldable pub local_from : (found : Option LocalName) → List LocalName → List ℕ → Option LocalName
local_from found [] name = found
local_from found (n ∷ ns) name = local_from (chosen (bytes_eq n.name name) (Some n) found) ns name

abbrev pub local_named : List LocalName → List ℕ → Option LocalName
local_named locals name = local_from None locals name
