-- protocol
-- Statements that declare something (C99 6.7).
use Rattle.std.specs.Prelude.{◌≡◌, Bool, true, false}
use Rattle.mdr_core.specs.declared.place.Place.{Place}
use Rattle.mdr_syntax.specs.declared.tree.NodeWhat.{NodeWhat}
use Rattle.mdr_operand.specs.Written.{Line}
use Rattle.mdr_body.specs.Addresses.{line_what}

abbrev pub declares : Line → Bool
declares (Line.Local p d init) = true
declares l = false

-- a statement that declares nothing (6.8)
abbrev pub IsPlain : NodeWhat → Place → Type 0
IsPlain what p = declares (line_what what p) ≡ false
