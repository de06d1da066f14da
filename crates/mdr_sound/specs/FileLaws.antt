-- for proofs
-- What holds of the program of a file in which no fault is found.
use Rattle.std.specs.Prelude.{◌≡◌, List}
use Rattle.mdr_core.specs.declared.program.Program.{Program}
use Rattle.mdr_core.specs.declared.types.Ty.{Ty}
use Rattle.mdr_core.specs.Sound.{HasFewNumbers, IsSound, IsTable}
use Rattle.mdr_core.specs.Typing.{Slot}
use Rattle.mdr_syntax.specs.declared.tree.Item.{Item}
use Rattle.mdr_faults.specs.declared.scope.Scope.{Scope}
use Rattle.mdr_faults.specs.Faults.{Right}
use Rattle.mdr_check.specs.Uses.{UseRule}
use Rattle.mdr_body.specs.Bodies.{body_rule}
use Rattle.mdr_body.specs.Statements.{Rules}
use Rattle.mdr_lower.specs.Tables.{Occurs}
use Rattle.mdr_program.specs.Programs.{typed}
use Rattle.mdr_sound.specs.Knowing.{IsFormed, Knows}
use Rattle.mdr_sound.specs.Rules.{AreSoundRules}
use Rattle.mdr_sound.specs.Whole.{HasAll, AreDefinesInRange, AreBodiesProper}

-- each type that occurs in the program is a type of objects (6.2.5), if the rules of statements are sound
abbrev pub TypesOfFilesAreFormed : Type 0
TypesOfFilesAreFormed = (program : Program) (rules : Rules) (uses : UseRule) (items : List Item) → typed (body_rule rules) uses items ≡ Right program → AreDefinesInRange items → AreBodiesProper items → ((scope : Scope) → Knows program scope → (slots : List Slot) → AreSoundRules program slots scope rules) → (t : Ty) → Occurs program t → IsFormed program t

-- the program is sound, if the rules of statements are, its type table is one and has each type that occurs, and its numbers are few
abbrev pub FilesAreSound : Type 0
FilesAreSound = (program : Program) (rules : Rules) (uses : UseRule) (items : List Item) → typed (body_rule rules) uses items ≡ Right program → AreDefinesInRange items → AreBodiesProper items → ((scope : Scope) → Knows program scope → (slots : List Slot) → AreSoundRules program slots scope rules) → HasAll program → IsTable program → HasFewNumbers program → IsSound program
