-- believed
-- The program of a user half's text with a plan.
use Rattle.std.specs.Prelude.{List}
use Rattle.mdr_core.specs.declared.place.Place.{Place}
use Rattle.mdr_core.specs.declared.plan.Plan.{Plan}
use Rattle.mdr_core.specs.declared.program.Program.{Program}
use Rattle.mdr_syntax.specs.declared.tree.Item.{Item}
use Rattle.mdr_faults.specs.declared.fault.FaultKind.TheVariants.{Mismatch}
use Rattle.mdr_faults.specs.Faults.{Checked, Right, after, demand}
use Rattle.mdr_check.specs.declared.file.Piece.{Piece}
use Rattle.mdr_check.specs.Files.{BodyRule}
use Rattle.mdr_check.specs.Uses.{UseRule}
use Rattle.mdr_check.specs.Whole.{file_pieces}
use Rattle.mdr_program.specs.declared.parts.Parts.{Parts}
use Rattle.mdr_program.specs.Parts.{parts_of}
use Rattle.mdr_program.specs.Programs.{with_types}
use Rattle.mdr_check_half.specs.Suiting.{suits_text}

-- the first place of a text
abbrev pub begin : Place
begin = record { line = 1; column = 1 }

-- a plan that doesn't suit the text is told of at its first place. Of one that does the program has the type table
abbrev pub planned : Plan → Parts → Checked Program
planned plan ps = demand begin Mismatch (suits_text plan ps) (Right (with_types plan.types ps))

abbrev pub half_right : Plan → List Piece → Checked Program
half_right plan xs = planned plan (parts_of xs)

-- what the text of a user half comes to with a plan: its program, or all faults in it. The plan is judged where there is no other
abbrev pub half_typed : BodyRule → UseRule → Plan → List Item → Checked Program
half_typed body uses plan items = after (file_pieces body uses items) (half_right plan)
