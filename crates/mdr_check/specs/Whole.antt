-- believed
-- A whole file: what its items come to, or all faults in it.
use Rattle.std.specs.Prelude.{◌≡◌, List, [], Result, MatchResult}
use Rattle.mdr_core.specs.declared.place.Place.{Place}
use Rattle.mdr_syntax.specs.declared.tree.Item.{Item}
use Rattle.mdr_check.specs.declared.file.Piece.{Piece}
use Rattle.mdr_faults.specs.declared.fault.Fault.{Fault}
use Rattle.mdr_faults.specs.Faults.{Checked, Right, IsFirst, both}
use Rattle.mdr_check.specs.Files.{BodyRule, pieces_behind, known_behind, first_known}
use Rattle.mdr_check.specs.Names.{short_items}
use Rattle.mdr_check.specs.Uses.{UseRule, defined_functions}

-- what this comes to, or of all faults in it the one that comes first
abbrev pub Finds : {A : Type 0} → Checked A → Result A Fault → Type 0
Finds c r = MatchResult r (λ x. c ≡ Right x) (λ f. IsFirst f c)

abbrev pub kept : List Piece → List Place → Checked (List Piece)
kept xs ps = Right xs

abbrev pub named : Unit {0} → List Piece → Checked (List Piece)
named u xs = Right xs

-- each item behind those before it, names that are not too long, and each function that is declared is defined. Bodies are judged by a rule of their own
unfoldable pub file_pieces : BodyRule → UseRule → List Item → Checked (List Piece)
file_pieces body uses items =
    both (short_items items)
    (both (pieces_behind body (first_known items) [] items)
    (defined_functions uses items (known_behind (first_known items) items).functions)
    kept)
    named
