-- for proofs
-- What a source comes to doesn't depend on its places (C99 5.1.1.2, 6.5 to 6.9).
use Rattle.std.specs.Prelude.{◌≡◌, List, map}
use Rattle.mdr_core.specs.declared.place.Place.{Place}
use Rattle.mdr_core.specs.declared.plan.Plan.{Plan}
use Rattle.mdr_syntax.specs.declared.tree.Decl.{Decl}
use Rattle.mdr_syntax.specs.declared.tree.Form.{Form}
use Rattle.mdr_syntax.specs.declared.tree.Head.{Head}
use Rattle.mdr_syntax.specs.declared.tree.Node.{Node}
use Rattle.mdr_syntax.specs.declared.tree.Tree.{Tree}
use Rattle.mdr_roundtrip.specs.Unplaced.{unplaced_form}
use Rattle.mdr_roundtrip.specs.Declarations.{unplaced_decl}
use Rattle.mdr_roundtrip.specs.Stated.{unplaced_node}
use Rattle.mdr_roundtrip.specs.Itemised.{unplaced_head, unplaced_tree}
use Rattle.mdr_faults.specs.declared.scope.Scope.{Scope}
use Rattle.mdr_faults.specs.Declarations.{object_declared}
use Rattle.mdr_headings.specs.Heads.{heading}
use Rattle.mdr_operand.specs.declared.room.LocalName.{LocalName}
use Rattle.mdr_operand.specs.Written.{written_of}
use Rattle.mdr_express.specs.Expressions.{typed as typed_form}
use Rattle.mdr_body.specs.Bodies.{body_rule}
use Rattle.mdr_body.specs.Uses.{first_use}
use Rattle.mdr_typing.specs.Profile.{profile_rules}
use Rattle.mdr_check.specs.Whole.{file_pieces}
use Rattle.mdr_program.specs.Programs.{typed}
use Rattle.mdr_check_half.specs.HalfPrograms.{half_typed}
use Rattle.mdr_placeless.specs.Alike.{AreAlike}

-- an expression (6.5)
abbrev pub ExpressionsLookAtNoPlace : Type 0
ExpressionsLookAtNoPlace = (scope : Scope) (locals : List LocalName) (f g : Form) → unplaced_form f ≡ unplaced_form g → AreAlike (typed_form scope locals (written_of f)) (typed_form scope locals (written_of g))

-- what a declaration declares (6.7). What is too large is told at a place of its own
abbrev pub DeclarationsLookAtNoPlace : Type 0
DeclarationsLookAtNoPlace = (scope : Scope) (p q : Place) (d e : Decl) → unplaced_decl d ≡ unplaced_decl e → AreAlike (object_declared scope p d) (object_declared scope q e)

-- what stands before a function's body (6.7.5.3)
abbrev pub HeadingsLookAtNoPlace : Type 0
HeadingsLookAtNoPlace = (scope : Scope) (h k : Head) → unplaced_head h ≡ unplaced_head k → AreAlike (heading scope h) (heading scope k)

-- a function's body (6.8, 6.9.1)
abbrev pub BodiesLookAtNoPlace : Type 0
BodiesLookAtNoPlace = (scope : Scope) (h k : Head) (body other : List Node) → unplaced_head h ≡ unplaced_head k → map unplaced_node body ≡ map unplaced_node other → AreAlike (body_rule profile_rules scope h body) (body_rule profile_rules scope k other)

-- the items of a file (6.9)
abbrev pub FilesLookAtNoPlace : Type 0
FilesLookAtNoPlace = (tree other : Tree) → unplaced_tree tree ≡ unplaced_tree other → AreAlike (file_pieces (body_rule profile_rules) first_use tree.items) (file_pieces (body_rule profile_rules) first_use other.items)

-- the program of a source
abbrev pub ProgramsLookAtNoPlace : Type 0
ProgramsLookAtNoPlace = (tree other : Tree) → unplaced_tree tree ≡ unplaced_tree other → AreAlike (typed (body_rule profile_rules) first_use tree.items) (typed (body_rule profile_rules) first_use other.items)

-- the program of a user half's text with a plan
abbrev pub HalvesLookAtNoPlace : Type 0
HalvesLookAtNoPlace = (plan : Plan) (tree other : Tree) → unplaced_tree tree ≡ unplaced_tree other → AreAlike (half_typed (body_rule profile_rules) first_use plan tree.items) (half_typed (body_rule profile_rules) first_use plan other.items)
