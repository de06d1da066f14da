-- for proofs
-- Lowering keeps what a source's functions mean: the tree of each is that of its lowered body, for every fuel.
use Rattle.std.specs.Prelude.{◌≡◌, ℕ, false, List, ◌++◌, length, map, Some, None}
use Rattle.mdr_core.specs.declared.program.Program.{Program}
use Rattle.mdr_core.specs.declared.types.Ty.{Ty}
use Rattle.mdr_core.specs.Folds.{codes_of}
use Rattle.mdr_core.specs.Typing.{Slot, slot_of_local}
use Rattle.mdr_meaning.specs.declared.wire.Wire.{Wire}
use Rattle.mdr_meaning.specs.Bodies.{started}
use Rattle.mdr_meaning.specs.Sides.{Body, Side}
use Rattle.mdr_meaning.specs.Tree.{Tree}
use Rattle.mdr_rich.specs.declared.code.Stmt.{Stmt as RichStmt}
use Rattle.mdr_rich.specs.Folds.{codes_of as rich_codes_of}
use Rattle.mdr_rich.specs.Typing.{AreTyped}
use Rattle.mdr_lower.specs.Lowering.{lowered}
use Rattle.mdr_rich_sources.specs.Functions.{rich_started}
use Rattle.mdr_rich_sources.specs.Expressions.{RichBody, RichSide}

-- a body, lowered: the slots that were taken stand behind the source's
abbrev pub lowered_body : List Slot → (result : Ty) → List RichStmt → Body
lowered_body slots result ss = record { slots = slots ++ map slot_of_local (lowered (length slots) ss).slots; result = result; code = codes_of (lowered (length slots) ss).code }

-- a source's body that has its types, and its lowered one
pub record IsLoweredBody (program : Program) (rich : RichBody) (body : Body) : Type 0 where
  pub source : List RichStmt
  pub code : rich.code ≡ rich_codes_of source
  pub typed : AreTyped program rich.slots rich.result false (rich_codes_of source)
  pub is : body ≡ lowered_body rich.slots rich.result source

-- a side of a source and that of its program: each body is lowered, and both know the same types, structs and globals
pub record IsLowered (program : Program) (rich : RichSide) (side : Side) : Type 0 where
  pub known : rich.known ≡ side.known
  pub asks : rich.asks ≡ side.asks
  pub structs : side.known.program.structs ≡ program.structs
  pub globals : side.known.program.globals ≡ program.globals
  pub none : (f : ℕ) → rich.own f ≡ None → side.own f ≡ None
  pub some : (f : ℕ) (b : RichBody) → rich.own f ≡ Some b → (body : Body) × (side.own f ≡ Some body) × IsLoweredBody program b body

abbrev pub LoweringKeepsTrees : Type 0
LoweringKeepsTrees =
    (program : Program) (rich : RichSide) (side : Side) → IsLowered program rich side → (n f : ℕ) (args : List Wire) (depth : ℕ) (below : Tree)
    → rich_started rich n f args depth below ≡ started side n f args depth below
