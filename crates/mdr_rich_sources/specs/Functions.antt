-- protocol
-- The tree of a function of a source, with fuel, as that of a program's function.
use Rattle.std.specs.Prelude.{ℕ, zero, suc, List, []}
use Rattle.mdr_core.specs.declared.stop.StopKind.TheVariants as stop
use Rattle.mdr_core.specs.declared.types.Ty.TheVariants.{Void}
use Rattle.mdr_meaning.specs.declared.wire.Wire.{Wire}
use Rattle.mdr_meaning.specs.Sides.{in_here}
use Rattle.mdr_meaning.specs.Tree.{Tree}
use Rattle.mdr_rich_sources.specs.Expressions.{RichSide, RichMeans, rich_goes_to}
use Rattle.mdr_rich_sources.specs.Statements.{stmts}

-- fuel is used where a loop turns and where a called body is entered, which a tick precedes; where it runs out no tick is left
unfoldable pub rich_means : RichSide → ℕ → RichMeans
rich_means side zero here cs l k = Tree.Tick (in_here here 0) here.depth (Tree.Stop stop.Ticks (in_here here 0))
rich_means side (suc n) here cs l k = stmts side (rich_means side n) here cs l k

-- a function that is started with so many active before it, over what lies below
unfoldable pub rich_started : RichSide → ℕ → (func : ℕ) (args : List Wire) (depth : ℕ) (below : Tree) → Tree
rich_started side n f args depth below =
    rich_goes_to side (rich_means side n) (record { func = f; depth = depth; slots = []; result = Void }) (record { func = f; stmt = 0 }) f args (side.own f) (λ v. Tree.Done v below)
