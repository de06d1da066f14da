-- for proofs
-- The texts of halves, read and joined.
use Rattle.std.specs.Prelude.{◌≡◌, List, Ok}
use Rattle.mdr_syntax.specs.declared.tree.Item.{Item}
use Rattle.mdr_syntax.specs.declared.tree.Tree.{Tree}
use Rattle.mdr_half.specs.Joins.{joined}
use Rattle.mdr_roundtrip.specs.Itemised.{unplaced_tree}

-- the two trees are joined, and give this one, places aside
pub record AreJoinedTo (kernel user tree : Tree) : Type 0 where
  pub items : List Item
  pub is_joined : joined kernel user ≡ Ok items
  pub same : unplaced_tree (record { items = items }) ≡ unplaced_tree tree
