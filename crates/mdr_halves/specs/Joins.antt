-- protocol
-- Two texts that are the halves of one tree, and three that are those of one source.
use Rattle.std.specs.Prelude.{◌≡◌, ℕ, List, Ok}
use Rattle.mdr_cut.specs.declared.texts.Texts.{Texts}
use Rattle.mdr_cut.specs.Cuts.{AreTexts}
use Rattle.mdr_half.specs.Joins.{joined}
use Rattle.mdr_source.specs.declared.outcome.Source.{Source}
use Rattle.mdr_source.specs.Sources.{Comes}
use Rattle.mdr_syntax.specs.declared.tree.Item.{Item}
use Rattle.mdr_syntax.specs.declared.tree.Tree.{Tree}
use Rattle.mdr_halves.specs.Reads.{IsHalf}

abbrev pub tree_with : List Item → Tree
tree_with items = record { items = items }

-- both texts of halves are read, and their trees are joined to these items
pub record AreJoined (texts : Texts) (items : List Item) : Type 0 where
  pub kernel : Tree
  pub user : Tree
  pub kernel_is : IsHalf texts.kernel kernel
  pub user_is : IsHalf texts.user user
  pub joins : joined kernel user ≡ Ok items

-- bytes that are accepted have this tree and this program, and are cut into these texts
pub record AreTextsOf (texts : Texts) (source : Source) : Type 0 where
  pub bytes : List ℕ
  pub comes : Comes bytes (Ok source)
  pub are : AreTexts source.tree source.program texts
