-- for proofs
-- What three texts are refused for, and what they have in common with the source that they are of.
use Rattle.std.specs.Prelude.{◌≡◌, Err}
use Rattle.mdr_cut.specs.declared.texts.Texts.{Texts}
use Rattle.mdr_roundtrip.specs.Itemised.{unplaced_tree}
use Rattle.mdr_source.specs.declared.outcome.Source.{Source}
use Rattle.mdr_halves.specs.declared.mismatch.Mismatch.{Mismatch}
use Rattle.mdr_halves.specs.Joins.{AreTextsOf}
use Rattle.mdr_halves.specs.Whole.{Come}

-- texts that are refused are those of no source
abbrev pub RefusedTextsAreOfNone : Type 0
RefusedTextsAreOfNone = (texts : Texts) (m : Mismatch) (source : Source) → Come texts (Err m) → AreTextsOf texts source → ⊥

-- sources with the same texts have the same tree, places aside, and the same program
pub record AreSame (source other : Source) : Type 0 where
  pub trees : unplaced_tree source.tree ≡ unplaced_tree other.tree
  pub programs : source.program ≡ other.program

abbrev pub TextsAreOfOne : Type 0
TextsAreOfOne = (texts : Texts) (source other : Source) → AreTextsOf texts source → AreTextsOf texts other → AreSame source other
