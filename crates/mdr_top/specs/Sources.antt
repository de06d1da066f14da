-- protocol
-- The source whose halves and plan have the texts in three files.
use Rattle.std.specs.Prelude.{◌≡◌, ℕ, List, Err}
use Rattle.mdr_core.specs.Sound.{IsSound}
use Rattle.mdr_cut.specs.declared.texts.Texts.{Texts}
use Rattle.mdr_due.specs.declared.status.Status.{Status}
use Rattle.mdr_due.specs.declared.status.Status.TheVariants as status
use Rattle.mdr_due.specs.Reads.{Files}
use Rattle.mdr_halves.specs.declared.mismatch.Mismatch.{Mismatch}
use Rattle.mdr_halves.specs.Joins.{AreTextsOf}
use Rattle.mdr_halves.specs.Lines.{mismatch_line}
use Rattle.mdr_halves.specs.Whole.{Come}
use Rattle.mdr_outside.specs.Calls.{ShelfCall}
use Rattle.mdr_source.specs.declared.outcome.Source.{Source}
use Rattle.mdr_top.specs.Names.{TextNames}
use Rattle.mdr_top.specs.Reads.{AreRead, NoTexts}

-- texts that are those of a source, whose program is sound
pub record HasHalves (texts : Texts) (source : Source) : Type 0 where
  pub are : AreTextsOf texts source
  pub sound : IsSound source.program

-- texts that are refused
pub record NoHalves (texts : Texts) (s : Status) (text : List ℕ) : Type 0 where
  pub mismatch : Mismatch
  pub come : Come texts (Err mismatch)
  pub status_is : s ≡ status.HalvesRefused
  pub text_is : text ≡ mismatch_line mismatch

-- these very reads gave the texts of this source
pub record IsSourceIn (files : Files) (names : TextNames) (old new : List ShelfCall) (source : Source) : Type 0 where
  pub texts : Texts
  pub read : AreRead files names old new texts
  pub has : HasHalves texts source

-- these very reads gave no texts, or such as are refused
pub data NoSourceIn (files : Files) (names : TextNames) (old new : List ShelfCall) (s : Status) (text : List ℕ) : Type 0 where
  unread : NoTexts files names old new s text → NoSourceIn files names old new s text
  refused : (texts : Texts) → AreRead files names old new texts → NoHalves texts s text → NoSourceIn files names old new s text
