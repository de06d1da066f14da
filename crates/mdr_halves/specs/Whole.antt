-- protocol
-- What three texts come to that should be those of the two halves of a source and of its plan: the source, or the first of five things for which they are refused.
use Rattle.std.specs.Prelude.{◌≡◌, ℕ, List, Result, Ok, Err}
use Rattle.mdr_core.specs.declared.program.Program.{Program}
use Rattle.mdr_cut.specs.declared.texts.Texts.{Texts}
use Rattle.mdr_cut.specs.Cuts.{AreTexts}
use Rattle.mdr_half.specs.Joins.{joined}
use Rattle.mdr_source.specs.declared.outcome.Source.{Source}
use Rattle.mdr_source.specs.declared.refusal.Refusal.{Refusal}
use Rattle.mdr_source.specs.Sources.{Means}
use Rattle.mdr_syntax.specs.declared.tree.Item.{Item}
use Rattle.mdr_syntax.specs.declared.tree.Tree.{Tree}
use Rattle.mdr_verify.specs.Verdicts.{IsOtherLine}
use Rattle.mdr_halves.specs.declared.mismatch.Mismatch.{Mismatch}
use Rattle.mdr_halves.specs.declared.mismatch.Which.{Which}
use Rattle.mdr_halves.specs.declared.mismatch.Which.TheVariants as which
use Rattle.mdr_halves.specs.Reads.{IsHalf, IsUnread}
use Rattle.mdr_halves.specs.Joins.{tree_with, AreJoined, AreTextsOf}

abbrev pub at : Which → ℕ → Mismatch
at text line = record { text = text; line = line }

-- the first of three texts that isn't the one that is due, and its first other line
pub data IsOther (given due : Texts) : Mismatch → Type 0 where
  in_kernel : (line : ℕ) → IsOtherLine given.kernel due.kernel line → IsOther given due (at which.Kernel line)
  in_user : (line : ℕ) → given.kernel ≡ due.kernel → IsOtherLine given.user due.user line → IsOther given due (at which.User line)
  in_plan : (line : ℕ) → given.kernel ≡ due.kernel → given.user ≡ due.user → IsOtherLine given.plan due.plan line → IsOther given due (at which.Plan line)

-- a text of a half isn't read; the halves aren't those of one tree, which is told of the user half's; the types of the joined tree are refused, which is told of no line; or a text isn't that of the joined tree
pub data Come (texts : Texts) : Result Source Mismatch → Type 0 where
  no_kernel : (line : ℕ) → IsUnread texts.kernel line → Come texts (Err (at which.Kernel line))
  no_user : (kernel : Tree) (line : ℕ) → IsHalf texts.kernel kernel → IsUnread texts.user line → Come texts (Err (at which.User line))
  apart : (kernel user : Tree) (line : ℕ) → IsHalf texts.kernel kernel → IsHalf texts.user user → joined kernel user ≡ Err line → Come texts (Err (at which.User line))
  faulty : (items : List Item) (refusal : Refusal) → AreJoined texts items → Means (tree_with items) (Err refusal) → Come texts (Err (at which.Kernel 0))
  other : (items : List Item) (program : Program) (due : Texts) {m : Mismatch} → AreJoined texts items → Means (tree_with items) (Ok program) → AreTexts (tree_with items) program due → IsOther texts due m → Come texts (Err m)
  whole : (source : Source) → AreTextsOf texts source → Come texts (Ok source)
