-- protocol
-- The same stage by stage, as functions give it.
use Rattle.std.specs.Prelude.{◌≡◌, ℕ, true, List, Option, Some, None, Result, Ok, Err}
use Rattle.mdr_cut.specs.declared.texts.Texts.{Texts}
use Rattle.mdr_cut.specs.Cuts.{AreTexts}
use Rattle.mdr_grammar.specs.Grammar.{Reads}
use Rattle.mdr_half.specs.Joins.{joined}
use Rattle.mdr_print.specs.Items.{printed}
use Rattle.mdr_source.specs.declared.outcome.Source.{Source}
use Rattle.mdr_syntax.specs.declared.token.Token.{Token}
use Rattle.mdr_syntax.specs.declared.tree.Item.{Item}
use Rattle.mdr_syntax.specs.declared.tree.Tree.{Tree}
use Rattle.mdr_verify.specs.Verdicts.{IsOtherLine}
use Rattle.mdr_halves.specs.declared.mismatch.Mismatch.{Mismatch}
use Rattle.mdr_halves.specs.declared.mismatch.Which.{Which}
use Rattle.mdr_halves.specs.declared.mismatch.Which.TheVariants as which
use Rattle.mdr_halves.specs.Reads.{IsFaultOn, IsHalf, IsUnread}
use Rattle.mdr_halves.specs.Joins.{tree_with, AreJoined}
use Rattle.mdr_halves.specs.Whole.{at, IsOther, Come}

-- ---- the text of a half

abbrev pub AreRead : List Token → Result Tree ℕ → Type 0
AreRead tokens (Ok tree) = Reads true tokens tree
AreRead tokens (Err line) = IsFaultOn tokens line

abbrev pub IsRead : List ℕ → Result Tree ℕ → Type 0
IsRead text (Ok tree) = IsHalf text tree
IsRead text (Err line) = IsUnread text line

-- ---- both halves

-- two trees are joined, and this is the text of what joining gives
pub record AreTreesOf (kernel user : Tree) (text : List ℕ) : Type 0 where
  pub items : List Item
  pub joins : joined kernel user ≡ Ok items
  pub text_is : text ≡ printed (tree_with items)

-- two trees aren't the halves of one
pub record AreApart (kernel user : Tree) (m : Mismatch) : Type 0 where
  pub line : ℕ
  pub joins : joined kernel user ≡ Err line
  pub told : m ≡ at which.User line

abbrev pub TreesJoin : (kernel user : Tree) → Result (List ℕ) Mismatch → Type 0
TreesJoin kernel user (Ok text) = AreTreesOf kernel user text
TreesJoin kernel user (Err m) = AreApart kernel user m

-- two texts are those of the halves of a tree that has this text
pub record IsJoinedText (texts : Texts) (text : List ℕ) : Type 0 where
  pub items : List Item
  pub are : AreJoined texts items
  pub text_is : text ≡ printed (tree_with items)

abbrev pub Joining : Texts → Result (List ℕ) Mismatch → Type 0
Joining texts (Ok text) = IsJoinedText texts text
Joining texts (Err m) = Come texts (Err m)

-- ---- what differs

abbrev pub OtherIn : Which → (said due : List ℕ) → Option Mismatch → Type 0
OtherIn text said due None = said ≡ due
OtherIn text said due (Some m) = (line : ℕ) × IsOtherLine said due line × (m ≡ at text line)

abbrev pub FirstOther : (given due : Texts) → Option Mismatch → Type 0
FirstOther given due None = given ≡ due
FirstOther given due (Some m) = IsOther given due m

-- the texts of a source, and the first of the given ones that is none of these
pub record IsCompared (given : Texts) (source : Source) (m : Option Mismatch) : Type 0 where
  pub due : Texts
  pub are : AreTexts source.tree source.program due
  pub other : FirstOther given due m
