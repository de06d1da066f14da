-- protocol
-- The files of three texts, read one after the other.
use Rattle.std.specs.Prelude.{ℕ, List}
use Rattle.mdr_cut.specs.declared.texts.Texts.{Texts}
use Rattle.mdr_due.specs.declared.status.Status.{Status}
use Rattle.mdr_due.specs.Reads.{Files, IsRead, WasRead, UnreadBy}
use Rattle.mdr_outside.specs.Calls.{ShelfCall}
use Rattle.mdr_outside.specs.declared.shelf.ReadAnswer.TheVariants as reads
use Rattle.mdr_top.specs.Names.{TextNames}

-- a text of a half or of a plan has at most 64 MiB
abbrev pub longest_text : ℕ
longest_text = 67108864

module _ (files : Files) (names : TextNames) (old new : List ShelfCall) where
  -- these very reads gave the texts
  pub record AreRead (texts : Texts) : Type 0 where
    pub first : List ShelfCall
    pub second : List ShelfCall
    pub kernel_read : IsRead files names.kernel longest_text old first (reads.Ok texts.kernel)
    pub user_read : IsRead files names.user longest_text first second (reads.Ok texts.user)
    pub plan_read : IsRead files names.plan longest_text second new (reads.Ok texts.plan)

  -- one of them gave none, and none was read behind it
  pub data NoTexts (s : Status) (text : List ℕ) : Type 0 where
    no_kernel : UnreadBy files names.kernel longest_text old new s text → NoTexts s text
    no_user : (kernel : List ℕ) (first : List ShelfCall) → IsRead files names.kernel longest_text old first (reads.Ok kernel) → UnreadBy files names.user longest_text first new s text → NoTexts s text
    no_plan : (kernel user : List ℕ) (first second : List ShelfCall) → IsRead files names.kernel longest_text old first (reads.Ok kernel) → IsRead files names.user longest_text first second (reads.Ok user) → UnreadBy files names.plan longest_text second new s text → NoTexts s text

  -- as many of them were read as memory was there for
  pub data TextsPart : Type 0 where
    kernel_part : WasRead files names.kernel longest_text old new → TextsPart
    user_part : (kernel : List ℕ) (first : List ShelfCall) → IsRead files names.kernel longest_text old first (reads.Ok kernel) → WasRead files names.user longest_text first new → TextsPart
    plan_part : (kernel user : List ℕ) (first second : List ShelfCall) → IsRead files names.kernel longest_text old first (reads.Ok kernel) → IsRead files names.user longest_text first second (reads.Ok user) → WasRead files names.plan longest_text second new → TextsPart
    all_read : (texts : Texts) → AreRead texts → TextsPart
