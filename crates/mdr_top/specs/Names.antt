-- believed
-- The names of the files of three texts.
use Rattle.std.specs.Prelude.{ℕ, List}
use Rattle.mdr_top.specs.declared.files.TextFiles.{TextFiles}

-- the names of the files of a kernel half's text, of a user half's and of a plan's
pub record TextNames : Type 0 where
  pub kernel : List ℕ
  pub user : List ℕ
  pub plan : List ℕ

abbrev pub names_in : TextFiles → TextNames
names_in files = record { kernel = files.kernel.now; user = files.user.now; plan = files.plan.now }
