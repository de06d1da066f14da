-- for proofs
-- Sources that are read, printed and read again (C99 5.1.1.2, 6.9).
use Rattle.std.specs.Prelude.{◌≡◌, Bool, List, Ok}
use Rattle.mdr_syntax.specs.declared.token.Token.{Token}
use Rattle.mdr_syntax.specs.declared.tree.Tree.{Tree}
use Rattle.mdr_syntax.specs.Tokens.{tokens_of}
use Rattle.mdr_print.specs.Items.{printed}
use Rattle.mdr_grammar.specs.Grammar.{Reads}
use Rattle.mdr_roundtrip.specs.Itemised.{unplaced_tree}

-- the tokens are a source, and its tree is this one, places aside
pub record IsSourceOf (halves : Bool) (tokens : List Token) (tree : Tree) : Type 0 where
  pub read : Tree
  pub is_read : Reads halves tokens read
  pub is_same : unplaced_tree read ≡ unplaced_tree tree

-- the text that is printed of the tree is a source of the tree, places aside
pub record IsPrintedAsSource (halves : Bool) (tree : Tree) : Type 0 where
  pub tokens : List Token
  pub is_text : tokens_of (printed tree) ≡ Ok tokens
  pub is_source : IsSourceOf halves tokens tree
