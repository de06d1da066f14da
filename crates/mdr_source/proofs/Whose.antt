-- The tree and the program to which bytes come are theirs.
use Rattle.std.proofs.Common.{◌≡◌, false, ℕ, List, Ok}
use Rattle.mdr_core.specs.declared.program.Program.{Program}
use Rattle.mdr_syntax.specs.declared.token.Token.{Token}
use Rattle.mdr_syntax.specs.declared.tree.Tree.{Tree}
use Rattle.mdr_syntax.specs.Tokens.{tokens_of}
use Rattle.mdr_grammar.specs.Grammar.{Reads}
use Rattle.mdr_source.specs.declared.outcome.Source.{Source}
use Rattle.mdr_source.specs.Sources.{Judged, Means, Reading, Comes, IsSource, typed_tree}

judged_source : (bytes : List ℕ) (ts : List Token) (tree : Tree) (program : Program) → tokens_of bytes ≡ Ok ts → Reads false ts tree
    → Judged (typed_tree tree) (Ok program) → IsSource bytes (record { tree = tree; program = program })
judged_source bytes ts tree _ e r (Judged.right program d n) = record { tokens = ts; are_tokens = e; reads = r; judged = d; numbers = n }

meant_source : (bytes : List ℕ) (ts : List Token) (tree : Tree) (program : Program) → tokens_of bytes ≡ Ok ts → Reads false ts tree
    → Means tree (Ok program) → IsSource bytes (record { tree = tree; program = program })
meant_source bytes ts tree program e r j = judged_source bytes ts tree program e r j

read_source : (bytes : List ℕ) (ts : List Token) (source : Source) → tokens_of bytes ≡ Ok ts → Reading ts (Ok source) → IsSource bytes source
read_source bytes ts _ e (Reading.right tree program r m) = meant_source bytes ts tree program e r m

pub come_source : (bytes : List ℕ) (source : Source) → Comes bytes (Ok source) → IsSource bytes source
come_source bytes source (Comes.tokens ts e m) = read_source bytes ts source e m

pub source_comes : (bytes : List ℕ) (source : Source) → IsSource bytes source → Comes bytes (Ok source)
source_comes bytes source s = Comes.tokens s.tokens s.are_tokens (Reading.right source.tree source.program s.reads (Judged.right source.program s.judged s.numbers))
