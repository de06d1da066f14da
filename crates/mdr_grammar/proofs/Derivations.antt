-- What is left of a source reads tokens from the left: where a nonterminal stands it is empty, or what follows its first token takes its place.
use Rattle.std.proofs.Common.{◌≡◌, Bool, true, List, [], ◌∷◌, IsTrue}
use Rattle.mdr_syntax.specs.declared.token.Token.{Token}
use Rattle.mdr_syntax.specs.declared.tree.Tree.{Tree}
use Rattle.mdr_grammar.specs.Sorts.{Sort, is, sort_of}
use Rattle.mdr_grammar.specs.Forms.{Nonterminal, Value, Right, ◌>>=◌}
use Rattle.mdr_grammar.specs.Forms.Right.{gives, takes, then}
use Rattle.mdr_grammar.specs.Forms.Rule.{given}
use Rattle.mdr_grammar.specs.Forms.Empty.{may}
use Rattle.mdr_grammar.specs.Grammar.{rule, empty}

pub data Derives (halves : Bool) : Right Tree → List Token → Tree → Type 0 where
  ended : {tree : Tree} → Derives halves (gives tree) [] tree
  took : {s : Sort} {r : Token → Right Tree} {t : Token} {ts : List Token} {tree : Tree} → IsTrue (is s (sort_of halves t.what)) → Derives halves (r t) ts tree → Derives halves (takes s r) (t ∷ ts) tree
  began : {n : Nonterminal} {k : Value n → Right Tree} {r : Right (Value n)} {t : Token} {ts : List Token} {tree : Tree} → rule n (sort_of halves t.what) t ≡ given true r → Derives halves (r >>= k) ts tree → Derives halves (then n k) (t ∷ ts) tree
  skipped : {n : Nonterminal} {k : Value n → Right Tree} {v : Value n} {ts : List Token} {tree : Tree} → empty n ≡ may true v → Derives halves (k v) ts tree → Derives halves (then n k) ts tree
