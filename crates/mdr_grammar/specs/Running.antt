-- believed
-- Reading token by token: what is left of a source after each, and how a whole list is read.
use Rattle.std.specs.Prelude.{ℕ, suc, ◌≡◌, ◌≤◌, ◌<◌, ◌+◌, Bool, true, false, List, [], ◌∷◌, ◌++◌, length, take, Option, Some, None, Result, Ok, Err}
use Rattle.mdr_syntax.specs.declared.token.Token.{Token}
use Rattle.mdr_syntax.specs.declared.tree.Tree.{Tree}
use Rattle.mdr_grammar.specs.Sorts.{is, sort_of}
use Rattle.mdr_grammar.specs.Forms.{Right, ◌>>=◌, Rule, Empty}
use Rattle.mdr_grammar.specs.Forms.Right.{gives, takes, then}
use Rattle.mdr_grammar.specs.Forms.Rule.{never, given}
use Rattle.mdr_grammar.specs.Forms.Empty.{cannot, may}
use Rattle.mdr_grammar.specs.Grammar.{rule, empty, Reads}

abbrev pub taken : Bool → Right Tree → Option (Right Tree)
taken true r = Some r
taken false r = None

abbrev pub begun : {A : Type 0} → Rule A → (A → Right Tree) → Option (Right Tree) → Option (Right Tree)
begun never k other = other
begun (given true r) k other = Some (r >>= k)
begun (given false r) k other = other

abbrev pub if_empty : {A X : Type 0} → Empty A → (A → Option X) → Option X
if_empty cannot f = None
if_empty (may true v) f = f v
if_empty (may false v) f = None

-- what is left after a token, if it may stand there
abbrev pub step : Bool → Right Tree → Token → Option (Right Tree)
step halves (gives tree) t = None
step halves (takes s r) t = taken (is s (sort_of halves t.what)) (r t)
step halves (then n k) t = begun (rule n (sort_of halves t.what) t) k (if_empty (empty n) (λ v. step halves (k v) t))

-- the tree, if nothing more need come
abbrev pub end : Right Tree → Option Tree
end (gives tree) = Some tree
end (takes s r) = None
end (then n k) = if_empty (empty n) (λ v. end (k v))

-- a fault is told by how many tokens are left where it is
abbrev pub ended : Option Tree → Result Tree ℕ
ended None = Err 0
ended (Some tree) = Ok tree

abbrev pub stepped : Option (Right Tree) → ℕ → (Right Tree → Result Tree ℕ) → Result Tree ℕ
stepped None left f = Err left
stepped (Some r) left f = f r

abbrev pub run : Bool → Right Tree → List Token → Result Tree ℕ
run halves r [] = ended (end r)
run halves r (t ∷ ts) = stepped (step halves r t) (suc (length ts)) (λ r'. run halves r' ts)

-- The first n tokens begin some source, and no source begins with one more of these or, if there are no more, ends there.
pub record FirstFault (halves : Bool) (ts : List Token) (n : ℕ) : Type 0 where
  pub inside : n ≤ length ts
  pub before : (more : List Token) × (tree : Tree) × Reads halves (take n ts ++ more) tree
  pub refused : n < length ts → (more : List Token) (tree : Tree) → Reads halves (take (suc n) ts ++ more) tree → ⊥
  pub unfinished : n ≡ length ts → (tree : Tree) → Reads halves ts tree → ⊥

-- what reading a whole list says of it
abbrev pub Tells : Bool → List Token → Result Tree ℕ → Type 0
Tells halves ts (Ok tree) = Reads halves ts tree × ((other : Tree) → Reads halves ts other → other ≡ tree)
Tells halves ts (Err left) = (n : ℕ) × (left + n ≡ length ts) × FirstFault halves ts n
