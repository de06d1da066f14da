-- Bytes come to something.
use Rattle.std.proofs.Common.{◌≡◌, refl, ◌≤◌, ◌<◌, arith, ℕ, Bool, true, false, List, length, slice_get, inl, inr, Option, Some, None, Result, Ok, Err}
use Rattle.std.specs.Prelude.{◌⊎◌, nat_lt}
use Rattle.mdr_core.specs.declared.program.Program.{Program}
use Rattle.mdr_core.specs.Sound.{HasFewNumbers}
use Rattle.mdr_syntax.specs.declared.error.LexError.{LexError}
use Rattle.mdr_syntax.specs.declared.error.LexError.TheVariants as lex
use Rattle.mdr_syntax.specs.declared.token.Token.{Token}
use Rattle.mdr_syntax.specs.declared.tree.Tree.{Tree}
use Rattle.mdr_syntax.specs.Tokens.{tokens_of}
use Rattle.mdr_grammar.specs.Expressions.{text_of}
use Rattle.mdr_grammar.specs.Grammar.{Reads}
use Rattle.mdr_grammar.specs.Statements.{source}
use Rattle.mdr_grammar.specs.Running.{run, Tells, FirstFault}
use Rattle.mdr_grammar.proofs.Exact.{tells}
use Rattle.mdr_parse.specs.Parsing.{is_left_out, end_place}
use Rattle.mdr_faults.specs.Faults.{Checked, Right, Wrong, first}
use Rattle.mdr_faults.proofs.Least.{first_is_in, first_is_least}
use Rattle.mdr_source.specs.declared.refusal.Refusal.{Refusal}
use Rattle.mdr_source.specs.declared.outcome.Source.{Source}
use Rattle.mdr_source.specs.Sources.{Judged, Means, Reading, Comes, IsTooLarge, typed_tree}
use Rattle.mdr_source.proofs.Lexed.{IsTold, tokens_told}

-- ---- a tree

-- a program whose types, globals, structs or functions aren't few
record Large (c : Checked Program) : Type 0 where
  program : Program
  is : c ≡ Right program
  many : HasFewNumbers program → ⊥

data Judgement (c : Checked Program) : Type 0 where
  come : (r : Result Program Refusal) → Judged c r → Judgement c
  large : Large c → Judgement c

within : (n m : ℕ) → (n ≤ m) ⊎ (m < n)
within n m = by_test (nat_lt m n) refl
  where
    by_test : (t : Bool) → nat_lt m n ≡ t → (n ≤ m) ⊎ (m < n)
    by_test true e = inr (grind (arith, e))
    by_test false e = inl (grind (arith, e))

not_over : (n : ℕ) → n ≤ 16777216 → 16777216 < n → ⊥
not_over n h k = omega (arith, h, k)

-- each number is small, or one isn't
few_or_not : (program : Program) → HasFewNumbers program ⊎ (HasFewNumbers program → ⊥)
few_or_not program = by (within (length program.types) 16777216) (within (length program.globals) 16777216) (within (length program.structs) 16777216) (within (length program.funcs) 16777216)
  where
    Small : ℕ → Type 0
    Small n = (n ≤ 16777216) ⊎ (16777216 < n)

    by : Small (length program.types) → Small (length program.globals) → Small (length program.structs) → Small (length program.funcs) → HasFewNumbers program ⊎ (HasFewNumbers program → ⊥)
    by (inl t) (inl g) (inl s) (inl f) = inl (record { types = t; globals = g; structs = s; funcs = f })
    by (inr t) g s f = inr (λ few. not_over (length program.types) few.types t)
    by (inl t) (inr g) s f = inr (λ few. not_over (length program.globals) few.globals g)
    by (inl t) (inl g) (inr s) f = inr (λ few. not_over (length program.structs) few.structs s)
    by (inl t) (inl g) (inl s) (inr f) = inr (λ few. not_over (length program.funcs) few.funcs f)

right_judged : (program : Program) → HasFewNumbers program ⊎ (HasFewNumbers program → ⊥) → Judgement (Right program)
right_judged program (inl h) = Judgement.come _ (Judged.right program refl h)
right_judged program (inr h) = Judgement.large (record { program = program; is = refl; many = h })

judgement : (c : Checked Program) → Judgement c
judgement (Wrong fs) = Judgement.come _ (Judged.fault (first fs) (first_is_in fs, first_is_least fs))
judgement (Right program) = right_judged program (few_or_not program)

data Meaning (tree : Tree) : Type 0 where
  come : (r : Result Program Refusal) → Means tree r → Meaning tree
  large : Large (typed_tree tree) → Meaning tree

judged_meaning : (tree : Tree) → Judgement (typed_tree tree) → Meaning tree
judged_meaning tree (Judgement.come r j) = Meaning.come r j
judged_meaning tree (Judgement.large l) = Meaning.large l

meaning : (tree : Tree) → Meaning tree
meaning tree = judged_meaning tree (judgement (typed_tree tree))

-- ---- tokens

data Outcome (bytes : List ℕ) : Type 0 where
  come : (r : Result Source Refusal) → Comes bytes r → Outcome bytes
  large : IsTooLarge bytes → Outcome bytes

tree_outcome : (bytes : List ℕ) (ts : List Token) (tree : Tree) → tokens_of bytes ≡ Ok ts → Reads false ts tree → Meaning tree → Outcome bytes
tree_outcome bytes ts tree e r (Meaning.come (Ok program) m) = Outcome.come _ (Comes.tokens ts e (Reading.right tree program r m))
tree_outcome bytes ts tree e r (Meaning.come (Err x) m) = Outcome.come _ (Comes.tokens ts e (Reading.refused tree x r m))
tree_outcome bytes ts tree e r (Meaning.large l) = Outcome.large (record { tokens = ts; are_tokens = e; tree = tree; reads = r; program = l.program; judged = l.is; many = l.many })

fault_outcome : (bytes : List ℕ) (ts : List Token) (n : ℕ) → tokens_of bytes ≡ Ok ts → FirstFault false ts n → Outcome bytes
fault_outcome bytes ts n e f = by_token (slice_get ts n) refl
  where
    by_word : (t : Token) (b : Bool) → slice_get ts n ≡ Some t → is_left_out t.what ≡ b → Outcome bytes
    by_word t true d w = Outcome.come _ (Comes.tokens ts e (Reading.left_out n t.place (text_of t.what) f (rw (d, w) refl)))
    by_word t false d w = Outcome.come _ (Comes.tokens ts e (Reading.unexpected n t.place f (rw (d, w) refl)))

    by_token : (o : Option Token) → slice_get ts n ≡ o → Outcome bytes
    by_token None d = Outcome.come _ (Comes.tokens ts e (Reading.unexpected n (end_place ts) f (rw d refl)))
    by_token (Some t) d = by_word t (is_left_out t.what) d refl

told_outcome : (bytes : List ℕ) (ts : List Token) (o : Result Tree ℕ) → tokens_of bytes ≡ Ok ts → Tells false ts o → Outcome bytes
told_outcome bytes ts (Ok tree) e t = tree_outcome bytes ts tree e t.0 (meaning tree)
told_outcome bytes ts (Err left) e t = fault_outcome bytes ts t.0 e t.2

-- ---- bytes

lexed_outcome : (bytes : List ℕ) (o : Result (List Token) LexError) → tokens_of bytes ≡ o → IsTold o → Outcome bytes
lexed_outcome bytes (Ok ts) e t = told_outcome bytes ts (run false source ts) e (tells false ts)
lexed_outcome bytes (Err _) e (IsTold.fault (lex.BadByte p) t) = Outcome.come _ (Comes.bad_byte p e)
lexed_outcome bytes (Err _) e (IsTold.fault (lex.BadNumber p) t) = Outcome.come _ (Comes.bad_number p e)
lexed_outcome bytes (Err _) e (IsTold.fault (lex.OpenComment p) t) = Outcome.come _ (Comes.open_comment p e)
lexed_outcome bytes (Err _) e (IsTold.fault (lex.OpenText p) t) = Outcome.come _ (Comes.open_text p e)
lexed_outcome bytes (Err _) e (IsTold.fault lex.OutOfMemory t) = absurd t

as_sum : (bytes : List ℕ) → Outcome bytes → ((r : Result Source Refusal) × Comes bytes r) ⊎ IsTooLarge bytes
as_sum bytes (Outcome.come r c) = inl (r, c)
as_sum bytes (Outcome.large l) = inr l

pub something : (bytes : List ℕ) → ((r : Result Source Refusal) × Comes bytes r) ⊎ IsTooLarge bytes
something bytes = as_sum bytes (lexed_outcome bytes (tokens_of bytes) refl (tokens_told bytes))
