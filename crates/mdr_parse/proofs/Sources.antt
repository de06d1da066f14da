-- Reading items up to the end is reading a source token by token.
use Rattle.std.proofs.Common.{◌≡◌, refl, sym, subst, ap, ◌∙◌, ◌+◌, ◌-◌, arith, ℕ, suc, Bool, true, false, List, [], ◌∷◌, length, Ok, Err, slice_get}
use Rattle.mdr_syntax.specs.declared.token.Token.{Token}
use Rattle.mdr_syntax.specs.declared.tree.Item.{Item}
use Rattle.mdr_syntax.specs.declared.tree.Tree.{Tree}
use Rattle.mdr_parse.specs.declared.error.ParseError.{ParseError}
use Rattle.mdr_parse.specs.declared.error.ParseError.TheVariants.{NotInProfile, Expected, OutOfMemory}
use Rattle.mdr_grammar.specs.declared.sort.Sort.{Sort}
use Rattle.mdr_grammar.specs.Sorts.{is, sort_of}
use Rattle.mdr_grammar.specs.Forms.Repeated.{items}
use Rattle.mdr_grammar.specs.Forms.Nonterminal.{many}
use Rattle.mdr_grammar.specs.Forms.Right.{gives, takes}
use Rattle.mdr_grammar.specs.Statements.{joined, tree_of, source}
use Rattle.mdr_parse.specs.Outside.{source_end, source_items}
use Rattle.mdr_grammar.specs.Grammar.{Reads}
use Rattle.mdr_grammar.specs.Front.{Read, and_read, found, word_at, first as first_read, front}
use Rattle.mdr_grammar.specs.Running.{taken, stepped, run, Tells, FirstFault}
use Rattle.mdr_parse.specs.Ending.{closed}
use Rattle.mdr_parse.specs.Parsing.{error_in, end_place, Parses}
use Rattle.mdr_grammar.proofs.Fronts.{run_first}
use Rattle.mdr_grammar.proofs.Exact.{tells}

-- behind all items
end_read : (halves : Bool) (xs : List Item) (us : List Token) → run halves (takes Sort.End (λ e. gives (record { items = xs }))) us ≡ closed (front halves (source_end xs) us)
unfolding word_at
end_read halves xs [] = refl
end_read halves xs (t ∷ ts) = by_test (is Sort.End (sort_of halves t.what)) ts
  where
    by_test : (b : Bool) (ts : List Token) → stepped (taken b (gives (record { items = xs }))) (suc (length ts)) (λ r. run halves r ts) ≡ closed (and_read (found b t ts) (λ t vs. Ok (xs, vs)))
    by_test true [] = refl
    by_test true (u ∷ us) = refl
    by_test false us = refl

pub run_source : (halves : Bool) (ts : List Token) → run halves source ts ≡ closed (front halves source_items ts)
run_source halves ts = run_first halves (many true items []) (λ xs. takes Sort.End (λ e. gives (tree_of xs))) ts ∙ by_read (first_read halves (many true items []) ts)
  where
    by_read : (o : Read (List (List Item))) → and_read o (λ xs us. run halves (takes Sort.End (λ e. gives (tree_of xs))) us) ≡ closed (and_read o (λ xs us. front halves (source_end (joined xs)) us))
    by_read (Ok x) = end_read halves (joined x.0) x.1
    by_read (Err left) = refl

-- ---- what is told

pub tree_told : (halves : Bool) (ts : List Token) (tree : Tree) → run halves source ts ≡ Ok tree → Reads halves ts tree
tree_told halves ts tree e = (subst (λ o. Tells halves ts o) e (tells halves ts)).0

left_of : (left n l : ℕ) → left + n ≡ l → l - left ≡ n
left_of left n l h = omega (arith, h)

error_told : (halves : Bool) (ts : List Token) (n : ℕ) (e : ParseError) → FirstFault halves ts n → e ≡ error_in (end_place ts) (slice_get ts n) → Parses halves ts (Err e)
error_told halves ts n OutOfMemory f q = tt
error_told halves ts n (NotInProfile place word) f q = (n, f, q)
error_told halves ts n (Expected place) f q = (n, f, q)

pub fault_told : (halves : Bool) (ts : List Token) (left : ℕ) (e : ParseError) → run halves source ts ≡ Err left → e ≡ error_in (end_place ts) (slice_get ts (length ts - left)) → Parses halves ts (Err e)
fault_told halves ts left e r q =
    let t = subst (λ o. Tells halves ts o) r (tells halves ts) in
    error_told halves ts t.0 e t.2 (q ∙ ap (λ n. error_in (end_place ts) (slice_get ts n)) (left_of left t.0 (length ts) t.1))
