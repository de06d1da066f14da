-- What the text that is printed of a tree comes to.
use Rattle.std.proofs.Common.{◌≡◌, false, List, Result, Ok, Err, sym, ap, subst, ◌∙◌}
use Rattle.mdr_grammar.specs.Grammar.{Reads}
use Rattle.mdr_grammar.proofs.Exact.{one_tree, no_tree}
use Rattle.mdr_print.specs.Items.{printed}
use Rattle.mdr_roundtrip.specs.Again.{IsPrintedAsSource}
use Rattle.mdr_roundtrip.specs.Itemised.{unplaced_tree}
use Rattle.mdr_source.specs.declared.outcome.Source.{Source}
use Rattle.mdr_source.specs.declared.refusal.Refusal.{Refusal}
use Rattle.mdr_source.specs.Sources.{Comes, Reading}
use Rattle.mdr_source.proofs.Whose.{come_source}
use Rattle.mdr_syntax.specs.declared.error.LexError.{LexError}
use Rattle.mdr_syntax.specs.declared.token.Token.{Token}
use Rattle.mdr_syntax.specs.declared.tree.Tree.{Tree}
use Rattle.mdr_syntax.specs.Tokens.{tokens_of}
use Rattle.mdr_halves.proofs.Judging.{IsErr, IsRefused, refused_moved}

same_tokens : (ts us : List Token) → ◌≡◌ {A = Result (List Token) LexError} (Ok ts) (Ok us) → ts ≡ us
same_tokens ts us e = cc

no_tokens : {A : Type 0} (ts : List Token) (x : LexError) → ◌≡◌ {A = Result (List Token) LexError} (Ok ts) (Err x) → A
no_tokens ts x e = absurd cc

-- the one tree of the text is the tree that was printed
the_same : (tree read : Tree) (ts : List Token) → IsPrintedAsSource false tree → tokens_of (printed tree) ≡ Ok ts → Reads false ts read → unplaced_tree read ≡ unplaced_tree tree
the_same tree read ts p e r =
    let n : p.tokens ≡ ts = same_tokens p.tokens ts (sym p.is_text ∙ e) in
    ap unplaced_tree (one_tree false ts read p.is_source.read r (subst (λ (us : List Token). Reads false us p.is_source.read) n p.is_source.is_read)) ∙ p.is_source.is_same

pub source_same : (tree : Tree) (source : Source) → IsPrintedAsSource false tree → Comes (printed tree) (Ok source) → unplaced_tree source.tree ≡ unplaced_tree tree
source_same tree source p comes = let s = come_source (printed tree) source comes in the_same tree source.tree s.tokens p s.are_tokens s.reads

reading_refused : (tree : Tree) (ts : List Token) (o : Result Source Refusal) → IsPrintedAsSource false tree → tokens_of (printed tree) ≡ Ok ts → Reading ts o → IsErr o → IsRefused tree
reading_refused tree ts _ p e (Reading.left_out n at word f a) t =
    let m : p.tokens ≡ ts = same_tokens p.tokens ts (sym p.is_text ∙ e) in
    absurd (no_tree false ts n p.is_source.read f (subst (λ (us : List Token). Reads false us p.is_source.read) m p.is_source.is_read))
reading_refused tree ts _ p e (Reading.unexpected n at f a) t =
    let m : p.tokens ≡ ts = same_tokens p.tokens ts (sym p.is_text ∙ e) in
    absurd (no_tree false ts n p.is_source.read f (subst (λ (us : List Token). Reads false us p.is_source.read) m p.is_source.is_read))
reading_refused tree ts _ p e (Reading.refused read x r m) t = refused_moved read tree (Err x) (the_same tree read ts p e r) m tt
reading_refused tree ts _ p e (Reading.right read program r m) t = absurd t

pub text_refused : (tree : Tree) (o : Result Source Refusal) → IsPrintedAsSource false tree → Comes (printed tree) o → IsErr o → IsRefused tree
text_refused tree _ p (Comes.bad_byte at e) t = no_tokens p.tokens _ (sym p.is_text ∙ e)
text_refused tree _ p (Comes.bad_number at e) t = no_tokens p.tokens _ (sym p.is_text ∙ e)
text_refused tree _ p (Comes.open_comment at e) t = no_tokens p.tokens _ (sym p.is_text ∙ e)
text_refused tree _ p (Comes.open_text at e) t = no_tokens p.tokens _ (sym p.is_text ∙ e)
text_refused tree o p (Comes.tokens ts e m) t = reading_refused tree ts o p e m t
