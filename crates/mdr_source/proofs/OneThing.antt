-- Bytes come to at most one thing.
use Rattle.std.proofs.Common.{◌≡◌, refl, sym, subst, ap, ◌∙◌, ℕ, Bool, true, false, List, slice_get, Result, Ok, Err}
use Rattle.mdr_core.specs.declared.program.Program.{Program}
use Rattle.mdr_syntax.specs.declared.error.LexError.{LexError}
use Rattle.mdr_syntax.specs.declared.error.LexError.TheVariants as lex
use Rattle.mdr_syntax.specs.declared.token.Token.{Token}
use Rattle.mdr_syntax.specs.declared.tree.Tree.{Tree}
use Rattle.mdr_syntax.specs.Tokens.{tokens_of}
use Rattle.mdr_grammar.specs.Grammar.{Reads}
use Rattle.mdr_grammar.specs.Running.{FirstFault}
use Rattle.mdr_grammar.proofs.Exact.{one_tree, no_tree}
use Rattle.mdr_parse.specs.declared.error.ParseError.{ParseError}
use Rattle.mdr_parse.specs.declared.error.ParseError.TheVariants as parse
use Rattle.mdr_parse.specs.Parsing.{end_place, error_in}
use Rattle.mdr_faults.specs.declared.fault.Fault.{Fault}
use Rattle.mdr_faults.specs.Faults.{Checked, Right, IsFirst}
use Rattle.mdr_source.specs.declared.refusal.Refusal.{Refusal}
use Rattle.mdr_source.specs.declared.refusal.Refusal.TheVariants as refusal
use Rattle.mdr_source.specs.declared.outcome.Source.{Source}
use Rattle.mdr_source.specs.Sources.{Judged, Means, Reading, Comes, typed_tree}
use Rattle.mdr_source.proofs.Firsts.{one_first_fault, one_first}

-- ---- programs

no_first : {A : Type 0} (c : Checked A) (x : A) (f : Fault) → c ≡ Right x → IsFirst f c → ⊥
no_first c x f e i = subst (λ c. IsFirst f c) e i

same_program : (c : Checked Program) (p q : Program) → c ≡ Right p → c ≡ Right q → p ≡ q
same_program c p q d e = cc

one_judged : (c : Checked Program) (r s : Result Program Refusal) → Judged c r → Judged c s → r ≡ s
one_judged c _ _ (Judged.fault f i) (Judged.fault g j) = ap (λ h. Err (refusal.Fault h)) (one_first c f g i j)
one_judged c _ _ (Judged.fault f i) (Judged.right q e n) = absurd (no_first c q f e i)
one_judged c _ _ (Judged.right p d m) (Judged.fault g j) = absurd (no_first c p g d j)
one_judged c _ _ (Judged.right p d m) (Judged.right q e n) = ap (λ x. Ok x) (same_program c p q d e)

one_meaning : (tree : Tree) (r s : Result Program Refusal) → Means tree r → Means tree s → r ≡ s
one_meaning tree r s j k = one_judged (typed_tree tree) r s j k

-- ---- trees

same_error : (ts : List Token) (n m : ℕ) (e f : ParseError) → FirstFault false ts n → FirstFault false ts m → error_in (end_place ts) (slice_get ts n) ≡ e → error_in (end_place ts) (slice_get ts m) ≡ f → e ≡ f
same_error ts n m e f i j a b = sym a ∙ ap (λ k. error_in (end_place ts) (slice_get ts k)) (one_first_fault false ts n m i j) ∙ b

-- what the tree means is the one thing that each other tree of the tokens means
moved : (ts : List Token) (tree other : Tree) (r : Result Program Refusal) → Reads false ts tree → Reads false ts other → Means other r → Means tree r
moved ts tree other r a b m = subst (λ t. Means t r) (one_tree false ts other tree b a) m

-- want of memory refuses nothing: any refusal stands for it
no_refusal : Refusal
no_refusal = refusal.Expected (record { line = 1; column = 1 })

-- an error as a refusal
abbrev refused_by : ParseError → Refusal
refused_by (parse.NotInProfile p word) = refusal.NotInProfile p word
refused_by (parse.Expected p) = refusal.Expected p
refused_by parse.OutOfMemory = no_refusal

no_meaning : {A : Type 0} (ts : List Token) (n : ℕ) (tree : Tree) → FirstFault false ts n → Reads false ts tree → A
no_meaning ts n tree f r = absurd (no_tree false ts n tree f r)

one_refused : {e f : Refusal} → ◌≡◌ {A = Result Program Refusal} (Err e) (Err f) → ◌≡◌ {A = Result Source Refusal} (Err e) (Err f)
one_refused e = cc

not_right : {A : Type 0} {e : Refusal} {p : Program} → ◌≡◌ {A = Result Program Refusal} (Err e) (Ok p) → A
not_right e = absurd cc

same_right : {p q : Program} → ◌≡◌ {A = Result Program Refusal} (Ok p) (Ok q) → p ≡ q
same_right e = cc

same_source : (t u : Tree) (p q : Program) → t ≡ u → p ≡ q → ◌≡◌ {A = Result Source Refusal} (Ok (record { tree = t; program = p })) (Ok (record { tree = u; program = q }))
same_source t u p q a b = λ i. Ok (record { tree = a i; program = b i })

one_reading : (ts : List Token) (r s : Result Source Refusal) → Reading ts r → Reading ts s → r ≡ s
one_reading ts _ _ (Reading.left_out n p v f a) (Reading.left_out m q w g b) = ap (λ e. Err (refused_by e)) (same_error ts n m _ _ f g a b)
one_reading ts _ _ (Reading.left_out n p v f a) (Reading.unexpected m q g b) = ap (λ e. Err (refused_by e)) (same_error ts n m _ _ f g a b)
one_reading ts _ _ (Reading.left_out n p v f a) (Reading.refused tree e d h) = no_meaning ts n tree f d
one_reading ts _ _ (Reading.left_out n p v f a) (Reading.right tree q d h) = no_meaning ts n tree f d
one_reading ts _ _ (Reading.unexpected n p f a) (Reading.left_out m q w g b) = ap (λ e. Err (refused_by e)) (same_error ts n m _ _ f g a b)
one_reading ts _ _ (Reading.unexpected n p f a) (Reading.unexpected m q g b) = ap (λ e. Err (refused_by e)) (same_error ts n m _ _ f g a b)
one_reading ts _ _ (Reading.unexpected n p f a) (Reading.refused tree e d h) = no_meaning ts n tree f d
one_reading ts _ _ (Reading.unexpected n p f a) (Reading.right tree q d h) = no_meaning ts n tree f d
one_reading ts _ _ (Reading.refused tree e d h) (Reading.left_out m q w g b) = no_meaning ts m tree g d
one_reading ts _ _ (Reading.refused tree e d h) (Reading.unexpected m q g b) = no_meaning ts m tree g d
one_reading ts _ _ (Reading.refused tree e d h) (Reading.refused other f c k) = one_refused (one_meaning tree _ _ h (moved ts tree other _ d c k))
one_reading ts _ _ (Reading.refused tree e d h) (Reading.right other q c k) = not_right (one_meaning tree _ _ h (moved ts tree other _ d c k))
one_reading ts _ _ (Reading.right tree p d h) (Reading.left_out m q w g b) = no_meaning ts m tree g d
one_reading ts _ _ (Reading.right tree p d h) (Reading.unexpected m q g b) = no_meaning ts m tree g d
one_reading ts _ _ (Reading.right tree p d h) (Reading.refused other f c k) = not_right (sym (one_meaning tree _ _ h (moved ts tree other _ d c k)))
one_reading ts _ _ (Reading.right tree p d h) (Reading.right other q c k) = same_source tree other p q (one_tree false ts tree other d c) (same_right (one_meaning tree _ _ h (moved ts tree other _ d c k)))

-- ---- bytes

-- what is told of bytes, from their tokens
abbrev lexed : LexError → Refusal
lexed (lex.BadByte p) = refusal.BadByte p
lexed (lex.BadNumber p) = refusal.BadNumber p
lexed (lex.OpenComment p) = refusal.OpenComment p
lexed (lex.OpenText p) = refusal.OpenText p
lexed lex.OutOfMemory = no_refusal

-- bytes come to something by their tokens
data By : Result (List Token) LexError → Result Source Refusal → Type 0 where
  fault : (e : LexError) → By (Err e) (Err (lexed e))
  tokens : (ts : List Token) {r : Result Source Refusal} → Reading ts r → By (Ok ts) r

by_tokens : (bytes : List ℕ) (r : Result Source Refusal) → Comes bytes r → By (tokens_of bytes) r
by_tokens bytes _ (Comes.bad_byte p e) = subst (λ o. By o (Err (refusal.BadByte p))) (sym e) (By.fault (lex.BadByte p))
by_tokens bytes _ (Comes.bad_number p e) = subst (λ o. By o (Err (refusal.BadNumber p))) (sym e) (By.fault (lex.BadNumber p))
by_tokens bytes _ (Comes.open_comment p e) = subst (λ o. By o (Err (refusal.OpenComment p))) (sym e) (By.fault (lex.OpenComment p))
by_tokens bytes _ (Comes.open_text p e) = subst (λ o. By o (Err (refusal.OpenText p))) (sym e) (By.fault (lex.OpenText p))
by_tokens bytes r (Comes.tokens ts e m) = subst (λ o. By o r) (sym e) (By.tokens ts m)

one_by : (o : Result (List Token) LexError) (r s : Result Source Refusal) → By o r → By o s → r ≡ s
one_by (Err _) _ _ (By.fault e) (By.fault _) = refl
one_by (Ok _) r s (By.tokens ts m) (By.tokens _ n) = one_reading ts r s m n

pub one_thing : (bytes : List ℕ) (r s : Result Source Refusal) → Comes bytes r → Comes bytes s → r ≡ s
one_thing bytes r s a b = one_by (tokens_of bytes) r s (by_tokens bytes r a) (by_tokens bytes s b)
