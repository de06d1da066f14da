-- Reading one part, and then what follows it.
use Rattle.std.proofs.Common.{◌≡◌, refl, sym, ap, ◌∙◌, Bool, true, false, List, [], ◌∷◌, Ok, Err}
use Rattle.mdr_syntax.specs.declared.token.Token.{Token}
use Rattle.mdr_grammar.specs.declared.sort.Sort.{Sort}
use Rattle.mdr_grammar.specs.Sorts.{sort_of}
use Rattle.mdr_grammar.specs.Forms.{Nonterminal, Value, Right, ◌>>=◌, Rule, Empty, and_then}
use Rattle.mdr_grammar.specs.Forms.Right.{gives, takes, then}
use Rattle.mdr_grammar.specs.Forms.Rule.{never, given}
use Rattle.mdr_grammar.specs.Forms.Empty.{cannot}
use Rattle.mdr_grammar.specs.Grammar.{rule, empty}
use Rattle.mdr_grammar.specs.Front.{Read, and_read, word_at, nothing_at, begun_at, first, front}
use Rattle.mdr_grammar.proofs.Fronts.{first_of, first_none}

pub and_and : {A B C : Type 0} (o : Read A) (f : A → List Token → Read B) (g : B → List Token → Read C) → and_read (and_read o f) g ≡ and_read o (λ v rest. and_read (f v rest) g)
and_and (Ok x) f g = refl
and_and (Err left) f g = refl

pub and_same : {A B : Type 0} (o : Read A) (f g : A → List Token → Read B) → ((v : A) (rest : List Token) → f v rest ≡ g v rest) → and_read o f ≡ and_read o g
and_same (Ok x) f g e = e x.0 x.1
and_same (Err left) f g e = refl

pub bind : {A B : Type 0} (halves : Bool) (r : Right A) (k : A → Right B) (ts : List Token) → front halves (r >>= k) ts ≡ and_read (front halves r ts) (λ x rest. front halves (k x) rest)
bind halves (gives x) k ts = refl
bind halves (takes s r) k ts = and_same (word_at halves s ts) _ _ (λ t rest. bind halves (r t) k rest) ∙ sym (and_and (word_at halves s ts) (λ t rest. front halves (r t) rest) (λ x rest. front halves (k x) rest))
bind halves (then n r) k ts = and_same (first halves n ts) _ _ (λ v rest. bind halves (r v) k rest) ∙ sym (and_and (first halves n ts) (λ v rest. front halves (r v) rest) (λ x rest. front halves (k x) rest))

-- a rule that goes on behind another, and what is read where neither begins
pub begun_then : {A B : Type 0} (halves : Bool) (o : Rule A) (k : A → Right B) (ts : List Token) (other : Read B) (other' : Read A) → other ≡ and_read other' (λ x rest. front halves (k x) rest) → begun_at (and_then o k) (λ r. front halves r ts) other ≡ and_read (begun_at o (λ r. front halves r ts) other') (λ x rest. front halves (k x) rest)
begun_then halves never k ts other other' e = e
begun_then halves (given true r) k ts other other' e = bind halves r k ts
begun_then halves (given false r) k ts other other' e = e

nothing_then : {A B : Type 0} (halves : Bool) (o : Empty B) (o' : Empty A) (k : A → Right B) (ts : List Token) → o ≡ cannot → o' ≡ cannot → nothing_at o ts ≡ and_read (nothing_at o' ts) (λ x rest. front halves (k x) rest)
nothing_then halves o o' k ts e e' = ap (λ x. nothing_at x ts) e ∙ sym (ap (λ x. and_read (nothing_at x ts) (λ x rest. front halves (k x) rest)) e')

-- a nonterminal whose rule is another's and then what follows
pub through : (halves : Bool) (n m : Nonterminal) (k : Value m → Right (Value n)) (ts : List Token) → empty n ≡ cannot → empty m ≡ cannot → ((s : Sort) (t : Token) → rule n s t ≡ and_then (rule m s t) k) → first halves n ts ≡ and_read (first halves m ts) (λ x rest. front halves (k x) rest)
through halves n m k [] e e' h = first_none halves n ∙ nothing_then halves (empty n) (empty m) k [] e e' ∙ ap (λ o. and_read o (λ x rest. front halves (k x) rest)) (sym (first_none halves m))
through halves n m k (t ∷ ts) e e' h = first_of halves n t ts ∙ ap (λ o. begun_at o (λ r. front halves r ts) (nothing_at (empty n) (t ∷ ts))) (h (sort_of halves t.what) t) ∙ begun_then halves (rule m (sort_of halves t.what) t) k ts _ _ (nothing_then halves (empty n) (empty m) k (t ∷ ts) e e') ∙ ap (λ o. and_read o (λ x rest. front halves (k x) rest)) (sym (first_of halves m t ts))

-- the same at one first token, whose rule it is there
pub through_at : (halves : Bool) (n m : Nonterminal) (k : Value m → Right (Value n)) {ts rest : List Token} {t : Token} {s : Sort} → (ts ≡ t ∷ rest) × (s ≡ sort_of halves t.what) → empty n ≡ cannot → empty m ≡ cannot → rule n s t ≡ and_then (rule m s t) k → first halves n ts ≡ and_read (first halves m ts) (λ x rest. front halves (k x) rest)
through_at halves n m k {ts = ts} {rest = rest} {t = t} {s = s} at e e' h =
    ap (λ us. first halves n us) at.0 ∙ first_of halves n t rest ∙ ap (λ o. begun_at o (λ r. front halves r rest) (nothing_at (empty n) (t ∷ rest))) (ap (λ x. rule n x t) (sym at.1) ∙ h ∙ ap (λ x. and_then (rule m x t) k) at.1) ∙ begun_then halves (rule m (sort_of halves t.what) t) k rest _ _ (nothing_then halves (empty n) (empty m) k (t ∷ rest) e e') ∙ ap (λ o. and_read o (λ x rest. front halves (k x) rest)) (sym (first_of halves m t rest)) ∙ ap (λ us. and_read (first halves m us) (λ x rest. front halves (k x) rest)) (sym at.0)
