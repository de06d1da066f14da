-- Reading token by token is reading a front, and then what follows.
use Rattle.std.proofs.Common.{◌≡◌, ◌≤◌, ◌<◌, refl, sym, ap, ◌∙◌, arith, ℕ, zero, suc, Bool, true, false, List, [], ◌∷◌, length, Result, Ok, Err}
use Rattle.mdr_syntax.specs.declared.token.Token.{Token}
use Rattle.mdr_syntax.specs.declared.tree.Tree.{Tree}
use Rattle.mdr_grammar.specs.Sorts.{Sort, is, sort_of}
use Rattle.mdr_grammar.specs.Forms.{Nonterminal, Value, Right, ◌>>=◌, Rule, Empty}
use Rattle.mdr_grammar.specs.Forms.Right.{gives, takes, then}
use Rattle.mdr_grammar.specs.Forms.Rule.{never, given}
use Rattle.mdr_grammar.specs.Forms.Empty.{cannot, may}
use Rattle.mdr_grammar.specs.Grammar.{rule, empty}
use Rattle.mdr_grammar.specs.Running.{taken, begun, if_empty, step, end, ended, stepped, run}
use Rattle.mdr_grammar.specs.Front.{Read, and_read, found, word_at, front_by, nothing_at, begun_at, first_within, first, front}

abbrev pub Reader : Type 0
Reader = (n : Nonterminal) → List Token → Read (Value n)

-- what is left, or was left at the fault, is no longer
abbrev pub Rest : {A : Type 0} → Read A → ℕ → Type 0
Rest (Ok x) most = length x.1 ≤ most
Rest (Err left) most = left ≤ most

rest_and : {A B : Type 0} (o : Read A) (f : A → List Token → Read B) (most : ℕ) → Rest o most → ((v : A) (rest : List Token) → length rest ≤ most → Rest (f v rest) most) → Rest (and_read o f) most
rest_and (Ok x) f most h g = g x.0 x.1 h
rest_and (Err left) f most h g = h

rest_word : (halves : Bool) (s : Sort) (ts : List Token) (most : ℕ) → length ts ≤ most → Rest (word_at halves s ts) most
unfolding word_at
rest_word halves s [] most h = omega arith
rest_word halves s (t ∷ ts) most h = by_test (is s (sort_of halves t.what))
  where
    by_test : (b : Bool) → Rest (found b t ts) most
    by_test true = omega (arith, h)
    by_test false = h

rest_nothing : {A : Type 0} (o : Empty A) (ts : List Token) (most : ℕ) → length ts ≤ most → Rest (nothing_at o ts) most
rest_nothing cannot ts most h = h
rest_nothing (may true v) ts most h = h
rest_nothing (may false v) ts most h = h

pub rest_front : {A : Type 0} (f : Reader) (halves : Bool) (r : Right A) (ts : List Token) (most : ℕ) → ((n : Nonterminal) (us : List Token) → length us ≤ most → Rest (f n us) most) → length ts ≤ most → Rest (front_by f halves r ts) most
rest_front f halves (gives v) ts most g h = h
rest_front f halves (takes s r) ts most g h = rest_and (word_at halves s ts) _ most (rest_word halves s ts most h) (λ t rest h'. rest_front f halves (r t) rest most g h')
rest_front f halves (then n k) ts most g h = rest_and (f n ts) _ most (g n ts h) (λ v rest h'. rest_front f halves (k v) rest most g h')

rest_within : (m : ℕ) (halves : Bool) (n : Nonterminal) (ts : List Token) (most : ℕ) → length ts ≤ most → Rest (first_within m halves n ts) most
rest_within zero halves n ts most h = omega arith
rest_within (suc m) halves n [] most h = rest_nothing (empty n) [] most h
rest_within (suc m) halves n (t ∷ ts) most h = by_rule (rule n (sort_of halves t.what) t) (λ r. rest_front _ halves r ts most (λ n us h'. rest_within m halves n us most h') (omega (arith, h)))
  where
    by_rule : (o : Rule (Value n)) → ((r : Right (Value n)) → Rest (front_by (λ m' us. first_within m halves m' us) halves r ts) most) → Rest (begun_at o (λ r. front_by (λ m' us. first_within m halves m' us) halves r ts) (nothing_at (empty n) (t ∷ ts))) most
    by_rule never g = rest_nothing (empty n) (t ∷ ts) most h
    by_rule (given true r) g = g r
    by_rule (given false r) g = rest_nothing (empty n) (t ∷ ts) most h

pub rest_first : (halves : Bool) (n : Nonterminal) (ts : List Token) (most : ℕ) → length ts ≤ most → Rest (first halves n ts) most
unfolding first
rest_first halves n ts most h = rest_within (suc (length ts)) halves n ts most h

-- ---- more fuel than tokens is enough

same_and : {A B : Type 0} (o : Read A) (f g : A → List Token → Read B) (most : ℕ) → Rest o most → ((v : A) (rest : List Token) → length rest ≤ most → f v rest ≡ g v rest) → and_read o f ≡ and_read o g
same_and (Ok x) f g most h e = e x.0 x.1 h
same_and (Err left) f g most h e = refl

same_front : {A : Type 0} (f g : Reader) (halves : Bool) (r : Right A) (ts : List Token) (most : ℕ) → ((n : Nonterminal) (us : List Token) → length us ≤ most → f n us ≡ g n us) → ((n : Nonterminal) (us : List Token) → length us ≤ most → Rest (f n us) most) → length ts ≤ most → front_by f halves r ts ≡ front_by g halves r ts
same_front f g halves (gives v) ts most e q h = refl
same_front f g halves (takes s r) ts most e q h = same_and (word_at halves s ts) _ _ most (rest_word halves s ts most h) (λ t rest h'. same_front f g halves (r t) rest most e q h')
same_front f g halves (then n k) ts most e q h = same_and (f n ts) (λ v rest. front_by f halves (k v) rest) (λ v rest. front_by g halves (k v) rest) most (q n ts h) (λ v rest h'. same_front f g halves (k v) rest most e q h') ∙ ap (λ o. and_read o (λ v rest. front_by g halves (k v) rest)) (e n ts h)

same_begun : {A : Type 0} (o : Rule A) (f g : Right A → Read A) (other : Read A) → ((r : Right A) → f r ≡ g r) → begun_at o f other ≡ begun_at o g other
same_begun never f g other e = refl
same_begun (given true r) f g other e = e r
same_begun (given false r) f g other e = refl

same_within : (m m' : ℕ) (halves : Bool) (n : Nonterminal) (ts : List Token) → length ts < m → length ts < m' → first_within m halves n ts ≡ first_within m' halves n ts
same_within zero m' halves n ts h h' = absurd (omega (arith, h))
same_within (suc m) zero halves n ts h h' = absurd (omega (arith, h'))
same_within (suc m) (suc m') halves n [] h h' = refl
same_within (suc m) (suc m') halves n (t ∷ ts) h h' = same_begun (rule n (sort_of halves t.what) t) _ _ _ (λ r. same_front _ _ halves r ts (length ts) (λ n us q. same_within m m' halves n us (omega (arith, q, h)) (omega (arith, q, h'))) (λ n us q. rest_within m halves n us (length ts) q) (omega arith))

pub first_of : (halves : Bool) (n : Nonterminal) (t : Token) (ts : List Token) → first halves n (t ∷ ts) ≡ begun_at (rule n (sort_of halves t.what) t) (λ r. front halves r ts) (nothing_at (empty n) (t ∷ ts))
unfolding first
first_of halves n t ts = same_begun (rule n (sort_of halves t.what) t) _ _ _ (λ r. same_front _ _ halves r ts (length ts) (λ n us q. same_within (suc (length ts)) (suc (length us)) halves n us (omega (arith, q)) (omega arith)) (λ n us q. rest_within (suc (length ts)) halves n us (length ts) q) (omega arith))

pub first_none : (halves : Bool) (n : Nonterminal) → first halves n [] ≡ nothing_at (empty n) []
unfolding first
first_none halves n = refl

-- ---- a whole run

run_word : (halves : Bool) (s : Sort) (r : Token → Right Tree) (ts : List Token) → run halves (takes s r) ts ≡ and_read (word_at halves s ts) (λ t rest. run halves (r t) rest)
unfolding word_at
run_word halves s r [] = refl
run_word halves s r (t ∷ ts) = by_test (is s (sort_of halves t.what))
  where
    by_test : (b : Bool) → stepped (taken b (r t)) (suc (length ts)) (λ r'. run halves r' ts) ≡ and_read (found b t ts) (λ t rest. run halves (r t) rest)
    by_test true = refl
    by_test false = refl

same_read : {A B : Type 0} (o : Read A) (f : A → List Token → Read B) (g : B → List Token → Result Tree ℕ) → and_read (and_read o f) g ≡ and_read o (λ v rest. and_read (f v rest) g)
same_read (Ok x) f g = refl
same_read (Err left) f g = refl

same_run : {A : Type 0} (o : Read A) (f g : A → List Token → Result Tree ℕ) (most : ℕ) → Rest o most → ((v : A) (rest : List Token) → length rest ≤ most → f v rest ≡ g v rest) → and_read o f ≡ and_read o g
same_run (Ok x) f g most h e = e x.0 x.1 h
same_run (Err left) f g most h e = refl

run_front : {A : Type 0} (halves : Bool) (r : Right A) (k : A → Right Tree) (ts : List Token) (most : ℕ) → ((n : Nonterminal) (k : Value n → Right Tree) (us : List Token) → length us ≤ most → run halves (then n k) us ≡ and_read (first halves n us) (λ v rest. run halves (k v) rest)) → length ts ≤ most → run halves (r >>= k) ts ≡ and_read (front halves r ts) (λ v rest. run halves (k v) rest)
run_front halves (gives v) k ts most e h = refl
run_front halves (takes s r) k ts most e h = run_word halves s (λ t. r t >>= k) ts ∙ same_run (word_at halves s ts) _ _ most (rest_word halves s ts most h) (λ t rest h'. run_front halves (r t) k rest most e h') ∙ sym (same_read (word_at halves s ts) (λ t rest. front halves (r t) rest) (λ v rest. run halves (k v) rest))
run_front halves (then n g) k ts most e h = e n (λ v. g v >>= k) ts h ∙ same_run (first halves n ts) _ _ most (rest_first halves n ts most h) (λ v rest h'. run_front halves (g v) k rest most e h') ∙ sym (same_read (first halves n ts) (λ v rest. front halves (g v) rest) (λ v rest. run halves (k v) rest))

run_within : (most : ℕ) (halves : Bool) (n : Nonterminal) (k : Value n → Right Tree) (ts : List Token) → length ts ≤ most → run halves (then n k) ts ≡ and_read (first halves n ts) (λ v rest. run halves (k v) rest)
run_within most halves n k [] h = at_end (empty n) ∙ ap (λ o. and_read o (λ v rest. run halves (k v) rest)) (sym (first_none halves n))
  where
    at_end : (o : Empty (Value n)) → ended (if_empty o (λ v. end (k v))) ≡ and_read (nothing_at o []) (λ v rest. run halves (k v) rest)
    at_end cannot = refl
    at_end (may true v) = refl
    at_end (may false v) = refl
run_within zero halves n k (t ∷ ts) h = absurd (omega (arith, h))
run_within (suc most) halves n k (t ∷ ts) h = by_rule (rule n (sort_of halves t.what) t) (λ r. run_front halves r k ts most (λ n k us q. run_within most halves n k us q) (omega (arith, h))) ∙ ap (λ o. and_read o (λ v rest. run halves (k v) rest)) (sym (first_of halves n t ts))
  where
    by_empty : (o : Empty (Value n)) → stepped (if_empty o (λ v. step halves (k v) t)) (suc (length ts)) (λ r'. run halves r' ts) ≡ and_read (nothing_at o (t ∷ ts)) (λ v rest. run halves (k v) rest)
    by_empty cannot = refl
    by_empty (may true v) = refl
    by_empty (may false v) = refl

    by_rule : (o : Rule (Value n)) → ((r : Right (Value n)) → run halves (r >>= k) ts ≡ and_read (front halves r ts) (λ v rest. run halves (k v) rest)) → stepped (begun o k (if_empty (empty n) (λ v. step halves (k v) t))) (suc (length ts)) (λ r'. run halves r' ts) ≡ and_read (begun_at o (λ r. front halves r ts) (nothing_at (empty n) (t ∷ ts))) (λ v rest. run halves (k v) rest)
    by_rule never g = by_empty (empty n)
    by_rule (given true r) g = g r
    by_rule (given false r) g = by_empty (empty n)

pub run_first : (halves : Bool) (n : Nonterminal) (k : Value n → Right Tree) (ts : List Token) → run halves (then n k) ts ≡ and_read (first halves n ts) (λ v rest. run halves (k v) rest)
run_first halves n k ts = run_within (length ts) halves n k ts (omega arith)
