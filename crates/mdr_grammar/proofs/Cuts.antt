-- Reading from the left is the same as cutting the tokens where each form ends.
use Rattle.std.proofs.Common.{◌≡◌, refl, sym, subst, ap, ◌∙◌, ℕ, zero, suc, Bool, true, false, List, [], ◌∷◌, length, Result, Ok, Err}
use Rattle.mdr_syntax.specs.declared.token.Token.{Token}
use Rattle.mdr_syntax.specs.declared.tree.Item.{Item}
use Rattle.mdr_syntax.specs.declared.tree.Tree.{Tree}
use Rattle.mdr_grammar.specs.Sorts.{Sort, is, sort_of}
use Rattle.mdr_grammar.specs.Forms.{Nonterminal, Value, Right, ◌>>=◌, Rule, Empty}
use Rattle.mdr_grammar.specs.Forms.Repeated.{items}
use Rattle.mdr_grammar.specs.Forms.Nonterminal.{many}
use Rattle.mdr_grammar.specs.Forms.Right.{gives, takes, then}
use Rattle.mdr_grammar.specs.Forms.Rule.{never, given}
use Rattle.mdr_grammar.specs.Forms.Empty.{cannot, may}
use Rattle.mdr_grammar.specs.Statements.{source, tree_of}
use Rattle.mdr_grammar.specs.Grammar.{rule, empty, Gets, Follows, Reads}
use Rattle.mdr_grammar.specs.Grammar.Gets.{absent, present}
use Rattle.mdr_grammar.specs.Grammar.Follows.{done, word, both}
use Rattle.mdr_grammar.specs.Running.{run, stepped, taken}
use Rattle.mdr_grammar.specs.Front.{Read, and_read, found, word_at, front_by, nothing_at, begun_at, first_within, first}
use Rattle.mdr_grammar.proofs.Derivations.{Derives}
use Rattle.mdr_grammar.proofs.Derivations.Derives.{ended, took, began, skipped}
use Rattle.mdr_grammar.proofs.Fronts.{run_first}
use Rattle.mdr_grammar.proofs.Whole.{Runs, runs, none_derived}
use Rattle.mdr_grammar.proofs.Whole.Runs.{reads, faults}
use Rattle.mdr_grammar.proofs.Steps.{FineLeft}

-- ---- what is cut is derived

mutual
  got : (halves : Bool) {n : Nonterminal} {ts rest : List Token} {v : Value n} (k : Value n → Right Tree) (tree : Tree) → Gets halves n ts rest v → Derives halves (k v) rest tree → Derives halves (then n k) ts tree
  got halves k tree (absent e) d = skipped e d
  got halves k tree (present e f) d = began e (followed halves k tree f d)

  followed : (halves : Bool) {n : Nonterminal} {r : Right (Value n)} {ts rest : List Token} {v : Value n} (k : Value n → Right Tree) (tree : Tree) → Follows halves n r ts rest v → Derives halves (k v) rest tree → Derives halves (r >>= k) ts tree
  followed halves k tree done d = d
  followed halves k tree (word i f) d = took i (followed halves k tree f d)
  followed halves k tree (both {k = g} a f) d = got halves (λ x. g x >>= k) tree a (followed halves k tree f d)

pub derives_of : (halves : Bool) (ts : List Token) (tree : Tree) → Reads halves ts tree → Derives halves source ts tree
derives_of halves ts tree r = got halves _ tree r.found (took r.at_end (subst (λ x. Derives halves (gives (tree_of r.items_of)) [] x) (sym r.is_tree) ended))

-- ---- what is read at the front is cut

-- the result is what the definition gives
abbrev pub Is : {A : Type 0} → Read A → A → List Token → Type 0
Is o v rest = o ≡ Ok (v, rest)

no_error : {A : Type 0} {B : Type 0} {e : ℕ} {x : A × List Token} → ◌≡◌ {A = Read A} (Err e) (Ok x) → B
no_error e = absurd (Prim.cc)

ok_is : {A : Type 0} {x y : A × List Token} → ◌≡◌ {A = Read A} (Ok x) (Ok y) → x ≡ y
ok_is e = Prim.cc

pub word_is : (halves : Bool) (s : Sort) (ts rest : List Token) (t : Token) → Is (word_at halves s ts) t rest → (ts ≡ t ∷ rest) × (is s (sort_of halves t.what) ≡ true)
unfolding word_at
word_is halves s [] rest t e = no_error e
word_is halves s (u ∷ us) rest t e = by_test (is s (sort_of halves u.what)) refl e
  where
    by_test : (b : Bool) → is s (sort_of halves u.what) ≡ b → Is (found b u us) t rest → (u ∷ us ≡ t ∷ rest) × (is s (sort_of halves t.what) ≡ true)
    by_test true q e' = subst (λ z. (u ∷ us ≡ z.0 ∷ z.1) × (is s (sort_of halves z.0.what) ≡ true)) (ok_is e') (refl, q)
    by_test false q e' = no_error e'

-- a step of reading that succeeds has a first part that does
data Parts {A B : Type 0} (o : Read A) (f : A → List Token → Result B ℕ) (y : B) : Type 0 where
  parts : {x : A} {mid : List Token} → Is o x mid → f x mid ≡ Ok y → Parts o f y

in_parts : {A B : Type 0} (o : Read A) (f : A → List Token → Result B ℕ) (y : B) → and_read o f ≡ Ok y → Parts o f y
in_parts (Ok x) f y e = parts refl e
in_parts (Err left) f y e = absurd (Prim.cc)

cut_nothing : (halves : Bool) (n : Nonterminal) (ts rest : List Token) (v : Value n) (o : Empty (Value n)) → empty n ≡ o → Is (nothing_at o ts) v rest → Gets halves n ts rest v
cut_nothing halves n ts rest v cannot q e = no_error e
cut_nothing halves n ts rest v (may true x) q e = subst (λ z. Gets halves n ts z.1 z.0) (ok_is e) (absent q)
cut_nothing halves n ts rest v (may false x) q e = no_error e

abbrev pub Reader : Type 0
Reader = (n : Nonterminal) → List Token → Read (Value n)

cut_word : (f : Reader) (halves : Bool) (n : Nonterminal) (s : Sort) (r : Token → Right (Value n)) (ts rest : List Token) (v : Value n) → Parts (word_at halves s ts) (λ t us. front_by f halves (r t) us) (v, rest) → ((t : Token) (us : List Token) → Is (front_by f halves (r t) us) v rest → Follows halves n (r t) us rest v) → Follows halves n (takes s r) ts rest v
cut_word f halves n s r ts rest v (parts {x = t} {mid = mid} a b) g = let w = word_is halves s ts mid t a in subst (λ us. Follows halves n (takes s r) us rest v) (sym w.0) (word w.1 (g t mid b))

cut_both : (f : Reader) (halves : Bool) (n m : Nonterminal) (k : Value m → Right (Value n)) (ts rest : List Token) (v : Value n) → Parts (f m ts) (λ x us. front_by f halves (k x) us) (v, rest) → ((x : Value m) (mid : List Token) → Is (f m ts) x mid → Gets halves m ts mid x) → ((x : Value m) (us : List Token) → Is (front_by f halves (k x) us) v rest → Follows halves n (k x) us rest v) → Follows halves n (then m k) ts rest v
cut_both f halves n m k ts rest v (parts {x = x} {mid = mid} a b) h g = both (h x mid a) (g x mid b)

cut_front : (f : Reader) (halves : Bool) (n : Nonterminal) (r : Right (Value n)) (ts rest : List Token) (v : Value n) → ((m : Nonterminal) (us mid : List Token) (x : Value m) → Is (f m us) x mid → Gets halves m us mid x) → Is (front_by f halves r ts) v rest → Follows halves n r ts rest v
cut_front f halves n (gives x) ts rest v h e = subst (λ z. Follows halves n (gives x) ts z.1 z.0) (ok_is e) done
cut_front f halves n (takes s r) ts rest v h e = cut_word f halves n s r ts rest v (in_parts (word_at halves s ts) (λ t us. front_by f halves (r t) us) (v, rest) e) (λ t us. cut_front f halves n (r t) us rest v h)
cut_front f halves n (then m k) ts rest v h e = cut_both f halves n m k ts rest v (in_parts (f m ts) (λ x us. front_by f halves (k x) us) (v, rest) e) (λ x mid. h m ts mid x) (λ x us. cut_front f halves n (k x) us rest v h)

cut_within : (m : ℕ) (halves : Bool) (n : Nonterminal) (ts rest : List Token) (v : Value n) → Is (first_within m halves n ts) v rest → Gets halves n ts rest v
cut_within zero halves n ts rest v e = no_error e
cut_within (suc m) halves n [] rest v e = cut_nothing halves n [] rest v (empty n) refl e
cut_within (suc m) halves n (t ∷ ts) rest v e = by_rule (rule n (sort_of halves t.what) t) refl e (λ r. cut_front (λ m' us. first_within m halves m' us) halves n r ts rest v (λ m' us mid x. cut_within m halves m' us mid x))
  where
    by_rule : (o : Rule (Value n)) → rule n (sort_of halves t.what) t ≡ o → Is (begun_at o (λ r. front_by (λ m' us. first_within m halves m' us) halves r ts) (nothing_at (empty n) (t ∷ ts))) v rest → ((r : Right (Value n)) → Is (front_by (λ m' us. first_within m halves m' us) halves r ts) v rest → Follows halves n r ts rest v) → Gets halves n (t ∷ ts) rest v
    by_rule never q e' g = cut_nothing halves n (t ∷ ts) rest v (empty n) refl e'
    by_rule (given true r) q e' g = present q (g r e')
    by_rule (given false r) q e' g = cut_nothing halves n (t ∷ ts) rest v (empty n) refl e'

cut_first : (halves : Bool) (n : Nonterminal) (ts rest : List Token) (v : Value n) → Is (first halves n ts) v rest → Gets halves n ts rest v
unfolding first
cut_first halves n ts rest v e = cut_within (suc (length ts)) halves n ts rest v e

-- ---- a whole source

run_is : (halves : Bool) (ts : List Token) (tree : Tree) (result : Result Tree ℕ) → Runs halves source ts result → Derives halves source ts tree → result ≡ Ok tree
run_is halves ts tree (Ok x) (reads d u) d' = ap (λ y. Ok y) (sym (u tree d'))
run_is halves ts tree (Err left) (faults {n = n} e f) d' = absurd (none_derived halves source ts n f tree d')

abbrev pub is_end : Bool → Token → Bool
is_end halves t = is Sort.End (sort_of halves t.what)

tree_in : {x y : Tree} → ◌≡◌ {A = Result Tree ℕ} (Ok x) (Ok y) → x ≡ y
tree_in e = Prim.cc

last_is : (halves : Bool) (is : List (List Item)) (ts mid : List Token) (tree : Tree) → Gets halves (many true items []) ts mid is → run halves (takes Sort.End (λ e. gives (tree_of is))) mid ≡ Ok tree → Reads halves ts tree
last_is halves is ts [] tree g e = absurd (Prim.cc)
last_is halves is ts (t ∷ us) tree g e = by_test (is_end halves t) refl e
  where
    none_behind : (us' : List Token) → run halves (gives (tree_of is)) us' ≡ Ok tree → (us' ≡ []) × (tree ≡ tree_of is)
    none_behind [] e' = (refl, sym (tree_in e'))
    none_behind (u ∷ us') e' = absurd (Prim.cc)

    by_test : (b : Bool) → is_end halves t ≡ b → stepped (taken b (gives (tree_of is))) (suc (length us)) (λ r'. run halves r' us) ≡ Ok tree → Reads halves ts tree
    by_test true q e' = let w = none_behind us e' in record { items_of = is; end = t; found = subst (λ z. Gets halves (many true items []) ts (t ∷ z) is) w.0 g; at_end = q; is_tree = w.1 }
    by_test false q e' = absurd (Prim.cc)

by_items : (halves : Bool) (ts : List Token) (tree : Tree) → Parts (first halves (many true items []) ts) (λ is rest. run halves (takes Sort.End (λ e. gives (tree_of is))) rest) tree → Reads halves ts tree
by_items halves ts tree (parts {x = is} {mid = mid} a b) = last_is halves is ts mid tree (cut_first halves (many true items []) ts mid is a) b

pub reads_of : (halves : Bool) (ts : List Token) (tree : Tree) → FineLeft source → Derives halves source ts tree → Reads halves ts tree
reads_of halves ts tree f d = by_items halves ts tree (in_parts (first halves (many true items []) ts) (λ is rest. run halves (takes Sort.End (λ e. gives (tree_of is))) rest) tree (sym (run_first halves (many true items []) (λ is. takes Sort.End (λ e. gives (tree_of is))) ts) ∙ run_is halves ts tree (run halves source ts) (runs halves ts source f) d))
