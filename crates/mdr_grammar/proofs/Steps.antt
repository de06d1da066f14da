-- A token moves what is left of a source as the grammar says, in both directions.
use Rattle.std.proofs.Common.{◌≡◌, refl, sym, subst, ap, Bool, true, false, not, List, [], ◌∷◌, Option, Some, None}
use Rattle.mdr_syntax.specs.declared.token.Token.{Token}
use Rattle.mdr_syntax.specs.declared.tree.Tree.{Tree}
use Rattle.mdr_grammar.specs.Sorts.{Sort, is, sort_of}
use Rattle.mdr_grammar.specs.Forms.{Nonterminal, Value, Right, Rule, Empty}
use Rattle.mdr_grammar.specs.Forms.Right.{gives, takes, then}
use Rattle.mdr_grammar.specs.Forms.Rule.{never, given}
use Rattle.mdr_grammar.specs.Forms.Empty.{cannot, may}
use Rattle.mdr_grammar.specs.Grammar.{rule, empty}
use Rattle.mdr_grammar.proofs.Derivations.{Derives}
use Rattle.mdr_grammar.proofs.Derivations.Derives.{ended, took, began, skipped}
use Rattle.mdr_grammar.specs.Running.{taken, begun, if_empty, step, end}
use Rattle.mdr_grammar.proofs.Hungry.{opens, Hungry, if_may, avoids, Fine, FineRule}
use Rattle.mdr_grammar.proofs.Bools.{not_both, and_left, and_right}
use Rattle.mdr_grammar.proofs.Binding.{fine_then}
use Rattle.mdr_grammar.proofs.FineRules.{fine_rule, Owns, owns}

-- what is left of a source keeps to what may follow
abbrev pub Whole : Tree → Sort → Token → Bool
Whole tree s t = true

abbrev pub FineLeft : Right Tree → Type 0
FineLeft r = Fine r Whole

-- ---- a token that can't come first

clash : {A : Type 0} (r : Rule A) (r' : Right A) → r ≡ given true r' → not (opens r) ≡ true → ⊥
clash r r' e h = not_both true refl (subst (λ x. not (opens x) ≡ true) e h)

empty_is : {A : Type 0} (o : Empty A) (v : A) (f : A → Bool) → o ≡ may true v → if_may o f ≡ true → f v ≡ true
empty_is o v f e h = subst (λ x. if_may x f ≡ true) e h

pub none_begin : (halves : Bool) {r : Right Tree} {t : Token} {ts : List Token} {tree : Tree} (F : Tree → Sort → Token → Bool) → avoids r F (sort_of halves t.what) t ≡ true → Derives halves r (t ∷ ts) tree → ⊥
none_begin halves {t = t} F a (took {s = s} i d) = not_both (is s (sort_of halves t.what)) i a
none_begin halves {t = t} F a (began {n = n} {k = k} {r = r} e d) = clash (rule n (sort_of halves t.what) t) r e (and_left _ (if_may (empty n) (λ v. avoids (k v) F (sort_of halves t.what) t)) a)
none_begin halves {t = t} F a (skipped {n = n} {k = k} {v = v} e d) = none_begin halves F (empty_is (empty n) v (λ v. avoids (k v) F (sort_of halves t.what) t) e (and_right (not (opens (rule n (sort_of halves t.what) t))) (if_may (empty n) (λ v. avoids (k v) F (sort_of halves t.what) t)) a)) d

-- ---- forward

abbrev pub Stepped : Bool → Option (Right Tree) → List Token → Tree → Type 0
Stepped halves None ts tree = ⊥
Stepped halves (Some r) ts tree = Derives halves r ts tree

owned : (n : Nonterminal) (s : Sort) (t : Token) (v : Value n) (o : Empty (Value n)) → Owns n o s t → o ≡ may true v → opens (rule n s t) ≡ true → Hungry n v s t ≡ true
owned n s t v o w e h = subst (λ x. Owns n x s t) e w h

-- what is left where a nonterminal is empty
skipping : (halves : Bool) (n : Nonterminal) (k : Value n → Right Tree) (v : Value n) (t : Token) (ts : List Token) (tree : Tree) → empty n ≡ may true v → Stepped halves (step halves (k v) t) ts tree → Stepped halves (if_empty (empty n) (λ v. step halves (k v) t)) ts tree
skipping halves n k v t ts tree e d = subst (λ o. Stepped halves (if_empty o (λ v. step halves (k v) t)) ts tree) (sym e) d

pub forward : (halves : Bool) (r : Right Tree) (t : Token) (ts : List Token) (tree : Tree) → FineLeft r → Derives halves r (t ∷ ts) tree → Stepped halves (step halves r t) ts tree
forward halves (gives x) t ts tree f d = elim d [ ]
forward halves (takes s r) t ts tree f (took i d) = subst (λ b. Stepped halves (taken b (r t)) ts tree) (sym i) d
forward halves (then n k) t ts tree f (began e d) = subst (λ o. Stepped halves (begun o k (if_empty (empty n) (λ v. step halves (k v) t))) ts tree) (sym e) d
forward halves (then n k) t ts tree f (skipped {v = v} e d) = by_rule (rule n (sort_of halves t.what) t) refl (skipping halves n k v t ts tree e (forward halves (k v) t ts tree (f v).1 d))
  where
    by_rule : (o : Rule (Value n)) → rule n (sort_of halves t.what) t ≡ o → Stepped halves (if_empty (empty n) (λ v. step halves (k v) t)) ts tree → Stepped halves (begun o k (if_empty (empty n) (λ v. step halves (k v) t))) ts tree
    by_rule never q h = h
    by_rule (given false r) q h = h
    by_rule (given true r) q h = absurd (none_begin halves Whole ((f v).0.at (sort_of halves t.what) t (owned n (sort_of halves t.what) t v (empty n) (owns n (sort_of halves t.what) t) e (ap opens q))) d)

-- ---- backward

pub backward : (halves : Bool) (r : Right Tree) (t : Token) (ts : List Token) (tree : Tree) → Stepped halves (step halves r t) ts tree → Derives halves r (t ∷ ts) tree
backward halves (gives x) t ts tree h = absurd h
backward halves (takes s r) t ts tree h = by_test (is s (sort_of halves t.what)) refl h
  where
    by_test : (b : Bool) → is s (sort_of halves t.what) ≡ b → Stepped halves (taken b (r t)) ts tree → Derives halves (takes s r) (t ∷ ts) tree
    by_test true q h = took q h
    by_test false q h = absurd h
backward halves (then n k) t ts tree h = by_rule (rule n (sort_of halves t.what) t) refl h (λ v. backward halves (k v) t ts tree)
  where
    by_empty : (o : Empty (Value n)) → empty n ≡ o → Stepped halves (if_empty o (λ v. step halves (k v) t)) ts tree → ((v : Value n) → Stepped halves (step halves (k v) t) ts tree → Derives halves (k v) (t ∷ ts) tree) → Derives halves (then n k) (t ∷ ts) tree
    by_empty cannot q h g = absurd h
    by_empty (may true v) q h g = skipped q (g v h)
    by_empty (may false v) q h g = absurd h

    by_rule : (o : Rule (Value n)) → rule n (sort_of halves t.what) t ≡ o → Stepped halves (begun o k (if_empty (empty n) (λ v. step halves (k v) t))) ts tree → ((v : Value n) → Stepped halves (step halves (k v) t) ts tree → Derives halves (k v) (t ∷ ts) tree) → Derives halves (then n k) (t ∷ ts) tree
    by_rule never q h g = by_empty (empty n) refl h g
    by_rule (given false r) q h g = by_empty (empty n) refl h g
    by_rule (given true r) q h g = began q h

-- ---- what is left after a token keeps to what may follow

abbrev pub FineStep : Option (Right Tree) → Type 0
FineStep None = Unit {0}
FineStep (Some r) = FineLeft r

pub fine_step : (halves : Bool) (r : Right Tree) (t : Token) → FineLeft r → FineStep (step halves r t)
fine_step halves (gives x) t f = tt
fine_step halves (takes s r) t (a, f) = by_test (is s (sort_of halves t.what))
  where
    by_test : (b : Bool) → FineStep (taken b (r t))
    by_test true = f t
    by_test false = tt
fine_step halves (then n k) t f = by_rule (rule n (sort_of halves t.what) t) (fine_rule n (sort_of halves t.what) t) (by_empty (empty n) (λ v. fine_step halves (k v) t (f v).1))
  where
    by_empty : (o : Empty (Value n)) → ((v : Value n) → FineStep (step halves (k v) t)) → FineStep (if_empty o (λ v. step halves (k v) t))
    by_empty cannot g = tt
    by_empty (may true v) g = g v
    by_empty (may false v) g = tt

    by_rule : (o : Rule (Value n)) → FineRule o (Hungry n) → FineStep (if_empty (empty n) (λ v. step halves (k v) t)) → FineStep (begun o k (if_empty (empty n) (λ v. step halves (k v) t)))
    by_rule never x h = h
    by_rule (given false r) x h = h
    by_rule (given true r) x h = fine_then r k (Hungry n) Whole x f

-- ---- the end

abbrev pub Ended : Option Tree → Tree → Type 0
Ended None tree = ⊥
Ended (Some x) tree = tree ≡ x

pub ends_forward : (halves : Bool) (r : Right Tree) (tree : Tree) → Derives halves r [] tree → Ended (end r) tree
ends_forward halves (gives x) tree ended = refl
ends_forward halves (takes s r) tree d = elim d [ ]
ends_forward halves (then n k) tree (skipped {v = v} e d) = subst (λ o. Ended (if_empty o (λ v. end (k v))) tree) (sym e) (ends_forward halves (k v) tree d)

pub ends_back : (halves : Bool) (r : Right Tree) (tree : Tree) → Ended (end r) tree → Derives halves r [] tree
ends_back halves (gives x) tree e = subst (λ y. Derives halves (gives x) [] y) (sym e) ended
ends_back halves (takes s r) tree h = absurd h
ends_back halves (then n k) tree h = by_empty (empty n) refl h (λ v. ends_back halves (k v) tree)
  where
    by_empty : (o : Empty (Value n)) → empty n ≡ o → Ended (if_empty o (λ v. end (k v))) tree → ((v : Value n) → Ended (end (k v)) tree → Derives halves (k v) [] tree) → Derives halves (then n k) [] tree
    by_empty cannot q h g = absurd h
    by_empty (may true v) q h g = skipped q (g v h)
    by_empty (may false v) q h g = absurd h
