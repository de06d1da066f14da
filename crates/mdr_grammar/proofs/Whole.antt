-- Reading token by token derives exactly what can be derived, and its fault is the first.
use Rattle.std.proofs.Common.{◌≡◌, ◌≤◌, ◌<◌, ◌+◌, refl, sym, subst, arith, ℕ, suc, Bool, List, [], ◌∷◌, ◌++◌, length, take, drop, inl, inr, Option, Some, None, Result, Ok, Err}
use Rattle.std.proofs.lemmas.List.{take-append-drop}
use Rattle.std.proofs.Math.Nat.{eq-or-lt_of_le}
use Rattle.mdr_syntax.specs.declared.token.Token.{Token}
use Rattle.mdr_syntax.specs.declared.tree.Tree.{Tree}
use Rattle.mdr_grammar.specs.Forms.{Right}
use Rattle.mdr_grammar.proofs.Derivations.{Derives}
use Rattle.mdr_grammar.specs.Running.{step, end, ended, stepped, run}
use Rattle.mdr_grammar.proofs.Steps.{FineLeft, FineStep, Stepped, Ended, forward, backward, fine_step, ends_forward, ends_back}
use Rattle.mdr_grammar.proofs.Completion.{completes}

-- what a whole run says of the tokens
pub record Faults (halves : Bool) (r : Right Tree) (ts : List Token) (n : ℕ) : Type 0 where
  pub inside : n ≤ length ts
  pub before : (more : List Token) × (tree : Tree) × Derives halves r (take n ts ++ more) tree
  pub refused : n < length ts → (more : List Token) (tree : Tree) → Derives halves r (take (suc n) ts ++ more) tree → ⊥
  pub unfinished : n ≡ length ts → (tree : Tree) → Derives halves r ts tree → ⊥

pub data Runs (halves : Bool) (r : Right Tree) (ts : List Token) : Result Tree ℕ → Type 0 where
  reads : {tree : Tree} → Derives halves r ts tree → ((other : Tree) → Derives halves r ts other → other ≡ tree) → Runs halves r ts (Ok tree)
  faults : {n left : ℕ} → left + n ≡ length ts → Faults halves r ts n → Runs halves r ts (Err left)

started : (halves : Bool) (r : Right Tree) → FineLeft r → (more : List Token) × (tree : Tree) × Derives halves r more tree
started halves r f = let c = completes halves r f in (c.tokens, c.tree, c.derivation)

at_end : (halves : Bool) (r : Right Tree) (o : Option Tree) → FineLeft r → ((tree : Tree) → Derives halves r [] tree → Ended o tree) → ((tree : Tree) → Ended o tree → Derives halves r [] tree) → Runs halves r [] (ended o)
at_end halves r None f to back = faults {n = 0} {left = 0} (omega arith) (record {
  inside = omega arith;
  before = started halves r f;
  refused = λ h. absurd (omega arith);
  unfinished = λ h tree d. to tree d;
})
at_end halves r (Some x) f to back = reads (back x refl) (λ other d. to other d)

longer : (halves : Bool) (r r' : Right Tree) (t : Token) (ts : List Token) (result : Result Tree ℕ) → ((ts : List Token) (tree : Tree) → Derives halves r (t ∷ ts) tree → Derives halves r' ts tree) → ((ts : List Token) (tree : Tree) → Derives halves r' ts tree → Derives halves r (t ∷ ts) tree) → Runs halves r' ts result → Runs halves r (t ∷ ts) result
longer halves r r' t ts (Ok tree) to back (reads d u) = reads (back ts tree d) (λ other o. u other (to ts other o))
longer halves r r' t ts (Err left) to back (faults {n = n} e f) = faults {n = suc n} (omega arith) (record {
  inside = omega (arith, f.inside);
  before = (f.before.0, f.before.1, back _ _ f.before.2);
  refused = λ h m tree d. f.refused (omega arith) m tree (to _ _ d);
  unfinished = λ h tree d. f.unfinished (omega arith) tree (to ts tree d);
})

after_step : (halves : Bool) (r : Right Tree) (t : Token) (ts : List Token) (o : Option (Right Tree)) → FineLeft r → FineStep o → ((ts : List Token) (tree : Tree) → Derives halves r (t ∷ ts) tree → Stepped halves o ts tree) → ((ts : List Token) (tree : Tree) → Stepped halves o ts tree → Derives halves r (t ∷ ts) tree) → ((r' : Right Tree) → FineLeft r' → Runs halves r' ts (run halves r' ts)) → Runs halves r (t ∷ ts) (stepped o (suc (length ts)) (λ r'. run halves r' ts))
after_step halves r t ts None f f' to back rest_runs = faults {n = 0} {left = suc (length ts)} (omega arith) (record {
  inside = omega arith;
  before = started halves r f;
  refused = λ h m tree d. to m tree d;
  unfinished = λ h. absurd (omega arith);
})
after_step halves r t ts (Some r') f f' to back rest_runs = longer halves r r' t ts _ to back (rest_runs r' f')

pub runs : (halves : Bool) (ts : List Token) (r : Right Tree) → FineLeft r → Runs halves r ts (run halves r ts)
runs halves [] r f = at_end halves r (end r) f (λ tree d. ends_forward halves r tree d) (λ tree h. ends_back halves r tree h)
runs halves (t ∷ ts) r f = after_step halves r t ts (step halves r t) f (fine_step halves r t f) (λ ts tree d. forward halves r t ts tree f d) (λ ts tree h. backward halves r t ts tree h) (λ r' f'. runs halves ts r' f')

pub none_derived : (halves : Bool) (r : Right Tree) (ts : List Token) (n : ℕ) → Faults halves r ts n → (tree : Tree) → Derives halves r ts tree → ⊥
none_derived halves r ts n f tree d = elim (eq-or-lt_of_le f.inside) [ inl h ↦ absurd (f.unfinished h tree d) | inr h ↦ absurd (f.refused h (drop (suc n) ts) tree (subst (λ l. Derives halves r l tree) (sym (take-append-drop (suc n) ts)) d)) ]
