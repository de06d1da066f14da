-- Reading token by token reads exactly the sources, and its fault is the first.
use Rattle.std.proofs.Common.{◌≡◌, refl, sym, subst, ◌∙◌, ℕ, suc, Bool, List, drop, inl, inr, Result, Ok, Err}
use Rattle.std.proofs.lemmas.List.{take-append-drop}
use Rattle.std.proofs.Math.Nat.{eq-or-lt_of_le}
use Rattle.mdr_syntax.specs.declared.token.Token.{Token}
use Rattle.mdr_syntax.specs.declared.tree.Tree.{Tree}
use Rattle.mdr_grammar.specs.Statements.{source}
use Rattle.mdr_grammar.specs.Grammar.{Reads}
use Rattle.mdr_grammar.specs.Running.{run, Tells, FirstFault}
use Rattle.mdr_grammar.proofs.Binding.{clear}
use Rattle.mdr_grammar.proofs.Whole.{Runs, runs, none_derived}
use Rattle.mdr_grammar.proofs.Whole.Runs.{reads, faults}
use Rattle.mdr_grammar.proofs.Cuts.{derives_of, reads_of}
use Rattle.mdr_grammar.proofs.Steps.{FineLeft}

fine_source : FineLeft source
fine_source = λ is. (clear (λ t'. refl), (refl, λ e. tt))

told : (halves : Bool) (ts : List Token) (result : Result Tree ℕ) → Runs halves source ts result → Tells halves ts result
told halves ts (Ok tree) (reads d u) = (reads_of halves ts tree fine_source d, λ other o. u other (derives_of halves ts other o))
told halves ts (Err left) (faults {n = n} e f) = (
  n,
  e,
  record {
    inside = f.inside;
    before = (f.before.0, f.before.1, reads_of halves _ _ fine_source f.before.2);
    refused = λ h m tree d. f.refused h m tree (derives_of halves _ tree d);
    unfinished = λ h tree d. f.unfinished h tree (derives_of halves ts tree d);
  },
)

pub tells : (halves : Bool) (ts : List Token) → Tells halves ts (run halves source ts)
tells halves ts = told halves ts (run halves source ts) (runs halves ts source fine_source)

one_of_two : (halves : Bool) (ts : List Token) (result : Result Tree ℕ) → Runs halves source ts result → (tree other : Tree) → Reads halves ts tree → Reads halves ts other → tree ≡ other
one_of_two halves ts (Ok x) (reads d u) tree other a b = u tree (derives_of halves ts tree a) ∙ sym (u other (derives_of halves ts other b))
one_of_two halves ts (Err left) (faults {n = n} e f) tree other a b = absurd (none_derived halves source ts n f tree (derives_of halves ts tree a))

-- a list of tokens has at most one tree
pub one_tree : (halves : Bool) (ts : List Token) (tree other : Tree) → Reads halves ts tree → Reads halves ts other → tree ≡ other
one_tree halves ts tree other a b = one_of_two halves ts (run halves source ts) (runs halves ts source fine_source) tree other a b

-- tokens with a fault have no tree
pub no_tree : (halves : Bool) (ts : List Token) (n : ℕ) (tree : Tree) → FirstFault halves ts n → Reads halves ts tree → ⊥
no_tree halves ts n tree f d = elim (eq-or-lt_of_le f.inside) [ inl h ↦ f.unfinished h tree d | inr h ↦ f.refused h (drop (suc n) ts) tree (subst (λ l. Reads halves l tree) (sym (take-append-drop (suc n) ts)) d) ]
