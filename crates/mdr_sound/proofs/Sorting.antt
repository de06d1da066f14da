-- What holds of each clause of a `switch` holds of those that are tried, and of the one with `default` (C99 6.8.4.2).
use Rattle.std.proofs.Common.{ℕ, Bool, true, false, List, [], ◌∷◌, ◌++◌, sym, subst}
use Rattle.mdr_core.specs.declared.value.Value.{Value}
use Rattle.mdr_core.specs.Layout.{chosen}
use Rattle.mdr_rich.specs.declared.code.Clause.{Clause}
use Rattle.mdr_rich.specs.declared.code.Step.TheFolds.{fold-roll-Clause}
use Rattle.mdr_rich.specs.Code.{Code, Codes}
use Rattle.mdr_rich.specs.Folds.{Labelled, codes_of, clause_layer, clause_of, step_layer, stmt_layer}
use Rattle.mdr_body.specs.declared.clauses.MadeClause.{MadeClause}
use Rattle.mdr_body.specs.declared.clauses.SortedClauses.{SortedClauses}
use Rattle.mdr_body.specs.Clauses.{no_clauses, sorted, tried_clause, with_clause}

-- P of the labels of a clause with the code behind them, D of the code of the one with `default`
module _ (P : List Value → Codes → Type 0) (D : Codes → Type 0) where
  abbrev pub EachMade : List MadeClause → Type 0
  EachMade [] = Unit {0}
  EachMade (m ∷ ms) = P m.labels (codes_of m.body) × EachMade ms

  pub more_made : (ms ns : List MadeClause) → EachMade ms → EachMade ns → EachMade (ms ++ ns)
  more_made [] ns h k = k
  more_made (m ∷ ms) ns h k = (h.0, more_made ms ns h.1 k)

  abbrev pub EachTried : List Clause → Type 0
  EachTried [] = Unit {0}
  EachTried (c ∷ cs) = P (clause_of c).0 (clause_of c).1 × EachTried cs

  pub record IsSorted (s : SortedClauses) : Type 0 where
    pub tried : EachTried s.tried
    pub fallback : D (codes_of s.fallback)

  tried_last : (cs : List Clause) (c : Clause) → EachTried cs → P (clause_of c).0 (clause_of c).1 → EachTried (cs ++ c ∷ [])
  tried_last [] c h k = (k, tt)
  tried_last (d ∷ ds) c h k = (h.0, tried_last ds c h.1 k)

  tried_one : (m : MadeClause) → P m.labels (codes_of m.body) → P (clause_of (tried_clause m)).0 (clause_of (tried_clause m)).1
  tried_one m h = subst (λ (c : Labelled). P c.0 c.1) (sym (fold-roll-Clause (ℕ → Code) Labelled Code step_layer clause_layer stmt_layer (record { labels = m.labels; body = m.body }))) h

  module _ (only : (vs : List Value) (cs : Codes) → P vs cs → D cs) where
    with_one : (s : SortedClauses) (m : MadeClause) → IsSorted s → P m.labels (codes_of m.body) → IsSorted (with_clause s m)
    with_one s m h k = by m.is_default where
      by : (t : Bool) → IsSorted (chosen t (record { tried = s.tried; fallback = m.body }) (record { tried = s.tried ++ tried_clause m ∷ []; fallback = s.fallback }))
      by true = record { tried = h.tried; fallback = only m.labels (codes_of m.body) k }
      by false = record { tried = tried_last s.tried (tried_clause m) h.tried (tried_one m k); fallback = h.fallback }

    sorted_from : (s : SortedClauses) (ms : List MadeClause) → IsSorted s → EachMade ms → IsSorted (sorted s ms)
    unfolding sorted
    sorted_from s [] h k = h
    sorted_from s (m ∷ ms) h k = sorted_from (with_clause s m) ms (with_one s m h k.0) k.1

    pub all_sorted : D Codes.End → (ms : List MadeClause) → EachMade ms → IsSorted (sorted no_clauses ms)
    all_sorted none ms h = sorted_from no_clauses ms (record { tried = tt; fallback = none }) h
