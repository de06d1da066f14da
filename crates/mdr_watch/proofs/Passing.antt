-- Arguments with the annotations of their parameters.
use Rattle.std.proofs.Common.{◌≡◌, ℕ, ◌+◌, ◌<◌, ◌≤◌, List, [], ◌∷◌, ◌++◌, length, drop, map, get_or, refl, sym, ◌∙◌, ap}
use Rattle.std.proofs.lemmas.List.{at_drop_all, at_drop_more}
use Rattle.mdr_core.specs.declared.program.Param.{Param}
use Rattle.mdr_core.specs.declared.value.Value.{Value}
use Rattle.mdr_events.specs.Values.{wires_of}
use Rattle.mdr_extents.specs.Reaching as reaching
use Rattle.mdr_reach.specs.declared.roots.Root.{Root}
use Rattle.mdr_reach.specs.Answers.{root_of}
use Rattle.mdr_watched.specs.Driver.{param_roots}

-- those that are left come behind those that are there
pub record Adding (first roots : List Root) (params : List Param) (args : List Value) (i : ℕ) : Type 0 where
  pub so_far : map root_of roots ++ param_roots (drop i params) (wires_of (drop i args)) ≡ map root_of first ++ param_roots params (wires_of args)

one_behind : (roots : List Root) (r : Root) (rest : List reaching.Root) → map root_of (roots ++ r ∷ []) ++ rest ≡ map root_of roots ++ (root_of r ∷ rest)
one_behind [] r rest = refl
one_behind (x ∷ xs) r rest = ap (λ ys. root_of x ∷ ys) (one_behind xs r rest)

no_more : (xs : List reaching.Root) → xs ++ [] ≡ xs
no_more [] = refl
no_more (x ∷ xs) = ap (λ ys. x ∷ ys) (no_more xs)

none_passed : (ps : List Param) → param_roots ps [] ≡ []
none_passed [] = refl
none_passed (p ∷ ps) = refl

module _ (first : List Root) (params : List Param) (args : List Value) where
  pub adding_more : (i : ℕ) (roots : List Root) (p : Param) (v : Value) → i < length params → i < length args → Adding first roots params args i
      → Adding first (roots ++ record { ann = (get_or params i p).ann; value = get_or args i v } ∷ []) params args (i + 1)
  adding_more i roots p v less few a = record {
    so_far =
        one_behind roots (record { ann = (get_or params i p).ann; value = get_or args i v }) (param_roots (drop (i + 1) params) (wires_of (drop (i + 1) args)))
        ∙ sym (at_drop_more (λ ps. map root_of roots ++ param_roots ps (wires_of (get_or args i v ∷ drop (i + 1) args))) params i p less)
        ∙ sym (at_drop_more (λ vs. map root_of roots ++ param_roots (drop i params) (wires_of vs)) args i v few)
        ∙ a.so_far;
  }

  pub adding_end : (i : ℕ) (roots : List Root) → length params ≤ i → Adding first roots params args i → map root_of roots ≡ map root_of first ++ param_roots params (wires_of args)
  adding_end i roots past a = sym (no_more (map root_of roots)) ∙ sym (at_drop_all (λ ps. map root_of roots ++ param_roots ps (wires_of (drop i args))) params i past) ∙ a.so_far

  pub adding_out : (i : ℕ) (roots : List Root) → length args ≤ i → Adding first roots params args i → map root_of roots ≡ map root_of first ++ param_roots params (wires_of args)
  adding_out i roots past a =
      sym (no_more (map root_of roots))
      ∙ ap (λ rs. map root_of roots ++ rs) (sym (none_passed (drop i params)))
      ∙ sym (at_drop_all (λ vs. map root_of roots ++ param_roots (drop i params) (wires_of vs)) args i past)
      ∙ a.so_far

  pub adding_begins : Adding first first params args 0
  adding_begins = record { so_far = refl }
