-- The type table, piece by piece.
use Rattle.std.proofs.Common.{ℕ, suc, ◌≡◌, ◌+◌, ◌<◌, ◌≤◌, List, [], ◌∷◌, ◌++◌, Bool, true, drop, length, ap, append_assoc, append-nil, arith}
use Rattle.std.proofs.Math.Path.{sym, ◌∙◌}
use Rattle.std.proofs.lemmas.List.{at_drop_more, at_drop_all}
use Rattle.mdr_core.specs.declared.types.Ty.{Ty}
use Rattle.mdr_core.specs.declared.types.Ty.TheVariants as type
use Rattle.mdr_core.specs.TypeText.{is_before}
use Rattle.mdr_check.specs.Tables.{struct_types}

pub no_struct : (first : List Ty) → first ≡ first ++ struct_types 0
unfolding struct_types
no_struct first = sym (append-nil first)

pub one_struct : (first all : List Ty) (s : ℕ) → all ≡ first ++ struct_types s → all ++ type.Struct s ∷ [] ≡ first ++ struct_types (s + 1)
unfolding struct_types
one_struct first all s e = ap (λ (xs : List Ty). xs ++ type.Struct s ∷ []) e ∙ append_assoc first (struct_types s) (type.Struct s ∷ []) ∙ (let step : suc s ≡ s + 1 = omega arith in ap (λ n. first ++ struct_types n) step)

-- a text that ends stands before a longer one with the same bytes
pub front_ends : (xs ys : List ℕ) (i : ℕ) (w : Bool) → length xs ≤ i → i < length ys → is_before (drop i xs) (drop i ys) ≡ w → true ≡ w
front_ends xs ys i w ends inside so_far = sym (at_drop_all (λ zs. is_before zs (drop i ys)) xs i ends ∙ at_drop_more (is_before []) ys i 0 inside) ∙ so_far
