-- Enumerators, one by one.
use Rattle.std.proofs.Common.{ℕ, ◌≡◌, ◌<◌, ◌+◌, List, ◌∷◌, drop, length, get_or, ap, Result}
use Rattle.std.proofs.Math.Path.{sym, ◌∙◌}
use Rattle.std.proofs.lemmas.List.{at_drop_more}
use Rattle.mdr_syntax.specs.declared.tree.Enumerator.{Enumerator}
use Rattle.mdr_faults.specs.declared.fault.Fault.{Fault}
use Rattle.mdr_faults.specs.declared.scope.Constant.{Constant}
use Rattle.mdr_faults.specs.declared.scope.Scope.{Scope}
use Rattle.mdr_faults.specs.Faults.{told, followed, extended, next}
use Rattle.mdr_faults.specs.Enums.{new_name, value_behind, behind_enumerator, enumerators, behind_enumerators}
use Rattle.mdr_faults.proofs.Gathered.{one_more}

pub one_enumerator : (scope scope1 : Scope) (before value : Result Constant Fault) (xs : List Enumerator) (i : ℕ) (x : Enumerator) (a a1 w : Result (List Constant) Fault) → i < length xs → x ≡ get_or xs i x → scope1 ≡ behind_enumerator scope before x → value ≡ told (value_behind scope before x) → a1 ≡ extended a (told (new_name scope x.place x.name (value_behind scope before x))) → followed a (told (enumerators scope before (drop i xs))) ≡ w → followed a1 (told (enumerators scope1 value (drop (i + 1) xs))) ≡ w
unfolding enumerators
one_enumerator scope scope1 before value xs i x a a1 w inside is e d grown so_far =
    one_more (enumerators scope before) (new_name scope x.place x.name (value_behind scope before x)) (enumerators scope1 value (drop (i + 1) xs)) xs i x a a1 w inside is (λ j. next (new_name scope x.place x.name (value_behind scope before x)) (enumerators (sym e j) (sym d j) (drop (i + 1) xs))) grown so_far

pub one_behind_more : (scope scope1 g : Scope) (before value : Result Constant Fault) (xs : List Enumerator) (i : ℕ) (x : Enumerator) → i < length xs → x ≡ get_or xs i x → scope1 ≡ behind_enumerator scope before x → value ≡ told (value_behind scope before x) → behind_enumerators scope before (drop i xs) ≡ g → behind_enumerators scope1 value (drop (i + 1) xs) ≡ g
unfolding behind_enumerators
one_behind_more scope scope1 g before value xs i x inside is e d so_far =
    (λ j. behind_enumerators (e j) (d j) (drop (i + 1) xs)) ∙ ap (λ y. behind_enumerators scope before (y ∷ drop (i + 1) xs)) is ∙ sym (at_drop_more (behind_enumerators scope before) xs i x inside) ∙ so_far
