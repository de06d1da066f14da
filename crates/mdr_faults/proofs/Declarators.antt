-- Declarators, as their parts.
use Rattle.std.proofs.Common.{ℕ, suc, ◌≡◌, ◌<◌, ◌+◌, List, [], ◌∷◌, ◌++◌, map, take, drop, length, get_or, refl, ap, Option, Some, None, Result}
use Rattle.std.specs.Prelude.{◌==◌, not}
use Rattle.std.proofs.lemmas.List.{map_more}
use Rattle.mdr_faults.specs.declared.fault.FaultKind.TheVariants.{Limit}
use Rattle.std.specs.Option.{option_map}
use Rattle.std.proofs.Math.Path.{sym, ◌∙◌}
use Rattle.mdr_core.specs.declared.types.Ty.{Ty}
use Rattle.mdr_syntax.specs.declared.tree.Decl.{Decl, out-Decl}
use Rattle.mdr_syntax.specs.declared.tree.Decl.TheFolds.{fold_out-Decl, map-Decl}
use Rattle.mdr_syntax.specs.declared.tree.Decl.TheOpen.{Decl-F}
use Rattle.mdr_faults.specs.declared.fault.Fault.{Fault}
use Rattle.mdr_faults.specs.declared.scope.Scope.{Scope}
use Rattle.mdr_faults.specs.Faults.{Checked, told, demand, followed, extended, next}
use Rattle.mdr_faults.specs.Declarations.{Declarator, declarator, declarator_layer, declarator_by, type_named, parameter_among, parameter_list}
use Rattle.mdr_faults.proofs.Gathered.{one_more}

mapped_fun : (f : Decl → Declarator) (x : Decl-F Decl) (fun : Option (List Decl)) → x.fun ≡ fun → (map-Decl Decl Declarator f x).fun ≡ option_map (map f) x.fun
mapped_fun f x None e = rw e refl
mapped_fun f x (Some ds) e = rw e refl

pub whole_is : (scope : Scope) (d : Decl) → declarator_by (type_named scope (out-Decl d).base (out-Decl d).stars) (out-Decl d).place (option_map (map (declarator scope)) (out-Decl d).fun) ≡ (declarator scope d).whole
whole_is scope d = ap (declarator_by (type_named scope (out-Decl d).base (out-Decl d).stars) (out-Decl d).place) (sym (mapped_fun (declarator scope) (out-Decl d) (out-Decl d).fun refl)) ∙ sym (ap (λ (x : Declarator). x.whole) (fold_out-Decl Declarator (declarator_layer scope) d))

pub place_is : (scope : Scope) (d : Decl) → (declarator scope d).place ≡ (out-Decl d).place
place_is scope d = ap (λ (x : Declarator). x.place) (fold_out-Decl Declarator (declarator_layer scope) d)

counted : {A B : Type 0} (f : A → B) (xs : List A) → length (map f xs) ≡ length xs
counted f [] = refl
counted f (x ∷ xs) = ap suc (counted f xs)

pub among_is : (scope : Scope) (before : List Decl) (d : Decl) → parameter_among (map (declarator scope) before) (declarator scope d) ≡ demand (out-Decl d).place Limit (not (length before == 8)) (declarator scope d).parameter
among_is scope before d = λ i. demand (place_is scope d i) Limit (not (counted (declarator scope) before i == 8)) (declarator scope d).parameter

-- a loop over parameters, at one of them
pub one_parameter : (scope : Scope) (xs : List Decl) (i : ℕ) (x : Decl) (a a1 w : Result (List Ty) Fault) → i < length xs → x ≡ get_or xs i x → a1 ≡ extended a (told (parameter_among (map (declarator scope) (take i xs)) (declarator scope x))) → followed a (told (parameter_list (map (declarator scope) (take i xs)) (map (declarator scope) (drop i xs)))) ≡ w → followed a1 (told (parameter_list (map (declarator scope) (take (i + 1) xs)) (map (declarator scope) (drop (i + 1) xs)))) ≡ w
unfolding parameter_list
one_parameter scope xs i x a a1 w inside is grown so_far =
    let among : Checked Ty = parameter_among (map (declarator scope) (take i xs)) (declarator scope x) in
    let one : map (declarator scope) (take (i + 1) xs) ≡ map (declarator scope) (take i xs) ++ declarator scope x ∷ [] = map_more (declarator scope) xs i x inside ∙ ap (λ y. map (declarator scope) (take i xs) ++ declarator scope y ∷ []) (sym is) in
    one_more (λ ys. parameter_list (map (declarator scope) (take i xs)) (map (declarator scope) ys)) among (parameter_list (map (declarator scope) (take (i + 1) xs)) (map (declarator scope) (drop (i + 1) xs))) xs i x a a1 w inside is (ap (λ b. next among (parameter_list b (map (declarator scope) (drop (i + 1) xs)))) (sym one)) grown so_far
