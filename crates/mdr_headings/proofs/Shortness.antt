-- Verdicts, one by one.
use Rattle.std.proofs.Common.{ℕ, ◌≡◌, ◌<◌, ◌+◌, refl, List, [], ◌∷◌, ◌++◌, map, take, drop, length, get_or, ap, Option, Some, None, Result, Ok, Err}
use Rattle.std.specs.Prelude.{◌||◌, not}
use Rattle.std.specs.List.{list_any}
use Rattle.std.specs.Option.{option_map}
use Rattle.std.proofs.Math.Path.{sym, ◌∙◌}
use Rattle.std.proofs.lemmas.List.{at_drop_more, map_more}
use Rattle.mdr_syntax.specs.declared.tree.Decl.{Decl, out-Decl}
use Rattle.mdr_syntax.specs.declared.tree.Decl.TheFolds.{fold_out-Decl, map-Decl}
use Rattle.mdr_syntax.specs.declared.tree.Decl.TheOpen.{Decl-F}
use Rattle.mdr_faults.specs.declared.fault.Fault.{Fault}
use Rattle.mdr_faults.specs.declared.fault.FaultKind.TheVariants.{Redefined}
use Rattle.mdr_faults.specs.Declarations.{is_same_name}
use Rattle.mdr_faults.specs.Faults.{Right, Wrong, demand, told, first}
use Rattle.mdr_headings.specs.Names.{Verdict, Spelled, as_well, all_fine, first_of, perhaps_short, inner_names, spelled_among, spelled_list, spelled_layer, spelled, good_names}
use Rattle.mdr_faults.proofs.Order.{lesser_assoc}

step : (a : Result (Unit {0}) Fault) (c cs : Verdict) → first_of (first_of a (told c)) (told cs) ≡ first_of a (told (as_well c cs))
step (Ok x) (Right y) (Right z) = refl
step (Ok x) (Right y) (Wrong g) = refl
step (Ok x) (Wrong f) (Right z) = refl
step (Ok x) (Wrong f) (Wrong g) = refl
step (Err e) (Right y) (Right z) = refl
step (Err e) (Right y) (Wrong g) = refl
step (Err e) (Wrong f) (Right z) = refl
step (Err e) (Wrong f) (Wrong g) = ap Err (lesser_assoc e (first f) (first g))

pub nothing_before : (c : Verdict) → first_of (Ok tt) (told c) ≡ told c
nothing_before (Right x) = refl
nothing_before (Wrong f) = refl

pub nothing_behind : (a : Result (Unit {0}) Fault) → first_of a (Ok tt) ≡ a
nothing_behind (Ok x) = refl
nothing_behind (Err f) = refl

-- a loop over parts that have verdicts, at one part
pub one_verdict : {X : Type 0} (f : X → Verdict) (xs : List X) (i : ℕ) (x : X) (a a1 w : Result (Unit {0}) Fault) → i < length xs → x ≡ get_or xs i x → a1 ≡ first_of a (told (f x)) → first_of a (told (all_fine (map f (drop i xs)))) ≡ w → first_of a1 (told (all_fine (map f (drop (i + 1) xs)))) ≡ w
one_verdict {X = X} f xs i x a a1 w inside is grown so_far =
    let moved : all_fine (map f (drop i xs)) ≡ as_well (f x) (all_fine (map f (drop (i + 1) xs))) = at_drop_more (λ ys. all_fine (map f ys)) xs i x inside ∙ ap (λ (y : X). as_well (f y) (all_fine (map f (drop (i + 1) xs)))) (sym is) in
    ap (λ r. first_of r (told (all_fine (map f (drop (i + 1) xs))))) grown ∙ step a (f x) (all_fine (map f (drop (i + 1) xs))) ∙ sym (ap (λ d. first_of a (told d)) moved) ∙ so_far

-- ---- declarators

mapped : (f : Decl → Spelled) (x : Decl-F Decl) (fun : Option (List Decl)) → x.fun ≡ fun → (map-Decl Decl Spelled f x).fun ≡ option_map (map f) x.fun
mapped f x None e = rw e refl
mapped f x (Some ds) e = rw e refl

pub names_are : (d : Decl) → as_well (perhaps_short (out-Decl d).place (out-Decl d).name) (inner_names (option_map (map spelled) (out-Decl d).fun)) ≡ good_names d
names_are d = ap (λ f. as_well (perhaps_short (out-Decl d).place (out-Decl d).name) (inner_names f)) (sym (mapped spelled (out-Decl d) (out-Decl d).fun refl)) ∙ sym (ap (λ (x : Spelled). x.names) (fold_out-Decl Spelled spelled_layer d))

name_is : (d : Decl) → (spelled d).name ≡ (out-Decl d).name
name_is d = ap (λ (x : Spelled). x.name) (fold_out-Decl Spelled spelled_layer d)

place_is : (d : Decl) → (spelled d).place ≡ (out-Decl d).place
place_is d = ap (λ (x : Spelled). x.place) (fold_out-Decl Spelled spelled_layer d)

declared_before : (name : Option (List ℕ)) (ds : List Decl) → list_any (λ d. is_same_name (out-Decl d).name name) ds ≡ list_any {X = Spelled} (λ b. is_same_name b.name name) (map spelled ds)
declared_before name [] = refl
declared_before name (d ∷ ds) = λ i. is_same_name (sym (name_is d) i) name || declared_before name ds i

pub among_is : (before : List Decl) (d : Decl) → spelled_among (map spelled before) (spelled d) ≡ demand (out-Decl d).place Redefined (not (list_any (λ b. is_same_name (out-Decl b).name (out-Decl d).name) before)) (spelled d).names
among_is before d = λ i. demand (place_is d i) Redefined (not ((ap (λ n. list_any {X = Spelled} (λ b. is_same_name b.name n) (map spelled before)) (name_is d) ∙ sym (declared_before (out-Decl d).name before)) i)) (spelled d).names

-- a loop over parameters, at one of them
pub one_spelled : (xs : List Decl) (i : ℕ) (x : Decl) (a a1 w : Result (Unit {0}) Fault) → i < length xs → x ≡ get_or xs i x → a1 ≡ first_of a (told (spelled_among (map spelled (take i xs)) (spelled x)))
    → first_of a (told (spelled_list (map spelled (take i xs)) (map spelled (drop i xs)))) ≡ w → first_of a1 (told (spelled_list (map spelled (take (i + 1) xs)) (map spelled (drop (i + 1) xs)))) ≡ w
unfolding spelled_list
one_spelled xs i x a a1 w inside is grown so_far =
    let among : Verdict = spelled_among (map spelled (take i xs)) (spelled x) in
    let rest : List Spelled → Verdict = λ before. spelled_list before (map spelled (drop (i + 1) xs)) in
    let one : map spelled (take (i + 1) xs) ≡ map spelled (take i xs) ++ spelled x ∷ [] = map_more spelled xs i x inside ∙ ap (λ y. map spelled (take i xs) ++ spelled y ∷ []) (sym is) in
    let moved : spelled_list (map spelled (take i xs)) (map spelled (drop i xs)) ≡ as_well among (rest (map spelled (take (i + 1) xs))) =
    at_drop_more (λ ys. spelled_list (map spelled (take i xs)) (map spelled ys)) xs i x inside
    ∙ ap (λ (y : Decl). spelled_list (map spelled (take i xs)) (map spelled (y ∷ drop (i + 1) xs))) (sym is)
    ∙ ap (λ (b : List Spelled). as_well among (rest b)) (sym one) in
    ap (λ r. first_of r (told (rest (map spelled (take (i + 1) xs))))) grown ∙ step a among (rest (map spelled (take (i + 1) xs))) ∙ sym (ap (λ d. first_of a (told d)) moved) ∙ so_far
