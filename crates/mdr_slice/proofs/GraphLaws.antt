-- Laws of the call graph.
use Rattle.std.proofs.Common.{◌≡◌, ◌↔◌, ℕ, zero, suc, ◌+◌, ◌<◌, ◌≤◌, ◌⊎◌, inl, inr, Bool, true, false, List, [], ◌∷◌, ◌++◌, map, length, get_or, Some, None, slice_get, refl, sym, ◌∙◌, ap, subst, arith, eqb}
use Rattle.std.proofs.lemmas.Bool.{both_ways, eqb-true, eq-eqb}
use Rattle.std.proofs.lemmas.List.{map-append}
use Rattle.mdr_core.specs.declared.types.Ty.{Ty, out-Ty}
use Rattle.mdr_core.specs.declared.types.Ty.TheOpen.{Ty-F}
use Rattle.mdr_core.specs.declared.types.Ty.TheVariants as type
use Rattle.mdr_core.specs.declared.types.Ty.TheVariants.{outs-Fun}
use Rattle.mdr_core.specs.declared.program.Func.{Func}
use Rattle.mdr_core.specs.declared.program.Program.{Program}
use Rattle.mdr_core.specs.Code.{CallOf, Term}
use Rattle.mdr_core.specs.Typing.{Slot, slots_of, function_type}
use Rattle.mdr_paths.specs.Paths.{is_in}
use Rattle.mdr_paths.specs.Numbers.{numbers, marked}
use Rattle.mdr_paths.specs.Marking.{AreMarks, AreNodes}
use Rattle.mdr_slice.specs.Calls.{all_calls, body_code, handlers_of, names_of}
use Rattle.mdr_slice.specs.Pointed.{called_type}
use Rattle.mdr_slice.specs.Graph.{AreRoots, IsRoot, IsRow, MayCall, MayPointTo, OneReaches, Reaches}

pub some_same : {A : Type 0} {a b : A} → Some a ≡ Some b → a ≡ b
some_same e = cc

pub nothing_there : {A : Type 0} (x : A) → None ≡ Some x → ⊥
nothing_there x e = cc

-- ---- types

pub fun_parts : (ts us : List Ty) → type.Fun ts ≡ type.Fun us → ts ≡ us
fun_parts ts us e = let q : Ty-F.Fun ts ≡ Ty-F.Fun us = sym (outs-Fun ts) ∙ ap out-Ty e ∙ outs-Fun us in cc

cons_parts : {A : Type 0} (x y : A) (xs ys : List A) → x ∷ xs ≡ y ∷ ys → (x ≡ y) × (xs ≡ ys)
cons_parts x y xs ys e = (cc, cc)

pub same_if : (r s : Ty) (ps qs : List Ty) (t : Bool) → r ≡ s → ((t ≡ true) ↔ (ps ≡ qs)) → ((t ≡ true) ↔ (type.Fun (r ∷ ps) ≡ type.Fun (s ∷ qs)))
same_if r s ps qs t e both =
    (λ h. let q = both.0 h in (λ i. type.Fun (e i ∷ q i)), λ h. both.1 (cons_parts r s ps qs (fun_parts (r ∷ ps) (s ∷ qs) h)).1)

pub differ_if : (r s : Ty) (ps qs : List Ty) (t : Bool) → t ≡ false → ((t ≡ true) ↔ (r ≡ s)) → ((t ≡ true) ↔ (type.Fun (r ∷ ps) ≡ type.Fun (s ∷ qs)))
differ_if r s ps qs t out both = (λ h. absurd (both_ways _ out h), λ h. both.1 (cons_parts r s ps qs (fun_parts (r ∷ ps) (s ∷ qs) h)).0)

pub differ_at : {A B : Type 0} (f : A → B) (xs ys : List A) (i : ℕ) (x y : A) → i < length xs → length xs ≡ length ys → x ≡ get_or xs i x → y ≡ get_or ys i y → (f x ≡ f y → ⊥) → map f xs ≡ map f ys → ⊥
differ_at f [] ys i x y inside same ex ey differ e = absurd (omega arith)
differ_at f (a ∷ xs) [] i x y inside same ex ey differ e = absurd (omega arith)
differ_at f (a ∷ xs) (b ∷ ys) zero x y inside same ex ey differ e = differ (ap f ex ∙ (cons_parts (f a) (f b) (map f xs) (map f ys) e).0 ∙ ap f (sym ey))
differ_at f (a ∷ xs) (b ∷ ys) (suc i) x y inside same ex ey differ e = differ_at f xs ys i x y (omega arith) (omega arith) ex ey differ (cons_parts (f a) (f b) (map f xs) (map f ys) e).1

-- ---- rows

-- an item is what stands at its index
pub at_index : {A : Type 0} (xs : List A) (i : ℕ) (x : A) → i < length xs → x ≡ get_or xs i x → slice_get xs i ≡ Some x
at_index [] i x inside e = absurd (omega arith)
at_index (y ∷ xs) zero x inside e = ap Some (sym e)
at_index (y ∷ xs) (suc i) x inside e = at_index xs i x (omega arith) e

pub at_mapped : {A B : Type 0} (f : A → B) (xs : List A) (i : ℕ) (x : A) → slice_get xs i ≡ Some x → slice_get (map f xs) i ≡ Some (f x)
at_mapped f [] i x e = absurd (nothing_there x e)
at_mapped f (y ∷ xs) zero x e = ap (λ z. Some (f z)) (some_same e)
at_mapped f (y ∷ xs) (suc i) x e = at_mapped f xs i x e

pub row_of : (program : Program) (counts : Bool) (f : ℕ) (func : Func) (row : List ℕ) → slice_get program.funcs f ≡ Some func
    → AreNodes (length program.funcs) (OneReaches program (slots_of func) counts (all_calls (body_code func.body))) row → IsRow program counts f row
row_of program counts f func row names are = record {
  rises = are.rises;
  exact = λ g. (λ h. let p = (are.exact g).0 h in record { func = func; names = names; inside = p.1; by = p.0 }, λ m. (are.exact g).1 (back m, m.inside));
}
  where
    back : {g : ℕ} → (m : MayCall program counts f g) → OneReaches program (slots_of func) counts (all_calls (body_code func.body)) g
    back {g} m = subst (λ (own : Func). OneReaches program (slots_of own) counts (all_calls (body_code own.body)) g) (some_same (sym m.names ∙ names)) m.by

pub pushed : {A : Type 0} (f : A → List ℕ) (rows now : List A) (row : A) → now ≡ rows ++ row ∷ [] → map f now ≡ map f rows ++ f row ∷ []
pushed f rows now row is = ap (map f) is ∙ map-append f rows (row ∷ [])

-- ---- pointers

pub points_if : (program : Program) (slots : List Slot) (e : Term) (g : ℕ) (func : Func) (t : Bool) → Some func ≡ slice_get program.funcs g → is_in numbers (names_of program) g ≡ true
    → ((t ≡ true) ↔ (called_type program slots e ≡ Some (function_type func))) → ((t ≡ true) ↔ MayPointTo program slots e g)
points_if program slots e g func t names taken both =
    (λ h. record { func = func; names = sym names; typed = both.0 h; taken = taken }, λ m. both.1 (m.typed ∙ ap (λ (f : Func). Some (function_type f)) (some_same (sym m.names ∙ sym names))))

pub points_none : (program : Program) (slots : List Slot) (e : Term) (g : ℕ) → None ≡ slice_get program.funcs g → ((false ≡ true) ↔ MayPointTo program slots e g)
points_none program slots e g none = (λ h. absurd (both_ways false refl h), λ m. absurd (nothing_there m.func (none ∙ m.names)))

-- ---- roots

pub some_inside : {A : Type 0} (xs : List A) (i : ℕ) (x : A) → slice_get xs i ≡ Some x → i < length xs
some_inside [] i x e = absurd (nothing_there x e)
some_inside (y ∷ xs) zero x e = omega arith
some_inside (y ∷ xs) (suc i) x e = omega (arith, some_inside xs i x e)

pub root_marked : (program : Program) (f : ℕ) (func : Func) → Some func ≡ slice_get program.funcs f → func.critical ≡ true → ((func.critical ≡ true) ↔ IsRoot program f)
root_marked program f func names critical = (λ h. record { func = func; names = sym names; why = inl h }, λ r. critical)

pub root_named : (program : Program) (handlers : List Bool) (f : ℕ) (func : Func) (t : Bool) → Some func ≡ slice_get program.funcs f → func.critical ≡ false
    → AreMarks (length program.funcs) (handlers_of program) handlers → t ≡ marked handlers f → ((t ≡ true) ↔ IsRoot program f)
root_named program handlers f func t names plain marks is = (λ h. record { func = func; names = sym names; why = inr ((marks.each f).0 (sym is ∙ h)).0 }, λ r. of r r.why)
  where
    of : (r : IsRoot program f) → (r.func.critical ≡ true) ⊎ (is_in numbers (handlers_of program) f ≡ true) → t ≡ true
    of r (inl h) = absurd (both_ways _ plain (ap (λ (x : Func). x.critical) (some_same (names ∙ r.names)) ∙ h))
    of r (inr h) = is ∙ (marks.each f).1 (h, some_inside program.funcs f r.func r.names)

pub root_none : (program : Program) (f : ℕ) → None ≡ slice_get program.funcs f → ((false ≡ true) ↔ IsRoot program f)
root_none program f none = (λ h. absurd (both_ways false refl h), λ r. absurd (nothing_there r.func (none ∙ r.names)))

pub roots_are : (program : Program) (roots : List ℕ) → AreNodes (length program.funcs) (IsRoot program) roots → AreRoots program roots
roots_are program roots are = record {
  rises = are.rises;
  exact = λ f. (λ h. ((are.exact f).0 h).0, λ r. (are.exact f).1 (r, some_inside program.funcs f r.func r.names));
}

-- ---- one of the calls

pub one_if : {A : Type 0} (program : Program) (slots : List Slot) (counts : Bool) (f : A → CallOf) (calls : List A) (i : ℕ) (call : A) (g : ℕ) → i < length calls → call ≡ get_or calls i call
    → Reaches program slots counts (f call) g → ((true ≡ true) ↔ OneReaches program slots counts (map f calls) g)
one_if program slots counts f calls i call g inside is leads = (λ h. record { at = i; call = f call; is = at_mapped f calls i call (at_index calls i call inside is); leads = leads }, λ o. refl)

pub none_more : {A : Type 0} (program : Program) (slots : List Slot) (counts : Bool) (f : A → CallOf) (calls : List A) (n : ℕ) (item : A) (g : ℕ) → n < length calls → item ≡ get_or calls n item
    → (Reaches program slots counts (f item) g → ⊥)
    → ((i : ℕ) (call : CallOf) → i < n → slice_get (map f calls) i ≡ Some call → Reaches program slots counts call g → ⊥)
    → (i : ℕ) (call : CallOf) → i < n + 1 → slice_get (map f calls) i ≡ Some call → Reaches program slots counts call g → ⊥
none_more program slots counts f calls n item g inside is not_here before i call low at leads = of (eqb i n) refl
  where
    of : (t : Bool) → eqb i n ≡ t → ⊥
    of true e = not_here (subst (λ (c : CallOf). Reaches program slots counts c g) (some_same (sym at ∙ ap (slice_get (map f calls)) (eqb-true i n e) ∙ at_mapped f calls n item (at_index calls n item inside is))) leads)
    of false e = before i call (omega (arith, λ (s : i ≡ n). both_ways _ e (eq-eqb i n s))) at leads

pub none_at_all : (program : Program) (slots : List Slot) (counts : Bool) (cs : List CallOf) (n g : ℕ) → length cs ≤ n
    → ((i : ℕ) (call : CallOf) → i < n → slice_get cs i ≡ Some call → Reaches program slots counts call g → ⊥) → ((false ≡ true) ↔ OneReaches program slots counts cs g)
none_at_all program slots counts cs n g all none = (λ h. absurd (both_ways false refl h), λ o. absurd (none o.at o.call (omega (arith, some_inside cs o.at o.call o.is)) o.is o.leads))
