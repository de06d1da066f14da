-- Laws of the keys that access forms have.
use Rattle.std.proofs.Common.{◌≡◌, ◌↔◌, ◌⊎◌, inl, inr, ℕ, zero, suc, ◌+◌, ◌<◌, ◌≤◌, Bool, true, false, List, [], ◌∷◌, map, length, get_or, Some, None, slice_get, refl, sym, ◌∙◌, ap, subst, arith, eqb}
use Rattle.std.specs.List.{list_any}
use Rattle.std.specs.Option.{option_map}
use Rattle.std.proofs.lemmas.Bool.{both_ways, eqb-true, eq-eqb, or_cases, or_left, or_right}
use Rattle.mdr_core.specs.declared.types.Ty.{Ty}
use Rattle.mdr_core.specs.declared.program.Program.{Program}
use Rattle.mdr_core.specs.declared.plan.Key.{Key}
use Rattle.mdr_core.specs.declared.plan.Key.TheVariants as key
use Rattle.mdr_core.specs.Layout.{Leaf, cells_at, key_at, key_by}
use Rattle.mdr_core.specs.Sound.{IsSound}
use Rattle.mdr_slice.proofs.GraphLaws.{at_index, at_mapped, nothing_there, some_inside, some_same}
use Rattle.mdr_access.specs.KeyOrder.{same_key, same_is, same_itself}
use Rattle.mdr_access.specs.Exposed.{IsExposed, IsOneOf, exposed_fields}
use Rattle.mdr_access.specs.Forms.{Form, FormHas, IsCellKey}
use Rattle.mdr_access.specs.Owned.{HasCell, HasOne, Owns}

-- ---- keys

pub listed : (xs : List Key) (k : Key) (i : ℕ) → slice_get xs i ≡ Some k → list_any (same_key k) xs ≡ true
listed [] k i e = absurd (nothing_there k e)
listed (x ∷ xs) k zero e = or_left _ _ (ap (same_key k) (some_same e) ∙ same_itself k)
listed (x ∷ xs) k (suc i) e = or_right _ _ (listed xs k i e)

found : (xs : List Key) (k : Key) → list_any (same_key k) xs ≡ true → IsOneOf xs k
found [] k h = absurd (both_ways false refl h)
found (x ∷ xs) k h = of (or_cases _ _ h) (found xs k)
  where
    of : (same_key k x ≡ true) ⊎ (list_any (same_key k) xs ≡ true) → (list_any (same_key k) xs ≡ true → IsOneOf xs k) → IsOneOf (x ∷ xs) k
    of (inl e) later = record { at = 0; is = ap Some (sym (same_is k x e)) }
    of (inr e) later = let one = later e in record { at = suc one.at; is = one.is }

-- a list has a key exactly where the test says so
pub one_of : (xs : List Key) (k : Key) (t : Bool) → t ≡ list_any (same_key k) xs → ((t ≡ true) ↔ IsOneOf xs k)
one_of xs k t is = (λ h. found xs k (sym is ∙ h), λ one. is ∙ listed xs k one.at one.is)

-- ---- cells

mapped_inside : {A B : Type 0} (f : A → B) (xs : List A) (i : ℕ) (y : B) → option_map f (slice_get xs i) ≡ Some y → i < length xs
mapped_inside f [] i y e = absurd (nothing_there y e)
mapped_inside f (x ∷ xs) zero y e = omega arith
mapped_inside f (x ∷ xs) (suc i) y e = omega (arith, mapped_inside f xs i y e)

cell_inside : (program : Program) (number cell : ℕ) (k : Key) → key_at program None number cell ≡ Some k → cell < length (cells_at program number)
unfolding key_at
cell_inside program number cell k e = mapped_inside (λ (l : Leaf). key_by l.home None number) (cells_at program number) cell k e

pub cell_found : (program : Program) (number cell : ℕ) (held k : Key) → key_at program None number cell ≡ Some held → held ≡ k → ((true ≡ true) ↔ HasCell program number k)
cell_found program number cell held k is same = (λ h. record { cell = cell; is = is ∙ ap Some same }, λ o. refl)

pub cell_differs : (program : Program) (number cell : ℕ) (held k : Key) → key_at program None number cell ≡ Some held → (held ≡ k → ⊥) → key_at program None number cell ≡ Some k → ⊥
cell_differs program number cell held k is differ e = differ (some_same (sym is ∙ e))

pub no_cell : (program : Program) (number n : ℕ) (k : Key) → length (cells_at program number) ≤ n → ((c : ℕ) → c < n → key_at program None number c ≡ Some k → ⊥) → ((false ≡ true) ↔ HasCell program number k)
no_cell program number n k all none = (λ h. absurd (both_ways false refl h), λ o. absurd (none o.cell (omega (arith, cell_inside program number o.cell k o.is)) o.is))

pub cell_key : (program : Program) (ty : Ty) (number : ℕ) (k : Key) (t : Bool) → IsSound program → slice_get program.types number ≡ Some ty → ((t ≡ true) ↔ HasCell program number k) → ((t ≡ true) ↔ IsCellKey program ty k)
cell_key program ty number k t sound names both = (
  λ h. let c = both.0 h in record { number = number; names = names; cell = c.cell; is = c.is },
  λ c. both.1 (record { cell = c.cell; is = ap (λ n. key_at program None n c.cell) (sym (sound.table.once c.number number ty c.names names)) ∙ c.is }),
)

pub no_cell_key : (program : Program) (ty : Ty) (k : Key) → length program.types ≤ 4294967296 → ((i : ℕ) → i < 4294967296 → slice_get program.types i ≡ Some ty → ⊥) → ((false ≡ true) ↔ IsCellKey program ty k)
no_cell_key program ty k few none = (λ h. absurd (both_ways false refl h), λ c. absurd (none c.number (omega (arith, some_inside program.types c.number ty c.names)) c.names))

-- ---- forms

pub one_has : {A : Type 0} (program : Program) (f : A → Form) (forms : List A) (i : ℕ) (form : A) (k : Key) → i < length forms → form ≡ get_or forms i form → FormHas program (f form) k → ((true ≡ true) ↔ HasOne program (map f forms) k)
one_has program f forms i form k inside is has = (λ h. record { at = i; form = f form; is = at_mapped f forms i form (at_index forms i form inside is); has = has }, λ o. refl)

pub none_more : {A : Type 0} (program : Program) (f : A → Form) (forms : List A) (n : ℕ) (item : A) (k : Key) → n < length forms → item ≡ get_or forms n item → (FormHas program (f item) k → ⊥)
    → ((i : ℕ) (form : Form) → i < n → slice_get (map f forms) i ≡ Some form → FormHas program form k → ⊥)
    → (i : ℕ) (form : Form) → i < n + 1 → slice_get (map f forms) i ≡ Some form → FormHas program form k → ⊥
none_more program f forms n item k inside is not_here before i form low at has = of (eqb i n) refl
  where
    of : (t : Bool) → eqb i n ≡ t → ⊥
    of true e = not_here (subst (λ (x : Form). FormHas program x k) (some_same (sym at ∙ ap (slice_get (map f forms)) (eqb-true i n e) ∙ at_mapped f forms n item (at_index forms n item inside is))) has)
    of false e = before i form (omega (arith, λ (s : i ≡ n). both_ways _ e (eq-eqb i n s))) at has

pub none_at_all : (program : Program) (forms : List Form) (n : ℕ) (k : Key) → length forms ≤ n
    → ((i : ℕ) (form : Form) → i < n → slice_get forms i ≡ Some form → FormHas program form k → ⊥) → ((false ≡ true) ↔ HasOne program forms k)
none_at_all program forms n k all none = (λ h. absurd (both_ways false refl h), λ o. absurd (none o.at o.form (omega (arith, some_inside forms o.at o.form o.is)) o.is o.has))

pub owns_if : (program : Program) (forms : List Form) (keys : List Key) (at : ℕ) (k : Key) (t : Bool) → slice_get keys at ≡ Some k → ((t ≡ true) ↔ HasOne program forms k) → ((t ≡ true) ↔ Owns program forms keys at)
owns_if program forms keys at k t is both = (λ h. record { key = k; is = is; one = both.0 h }, λ o. both.1 (subst (HasOne program forms) (some_same (sym o.is ∙ is)) o.one))

pub exposed_field : (program : Program) (xs : List Key) (k : Key) (s f : ℕ) (t : Bool) → k ≡ key.Field s f → xs ≡ exposed_fields program → t ≡ list_any (same_key k) xs → ((t ≡ true) ↔ IsExposed program k)
exposed_field program xs k s f t e all is =
    subst (λ (x : Key). (t ≡ true) ↔ IsExposed program x) (sym e) (one_of (exposed_fields program) (key.Field s f) t (is ∙ ap (λ (x : Key). list_any (same_key x) xs) e ∙ ap (list_any (same_key (key.Field s f))) all))
