-- Laws of the list of all keys, and of lists that are picked from it.
use Rattle.std.proofs.Common.{◌≡◌, ◌⊎◌, inl, inr, ℕ, zero, suc, ◌+◌, ◌<◌, ◌≤◌, Bool, true, false, List, [], ◌∷◌, ◌++◌, length, Option, Some, None, slice_get, refl, sym, ◌∙◌, ap, subst, arith}
use Rattle.std.proofs.lemmas.Bool.{both_ways, or_cases, or_left, or_right}
use Rattle.mdr_core.specs.declared.types.Ty.{Ty}
use Rattle.mdr_core.specs.declared.program.Field.{Field}
use Rattle.mdr_core.specs.declared.program.GlobalDef.{GlobalDef}
use Rattle.mdr_core.specs.declared.program.StructDef.{StructDef}
use Rattle.mdr_core.specs.declared.program.Program.{Program}
use Rattle.mdr_core.specs.declared.plan.Key.{Key}
use Rattle.mdr_core.specs.declared.plan.Key.TheVariants as key
use Rattle.std.specs.Option.{option_map}
use Rattle.mdr_core.specs.Layout.{chosen, fields_or}
use Rattle.mdr_core.specs.Suited.{is_key, is_no_lock, global_type, field_type}
use Rattle.mdr_paths.specs.Numbers.{marked}
use Rattle.mdr_paths.specs.Paths.{is_in, Rises}
use Rattle.mdr_paths.proofs.NodeLists.{none_in, is_in-head, is_in-cases, in_both}
use Rattle.mdr_slice.proofs.GraphLaws.{nothing_there, some_same}
use Rattle.mdr_access.specs.KeyOrder.{keys, IsBefore}
use Rattle.mdr_access.specs.AllKeys.{kept, global_keys, field_keys, struct_keys, element_keys, all_keys, picked}

pub record IsAt (all : List Key) (k : Key) : Type 0 where
  pub at : ℕ
  pub is : slice_get all at ≡ Some k

-- ---- joined lists

pub rises_both : (xs ys : List Key) → Rises keys xs → Rises keys ys → ((a b : Key) → is_in keys xs a ≡ true → is_in keys ys b ≡ true → IsBefore a b) → Rises keys (xs ++ ys)
rises_both [] ys r s h = s
rises_both (x ∷ xs) ys r s h =
    (λ d e. of d (or_cases _ _ (sym (in_both keys xs ys d) ∙ e)), rises_both xs ys r.1 s (λ a b i j. h a b (tail a i) j))
  where
    tail : (a : Key) → is_in keys xs a ≡ true → is_in keys (x ∷ xs) a ≡ true
    tail a i = in_both keys (x ∷ []) xs a ∙ or_right _ _ i

    of : (d : Key) → (is_in keys xs d ≡ true) ⊎ (is_in keys ys d ≡ true) → IsBefore x d
    of d (inl i) = r.0 d i
    of d (inr j) = h x d (is_in-head keys x xs) j

-- ---- one key

kept_in : (program : Program) (k d : Key) → is_in keys (kept program k) d ≡ true → (d ≡ k) × (is_key program k ≡ true)
kept_in program k d h = of (is_key program k) refl h
  where
    of : (t : Bool) → is_key program k ≡ t → is_in keys (chosen t (k ∷ []) []) d ≡ true → (d ≡ k) × (is_key program k ≡ true)
    of false e j = absurd (none_in keys d j)
    of true e j = (here (is_in-cases keys k [] d j), e)
      where
        here : (d ≡ k) ⊎ (is_in keys [] d ≡ true) → d ≡ k
        here (inl s) = s
        here (inr n) = absurd (none_in keys d n)

in_kept : (program : Program) (k : Key) → is_key program k ≡ true → is_in keys (kept program k) k ≡ true
in_kept program k e = ap (λ t. is_in keys (chosen t (k ∷ []) []) k) e ∙ is_in-head keys k []

rises_kept : (program : Program) (k : Key) → Rises keys (kept program k)
rises_kept program k = of (is_key program k)
  where
    of : (t : Bool) → Rises keys (chosen t (k ∷ []) [])
    of true = (λ d h. absurd (none_in keys d h), tt)
    of false = tt

-- ---- globals

pub record IsGlobalFrom (program : Program) (g : ℕ) (d : Key) : Type 0 where
  pub number : ℕ
  pub is : d ≡ key.Global number
  pub from : g ≤ number
  pub kept : is_key program d ≡ true

global_of : (program : Program) (g : ℕ) (ds : List GlobalDef) (d : Key) → is_in keys (global_keys program g ds) d ≡ true → IsGlobalFrom program g d
unfolding global_keys
global_of program g [] d h = absurd (none_in keys d h)
global_of program g (x ∷ ds) d h = of (or_cases _ _ (sym (in_both keys (kept program (key.Global g)) (global_keys program (g + 1) ds) d) ∙ h)) (global_of program (g + 1) ds d)
  where
    of : (is_in keys (kept program (key.Global g)) d ≡ true) ⊎ (is_in keys (global_keys program (g + 1) ds) d ≡ true)
        → (is_in keys (global_keys program (g + 1) ds) d ≡ true → IsGlobalFrom program (g + 1) d) → IsGlobalFrom program g d
    of (inl i) later = let p = kept_in program (key.Global g) d i in record { number = g; is = p.0; from = omega arith; kept = ap (is_key program) p.0 ∙ p.1 }
    of (inr i) later = let o = later i in record { number = o.number; is = o.is; from = omega (arith, o.from); kept = o.kept }

of_global : (program : Program) (g : ℕ) (ds : List GlobalDef) (i : ℕ) → i < length ds → is_key program (key.Global (g + i)) ≡ true → is_in keys (global_keys program g ds) (key.Global (g + i)) ≡ true
unfolding global_keys
of_global program g [] i inside e = absurd (omega arith)
of_global program g (x ∷ ds) zero inside e =
    let same : g + zero ≡ g = omega arith in
    in_both keys (kept program (key.Global g)) (global_keys program (g + 1) ds) (key.Global (g + zero))
    ∙ or_left _ _ (ap (λ n. is_in keys (kept program (key.Global g)) (key.Global n)) same ∙ in_kept program (key.Global g) (ap (λ n. is_key program (key.Global n)) (sym same) ∙ e))
of_global program g (x ∷ ds) (suc i) inside e =
    let same : g + suc i ≡ (g + 1) + i = omega arith in
    in_both keys (kept program (key.Global g)) (global_keys program (g + 1) ds) (key.Global (g + suc i))
    ∙ or_right _ _ (ap (λ n. is_in keys (global_keys program (g + 1) ds) (key.Global n)) same ∙ of_global program (g + 1) ds i (omega arith) (ap (λ n. is_key program (key.Global n)) (sym same) ∙ e))

rises_globals : (program : Program) (g : ℕ) (ds : List GlobalDef) → Rises keys (global_keys program g ds)
unfolding global_keys
rises_globals program g [] = tt
rises_globals program g (x ∷ ds) = rises_both (kept program (key.Global g)) (global_keys program (g + 1) ds) (rises_kept program (key.Global g)) (rises_globals program (g + 1) ds) (λ a b i j. before a b (kept_in program (key.Global g) a i).0 (global_of program (g + 1) ds b j))
  where
    before : (a b : Key) → a ≡ key.Global g → IsGlobalFrom program (g + 1) b → IsBefore a b
    before a b e o = subst (λ x. IsBefore x b) (sym e) (subst (λ x. IsBefore (key.Global g) x) (sym o.is) (omega (arith, o.from)))

-- ---- fields of one struct

pub record IsFieldFrom (program : Program) (s f : ℕ) (d : Key) : Type 0 where
  pub number : ℕ
  pub is : d ≡ key.Field s number
  pub from : f ≤ number
  pub kept : is_key program d ≡ true

field_of : (program : Program) (s f : ℕ) (xs : List Field) (d : Key) → is_in keys (field_keys program s f xs) d ≡ true → IsFieldFrom program s f d
unfolding field_keys
field_of program s f [] d h = absurd (none_in keys d h)
field_of program s f (x ∷ xs) d h = of (or_cases _ _ (sym (in_both keys (kept program (key.Field s f)) (field_keys program s (f + 1) xs) d) ∙ h)) (field_of program s (f + 1) xs d)
  where
    of : (is_in keys (kept program (key.Field s f)) d ≡ true) ⊎ (is_in keys (field_keys program s (f + 1) xs) d ≡ true)
        → (is_in keys (field_keys program s (f + 1) xs) d ≡ true → IsFieldFrom program s (f + 1) d) → IsFieldFrom program s f d
    of (inl i) later = let p = kept_in program (key.Field s f) d i in record { number = f; is = p.0; from = omega arith; kept = ap (is_key program) p.0 ∙ p.1 }
    of (inr i) later = let o = later i in record { number = o.number; is = o.is; from = omega (arith, o.from); kept = o.kept }

of_field : (program : Program) (s f : ℕ) (xs : List Field) (i : ℕ) → i < length xs → is_key program (key.Field s (f + i)) ≡ true → is_in keys (field_keys program s f xs) (key.Field s (f + i)) ≡ true
unfolding field_keys
of_field program s f [] i inside e = absurd (omega arith)
of_field program s f (x ∷ xs) zero inside e =
    let same : f + zero ≡ f = omega arith in
    in_both keys (kept program (key.Field s f)) (field_keys program s (f + 1) xs) (key.Field s (f + zero))
    ∙ or_left _ _ (ap (λ n. is_in keys (kept program (key.Field s f)) (key.Field s n)) same ∙ in_kept program (key.Field s f) (ap (λ n. is_key program (key.Field s n)) (sym same) ∙ e))
of_field program s f (x ∷ xs) (suc i) inside e =
    let same : f + suc i ≡ (f + 1) + i = omega arith in
    in_both keys (kept program (key.Field s f)) (field_keys program s (f + 1) xs) (key.Field s (f + suc i))
    ∙ or_right _ _ (ap (λ n. is_in keys (field_keys program s (f + 1) xs) (key.Field s n)) same ∙ of_field program s (f + 1) xs i (omega arith) (ap (λ n. is_key program (key.Field s n)) (sym same) ∙ e))

rises_fields : (program : Program) (s f : ℕ) (xs : List Field) → Rises keys (field_keys program s f xs)
unfolding field_keys
rises_fields program s f [] = tt
rises_fields program s f (x ∷ xs) = rises_both (kept program (key.Field s f)) (field_keys program s (f + 1) xs) (rises_kept program (key.Field s f)) (rises_fields program s (f + 1) xs) (λ a b i j. before a b (kept_in program (key.Field s f) a i).0 (field_of program s (f + 1) xs b j))
  where
    before : (a b : Key) → a ≡ key.Field s f → IsFieldFrom program s (f + 1) b → IsBefore a b
    before a b e o = subst (λ x. IsBefore x b) (sym e) (subst (λ x. IsBefore (key.Field s f) x) (sym o.is) (inr (refl, omega (arith, o.from))))

-- ---- fields of all structs

pub record IsStructFrom (program : Program) (s : ℕ) (d : Key) : Type 0 where
  pub struct : ℕ
  pub field : ℕ
  pub is : d ≡ key.Field struct field
  pub from : s ≤ struct
  pub kept : is_key program d ≡ true

struct_of_key : (program : Program) (s : ℕ) (ds : List StructDef) (d : Key) → is_in keys (struct_keys program s ds) d ≡ true → IsStructFrom program s d
unfolding struct_keys
struct_of_key program s [] d h = absurd (none_in keys d h)
struct_of_key program s (x ∷ ds) d h = of (or_cases _ _ (sym (in_both keys (field_keys program s 0 x.fields) (struct_keys program (s + 1) ds) d) ∙ h)) (struct_of_key program (s + 1) ds d)
  where
    of : (is_in keys (field_keys program s 0 x.fields) d ≡ true) ⊎ (is_in keys (struct_keys program (s + 1) ds) d ≡ true)
        → (is_in keys (struct_keys program (s + 1) ds) d ≡ true → IsStructFrom program (s + 1) d) → IsStructFrom program s d
    of (inl i) later = let o = field_of program s 0 x.fields d i in record { struct = s; field = o.number; is = o.is; from = omega arith; kept = o.kept }
    of (inr i) later = let o = later i in record { struct = o.struct; field = o.field; is = o.is; from = omega (arith, o.from); kept = o.kept }

of_struct : (program : Program) (s : ℕ) (ds : List StructDef) (i f : ℕ) (def : StructDef) → slice_get ds i ≡ Some def → f < length def.fields → is_key program (key.Field (s + i) f) ≡ true
    → is_in keys (struct_keys program s ds) (key.Field (s + i) f) ≡ true
unfolding struct_keys
of_struct program s [] i f def there inside e = absurd (nothing_there def there)
of_struct program s (x ∷ ds) zero f def there inside e =
    let same : s + zero ≡ s = omega arith in
    let start : 0 + f ≡ f = omega arith in
    let same_def : x ≡ def = some_same there in
    let many : f < length x.fields = omega (arith, inside, ap (λ (d : StructDef). length d.fields) same_def) in
    let k : is_key program (key.Field s (0 + f)) ≡ true = ap (λ n. is_key program (key.Field s n)) start ∙ ap (λ n. is_key program (key.Field n f)) (sym same) ∙ e in
    in_both keys (field_keys program s 0 x.fields) (struct_keys program (s + 1) ds) (key.Field (s + zero) f)
    ∙ or_left _ _ (ap (λ n. is_in keys (field_keys program s 0 x.fields) (key.Field n f)) same ∙ ap (λ n. is_in keys (field_keys program s 0 x.fields) (key.Field s n)) (sym start) ∙ of_field program s 0 x.fields f many k)
of_struct program s (x ∷ ds) (suc i) f def there inside e =
    let same : s + suc i ≡ (s + 1) + i = omega arith in
    in_both keys (field_keys program s 0 x.fields) (struct_keys program (s + 1) ds) (key.Field (s + suc i) f)
    ∙ or_right _ _ (ap (λ n. is_in keys (struct_keys program (s + 1) ds) (key.Field n f)) same ∙ of_struct program (s + 1) ds i f def there inside (ap (λ n. is_key program (key.Field n f)) (sym same) ∙ e))

rises_structs : (program : Program) (s : ℕ) (ds : List StructDef) → Rises keys (struct_keys program s ds)
unfolding struct_keys
rises_structs program s [] = tt
rises_structs program s (x ∷ ds) = rises_both (field_keys program s 0 x.fields) (struct_keys program (s + 1) ds) (rises_fields program s 0 x.fields) (rises_structs program (s + 1) ds) (λ a b i j. before a b (field_of program s 0 x.fields a i) (struct_of_key program (s + 1) ds b j))
  where
    before : (a b : Key) → IsFieldFrom program s 0 a → IsStructFrom program (s + 1) b → IsBefore a b
    before a b o p = subst (λ x. IsBefore x b) (sym o.is) (subst (λ x. IsBefore (key.Field s o.number) x) (sym p.is) (inl (omega (arith, p.from))))

-- ---- elements

pub record IsElementFrom (program : Program) (t : ℕ) (d : Key) : Type 0 where
  pub number : ℕ
  pub is : d ≡ key.Elem number
  pub from : t ≤ number
  pub kept : is_key program d ≡ true

element_of : (program : Program) (t : ℕ) (tys : List Ty) (d : Key) → is_in keys (element_keys program t tys) d ≡ true → IsElementFrom program t d
unfolding element_keys
element_of program t [] d h = absurd (none_in keys d h)
element_of program t (x ∷ tys) d h = of (or_cases _ _ (sym (in_both keys (kept program (key.Elem t)) (element_keys program (t + 1) tys) d) ∙ h)) (element_of program (t + 1) tys d)
  where
    of : (is_in keys (kept program (key.Elem t)) d ≡ true) ⊎ (is_in keys (element_keys program (t + 1) tys) d ≡ true)
        → (is_in keys (element_keys program (t + 1) tys) d ≡ true → IsElementFrom program (t + 1) d) → IsElementFrom program t d
    of (inl i) later = let p = kept_in program (key.Elem t) d i in record { number = t; is = p.0; from = omega arith; kept = ap (is_key program) p.0 ∙ p.1 }
    of (inr i) later = let o = later i in record { number = o.number; is = o.is; from = omega (arith, o.from); kept = o.kept }

of_element : (program : Program) (t : ℕ) (tys : List Ty) (i : ℕ) → i < length tys → is_key program (key.Elem (t + i)) ≡ true → is_in keys (element_keys program t tys) (key.Elem (t + i)) ≡ true
unfolding element_keys
of_element program t [] i inside e = absurd (omega arith)
of_element program t (x ∷ tys) zero inside e =
    let same : t + zero ≡ t = omega arith in
    in_both keys (kept program (key.Elem t)) (element_keys program (t + 1) tys) (key.Elem (t + zero))
    ∙ or_left _ _ (ap (λ n. is_in keys (kept program (key.Elem t)) (key.Elem n)) same ∙ in_kept program (key.Elem t) (ap (λ n. is_key program (key.Elem n)) (sym same) ∙ e))
of_element program t (x ∷ tys) (suc i) inside e =
    let same : t + suc i ≡ (t + 1) + i = omega arith in
    in_both keys (kept program (key.Elem t)) (element_keys program (t + 1) tys) (key.Elem (t + suc i))
    ∙ or_right _ _ (ap (λ n. is_in keys (element_keys program (t + 1) tys) (key.Elem n)) same ∙ of_element program (t + 1) tys i (omega arith) (ap (λ n. is_key program (key.Elem n)) (sym same) ∙ e))

rises_elements : (program : Program) (t : ℕ) (tys : List Ty) → Rises keys (element_keys program t tys)
unfolding element_keys
rises_elements program t [] = tt
rises_elements program t (x ∷ tys) = rises_both (kept program (key.Elem t)) (element_keys program (t + 1) tys) (rises_kept program (key.Elem t)) (rises_elements program (t + 1) tys) (λ a b i j. before a b (kept_in program (key.Elem t) a i).0 (element_of program (t + 1) tys b j))
  where
    before : (a b : Key) → a ≡ key.Elem t → IsElementFrom program (t + 1) b → IsBefore a b
    before a b e o = subst (λ x. IsBefore x b) (sym e) (subst (λ x. IsBefore (key.Elem t) x) (sym o.is) (omega (arith, o.from)))

-- ---- all

in_all : (program : Program) (d : Key)
    → is_in keys (all_keys program) d ≡ true → (is_in keys (global_keys program 0 program.globals) d ≡ true) ⊎ ((is_in keys (struct_keys program 0 program.structs) d ≡ true) ⊎ (is_in keys (element_keys program 0 program.types) d ≡ true))
in_all program d h = of (or_cases _ _ (sym (in_both keys (global_keys program 0 program.globals) (struct_keys program 0 program.structs ++ element_keys program 0 program.types) d) ∙ h))
  where
    of : (is_in keys (global_keys program 0 program.globals) d ≡ true) ⊎ (is_in keys (struct_keys program 0 program.structs ++ element_keys program 0 program.types) d ≡ true)
        → (is_in keys (global_keys program 0 program.globals) d ≡ true) ⊎ ((is_in keys (struct_keys program 0 program.structs) d ≡ true) ⊎ (is_in keys (element_keys program 0 program.types) d ≡ true))
    of (inl i) = inl i
    of (inr i) = inr (or_cases _ _ (sym (in_both keys (struct_keys program 0 program.structs) (element_keys program 0 program.types) d) ∙ i))

pub all_kept : (program : Program) (d : Key) → is_in keys (all_keys program) d ≡ true → is_key program d ≡ true
all_kept program d h = of (in_all program d h)
  where
    of : (is_in keys (global_keys program 0 program.globals) d ≡ true) ⊎ ((is_in keys (struct_keys program 0 program.structs) d ≡ true) ⊎ (is_in keys (element_keys program 0 program.types) d ≡ true)) → is_key program d ≡ true
    of (inl i) = (global_of program 0 program.globals d i).kept
    of (inr (inl i)) = (struct_of_key program 0 program.structs d i).kept
    of (inr (inr i)) = (element_of program 0 program.types d i).kept

pub all_rise : (program : Program) → Rises keys (all_keys program)
all_rise program =
    rises_both (global_keys program 0 program.globals) (struct_keys program 0 program.structs ++ element_keys program 0 program.types) (rises_globals program 0 program.globals)
    (rises_both (struct_keys program 0 program.structs) (element_keys program 0 program.types) (rises_structs program 0 program.structs) (rises_elements program 0 program.types) (λ a b i j. second a b (struct_of_key program 0 program.structs a i) (element_of program 0 program.types b j)))
    (λ a b i j. first a b (global_of program 0 program.globals a i) (or_cases _ _ (sym (in_both keys (struct_keys program 0 program.structs) (element_keys program 0 program.types) b) ∙ j)))
  where
    second : (a b : Key) → IsStructFrom program 0 a → IsElementFrom program 0 b → IsBefore a b
    second a b o p = subst (λ x. IsBefore x b) (sym o.is) (subst (λ x. IsBefore (key.Field o.struct o.field) x) (sym p.is) tt)

    first : (a b : Key) → IsGlobalFrom program 0 a → (is_in keys (struct_keys program 0 program.structs) b ≡ true) ⊎ (is_in keys (element_keys program 0 program.types) b ≡ true) → IsBefore a b
    first a b o (inl i) = let p = struct_of_key program 0 program.structs b i in subst (λ x. IsBefore x b) (sym o.is) (subst (λ x. IsBefore (key.Global o.number) x) (sym p.is) tt)
    first a b o (inr i) = let p = element_of program 0 program.types b i in subst (λ x. IsBefore x b) (sym o.is) (subst (λ x. IsBefore (key.Global o.number) x) (sym p.is) tt)

mapped_there : {A : Type 0} (f : A → Ty) (xs : List A) (i : ℕ) → is_no_lock (option_map f (slice_get xs i)) ≡ true → i < length xs
mapped_there f [] i h = absurd (both_ways false refl h)
mapped_there f (x ∷ xs) zero h = omega arith
mapped_there f (x ∷ xs) (suc i) h = omega (arith, mapped_there f xs i h)

there : (tys : List Ty) (i : ℕ) → is_no_lock (slice_get tys i) ≡ true → i < length tys
there [] i h = absurd (both_ways false refl h)
there (x ∷ tys) zero h = omega arith
there (x ∷ tys) (suc i) h = omega (arith, there tys i h)

pub all_complete : (program : Program) (d : Key) → is_key program d ≡ true → is_in keys (all_keys program) d ≡ true
unfolding is_key
all_complete program (key.Global g) h =
    let start : 0 + g ≡ g = omega arith in
    in_both keys (global_keys program 0 program.globals) (struct_keys program 0 program.structs ++ element_keys program 0 program.types) (key.Global g)
    ∙ or_left _ _ (ap (λ n. is_in keys (global_keys program 0 program.globals) (key.Global n)) (sym start) ∙ of_global program 0 program.globals g (mapped_there global_type program.globals g h) (ap (λ n. is_key program (key.Global n)) start ∙ h))
all_complete program (key.Elem t) h =
    let start : 0 + t ≡ t = omega arith in
    in_both keys (global_keys program 0 program.globals) (struct_keys program 0 program.structs ++ element_keys program 0 program.types) (key.Elem t)
    ∙ or_right _ _ (in_both keys (struct_keys program 0 program.structs) (element_keys program 0 program.types) (key.Elem t)
    ∙ or_right _ _ (ap (λ n. is_in keys (element_keys program 0 program.types) (key.Elem n)) (sym start) ∙ of_element program 0 program.types t (there program.types t h) (ap (λ n. is_key program (key.Elem n)) start ∙ h)))
all_complete program (key.Field s f) h =
    in_both keys (global_keys program 0 program.globals) (struct_keys program 0 program.structs ++ element_keys program 0 program.types) (key.Field s f)
    ∙ or_right _ _ (in_both keys (struct_keys program 0 program.structs) (element_keys program 0 program.types) (key.Field s f) ∙ or_left _ _ (of (slice_get program.structs s) refl))
  where
    of : (d : Option StructDef) → slice_get program.structs s ≡ d → is_in keys (struct_keys program 0 program.structs) (key.Field s f) ≡ true
    of None e = absurd (both_ways false refl (sym (ap (λ (x : Option StructDef). is_no_lock (option_map field_type (slice_get (fields_or x) f))) e) ∙ h))
    of (Some def) e =
        let start : 0 + s ≡ s = omega arith in
        ap (λ n. is_in keys (struct_keys program 0 program.structs) (key.Field n f)) (sym start)
        ∙ of_struct program 0 program.structs s f def e (mapped_there field_type def.fields f (sym (ap (λ (x : Option StructDef). is_no_lock (option_map field_type (slice_get (fields_or x) f))) e) ∙ h)) (ap (λ n. is_key program (key.Field n f)) start ∙ h)

-- ---- lists that are picked

pub record IsPicked (all : List Key) (marks : List Bool) (k : Key) : Type 0 where
  pub at : ℕ
  pub is : slice_get all at ≡ Some k
  pub marked_one : marked marks at ≡ true

pub picked_of : (all : List Key) (marks : List Bool) (k : Key) → is_in keys (picked all marks) k ≡ true → IsPicked all marks k
picked_of [] marks k h = absurd (none_in keys k h)
picked_of (x ∷ all) [] k h = absurd (none_in keys k h)
picked_of (x ∷ all) (m ∷ marks) k h = of m refl (or_cases _ _ (sym (in_both keys (chosen m (x ∷ []) []) (picked all marks) k) ∙ h)) (picked_of all marks k)
  where
    of : (t : Bool) → m ≡ t → (is_in keys (chosen m (x ∷ []) []) k ≡ true) ⊎ (is_in keys (picked all marks) k ≡ true) → (is_in keys (picked all marks) k ≡ true → IsPicked all marks k) → IsPicked (x ∷ all) (m ∷ marks) k
    of t e (inr i) later = let o = later i in record { at = suc o.at; is = o.is; marked_one = o.marked_one }
    of true e (inl i) later = record { at = 0; is = ap Some (sym (here (is_in-cases keys x [] k (ap (λ b. is_in keys (chosen b (x ∷ []) []) k) (sym e) ∙ i)))); marked_one = e }
      where
        here : (k ≡ x) ⊎ (is_in keys [] k ≡ true) → k ≡ x
        here (inl s) = s
        here (inr n) = absurd (none_in keys k n)
    of false e (inl i) later = absurd (none_in keys k (ap (λ b. is_in keys (chosen b (x ∷ []) []) k) (sym e) ∙ i))

pub of_picked : (all : List Key) (marks : List Bool) (at : ℕ) (k : Key) → slice_get all at ≡ Some k → marked marks at ≡ true → is_in keys (picked all marks) k ≡ true
of_picked [] marks at k e h = absurd (nothing_there k e)
of_picked (x ∷ all) [] at k e h = absurd (both_ways false refl h)
of_picked (x ∷ all) (m ∷ marks) zero k e h =
    in_both keys (chosen m (x ∷ []) []) (picked all marks) k ∙ or_left _ _ (ap (λ b. is_in keys (chosen b (x ∷ []) []) k) h ∙ subst (λ y. is_in keys (y ∷ []) k ≡ true) (sym (some_same e)) (is_in-head keys k []))
of_picked (x ∷ all) (m ∷ marks) (suc at) k e h = in_both keys (chosen m (x ∷ []) []) (picked all marks) k ∙ or_right _ _ (of_picked all marks at k e h)

at_in : (all : List Key) (at : ℕ) (k : Key) → slice_get all at ≡ Some k → is_in keys all k ≡ true
at_in [] at k e = absurd (nothing_there k e)
at_in (x ∷ all) zero k e = subst (λ y. is_in keys (y ∷ all) k ≡ true) (sym (some_same e)) (is_in-head keys k all)
at_in (x ∷ all) (suc at) k e = in_both keys (x ∷ []) all k ∙ or_right _ _ (at_in all at k e)

pub picked_inside : (all : List Key) (marks : List Bool) (k : Key) → is_in keys (picked all marks) k ≡ true → is_in keys all k ≡ true
picked_inside all marks k h = let o = picked_of all marks k h in at_in all o.at k o.is

pub picked_rise : (all : List Key) (marks : List Bool) → Rises keys all → Rises keys (picked all marks)
picked_rise [] marks r = tt
picked_rise (x ∷ all) [] r = tt
picked_rise (x ∷ all) (m ∷ marks) r = of m (picked_rise all marks r.1)
  where
    of : (t : Bool) → Rises keys (picked all marks) → Rises keys (chosen t (x ∷ []) [] ++ picked all marks)
    of true later = (λ d h. r.0 d (picked_inside all marks d h), later)
    of false later = later

find : (all : List Key) (k : Key) → is_in keys all k ≡ true → IsAt all k
find [] k h = absurd (none_in keys k h)
find (x ∷ all) k h = of (is_in-cases keys x all k h) (find all k)
  where
    of : (k ≡ x) ⊎ (is_in keys all k ≡ true) → (is_in keys all k ≡ true → IsAt all k) → IsAt (x ∷ all) k
    of (inl e) later = record { at = 0; is = ap Some (sym e) }
    of (inr i) later = let o = later i in record { at = suc o.at; is = o.is }

-- a key that names something is in the list of all
pub place_of : (program : Program) (k : Key) → is_key program k ≡ true → IsAt (all_keys program) k
place_of program k h = find (all_keys program) k (all_complete program k h)
