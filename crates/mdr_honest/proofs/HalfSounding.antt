-- The program of a user half's text is sound.
use Rattle.std.proofs.Common.{◌≡◌, ℕ, zero, suc, ◌+◌, ◌≤◌, inl, inr, ◌||◌, Bool, true, false, List, [], ◌∷◌, ◌++◌, length, map, Some, slice_get, refl, sym, ap, ◌∙◌, subst, arith, eqb-true}
use Rattle.std.specs.List.{list_all}
use Rattle.std.proofs.lemmas.Option.{slice_get_within}
use Rattle.mdr_core.specs.declared.kind.Kind.{Kind}
use Rattle.mdr_core.specs.declared.kind.Kind.TheVariants.{U8, U16, U32, U64, S8, S16, S32, S64}
use Rattle.mdr_core.specs.declared.program.GlobalDef.{GlobalDef}
use Rattle.mdr_core.specs.declared.program.Program.{Program}
use Rattle.mdr_core.specs.declared.program.StructDef.{StructDef}
use Rattle.mdr_core.specs.declared.types.Ty.{Ty, out-Ty}
use Rattle.mdr_core.specs.declared.types.Ty.TheOpen.{Ty-F}
use Rattle.mdr_core.specs.declared.types.Ty.TheVariants as type
use Rattle.mdr_core.specs.Sound.{IsObjectSort, IsTable}
use Rattle.mdr_core.specs.Types.{first_types, is_pointer_by, sort_of}
use Rattle.mdr_syntax.specs.declared.tree.Item.{Item}
use Rattle.mdr_faults.specs.Alike.{is_alike}
use Rattle.mdr_check.specs.declared.table.TextedType.{TextedType}
use Rattle.mdr_check.specs.declared.variable.Variable.{Variable}
use Rattle.mdr_check.specs.Tables.{struct_types, types_alone, type_table}
use Rattle.mdr_check.specs.Whole.{file_pieces}
use Rattle.mdr_body.specs.Bodies.{body_rule}
use Rattle.mdr_lower.specs.Tables.{Occurs, OfField, OfGlobal, OfParam, OfLocal, OfAllocation}
use Rattle.mdr_program.specs.declared.parts.Parts.{Parts}
use Rattle.mdr_program.specs.Occurring.{occurring}
use Rattle.mdr_program.specs.Orders.{IsAmong, HasFirstNumbers}
use Rattle.mdr_program.specs.Parts.{parts_of}
use Rattle.mdr_program.specs.Programs.{global_def, global_defs, with_types, made}
use Rattle.mdr_program.proofs.FirstNumbers.{first_numbers}
use Rattle.mdr_typing.specs.Profile.{profile_rules}
use Rattle.mdr_type_table.proofs.Among.{tables_list_what_occurs}
use Rattle.mdr_type_table.proofs.Placed.{Place, First, Later, place_in}
use Rattle.mdr_sound.proofs.Alike.{alike_same}
use Rattle.mdr_sound.specs.Whole.{HasAll, IsMadeOf}
use Rattle.mdr_sound.proofs.Filed.{pieces_right}
use Rattle.mdr_sound.proofs.Sounding.{program_sound}
use Rattle.mdr_sound.proofs.Itemising.{bytes_proper}
use Rattle.mdr_sound.proofs.Stating.{profile_sound}
use Rattle.mdr_sound.proofs.Sourced.{ranges_of, bodies_of}
use Rattle.mdr_check_half.specs.Suiting.{one_by, structs_in, has_type}
use Rattle.mdr_check_half.specs.Planned.{IsPointer, ArePointers, IsPlanTable}
use Rattle.mdr_check_half.proofs.Accepted.{both, half_of, tests_of}
use Rattle.mdr_honest.specs.HalfSources.{HalvesAreSound}

-- ---- what occurs does so whatever the type table is

other_global : (types others : List Ty) (structs : List StructDef) (all vs : List Variable) (g : ℕ) (def : GlobalDef) → slice_get (global_defs types structs all vs) g ≡ Some def → (o : GlobalDef) × (slice_get (global_defs others structs all vs) g ≡ Some o) × (o.ty ≡ def.ty)
unfolding global_defs
other_global types others structs all [] g def e = absurd cc
other_global types others structs all (v ∷ vs) zero def e =
    let same : global_def types structs all v ≡ def = cc in
    (global_def others structs all v, refl, ap (λ (d : GlobalDef). d.ty) same)
other_global types others structs all (v ∷ vs) (suc g) def e = other_global types others structs all vs g def e

occurs_by : (types others : List Ty) (ps : Parts) (t : Ty) → Occurs (with_types types ps) t → Occurs (with_types others ps) t
occurs_by types others ps t (OfField s f def x names has is) = OfField s f def x names has is
occurs_by types others ps t (OfGlobal g def names is) = let o = other_global types others ps.structs ps.variables ps.variables g def names in OfGlobal g o.0 o.1 (o.2 ∙ is)
occurs_by types others ps t (OfParam f i func p names has is) = OfParam f i func p names has is
occurs_by types others ps t (OfLocal f i func l names has counted is) = OfLocal f i func l names has counted is
occurs_by types others ps t (OfAllocation f func body names has h) = OfAllocation f func body names has h

among : (types : List Ty) (ps : Parts) (t : Ty) → Occurs (with_types types ps) t → IsAmong t (occurring ps)
unfolding made
among types ps t h = tables_list_what_occurs ps t (occurs_by types (type_table ps.structs (occurring ps)) ps t h)

-- ---- the numbers of types

among_passes : (test : Ty → Bool) (t : Ty) (ts : List Ty) → IsAmong t ts → list_all test ts ≡ true → test t ≡ true
among_passes test t [] h e = absurd h
among_passes test t (u ∷ us) (inl is) e = subst (λ (v : Ty). test v ≡ true) is (both (test u) (list_all test us) e).0
among_passes test t (u ∷ us) (inr h) e = among_passes test t us h (both (test u) (list_all test us) e).1

found : (types : List Ty) (t : Ty) → has_type types t ≡ true → (i : ℕ) × (slice_get types i ≡ Some t)
found [] t e = absurd cc
found (u ∷ us) t e = by (is_alike u t) refl (found us t)
  where
    by : (b : Bool) → is_alike u t ≡ b → (has_type us t ≡ true → (i : ℕ) × (slice_get us i ≡ Some t)) → (i : ℕ) × (slice_get (u ∷ us) i ≡ Some t)
    by true q rest = (0, ap Some (alike_same u t q))
    by false q rest = let h : (false || has_type us t) ≡ true = subst (λ b. (b || has_type us t) ≡ true) q e in let r = rest h in (suc r.0, r.1)

has_number : (types : List Ty) (ps : Parts) → length types ≤ 4294967296 → list_all (λ t. has_type types t) (occurring ps) ≡ true → HasAll (with_types types ps)
has_number types ps few all t h =
    let at = found types t (among_passes (λ u. has_type types u) t (occurring ps) (among types ps t h) all) in
    let within = slice_get_within types at.0 t at.1 in
    record { number = at.0; fits = omega (arith, within, few); names = at.1 }

-- ---- how many structs a table has

joined_structs : (xs ys : List Ty) → structs_in (xs ++ ys) ≡ structs_in xs + structs_in ys
unfolding structs_in
joined_structs [] ys = let e : structs_in ys ≡ 0 + structs_in ys = omega arith in e
joined_structs (x ∷ xs) ys =
    let rest : structs_in (xs ++ ys) ≡ structs_in xs + structs_in ys = joined_structs xs ys in
    let e : one_by (out-Ty x) + structs_in (xs ++ ys) ≡ one_by (out-Ty x) + structs_in xs + structs_in ys = omega (arith, rest) in
    e

no_struct_by : (t : Ty) (l : Ty-F Ty) → out-Ty t ≡ l → is_pointer_by l ≡ true → one_by (out-Ty t) ≡ 0
no_struct_by t (Ty-F.Int k) e p = ap one_by e
no_struct_by t Ty-F.Lock e p = ap one_by e
no_struct_by t (Ty-F.Struct s) e p = absurd cc
no_struct_by t (Ty-F.Ptr u) e p = ap one_by e
no_struct_by t Ty-F.VoidPtr e p = ap one_by e
no_struct_by t (Ty-F.Fun ts) e p = ap one_by e
no_struct_by t Ty-F.Void e p = ap one_by e

-- none of the types is a struct
abbrev AreNone : List Ty → Type 0
AreNone [] = Unit {0}
AreNone (t ∷ ts) = (one_by (out-Ty t) ≡ 0) × AreNone ts

no_structs : (ts : List Ty) → AreNone ts → structs_in ts ≡ 0
unfolding structs_in
no_structs [] h = refl
no_structs (t ∷ ts) h =
    let one : one_by (out-Ty t) ≡ 0 = h.0 in
    let rest : structs_in ts ≡ 0 = no_structs ts h.1 in
    let e : one_by (out-Ty t) + structs_in ts ≡ 0 = omega (arith, one, rest) in
    e

pointers_none : (n : ℕ) (ts : List Ty) → ArePointers n ts → AreNone ts
pointers_none n [] h = tt
pointers_none n (t ∷ ts) h = (no_struct_by t (out-Ty t) refl h.0.points, pointers_none n ts h.1)

int_none : (k : Kind) → one_by (out-Ty (type.Int k)) ≡ 0
int_none k = ap one_by (type.outs-Int k)

first_none : AreNone first_types
first_none = (int_none U8, (int_none U16, (int_none U32, (int_none U64, (int_none S8, (int_none S16, (int_none S32, (int_none S64, (ap one_by type.outs-Lock, tt)))))))))

struct_one : (n : ℕ) → one_by (out-Ty (type.Struct n)) ≡ 1
struct_one n = ap one_by (type.outs-Struct n)

counted_structs : (n : ℕ) → structs_in (struct_types n) ≡ n
unfolding struct_types structs_in
counted_structs zero = refl
counted_structs (suc n) =
    let parts = joined_structs (struct_types n) (type.Struct n ∷ []) in
    let below = counted_structs n in
    let one = struct_one n in
    omega (arith, parts, below, one)

table_structs : (types : List Ty) (table : IsPlanTable types) → structs_in types ≡ table.structs
table_structs types table =
    let all : structs_in types ≡ structs_in ((first_types ++ struct_types table.structs) ++ table.pointers) = ap structs_in table.parts in
    let a = joined_structs (first_types ++ struct_types table.structs) table.pointers in
    let b = joined_structs first_types (struct_types table.structs) in
    let c = no_structs first_types first_none in
    let d = counted_structs table.structs in
    let e = no_structs table.pointers (pointers_none table.structs table.pointers table.are) in
    omega (arith, all, a, b, c, d, e)

-- ---- the type table

bare : List Ty → List TextedType
bare ts = map (λ t. record { text = []; ty = t }) ts

bare_types : (ts : List Ty) → types_alone (bare ts) ≡ ts
unfolding bare
bare_types [] = refl
bare_types (t ∷ ts) = ap (λ (us : List Ty). t ∷ us) (bare_types ts)

pointer_at : (n : ℕ) (ts : List Ty) (j : ℕ) (x : TextedType) → ArePointers n ts → slice_get (bare ts) j ≡ Some x → IsPointer n x.ty
unfolding bare
pointer_at n [] j x h e = absurd cc
pointer_at n (t ∷ ts) zero x h e = let same : record { text = []; ty = t } ≡ x = cc in subst (λ (y : TextedType). IsPointer n y.ty) same h.0
pointer_at n (t ∷ ts) (suc j) x h e = pointer_at n ts j x h.1 e

module _ (types : List Ty) (ps : Parts) (table : IsPlanTable types) (count : table.structs ≡ length ps.structs) where
  is : types ≡ (first_types ++ struct_types (length ps.structs)) ++ table.pointers
  is = table.parts ∙ ap (λ n. (first_types ++ struct_types n) ++ table.pointers) count

  are : ArePointers (length ps.structs) table.pointers
  are = subst (λ n. ArePointers n table.pointers) count table.are

  numbers : HasFirstNumbers ps.structs types
  numbers = subst (HasFirstNumbers ps.structs) (sym is) (first_numbers ps.structs table.pointers)

  sort_by : (i : ℕ) (t : Ty) → Place (length ps.structs) (bare table.pointers) i t → IsObjectSort (sort_of (length ps.structs) t)
  sort_by i t (First h) = h.sort
  sort_by i t (Later j x e same l) = subst (λ (u : Ty). IsObjectSort (sort_of (length ps.structs) u)) same (inl (pointer_at (length ps.structs) table.pointers j x are e).formed)

  bare_is : types ≡ (first_types ++ struct_types (length ps.structs)) ++ types_alone (bare table.pointers)
  bare_is = is ∙ ap (λ (ts : List Ty). (first_types ++ struct_types (length ps.structs)) ++ ts) (sym (bare_types table.pointers))

  is_table : IsTable (with_types types ps)
  is_table = record {
    kinds = numbers.kinds;
    lock = numbers.lock;
    structs = numbers.numbers;
    formed = λ i t e. sort_by i t (place_in (length ps.structs) (bare table.pointers) i t (subst (λ (ts : List Ty). slice_get ts i ≡ Some t) bare_is e));
    once = table.once;
  }

-- ---- the program

made_of : (types : List Ty) (ps : Parts) → IsMadeOf (with_types types ps) ps
made_of types ps = record { structs = refl; globals = refl; funcs = refl }

pub halves_sound : HalvesAreSound
halves_sound bytes halves uses plan program is planned numbers =
    let proper = bytes_proper bytes halves is.tokens is.tree is.lexed is.read in
    let items : List Item = (is.tree).items in
    let half = half_of (file_pieces (body_rule profile_rules) uses items) plan program is.typed in
    let ps : Parts = parts_of half.value in
    let tests = tests_of plan ps half.suits in
    let types : length plan.types ≤ 16777216 = subst (λ (p : Program). length p.types ≤ 16777216) (sym half.made) numbers.types in
    let structs : structs_in plan.types ≡ length ps.structs = eqb-true (structs_in plan.types) (length ps.structs) tests.structs in
    let count = sym (table_structs plan.types planned.table) ∙ structs in
    program_sound program profile_rules items half.value (pieces_right (body_rule profile_rules) uses items half.value half.right)
    (subst (λ (p : Program). IsMadeOf p ps) half.made (made_of plan.types ps)) (ranges_of items proper) (bodies_of items proper)
    (subst HasAll half.made (has_number plan.types ps (omega (arith, types)) tests.types))
    (λ scope known slots. profile_sound program slots scope known)
    (subst IsTable half.made (is_table plan.types ps planned.table count)) numbers
