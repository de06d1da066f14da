-- A type table in order has a struct type for each struct, and none else.
use Rattle.std.proofs.Common.{◌≡◌, ℕ, zero, suc, ◌+◌, true, List, [], ◌∷◌, ◌++◌, length, refl, ap, arith}
use Rattle.mdr_core.specs.declared.kind.Kind.{Kind}
use Rattle.mdr_core.specs.declared.kind.Kind.TheVariants.{U8, U16, U32, U64, S8, S16, S32, S64}
use Rattle.mdr_core.specs.declared.program.StructDef.{StructDef}
use Rattle.mdr_core.specs.declared.types.Ty.{Ty, out-Ty}
use Rattle.mdr_core.specs.declared.types.Ty.TheOpen.{Ty-F}
use Rattle.mdr_core.specs.declared.types.Ty.TheVariants as type
use Rattle.mdr_core.specs.Types.{first_types, is_pointer_by}
use Rattle.mdr_check.specs.Tables.{struct_types, types_alone}
use Rattle.mdr_check.specs.declared.table.TextedType.{TextedType}
use Rattle.mdr_program.specs.Orders.{AreTexted}
use Rattle.mdr_check_half.specs.Suiting.{one_by, structs_in}
use Rattle.mdr_half_program.specs.Counted.{TablesHaveTheStructs}

joined_structs : (xs ys : List Ty) → structs_in (xs ++ ys) ≡ structs_in xs + structs_in ys
unfolding structs_in
joined_structs [] ys = let e : structs_in ys ≡ 0 + structs_in ys = omega arith in e
joined_structs (x ∷ xs) ys =
    let rest : structs_in (xs ++ ys) ≡ structs_in xs + structs_in ys = joined_structs xs ys in
    let e : one_by (out-Ty x) + structs_in (xs ++ ys) ≡ one_by (out-Ty x) + structs_in xs + structs_in ys = omega (arith, rest) in
    e

no_struct_by : (t : Ty) (l : Ty-F Ty) → out-Ty t ≡ l → is_pointer_by l ≡ true → one_by (out-Ty t) ≡ 0
no_struct_by t (Ty-F.Int k) e p = ap one_by e
no_struct_by t Ty-F.Lock e p = ap one_by e
no_struct_by t (Ty-F.Struct s) e p = absurd cc
no_struct_by t (Ty-F.Ptr u) e p = ap one_by e
no_struct_by t Ty-F.VoidPtr e p = ap one_by e
no_struct_by t (Ty-F.Fun ts) e p = ap one_by e
no_struct_by t Ty-F.Void e p = ap one_by e

-- none of the types is a struct
abbrev AreNone : List Ty → Type 0
AreNone [] = Unit {0}
AreNone (t ∷ ts) = (one_by (out-Ty t) ≡ 0) × AreNone ts

no_structs : (ts : List Ty) → AreNone ts → structs_in ts ≡ 0
unfolding structs_in
no_structs [] h = refl
no_structs (t ∷ ts) h =
    let one : one_by (out-Ty t) ≡ 0 = h.0 in
    let rest : structs_in ts ≡ 0 = no_structs ts h.1 in
    let e : one_by (out-Ty t) + structs_in ts ≡ 0 = omega (arith, one, rest) in
    e

pointers_none : (structs : List StructDef) (occurring : List Ty) (ts : List TextedType) → AreTexted structs occurring ts → AreNone (types_alone ts)
pointers_none structs occurring [] h = tt
pointers_none structs occurring (t ∷ ts) h = (no_struct_by t.ty (out-Ty t.ty) refl h.0.pointer, pointers_none structs occurring ts h.1)

int_none : (k : Kind) → one_by (out-Ty (type.Int k)) ≡ 0
int_none k = ap one_by (type.outs-Int k)

first_none : AreNone first_types
first_none = (int_none U8, (int_none U16, (int_none U32, (int_none U64, (int_none S8, (int_none S16, (int_none S32, (int_none S64, (ap one_by type.outs-Lock, tt)))))))))

struct_one : (n : ℕ) → one_by (out-Ty (type.Struct n)) ≡ 1
struct_one n = ap one_by (type.outs-Struct n)

counted_structs : (n : ℕ) → structs_in (struct_types n) ≡ n
unfolding struct_types structs_in
counted_structs zero = refl
counted_structs (suc n) =
    let parts = joined_structs (struct_types n) (type.Struct n ∷ []) in
    let below = counted_structs n in
    let one = struct_one n in
    omega (arith, parts, below, one)

pub tables_count : TablesHaveTheStructs
tables_count structs occurring table o =
    let all : structs_in table ≡ structs_in ((first_types ++ struct_types (length structs)) ++ types_alone o.pointers) = ap structs_in o.parts in
    let a = joined_structs (first_types ++ struct_types (length structs)) (types_alone o.pointers) in
    let b = joined_structs first_types (struct_types (length structs)) in
    let c = no_structs first_types first_none in
    let d = counted_structs (length structs) in
    let e = no_structs (types_alone o.pointers) (pointers_none structs occurring o.pointers o.texted) in
    omega (arith, all, a, b, c, d, e)
