-- How many keys a sound program has.
use Rattle.std.proofs.Common.{◌≡◌, ℕ, suc, ◌+◌, ◌*◌, ◌≤◌, Bool, true, false, List, [], ◌∷◌, ◌++◌, length, Option, Some, slice_get, refl, ap, arith, length-append}
use Rattle.mdr_core.specs.declared.plan.Key.{Key}
use Rattle.mdr_core.specs.declared.plan.Key.TheVariants as key
use Rattle.mdr_core.specs.declared.program.Field.{Field}
use Rattle.mdr_core.specs.declared.program.GlobalDef.{GlobalDef}
use Rattle.mdr_core.specs.declared.program.Program.{Program}
use Rattle.mdr_core.specs.declared.program.StructDef.{StructDef}
use Rattle.mdr_core.specs.declared.types.Ty.{Ty}
use Rattle.mdr_core.specs.Layout.{AreFew, chosen, fields_of, fields_or}
use Rattle.mdr_core.specs.Sound.{IsSound}
use Rattle.mdr_core.specs.Suited.{is_key}
use Rattle.mdr_access.specs.AllKeys.{all_keys, element_keys, field_keys, global_keys, kept, struct_keys}

kept_few : (program : Program) (k : Key) → length (kept program k) ≤ 1
kept_few program k = by (is_key program k)
  where
    by : (b : Bool) → length (chosen b (k ∷ []) []) ≤ 1
    by true = omega arith
    by false = omega arith

globals_few : (program : Program) (g : ℕ) (ds : List GlobalDef) → length (global_keys program g ds) ≤ length ds
unfolding global_keys
globals_few program g [] = omega arith
globals_few program g (d ∷ ds) =
    let one = kept_few program (key.Global g) in
    let rest = globals_few program (g + 1) ds in
    let both = length-append (kept program (key.Global g)) (global_keys program (g + 1) ds) in
    omega (arith, one, rest, both)

fields_few : (program : Program) (s f : ℕ) (xs : List Field) → length (field_keys program s f xs) ≤ length xs
unfolding field_keys
fields_few program s f [] = omega arith
fields_few program s f (x ∷ xs) =
    let one = kept_few program (key.Field s f) in
    let rest = fields_few program s (f + 1) xs in
    let both = length-append (kept program (key.Field s f)) (field_keys program s (f + 1) xs) in
    omega (arith, one, rest, both)

structs_few : (program : Program) (s : ℕ) (ds : List StructDef) → ((i : ℕ) (d : StructDef) → slice_get ds i ≡ Some d → length d.fields ≤ 64) → length (struct_keys program s ds) ≤ 64 * length ds
unfolding struct_keys
structs_few program s [] few = omega arith
structs_few program s (d ∷ ds) few =
    let one = fields_few program s 0 d.fields in
    let most = few 0 d refl in
    let rest = structs_few program (s + 1) ds (λ i e h. few (suc i) e h) in
    let both = length-append (field_keys program s 0 d.fields) (struct_keys program (s + 1) ds) in
    omega (arith, one, most, rest, both)

elements_few : (program : Program) (t : ℕ) (tys : List Ty) → length (element_keys program t tys) ≤ length tys
unfolding element_keys
elements_few program t [] = omega arith
elements_few program t (ty ∷ tys) =
    let one = kept_few program (key.Elem t) in
    let rest = elements_few program (t + 1) tys in
    let both = length-append (kept program (key.Elem t)) (element_keys program (t + 1) tys) in
    omega (arith, one, rest, both)

struct_fields : (structs : List StructDef) → AreFew structs → (s : ℕ) (def : StructDef) → slice_get structs s ≡ Some def → length def.fields ≤ 64
struct_fields structs few s def e =
    let most = few.within s in
    let same : length (fields_of structs s) ≡ length def.fields = ap (λ (o : Option StructDef). length (fields_or o)) e in
    omega (arith, most, same)

-- the fields of a struct have numbers of 32 bits
pub few_fields : (program : Program) → IsSound program → (s : ℕ) (def : StructDef) → slice_get program.structs s ≡ Some def → length def.fields ≤ 4294967296
few_fields program sound s def e = let most = struct_fields program.structs sound.few s def e in omega (arith, most)

-- and so have the keys
pub few_keys : (program : Program) → IsSound program → length (all_keys program) ≤ 4294967296
few_keys program sound =
    let a = globals_few program 0 program.globals in
    let b = structs_few program 0 program.structs (λ i d e. struct_fields program.structs sound.few i d e) in
    let c = elements_few program 0 program.types in
    let first = length-append (global_keys program 0 program.globals) (struct_keys program 0 program.structs ++ element_keys program 0 program.types) in
    let second = length-append (struct_keys program 0 program.structs) (element_keys program 0 program.types) in
    let globals = (sound.numbers).globals in
    let structs = (sound.numbers).structs in
    let types = (sound.numbers).types in
    omega (arith, a, b, c, first, second, globals, structs, types)
