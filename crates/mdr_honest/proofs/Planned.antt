-- The plan of a program and its halves has its lines in order.
use Rattle.std.proofs.Common.{◌≡◌, ℕ, suc, ◌<◌, ◌+◌, inl, inr, List, [], ◌++◌, length, drop, Some, None, slice_get, IsTrue, sym, ap, ◌∙◌, subst, arith}
use Rattle.std.proofs.lemmas.List.{length-map}
use Rattle.mdr_core.specs.declared.kind.Kind.TheVariants.{U8, U16, U32, U64, S8, S16, S32, S64}
use Rattle.mdr_core.specs.declared.plan.Half.{Half}
use Rattle.mdr_core.specs.declared.plan.Half.TheVariants.{User}
use Rattle.mdr_core.specs.declared.plan.Key.{Key}
use Rattle.mdr_core.specs.declared.plan.Plan.{Plan}
use Rattle.mdr_core.specs.declared.program.Func.{Func}
use Rattle.mdr_core.specs.declared.program.Program.{Program}
use Rattle.mdr_core.specs.declared.program.StructDef.{StructDef}
use Rattle.mdr_core.specs.declared.types.Ty.{Ty}
use Rattle.mdr_core.specs.declared.types.Ty.TheVariants as type
use Rattle.mdr_core.specs.Sound.{IsObjectSort}
use Rattle.mdr_core.specs.TypeText.{text_of, is_before}
use Rattle.mdr_core.specs.Types.{Sort, Wrong, sort_of, is_pointer}
use Rattle.mdr_slice.specs.declared.halves.Halves.{Halves}
use Rattle.mdr_access.specs.Keys.{IsPlan}
use Rattle.mdr_plan.specs.Naming.{struct_number}
use Rattle.mdr_plan.specs.TypeTexts.{IsPointerText}
use Rattle.mdr_texts.specs.Canonical.{AreNew, ArePointers, AreKeys, AreKeyed, first_types, struct_types}
use Rattle.mdr_texts.specs.PlanTexts.{struct_names}
use Rattle.mdr_texts.proofs.Canonicals.{canonical_is_read}
use Rattle.mdr_type_table.proofs.Apart.{pointer_texts_are_read}
use Rattle.mdr_honest.specs.Plannable.{IsPlannable, PlansAreCanonical, PlansAreRead, func_names}
use Rattle.mdr_honest.proofs.NewNames.{all_new, are_named}
use Rattle.mdr_honest.proofs.KeyLists.{key_there, keys_are, keyed}
use Rattle.mdr_honest.proofs.PointerLists.{get_drop, structs_from, firsts_from, text_some, pointers_on}

formed_by : (s : Sort) → IsObjectSort s → s ≡ Wrong → ⊥
formed_by s (inl e) w = let no = sym e ∙ w in absurd cc
formed_by s (inr (inl e)) w = let no = sym e ∙ w in absurd cc
formed_by s (inr (inr e)) w = let no = sym e ∙ w in absurd cc

-- ---- the type table

module _ (program : Program) (h : IsPlannable program) where
  abbrev rest : List Ty
  rest = drop (length (struct_names program)) (drop 9 program.types)

  name_count : length (struct_names program) ≡ length program.structs
  name_count = length-map program.structs (λ (def : StructDef). def.name)

  -- a type behind the structs, by its number there
  rest_at : (i : ℕ) → slice_get rest i ≡ slice_get program.types (9 + length program.structs + i)
  rest_at i =
      let count = name_count in
      let on : 9 + (length (struct_names program) + i) ≡ 9 + length program.structs + i = omega (arith, count) in
      get_drop (length (struct_names program)) (drop 9 program.types) i ∙ get_drop 9 program.types (length (struct_names program) + i) ∙ ap (slice_get program.types) on

  pointer : (i : ℕ) (t : Ty) → slice_get rest i ≡ Some t → IsTrue (is_pointer t)
  pointer i t e = (h.table.only (9 + length program.structs + i) t (omega arith) (sym (rest_at i) ∙ e)).1

  text_read : (i : ℕ) (t : Ty) → slice_get rest i ≡ Some t → IsPointerText (struct_number (struct_names program)) t (text_of program.structs t).bytes
  text_read i t e =
      let sort = h.table.table.formed (9 + length program.structs + i) t (sym (rest_at i) ∙ e) in
      pointer_texts_are_read program.structs t (are_named program.structs h.structs) h.short.structs (record { formed = formed_by (sort_of (length program.structs) t) sort }) (pointer i t e)

  texts_rise : (i : ℕ) (t u : Ty) → slice_get rest i ≡ Some t → slice_get rest (suc i) ≡ Some u → IsTrue (is_before (text_of program.structs t).bytes (text_of program.structs u).bytes)
  texts_rise i t u e f =
      let on : 9 + length program.structs + suc i ≡ 9 + length program.structs + i + 1 = omega arith in
      h.table.rises (9 + length program.structs + i) t u (omega arith) (sym (rest_at i) ∙ e) (ap (slice_get program.types) (sym on) ∙ sym (rest_at (suc i)) ∙ f)

  pointers_are : ArePointers (struct_names program) [] rest
  pointers_are = pointers_on (struct_names program) (λ t. (text_of program.structs t).bytes) [] rest text_read texts_rise (λ t e. text_some program.structs t (pointer 0 t e))

  struct_there : (s : ℕ) → s < length (struct_names program) → slice_get (drop 9 program.types) s ≡ Some (type.Struct s)
  struct_there s lt =
      let count = name_count in
      get_drop 9 program.types s ∙ h.table.table.structs s (omega (arith, lt, count))

  types_are : program.types ≡ first_types ++ (struct_types 0 (struct_names program) ++ rest)
  types_are =
      let kinds = h.table.table.kinds in
      firsts_from program.types (kinds U8) (kinds U16) (kinds U32) (kinds U64) (kinds S8) (kinds S16) (kinds S32) (kinds S64) h.table.table.lock
      ∙ ap (λ (ts : List Ty). first_types ++ ts) (structs_from (struct_names program) (drop 9 program.types) struct_there)

-- ---- the plan

user_keys : (program : Program) (halves : Halves) (plan : Plan) → IsPlannable program → IsPlan program halves plan → (f : ℕ) (ks : List Key) → slice_get halves.halves f ≡ Some User → slice_get plan.keys f ≡ Some ks → AreKeys (length program.structs) (length program.types) None ks
user_keys program halves plan h is f ks user at =
    let own = is.user f ks user at in
    keys_are (length program.structs) (length program.types) ks own.rises (λ k e. key_there program h.short k ((own.exact k).0 e).kept)

pub plans_are_canonical : PlansAreCanonical
plans_are_canonical program halves plan h each is =
    let count : length (func_names program) ≡ length program.funcs = length-map program.funcs (λ (func : Func). func.name) in
    let names : length plan.names ≡ length program.funcs = ap length is.names ∙ count in
    let few = h.short.funcs in
    let structs = name_count program h in
    let few_structs = h.short.structs in
    let lists : length plan.keys ≡ length halves.halves = is.lists ∙ sym each.halves_size in
    let of_halves : AreKeyed (length program.structs) (length program.types) halves.halves plan.keys =
    keyed (length program.structs) (length program.types) halves.halves plan.keys lists is.kernel (user_keys program halves plan h is) in
    record {
      structs = all_new (struct_names program) h.structs;
      few_structs = omega (arith, structs, few_structs);
      pointers = drop (length (struct_names program)) (drop 9 program.types);
      rise = pointers_are program h;
      types = is.types ∙ types_are program h;
      functions = subst (AreNew []) (sym is.names) (all_new (func_names program) h.funcs);
      few = omega (arith, names, few);
      halves = ap length is.halves_are ∙ each.halves_size ∙ sym names;
      roots = ap length is.roots ∙ each.roots_size ∙ sym names;
      down = ap length is.down ∙ each.down_size ∙ sym names;
      keys =
          subst (λ (n : ℕ). AreKeyed n (length plan.types) plan.halves plan.keys) (sym structs)
          (subst (λ (ts : List Ty). AreKeyed (length program.structs) (length ts) plan.halves plan.keys) (sym is.types)
          (subst (λ (hs : List Half). AreKeyed (length program.structs) (length program.types) hs plan.keys) (sym is.halves_are) of_halves));
    }

pub plans_are_read : PlansAreRead
plans_are_read program halves plan h each is = canonical_is_read program plan (plans_are_canonical program halves plan h each is)
