-- The program of a source without faults has its names and its type table in order, so that its plan is read from its text.
use Rattle.std.proofs.Common.{◌≡◌, ℕ, zero, suc, List, [], ◌∷◌, map, Some, slice_get, IsTrue, refl, sym, ◌∙◌, subst}
use Rattle.mdr_core.specs.declared.program.Func.{Func}
use Rattle.mdr_core.specs.declared.program.Program.{Program}
use Rattle.mdr_plan.specs.Naming.{is_name}
use Rattle.mdr_texts.specs.PlanTexts.{struct_names}
use Rattle.mdr_type_table.specs.Apart.{AreNamed}
use Rattle.mdr_type_table.proofs.Numbered.{struct_of_name}
use Rattle.mdr_type_table.specs.FileNames.{HaveWords, PassesNames}
use Rattle.mdr_type_table.proofs.WholeFiles.{HaveOnce, structs_are_named, tables_of_files_are_in_order, names_are_of_items, functions_once}
use Rattle.mdr_honest.specs.Plannable.{AreNames, func_names}
use Rattle.mdr_honest.proofs.NewNames.{letters}
use Rattle.mdr_honest.proofs.Planned.{plans_are_read}
use Rattle.mdr_honest.specs.SourcePlans.{ProgramsOfSourcesArePlannable, PlansOfSourcesAreRead}
use Rattle.mdr_honest.proofs.Identifiers.{names_of_sources_are_names}

func_of_name : (funcs : List Func) (f : ℕ) (name : List ℕ) → slice_get (map (λ (func : Func). func.name) funcs) f ≡ Some name → (func : Func) × (slice_get funcs f ≡ Some func) × (func.name ≡ name)
func_of_name [] f name e = absurd cc
func_of_name (g ∷ gs) zero name e = (g, refl, cc)
func_of_name (g ∷ gs) (suc f) name e = func_of_name gs f name e

struct_names_are : (program : Program) → AreNamed program.structs → PassesNames is_name program → AreNames (struct_names program)
struct_names_are program named passes = record {
  each = λ i name e.
      let d = struct_of_name program.structs i name e in
      subst (λ (n : List ℕ). IsTrue (is_name n)) d.2 (passes.structs i d.0 d.1);
  once = λ i j name e f.
      let c = struct_of_name program.structs i name e in
      let d = struct_of_name program.structs j name f in
      named.once i j c.0 d.0 c.1 d.1 (c.2 ∙ sym d.2);
}

func_names_are : (program : Program) → HaveOnce program → PassesNames is_name program → AreNames (func_names program)
func_names_are program apart passes = record {
  each = λ i name e.
      let d = func_of_name program.funcs i name e in
      subst (λ (n : List ℕ). IsTrue (is_name n)) d.2 (passes.funcs i d.0 d.1);
  once = λ i j name e f.
      let c = func_of_name program.funcs i name e in
      let d = func_of_name program.funcs j name f in
      apart.once i j c.0 d.0 c.1 d.1 (c.2 ∙ sym d.2);
}

pub programs_of_sources_are_plannable : ProgramsOfSourcesArePlannable
programs_of_sources_are_plannable body uses bytes program h formed short =
    let names = names_of_sources_are_names bytes h.tree h.source in
    let words : HaveWords h.tree.items = record { passes = λ i x name e f. letters name (names.structs.passes i x name e f) } in
    let passes = names_are_of_items is_name body uses h.tree.items program names.structs names.funcs h.right in
    record {
      table = tables_of_files_are_in_order body uses h.tree.items program words h.right formed;
      structs = struct_names_are program (structs_are_named body uses h.tree.items program words h.right) passes;
      funcs = func_names_are program (functions_once body uses h.tree.items program h.right) passes;
      short = short;
    }

pub plans_of_sources_are_read : PlansOfSourcesAreRead
plans_of_sources_are_read body uses bytes program halves plan h formed short each is = plans_are_read program halves plan (programs_of_sources_are_plannable body uses bytes program h formed short) each is
