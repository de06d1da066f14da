-- Which values fit is read of a program's types, structs and globals, and of its functions' types.
use Rattle.std.proofs.Common.{◌≡◌, ℕ, suc, Bool, true, ◌&&◌, List, [], ◌∷◌, Option, Some, None, slice_get, refl, ap, ◌∙◌}
use Rattle.std.specs.List.{list_all}
use mathlib.Core.Path.{fun_ext}
use Rattle.mdr_core.specs.declared.program.Func.{Func}
use Rattle.mdr_core.specs.declared.program.Program.{Program}
use Rattle.mdr_core.specs.declared.refusal.RefuseKind.TheVariants as refusal
use Rattle.mdr_core.specs.declared.types.Ty.{Ty, out-Ty}
use Rattle.mdr_core.specs.declared.types.Ty.TheOpen.{Ty-F}
use Rattle.mdr_core.specs.Layout.{Leaf}
use Rattle.mdr_meaning.specs.declared.wire.Wire.{Wire}
use Rattle.mdr_meaning.specs.declared.wire.Wire.TheVariants as wire
use Rattle.mdr_model.specs.declared.memory.Cell.{Cell}
use Rattle.mdr_model.specs.declared.message.Fault.{Fault}
use Rattle.mdr_model.specs.declared.message.New.{New}
use Rattle.mdr_model.specs.declared.message.Run.{Run}
use Rattle.mdr_model.specs.declared.message.SetRun.{SetRun}
use Rattle.mdr_model.specs.Copies.{CellValue, numbered}
use Rattle.mdr_model.specs.Faults.{first_fault, is_known, or_else, set_run_of, unless}
use Rattle.mdr_model.specs.Memory.{Memory, born_at, is_live, leaf_at}
use Rattle.mdr_model.specs.Sets.{follows_maybe, is_in}
use Rattle.mdr_split.specs.Fits.{Places, fits, fits_by, fits_function, fits_pointer, fits_result, is_named, is_view}
use Rattle.mdr_split.specs.Legal.{args_fault, fits_block, fits_cell, fits_leaf, run_fault, runs_fault}
use Rattle.mdr_user_text.proofs.Headings.{heading, same_type, with_funcs}
use Rattle.mdr_user_text.proofs.SameViews.{same_view}
use Rattle.mdr_user_text.proofs.SameCells.{same_leaf}

-- how the user half judges, by its copy
abbrev pub judged_by : Program → Memory → Places
judged_by program copy = record { program = program; passes = λ f. true; paired = copy; memory = copy }

module _ (program : Program) (funcs : List Func) (headings : (f : ℕ) → heading (slice_get funcs f) ≡ heading (slice_get program.funcs f)) (copy : Memory) where
  abbrev there : Places
  there = judged_by (with_funcs program funcs) copy

  abbrev here : Places
  here = judged_by program copy

  -- ---- values

  same_pointer : (takes : ℕ → Bool) (v : Wire) → fits_pointer there takes v ≡ fits_pointer here takes v
  same_pointer takes wire.Null = refl
  same_pointer takes wire.Dead = refl
  same_pointer takes (wire.Ptr v) = ap (λ (b : Bool). takes v.ty && (is_live copy v.serial && b)) (same_view program funcs copy (wire.Ptr v))
  same_pointer takes _ = refl

  same_function : (ty : Ty) (v : Wire) → fits_function there ty v ≡ fits_function here ty v
  same_function ty wire.Null = refl
  same_function ty (wire.Fn f) = ap (λ (b : Bool). b && true) (same_type there here ty (slice_get funcs f) (slice_get program.funcs f) (headings f))
  same_function ty _ = refl

  same_by : (ty : Ty) (l : Ty-F Ty) (v : Wire) → fits_by there ty l v ≡ fits_by here ty l v
  unfolding is_named
  same_by ty (Ty-F.Int k) (wire.Int l n) = refl
  same_by ty (Ty-F.Int k) _ = refl
  same_by ty Ty-F.Lock v = refl
  same_by ty (Ty-F.Struct s) v = refl
  same_by ty (Ty-F.Ptr t) v = same_pointer (λ n. is_named program n t) v
  same_by ty Ty-F.VoidPtr v = same_pointer (λ n. true) v
  same_by ty (Ty-F.Fun ts) v = same_function ty v
  same_by ty Ty-F.Void v = refl

  same_fits : (ty : Ty) (v : Wire) → fits there ty v ≡ fits here ty v
  unfolding fits
  same_fits ty v = same_by ty (out-Ty ty) v

  all_fit : fits there ≡ fits here
  all_fit = fun_ext (λ ty. fun_ext (λ v. same_fits ty v))

  pub same_fits_result : (ty : Ty) (v : Wire) → fits_result there ty v ≡ fits_result here ty v
  unfolding fits_result
  same_fits_result ty wire.NoValue = refl
  same_fits_result ty (wire.Int k n) = same_fits ty (wire.Int k n)
  same_fits_result ty wire.Null = same_fits ty wire.Null
  same_fits_result ty (wire.Ptr v) = same_fits ty (wire.Ptr v)
  same_fits_result ty wire.Dead = same_fits ty wire.Dead
  same_fits_result ty (wire.Fn f) = same_fits ty (wire.Fn f)
  same_fits_result ty (wire.Lock s) = same_fits ty (wire.Lock s)

  pub same_args : (types : List Ty) (args : List Wire) → args_fault (fits there) 0 types args ≡ args_fault (fits here) 0 types args
  same_args types args = ap (λ (fit : Ty → Wire → Bool). args_fault fit 0 types args) all_fit

  -- ---- runs

  same_fits_block : (o : Option New) (index : ℕ) (v : Wire) → fits_block there o index v ≡ fits_block here o index v
  same_fits_block None index v = refl
  same_fits_block (Some block) index v =
      ap (λ (l : Option Leaf). fits_leaf (fits there) l v) (same_leaf program funcs block index)
      ∙ ap (λ (fit : Ty → Wire → Bool). fits_leaf fit (leaf_at program block index) v) all_fit

  same_fits_cell : (x : CellValue) → fits_cell there x ≡ fits_cell here x
  unfolding fits_cell
  same_fits_cell x = same_fits_block (born_at copy x.cell.serial) x.cell.index x.value

  abbrev run_judged : (view : List Cell) (before : Option SetRun) → ℕ → Run → (views : Wire → Bool) → (fit : CellValue → Bool) → Option Fault
  run_judged view before i r views fit =
      let cells : List CellValue = numbered r.serial r.first r.values in
      first_fault (
      unless (follows_maybe before (set_run_of r)) refusal.RunOrder i
      ∷ unless (list_all (λ (x : CellValue). is_in view x.cell) cells) refusal.OutsideSet i
      ∷ unless (list_all (is_known copy) r.values) refusal.UnknownSerial i
      ∷ unless (list_all views r.values) refusal.BadView i
      ∷ unless (list_all fit cells) refusal.BadValue i
      ∷ [])

  same_run_fault : (view : List Cell) (before : Option SetRun) (i : ℕ) (r : Run) → run_fault there view before i r ≡ run_fault here view before i r
  unfolding run_fault
  same_run_fault view before i r =
      ap (λ (views : Wire → Bool). run_judged view before i r views (fits_cell there)) (fun_ext (λ (v : Wire). same_view program funcs copy v))
      ∙ ap (λ (fit : CellValue → Bool). run_judged view before i r (is_view program copy) fit) (fun_ext (λ (x : CellValue). same_fits_cell x))

  pub same_runs : (view : List Cell) (before : Option SetRun) (i : ℕ) (runs : List Run) → runs_fault there view before i runs ≡ runs_fault here view before i runs
  unfolding runs_fault
  same_runs view before i [] = refl
  same_runs view before i (r ∷ rs) =
      ap (λ (f : Option Fault). or_else f (runs_fault there view (Some (set_run_of r)) (suc i) rs)) (same_run_fault view before i r)
      ∙ ap (or_else (run_fault here view before i r)) (same_runs view (Some (set_run_of r)) (suc i) rs)
