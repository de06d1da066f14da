-- The globals of a sound program as blocks: their types, cells and shapes.
use Rattle.std.proofs.Common.{◌≡◌, ℕ, suc, zero, ◌*◌, ◌≤◌, true, length, slice_get, Some, refl, sym, ap, ◌∙◌, arith}
use Rattle.std.proofs.lemmas.Bool.{lt-ltb, le-leb}
use Rattle.mdr_core.specs.declared.program.GlobalDef.{GlobalDef}
use Rattle.mdr_core.specs.declared.program.Program.{Program}
use Rattle.mdr_core.specs.Layout.{Alone, cells, leaves, repeated, struct_cells}
use Rattle.mdr_core.specs.Sound.{IsSound, all_cells}
use Rattle.mdr_core.specs.Views.{Whole}
use Rattle.mdr_core.proofs.Laid.{type_has_cells}
use Rattle.mdr_core.proofs.Lying.{cells_of_type, length-repeated}
use Rattle.mdr_meaning.specs.Fit.{IsKnownView, Knowledge, KnowsGlobals, global_shape}
use Rattle.mdr_meaning.specs.Numbers.{number_in}
use Rattle.mdr_meaning.proofs.NumberLaws.{numbered_in}
use Rattle.mdr_model.specs.Memory.{leaves_of, size_of}
use Rattle.mdr_model.specs.User.{has_shape}
use Rattle.mdr_holds.specs.Holding.{born_global}
use Rattle.mdr_holds.proofs.Places.{size_by_type}

module _ (program : Program) (sound : IsSound program) where
  pub type_is : (g : ℕ) (def : GlobalDef) → slice_get program.globals g ≡ Some def → slice_get program.types (number_in program.types def.ty) ≡ Some def.ty
  type_is g def e = let table = (sound.globals g def e).in_table in numbered_in program.types def.ty table.number table.names

  pub cells_are : (g : ℕ) (def : GlobalDef) → slice_get program.globals g ≡ Some def → leaves_of program (born_global program g def) ≡ all_cells program def.ty def.count
  unfolding leaves_of cells
  cells_are g def e = ap (repeated def.count) (cells_of_type program (number_in program.types def.ty) def.ty (type_is g def e))

  pub size_is : (g : ℕ) (def : GlobalDef) → slice_get program.globals g ≡ Some def → size_of program (born_global program g def) ≡ length def.init
  size_is g def e = ap length (cells_are g def e) ∙ sym (sound.globals g def e).each

  filled : (n l : ℕ) → 1 ≤ n → 1 ≤ l → 1 ≤ n * l
  filled n zero p q = absurd (omega (arith, q))
  filled n (suc l) p q = omega (arith, p)

  pub some_cells : (g : ℕ) (def : GlobalDef) → slice_get program.globals g ≡ Some def → 1 ≤ def.count * length (leaves (struct_cells program.structs) Alone def.ty)
  some_cells g def e = filled def.count (length (leaves (struct_cells program.structs) Alone def.ty)) (sound.globals g def e).count.some (type_has_cells program sound (number_in program.types def.ty) def.ty (type_is g def e)).some

  pub few_cells : (g : ℕ) (def : GlobalDef) → slice_get program.globals g ≡ Some def → def.count * length (leaves (struct_cells program.structs) Alone def.ty) ≤ 65536
  unfolding cells
  few_cells g def e =
      let size : length (all_cells program def.ty def.count) ≡ def.count * length (leaves (struct_cells program.structs) Alone def.ty) = length-repeated def.count (leaves (struct_cells program.structs) Alone def.ty) in
      let small = (sound.globals g def e).small in
      omega (arith, size, small)

  pub shaped : (g : ℕ) (def : GlobalDef) → slice_get program.globals g ≡ Some def → has_shape program (born_global program g def) ≡ true
  shaped g def e =
      let size : size_of program (born_global program g def) ≡ def.count * length (leaves (struct_cells program.structs) Alone def.ty) = size_by_type program (born_global program g def) def.ty (type_is g def e) in
      rw (type_is g def e, size, lt-ltb 0 (def.count * length (leaves (struct_cells program.structs) Alone def.ty)) (some_cells g def e), le-leb (def.count * length (leaves (struct_cells program.structs) Alone def.ty)) 65536 (few_cells g def e)) refl

  -- the whole of a global, from its first element on
  pub global_view : (K : Knowledge) → KnowsGlobals program K → (g t : ℕ) (def : GlobalDef) → slice_get program.globals g ≡ Some def → slice_get program.types t ≡ Some def.ty
      → IsKnownView program K (record { serial = g; first = 0; ty = t; count = def.count; index = 0 })
  global_view K known g t def e names = record {
    shape = global_shape program def;
    known = known.knows g def e;
    view = record { ty = def.ty; names = type_is g def e; part = Whole 0 def.ty def.count refl names refl; inside = omega arith };
    small = few def.count (length (leaves (struct_cells program.structs) Alone def.ty)) (type_has_cells program sound (number_in program.types def.ty) def.ty (type_is g def e)).some (few_cells g def e);
  }
    where
      few : (n l : ℕ) → 1 ≤ l → n * l ≤ 65536 → n ≤ 65536
      few n zero h q = absurd (omega (arith, h))
      few n (suc l) h q = omega (arith, q)
