-- Structs in arrays of structs are found.
use Rattle.std.proofs.Common.{refl}
use Rattle.mdr_core.specs.declared.types.Ty as form
use denote.Hole.Carrier.{out}
use Rattle.mdr_core.specs.Layout.{cells, field_leaves, leaves, leaves_below, repeated, struct_cells}
use Rattle.mdr_model.specs.Memory.{leaves_of}
use Rattle.mdr_extents.specs.Around.{element_offsets, field_offsets, key_of, offsets, offsets_below, offsets_of, struct_offsets, struct_start}
use Rattle.mdr_extents.specs.Worked.{FindsStructs}

pub finds_structs : FindsStructs
unfolding cells field_leaves leaves leaves_below repeated struct_cells leaves_of element_offsets field_offsets key_of offsets offsets_below offsets_of struct_offsets struct_start form.out-Ty denote.Hole.Carrier.out
finds_structs = record { offsets = refl; pointer = refl; annotated = refl; start = refl; last = refl; outer = refl; none = refl }
