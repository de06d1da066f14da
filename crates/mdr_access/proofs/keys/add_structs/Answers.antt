use Rattle.std.proofs.Common.{◌≡◌, ◌≤◌, List, Some, length, slice_get, subst, sym}
use Rattle.mdr_core.specs.declared.program.Field.{Field}
use Rattle.mdr_core.specs.declared.program.StructDef.{StructDef}
use Rattle.mdr_slice.proofs.GraphLaws.{at_index}
use Rattle.mdr_access.proofs.CountLaws.{few_fields}
use Rattle.mdr_access.proofs.keys.add_structs.Goals as goal

pub add_fields-requires : goal.add_fields-requires
add_fields-requires c =
    subst (λ (xs : List Field). length xs ≤ 4294967296) (sym c.as_slice.ensures)
    (few_fields c.args.program.now c.requires c.loop-s.s c.index-structs-s.result
    (subst (λ (xs : List StructDef). slice_get xs c.loop-s.s ≡ Some c.index-structs-s.result) c.as_slice-structs.ensures (at_index _ c.loop-s.s c.index-structs-s.result c.loop-s-test.true c.index-structs-s.is)))
