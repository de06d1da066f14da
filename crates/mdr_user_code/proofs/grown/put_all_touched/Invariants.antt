use Rattle.std.proofs.Common.{◌≡◌, ◌++◌, ◌-◌, filter}
use Rattle.mdr_extents.specs.Extent.{is_touched}
use Rattle.mdr_model.specs.Sets.{cells_from}
use Rattle.mdr_user_code.proofs.grown.put_all_touched.Given as goal

abbrev pub invariant-loop-index : goal.invariant-loop-index
invariant-loop-index l =
    l.out ++ filter (λ c. is_touched l.program l.touched l.block c.index) (cells_from l.block.serial l.index (l.size - l.index))
    ≡ l.initial.out ++ filter (λ c. is_touched l.program l.touched l.block c.index) (cells_from l.block.serial 0 l.size)
