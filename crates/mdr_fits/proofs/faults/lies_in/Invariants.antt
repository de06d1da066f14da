use Rattle.std.proofs.Common.{◌≡◌, ◌+◌, drop}
use Rattle.std.specs.List.{list_all}
use Rattle.mdr_model.specs.Sets.{is_in}
use Rattle.mdr_model.specs.Copies.{CellValue, numbered}
use Rattle.mdr_fits.proofs.faults.lies_in.Given as goal

abbrev pub invariant-loop-i : goal.invariant-loop-i
invariant-loop-i l =
    list_all (λ (x : CellValue). is_in l.view x.cell) (numbered l.serial (l.first + l.i) (drop l.i l.values)) ≡ list_all (λ (x : CellValue). is_in l.view x.cell) (numbered l.serial l.first l.values)
