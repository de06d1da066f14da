use Rattle.std.proofs.Common.{◌≡◌, ◌+◌, ◌*◌, ◌≤◌, drop}
use Rattle.mdr_headings.specs.Structs.{cells_of_fields}
use Rattle.mdr_headings.proofs.structs.cells_of_fields.Given as goal

abbrev pub invariant-loop-x : goal.invariant-loop-x
invariant-loop-x l = (l.total + cells_of_fields l.scope l.place (drop l.x-index l.fields) ≡ cells_of_fields l.scope l.place l.fields) × (l.total ≤ l.x-index * 18446744073709551616)
