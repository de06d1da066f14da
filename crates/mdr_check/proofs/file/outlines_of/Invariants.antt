use Rattle.std.proofs.Common.{◌≡◌, [], drop}
use Rattle.mdr_check.specs.Files.{outlines_from}
use Rattle.mdr_check.proofs.file.outlines_of.Given as goal

abbrev pub invariant-loop-item : goal.invariant-loop-item
invariant-loop-item l = outlines_from l.scope l.outlines (drop l.item-index l.items) ≡ outlines_from l.scope [] l.items
