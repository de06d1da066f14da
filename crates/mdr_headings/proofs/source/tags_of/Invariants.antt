use Rattle.std.proofs.Common.{◌≡◌, [], drop}
use Rattle.mdr_headings.specs.Source.{tags_from}
use Rattle.mdr_headings.proofs.source.tags_of.Given as goal

abbrev pub invariant-loop-item : goal.invariant-loop-item
invariant-loop-item l = tags_from l.tags (drop l.item-index l.items) ≡ tags_from [] l.items
