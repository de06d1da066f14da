use Rattle.std.proofs.Common.{◌≡◌, [], drop}
use Rattle.mdr_headings.specs.Source.{defines_from}
use Rattle.mdr_headings.proofs.source.defines_of.Given as goal

abbrev pub invariant-loop-item : goal.invariant-loop-item
invariant-loop-item l = defines_from l.names (drop l.item-index l.items) ≡ defines_from [] l.items
