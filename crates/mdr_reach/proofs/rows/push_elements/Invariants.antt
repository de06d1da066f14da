use Rattle.std.proofs.Common.{◌≡◌, ◌++◌, length}
use Rattle.mdr_core.specs.Layout.{repeated}
use Rattle.mdr_extents.specs.Around.{element_offsets}
use Rattle.mdr_reach.specs.Spots.{element_arounds, known_arounds, known_offsets}
use Rattle.mdr_reach.proofs.rows.push_elements.Given as goal

abbrev pub invariant-loop-left : goal.invariant-loop-left
invariant-loop-left l =
    let one = element_arounds (known_arounds l.rows) l.around l.ty in
    record {
      arounds : l.row.arounds ++ repeated l.left one ≡ l.fn.row.arounds ++ repeated l.count one;
      offsets : l.row.offsets ++ element_offsets (known_offsets l.rows) l.left (length l.row.offsets) l.ty ≡ l.fn.row.offsets ++ element_offsets (known_offsets l.rows) l.count (length l.fn.row.offsets) l.ty;
      starts : l.row.starts ≡ l.fn.row.starts;
    }

abbrev pub decreases-loop-left : goal.decreases-loop-left
decreases-loop-left l = l.left
