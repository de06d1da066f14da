use Rattle.std.proofs.Common.{◌≡◌, ◌++◌, drop, length}
use Rattle.mdr_extents.specs.Around.{field_offsets}
use Rattle.mdr_reach.specs.Spots.{field_arounds, field_starts, known_arounds, known_offsets}
use Rattle.mdr_reach.proofs.rows.fields_row.Given as goal

abbrev pub invariant-loop-f : goal.invariant-loop-f
invariant-loop-f l =
    record {
      arounds : l.row.arounds ++ field_arounds l.touched (known_arounds l.rows) l.s l.f (drop l.f l.fields) ≡ field_arounds l.touched (known_arounds l.rows) l.s 0 l.fields;
      offsets : l.row.offsets ++ field_offsets (known_offsets l.rows) (length l.row.offsets) (drop l.f l.fields) ≡ field_offsets (known_offsets l.rows) 0 l.fields;
      starts : l.row.starts ++ field_starts (known_arounds l.rows) (length l.row.arounds) (drop l.f l.fields) ≡ field_starts (known_arounds l.rows) 0 l.fields;
    }
