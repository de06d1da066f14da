use Rattle.std.proofs.Common.{◌≡◌, List, Some, slice_get, arith, map, ap, ◌∙◌, length, subst}
use Rattle.std.specs.Prelude.{vec_items}
use Rattle.std.proofs.lemmas.List.{length-map}
use Rattle.mdr_core.specs.declared.program.Func.{Func}
use Rattle.mdr_paths.proofs.Told.{rows_more}
use Rattle.mdr_slice.proofs.GraphLaws.{at_index, pushed}
use Rattle.mdr_access.proofs.WalkLaws.{OwnsRow, owns_row, are_owned}
use Rattle.mdr_access.proofs.plan.rows_of.Goals as goal

pub loop-own-preserved : goal.loop-own-preserved
loop-own-preserved c = record {
  size = omega (arith, c.in_ok-push.ensures.len, c.loop-own.invariant.size);
  rows =
      rows_more (OwnsRow c.args.program.now c.args.keys.now) (map vec_items c.loop-own.rows.items) _ (vec_items c.in_ok-row.row) c.loop-own.own-index (length-map c.loop-own.rows.items vec_items ∙ c.loop-own.invariant.size)
      (pushed vec_items c.loop-own.rows.items _ c.in_ok-row.row c.in_ok-push.ensures.items)
      (owns_row c.args.program.now c.args.keys.now c.loop-own.own-index c.own-item.result _ (subst (λ (xs : List Func). slice_get xs c.loop-own.own-index ≡ Some c.own-item.result) c.as_slice-own-items.ensures (at_index _ c.loop-own.own-index c.own-item.result (omega arith) c.own-item.is)) c.in_ok-row.ensures)
      c.loop-own.invariant.rows;
}

pub returns : goal.returns
returns c = are_owned c.args.program.now c.args.keys.now (map vec_items c.loop-own.rows.items) (length-map c.loop-own.rows.items vec_items ∙ c.loop-own.invariant.size ∙ omega (arith, ap length c.as_slice-own-items.ensures)) (λ f h. c.loop-own.invariant.rows f (omega (arith, h, ap length c.as_slice-own-items.ensures)))
