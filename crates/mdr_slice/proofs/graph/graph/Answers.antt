use Rattle.std.proofs.Common.{◌≡◌, List, Some, slice_get, arith, map, ◌∙◌, subst}
use Rattle.std.specs.Prelude.{vec_items}
use Rattle.std.proofs.lemmas.List.{length-map}
use Rattle.mdr_core.specs.declared.program.Func.{Func}
use Rattle.mdr_paths.proofs.Told.{rows_more}
use Rattle.mdr_slice.specs.Graph.{IsRow}
use Rattle.mdr_slice.proofs.GraphLaws.{at_index, row_of, pushed}
use Rattle.mdr_slice.proofs.graph.graph.Goals as goal

pub loop-own-preserved : goal.loop-own-preserved
loop-own-preserved c = record {
  size = omega (arith, c.in_ok-push.ensures.len, c.loop-own.invariant.size);
  rows =
      rows_more (IsRow c.args.program.now c.args.counts) (map vec_items c.loop-own.edges.items) _ (vec_items c.in_ok-row.row) c.loop-own.own-index (length-map c.loop-own.edges.items vec_items ∙ c.loop-own.invariant.size)
      (pushed vec_items c.loop-own.edges.items _ c.in_ok-row.row c.in_ok-push.ensures.items) (row_of c.args.program.now c.args.counts c.loop-own.own-index c.own-item.result _ (subst (λ (xs : List Func). slice_get xs c.loop-own.own-index ≡ Some c.own-item.result) c.as_slice-own-items.ensures (at_index _ c.loop-own.own-index c.own-item.result (omega arith) c.own-item.is)) c.in_ok-row.ensures) c.loop-own.invariant.rows;
}

pub callees-requires-clause-few : goal.callees-requires-clause-few
callees-requires-clause-few c = let few = c.requires.funcs in omega (arith, few)
