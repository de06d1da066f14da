use Rattle.std.proofs.Common.{sym, refl}
use Rattle.std.specs.Prelude.{vec_items}
use Rattle.std.proofs.lemmas.List.{length-map}
use Rattle.mdr_access.proofs.SharedLaws.{alone_first}
use Rattle.mdr_access.proofs.WalkLaws.{found_none, found_more}
use Rattle.mdr_access.proofs.plan.all_lists.Goals as goal

pub loop-func-init : goal.loop-func-init
loop-func-init c = record { firsts = alone_first _ _ _ c.in_ok-firsts.ensures (sym (length-map c.args.walks.now.edges.now vec_items)); found = found_none _ _ _ _ _ c.new-lists.ensures.items }

pub loop-func-preserved : goal.loop-func-preserved
loop-func-preserved c = record {
  firsts = c.in_ok-list.ensures.firsts;
  found = found_more _ _ _ _ c.loop-func.func c.loop-func.lists.items _ c.in_ok-list.list _ c.in_ok-push.ensures.items refl c.in_ok-list.ensures.list c.loop-func.invariant.found;
}
