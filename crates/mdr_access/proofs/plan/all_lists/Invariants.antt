use Rattle.std.proofs.Common.{map}
use Rattle.std.specs.Prelude.{vec_items}
use Rattle.mdr_access.specs.Shared.{AreFirsts}
use Rattle.mdr_access.specs.Walked.{AreFound}
use Rattle.mdr_access.proofs.plan.all_lists.Given as goal

abbrev pub invariant-loop-func : goal.invariant-loop-func
invariant-loop-func l = record {
  firsts : AreFirsts (map vec_items l.walks.edges.now) l.firsts.items;
  found : AreFound l.halves (map vec_items l.walks.edges.now) (map vec_items l.walks.rows.now) l.walks.keys.now l.func l.lists.items;
}
