use Rattle.std.proofs.Common.{◌≤◌, length, arith, subst, sym, ◌∙◌}
use Rattle.std.specs.Prelude.{vec_items}
use Rattle.mdr_access.proofs.CountLaws.{few_keys}
use Rattle.mdr_access.proofs.WalkLaws.{lists_by, same_size, few_rows}
use Rattle.mdr_access.proofs.plan.plan_keys.Goals as goal

pub rows_of-requires-clause-few : goal.rows_of-requires-clause-few
rows_of-requires-clause-few c = let few = c.requires.numbers.types in omega (arith, few)

pub rows_of-requires-clause-all : goal.rows_of-requires-clause-all
rows_of-requires-clause-all c = subst (λ ks. length ks ≤ 4294967296) (sym (c.as_slice-2.ensures.value ∙ c.in_ok-keys.ensures)) (few_keys c.args.program.now c.requires)

pub call_graph-requires : goal.call_graph-requires
call_graph-requires c = c.requires.numbers

pub lists_of-requires-clause-same : goal.lists_of-requires-clause-same
lists_of-requires-clause-same c =
    same_size c.args.program.now c.args.halves.now vec_items c.in_ok-graph.graph.items _ c.in_ok-edges.edges.items _ c.in_ok-rows.rows.items _ _ c.in_ok-graph.ensures c.as_slice-3.ensures.value c.in_ok-edges.ensures c.as_slice-4.ensures.value c.in_ok-rows.ensures c.as_slice-5.ensures.value

pub lists_of-requires-clause-few : goal.lists_of-requires-clause-few
lists_of-requires-clause-few c = few_rows c.args.program.now vec_items c.in_ok-rows.rows.items _ _ c.in_ok-rows.ensures c.as_slice-5.ensures.value (let few = c.requires.numbers.funcs in omega (arith, few))

pub returns : goal.returns
returns c =
    lists_by c.args.program.now c.args.halves.now vec_items c.in_ok-graph.graph.items _ c.in_ok-edges.edges.items _ c.in_ok-rows.rows.items _ c.in_ok-keys.keys.items _ _ _ c.in_ok-graph.ensures c.as_slice-3.ensures.value c.in_ok-edges.ensures c.as_slice-4.ensures.value
    c.in_ok-keys.ensures c.as_slice-2.ensures.value c.in_ok-rows.ensures c.as_slice-5.ensures.value c.as_slice-6.ensures.value c.in_ok-lists.ensures
