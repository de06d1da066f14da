use Rattle.std.proofs.Common.{◌≡◌, true, map, arith}
use Rattle.std.specs.Prelude.{vec_items}
use Rattle.std.proofs.lemmas.List.{length-map}
use Rattle.mdr_access.specs.Walked.{is_user}
use Rattle.mdr_access.proofs.SharedLaws.{list_again}
use Rattle.mdr_access.proofs.plan.list_of.Goals as goal

pub returns-then-is_shared-clause-list : goal.returns-then-is_shared-clause-list
returns-then-is_shared-clause-list c =
    let user : is_user c.args.halves.now c.args.func ≡ true = grind (arith, c.if-not-is_user.false, c.is_user.ensures) in
    list_again c.args.halves.now (map vec_items c.args.walks.now.edges.now) (map vec_items c.args.walks.now.rows.now) c.args.walks.now.keys.now c.args.lists.now c.args.firsts.now.items c.index-first.result.now c.args.func c.index-lists-first.result c.as_slice.result.now c.in_ok-list.list
    c.requires.found c.requires.firsts (omega (arith, c.requires.inside, c.requires.walks.size, length-map c.args.walks.now.rows.now vec_items)) c.index-first.ensures (c.is_shared.ensures.0 c.if-is_shared.true) c.index-lists-first.is user c.as_slice.ensures c.in_ok-list.ensures
