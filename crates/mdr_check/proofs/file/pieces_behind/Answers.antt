use Rattle.std.proofs.Common.{ap}
use Rattle.std.proofs.Math.Path.{sym, ◌∙◌}
use Rattle.std.proofs.lemmas.List.{at_drop_all}
use Rattle.mdr_faults.specs.Faults.{extended}
use Rattle.mdr_check.specs.Files.{known_behind}
use Rattle.mdr_check.proofs.Filing.{one_item, one_known}
use Rattle.mdr_check.proofs.file.pieces_behind.Goals as goal

pub loop-i-preserved : goal.loop-i-preserved
loop-i-preserved g c = record {
  told = one_item (g.B.Bodies.rule c.args.bodies.now) c.args.items.now c.loop-i.known c.item.new.known c.loop-i.i c.index-items-i.result c.loop-i.all _ _ c.loop-i-test.true c.index-items-i.is c.in_ok-piece.ensures.grown (c.in_ok-all.ensures ∙ ap (extended c.loop-i.all) c.in_ok-piece.ensures.told) c.loop-i.invariant.told;
  grown = one_known c.args.items.now c.loop-i.known c.item.new.known _ c.loop-i.i c.index-items-i.result c.loop-i-test.true c.index-items-i.is c.in_ok-piece.ensures.grown c.loop-i.invariant.grown;
}

pub returns-clause-grown : goal.returns-clause-grown
unfolding known_behind
returns-clause-grown g c = sym (at_drop_all (known_behind c.loop-i.known) c.args.items.now c.loop-i.i c.loop-i-test.false) ∙ c.loop-i.invariant.grown
