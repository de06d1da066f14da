use Rattle.std.proofs.Common.{arith, sym}
use Rattle.std.specs.Prelude.{vec_items}
use Rattle.std.proofs.lemmas.List.{length-map}
use Rattle.mdr_paths.proofs.TurnedLaws.{turned_none, turned_step, turned_all}
use Rattle.mdr_paths.proofs.turned.turned_edges.Goals as goal

pub loop-from-init : goal.loop-from-init
loop-from-init c = turned_none _ _ _ c.in_ok-turned.ensures (sym (length-map c.args.edges.now vec_items))

pub loop-from-preserved : goal.loop-from-preserved
loop-from-preserved c =
    turned_step vec_items c.args.edges.now _ _ _ c.loop-from.from c.index-edges-from.result (omega arith) c.index-edges-from.is c.deref.ensures.value c.in_ok-add_edges.ensures c.loop-from.invariant

pub returns : goal.returns
returns c = turned_all _ _ c.loop-from.from (omega (arith, length-map c.args.edges.now vec_items)) c.loop-from.invariant
