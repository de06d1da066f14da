use Rattle.std.proofs.Common.{map, sym, ◌∙◌, refl, arith}
use Rattle.std.specs.Prelude.{vec_items}
use Rattle.mdr_paths.proofs.MarkLaws.{at_map}
use Rattle.mdr_slice.proofs.HalvesLaws.{called_none, called_more}
use Rattle.mdr_slice.proofs.halves.called_marks.Goals as goal

pub loop-caller-init : goal.loop-caller-init
loop-caller-init c = called_none _ _ _ _ (c.in_ok-marks.ensures.items_if_clones_equal (λ y e. e))

pub loop-caller-preserved : goal.loop-caller-preserved
loop-caller-preserved c =
    called_more c.args.kernel.now (map vec_items c.args.edges.now) _ c.loop-caller.caller c.loop-caller.marks.items _ _ c.as_slice.result.now
    (c.as_slice.ensures.value ∙ sym (at_map vec_items c.args.edges.now c.loop-caller.caller c.index-edges-caller.result (omega arith) c.index-edges-caller.is)) refl c.mark_unless.ensures c.loop-caller.invariant
