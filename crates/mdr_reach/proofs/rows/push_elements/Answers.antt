use Rattle.std.proofs.Common.{◌∙◌}
use Rattle.mdr_reach.proofs.RowLaws.{elements_more, no_offsets_left, none_left, offsets_more}
use Rattle.mdr_reach.proofs.rows.push_elements.Goals as goal

pub loop-left-preserved : goal.loop-left-preserved
loop-left-preserved c = record {
  arounds = elements_more _ _ _ _ c.loop-left.left c.loop-left-test.true c.in_ok-push_element.ensures.arounds c.loop-left.invariant.arounds;
  offsets = offsets_more _ _ _ _ _ c.loop-left.left c.loop-left-test.true c.in_ok-push_element.ensures.offsets c.loop-left.invariant.offsets;
  starts = c.in_ok-push_element.ensures.starts ∙ c.loop-left.invariant.starts;
}

pub returns-clause-arounds : goal.returns-clause-arounds
returns-clause-arounds c = none_left _ _ _ c.loop-left.left c.loop-left-test.false c.loop-left.invariant.arounds

pub returns-clause-offsets : goal.returns-clause-offsets
returns-clause-offsets c = no_offsets_left _ _ _ _ c.loop-left.left c.loop-left-test.false c.loop-left.invariant.offsets
