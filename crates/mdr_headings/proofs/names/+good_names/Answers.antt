use Rattle.std.proofs.Common.{ap}
use Rattle.std.proofs.Math.Path.{◌∙◌}
use Rattle.mdr_faults.specs.Faults.{told}
use Rattle.mdr_headings.specs.Names.{first_of}
use Rattle.mdr_headings.proofs.Shortness.{names_are, one_spelled}
use Rattle.mdr_headings.proofs.names.+good_names.Goals as goal

pub good_names-returns : goal.good_names-returns
good_names-returns t c = c.as_well.ensures _ _ c.perhaps_short.ensures c.good_params.ensures ∙ ap told (names_are c.args.d.now)

pub good_list-loop-i-preserved : goal.good_list-loop-i-preserved
good_list-loop-i-preserved t c = one_spelled c.args.ds.now c.loop-i.i c.index-ds-i.result c.loop-i.all _ _ c.loop-i-test.true c.index-ds-i.is (c.first_of-all.ensures ∙ ap (first_of c.loop-i.all) (c.spelled_among-among.ensures c.good_names-names.ensures)) c.loop-i.invariant
