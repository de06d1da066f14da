use Rattle.std.proofs.Common.{◌∙◌}
use Rattle.std.proofs.lemmas.Result.{IfOk-weaker}
use Rattle.mdr_top.specs.Judged.IsSaid.{differs}
use Rattle.mdr_top.proofs.TranscriptStages.{not_same}
use Rattle.mdr_top.proofs.judging.judged.Goals as goal

pub returns : goal.returns
returns c = IfOk-weaker c.differing.result _ _ (λ due d. differs (λ e. not_same c.args.bytes.now c.as_slice.result.now _ c.if-is_same.ensures (c.as_slice.ensures.value ∙ c.in_ok-printed.ensures) e) d) c.differing.ensures
