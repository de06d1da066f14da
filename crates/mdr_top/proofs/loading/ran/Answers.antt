use Rattle.std.proofs.Common.{◌∙◌}
use Rattle.std.proofs.lemmas.Result.{IfOk-weaker}
use Rattle.mdr_due.proofs.StageSteps.{with_both}
use Rattle.mdr_outside.specs.declared.far.LoadAnswer.TheVariants as loads
use Rattle.mdr_top.proofs.Sending.{sent_none}
use Rattle.mdr_top.proofs.Steps.{held_texts, laid_when, refused_so}
use Rattle.mdr_top.specs.Reports.RanTo.{refused}
use Rattle.mdr_top.proofs.loading.ran.Goals as goal

pub returns-in-Refused-clause-ran : goal.returns-in-Refused-clause-ran
returns-in-Refused-clause-ran g c =
    IfOk-weaker c.nothing_ran.result _ _
    (λ l h. refused c.in-Refused.field-0 (held_texts c.args.cut.now.texts c.as_slice-user.result.now c.as_slice-lines.result.now (loads.Refused c.in-Refused.field-0) (g.F.Far.loaded c.load.new.self) c.as_slice-user.ensures c.as_slice-lines.ensures c.in-Refused.ensures.loaded) h)
    c.nothing_ran.ensures.outcome

pub returns-in-Refused-clause-failed : goal.returns-in-Refused-clause-failed
returns-in-Refused-clause-failed g c = IfOk-weaker c.nothing_ran.result _ _ (λ l h. refused_so _ c.args.program.now c.args.script.now c.args.ticks l.outcome h) c.nothing_ran.ensures.outcome

pub returns-in-Refused-clause-laid : goal.returns-in-Refused-clause-laid
returns-in-Refused-clause-laid g c =
    IfOk-weaker c.nothing_ran.result _ _
    (λ l h. laid_when _ _ c.args.cut.now.texts _ _ _ _ (loads.Refused c.in-Refused.field-0) l.layout (held_texts c.args.cut.now.texts c.as_slice-user.result.now c.as_slice-lines.result.now (loads.Refused c.in-Refused.field-0) (g.F.Far.loaded c.load.new.self) c.as_slice-user.ensures c.as_slice-lines.ensures c.in-Refused.ensures.loaded) h)
    c.nothing_ran.ensures.laid

pub returns-in-Failed-clause-laid : goal.returns-in-Failed-clause-laid
returns-in-Failed-clause-laid g c =
    IfOk-weaker c.nothing_ran-in-Failed.result _ _
    (λ l h. laid_when _ _ c.args.cut.now.texts _ _ _ _ loads.Failed l.layout (held_texts c.args.cut.now.texts c.as_slice-user.result.now c.as_slice-lines.result.now loads.Failed (g.F.Far.loaded c.load.new.self) c.as_slice-user.ensures c.as_slice-lines.ensures c.in-Failed.ensures.loaded) h)
    c.nothing_ran-in-Failed.ensures.laid

pub returns-in-Ok-clause-laid : goal.returns-in-Ok-clause-laid
returns-in-Ok-clause-laid g c =
    with_both c.began.result _ _ _
    (λ l laid kept. laid_when _ _ c.args.cut.now.texts _ _ _ _ loads.Ok l.layout (kept ∙ held_texts c.args.cut.now.texts c.as_slice-user.result.now c.as_slice-lines.result.now loads.Ok (g.F.Far.loaded c.load.new.self) c.as_slice-user.ensures c.as_slice-lines.ensures c.in-Ok.ensures.loaded) laid)
    c.began.ensures.laid c.began.ensures.loaded

pub returns-in-Refused-clause-part : goal.returns-in-Refused-clause-part
returns-in-Refused-clause-part g c =
    sent_none c.args.program.now c.args.cut.now.plan c.args.cut.now.texts c.args.script.now c.args.ticks (g.F.Far.calls c.args.far.now) (g.F.Far.calls c.load.new.self) (g.F.Far.exchanges c.load.new.self) c.as_slice-user.result.now c.as_slice-lines.result.now c.as_slice-user.ensures c.as_slice-lines.ensures c.in-Refused.ensures.called
