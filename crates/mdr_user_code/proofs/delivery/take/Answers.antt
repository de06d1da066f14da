use Rattle.std.proofs.Common.{◌≡◌, List, ◌∙◌, sym, subst, ap}
use Rattle.mdr_user_code.specs.Standing.{driver_in}
use Rattle.mdr_user_code.proofs.TidingLaws.{tell_kept, tell_leads, tell_lives}
use Rattle.mdr_user_memory.specs.Kept.{LivesTo}
use Rattle.mdr_user_memory.specs.Lived.{lived_by}
use Rattle.mdr_user_code.specs.Tidings.{news_in}
use Rattle.mdr_user_code.proofs.delivery.take.Goals as goal

pub take-requires-clause-lives : goal.take-requires-clause-lives
take-requires-clause-lives c = tell_lives (driver_in c.args.scene) c.args.memory.now.agreed c.args.message.now c.args.copy c.requires _ _ c.tidings.ensures.deaths c.tidings.ensures.news

pub take-requires-clause-leads : goal.take-requires-clause-leads
take-requires-clause-leads c = tell_leads (driver_in c.args.scene) c.args.memory.now.agreed c.args.message.now c.args.copy c.requires _ _ _ c.tidings.ensures.deaths c.tidings.ensures.news c.tidings.ensures.runs

pub take-requires-clause-kept : goal.take-requires-clause-kept
take-requires-clause-kept c = tell_kept (driver_in c.args.scene) c.args.memory.now.agreed c.args.message.now c.args.copy c.requires _ _ _ c.tidings.ensures.deaths c.tidings.ensures.news c.tidings.ensures.runs

pub returns-clause-lived : goal.returns-clause-lived
returns-clause-lived c =
    let m = c.args.memory.now in
    let m' = c.take.new.self in
    subst (λ ds. LivesTo (lived_by c.args.scene.program.now ds (news_in c.args.message.now)) m m') c.tidings.ensures.deaths
    (subst (λ ns. LivesTo (lived_by c.args.scene.program.now c.tidings.result.deaths.now ns) m m') c.tidings.ensures.news c.in_ok-take.ensures.lived)
