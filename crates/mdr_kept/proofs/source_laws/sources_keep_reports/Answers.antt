use Rattle.mdr_kept.proofs.RunLaws.{kept_reports_agree}
use Rattle.mdr_sound.proofs.Sourced.{sources_sound}
use Rattle.mdr_kept.proofs.Sourced.{sources_scoped}
use Rattle.mdr_kept.proofs.source_laws.sources_keep_reports.Goals as goal

pub returns : goal.returns
returns c = λ bytes halves uses program plan script budget is few bodies sliced fits kept.
    kept_reports_agree program plan (record { sound = sources_sound bytes halves uses program is few; scoped = sources_scoped bytes halves uses program is few; bodies = bodies; sliced = sliced }) script fits budget kept
