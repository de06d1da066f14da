-- What is meant over an honest far side is what the bodies of the source mean as they were written.
use Rattle.std.proofs.Common.{ℕ, List, subst}
use Rattle.mdr_due.specs.declared.status.Status.{Status}
use Rattle.mdr_plain.specs.Outcome.{outcome_of}
use Rattle.mdr_plain.specs.Scripts.{Finish}
use Rattle.mdr_rich_sources.proofs.Sourced.{sources_written}
use Rattle.mdr_source.proofs.Whose.{come_source}
use Rattle.mdr_top.specs.Reports.{Reported}
use Rattle.mdr_top.specs.Done.{Does}
use Rattle.mdr_top.specs.Headline.{MeansBy, MeansWhereHonest}
use Rattle.mdr_top.specs.Outside.{Outside}
use Rattle.mdr_top.specs.Written.{MeansAsWritten, MeansAsWrittenBy}
use Rattle.mdr_top.proofs.DoneLaws.{does_mean}

written_by : (words : List (List ℕ)) (before after : Outside) (s : Status) → MeansBy words before after s → MeansAsWrittenBy words before after s
written_by words before after s m = record {
  by = m;
  reported = subst (λ (f : Finish). Reported m.source.program (outcome_of m.source.program f) s m.text)
      (sources_written m.accepted.bytes m.source (come_source m.accepted.bytes m.source m.accepted.compiled) m.plan m.script m.manner.ticks) m.meaning.reported;
}

pub as_written : (words : List (List ℕ)) (before after : Outside) (s : Status) → MeansWhereHonest words before after s → MeansAsWritten words before after s
as_written words before after s means honest source_name script_name manner named is = written_by words before after s ((means honest).means source_name script_name manner named is)

pub does_as_written : (words : List (List ℕ)) (before after : Outside) (s : Status) → Does words before after s → MeansAsWritten words before after s
does_as_written words before after s does = as_written words before after s (λ honest. does_mean words before after s does honest)
