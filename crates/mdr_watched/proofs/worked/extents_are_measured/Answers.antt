use Rattle.mdr_watched.proofs.WorkedProofs.{ends_texts, finds_sentinels, measures_arrays}
use Rattle.mdr_watched.proofs.worked.extents_are_measured.Goals as goal

pub returns : goal.returns
returns c = record { arrays = measures_arrays; sentinels = finds_sentinels; texts = ends_texts }
