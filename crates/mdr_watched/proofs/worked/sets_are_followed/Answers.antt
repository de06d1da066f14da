use Rattle.mdr_watched.proofs.WorkedProofs.{keeps_alias, looks_through, passes_pointers, touches_own}
use Rattle.mdr_watched.proofs.worked.sets_are_followed.Goals as goal

pub returns : goal.returns
returns c = record { alias = keeps_alias; own = touches_own; passed = passes_pointers; opaque = looks_through }
