-- believed
-- What a report shows of a lock.
use Rattle.mdr_core.specs.declared.value.LockState.{LockState}
use Rattle.mdr_core.specs.declared.value.LockState.TheVariants.{Free, Spin, Sleep}
use Rattle.mdr_model.specs.declared.outcome.Seen.{Seen}
use Rattle.mdr_model.specs.declared.outcome.Seen.TheVariants as seen

-- a lock that is held shows no more than that
abbrev pub seen_lock : LockState → Seen
seen_lock Free = seen.Free
seen_lock Spin = seen.Held
seen_lock Sleep = seen.Held
