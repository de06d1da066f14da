-- protocol
-- What work in a run comes to, as definitions have it.
use Rattle.mdr_meaning.specs.declared.wire.Wire.{Wire}
use Rattle.mdr_meaning.specs.Values.{wire_of}
use Rattle.mdr_model.specs.declared.outcome.End.{End}
use Rattle.mdr_model.specs.declared.outcome.End.TheVariants as ends
use Rattle.mdr_plain.specs.Scripts.{Finish, finish}
use Rattle.mdr_plain.specs.World.{World, Ran, Ended, Stopped, Work, done}
use Rattle.mdr_whole.specs.declared.ending.Gave.{Gave}
use Rattle.mdr_whole.specs.declared.ending.Gave.TheVariants as gave
use Rattle.mdr_whole.specs.declared.ending.Worked.{Worked}
use Rattle.mdr_whole.specs.declared.ending.Worked.TheVariants as worked

-- what a call gave, and the state that it left
abbrev pub gave_as : Gave → World → Ran Wire
gave_as (gave.Value v) w = Ended (wire_of v) w
gave_as (gave.Stopped kind at) w = Stopped kind at w

-- work that has no result
abbrev pub worked_as : Worked → World → Work
worked_as worked.Done w = done w
worked_as (worked.Stopped kind at) w = Stopped kind at w

-- how a run ends behind it
abbrev pub end_of : Worked → End
end_of worked.Done = ends.Ok
end_of (worked.Stopped kind at) = ends.Stop kind at

abbrev pub finished : Worked → World → Finish
finished e w = finish (end_of e) w
