use Rattle.std.proofs.Common.{◌≡◌, ◌++◌, drop}
use Rattle.mdr_plain.specs.Report.{event_lines}
use Rattle.mdr_report.proofs.whole_event.put_whole_events.Given as goal

abbrev pub invariant-loop-event : goal.invariant-loop-event
invariant-loop-event l = l.out.items ++ event_lines l.program (drop l.event-index l.events) ≡ l.initial.out.items ++ event_lines l.program l.events
