use Rattle.std.proofs.Common.{◌≡◌, ◌+◌, ◌++◌, drop}
use Rattle.mdr_plain.specs.Report.{object_lines}
use Rattle.mdr_report.proofs.whole_object.put_whole_objects.Given as goal

abbrev pub invariant-loop-i : goal.invariant-loop-i
invariant-loop-i l = l.out.items ++ object_lines l.program (l.i + 1) (drop l.i l.objects) ≡ l.initial.out.items ++ object_lines l.program 1 l.objects
