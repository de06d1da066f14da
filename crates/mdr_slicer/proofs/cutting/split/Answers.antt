use Rattle.std.proofs.Common.{map, ap}
use Rattle.mdr_due.specs.declared.due.Due.{Due}
use Rattle.mdr_due.specs.Statuses.{Counts, HasReadCause}
use Rattle.mdr_due.proofs.StageSteps.{err_weaker}
use Rattle.mdr_slicer.specs.Outputs.{file_of}
use Rattle.mdr_slicer.specs.Writes.{Writes, WritesPart}
use Rattle.mdr_slicer.specs.Slicing.{Splits, SplitsPart}
use Rattle.mdr_slicer.specs.Slicing.Splits.{no_source}
use Rattle.mdr_slicer.proofs.Steps.{ended, gone, ok_so, splits_part, splits_so}
use Rattle.mdr_slicer.proofs.cutting.split.Goals as goal

pub returns-in-Ok-Ends-clause-done : goal.returns-in-Ok-Ends-clause-done
returns-in-Ok-Ends-clause-done g c = no_source c.source_of.ensures.kept (ended _ _ c.in-Ok-Ends.field-0 c.in-Ok-Ends.due c.in-Ok-Ends.field-0-is c.in-Ok-Ends.ensures.read)

pub returns-clause-done : goal.returns-clause-done
returns-clause-done g c =
    ok_so c.written.result (λ (due : Due). Writes c.in-Ok.cut.lines.items (map file_of c.as_slice.result.now) (g.S.Shelf.files c.source_of.new.shelf) (g.S.Shelf.files c.written.new.shelf) (g.S.Shelf.calls c.source_of.new.shelf) (g.S.Shelf.calls c.written.new.shelf) due.status due.text.items)
    (λ (due : Due). Splits (g.S.Shelf.files c.args.shelf.now) (g.S.Shelf.files c.written.new.shelf) c.args.name.now (g.S.Shelf.calls c.args.shelf.now) (g.S.Shelf.calls c.written.new.shelf) due.status due.text.items)
    (λ due writes. splits_so (g.S.Shelf.files c.args.shelf.now) (g.S.Shelf.files c.source_of.new.shelf) (g.S.Shelf.files c.written.new.shelf) c.args.name.now (g.S.Shelf.calls c.args.shelf.now) (g.S.Shelf.calls c.source_of.new.shelf) (g.S.Shelf.calls c.written.new.shelf) c.in-Ok-Goes.source (map file_of c.in-Ok.cut.files.items) (map file_of c.as_slice.result.now) c.in-Ok.cut.lines.items c.source_of.ensures.kept (ap (map file_of) c.as_slice.ensures.value) (gone _ _ c.in-Ok-Goes.field-0 c.in-Ok-Goes.source c.in-Ok-Goes.field-0-is c.in-Ok-Goes.ensures.read) c.in-Ok.ensures due.status due.text.items writes) c.written.ensures.written

pub returns-clause-part : goal.returns-clause-part
returns-clause-part g c =
    err_weaker c.written.result (WritesPart (map file_of c.as_slice.result.now) (g.S.Shelf.files c.source_of.new.shelf) (g.S.Shelf.files c.written.new.shelf) (g.S.Shelf.calls c.source_of.new.shelf) (g.S.Shelf.calls c.written.new.shelf)) (SplitsPart (g.S.Shelf.files c.args.shelf.now) (g.S.Shelf.files c.written.new.shelf) c.args.name.now (g.S.Shelf.calls c.args.shelf.now) (g.S.Shelf.calls c.written.new.shelf))
    (λ part. splits_part (g.S.Shelf.files c.args.shelf.now) (g.S.Shelf.files c.source_of.new.shelf) (g.S.Shelf.files c.written.new.shelf) c.args.name.now (g.S.Shelf.calls c.args.shelf.now) (g.S.Shelf.calls c.source_of.new.shelf) (g.S.Shelf.calls c.written.new.shelf) c.in-Ok-Goes.source (map file_of c.in-Ok.cut.files.items) (map file_of c.as_slice.result.now) c.in-Ok.cut.lines.items c.source_of.ensures.kept (ap (map file_of) c.as_slice.ensures.value) (gone _ _ c.in-Ok-Goes.field-0 c.in-Ok-Goes.source c.in-Ok-Goes.field-0-is c.in-Ok-Goes.ensures.read) c.in-Ok.ensures part) c.written.ensures.part

pub returns-clause-read : goal.returns-clause-read
returns-clause-read g c =
    ok_so c.written.result (λ (due : Due). (before after : Counts) → HasReadCause before after due.status)
    (λ (due : Due). HasReadCause (record { faults = g.S.Shelf.faults c.args.shelf.now; absent = g.S.Shelf.absent c.args.shelf.now; long = g.S.Shelf.long c.args.shelf.now }) (record { faults = g.S.Shelf.faults c.written.new.shelf; absent = g.S.Shelf.absent c.written.new.shelf; long = g.S.Shelf.long c.written.new.shelf }) due.status)
    (λ due cause. cause _ _) c.written.ensures.read
