use Rattle.std.proofs.Common.{arith}
use Rattle.mdr_slicer.proofs.Steps.{all_there, ended, ends_here, fails_here, goes_on, gone, part_goes_on}
use Rattle.mdr_slicer.proofs.writing.written.Goals as goal

pub returns-in-Ok-Ends-clause-written : goal.returns-in-Ok-Ends-clause-written
returns-in-Ok-Ends-clause-written g c =
    c.loop-file.invariant.goes _ _ _ _
    (fails_here c.args.files.now c.loop-file.file-index c.file-item.result (omega (arith, c.loop-file-test.true)) c.file-item.is c.args.lines.items (g.S.Shelf.files c.loop-file.shelf) (g.S.Shelf.files c.put.new.shelf) (g.S.Shelf.calls c.loop-file.shelf) (g.S.Shelf.calls c.put.new.shelf) _ _
    (ended _ _ c.in-Ok-Ends.field-0 c.in-Ok-Ends.due c.in-Ok-Ends.field-0-is c.in-Ok-Ends.ensures.put))

pub returns-in-Err-clause-part : goal.returns-in-Err-clause-part
returns-in-Err-clause-part g c =
    c.loop-file.invariant.part _ _
    (ends_here c.args.files.now c.loop-file.file-index c.file-item.result (omega (arith, c.loop-file-test.true)) c.file-item.is (g.S.Shelf.files c.loop-file.shelf) (g.S.Shelf.files c.put.new.shelf) (g.S.Shelf.calls c.loop-file.shelf) (g.S.Shelf.calls c.put.new.shelf) c.in-Err.ensures.part)

pub loop-file-preserved : goal.loop-file-preserved
loop-file-preserved g c =
    let put = gone _ _ c.in-Ok-Goes.field-0 c.in-Ok-Goes.field-0-0 c.in-Ok-Goes.field-0-is c.in-Ok-Goes.ensures.put in
    record {
      goes = λ files calls s text writes. c.loop-file.invariant.goes files calls s text
          (goes_on c.args.files.now c.loop-file.file-index c.file-item.result (omega (arith, c.loop-file-test.true)) c.file-item.is c.args.lines.items (g.S.Shelf.files c.loop-file.shelf) (g.S.Shelf.files c.put.new.shelf) files (g.S.Shelf.calls c.loop-file.shelf) (g.S.Shelf.calls c.put.new.shelf) calls s text put writes);
      part = λ files calls part. c.loop-file.invariant.part files calls
          (part_goes_on c.args.files.now c.loop-file.file-index c.file-item.result (omega (arith, c.loop-file-test.true)) c.file-item.is (g.S.Shelf.files c.loop-file.shelf) (g.S.Shelf.files c.put.new.shelf) files (g.S.Shelf.calls c.loop-file.shelf) (g.S.Shelf.calls c.put.new.shelf) calls put part);
      later = omega (arith, c.loop-file.invariant.later, c.in-Ok-Goes.ensures.later);
    }

pub returns-clause-written : goal.returns-clause-written
returns-clause-written g c =
    c.loop-file.invariant.goes _ _ _ _ (all_there c.args.lines.items c.args.files.now c.loop-file.file-index (g.S.Shelf.files c.loop-file.shelf) (g.S.Shelf.calls c.loop-file.shelf) (omega (arith, c.loop-file-test.false)))
