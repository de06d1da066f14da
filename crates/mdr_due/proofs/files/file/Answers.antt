use Rattle.std.proofs.Common.{refl}
use Rattle.mdr_due.proofs.StageSteps.{on_err, was_read}
use Rattle.mdr_outside.specs.declared.shelf.ReadAnswer.TheVariants as reads
use Rattle.mdr_due.specs.Reads.IsUnread.{missing, long, failed}
use Rattle.mdr_due.proofs.files.file.Goals as goal

pub returns-in_ok-file_line-in-Missing-clause-read : goal.returns-in_ok-file_line-in-Missing-clause-read
returns-in_ok-file_line-in-Missing-clause-read g c =
    record { answer = reads.Missing; read = record { called = c.in-Missing.ensures.called; told = c.in-Missing.ensures.told }; why = missing refl refl c.in_ok-file_line-in-Missing.ensures }

pub returns-in_ok-file_line-in-TooLarge-clause-read : goal.returns-in_ok-file_line-in-TooLarge-clause-read
returns-in_ok-file_line-in-TooLarge-clause-read g c =
    record { answer = reads.TooLarge; read = record { called = c.in-TooLarge.ensures.called; told = c.in-TooLarge.ensures.told }; why = long refl refl c.in_ok-file_line-in-TooLarge.ensures }

pub returns-in_ok-file_line-in-Failed-clause-read : goal.returns-in_ok-file_line-in-Failed-clause-read
returns-in_ok-file_line-in-Failed-clause-read g c =
    record { answer = reads.Failed; read = record { called = c.in-Failed.ensures.called; told = c.in-Failed.ensures.told }; why = failed refl refl c.in_ok-file_line-in-Failed.ensures }

pub returns-in_err-file_line-in-Missing-clause-part : goal.returns-in_err-file_line-in-Missing-clause-part
returns-in_err-file_line-in-Missing-clause-part g c = on_err _ (was_read (g.S.Shelf.files c.args.shelf.now) c.args.name.now c.args.limit (g.S.Shelf.calls c.args.shelf.now) (g.S.Shelf.calls c.read.new.self) reads.Missing c.in-Missing.ensures.called c.in-Missing.ensures.told)

pub returns-in_err-file_line-in-TooLarge-clause-part : goal.returns-in_err-file_line-in-TooLarge-clause-part
returns-in_err-file_line-in-TooLarge-clause-part g c = on_err _ (was_read (g.S.Shelf.files c.args.shelf.now) c.args.name.now c.args.limit (g.S.Shelf.calls c.args.shelf.now) (g.S.Shelf.calls c.read.new.self) reads.TooLarge c.in-TooLarge.ensures.called c.in-TooLarge.ensures.told)

pub returns-in_err-file_line-in-Failed-clause-part : goal.returns-in_err-file_line-in-Failed-clause-part
returns-in_err-file_line-in-Failed-clause-part g c = on_err _ (was_read (g.S.Shelf.files c.args.shelf.now) c.args.name.now c.args.limit (g.S.Shelf.calls c.args.shelf.now) (g.S.Shelf.calls c.read.new.self) reads.Failed c.in-Failed.ensures.called c.in-Failed.ensures.told)
