use Rattle.std.proofs.Common.{◌∙◌}
use Rattle.mdr_slicer.proofs.Steps.{ended, gone}
use Rattle.mdr_top.specs.Reads.{longest_text, NoTexts, TextsPart}
use Rattle.mdr_top.proofs.HalvesSteps.{read_there, unread_there, was_there}
use Rattle.mdr_top.proofs.reading.texts_read.Goals as goal

pub returns-in-Ok-Ends-file-clause-read : goal.returns-in-Ok-Ends-file-clause-read
returns-in-Ok-Ends-file-clause-read g c =
    NoTexts.no_user c.in-Ok-Goes.kernel (g.S.Shelf.calls c.file.new.shelf) (gone _ _ c.in-Ok-Goes.field-0 c.in-Ok-Goes.kernel c.in-Ok-Goes.field-0-is c.in-Ok-Goes.ensures.read)
    (unread_there (g.S.Shelf.files c.args.shelf.now) (g.S.Shelf.files c.file.new.shelf) c.args.files.user.now longest_text _ _ _ _ c.file.ensures.kept
    (ended _ _ c.in-Ok-Ends-file.field-0 c.in-Ok-Ends-file.due c.in-Ok-Ends-file.field-0-is c.in-Ok-Ends-file.ensures.read))

pub returns-in-Err-file-clause-part : goal.returns-in-Err-file-clause-part
returns-in-Err-file-clause-part g c =
    TextsPart.user_part c.in-Ok-Goes.kernel (g.S.Shelf.calls c.file.new.shelf) (gone _ _ c.in-Ok-Goes.field-0 c.in-Ok-Goes.kernel c.in-Ok-Goes.field-0-is c.in-Ok-Goes.ensures.read)
    (was_there (g.S.Shelf.files c.args.shelf.now) (g.S.Shelf.files c.file.new.shelf) c.args.files.user.now longest_text _ _ c.file.ensures.kept c.in-Err-file.ensures.part)

pub returns-in-Ok-Ends-file-2-clause-read : goal.returns-in-Ok-Ends-file-2-clause-read
returns-in-Ok-Ends-file-2-clause-read g c =
    NoTexts.no_plan c.in-Ok-Goes.kernel c.in-Ok-Goes-file.user (g.S.Shelf.calls c.file.new.shelf) (g.S.Shelf.calls c.file-2.new.shelf) (gone _ _ c.in-Ok-Goes.field-0 c.in-Ok-Goes.kernel c.in-Ok-Goes.field-0-is c.in-Ok-Goes.ensures.read)
    (read_there (g.S.Shelf.files c.args.shelf.now) (g.S.Shelf.files c.file.new.shelf) c.args.files.user.now longest_text _ _ _ c.file.ensures.kept
    (gone _ _ c.in-Ok-Goes-file.field-0 c.in-Ok-Goes-file.user c.in-Ok-Goes-file.field-0-is c.in-Ok-Goes-file.ensures.read))
    (unread_there (g.S.Shelf.files c.args.shelf.now) (g.S.Shelf.files c.file-2.new.shelf) c.args.files.plan.now longest_text _ _ _ _ (c.file-2.ensures.kept ∙ c.file.ensures.kept)
    (ended _ _ c.in-Ok-Ends-file-2.field-0 c.in-Ok-Ends-file-2.due c.in-Ok-Ends-file-2.field-0-is c.in-Ok-Ends-file-2.ensures.read))

pub returns-in-Err-file-2-clause-part : goal.returns-in-Err-file-2-clause-part
returns-in-Err-file-2-clause-part g c =
    TextsPart.plan_part c.in-Ok-Goes.kernel c.in-Ok-Goes-file.user (g.S.Shelf.calls c.file.new.shelf) (g.S.Shelf.calls c.file-2.new.shelf) (gone _ _ c.in-Ok-Goes.field-0 c.in-Ok-Goes.kernel c.in-Ok-Goes.field-0-is c.in-Ok-Goes.ensures.read)
    (read_there (g.S.Shelf.files c.args.shelf.now) (g.S.Shelf.files c.file.new.shelf) c.args.files.user.now longest_text _ _ _ c.file.ensures.kept
    (gone _ _ c.in-Ok-Goes-file.field-0 c.in-Ok-Goes-file.user c.in-Ok-Goes-file.field-0-is c.in-Ok-Goes-file.ensures.read))
    (was_there (g.S.Shelf.files c.args.shelf.now) (g.S.Shelf.files c.file-2.new.shelf) c.args.files.plan.now longest_text _ _ (c.file-2.ensures.kept ∙ c.file.ensures.kept) c.in-Err-file-2.ensures.part)
