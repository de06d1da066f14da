use Rattle.std.proofs.lemmas.Result.{IfOk-weaker}
use Rattle.mdr_due.proofs.StageSteps.{on_err}
use Rattle.mdr_slicer.proofs.Steps.{ended, gone}
use Rattle.mdr_top.specs.Names.{names_in}
use Rattle.mdr_top.specs.Reads.{TextsPart}
use Rattle.mdr_top.specs.Sources.{NoSourceIn}
use Rattle.mdr_top.proofs.HalvesSteps.{source_stage}
use Rattle.mdr_top.proofs.sources.source_in.Goals as goal

pub returns-in-Ok-Ends-clause-read : goal.returns-in-Ok-Ends-clause-read
returns-in-Ok-Ends-clause-read g c = NoSourceIn.unread (ended _ _ c.in-Ok-Ends.field-0 c.in-Ok-Ends.due c.in-Ok-Ends.field-0-is c.in-Ok-Ends.ensures.read)

pub returns-clause-read : goal.returns-clause-read
returns-clause-read g c =
    IfOk-weaker c.joined-source.result _ _
    (λ st has. source_stage (g.S.Shelf.files c.args.shelf.now) (names_in c.args.files) (g.S.Shelf.calls c.args.shelf.now) (g.S.Shelf.calls c.texts_read.new.shelf) c.in-Ok-Goes.texts st (gone _ _ c.in-Ok-Goes.field-0 c.in-Ok-Goes.texts c.in-Ok-Goes.field-0-is c.in-Ok-Goes.ensures.read) has)
    c.joined-source.ensures

pub returns-clause-part : goal.returns-clause-part
returns-clause-part g c = on_err c.joined-source.result (TextsPart.all_read c.in-Ok-Goes.texts (gone _ _ c.in-Ok-Goes.field-0 c.in-Ok-Goes.texts c.in-Ok-Goes.field-0-is c.in-Ok-Goes.ensures.read))
