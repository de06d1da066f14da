use Rattle.mdr_slicer.proofs.Steps.{gone}
use Rattle.mdr_top.proofs.Stages.{script_stage}
use Rattle.mdr_top.proofs.scripts.script_of.Goals as goal

pub returns-clause-read : goal.returns-clause-read
returns-clause-read g c =
    script_stage (g.S.Shelf.files c.args.shelf.now) c.args.program.now c.args.name.now (g.S.Shelf.calls c.args.shelf.now) (g.S.Shelf.calls c.file.new.shelf) c.in-Ok-Goes.bytes c.as_slice.result.now c.in_ok-script.script c.as_slice.ensures
    (gone _ _ c.in-Ok-Goes.field-0 c.in-Ok-Goes.bytes c.in-Ok-Goes.field-0-is c.in-Ok-Goes.ensures.read) c.in_ok-script.ensures
