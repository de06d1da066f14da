use Rattle.mdr_slicer.proofs.Steps.{gone, source_stage}
use Rattle.mdr_slicer.proofs.sources.source_of.Goals as goal

pub returns-clause-read : goal.returns-clause-read
returns-clause-read g c =
    source_stage (g.S.Shelf.files c.args.shelf.now) c.args.name.now (g.S.Shelf.calls c.args.shelf.now) (g.S.Shelf.calls c.file.new.shelf) c.in-Ok-Goes.bytes c.as_slice.result.now c.in_ok-source.source c.as_slice.ensures
    (gone _ _ c.in-Ok-Goes.field-0 c.in-Ok-Goes.bytes c.in-Ok-Goes.field-0-is c.in-Ok-Goes.ensures.read) c.in_ok-source.ensures
