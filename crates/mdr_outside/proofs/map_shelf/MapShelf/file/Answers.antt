use Rattle.mdr_outside.proofs.Files.{file_in-Some, file_in-None}
use Rattle.mdr_outside.specs.MapShelf.{view_of}
use Rattle.mdr_outside.proofs.map_shelf.MapShelf.file.Goals as goal

pub returns-in_err-file : goal.returns-in_err-file
returns-in_err-file c =
    rw (c.from_residual.ensures, ← c.self.view_is)
    (file_in-None view_of c.self.inside.files.items c.args.name.now (rw c.deref.ensures.value at c.in_err-file.ensures))

pub returns : goal.returns
returns c =
    rw (← c.self.view_is)
    (file_in-Some view_of c.self.inside.files.items c.args.name.now c.in_ok-file.file.now c.as_slice.result.now
    (rw c.deref.ensures.value at c.in_ok-file.ensures) c.as_slice.ensures.value)
