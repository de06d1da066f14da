use Rattle.std.proofs.Common.{◌≤◌, ℕ, List, drop, map}
use Rattle.mdr_outside.specs.Calls.{ShelfCall}
use Rattle.mdr_due.specs.Reads.{Files}
use Rattle.mdr_due.specs.declared.status.Status.{Status}
use Rattle.mdr_slicer.specs.Outputs.{file_of}
use Rattle.mdr_slicer.specs.Writes.{Writes, WritesPart}
use Rattle.mdr_slicer.proofs.writing.written.Given as goal

abbrev pub invariant-loop-file : goal.invariant-loop-file
invariant-loop-file g l = record {
  goes : (files : Files) (calls : List ShelfCall) (s : Status) (text : List ℕ)
      → Writes l.lines.items (map file_of (drop l.file-index l.files)) (g.S.Shelf.files l.shelf) files (g.S.Shelf.calls l.shelf) calls s text
      → Writes l.lines.items (map file_of l.files) (g.S.Shelf.files l.fn.shelf) files (g.S.Shelf.calls l.fn.shelf) calls s text;
  part : (files : Files) (calls : List ShelfCall)
      → WritesPart (map file_of (drop l.file-index l.files)) (g.S.Shelf.files l.shelf) files (g.S.Shelf.calls l.shelf) calls
      → WritesPart (map file_of l.files) (g.S.Shelf.files l.fn.shelf) files (g.S.Shelf.calls l.fn.shelf) calls;
  later : g.S.Shelf.unwritten l.fn.shelf ≤ g.S.Shelf.unwritten l.shelf;
}
