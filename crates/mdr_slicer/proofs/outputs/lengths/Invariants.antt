use Rattle.std.proofs.Common.{◌≡◌, ◌++◌, drop, map}
use Rattle.mdr_slicer.specs.Outputs.{file_of, length_lines}
use Rattle.mdr_slicer.proofs.outputs.lengths.Given as goal

abbrev pub invariant-loop-file : goal.invariant-loop-file
invariant-loop-file l = l.out.items ++ length_lines (map file_of (drop l.file-index l.files)) ≡ length_lines (map file_of l.files)
