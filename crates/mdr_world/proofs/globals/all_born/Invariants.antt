use Rattle.std.proofs.Common.{◌≡◌, ◌++◌, map, drop}
use Rattle.mdr_mem.specs.Contents.{births_in}
use Rattle.mdr_meaning.specs.Bodies.{known_of}
use Rattle.mdr_plain.specs.Storage.{birth_of, global_blocks}
use Rattle.mdr_world.specs.Stored.{IsCounted}
use Rattle.mdr_world.proofs.globals.all_born.Given as goal

abbrev pub invariant-loop-global : goal.invariant-loop-global
invariant-loop-global l = record {
  counted : IsCounted l.storage;
  so_far : l.storage.blocks.memory ++ global_blocks (known_of l.program) l.global-index (drop l.global-index l.globals) ≡ global_blocks (known_of l.program) 0 l.globals;
  numbers : births_in l.storage.lives ≡ l.global-index;
  lives : l.storage.lives ≡ map birth_of l.storage.blocks.memory;
}
