-- for proofs
-- The memory that code runs on, seen as the world of a driver that runs.
use Rattle.std.specs.Prelude.{◌≡◌, ℕ}
use Rattle.mdr_core.specs.declared.program.Program.{Program}
use Rattle.mdr_meaning.specs.Tree.{Tree}
use Rattle.mdr_meaning.specs.Walk.{Accesses, walk, walked}
use Rattle.mdr_plain.specs.Running.{all_cells}
use Rattle.mdr_plain.specs.Storage.{accesses}
use Rattle.mdr_plain.specs.World.{World}

-- what a walk does to a memory is what it does to the world in it, and the program in it stays
pub record IsSeen {M : Type 0} (a : Accesses M) (world_in : M → World) (program_in : M → Program) : Type 0 where
  pub walks : (n : ℕ) (t : Tree) (m : M)
      → walk (accesses (program_in m) all_cells) n t (world_in m) ≡ walked (walk a n t m).reached (world_in (walk a n t m).memory) (walk a n t m).left
  pub stays : (n : ℕ) (t : Tree) (m : M) → program_in (walk a n t m).memory ≡ program_in m
