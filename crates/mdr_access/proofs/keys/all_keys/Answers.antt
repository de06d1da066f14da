use Rattle.std.proofs.Common.{arith}
use Rattle.mdr_access.proofs.keys.all_keys.Goals as goal

pub add_globals-requires : goal.add_globals-requires
add_globals-requires c = let few = c.requires.numbers.globals in omega (arith, few)

pub add_elements-requires : goal.add_elements-requires
add_elements-requires c = let few = c.requires.numbers.types in omega (arith, few)
