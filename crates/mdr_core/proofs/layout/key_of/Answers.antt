-- The proof of `key_of`.
use Rattle.mdr_core.proofs.Lying.{in_struct, key_of_struct, key_of_scalar}
use Rattle.mdr_core.proofs.layout.key_of.Goals as goal

pub struct_key-requires-clause-inside : goal.struct_key-requires-clause-inside
struct_key-requires-clause-inside c = in_struct c.args.program.now _ c.args.ty _ _ _ _ c.as_slice.ensures c.type_at.ensures c.struct_named.ensures c.in-Some.is c.requires.inside

pub returns-in-Some : goal.returns-in-Some
returns-in-Some c = key_of_struct _ _ _ _ _ _ _ _ _ c.as_slice.ensures c.type_at.ensures c.struct_named.ensures c.in-Some.is (c.struct_key.ensures c.args.block c.args.ty)

pub returns-in-None : goal.returns-in-None
returns-in-None c = key_of_scalar _ _ _ _ _ _ _ c.type_at.ensures c.struct_named.ensures c.in-None.is c.requires.inside c.lone_key.ensures
