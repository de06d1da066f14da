-- The proof of `zero_of`.
use Rattle.mdr_core.proofs.Lying.{in_struct, zero_of_struct, zero_of_scalar}
use Rattle.mdr_core.proofs.layout.zero_of.Goals as goal

pub struct_zero-requires-clause-inside : goal.struct_zero-requires-clause-inside
struct_zero-requires-clause-inside c = in_struct c.args.program.now _ c.args.ty _ _ _ _ c.as_slice.ensures c.type_at-element.ensures c.struct_named.ensures c.in-Some.is c.requires.inside

pub returns-in-Some : goal.returns-in-Some
returns-in-Some c = zero_of_struct _ _ _ _ _ _ _ _ c.as_slice.ensures c.type_at-element.ensures c.struct_named.ensures c.in-Some.is c.struct_zero.ensures

pub returns-in-None : goal.returns-in-None
returns-in-None c = zero_of_scalar _ _ _ _ _ _ c.type_at-element.ensures c.struct_named.ensures c.in-None.is c.requires.inside c.zero.ensures
