use Rattle.std.proofs.Common.{rules}
use Rattle.mdr_slice.proofs.GraphLaws.{same_if, differ_if}
use Rattle.mdr_slice.proofs.pointed.same_function_type.Goals as goal

pub returns-then-same_type : goal.returns-then-same_type
returns-then-same_type c = same_if _ _ _ _ _ (c.same_type.ensures.0 c.if-same_type.true) (search rules)

pub returns-else-same_type : goal.returns-else-same_type
returns-else-same_type c = differ_if _ _ _ _ _ c.if-same_type.false c.same_type.ensures
