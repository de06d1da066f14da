use Rattle.mdr_core.specs.Typing.{function_type}
use Rattle.mdr_fits.proofs.TypeTests.{has_tested}
use Rattle.mdr_fits.proofs.types.has_type.Goals as goal

pub returns : goal.returns
returns c = has_tested c.has_function_type.result (function_type c.args.func.now) c.args.ty.now c.has_function_type.ensures
