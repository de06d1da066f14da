use Rattle.mdr_core.specs.declared.types.Ty.TheVariants as ty
use Rattle.mdr_events.proofs.TypeLaws.{same_tested}
use Rattle.mdr_exec.proofs.pointers.is_integer.Goals as goal

pub returns : goal.returns
returns c = same_tested c.is_kind.result (ty.Int c.args.kind) c.args.b.now c.is_kind.ensures
