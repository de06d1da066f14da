use Rattle.std.proofs.Common.{length}
use Rattle.mdr_script.proofs.values.+bind_args.Given as goal

abbrev pub decreases-bind_args : goal.decreases-bind_args
decreases-bind_args l = length l.params.now
