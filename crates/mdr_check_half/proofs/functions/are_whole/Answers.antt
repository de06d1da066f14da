use Rattle.std.proofs.Common.{◌≤◌, subst}
use Rattle.mdr_check_half.specs.Suiting.{is_whole}
use Rattle.mdr_check_half.proofs.Endings.{walk_end}
use Rattle.mdr_check_half.proofs.functions.are_whole.Goals as goal

pub returns : goal.returns
returns c = walk_end is_whole c.args.halves.now c.args.funcs.now c.loop-i.i _ (subst (λ n. n ≤ c.loop-i.i) c.min-i-end.ensures c.loop-i-test.false) c.loop-i.invariant
