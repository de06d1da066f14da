use Rattle.std.proofs.Common.{◌≤◌, length, arith}
use Rattle.mdr_check.proofs.Tabling.{front_ends}
use Rattle.mdr_check.proofs.table.is_before.Goals as goal

pub returns-then-i-xs : goal.returns-then-i-xs
returns-then-i-xs c = front_ends c.args.xs.now c.args.ys.now c.loop-i.i _ (let e : length c.args.xs.now ≤ c.loop-i.i = omega (arith, c.if-i-xs.true) in e) c.loop-i-test.true c.loop-i.invariant.1
