use Rattle.std.proofs.Common.{◌≡◌, ◌-◌, suc, arith}
use Rattle.mdr_core.specs.Layout.{Alone, leaves, struct_cells}
use Rattle.mdr_program.proofs.Zeroing.{one_less, none_left}
use Rattle.mdr_program.proofs.values.add_zeros.Goals as goal

pub loop-left-preserved : goal.loop-left-preserved
loop-left-preserved c = one_less _ c.loop-left.left (c.loop-left.left - 1) _ _ _ (let e : c.loop-left.left ≡ suc (c.loop-left.left - 1) = omega (arith, c.loop-left-test.true) in e) c.in_ok-add_element.ensures c.loop-left.invariant

pub returns : goal.returns
returns c = none_left (leaves (struct_cells c.args.structs.now) Alone c.args.o.now.ty) c.loop-left.left _ _ (let e : c.loop-left.left ≡ 0 = omega (arith, c.loop-left-test.false) in e) c.loop-left.invariant
