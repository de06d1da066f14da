use Rattle.mdr_model.specs.Copies.{numbered, put_all}
use Rattle.mdr_kernel_memory.specs.Holding.{holding}
use Rattle.mdr_kernel_memory.proofs.Storing.{row_all, row_begins, row_next, row_now}
use Rattle.mdr_kernel_memory.proofs.stores.put_row.Goals as goal

pub loop-i-init : goal.loop-i-init
loop-i-init c = row_begins c.args.serial c.args.first c.args.values.now c.args.world.now c.requires

pub put_wire-requires : goal.put_wire-requires
put_wire-requires c =
    row_now c.args.serial c.args.first c.args.values.now c.loop-i.i _ c.loop-i.world (holding (put_all (numbered c.args.serial c.args.first c.args.values.now) c.args.world.now.world.memory) c.args.world.now)
    c.loop-i-test.true c.loop-i.invariant

pub loop-i-preserved : goal.loop-i-preserved
loop-i-preserved c =
    row_next c.args.serial c.args.first c.args.values.now c.loop-i.i _ c.loop-i.world c.put_wire.new.world (holding (put_all (numbered c.args.serial c.args.first c.args.values.now) c.args.world.now.world.memory) c.args.world.now)
    c.loop-i-test.true c.put_wire.ensures c.loop-i.invariant

pub returns : goal.returns
returns c =
    row_all c.args.serial c.args.first c.args.values.now c.loop-i.i c.loop-i.world (holding (put_all (numbered c.args.serial c.args.first c.args.values.now) c.args.world.now.world.memory) c.args.world.now)
    c.loop-i-test.false c.loop-i.invariant
