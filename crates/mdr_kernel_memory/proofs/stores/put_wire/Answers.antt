use Rattle.mdr_meaning.specs.Values.{wire_of}
use Rattle.mdr_kernel_memory.proofs.Storing.{put_made}
use Rattle.mdr_kernel_memory.proofs.stores.put_wire.Goals as goal

pub returns : goal.returns
returns c = put_made c.args.world.now c.put_at.new.self c.args.serial c.args.index (wire_of c.value_of-value.result) c.args.wire c.value_of-value.ensures c.requires c.put_at.ensures
