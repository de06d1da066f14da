use Rattle.mdr_meaning.specs.Values.{wire_of}
use Rattle.mdr_user_memory.specs.Spots.{cell_in}
use Rattle.mdr_user_memory.proofs.KeptLaws.{put_is, seen_put}
use Rattle.mdr_user_memory.proofs.seen_memory.SeenMemory.put.Goals as goal

pub keep-requires : goal.keep-requires
keep-requires c = c.self.invariant.twin.linked

pub invariant_of-self : goal.invariant_of-self
invariant_of-self c = seen_put c.self.inside.agreed c.self.inside.region c.keep.new.region c.self.inside.pairs (cell_in c.args.spot) (wire_of c.args.value) c.self.invariant c.keep.ensures.moves

pub returns : goal.returns
returns c =
    put_is c.self.inside.agreed c.self.inside.region c.keep.new.region c.self.inside.pairs c.self.inside.view _ (cell_in c.args.spot) (wire_of c.args.value) c.self.view_is c.self.invariant c.keep.ensures.moves c.keep.ensures.lives
