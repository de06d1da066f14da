use Rattle.std.proofs.Common.{◌∙◌, ap}
use Rattle.mdr_mem.specs.Contents.{wire_in}
use Rattle.mdr_track.specs.Tracked.{pairs_of}
use Rattle.mdr_track.specs.Pointers.{addressed}
use Rattle.mdr_user_memory.specs.Paired.{told}
use Rattle.mdr_user_memory.proofs.OpeningLaws.{placed_is}
use Rattle.mdr_user_memory.proofs.opening.placed.Goals as goal

pub returns : goal.returns
returns c =
    ap (λ v. told c.args.region.now.contents.handles (pairs_of c.args.pairs.now) (wire_in c.args.region.now.contents.handles v)) (c.addressed.ensures ∙ ap (addressed (pairs_of c.args.pairs.now)) c.value_of.ensures)
    ∙ placed_is c.args.region.now.contents (pairs_of c.args.pairs.now) c.args.wire c.requires.linked c.requires.paired
