use Rattle.mdr_mem.proofs.SoundLaws.{cells-of}
use Rattle.mdr_mem.proofs.rows.Rows.cells.Goals as goal

pub returns : goal.returns
returns c = λ index. rw c.as_slice.ensures (cells-of c.args.self.now.live.items c.args.self.now.held.slots _ _ _ c.requires.sound c.args.b c.requires.alive c.held.result.now c.held.ensures index)
