use Rattle.mdr_mem.proofs.SoundLaws.{born-value}
use Rattle.mdr_mem.proofs.rows.Rows.born.Goals as goal

pub returns : goal.returns
returns c = born-value c.args.self.now.live.items c.args.self.now.held.slots _ _ _ c.requires.sound c.args.b c.requires.alive c.held.result.now c.held.ensures
