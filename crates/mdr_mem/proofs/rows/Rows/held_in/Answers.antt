use Rattle.mdr_mem.proofs.SoundLaws.{cell-inside, cell-value}
use Rattle.mdr_mem.proofs.rows.Rows.held_in.Goals as goal

pub bounds-as_slice-cell : goal.bounds-as_slice-cell
bounds-as_slice-cell c =
    rw c.as_slice.ensures (cell-inside c.args.self.now.live.items c.args.self.now.held.slots _ _ _ c.requires.sound c.args.b c.requires.alive c.held.result.now c.held.ensures c.args.cell c.requires.inside)

pub returns : goal.returns
returns c =
    rw c.as_slice.ensures (cell-value c.args.self.now.live.items c.args.self.now.held.slots _ _ _ c.requires.sound c.args.b c.requires.alive c.held.result.now c.held.ensures c.args.cell _
    (cell-inside c.args.self.now.live.items c.args.self.now.held.slots _ _ _ c.requires.sound c.args.b c.requires.alive c.held.result.now c.held.ensures c.args.cell c.requires.inside))
