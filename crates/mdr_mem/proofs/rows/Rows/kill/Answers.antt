use Rattle.std.proofs.Common.{arith}
use Rattle.mdr_mem.proofs.SoundLaws.{sound-died, blocks-died, handle-length, same_contents}
use Rattle.mdr_mem.proofs.rows.Rows.kill.Goals as goal

pub push_reserved-requires : goal.push_reserved-requires
push_reserved-requires c = omega (arith, c.requires.sound.roomy, handle-length c.args.self.now.live.items c.args.b c.requires.alive)

pub returns-clause-sound : goal.returns-clause-sound
returns-clause-sound c =
    rw (c.forget.ensures.items, c.push_reserved.ensures.items, c.push_reserved.ensures.capacity)
    (sound-died _ _ _ _ _ _ c.requires.sound c.args.b c.requires.alive c.remove.ensures.updates.changed c.remove.ensures.updates.others)

pub returns-clause-dead : goal.returns-clause-dead
returns-clause-dead c =
    same_contents c.forget.ensures.items
    (rw c.forget.ensures.items (blocks-died _ _ _ _ _ _ c.requires.sound c.args.b c.requires.alive c.remove.ensures.updates.changed c.remove.ensures.updates.others))
    c.push_reserved.ensures.items
