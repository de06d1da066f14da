use Rattle.std.proofs.Common.{sym, ◌∙◌, ap, ◌++◌, ◌∷◌, []}
use Rattle.mdr_mem.specs.declared.cells.Life.TheVariants.{Birth}
use Rattle.mdr_mem.proofs.SoundLaws.{sound-born, blocks-added, same_contents}
use Rattle.mdr_mem.proofs.rows.Rows.add.Goals as goal

pub returns-clause-sound : goal.returns-clause-sound
returns-clause-sound c =
    let key = c.insert_reserved.ensures.key ∙ sym c.requires.slot in
    rw (c.push_reserved.ensures.items, c.push_reserved-2.ensures.items, c.push_reserved-2.ensures.capacity)
    (sound-born _ _ _ _ _ _ c.requires.sound c.args.block c.args.held c.requires.serial (rw key at c.insert_reserved.ensures.was_vacant) (rw key at c.insert_reserved.ensures.updates.changed) (λ n k. c.insert_reserved.ensures.updates.others n (λ e. k (e ∙ key))) c.requires.born c.requires.cells _ _ c.requires.room_lives)

pub returns-clause-added : goal.returns-clause-added
returns-clause-added c =
    let key = c.insert_reserved.ensures.key ∙ sym c.requires.slot in
    same_contents c.push_reserved.ensures.items
    (rw c.push_reserved.ensures.items
    (blocks-added _ _ _ _ _ _ c.requires.sound c.args.block c.args.held c.requires.serial (rw key at c.insert_reserved.ensures.was_vacant) (rw key at c.insert_reserved.ensures.updates.changed) (λ n k. c.insert_reserved.ensures.updates.others n (λ e. k (e ∙ key))) c.requires.cells))
    (c.push_reserved-2.ensures.items ∙ ap (λ n. c.args.self.now.lives.items ++ Birth n ∷ []) c.len-cells.ensures)
