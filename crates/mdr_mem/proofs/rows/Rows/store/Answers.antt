use Rattle.std.proofs.Common.{sym, refl, ◌∙◌, ap}
use Rattle.std.specs.Prelude.{option_map}
use Rattle.mdr_meaning.specs.Values.{wire_of}
use Rattle.mdr_mem.specs.Rows.{with_cell, blocks_of}
use Rattle.mdr_mem.specs.Contents.{current, cell_in}
use Rattle.mdr_model.specs.Memory.{put}
use Rattle.mdr_mem.proofs.SoundLaws.{sound-stored, with_held, same_contents}
use Rattle.mdr_mem.proofs.RowLaws.{blocks-stored}
use Rattle.mdr_mem.proofs.HandleLaws.{current-twice, current-old}
use Rattle.mdr_mem.proofs.rows.Rows.store.Goals as goal

pub returns-clause-sound : goal.returns-clause-sound
returns-clause-sound c =
    with_held _ _ (sym (c.requires.sound.held c.args.b) ∙ c.requires.alive)
    (λ x was. sound-stored _ _ _ _ _ _ c.requires.sound c.args.b c.requires.alive c.args.cell c.current-kept.result x was (c.set_cell.ensures.changed ∙ ap (option_map (λ y. with_cell y c.args.cell c.current-kept.result)) was) c.set_cell.ensures.others
    (rw c.current-kept.ensures (current-old c.args.self.now.live.items c.args.self.now.births c.requires.sound.below c.args.v)))

pub returns-clause-stored : goal.returns-clause-stored
returns-clause-stored c =
    let hs = c.args.self.now.live.items in
    let slots = c.args.self.now.held.slots in
    let sound = c.requires.sound in
    with_held _ _ (sym (sound.held c.args.b) ∙ c.requires.alive)
    (λ x was. same_contents refl
    (blocks-stored hs slots c.set_cell.new.held.slots hs c.args.b x c.args.cell c.current-kept.result sound.rise (λ h k. sym (sound.held h) ∙ k) c.requires.alive was
    (c.set_cell.ensures.changed ∙ ap (option_map (λ y. with_cell y c.args.cell c.current-kept.result)) was) c.set_cell.ensures.others
    ∙ ap (λ w. put (blocks_of hs slots hs) (cell_in c.args.b c.args.cell) w) (ap (λ v. wire_of (current hs v)) c.current-kept.ensures ∙ ap wire_of (current-twice hs c.args.v)))
    refl)
