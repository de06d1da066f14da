use Rattle.std.proofs.Common.{◌∙◌, ap, map, length, ◌++◌, ◌∷◌, []}
use Rattle.std.proofs.lemmas.List.{length-map}
use Rattle.mdr_mem.specs.declared.cells.Life.TheVariants.{Birth}
use Rattle.mdr_mem.specs.Contents.{wire_in, born_as}
use Rattle.mdr_mem.specs.Rows.{blocks_of}
use Rattle.mdr_mem.proofs.HandleLaws.{currents-old, wires-current}
use Rattle.mdr_mem.proofs.SoundLaws.{same_contents}
use Rattle.mdr_mem.proofs.rows.Rows.birth.Goals as goal

pub add-requires-clause-cells : goal.add-requires-clause-cells
add-requires-clause-cells c = rw (c.make_room.ensures.births, c.in_ok-cells.ensures) (currents-old c.args.self.now.live.items c.args.self.now.births c.requires.sound.below c.args.first.now)

pub returns-clause-born : goal.returns-clause-born
returns-clause-born c =
    let b = c.in_ok-block.block in
    let hs = c.args.self.now.live.items in
    let live = c.make_room.ensures.live in
    let born = born_as c.args.kind c.args.shape b in
    c.add.ensures.added
    ∙ same_contents (ap (λ l. l ++ b ∷ []) live)
    (λ i. blocks_of (live i) (c.make_room.ensures.held i).slots (live i) ++ record { born = born; cells = map (wire_in (live i)) (c.in_ok-cells.ensures i) } ∷ [])
    (λ i. c.make_room.ensures.lives i ++ Birth ((ap length c.in_ok-cells.ensures ∙ length-map c.args.first.now _) i) ∷ [])
    ∙ same_contents (λ i. hs ++ b ∷ []) (λ i. blocks_of hs c.args.self.now.held.slots hs ++ record { born = born; cells = wires-current hs c.args.first.now i } ∷ []) (λ i. c.args.self.now.lives.items ++ Birth (length c.args.first.now) ∷ [])
