use Rattle.std.proofs.Common.{◌-◌, ◌∙◌, ◌++◌, ◌∷◌, [], length, ap, arith}
use Rattle.mdr_mem.specs.declared.cells.Life.TheVariants as life
use Rattle.mdr_mem.specs.Contents.{Contents, after_birth}
use Rattle.mdr_user_memory.proofs.LoopLaws.{not_err}
use Rattle.mdr_user_memory.proofs.StepLaws.{bear_linked, bear_moves}
use Rattle.mdr_user_memory.proofs.TwinLaws.{next_free, shape_in}
use Rattle.mdr_user_memory.proofs.LivedLaws.{lives_born}
use Rattle.mdr_user_memory.proofs.steps.bear.Goals as goal

pub birth-requires-clause-some : goal.birth-requires-clause-some
birth-requires-clause-some c = omega (arith, ap length c.as_slice.ensures, c.requires.fits.some)

pub birth-requires-clause-few : goal.birth-requires-clause-few
birth-requires-clause-few c = omega (arith, ap length c.as_slice.ensures, c.requires.fits.few)

pub pair-requires-clause-room : goal.pair-requires-clause-room
pair-requires-clause-room c = c.requires.fits.has_pairs

pub pair-requires-clause-new : goal.pair-requires-clause-new
pair-requires-clause-new c = c.requires.fits.new

pub pair-requires-clause-free : goal.pair-requires-clause-free
pair-requires-clause-free c = next_free c.in-Ok.block c.requires.linked c.in-Ok.ensures.next

pub unreachable-requires : goal.unreachable-requires
unreachable-requires c = not_err c.birth.result _ (c.birth.ensures.succeeds (omega (arith, ap length c.as_slice.ensures, c.requires.fits.has_cells)) c.requires.fits.has_births) c.in-Err.is

pub returns-clause-linked : goal.returns-clause-linked
returns-clause-linked c =
    bear_linked c.args.new.now c.in-Ok.block _ _ _ _ (c.in-Ok.ensures.born ∙ ap (λ vs. after_birth c.args.new.now.born.kind (shape_in c.args.new.now.born) vs c.in-Ok.block c.args.region.now.contents) c.as_slice.ensures)
    c.pair.ensures.pairs c.births-in_order.ensures.in_order c.in-Ok.ensures.next c.requires.fits.new c.requires.linked

pub returns-clause-moves : goal.returns-clause-moves
returns-clause-moves c =
    bear_moves c.args.new.now c.in-Ok.block _ _ _ _ (c.in-Ok.ensures.born ∙ ap (λ vs. after_birth c.args.new.now.born.kind (shape_in c.args.new.now.born) vs c.in-Ok.block c.args.region.now.contents) c.as_slice.ensures)
    c.pair.ensures.pairs c.births-in_order.ensures.in_order c.in-Ok.ensures.next c.requires.fits.new

pub returns-clause-cells : goal.returns-clause-cells
returns-clause-cells c = c.in-Ok.ensures.cells ∙ ap (λ vs. c.args.region.now.cells - length vs) c.as_slice.ensures

pub returns-clause-room : goal.returns-clause-room
returns-clause-room c = omega (arith, c.pair.ensures.one)

pub returns-clause-lived : goal.returns-clause-lived
returns-clause-lived c =
    lives_born c.args.new.now.born.serial _ c.in-Ok.block _ _ _ _
    (ap (λ (r : Contents). r.lives) c.in-Ok.ensures.born ∙ ap (λ vs. c.args.region.now.contents.lives ++ life.Birth (length vs) ∷ []) c.as_slice.ensures) c.pair.ensures.pairs c.in-Ok.ensures.next
