use Rattle.std.proofs.Common.{◌≡◌, ◌<◌, ℕ, sym, subst, arith}
use Rattle.mdr_region.specs.Blocks.{IsBlock}
use Rattle.mdr_region.specs.Holes.{Rise}
use Rattle.mdr_region.specs.Layout.{laid}
use Rattle.mdr_region.proofs.DeathLaws.{lowered_low}
use Rattle.mdr_region.proofs.KeptLaws.{kept_rise, kept_death, kept_death_none, death_leaves}
use Rattle.mdr_region.proofs.places.Places.death.Goals as goal

some : (n : ℕ) → (n ≡ 0 → ⊥) → 0 < n
some n e = omega (arith, e)

pub returns-then-cells-eq0-clause-sound : goal.returns-then-cells-eq0-clause-sound
returns-then-cells-eq0-clause-sound c = rw c.and.ensures (kept_death_none _ _ _ _ _ _ _ _ _ c.requires.sound (subst (λ n. IsBlock (laid c.args.self.now.lives).marks c.args.serial c.args.start n) c.if-cells-eq0.true c.requires.block))

pub give_back-requires-clause-rise : goal.give_back-requires-clause-rise
give_back-requires-clause-rise c = kept_rise _ _ _ _ _ _ _ c.requires.sound

pub give_back-requires-clause-low : goal.give_back-requires-clause-low
give_back-requires-clause-low c = (death_leaves _ _ _ _ _ _ _ _ _ _ c.requires.sound (some c.args.cells c.if-cells-eq0.false) c.requires.block).low

pub give_back-requires-clause-room : goal.give_back-requires-clause-room
give_back-requires-clause-room c = (death_leaves _ _ _ _ _ _ _ _ _ _ c.requires.sound (some c.args.cells c.if-cells-eq0.false) c.requires.block).room

pub drop_top-self-requires : goal.drop_top-self-requires
drop_top-self-requires c = subst (λ x. Rise 0 c.args.self.now.top x) (sym c.give_back.ensures.holes) (death_leaves _ _ _ _ _ _ _ _ _ _ c.requires.sound (some c.args.cells c.if-cells-eq0.false) c.requires.block).rise

pub overflow_sub-self : goal.overflow_sub-self
overflow_sub-self c = (death_leaves _ _ _ _ _ _ _ _ _ _ c.requires.sound (some c.args.cells c.if-cells-eq0.false) c.requires.block).fewer

pub overflow_sub-self-2 : goal.overflow_sub-self-2
overflow_sub-self-2 c = (death_leaves _ _ _ _ _ _ _ _ _ _ c.requires.sound (some c.args.cells c.if-cells-eq0.false) c.requires.block).some

pub returns-clause-sound : goal.returns-clause-sound
returns-clause-sound c =
    rw (c.and-2.ensures, c.drop_top-self.ensures.holes, c.drop_top-self.ensures.top, c.give_back.ensures.holes)
    (kept_death _ _ _ _ _ _ _ _ _ _ _ c.requires.sound (omega (arith, c.drop_top-self.ensures.capacity, c.give_back.ensures.capacity)) (some c.args.cells c.if-cells-eq0.false) c.requires.block)

pub returns-clause-spare_cells : goal.returns-clause-spare_cells
returns-clause-spare_cells c =
    let rise = subst (λ x. Rise 0 c.args.self.now.top x) (sym c.give_back.ensures.holes) (death_leaves _ _ _ _ _ _ _ _ _ _ c.requires.sound (some c.args.cells c.if-cells-eq0.false) c.requires.block).rise in
    omega (arith, c.drop_top-self.ensures.top, lowered_low 0 c.args.self.now.top c.give_back.new.holes.items rise)
