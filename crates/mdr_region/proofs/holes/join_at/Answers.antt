use Rattle.std.proofs.Common.{◌∙◌, ap, arith, rules, ◌<◌, ◌+◌, length, slice_set}
use Rattle.mdr_region.specs.Holes.{hole, end_of}
use Rattle.mdr_region.proofs.HoleLaws.{rise_at, put_joined}
use Rattle.mdr_region.proofs.holes.join_at.Goals as goal

pub overflow_add-first-then-first-next : goal.overflow_add-first-then-first-next
overflow_add-first-then-first-next c =
    let hs = c.args.holes.now.items in
    let k = c.index-next.result.now in
    let l : c.args.i < length hs = search rules in
    omega (arith, rise_at 0 c.args.top c.args.i hs k c.requires.rise l, ap end_of c.index-next.ensures, c.if-first-next.true, c.ranges.top.fits)

pub returns-then-first-next-clause-holes : goal.returns-then-first-next-clause-holes
returns-then-first-next-clause-holes c =
    let hs = c.args.holes.now.items in
    let k = c.index-next.result.now in
    let h = c.args.first in
    let l : c.args.i < length hs = search rules in
    ap (λ x. slice_set hs c.args.i (hole h.start (h.len + x.len))) c.index-next.ensures ∙ put_joined c.args.i hs h k l (c.if-first-next.true ∙ ap (λ x. x.start) c.index-next.ensures)
