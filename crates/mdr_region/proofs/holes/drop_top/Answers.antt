use Rattle.std.proofs.Common.{sym, ◌∙◌, ap, arith, rules, ◌<◌, ◌≡◌, ◌-◌, length, suc}
use Rattle.mdr_region.specs.Holes.{end_of}
use Rattle.mdr_region.proofs.HoleLaws.{rise_at, top_ends, top_free, top_none}
use Rattle.mdr_region.proofs.holes.drop_top.Goals as goal

pub overflow_add-last : goal.overflow_add-last
overflow_add-last c =
    let hs = c.args.holes.now.items in
    let d = c.index-last.result.now in
    let l : c.len-n.result - 1 < length hs = search rules in
    omega (arith, rise_at 0 c.args.top (c.len-n.result - 1) hs d c.requires l, ap end_of c.index-last.ensures, c.ranges.top.fits)

pub returns-then-last-top-clause-top : goal.returns-then-last-top-clause-top
returns-then-last-top-clause-top c =
    let hs = c.args.holes.now.items in
    let d = c.index-last.result.now in
    let l : length hs ≡ suc (c.len-n.result - 1) = search rules in
    ap (λ x. x.start) c.index-last.ensures ∙ sym (top_ends 0 c.args.top (c.len-n.result - 1) hs d c.requires l (sym (ap end_of c.index-last.ensures) ∙ c.if-last-top.true)).1

pub returns-then-last-top-clause-holes : goal.returns-then-last-top-clause-holes
returns-then-last-top-clause-holes c =
    let hs = c.args.holes.now.items in
    let d = c.index-last.result.now in
    let l : length hs ≡ suc (c.len-n.result - 1) = search rules in
    c.truncate.ensures.items ∙ sym (top_ends 0 c.args.top (c.len-n.result - 1) hs d c.requires l (sym (ap end_of c.index-last.ensures) ∙ c.if-last-top.true)).0

pub returns-else-last-top-clause-top : goal.returns-else-last-top-clause-top
returns-else-last-top-clause-top c =
    let hs = c.args.holes.now.items in
    let d = c.index-last.result.now in
    let l : length hs ≡ suc (c.len-n.result - 1) = search rules in
    sym (top_free 0 c.args.top (c.len-n.result - 1) hs d c.requires l (λ e. c.if-last-top.false (ap end_of c.index-last.ensures ∙ e))).1

pub returns-else-last-top-clause-holes : goal.returns-else-last-top-clause-holes
returns-else-last-top-clause-holes c =
    let hs = c.args.holes.now.items in
    let d = c.index-last.result.now in
    let l : length hs ≡ suc (c.len-n.result - 1) = search rules in
    sym (top_free 0 c.args.top (c.len-n.result - 1) hs d c.requires l (λ e. c.if-last-top.false (ap end_of c.index-last.ensures ∙ e))).0

pub returns-else-n-gt0-clause-top : goal.returns-else-n-gt0-clause-top
returns-else-n-gt0-clause-top c =
    let l : length c.args.holes.now.items ≡ 0 = search rules in
    sym (top_none c.args.top c.args.holes.now.items l).1

pub returns-else-n-gt0-clause-holes : goal.returns-else-n-gt0-clause-holes
returns-else-n-gt0-clause-holes c =
    let l : length c.args.holes.now.items ≡ 0 = search rules in
    sym (top_none c.args.top c.args.holes.now.items l).0
