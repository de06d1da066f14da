use Rattle.std.proofs.Common.{sym, ◌∙◌, ap, arith, rules, ◌≡◌, ◌+◌, ◌-◌, subst, Some, None, List, set}
use Rattle.mdr_region.specs.declared.holes.Hole.{Hole}
use Rattle.mdr_region.specs.Holes.{hole, first_fit}
use Rattle.mdr_region.proofs.HoleLaws.{fits, fits_none, rise_at, cut_here, cut_part}
use Rattle.mdr_region.proofs.holes.take_first.Goals as goal

pub returns-in_err-i-clause-start : goal.returns-in_err-i-clause-start
returns-in_err-i-clause-start c = c.from_residual.ensures ∙ sym (fits_none c.args.n 0 c.args.holes.now.items (subst (λ (x : List Hole). None ≡ first_fit c.args.n 0 x) c.deref.ensures.value c.in_err-i.ensures)).0

pub returns-in_err-i-clause-holes : goal.returns-in_err-i-clause-holes
returns-in_err-i-clause-holes c = sym (fits_none c.args.n 0 c.args.holes.now.items (subst (λ (x : List Hole). None ≡ first_fit c.args.n 0 x) c.deref.ensures.value c.in_err-i.ensures)).1

pub index-first-requires : goal.index-first-requires
index-first-requires c =
    let f = fits c.args.n c.in_ok-i.i c.args.holes.now.items (hole 0 0) (subst (λ (x : List Hole). Some c.in_ok-i.i ≡ first_fit c.args.n 0 x) c.deref.ensures.value c.in_ok-i.ensures) in
    search (rules, f.inside)

pub remove-requires : goal.remove-requires
remove-requires c =
    let f = fits c.args.n c.in_ok-i.i c.args.holes.now.items (hole 0 0) (subst (λ (x : List Hole). Some c.in_ok-i.i ≡ first_fit c.args.n 0 x) c.deref.ensures.value c.in_ok-i.ensures) in
    search (rules, f.inside)

pub overflow_add-first : goal.overflow_add-first
overflow_add-first c =
    let hs = c.args.holes.now.items in
    let d = c.index-first.result.now in
    let f = fits c.args.n c.in_ok-i.i hs d (subst (λ (x : List Hole). Some c.in_ok-i.i ≡ first_fit c.args.n 0 x) c.deref.ensures.value c.in_ok-i.ensures) in
    omega (arith, rise_at 0 c.args.top c.in_ok-i.i hs d c.requires f.inside, f.long, ap (λ x. x.start) c.index-first.ensures, c.ranges.top.fits)

pub overflow_sub-first : goal.overflow_sub-first
overflow_sub-first c =
    let hs = c.args.holes.now.items in
    let d = c.index-first.result.now in
    let f = fits c.args.n c.in_ok-i.i hs d (subst (λ (x : List Hole). Some c.in_ok-i.i ≡ first_fit c.args.n 0 x) c.deref.ensures.value c.in_ok-i.ensures) in
    omega (arith, f.long, ap (λ x. x.len) c.index-first.ensures)

pub index_mut-requires : goal.index_mut-requires
index_mut-requires c =
    let f = fits c.args.n c.in_ok-i.i c.args.holes.now.items (hole 0 0) (subst (λ (x : List Hole). Some c.in_ok-i.i ≡ first_fit c.args.n 0 x) c.deref.ensures.value c.in_ok-i.ensures) in
    search (rules, f.inside)

pub returns-then-first-n-clause-start : goal.returns-then-first-n-clause-start
returns-then-first-n-clause-start c =
    let hs = c.args.holes.now.items in
    let d = c.index-first.result.now in
    let f = fits c.args.n c.in_ok-i.i hs d (subst (λ (x : List Hole). Some c.in_ok-i.i ≡ first_fit c.args.n 0 x) c.deref.ensures.value c.in_ok-i.ensures) in
    ap (λ x. Some x.start) c.index-first.ensures ∙ sym f.start

pub returns-then-first-n-clause-holes : goal.returns-then-first-n-clause-holes
returns-then-first-n-clause-holes c =
    let hs = c.args.holes.now.items in
    let d = c.index-first.result.now in
    let f = fits c.args.n c.in_ok-i.i hs d (subst (λ (x : List Hole). Some c.in_ok-i.i ≡ first_fit c.args.n 0 x) c.deref.ensures.value c.in_ok-i.ensures) in
    c.remove.ensures.items ∙ cut_here c.args.n c.in_ok-i.i hs d f (sym (ap (λ x. x.len) c.index-first.ensures) ∙ c.if-first-n.true)

pub returns-else-first-n-clause-start : goal.returns-else-first-n-clause-start
returns-else-first-n-clause-start c =
    let hs = c.args.holes.now.items in
    let d = c.index-first.result.now in
    let f = fits c.args.n c.in_ok-i.i hs d (subst (λ (x : List Hole). Some c.in_ok-i.i ≡ first_fit c.args.n 0 x) c.deref.ensures.value c.in_ok-i.ensures) in
    ap (λ x. Some x.start) c.index-first.ensures ∙ sym f.start

pub returns-else-first-n-clause-holes : goal.returns-else-first-n-clause-holes
returns-else-first-n-clause-holes c =
    let hs = c.args.holes.now.items in
    let d = c.index-first.result.now in
    let f = fits c.args.n c.in_ok-i.i hs d (subst (λ (x : List Hole). Some c.in_ok-i.i ≡ first_fit c.args.n 0 x) c.deref.ensures.value c.in_ok-i.ensures) in
    ap (λ x. set hs c.in_ok-i.i (hole (x.start + c.args.n) (x.len - c.args.n))) c.index-first.ensures ∙ cut_part c.args.n c.in_ok-i.i hs d f (λ e. c.if-first-n.false (ap (λ x. x.len) c.index-first.ensures ∙ e))
