use Rattle.std.proofs.Common.{sym, ◌∙◌, ap, arith, ◌≡◌, ◌+◌, ◌++◌, length, take, drop, subst, List, true, false, remove}
use Rattle.mdr_region.specs.declared.holes.Hole.{Hole}
use Rattle.mdr_region.specs.Holes.{hole, joined, Rise, passed_by, is_met}
use Rattle.mdr_region.proofs.HoleLaws.{rise_remove, passes, meets, apart}
use Rattle.mdr_region.proofs.holes.give_back.Goals as goal

pub join_at-requires-clause-rise : goal.join_at-requires-clause-rise
join_at-requires-clause-rise c = subst (λ x. Rise 0 c.args.top x) (sym c.remove-before.ensures.items) (rise_remove 0 c.args.top c.passed-i.result c.args.holes.now.items c.requires.rise)

pub join_at-requires-else-ends_at-clause-inside : goal.join_at-requires-else-ends_at-clause-inside
join_at-requires-else-ends_at-clause-inside c =
    let hs = c.args.holes.now.items in
    passes c.args.start c.passed-i.result hs (c.passed-i.ensures ∙ ap (passed_by c.args.start) c.deref.ensures.value)

pub join_at-requires-else-ends_at-clause-room : goal.join_at-requires-else-ends_at-clause-room
join_at-requires-else-ends_at-clause-room c =
    let hs = c.args.holes.now.items in
    let i = c.passed-i.result in
    let e : i ≡ passed_by c.args.start hs = c.passed-i.ensures ∙ ap (passed_by c.args.start) c.deref.ensures.value in
    let m : is_met c.args.start (drop i hs) ≡ false = sym (subst (λ (x : List Hole). false ≡ is_met c.args.start (drop i x)) c.deref-2.ensures.value c.if-ends_at.ensures) in
    omega (arith, c.requires.room, ap length (apart c.args.start c.args.len i hs e m))

pub returns-then-ends_at-clause-holes : goal.returns-then-ends_at-clause-holes
returns-then-ends_at-clause-holes c =
    let hs = c.args.holes.now.items in
    let i = c.passed-i.result in
    let d = c.remove-before.result in
    let e : i ≡ passed_by c.args.start hs = c.passed-i.ensures ∙ ap (passed_by c.args.start) c.deref.ensures.value in
    let m : is_met c.args.start (drop i hs) ≡ true = sym (subst (λ (x : List Hole). true ≡ is_met c.args.start (drop i x)) c.deref-2.ensures.value c.if-ends_at.ensures) in
    c.join_at.ensures.holes
    ∙ (ap (λ x. take i x ++ joined (hole d.start (d.len + c.args.len)) (drop i x)) c.remove-before.ensures.items
    ∙ (ap (λ (y : Hole). take i (remove hs i) ++ joined (hole y.start (y.len + c.args.len)) (drop i (remove hs i))) c.remove-before.ensures.value
    ∙ sym (meets c.args.start c.args.len i hs d e m).same))

pub returns-else-ends_at-clause-holes : goal.returns-else-ends_at-clause-holes
returns-else-ends_at-clause-holes c =
    let hs = c.args.holes.now.items in
    let i = c.passed-i.result in
    let e : i ≡ passed_by c.args.start hs = c.passed-i.ensures ∙ ap (passed_by c.args.start) c.deref.ensures.value in
    let m : is_met c.args.start (drop i hs) ≡ false = sym (subst (λ (x : List Hole). false ≡ is_met c.args.start (drop i x)) c.deref-2.ensures.value c.if-ends_at.ensures) in
    c.join_at-else-ends_at.ensures.holes ∙ sym (apart c.args.start c.args.len i hs e m)
