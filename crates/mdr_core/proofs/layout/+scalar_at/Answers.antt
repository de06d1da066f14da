-- The proof of `scalar_at`.
use Rattle.std.proofs.Common.{length, slice_get, ◌%◌, sym, ap, ◌∙◌, arith}
use Rattle.std.proofs.lemmas.Nat.{mod_below}
use Rattle.mdr_core.specs.Layout.{Within, struct_cells}
use Rattle.mdr_core.proofs.Lying.{inner, in_inner, scalar_found}
use Rattle.mdr_core.proofs.layout.+scalar_at.Goals as goal

pub nonzero_rem-at : goal.nonzero_rem-at
nonzero_rem-at t c =
    let at = c.in_ok-at.at in
    let k = inner c.args.structs.now c.args.s c.in-Some.inner at.field.now.count at.cell (Within c.args.s at.number) at.field.now.ty (sym c.struct_named.ensures ∙ c.in-Some.is) c.in_ok-at.ensures.inside in
    rw c.struct_size.ensures k.some

pub scalar_at-requires : goal.scalar_at-requires
scalar_at-requires t c =
    let at = c.in_ok-at.at in
    let k = inner c.args.structs.now c.args.s c.in-Some.inner at.field.now.count at.cell (Within c.args.s at.number) at.field.now.ty (sym c.struct_named.ensures ∙ c.in-Some.is) c.in_ok-at.ensures.inside in
    (omega (arith, c.decreases, k.below), (c.requires.small, (c.requires.few, rw c.struct_size.ensures (mod_below at.cell (length (struct_cells c.args.structs.now c.in-Some.inner)) k.some))))

pub returns-in-Some : goal.returns-in-Some
returns-in-Some t c =
    let at = c.in_ok-at.at in
    let same = in_inner c.args.structs.now c.args.s c.args.cell at.field.now at.number at.cell c.in-Some.inner c.in_ok-at.ensures (sym c.struct_named.ensures ∙ c.in-Some.is) in
    rw (same ∙ ap (λ n. slice_get (struct_cells c.args.structs.now c.in-Some.inner) (at.cell % n)) (sym c.struct_size.ensures)) c.scalar_at.ensures

pub returns-in-None : goal.returns-in-None
returns-in-None t c =
    let at = c.in_ok-at.at in
    scalar_found c.args.structs.now c.args.s c.args.cell at.field.now at.number at.cell c.in_ok-at.ensures (sym c.struct_named.ensures ∙ c.in-None.is)
