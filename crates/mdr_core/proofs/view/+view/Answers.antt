-- The proof of `is_in`, `is_in_structs` and `is_in_field`.
use Rattle.std.proofs.Common.{rules, ◌≡◌, length, sym, ap, subst, ◌∙◌, arith, inl, Some, suc}
use Rattle.mdr_core.specs.Layout.{struct_cells, struct_of}
use Rattle.mdr_core.specs.Fields.{IsInField}
use Rattle.mdr_core.proofs.Viewed.{rank, whole_in, in_some, in_field, not_before, not_behind, in_structs, in_fields, has_cells_struct, has_cells_field, rank_field}
use Rattle.mdr_core.proofs.view.+view.Goals as goal

pub is_in-returns-then-is_whole : goal.is_in-returns-then-is_whole
is_in-returns-then-is_whole t c = (λ _. whole_in _ _ _ _ _ (c.is_whole.ensures.0 c.if-is_whole.true), λ _. search rules)

pub is_in-is_in_structs-requires : goal.is_in-is_in_structs-requires
is_in-is_in_structs-requires t c =
    let is : struct_of c.args.ty.now ≡ Some c.in-Some.s = sym c.struct_named.ensures ∙ c.in-Some.is in
    let high : rank (struct_of c.args.ty.now) ≡ suc c.in-Some.s = ap rank is in
    (omega (arith, c.decreases, high), (c.requires.laid, has_cells_struct _ _ _ c.requires.cells is))

pub is_in-returns-in-Some : goal.is_in-returns-in-Some
is_in-returns-in-Some t c = in_some _ _ _ _ _ _ _ _ (sym c.struct_named.ensures ∙ c.in-Some.is) c.if-is_whole.false c.is_whole.ensures c.is_in_structs.ensures

pub is_in_field-is_in-requires : goal.is_in_field-is_in-requires
is_in_field-is_in-requires t c =
    let at : IsInField c.args.program.now.structs c.args.s c.args.inside c.in-Some.at.field.now c.in-Some.at.number c.in-Some.at.cell = subst (λ structs. IsInField structs c.args.s c.args.inside c.in-Some.at.field.now c.in-Some.at.number c.in-Some.at.cell) c.as_slice.ensures c.in-Some.ensures in
    let low = rank_field _ _ _ _ _ _ c.requires.laid at in
    (omega (arith, c.decreases, low), (c.requires.laid, has_cells_field _ _ _ _ _ _ c.requires.laid at))

pub is_in_field-returns-in-Some : goal.is_in_field-returns-in-Some
is_in_field-returns-in-Some t c =
    let at : IsInField c.args.program.now.structs c.args.s c.args.inside c.in-Some.at.field.now c.in-Some.at.number c.in-Some.at.cell = subst (λ structs. IsInField structs c.args.s c.args.inside c.in-Some.at.field.now c.in-Some.at.number c.in-Some.at.cell) c.as_slice.ensures c.in-Some.ensures in
    in_field _ _ _ _ _ _ _ _ c.requires.laid c.requires.behind at c.is_in.ensures

pub is_in_structs-returns-then-view-first : goal.is_in_structs-returns-then-view-first
is_in_structs-returns-then-view-first t c =
    let size = c.struct_size-size.ensures ∙ ap (λ structs. length (struct_cells structs c.args.s)) c.as_slice.ensures in
    not_before _ _ _ _ _ _ _ c.requires.laid (rw size c.requires.cells) size c.if-view-first.true

pub is_in_structs-returns-then-cell-size : goal.is_in_structs-returns-then-cell-size
is_in_structs-returns-then-cell-size t c =
    let size = c.struct_size-size.ensures ∙ ap (λ structs. length (struct_cells structs c.args.s)) c.as_slice.ensures in
    not_behind _ _ _ _ _ _ _ c.requires.laid (rw size c.requires.cells) size c.if-cell-size.true

pub is_in_structs-returns-then-is_whole : goal.is_in_structs-returns-then-is_whole
is_in_structs-returns-then-is_whole t c =
    let size = c.struct_size-size.ensures ∙ ap (λ structs. length (struct_cells structs c.args.s)) c.as_slice.ensures in
    (λ _. in_structs _ _ _ _ _ _ _ size c.if-view-first.false c.if-cell-size.false (inl (c.is_whole.ensures.0 c.if-is_whole.true)), λ _. c.if-is_whole.true)

pub is_in_structs-returns-else-is_whole : goal.is_in_structs-returns-else-is_whole
is_in_structs-returns-else-is_whole t c =
    let size = c.struct_size-size.ensures ∙ ap (λ structs. length (struct_cells structs c.args.s)) c.as_slice.ensures in
    in_fields _ _ _ _ _ _ _ _ _ c.requires.laid (rw size c.requires.cells) size c.if-view-first.false c.if-cell-size.false c.if-is_whole.false c.is_whole.ensures c.is_in_field.ensures
