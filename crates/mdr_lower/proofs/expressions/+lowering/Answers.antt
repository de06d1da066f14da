use Rattle.std.proofs.Common.{◌≡◌, List, [], map, ap, subst, sym, ◌∙◌}
use Rattle.mdr_core.specs.declared.code.Step.TheVariants as step
use Rattle.mdr_rich.specs.declared.code.Expr.{Expr as RichExpr}
use Rattle.mdr_rich.specs.Activity.{are_active}
use Rattle.mdr_rich.specs.Carried.{type_of}
use Rattle.mdr_rich.specs.Code.{term_list}
use Rattle.mdr_rich.specs.Folds.{term_of}
use Rattle.mdr_lower.specs.Lowering.{called, keeps, low, part, put}
use Rattle.mdr_lower.proofs.CallArms.{direct_grown, given, service_grown, through_grown}
use Rattle.mdr_lower.proofs.Connected.{and_left, and_told, either_left, either_told, either_behind, then_ok}
use Rattle.mdr_lower.proofs.expressions.+lowering.Goals as goal

pub conjoined-returns-in_ok-branched-clause-grown : goal.conjoined-returns-in_ok-branched-clause-grown
conjoined-returns-in_ok-branched-clause-grown t c =
    and_left c.args.number (term_of c.args.a.now) (term_of c.args.b.now) c.args.work.now c.boxed.new.work c.truth_kept.new.work c.truth_apart.new.work c.branched.new.work c.in_ok-left.left c.in_ok-slot.slot c.in_ok-one.one
    c.in_ok-left.ensures.told c.in_ok-left.ensures.grown (sym c.is_active.ensures ∙ c.if-is_active.true) c.in_ok-slot.ensures.told c.in_ok-slot.ensures.grown c.in_ok-one.ensures.told c.in_ok-one.ensures.grown
    (c.in_ok-branched.ensures ∙ (λ i. put c.args.number (step.If (c.slot_value.ensures i) c.in_ok-one.one (c.new.ensures i)) c.truth_apart.new.work))

pub conjoined-returns-in_ok-right-clause-told : goal.conjoined-returns-in_ok-right-clause-told
conjoined-returns-in_ok-right-clause-told t c =
    and_told c.args.number (term_of c.args.a.now) (term_of c.args.b.now) c.args.work.now c.boxed.new.work c.in_ok-left.left c.in_ok-right.right
    c.in_ok-left.ensures.told c.in_ok-left.ensures.grown (sym c.is_active.ensures ∙ c.if-is_active.false) c.in_ok-right.ensures.told

pub either-returns-in_ok-branched-clause-grown : goal.either-returns-in_ok-branched-clause-grown
either-returns-in_ok-branched-clause-grown t c =
    either_left c.args.number (term_of c.args.b.now) c.args.work.now c.truth_kept.new.work c.truth_apart.new.work c.branched.new.work c.args.left c.in_ok-slot.slot c.in_ok-other.other
    (sym c.is_active.ensures ∙ c.if-is_active.true) c.in_ok-slot.ensures.told c.in_ok-slot.ensures.grown c.in_ok-other.ensures.told c.in_ok-other.ensures.grown
    (c.in_ok-branched.ensures ∙ (λ i. put c.args.number (step.If (c.slot_value.ensures i) (c.new.ensures i) c.in_ok-other.other) c.truth_apart.new.work))

pub either-returns-in_ok-right-clause-told : goal.either-returns-in_ok-right-clause-told
either-returns-in_ok-right-clause-told t c =
    either_told c.args.number (term_of c.args.b.now) c.args.work.now c.args.left c.in_ok-right.right (sym c.is_active.ensures ∙ c.if-is_active.false) c.in_ok-right.ensures.told

pub disjoined-returns-clause-grown : goal.disjoined-returns-clause-grown
disjoined-returns-clause-grown t c =
    then_ok c.either.result
    (λ e. either_behind c.args.number (term_of c.args.b.now) (term_of c.args.a.now) c.args.work.now c.boxed.new.work c.either.new.work c.in_ok-left.left c.in_ok-left.ensures.told c.in_ok-left.ensures.grown e)
    c.either.ensures.grown

pub low-returns-in_ok-args-in-CallDirect-clause-grown : goal.low-returns-in_ok-args-in-CallDirect-clause-grown
low-returns-in_ok-args-in-CallDirect-clause-grown t c =
    let n = c.args.number in
    let w = c.args.work.now in
    let w1 = c.low_args.new.work in
    let es = c.in_ok-args-in-CallDirect.args in
    then_ok c.called.result
    (λ e.
    subst (λ (x : RichExpr). c.called.new.work ≡ (low n (term_of x) w).0) (sym c.in-CallDirect.is)
    (direct_grown n c.in-CallDirect.ty c.in-CallDirect.f c.in-CallDirect.args w w1 c.called.new.work es
    (subst (λ (xs : List RichExpr). es ≡ (given n xs w).1) c.as_slice.ensures c.in_ok-args-in-CallDirect.ensures.told)
    (subst (λ (xs : List RichExpr). w1 ≡ (given n xs w).0) c.as_slice.ensures c.in_ok-args-in-CallDirect.ensures.grown)
    (e ∙ ap (λ form. (called n c.in-CallDirect.ty (w1, form)).0) c.direct.ensures)))
    c.called.ensures.grown

pub low-returns-in_ok-args-in-CallThrough-clause-grown : goal.low-returns-in_ok-args-in-CallThrough-clause-grown
low-returns-in_ok-args-in-CallThrough-clause-grown t c =
    let n = c.args.number in
    let w = c.args.work.now in
    let w0 = c.boxed_part.new.work in
    let w1 = c.low_args-in-CallThrough.new.work in
    let g = c.in_ok-f-in-CallThrough.f in
    let es = c.in_ok-args-in-CallThrough.args in
    let later = c.are_active-later.ensures ∙ ap (λ (xs : List RichExpr). are_active (term_list (map term_of xs))) c.as_slice-in-CallThrough.ensures in
    let first = c.get-in-CallThrough.ensures in
    then_ok c.called-in-CallThrough.result
    (λ e.
    subst (λ (x : RichExpr). c.called-in-CallThrough.new.work ≡ (low n (term_of x) w).0) (sym c.in-CallThrough.is)
    (through_grown n c.in-CallThrough.ty c.in-CallThrough.f c.in-CallThrough.args w w0 w1 c.called-in-CallThrough.new.work g es
    (c.in_ok-f-in-CallThrough.ensures.told ∙ (λ i. (part (keeps (later i) (term_of (first i))) n (type_of (term_of (first i))) (low n (term_of (first i)) w)).1))
    (c.in_ok-f-in-CallThrough.ensures.grown ∙ (λ i. (part (keeps (later i) (term_of (first i))) n (type_of (term_of (first i))) (low n (term_of (first i)) w)).0))
    (subst (λ (xs : List RichExpr). es ≡ (given n xs w0).1) c.as_slice-in-CallThrough-2.ensures c.in_ok-args-in-CallThrough.ensures.told)
    (subst (λ (xs : List RichExpr). w1 ≡ (given n xs w0).0) c.as_slice-in-CallThrough-2.ensures c.in_ok-args-in-CallThrough.ensures.grown)
    (e ∙ ap (λ form. (called n c.in-CallThrough.ty (w1, form)).0) c.through.ensures)))
    c.called-in-CallThrough.ensures.grown

pub low-returns-in_ok-form-in-CallService-clause-grown : goal.low-returns-in_ok-form-in-CallService-clause-grown
low-returns-in_ok-form-in-CallService-clause-grown t c =
    let n = c.args.number in
    let w = c.args.work.now in
    let w1 = c.low_args-in-CallService.new.work in
    let es = c.in_ok-args-in-CallService.args in
    then_ok c.called-in-CallService.result
    (λ e.
    subst (λ (x : RichExpr). c.called-in-CallService.new.work ≡ (low n (term_of x) w).0) (sym c.in-CallService.is)
    (service_grown n c.in-CallService.ty c.in-CallService.n c.in-CallService.args c.in-CallService.shape c.in-CallService.format w w1 c.called-in-CallService.new.work es
    (subst (λ (xs : List RichExpr). es ≡ (given n xs w).1) c.as_slice-in-CallService.ensures c.in_ok-args-in-CallService.ensures.told)
    (subst (λ (xs : List RichExpr). w1 ≡ (given n xs w).0) c.as_slice-in-CallService.ensures c.in_ok-args-in-CallService.ensures.grown)
    (e ∙ ap (λ form. (called n c.in-CallService.ty (w1, form)).0) c.in_ok-form-in-CallService.ensures)))
    c.called-in-CallService.ensures.grown
