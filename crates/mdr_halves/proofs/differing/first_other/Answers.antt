use Rattle.mdr_halves.specs.declared.mismatch.Which.TheVariants as which
use Rattle.mdr_halves.proofs.Steps.{first_kernel, first_plan, first_user, same_text}
use Rattle.mdr_halves.proofs.differing.first_other.Goals as goal

pub returns-in-Some : goal.returns-in-Some
returns-in-Some c = first_kernel c.args.given.now c.args.due.now _ _ _ c.in-Some.mismatch c.as_slice.ensures c.as_slice-2.ensures c.other_in.ensures c.in-Some.is

pub returns-in-Some-other_in : goal.returns-in-Some-other_in
returns-in-Some-other_in c =
    first_user c.args.given.now c.args.due.now _ _ _ c.in-Some-other_in.mismatch (same_text which.Kernel c.args.given.now.kernel c.args.due.now.kernel _ _ _ c.as_slice.ensures c.as_slice-2.ensures c.other_in.ensures c.in-None.is)
    c.as_slice-in-None.ensures c.as_slice-in-None-2.ensures c.other_in-in-None.ensures c.in-Some-other_in.is

pub returns-in-None-other_in : goal.returns-in-None-other_in
returns-in-None-other_in c =
    first_plan c.args.given.now c.args.due.now _ _ c.other_in-in-None-other_in.result (same_text which.Kernel c.args.given.now.kernel c.args.due.now.kernel _ _ _ c.as_slice.ensures c.as_slice-2.ensures c.other_in.ensures c.in-None.is)
    (same_text which.User c.args.given.now.user c.args.due.now.user _ _ _ c.as_slice-in-None.ensures c.as_slice-in-None-2.ensures c.other_in-in-None.ensures c.in-None-other_in.is) c.as_slice-in-None-other_in.ensures c.as_slice-in-None-other_in-2.ensures
    c.other_in-in-None-other_in.ensures
