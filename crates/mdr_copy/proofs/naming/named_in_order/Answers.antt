use Rattle.std.proofs.Common.{ℕ, List, sym, ◌∙◌, ap}
use Rattle.std.proofs.lemmas.List.Sorted.{IsNonDecreasingBy-from_sort, list_any-IsPermutation}
use Rattle.std.specs.Prelude.{◌==◌}
use Rattle.mdr_copy.specs.Namings.{is_listed}
use Rattle.mdr_copy.proofs.Births.{listed_is}
use Rattle.mdr_copy.proofs.naming.named_in_order.Goals as goal

pub returns-clause-rise : goal.returns-clause-rise
returns-clause-rise c = IsNonDecreasingBy-from_sort (λ x. x) _ c.sort_unstable.ensures.sorted

pub returns-clause-exact : goal.returns-clause-exact
returns-clause-exact c = λ serial.
    sym (list_any-IsPermutation (λ (s : ℕ). s == serial) _ _ c.sort_unstable.ensures.permutation)
    ∙ ap (λ (xs : List ℕ). is_listed xs serial) c.in_ok-serials.ensures
    ∙ listed_is c.args.values.now serial
