use Rattle.mdr_exec.proofs.EvaluationLaws.{passes_value, passes_place, passes_values}
use Rattle.mdr_exec.proofs.laws.evaluation_is_walked.Goals as goal

pub returns : goal.returns
returns g c = record {
  values = λ a m known slots at e. passes_value a m at known slots e;
  places = λ a m known slots at p. passes_place a m at known slots p;
  lists = λ a m known slots at es. passes_values a m at known slots es;
}
