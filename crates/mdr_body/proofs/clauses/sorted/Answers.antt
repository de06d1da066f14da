use Rattle.std.proofs.Common.{ap}
use Rattle.std.proofs.Math.Path.{◌∙◌}
use Rattle.mdr_body.specs.declared.clauses.SortedClauses.{SortedClauses}
use Rattle.mdr_body.specs.Clauses.{no_clauses, with_clause}
use Rattle.mdr_body.proofs.Switching.{sorted_more}
use Rattle.mdr_body.proofs.clauses.sorted.Goals as goal

pub loop-c-preserved : goal.loop-c-preserved
loop-c-preserved c = c.in_ok-all.ensures ∙ ap (λ (s : SortedClauses). with_clause s c.in-Some.c) c.loop-c.invariant ∙ sorted_more no_clauses c.loop-c.yielded c.in-Some.c
