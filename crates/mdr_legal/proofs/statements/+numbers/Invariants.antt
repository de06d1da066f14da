use Rattle.std.proofs.Common.{◌≡◌, drop}
use Rattle.mdr_core.specs.Folds.{codes_of}
use Rattle.mdr_meaning.specs.Fair.{stands}
use Rattle.mdr_legal.proofs.statements.+numbers.Given as goal

abbrev pub invariant-stands-loop-statement : goal.invariant-stands-loop-statement
invariant-stands-loop-statement l = stands l.number (codes_of (drop l.statement-index l.body)) ≡ stands l.number (codes_of l.body)
