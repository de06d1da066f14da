-- The ticks that messages grant.
use Rattle.std.proofs.Common.{◌≡◌, ◌+◌, List, [], ◌∷◌, ◌++◌, arith}
use Rattle.mdr_model.specs.KernelState.{Reading}
use Rattle.mdr_model.specs.User.{granted, allowance}

pub allowance-append : (xs ys : List Reading) → allowance (xs ++ ys) ≡ allowance xs + allowance ys
unfolding allowance
allowance-append [] ys = omega arith
allowance-append (x ∷ xs) ys = omega (arith, allowance-append xs ys)

pub allowance_one : (x : Reading) → allowance (x ∷ []) ≡ granted x
unfolding allowance
allowance_one x = omega arith
