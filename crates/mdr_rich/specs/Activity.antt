-- believed
-- Which forms are active: a call, `++`, `--` or `?:` stands in them, so that they take ticks of their own (C99 6.5.2.2, 6.5.2.4, 6.5.3.1, 6.5.15).
use Rattle.std.specs.Prelude.{Bool, true, false, ◌||◌}
use Rattle.mdr_rich.specs.Code.{Term, Lvalue, Terms}

abbrev mutual
  pub is_active : Term → Bool
  is_active (Term.Lit v) = false
  is_active (Term.Load p) = is_active_place p
  is_active (Term.Addr p) = is_active_place p
  is_active (Term.Decay p) = is_active_place p
  is_active (Term.Neg k e) = is_active e
  is_active (Term.Flip k e) = is_active e
  is_active (Term.Not e) = is_active e
  is_active (Term.Bin op k a b) = is_active a || is_active b
  is_active (Term.Rel op a b) = is_active a || is_active b
  is_active (Term.And a b) = is_active a || is_active b
  is_active (Term.Or a b) = is_active a || is_active b
  is_active (Term.Conv k e) = is_active e
  is_active (Term.ToVoid e) = is_active e
  is_active (Term.FromVoid t e) = is_active e
  is_active (Term.Move back p i) = is_active p || is_active i
  is_active (Term.Diff p q) = is_active p || is_active q
  is_active (Term.Cond t c a b) = true
  is_active (Term.Call t f args shape format) = true
  is_active (Term.Bump t up first p) = true

  pub is_active_place : Lvalue → Bool
  is_active_place (Lvalue.Slot i t) = false
  is_active_place (Lvalue.Object i t) = false
  is_active_place (Lvalue.Global g t) = false
  is_active_place (Lvalue.Deref e) = is_active e
  is_active_place (Lvalue.Member p f t) = is_active_place p
  is_active_place (Lvalue.Index p e) = is_active_place p || is_active e

-- one of them is
abbrev pub are_active : Terms → Bool
are_active Terms.End = false
are_active (Terms.Then e es) = is_active e || are_active es

-- literals, and forms that end in a value which is kept anyway: none of them is kept once more in front of an active form. A conversion counts as its operand
abbrev pub is_settled : Term → Bool
is_settled (Term.Lit v) = true
is_settled (Term.Load p) = false
is_settled (Term.Addr p) = false
is_settled (Term.Decay p) = false
is_settled (Term.Neg k e) = false
is_settled (Term.Flip k e) = false
is_settled (Term.Not e) = false
is_settled (Term.Bin op k a b) = false
is_settled (Term.Rel op a b) = false
is_settled (Term.And a b) = is_active b
is_settled (Term.Or a b) = is_active b
is_settled (Term.Conv k e) = is_settled e
is_settled (Term.ToVoid e) = is_settled e
is_settled (Term.FromVoid t e) = is_settled e
is_settled (Term.Move back p i) = false
is_settled (Term.Diff p q) = false
is_settled (Term.Cond t c a b) = true
is_settled (Term.Call t f args shape format) = true
is_settled (Term.Bump t up first p) = true
