-- All code is within no bound.
use Rattle.std.proofs.Common.{ℕ, List, [], ◌∷◌, Option, Some, None, refl}
use Rattle.mdr_core.specs.declared.program.Program.{Program}
use Rattle.mdr_core.specs.declared.value.Value.{Value}
use Rattle.mdr_core.specs.declared.value.Value.TheVariants as value
use Rattle.mdr_core.specs.Code.{Term, Lvalue, Called, Goal, Code, Codes}
use Rattle.mdr_core.specs.Typing.{Slot}
use Rattle.mdr_meaning.specs.Within.{ValueWithin, TermWithin, LvalueWithin, TermsWithin, CalleeWithin, GoalWithin, OptionWithin, CodeWithin, CodesWithin, FirstWithin, all_uses, AllKeepToIt}

all_value : (v : Value) → ValueWithin all_uses.taken v
all_value (value.Fn f) = refl
all_value v = tt

mutual
  all_term : (e : Term) → TermWithin all_uses.taken e
  all_term (Term.Lit v) = all_value v
  all_term (Term.Load p) = all_lvalue p
  all_term (Term.Addr p) = all_lvalue p
  all_term (Term.Decay p) = all_lvalue p
  all_term (Term.Neg k e) = all_term e
  all_term (Term.Flip k e) = all_term e
  all_term (Term.Not e) = all_term e
  all_term (Term.Bin op k a b) = (all_term a, all_term b)
  all_term (Term.Rel op a b) = (all_term a, all_term b)
  all_term (Term.And a b) = (all_term a, all_term b)
  all_term (Term.Or a b) = (all_term a, all_term b)
  all_term (Term.Conv k e) = all_term e
  all_term (Term.ToVoid e) = all_term e
  all_term (Term.FromVoid t e) = all_term e
  all_term (Term.Move back p i) = (all_term p, all_term i)
  all_term (Term.Diff p q) = (all_term p, all_term q)

  all_lvalue : (p : Lvalue) → LvalueWithin all_uses.taken p
  all_lvalue (Lvalue.Slot i) = tt
  all_lvalue (Lvalue.Object i) = tt
  all_lvalue (Lvalue.Global g) = tt
  all_lvalue (Lvalue.Deref e) = all_term e
  all_lvalue (Lvalue.Member p f) = all_lvalue p
  all_lvalue (Lvalue.Index p e) = (all_lvalue p, all_term e)

all_terms : (es : List Term) → TermsWithin all_uses.taken es
all_terms [] = tt
all_terms (e ∷ es) = (all_term e, all_terms es)

all_goal : (goal : Goal) → GoalWithin all_uses.taken goal
all_goal Goal.Nowhere = tt
all_goal (Goal.Into p) = all_lvalue p
all_goal Goal.Back = tt

all_option : (e : Option Term) → OptionWithin all_uses.taken e
all_option None = tt
all_option (Some e) = all_term e

module _ (program : Program) (slots : List Slot) (caller : ℕ) where
  all_first : (es : List Term) → FirstWithin program all_uses slots caller es
  all_first [] = tt
  all_first (e ∷ es) = λ f func names typed taken. refl

  all_callee : (c : Called) (args : List Term) → CalleeWithin program all_uses slots caller c args
  all_callee (Called.Direct f) args = refl
  all_callee (Called.Through e) args = (all_term e, λ f func names typed taken. refl)
  all_callee (Called.Service n) args = (λ f names is. refl, λ back. all_first args)

  mutual
    all_code : (c : Code) → CodeWithin program all_uses slots caller c
    all_code (Code.Declare n i) = tt
    all_code (Code.Text n i bytes) = tt
    all_code (Code.Assign n p e) = (all_lvalue p, all_term e)
    all_code (Code.Call n goal form) = (all_goal goal, (all_callee form.callee form.args, all_terms form.args))
    all_code (Code.If n e one other) = (all_term e, all_codes one, all_codes other)
    all_code (Code.Loop n e step body) = (all_term e, all_codes step, all_codes body)
    all_code (Code.Block body) = all_codes body
    all_code (Code.Return n e) = all_option e
    all_code (Code.Jump n way) = tt

    all_codes : (cs : Codes) → CodesWithin program all_uses slots caller cs
    all_codes Codes.End = tt
    all_codes (Codes.Then c cs) = (all_code c, all_codes cs)

pub all_keep_to_it : AllKeepToIt
all_keep_to_it = (λ program side. record { bodies = λ f body own. all_codes program body.slots f body.code }, all_term)
