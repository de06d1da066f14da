-- Arguments that are known are values of the types of parameters (C99 6.5.2.2).
use Rattle.std.proofs.Common.{◌≡◌, ℕ, suc, ◌+◌, List, [], ◌∷◌, length, map, Option, Some, slice_get, ◌==◌, arith, ap, ◌∙◌, subst, eqb-true}
use Rattle.mdr_rich.specs.declared.code.Expr.{Expr}
use Rattle.mdr_core.specs.declared.place.Place.{Place}
use Rattle.mdr_core.specs.declared.program.Program.{Program}
use Rattle.mdr_core.specs.declared.types.Ty.{Ty}
use Rattle.mdr_rich.specs.Folds.{term_of}
use Rattle.mdr_core.specs.Types.{Scalar, sort_of}
use Rattle.mdr_core.specs.Typing.{Slot}
use Rattle.mdr_rich.specs.Typing.{HaveAll}
use Rattle.mdr_call.specs.declared.parts.Argument.{Argument}
use Rattle.mdr_call.specs.declared.parts.Argument.TheVariants as argument
use Rattle.mdr_call.specs.Arguments.{argument_as, argument_for, arguments_from, arguments_as, converted}
use Rattle.mdr_faults.specs.declared.fault.FaultKind.TheVariants.{BadArity}
use Rattle.mdr_faults.specs.Faults.{Right}
use Rattle.mdr_operand.specs.declared.room.LocalName.{LocalName}
use Rattle.mdr_operand.specs.Written.{Written}
use Rattle.mdr_sound.specs.Operands.{IsOf, IsKnown}
use Rattle.mdr_sound.proofs.Converted.{converted_known}
use Rattle.mdr_sound.proofs.Formed.{AreScalars}
use Rattle.mdr_sound.proofs.Rights.{not_right, same_right, both_right, chosen_right}
use Rattle.mdr_sound.proofs.TypesWritten.{IsWritten}

module _ (program : Program) (slots : List Slot) (names : List LocalName) where
  -- what an argument comes to is known
  abbrev pub IsKnownArgument : Argument → Type 0
  IsKnownArgument (argument.Value x) = (w : Written) × IsKnown program slots names w x
  IsKnownArgument (argument.Text bytes) = Unit {0}
  IsKnownArgument (argument.Type t) = IsWritten program t

  abbrev pub AreKnownArguments : List Argument → Type 0
  AreKnownArguments [] = Unit {0}
  AreKnownArguments (a ∷ rest) = IsKnownArgument a × AreKnownArguments rest

  argument_known : (p : Place) (t : Ty) (a : Argument) (e : Expr) → sort_of (length program.structs) t ≡ Scalar → IsKnownArgument a → argument_as p t a ≡ Right e → IsOf program slots e t
  unfolding argument_as
  argument_known p t (argument.Value x) e f h q = converted_known program slots names h.0 p t x e q h.1 f
  argument_known p t (argument.Text bytes) e f h q = not_right _ e q
  argument_known p t (argument.Type u) e f h q = not_right _ e q

  argument_at : (p : Place) (o : Option Ty) (t : Ty) (a : Argument) (e : Expr) → o ≡ Some t → sort_of (length program.structs) t ≡ Scalar → IsKnownArgument a → argument_for p o a ≡ Right e → IsOf program slots e t
  unfolding argument_for
  argument_at p o t a e is f h q = argument_known p t a e f h (subst (λ o. argument_for p o a ≡ Right e) is q)

  -- the types from number i on are those of the parameters
  record AreFrom (ts : List Ty) (i : ℕ) (params : List Ty) : Type 0 where
    each : (j : ℕ) → slice_get ts (i + j) ≡ slice_get params j

  from_first : (ts : List Ty) (i : ℕ) (t : Ty) (params : List Ty) → AreFrom ts i (t ∷ params) → slice_get ts i ≡ Some t
  from_first ts i t params h =
      let same : i ≡ i + 0 = omega arith in
      ap (slice_get ts) same ∙ h.each 0

  from_next : (ts : List Ty) (i : ℕ) (t : Ty) (params : List Ty) → AreFrom ts i (t ∷ params) → AreFrom ts (i + 1) params
  from_next ts i t params h = record {
    each = λ j.
        let same : (i + 1) + j ≡ i + suc j = omega arith in
        ap (slice_get ts) same ∙ h.each (suc j);
  }

  arguments_known : (p : Place) (ts : List Ty) (i : ℕ) (params : List Ty) (args : List Argument) (es : List Expr) → AreFrom ts i params → length params ≡ length args → AreScalars (length program.structs) params → AreKnownArguments args → arguments_from p ts i args ≡ Right es → HaveAll program slots (map term_of es) params
  unfolding arguments_from
  arguments_known p ts i [] [] es from count f h q = subst (λ (xs : List Expr). HaveAll program slots (map term_of xs) []) (same_right _ _ q) tt
  arguments_known p ts i [] (a ∷ args) es from count f h q = absurd cc
  arguments_known p ts i (t ∷ params) [] es from count f h q = absurd cc
  arguments_known p ts i (t ∷ params) (a ∷ args) es from count f h q =
      let b = both_right (argument_for p (slice_get ts i) a) (arguments_from p ts (i + 1) args) (λ x xs. Right (x ∷ xs)) es q in
      let one = argument_at p (slice_get ts i) t a b.left (from_first ts i t params from) f.0 h.0 b.first in
      let fewer : length params ≡ length args = cc in
      let others = arguments_known p ts (i + 1) params args b.right (from_next ts i t params from) fewer f.1 h.1 b.second in
      subst (λ (xs : List Expr). HaveAll program slots (map term_of xs) (t ∷ params)) (same_right _ _ b.made) (one, others)

  behind_first : (r : Ty) (params : List Ty) → AreFrom (r ∷ params) 1 params
  behind_first r params = record {
    each = λ j.
        let same : 1 + j ≡ suc j = omega arith in
        ap (slice_get (r ∷ params)) same;
  }

  pub arguments_as_known : (p : Place) (r : Ty) (params : List Ty) (args : List Argument) (es : List Expr) → length params ≡ length args → AreScalars (length program.structs) params → AreKnownArguments args → arguments_as p (r ∷ params) args ≡ Right es → HaveAll program slots (map term_of es) params
  arguments_as_known p r params args es count f h q = arguments_known p (r ∷ params) 1 params args es (behind_first r params) count f h q

  pub converted_all : (p : Place) (r : Ty) (params : List Ty) (args : List Argument) (es : List Expr) → AreScalars (length program.structs) params → AreKnownArguments args → converted p (r ∷ params) args ≡ Right es → HaveAll program slots (map term_of es) params
  unfolding converted
  converted_all p r params args es f h q =
      let d = chosen_right (length (r ∷ params) == length args + 1) (arguments_as p (r ∷ params) args) p BadArity es q in
      let count = eqb-true (length (r ∷ params)) (length args + 1) d.holds in
      arguments_as_known p r params args es (omega (arith, count)) f h d.right
