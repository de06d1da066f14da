-- The rules of expressions look at no place.
use Rattle.mdr_assign.specs.Assignments.{step_operator}
use Rattle.mdr_core.specs.declared.place.Place.{Place}
use Rattle.mdr_core.specs.declared.types.Ty.{Ty}
use Rattle.mdr_faults.specs.Faults.{Checked}
use Rattle.mdr_faults.specs.declared.scope.Scope.{Scope}
use Rattle.mdr_operand.specs.Converting.{cast_as, cast_rule, cast_to, value_of_type}
use Rattle.mdr_operand.specs.Signs.{binary_operator, prefix_operator}
use Rattle.mdr_operand.specs.Written.{Written, Writtens}
use Rattle.mdr_operand.specs.declared.operand.Operand.{Operand}
use Rattle.mdr_operand.specs.declared.operator.PrefixOperator.{PrefixOperator}
use Rattle.mdr_operand.specs.declared.room.LocalName.{LocalName}
use Rattle.mdr_placeless.proofs.Assigning.{bump_rules}
use Rattle.mdr_placeless.proofs.Binaries.{binary_rules}
use Rattle.mdr_placeless.proofs.Calls.{arguments_by, call_rules, call_values, targets_by}
use Rattle.mdr_placeless.proofs.Chosen.{choice_rules}
use Rattle.mdr_placeless.proofs.Combined.{after_alike, both_alike, needed_alike, next_alike}
use Rattle.mdr_placeless.proofs.Constants.{AreBases, types_named}
use Rattle.mdr_placeless.proofs.Operands.{prefix_rules}
use Rattle.mdr_placeless.proofs.Postfixes.{AreLocalNames, member_rules, name_rules, subscript_rules}
use Rattle.mdr_placeless.proofs.Scopes.{AreScopes, Pairs}
use Rattle.mdr_placeless.proofs.Written.{AreWritten, AreWrittens}
use Rattle.mdr_placeless.proofs.Written.AreWritten.{Binaries, Calls, Casts, Choices, Members, Names, Nulls, Numbers, Posts, Prefixes, Subscripts, Texts, Types}
use Rattle.mdr_placeless.proofs.Written.AreWrittens.{Ends, Thens}
use Rattle.mdr_placeless.specs.Alike.{AreAlike}
use Rattle.mdr_placeless.specs.Alike.AreAlike.{Rights, Wrongs}
use Rattle.mdr_syntax.specs.declared.tree.Base.{Base}
use Rattle.std.proofs.Common.{Bool, List, None, Option, Some, false, true, ℕ}
use Rattle.mdr_express.specs.Expressions.{typed, signed_rule, fronted_by, fronted_rule, behind_sign, arguments_of, call_at}

casts_to : (p q : Place) (u : Ty) (x : Operand) → AreAlike (cast_to p u x) (cast_to q u x)
unfolding cast_to
casts_to p q u x = after_alike (needed_alike p q (value_of_type (cast_as x u) u)) (λ v. Rights _)

module _ {s t : Scope} {ns ms : List LocalName} (a : AreScopes s t) (h : Pairs AreLocalNames ns ms) where
  cast_rules : (p q : Place) {b c : Base} (n : ℕ) {x y : Checked Operand} → AreBases b c → AreAlike x y → AreAlike (cast_rule s p b n x) (cast_rule t q c n y)
  unfolding cast_rule
  cast_rules p q n bs r = both_alike (types_named a bs n) r (casts_to p q)

  signed_rules : (p q : Place) (op : List ℕ) {x y x' y' : Checked Operand} → AreAlike x x' → AreAlike y y' → AreAlike (signed_rule s p op x y) (signed_rule t q op x' y')
  unfolding signed_rule
  signed_rules p q op k l = binary_rules a p q (binary_operator op) k l

  fronts_by : (p q : Place) (up : Option Bool) (op : Option PrefixOperator) {x y : Checked Operand} → AreAlike x y → AreAlike (fronted_by s p up op x) (fronted_by t q up op y)
  fronts_by p q None op r = prefix_rules p q op r
  fronts_by p q (Some up) op r = bump_rules a p q true (Some up) r

  fronts : (p q : Place) (sign : List ℕ) {x y : Checked Operand} → AreAlike x y → AreAlike (fronted_rule s p sign x) (fronted_rule t q sign y)
  unfolding fronted_rule
  fronts p q sign r = fronts_by p q (step_operator sign) (prefix_operator sign) r

  mutual
    pub expressions : {v w : Written} → AreWritten v w → AreAlike (typed s ns v) (typed t ms w)
    expressions (Numbers p q n k) = Rights _
    expressions (Nulls p q) = Rights _
    expressions (Names p q name) = name_rules a h p q name
    expressions (Prefixes p q op r) = fronts p q op (expressions r)
    expressions (Posts p q op r) = bump_rules a p q false (step_operator op) (expressions r)
    expressions (Casts p q n bs r) = cast_rules p q n bs (expressions r)
    expressions (Binaries p q op r k) = signed_rules p q op (expressions r) (expressions k)
    expressions (Choices p q r k l) = choice_rules p q (expressions r) (expressions k) (expressions l)
    expressions (Subscripts p q r k) = subscript_rules a p q (expressions r) (expressions k)
    expressions (Members p q at there is_arrow name r) = member_rules a p q at there name is_arrow (expressions r)
    expressions (Calls p q r rs) = after_alike (call_rules a p q (targets_by r (expressions r) (behind_signs r)) (arguments rs)) (call_values p q)
    expressions (Texts p q bytes) = Wrongs _ _
    expressions (Types p q n bs) = Wrongs _ _

    behind_signs : {v w : Written} → AreWritten v w → AreAlike (behind_sign s ns v) (behind_sign t ms w)
    behind_signs (Numbers p q n k) = Rights _
    behind_signs (Nulls p q) = Rights _
    behind_signs (Names p q name) = Rights _
    behind_signs (Prefixes p q op r) = expressions r
    behind_signs (Posts p q op r) = Rights _
    behind_signs (Casts p q n bs r) = Rights _
    behind_signs (Binaries p q op r k) = Rights _
    behind_signs (Choices p q r k l) = Rights _
    behind_signs (Subscripts p q r k) = Rights _
    behind_signs (Members p q at there is_arrow name r) = Rights _
    behind_signs (Calls p q r rs) = Rights _
    behind_signs (Texts p q bytes) = Rights _
    behind_signs (Types p q n bs) = Rights _

    arguments : {vs ws : Writtens} → AreWrittens vs ws → AreAlike (arguments_of s ns vs) (arguments_of t ms ws)
    arguments Ends = Rights _
    arguments (Thens r rs) = next_alike (arguments_by a r (expressions r)) (arguments rs)

  -- ---- calls as they are written

  pub calls : (p q : Place) {v w : Written} {vs ws : Writtens} → AreWritten v w → AreWrittens vs ws → AreAlike (call_at s ns p v vs) (call_at t ms q w ws)
  unfolding call_at
  calls p q r rs = call_rules a p q (targets_by r (expressions r) (behind_signs r)) (arguments rs)
