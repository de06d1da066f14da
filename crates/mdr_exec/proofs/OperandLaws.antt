-- Operators with two operands, of expressions of the code.
use Rattle.std.proofs.Common.{◌≡◌, Bool, List, Result, ap, sym, ◌∙◌}
use Rattle.mdr_core.specs.declared.kind.Kind.{Kind}
use Rattle.mdr_core.specs.declared.program.Program.{Program}
use Rattle.mdr_core.specs.declared.stop.StopKind.{StopKind}
use Rattle.mdr_core.specs.declared.code.BinOp.{BinOp}
use Rattle.mdr_core.specs.declared.code.RelOp.{RelOp}
use Rattle.mdr_core.specs.declared.code.Expr.{Expr}
use Rattle.mdr_core.specs.declared.code.Expr.TheVariants as expr
use Rattle.mdr_core.specs.declared.code.Lval.{Lval}
use Rattle.mdr_core.specs.declared.code.Lval.TheVariants as lval
use Rattle.mdr_core.specs.Folds.{term_of, lvalue_of}
use Rattle.mdr_core.specs.Operators.{operated}
use Rattle.mdr_core.proofs.Coded.{bin_is, rel_is, move_is, index_is}
use Rattle.mdr_meaning.specs.declared.wire.Wire.{Wire}
use Rattle.mdr_meaning.specs.Bodies.{known_of, without_funcs}
use Rattle.mdr_meaning.specs.Pointers.{moved, related, steps}
use Rattle.mdr_meaning.specs.Values.{at_kind, integer, operand, right_operand}
use Rattle.mdr_meaning.specs.Walk.{Accesses}
use Rattle.mdr_exec.specs.Evaluation.{after_value, place_of, value_of}

-- one result after the other
abbrev pub with_both : Result Wire StopKind → Result Wire StopKind → (Wire → Wire → Result Wire StopKind) → Result Wire StopKind
with_both l r go = after_value l (λ v. after_value r (λ w. go v w))

both_come : (l l' r r' : Result Wire StopKind) (go : Wire → Wire → Result Wire StopKind) → l ≡ l' → r ≡ r' → with_both l r go ≡ with_both l' r' go
both_come l l' r r' go p q = ap (λ x. with_both x r go) p ∙ ap (λ x. with_both l' x go) q

module _ {M : Type 0} (a : Accesses M) (m : M) (program : Program) (s : List Wire) where
  abbrev valued : Expr → Result Wire StopKind
  valued e = value_of a m (known_of program) s (term_of e)

  abbrev placed : Lval → Result Wire StopKind
  placed p = place_of a m (known_of program) s (lvalue_of p)

  pub bin_comes : (e ex ey x y : Expr) (op : BinOp) (kind : Kind) (l r out : Result Wire StopKind) → e ≡ expr.Bin op kind x y → ex ≡ x → ey ≡ y
      → l ≡ value_of a m (known_of program) s (term_of ex) → r ≡ value_of a m (known_of program) s (term_of ey)
      → out ≡ after_value l (λ v. after_value r (λ w. at_kind kind (operated op kind (operand kind v) (right_operand op kind (integer w))))) → out ≡ value_of a m (known_of program) s (term_of e)
  unfolding value_of
  bin_comes e ex ey x y op kind l r out is p q le re oe =
      oe ∙ both_come l (valued x) r (valued y) (λ v w. at_kind kind (operated op kind (operand kind v) (right_operand op kind (integer w)))) (le ∙ ap valued p) (re ∙ ap valued q)
      ∙ sym (ap (value_of a m (known_of program) s) (ap term_of is ∙ bin_is op kind x y))

  pub rel_comes : (e ex ey x y : Expr) (op : RelOp) (l r out : Result Wire StopKind) → e ≡ expr.Rel op x y → ex ≡ x → ey ≡ y
      → l ≡ value_of a m (known_of program) s (term_of ex) → r ≡ value_of a m (known_of program) s (term_of ey)
      → out ≡ after_value l (λ v. after_value r (λ w. related (without_funcs program) op v w)) → out ≡ value_of a m (known_of program) s (term_of e)
  unfolding value_of
  rel_comes e ex ey x y op l r out is p q le re oe =
      oe ∙ both_come l (valued x) r (valued y) (λ v w. related (without_funcs program) op v w) (le ∙ ap valued p) (re ∙ ap valued q)
      ∙ sym (ap (value_of a m (known_of program) s) (ap term_of is ∙ rel_is op x y))

  pub move_comes : (e ex ey x y : Expr) (back : Bool) (l r out : Result Wire StopKind) → e ≡ expr.Move back x y → ex ≡ x → ey ≡ y
      → l ≡ value_of a m (known_of program) s (term_of ex) → r ≡ value_of a m (known_of program) s (term_of ey)
      → out ≡ after_value l (λ v. after_value r (λ w. moved v (steps back (integer w)))) → out ≡ value_of a m (known_of program) s (term_of e)
  unfolding value_of
  move_comes e ex ey x y back l r out is p q le re oe =
      oe ∙ both_come l (valued x) r (valued y) (λ v w. moved v (steps back (integer w))) (le ∙ ap valued p) (re ∙ ap valued q)
      ∙ sym (ap (value_of a m (known_of program) s) (ap term_of is ∙ move_is back x y))

  pub index_comes : (p px x : Lval) (ey y : Expr) (l r out : Result Wire StopKind) → p ≡ lval.Index x y → px ≡ x → ey ≡ y
      → l ≡ place_of a m (known_of program) s (lvalue_of px) → r ≡ value_of a m (known_of program) s (term_of ey)
      → out ≡ after_value l (λ v. after_value r (λ w. moved v (integer w))) → out ≡ place_of a m (known_of program) s (lvalue_of p)
  unfolding place_of
  index_comes p px x ey y l r out is h q le re oe =
      oe ∙ both_come l (placed x) r (valued y) (λ v w. moved v (integer w)) (le ∙ ap placed h) (re ∙ ap valued q)
      ∙ sym (ap (place_of a m (known_of program) s) (ap lvalue_of is ∙ index_is x y))
