-- The trees of expressions and lvalues pass on what the expressions and lvalues come to.
use Rattle.std.proofs.Common.{◌≡◌, ℕ, Bool, true, false, not, List, [], ◌∷◌, Result, Ok, Err, refl, ◌∙◌}
use Rattle.mdr_core.specs.declared.place.At.{At}
use Rattle.mdr_core.specs.declared.stop.StopKind.{StopKind}
use Rattle.mdr_core.specs.Code.{Term, Lvalue}
use Rattle.mdr_core.specs.Conversions.{converted}
use Rattle.mdr_core.specs.Layout.{chosen}
use Rattle.mdr_core.specs.Operators.{operated, negated, flipped}
use Rattle.mdr_meaning.specs.declared.wire.Wire.{Wire}
use Rattle.mdr_meaning.specs.declared.wire.Wire.TheVariants as wire
use Rattle.mdr_meaning.specs.Cut.{cut}
use Rattle.mdr_meaning.specs.Expressions.{given, gives, loads, read, slot_of, place, value, values}
use Rattle.mdr_meaning.specs.Numbers.{Numbered}
use Rattle.mdr_meaning.specs.Pointers.{global, moved, steps, member, related, difference, cast}
use Rattle.mdr_meaning.specs.Tree.{Tree}
use Rattle.mdr_meaning.specs.Values.{at_kind, integer, is_true, operand, right_operand, truth, wire_of}
use Rattle.mdr_meaning.specs.Walk.{Accesses, Walked, on_access, walk}
use Rattle.mdr_exec.specs.Evaluation.{after_value, fresh_of, loaded_by, value_of, place_of, values_of, Evaluates}

module _ {M : Type 0} (a : Accesses M) (m : M) (at : At) where
  pub passes_given : (A : Type 0) (x : Result A StopKind) → Evaluates a m at A (given at x) x
  unfolding walk cut
  passes_given A (Ok x) = record { by = λ n r k. refl }
  passes_given A (Err kind) = record { by = λ n r k. refl }

  passes_gives : (v : Wire) → Evaluates a m at Wire (gives v) (Ok v)
  passes_gives v = record { by = λ n r k. refl }

  pub joined : {A B : Type 0} (x : Result A StopKind) (y : A → Result B StopKind) (n : ℕ) (go : A → Walked M) (k : B → Walked M)
      → ((v : A) → go v ≡ on_access (y v) at m n k) → on_access x at m n go ≡ on_access (after_value x y) at m n k
  joined (Ok v) y n go k h = h v
  joined (Err kind) y n go k h = refl

  -- one after the other
  pub passes_then : (A B : Type 0) (f : (A → Tree) → Tree) (g : A → (B → Tree) → Tree) (x : Result A StopKind) (y : A → Result B StopKind)
      → Evaluates a m at A f x → ((v : A) → Evaluates a m at B (g v) (y v)) → Evaluates a m at B (λ k. f (λ v. g v k)) (after_value x y)
  passes_then A B f g x y p q = record {
    by = λ n r k. p.by n r (λ v. g v k) ∙ joined x y n (λ v. walk a n (cut r (g v k)) m) (λ w. walk a n (cut r (k w)) m) (λ v. (q v).by n r k);
  }

  -- a value that was computed goes on
  pub passes_made : (A B : Type 0) (f : (A → Tree) → Tree) (g : A → B) (x : Result A StopKind)
      → Evaluates a m at A f x → Evaluates a m at B (λ k. f (λ v. k (g v))) (after_value x (λ v. Ok (g v)))
  passes_made A B f g x p = passes_then A B f (λ v k. k (g v)) x (λ v. Ok (g v)) p (λ v. record { by = λ n r k. refl })

  -- a value goes on or stops
  passes_tested : (f : (Wire → Tree) → Tree) (g : Wire → Result Wire StopKind) (x : Result Wire StopKind)
      → Evaluates a m at Wire f x → Evaluates a m at Wire (λ k. f (λ v. given at (g v) k)) (after_value x g)
  passes_tested f g x p = passes_then Wire Wire f (λ v. given at (g v)) x g p (λ v. passes_given Wire (g v))

  passes_read : (v : Wire) → Evaluates a m at Wire (read at v) (fresh_of a m v)
  unfolding walk cut
  passes_read (wire.Int kind n) = passes_gives (wire.Int kind n)
  passes_read wire.Null = passes_gives wire.Null
  passes_read (wire.Ptr v) = record { by = λ n r k. refl }
  passes_read wire.Dead = record { by = λ n r k. refl }
  passes_read (wire.Fn f) = passes_gives (wire.Fn f)
  passes_read (wire.Lock s) = passes_gives (wire.Lock s)
  passes_read wire.NoValue = passes_gives wire.NoValue

  passes_load : (p : Wire) → Evaluates a m at Wire (Tree.Load at p) (a.load m p)
  unfolding walk cut
  passes_load p = record { by = λ n r k. refl }

  passes_found : (found : (Wire → Tree) → Tree) (x : Result Wire StopKind) → Evaluates a m at Wire found x → Evaluates a m at Wire (λ k. found (λ p. Tree.Load at p k)) (after_value x (a.load m))
  passes_found found x p = passes_then Wire Wire found (Tree.Load at) x (a.load m) p passes_load

  passes_loads : (s : List Wire) (p : Lvalue) (found : (Wire → Tree) → Tree) (x : Result Wire StopKind) → Evaluates a m at Wire found x → Evaluates a m at Wire (loads at s p found) (loaded_by a m s p x)
  passes_loads s (Lvalue.Slot i) found x p = passes_read (slot_of s i)
  passes_loads s (Lvalue.Object i) found x p = passes_found found x p
  passes_loads s (Lvalue.Global g) found x p = passes_found found x p
  passes_loads s (Lvalue.Deref e) found x p = passes_found found x p
  passes_loads s (Lvalue.Member q f) found x p = passes_found found x p
  passes_loads s (Lvalue.Index q e) found x p = passes_found found x p

  module _ (known : Numbered) (s : List Wire) where
    -- `&&` and `||`: the right operand where the left doesn't decide
    passes_and : (b : Bool) (f : (Wire → Tree) → Tree) (x : Result Wire StopKind) → Evaluates a m at Wire f x
        → Evaluates a m at Wire (λ k. chosen b f (gives (truth false)) (λ y. k (truth (is_true y)))) (after_value (chosen b x (Ok (truth false))) (λ w. Ok (truth (is_true w))))
    passes_and true f x p = passes_made Wire Wire f (λ y. truth (is_true y)) x p
    passes_and false f x p = passes_made Wire Wire (gives (truth false)) (λ y. truth (is_true y)) (Ok (truth false)) (passes_gives (truth false))

    passes_or : (b : Bool) (f : (Wire → Tree) → Tree) (x : Result Wire StopKind) → Evaluates a m at Wire f x
        → Evaluates a m at Wire (λ k. chosen b (gives (truth true)) f (λ y. k (truth (is_true y)))) (after_value (chosen b (Ok (truth true)) x) (λ w. Ok (truth (is_true w))))
    passes_or true f x p = passes_made Wire Wire (gives (truth true)) (λ y. truth (is_true y)) (Ok (truth true)) (passes_gives (truth true))
    passes_or false f x p = passes_made Wire Wire f (λ y. truth (is_true y)) x p

    mutual
      unfolding value_of place_of

      pub passes_value : (e : Term) → Evaluates a m at Wire (value known at s e) (value_of a m known s e)
      passes_value (Term.Lit v) = passes_gives (wire_of v)
      passes_value (Term.Load p) = passes_loads s p (place known at s p) (place_of a m known s p) (passes_place p)
      passes_value (Term.Addr p) = passes_place p
      passes_value (Term.Decay p) = passes_place p
      passes_value (Term.Neg kind e) = passes_tested (value known at s e) (λ x. at_kind kind (negated kind (operand kind x))) (value_of a m known s e) (passes_value e)
      passes_value (Term.Flip kind e) = passes_made Wire Wire (value known at s e) (λ x. wire.Int kind (flipped kind (operand kind x))) (value_of a m known s e) (passes_value e)
      passes_value (Term.Not e) = passes_made Wire Wire (value known at s e) (λ x. truth (not (is_true x))) (value_of a m known s e) (passes_value e)
      passes_value (Term.Bin op kind x y) =
          passes_then Wire Wire (value known at s x) (λ v k. value known at s y (λ w. given at (at_kind kind (operated op kind (operand kind v) (right_operand op kind (integer w)))) k)) (value_of a m known s x) _ (passes_value x)
          (λ v. passes_tested (value known at s y) (λ w. at_kind kind (operated op kind (operand kind v) (right_operand op kind (integer w)))) (value_of a m known s y) (passes_value y))
      passes_value (Term.Rel op x y) =
          passes_then Wire Wire (value known at s x) (λ v k. value known at s y (λ w. given at (related known.program op v w) k)) (value_of a m known s x) _ (passes_value x)
          (λ v. passes_tested (value known at s y) (λ w. related known.program op v w) (value_of a m known s y) (passes_value y))
      passes_value (Term.And x y) =
          passes_then Wire Wire (value known at s x) (λ v k. chosen (is_true v) (value known at s y) (gives (truth false)) (λ w. k (truth (is_true w)))) (value_of a m known s x) _ (passes_value x)
          (λ v. passes_and (is_true v) (value known at s y) (value_of a m known s y) (passes_value y))
      passes_value (Term.Or x y) =
          passes_then Wire Wire (value known at s x) (λ v k. chosen (is_true v) (gives (truth true)) (value known at s y) (λ w. k (truth (is_true w)))) (value_of a m known s x) _ (passes_value x)
          (λ v. passes_or (is_true v) (value known at s y) (value_of a m known s y) (passes_value y))
      passes_value (Term.Conv kind e) = passes_made Wire Wire (value known at s e) (λ x. wire.Int kind (converted kind (integer x))) (value_of a m known s e) (passes_value e)
      passes_value (Term.ToVoid e) = passes_value e
      passes_value (Term.FromVoid ty e) = passes_tested (value known at s e) (λ x. cast known ty x) (value_of a m known s e) (passes_value e)
      passes_value (Term.Move back p i) =
          passes_then Wire Wire (value known at s p) (λ x k. value known at s i (λ n. given at (moved x (steps back (integer n))) k)) (value_of a m known s p) _ (passes_value p)
          (λ x. passes_tested (value known at s i) (λ n. moved x (steps back (integer n))) (value_of a m known s i) (passes_value i))
      passes_value (Term.Diff p q) =
          passes_then Wire Wire (value known at s p) (λ x k. value known at s q (λ y. given at (difference x y) k)) (value_of a m known s p) _ (passes_value p)
          (λ x. passes_tested (value known at s q) (λ y. difference x y) (value_of a m known s q) (passes_value q))

      pub passes_place : (p : Lvalue) → Evaluates a m at Wire (place known at s p) (place_of a m known s p)
      passes_place (Lvalue.Slot i) = passes_gives wire.Null
      passes_place (Lvalue.Object i) = passes_gives (slot_of s i)
      passes_place (Lvalue.Global g) = passes_gives (global known g)
      passes_place (Lvalue.Deref e) = passes_value e
      passes_place (Lvalue.Member p f) = passes_tested (place known at s p) (λ x. member known x f) (place_of a m known s p) (passes_place p)
      passes_place (Lvalue.Index p e) =
          passes_then Wire Wire (place known at s p) (λ x k. value known at s e (λ n. given at (moved x (integer n)) k)) (place_of a m known s p) _ (passes_place p)
          (λ x. passes_tested (value known at s e) (λ n. moved x (integer n)) (value_of a m known s e) (passes_value e))

    pub passes_values : (es : List Term) → Evaluates a m at (List Wire) (values known at s es) (values_of a m known s es)
    unfolding values_of
    passes_values [] = record { by = λ n r k. refl }
    passes_values (e ∷ es) =
        passes_then Wire (List Wire) (value known at s e) (λ v k. values known at s es (λ vs. k (v ∷ vs))) (value_of a m known s e) _ (passes_value e)
        (λ v. passes_made (List Wire) (List Wire) (values known at s es) (λ vs. v ∷ vs) (values_of a m known s es) (passes_values es))
