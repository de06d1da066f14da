-- protocol
-- What expressions and lvalues come to on a memory, whatever a memory is (C99 6.5): a value, or the first stop from left to right.
use Rattle.std.specs.Prelude.{◌≡◌, ℕ, true, false, not, List, [], ◌∷◌, Result, Ok, Err}
use Rattle.mdr_core.specs.declared.stop.StopKind.{StopKind}
use Rattle.mdr_core.specs.declared.place.At.{At}
use Rattle.mdr_core.specs.Code.{Term, Lvalue}
use Rattle.mdr_core.specs.Conversions.{converted}
use Rattle.mdr_core.specs.Layout.{chosen}
use Rattle.mdr_core.specs.Operators.{operated, negated, flipped}
use Rattle.mdr_meaning.specs.declared.wire.Wire.{Wire}
use Rattle.mdr_meaning.specs.declared.wire.Wire.TheVariants as wire
use Rattle.mdr_meaning.specs.Cut.{cut}
use Rattle.mdr_meaning.specs.Expressions.{slot_of, place, value, values}
use Rattle.mdr_meaning.specs.Numbers.{Numbered}
use Rattle.mdr_meaning.specs.Pointers.{global, moved, steps, member, related, difference, cast}
use Rattle.mdr_meaning.specs.Tree.{Tree}
use Rattle.mdr_meaning.specs.Values.{at_kind, integer, is_true, operand, right_operand, truth, wire_of}
use Rattle.mdr_meaning.specs.Walk.{Accesses, on_access, walk}

-- what comes after a value
abbrev pub after_value : {A B : Type 0} → Result A StopKind → (A → Result B StopKind) → Result B StopKind
after_value (Ok x) go = go x
after_value (Err kind) go = Err kind

-- a value as a truth
abbrev pub truth_of : Result Wire StopKind → Result Wire StopKind
truth_of x = after_value x (λ w. Ok (truth (is_true w)))

-- `&&` and `||`, in which the right operand counts where the left one doesn't decide (6.5.13, 6.5.14)
abbrev pub and_of : (left right : Result Wire StopKind) → Result Wire StopKind
and_of left right = after_value left (λ v. after_value (chosen (is_true v) right (Ok (truth false))) (λ w. Ok (truth (is_true w))))

abbrev pub or_of : (left right : Result Wire StopKind) → Result Wire StopKind
or_of left right = after_value left (λ v. after_value (chosen (is_true v) (Ok (truth true)) right) (λ w. Ok (truth (is_true w))))

module _ {M : Type 0} (a : Accesses M) (m : M) where
  -- what a slot holds is read (6.2.4, paragraph 2)
  abbrev pub fresh_of : Wire → Result Wire StopKind
  fresh_of (wire.Ptr v) = a.fresh m (wire.Ptr v)
  fresh_of wire.Dead = a.fresh m wire.Dead
  fresh_of v = Ok v

  -- the value of what an lvalue names, given its place (6.3.2.1, paragraph 2)
  abbrev pub loaded_by : List Wire → Lvalue → (found : Result Wire StopKind) → Result Wire StopKind
  loaded_by slots (Lvalue.Slot i) found = fresh_of (slot_of slots i)
  loaded_by slots _ found = after_value found (a.load m)

  module _ (known : Numbered) (slots : List Wire) where
    unfoldable mutual
      pub value_of : Term → Result Wire StopKind
      value_of (Term.Lit v) = Ok (wire_of v)
      value_of (Term.Load p) = loaded_by slots p (place_of p)
      value_of (Term.Addr p) = place_of p
      value_of (Term.Decay p) = place_of p
      value_of (Term.Neg kind e) = after_value (value_of e) (λ x. at_kind kind (negated kind (operand kind x)))
      value_of (Term.Flip kind e) = after_value (value_of e) (λ x. Ok (wire.Int kind (flipped kind (operand kind x))))
      value_of (Term.Not e) = after_value (value_of e) (λ x. Ok (truth (not (is_true x))))
      value_of (Term.Bin op kind x y) =
          after_value (value_of x) (λ v. after_value (value_of y) (λ w. at_kind kind (operated op kind (operand kind v) (right_operand op kind (integer w)))))
      value_of (Term.Rel op x y) = after_value (value_of x) (λ v. after_value (value_of y) (λ w. related known.program op v w))
      value_of (Term.And x y) = and_of (value_of x) (value_of y)
      value_of (Term.Or x y) = or_of (value_of x) (value_of y)
      value_of (Term.Conv kind e) = after_value (value_of e) (λ x. Ok (wire.Int kind (converted kind (integer x))))
      value_of (Term.ToVoid e) = value_of e
      value_of (Term.FromVoid ty e) = after_value (value_of e) (λ x. cast known ty x)
      value_of (Term.Move back p i) = after_value (value_of p) (λ x. after_value (value_of i) (λ n. moved x (steps back (integer n))))
      value_of (Term.Diff p q) = after_value (value_of p) (λ x. after_value (value_of q) (λ y. difference x y))

      pub place_of : Lvalue → Result Wire StopKind
      place_of (Lvalue.Slot i) = Ok wire.Null
      place_of (Lvalue.Object i) = Ok (slot_of slots i)
      place_of (Lvalue.Global g) = Ok (global known g)
      place_of (Lvalue.Deref e) = value_of e
      place_of (Lvalue.Member p f) = after_value (place_of p) (λ x. member known x f)
      place_of (Lvalue.Index p e) = after_value (place_of p) (λ x. after_value (value_of e) (λ n. moved x (integer n)))

    -- what is read where an lvalue says
    abbrev pub loaded_of : Lvalue → Result Wire StopKind
    loaded_of p = loaded_by slots p (place_of p)

    unfoldable pub values_of : List Term → Result (List Wire) StopKind
    values_of [] = Ok []
    values_of (e ∷ es) = after_value (value_of e) (λ v. after_value (values_of es) (λ vs. Ok (v ∷ vs)))

  -- an evaluation passes its result on, and changes no memory
  pub record Evaluates (at : At) (A : Type 0) (f : (A → Tree) → Tree) (x : Result A StopKind) : Type 0 where
    pub by : (n r : ℕ) (k : A → Tree) → walk a n (cut r (f k)) m ≡ on_access x at m n (λ v. walk a n (cut r (k v)) m)

-- the tree of an expression passes its value on, and that of an lvalue its address
abbrev pub ValuesArePassed : Type 0 → Type 0
ValuesArePassed M = (a : Accesses M) (m : M) (known : Numbered) (slots : List Wire) (at : At) (e : Term) → Evaluates a m at Wire (value known at slots e) (value_of a m known slots e)

abbrev pub PlacesArePassed : Type 0 → Type 0
PlacesArePassed M = (a : Accesses M) (m : M) (known : Numbered) (slots : List Wire) (at : At) (p : Lvalue) → Evaluates a m at Wire (place known at slots p) (place_of a m known slots p)

abbrev pub ListsArePassed : Type 0 → Type 0
ListsArePassed M =
    (a : Accesses M) (m : M) (known : Numbered) (slots : List Wire) (at : At) (es : List Term) → Evaluates a m at (List Wire) (values known at slots es) (values_of a m known slots es)
