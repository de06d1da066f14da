-- believed
-- The trees of expressions and lvalues (C99 6.5), from left to right. They are made by passing on what comes next.
use Rattle.std.specs.Prelude.{ℕ, true, false, not, List, [], ◌∷◌, Result, Ok, Err, unwrap_or, slice_get}
use Rattle.mdr_core.specs.declared.stop.StopKind.{StopKind}
use Rattle.mdr_core.specs.declared.place.At.{At}
use Rattle.mdr_core.specs.Code.{Term, Lvalue}
use Rattle.mdr_core.specs.Conversions.{converted}
use Rattle.mdr_core.specs.Operators.{operated, negated, flipped}
use Rattle.mdr_core.specs.Layout.{chosen}
use Rattle.mdr_meaning.specs.declared.wire.Wire.{Wire}
use Rattle.mdr_meaning.specs.declared.wire.Wire.TheVariants as wire
use Rattle.mdr_meaning.specs.Numbers.{Numbered}
use Rattle.mdr_meaning.specs.Pointers.{global, moved, steps, member, related, difference, cast}
use Rattle.mdr_meaning.specs.Tree.{Tree}
use Rattle.mdr_meaning.specs.Values.{at_kind, integer, is_true, operand, right_operand, truth, wire_of}

-- what a slot holds; the slot of an object holds its address
unfoldable pub slot_of : List Wire → ℕ → Wire
slot_of slots i = unwrap_or (slice_get slots i) wire.NoValue

-- a value goes on, or a stop ends the run
abbrev pub given : {A : Type 0} → At → Result A StopKind → (A → Tree) → Tree
given at (Ok x) k = k x
given at (Err kind) k = Tree.Stop kind at

abbrev pub gives : Wire → (Wire → Tree) → Tree
gives v k = k v

-- what a slot holds is read: a pointer may name an object that died meanwhile (6.2.4, paragraph 2)
abbrev pub read : At → Wire → (Wire → Tree) → Tree
read at (wire.Ptr v) k = Tree.Fresh at (wire.Ptr v) k
read at wire.Dead k = Tree.Fresh at wire.Dead k
read at v k = k v

-- the value of what an lvalue names, given how its place is found (6.3.2.1, paragraph 2)
abbrev pub loads : At → List Wire → Lvalue → ((Wire → Tree) → Tree) → (Wire → Tree) → Tree
loads at slots (Lvalue.Slot i) found k = read at (slot_of slots i) k
loads at slots _ found k = found (λ p. Tree.Load at p k)

module _ (known : Numbered) (at : At) (slots : List Wire) where
  abbrev mutual
    pub value : Term → (Wire → Tree) → Tree
    -- 6.5.1
    value (Term.Lit v) k = k (wire_of v)
    value (Term.Load p) k = loads at slots p (place p) k
    -- 6.5.3.2, 6.3.2.1, paragraph 3
    value (Term.Addr p) k = place p k
    value (Term.Decay p) k = place p k
    -- 6.5.3.3
    value (Term.Neg kind e) k = value e (λ x. given at (at_kind kind (negated kind (operand kind x))) k)
    value (Term.Flip kind e) k = value e (λ x. k (wire.Int kind (flipped kind (operand kind x))))
    value (Term.Not e) k = value e (λ x. k (truth (not (is_true x))))
    -- 6.5.5 to 6.5.7, 6.5.10 to 6.5.12
    value (Term.Bin op kind a b) k = value a (λ x. value b (λ y. given at (at_kind kind (operated op kind (operand kind x) (right_operand op kind (integer y)))) k))
    -- 6.5.8, 6.5.9
    value (Term.Rel op a b) k = value a (λ x. value b (λ y. given at (related known.program op x y) k))
    -- the right operand is evaluated only where the left doesn't decide (6.5.13, 6.5.14, paragraph 4)
    value (Term.And a b) k = value a (λ x. chosen (is_true x) (value b) (gives (truth false)) (λ y. k (truth (is_true y))))
    value (Term.Or a b) k = value a (λ x. chosen (is_true x) (gives (truth true)) (value b) (λ y. k (truth (is_true y))))
    -- 6.3.1.3, 6.3.2.3
    value (Term.Conv kind e) k = value e (λ x. k (wire.Int kind (converted kind (integer x))))
    value (Term.ToVoid e) k = value e k
    value (Term.FromVoid ty e) k = value e (λ x. given at (cast known ty x) k)
    -- 6.5.6
    value (Term.Move back p i) k = value p (λ x. value i (λ n. given at (moved x (steps back (integer n))) k))
    value (Term.Diff p q) k = value p (λ x. value q (λ y. given at (difference x y) k))

    -- the address of what an lvalue names; of an array, that of its first element
    pub place : Lvalue → (Wire → Tree) → Tree
    -- a slot has none, and no sound program asks for it
    place (Lvalue.Slot i) k = k wire.Null
    place (Lvalue.Object i) k = k (slot_of slots i)
    place (Lvalue.Global g) k = k (global known g)
    -- 6.5.3.2, paragraph 4
    place (Lvalue.Deref e) k = value e k
    -- the struct's place is tested before anything to its right is evaluated (6.5.2.3, 6.5.2.1)
    place (Lvalue.Member p f) k = place p (λ a. given at (member known a f) k)
    place (Lvalue.Index p e) k = place p (λ a. value e (λ n. given at (moved a (integer n)) k))

  abbrev pub values : List Term → (List Wire → Tree) → Tree
  values [] k = k []
  values (e ∷ es) k = value e (λ v. values es (λ vs. k (v ∷ vs)))
