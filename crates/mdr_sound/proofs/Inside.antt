-- Parts of what takes no address of a slot take none.
use Rattle.std.specs.Prelude.{◌≡◌, ℕ, Bool, true, false, ◌||◌, List}
use Rattle.std.proofs.Common.{refl}
use Rattle.mdr_core.specs.declared.place.Place.{Place}
use Rattle.mdr_syntax.specs.declared.tree.Base.{Base}
use Rattle.mdr_operand.specs.declared.room.LocalName.{LocalName}
use Rattle.mdr_operand.specs.Written.{Written, Writtens}
use Rattle.mdr_sound.specs.Knowing.{TakesNoSlot, TakeNoSlot}

pub left_fails : (x y : Bool) → (x || y) ≡ false → x ≡ false
left_fails true y e = e
left_fails false y e = refl

pub right_fails : (x y : Bool) → (x || y) ≡ false → y ≡ false
right_fails true y e = absurd cc
right_fails false y e = e

module _ (names : List LocalName) where
  pub inside_prefix : (p : Place) (op : List ℕ) (a : Written) → TakesNoSlot names (Written.Prefix p op a) → TakesNoSlot names a
  inside_prefix p op a h = record { slots = λ name n named at. right_fails _ _ (h.slots name n named at) }

  pub inside_cast : (p : Place) (b : Base) (n : ℕ) (a : Written) → TakesNoSlot names (Written.Cast p b n a) → TakesNoSlot names a
  inside_cast p b n a h = record { slots = h.slots }

  pub left_inside : (p : Place) (op : List ℕ) (a b : Written) → TakesNoSlot names (Written.Binary p op a b) → TakesNoSlot names a
  left_inside p op a b h = record { slots = λ name n named at. left_fails _ _ (h.slots name n named at) }

  pub right_inside : (p : Place) (op : List ℕ) (a b : Written) → TakesNoSlot names (Written.Binary p op a b) → TakesNoSlot names b
  right_inside p op a b h = record { slots = λ name n named at. right_fails _ _ (h.slots name n named at) }

  pub inside_array : (p : Place) (a i : Written) → TakesNoSlot names (Written.Subscript p a i) → TakesNoSlot names a
  inside_array p a i h = record { slots = λ name n named at. left_fails _ _ (h.slots name n named at) }

  pub inside_index : (p : Place) (a i : Written) → TakesNoSlot names (Written.Subscript p a i) → TakesNoSlot names i
  inside_index p a i h = record { slots = λ name n named at. right_fails _ _ (h.slots name n named at) }

  pub inside_member : (p : Place) (a : Written) (is_arrow : Bool) (at : Place) (name : List ℕ) → TakesNoSlot names (Written.Member p a is_arrow at name) → TakesNoSlot names a
  inside_member p a is_arrow at name h = record { slots = h.slots }

  pub inside_post : (p : Place) (op : List ℕ) (a : Written) → TakesNoSlot names (Written.Post p op a) → TakesNoSlot names a
  inside_post p op a h = record { slots = h.slots }

  pub inside_test : (p : Place) (c a b : Written) → TakesNoSlot names (Written.Choice p c a b) → TakesNoSlot names c
  inside_test p c a b h = record { slots = λ name n named at. left_fails _ _ (h.slots name n named at) }

  pub inside_one : (p : Place) (c a b : Written) → TakesNoSlot names (Written.Choice p c a b) → TakesNoSlot names a
  inside_one p c a b h = record { slots = λ name n named at. left_fails _ _ (right_fails _ _ (h.slots name n named at)) }

  pub inside_other : (p : Place) (c a b : Written) → TakesNoSlot names (Written.Choice p c a b) → TakesNoSlot names b
  inside_other p c a b h = record { slots = λ name n named at. right_fails _ _ (right_fails _ _ (h.slots name n named at)) }

  pub inside_callee : (p : Place) (f : Written) (args : Writtens) → TakesNoSlot names (Written.Call p f args) → TakesNoSlot names f
  inside_callee p f args h = record { slots = λ name n named at. left_fails _ _ (h.slots name n named at) }

  pub inside_arguments : (p : Place) (f : Written) (args : Writtens) → TakesNoSlot names (Written.Call p f args) → TakeNoSlot names args
  inside_arguments p f args h = record { slots = λ name n named at. right_fails _ _ (h.slots name n named at) }

  pub first_inside : (w : Written) (ws : Writtens) → TakeNoSlot names (Writtens.Then w ws) → TakesNoSlot names w
  first_inside w ws h = record { slots = λ name n named at. left_fails _ _ (h.slots name n named at) }

  pub rest_inside : (w : Written) (ws : Writtens) → TakeNoSlot names (Writtens.Then w ws) → TakeNoSlot names ws
  rest_inside w ws h = record { slots = λ name n named at. right_fails _ _ (h.slots name n named at) }
