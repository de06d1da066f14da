-- What a name or a member stands for is known: an object or an array by its lvalue.
use Rattle.std.specs.Prelude.{◌≡◌, ◌⊎◌, ℕ, Bool, true, false, List, IsTrue}
use Rattle.std.proofs.Common.{inl, refl, sym}
use Rattle.mdr_rich.specs.declared.code.Lval.{Lval}
use Rattle.mdr_core.specs.declared.program.Program.{Program}
use Rattle.mdr_core.specs.declared.types.Ty.{Ty}
use Rattle.mdr_rich.specs.Folds.{lvalue_of}
use Rattle.mdr_core.specs.Layout.{chosen}
use Rattle.mdr_core.specs.Types.{is_scalar}
use Rattle.mdr_core.specs.Typing.{Slot, extent}
use Rattle.mdr_rich.specs.Typing.{Designates, HasAddress, type_in}
use Rattle.mdr_faults.specs.declared.scope.Object.{Object}
use Rattle.mdr_operand.specs.declared.operand.Operand.TheVariants as operand
use Rattle.mdr_operand.specs.declared.room.LocalName.{LocalName}
use Rattle.mdr_operand.specs.Written.{Written}
use Rattle.mdr_postfix.specs.Names.{object_operand}
use Rattle.mdr_sound.specs.Knowing.{IsFormed}
use Rattle.mdr_sound.specs.Operands.{IsInSlot, IsKnown}

-- what is declared alike has one extent
pub same_extent : (a b : Bool) (t u : Ty) (m n : ℕ) → a ≡ b → t ≡ u → m ≡ n → extent b u n ≡ extent a t m
same_extent a b t u m n p q r = sym (λ i. extent (p i) (q i) (r i))

-- the type that stands with its name
pub type_is : (b : Bool) (t : Ty) (n : ℕ) → t ≡ type_in (extent b t n)
type_is true t n = refl
type_is false t n = refl

module _ (program : Program) (slots : List Slot) (names : List LocalName) (w : Written) where
  placed_by : (b : Bool) (l : Lval) (t : Ty) (n : ℕ) → Designates program slots (lvalue_of l) (extent b t n) → IsFormed program t
      → (b ≡ false → HasAddress (lvalue_of l) ⊎ (IsInSlot names w × IsTrue (is_scalar t))) → (b ≡ true → HasAddress (lvalue_of l))
      → IsKnown program slots names w (chosen b (operand.Array l t n) (operand.Object l t))
  placed_by true l t n d f single array = record { designates = d; formed = f; kept = array refl }
  placed_by false l t n d f single array = record { designates = d; formed = f; kept = single refl }

  pub placed_known : (l : Lval) (o : Object) → Designates program slots (lvalue_of l) (extent o.array o.ty o.count) → IsFormed program o.ty
      → (o.array ≡ false → HasAddress (lvalue_of l) ⊎ (IsInSlot names w × IsTrue (is_scalar o.ty))) → (o.array ≡ true → HasAddress (lvalue_of l))
      → IsKnown program slots names w (object_operand l o)
  placed_known l o d f single array = placed_by o.array l o.ty o.count d f single array

  -- what lies in no slot
  pub object_known : (l : Lval) (o : Object) → Designates program slots (lvalue_of l) (extent o.array o.ty o.count) → IsFormed program o.ty → HasAddress (lvalue_of l)
      → IsKnown program slots names w (object_operand l o)
  object_known l o d f a = placed_known l o d f (λ e. inl a) (λ e. a)
