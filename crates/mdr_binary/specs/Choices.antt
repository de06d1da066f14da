-- believed
-- `c ? a : b` (C99 6.5.15).
use Rattle.std.specs.Prelude.{Option, Some, None}
use Rattle.mdr_rich.specs.declared.code.Expr.{Expr}
use Rattle.mdr_rich.specs.declared.code.Expr.TheVariants as expr
use Rattle.mdr_core.specs.declared.place.Place.{Place}
use Rattle.mdr_core.specs.declared.types.Ty.{Ty, out-Ty}
use Rattle.mdr_core.specs.declared.types.Ty.TheOpen.{Ty-F}
use Rattle.mdr_core.specs.declared.types.Ty.TheVariants as type
use Rattle.mdr_core.specs.Conversions.{common_kind}
use Rattle.mdr_core.specs.Layout.{chosen}
use Rattle.mdr_operand.specs.declared.operand.Operand.{Operand}
use Rattle.mdr_faults.specs.Alike.{is_alike}
use Rattle.mdr_faults.specs.Faults.{Checked, Right, after, both}
use Rattle.mdr_operand.specs.Converting.{converted_at}
use Rattle.mdr_operand.specs.Forms.{condition_at, is_null, needed, value_at, value_type}
use Rattle.mdr_binary.specs.Binaries.{are_numbers}

-- integers have their common kind (paragraph 5), pointers to one type that type, and beside a `void *` a pointer to an object becomes one (paragraph 6)
abbrev pub joined_by : Ty-F Ty → Ty-F Ty → (one other : Ty) → Option Ty
joined_by (Ty-F.Int k) (Ty-F.Int l) t u = Some (type.Int (common_kind k l))
joined_by Ty-F.VoidPtr (Ty-F.Ptr b) t u = Some t
joined_by (Ty-F.Ptr a) Ty-F.VoidPtr t u = Some u
joined_by f g t u = chosen (is_alike t u) (Some t) None

abbrev pub joined_type : Option Ty → Option Ty → Option Ty
joined_type None u = None
joined_type (Some t) None = None
joined_type (Some t) (Some u) = joined_by (out-Ty t) (out-Ty u) t u

-- a null pointer constant beside another is a `void *`
abbrev pub beside_null : Operand → Option Ty
beside_null x = chosen (is_null x) (Some type.VoidPtr) (value_type x)

-- a null pointer constant becomes a pointer of the other arm's type (paragraph 6)
abbrev pub pointers_type : Operand → Operand → Option Ty
pointers_type x y = chosen (is_null y) (beside_null x) (chosen (is_null x) (value_type y) (joined_type (value_type x) (value_type y)))

-- the type of the value, by its arms
unfoldable pub arms_type : Operand → Operand → Option Ty
arms_type x y = chosen (are_numbers x y) (joined_type (value_type x) (value_type y)) (pointers_type x y)

-- both arms are converted to it
unfoldable pub choice_as : Place → (test : Expr) → (one other : Operand) → Ty → Checked Operand
choice_as p c x y t = both (converted_at p t x) (converted_at p t y) (λ e f. value_at p t (expr.Cond t c e f))

unfoldable pub choice_by : Place → (one other : Operand) → (test : Expr) → Checked Operand
choice_by p x y c = after (needed p (arms_type x y)) (choice_as p c x y)

-- what is tested is a scalar (paragraph 2)
unfoldable pub choice_of : Place → (test : Operand) → (arms : Operand × Operand) → Checked Operand
choice_of p w arms = after (condition_at p w) (choice_by p arms.0 arms.1)

abbrev pub paired : Operand → Operand → Checked (Operand × Operand)
paired x y = Right (x, y)

unfoldable pub choice_rule : Place → (test one other : Checked Operand) → Checked Operand
choice_rule p c a b = both c (both a b paired) (choice_of p)
