-- Integers that operators work on, and globals that have a first cell.
use Rattle.std.proofs.Common.{◌≡◌, ℕ, true, nat_lt, Some, slice_get, ℤ, refl, sym, ap, arith}
use Rattle.mdr_core.specs.declared.code.BinOp.{BinOp}
use Rattle.mdr_core.specs.declared.kind.Kind.{Kind}
use Rattle.mdr_core.specs.declared.program.GlobalDef.{GlobalDef}
use Rattle.mdr_core.specs.declared.program.Program.{Program}
use Rattle.mdr_core.specs.Conversions.{converted}
use Rattle.mdr_core.specs.Kinds.{is_in_range}
use Rattle.mdr_core.specs.Operators.{is_right_operand}
use Rattle.mdr_core.proofs.Conversions.{converted-in_range, converted-of_range}
use Rattle.mdr_meaning.specs.Bodies.{known_of}
use Rattle.mdr_meaning.specs.Numbers.{type_number}
use Rattle.mdr_meaning.specs.Pointers.{global_by}
use Rattle.mdr_meaning.specs.Values.{right_operand}
use Rattle.mdr_meaning.proofs.ExpressionLaws.{right_fits}
use Rattle.mdr_events.specs.Integers.{HasFirst}

-- what an operator works on lies in its kind's range
pub in_kind : (kind : Kind) (n m : ℤ) → m ≡ converted kind n → is_in_range kind m ≡ true
in_kind kind n m e = rw e (converted-in_range kind n)

pub stays_in_kind : (kind : Kind) (n : ℤ) → is_in_range kind n ≡ true → n ≡ converted kind n
stays_in_kind kind n h = sym (converted-of_range kind n h)

pub may_stand : (op : BinOp) (kind : Kind) (n m : ℤ) → m ≡ right_operand op kind n → is_right_operand op kind m ≡ true
may_stand op kind n m e = rw e (right_fits op kind n)

-- a global that is there, and isn't empty, has a first cell
pub first_there : (program : Program) (g : ℕ) (def : GlobalDef) → slice_get program.globals g ≡ Some def → nat_lt 0 def.count ≡ true → HasFirst (known_of program) g
first_there program g def is some = record {
  view = record { serial = g; first = 0; ty = type_number (known_of program) def.ty; count = def.count; index = 0 };
  is = ap (global_by (known_of program) g) is;
  first = record { block = refl; first = refl; index = refl; some = grind (arith, some) };
}
