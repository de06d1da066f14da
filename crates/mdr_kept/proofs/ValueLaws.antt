-- What expressions give is current, where the objects that they name live.
use Rattle.std.proofs.Common.{◌≡◌, ℕ, zero, suc, ◌<◌, Bool, true, false, not, List, [], ◌∷◌, Option, Some, None, Result, Ok, Err, length, ℤ, refl, arith}
use Rattle.std.specs.Prelude.{nat_lt, slice_get}
use Rattle.mdr_core.specs.declared.code.BinOp.{BinOp}
use Rattle.mdr_core.specs.declared.code.BinOp.TheVariants.{Add, BitAnd, BitOr, BitXor, Div, Mul, Rem, Shl, Shr, Sub}
use Rattle.mdr_core.specs.declared.code.RelOp.{RelOp}
use Rattle.mdr_core.specs.declared.code.RelOp.TheVariants.{Eq, Ne, Lt, Le, Gt, Ge}
use Rattle.mdr_core.specs.declared.kind.Kind.{Kind}
use Rattle.mdr_core.specs.declared.place.At.{At}
use Rattle.mdr_core.specs.declared.program.Field.{Field}
use Rattle.mdr_core.specs.declared.program.GlobalDef.{GlobalDef}
use Rattle.mdr_core.specs.declared.program.Program.{Program}
use Rattle.mdr_core.specs.declared.stop.StopKind.{StopKind}
use Rattle.mdr_core.specs.declared.types.Ty.{Ty, out-Ty}
use Rattle.mdr_core.specs.declared.types.Ty.TheOpen.{Ty-F}
use Rattle.mdr_core.specs.declared.undefined.Undefined.{Undefined}
use Rattle.mdr_core.specs.declared.value.Value.{Value}
use Rattle.mdr_core.specs.declared.value.Value.TheVariants as value
use Rattle.mdr_core.specs.Code.{Term, Lvalue}
use Rattle.mdr_core.specs.Layout.{chosen, fields_of}
use Rattle.mdr_core.specs.Operators.{negated, operated}
use Rattle.mdr_core.specs.Typing.{Designates, Extent, Many, One, Has, HaveAll, Literal, RightOperand, Slot}
use Rattle.mdr_meaning.specs.declared.wire.Wire.{Wire}
use Rattle.mdr_meaning.specs.declared.wire.Wire.TheVariants as wire
use Rattle.mdr_meaning.specs.declared.wire.WireView.{WireView}
use Rattle.mdr_meaning.specs.Bodies.{known_of}
use Rattle.mdr_meaning.specs.Calls.{received}
use Rattle.mdr_meaning.specs.Expressions.{given, gives, loads, place, read, slot_of, value as value_in, values}
use Rattle.mdr_meaning.specs.Numbers.{Numbered}
use Rattle.mdr_meaning.specs.Pointers.{become_by, cast, difference, field_by, field_in, global, global_by, member, moved, ordered, related, steps, struct_numbered}
use Rattle.mdr_meaning.specs.Tree.{Tree}
use Rattle.mdr_meaning.specs.Values.{at_kind, checked, first_of, integer, is_true, operand, rest_of, right_operand, truth, wire_of}
use Rattle.mdr_kept.specs.Current.{AreCurrent, Current, IsCurrent, KnowsLives, Lives}
use Rattle.mdr_kept.specs.Scopes.{LvalueScoped, TermScoped, TermsScoped}
use Rattle.mdr_kept.proofs.LivingLaws.{IsFrame, living_current}

-- ---- results

abbrev pub ResultCurrent : Lives → Result Wire StopKind → Type 0
ResultCurrent lives (Ok v) = IsCurrent lives v
ResultCurrent lives (Err kind) = Unit {0}

checked_current : (lives : Lives) (b : Bool) (kind : StopKind) (v : Wire) → IsCurrent lives v → ResultCurrent lives (checked b kind v)
checked_current lives true kind v h = h
checked_current lives false kind v h = tt

truth_current : (lives : Lives) (b : Bool) → IsCurrent lives (truth b)
truth_current lives true = tt
truth_current lives false = tt

kind_current : (lives : Lives) (kind : Kind) (r : Result ℤ Undefined) → ResultCurrent lives (at_kind kind r)
kind_current lives kind (Ok n) = tt
kind_current lives kind (Err why) = tt

pub moved_current : (lives : Lives) (v : Wire) (n : ℤ) → IsCurrent lives v → ResultCurrent lives (moved v n)
moved_current lives (wire.Ptr p) n h = checked_current lives _ _ _ h
moved_current lives (wire.Int k i) n h = tt
moved_current lives wire.Null n h = tt
moved_current lives wire.Dead n h = tt
moved_current lives (wire.Fn f) n h = tt
moved_current lives (wire.Lock s) n h = tt
moved_current lives wire.NoValue n h = tt

field_current : (lives : Lives) (known : Numbered) (p : WireView) (s f : ℕ) (o : Option Field) → lives p.serial ≡ true → ResultCurrent lives (field_by known p s f o)
field_current lives known p s f None h = tt
field_current lives known p s f (Some x) h = checked_current lives _ _ _ h

fields_current : (lives : Lives) (known : Numbered) (p : WireView) (o : Option ℕ) (f : ℕ) → lives p.serial ≡ true → ResultCurrent lives (field_in known p o f)
fields_current lives known p None f h = tt
fields_current lives known p (Some s) f h = field_current lives known p s f (slice_get (fields_of known.program.structs s) f) h

either_current : (lives : Lives) (b : Bool) (r s : Result Wire StopKind) → ResultCurrent lives r → ResultCurrent lives s → ResultCurrent lives (chosen b r s)
either_current lives true r s a b = a
either_current lives false r s a b = b

member_current : (lives : Lives) (known : Numbered) (v : Wire) (f : ℕ) → IsCurrent lives v → ResultCurrent lives (member known v f)
member_current lives known (wire.Ptr p) f h = either_current lives (nat_lt p.index p.count) _ _ (fields_current lives known p (struct_numbered known.program p.ty) f h) tt
member_current lives known (wire.Int k i) f h = tt
member_current lives known wire.Null f h = tt
member_current lives known wire.Dead f h = tt
member_current lives known (wire.Fn g) f h = tt
member_current lives known (wire.Lock s) f h = tt
member_current lives known wire.NoValue f h = tt

cast_current : (lives : Lives) (known : Numbered) (ty : Ty) (v : Wire) → IsCurrent lives v → ResultCurrent lives (cast known ty v)
cast_current lives known ty (wire.Ptr p) h = checked_current lives _ _ _ h
cast_current lives known ty (wire.Int k i) h = h
cast_current lives known ty wire.Null h = h
cast_current lives known ty wire.Dead h = h
cast_current lives known ty (wire.Fn g) h = h
cast_current lives known ty (wire.Lock s) h = h
cast_current lives known ty wire.NoValue h = h

int_current : (lives : Lives) (known : Numbered) (k : Kind) (v : Wire) → IsCurrent lives v → ResultCurrent lives (become_by known (Ty-F.Int k) v)
int_current lives known k (wire.Ptr p) h = h
int_current lives known k (wire.Int l i) h = tt
int_current lives known k wire.Null h = h
int_current lives known k wire.Dead h = h
int_current lives known k (wire.Fn g) h = h
int_current lives known k (wire.Lock s) h = h
int_current lives known k wire.NoValue h = h

become_current : (lives : Lives) (known : Numbered) (ty : Ty-F Ty) (v : Wire) → IsCurrent lives v → ResultCurrent lives (become_by known ty v)
become_current lives known (Ty-F.Int k) v h = int_current lives known k v h
become_current lives known Ty-F.Lock v h = h
become_current lives known (Ty-F.Struct s) v h = h
become_current lives known (Ty-F.Ptr ty) v h = cast_current lives known ty v h
become_current lives known Ty-F.VoidPtr v h = h
become_current lives known (Ty-F.Fun ts) v h = h
become_current lives known Ty-F.Void v h = h

received_by : (lives : Lives) (known : Numbered) (ty : Option Ty) (v : Wire) → IsCurrent lives v → ((u : Ty) → ResultCurrent lives (become_by known (out-Ty u) v)) → ResultCurrent lives (received known ty v)
received_by lives known ty wire.NoValue h each = tt
received_by lives known None (wire.Ptr p) h each = h
received_by lives known None (wire.Int k i) h each = h
received_by lives known None wire.Null h each = h
received_by lives known None wire.Dead h each = h
received_by lives known None (wire.Fn g) h each = h
received_by lives known None (wire.Lock s) h each = h
received_by lives known (Some u) (wire.Ptr p) h each = each u
received_by lives known (Some u) (wire.Int k i) h each = each u
received_by lives known (Some u) wire.Null h each = each u
received_by lives known (Some u) wire.Dead h each = each u
received_by lives known (Some u) (wire.Fn g) h each = each u
received_by lives known (Some u) (wire.Lock s) h each = each u

pub received_current : (lives : Lives) (known : Numbered) (ty : Option Ty) (v : Wire) → IsCurrent lives v → ResultCurrent lives (received known ty v)
received_current lives known ty v h = received_by lives known ty v h (λ u. become_current lives known (out-Ty u) v h)

ordered_current : (lives : Lives) (program : Program) (op : RelOp) (v w : Wire) → ResultCurrent lives (ordered program op v w)
ordered_current lives program op (wire.Int k a) (wire.Int l b) = truth_current lives _
ordered_current lives program op (wire.Int k a) (wire.Ptr q) = tt
ordered_current lives program op (wire.Int k a) wire.Null = tt
ordered_current lives program op (wire.Int k a) wire.Dead = tt
ordered_current lives program op (wire.Int k a) (wire.Fn g) = tt
ordered_current lives program op (wire.Int k a) (wire.Lock s) = tt
ordered_current lives program op (wire.Int k a) wire.NoValue = tt
ordered_current lives program op (wire.Ptr p) (wire.Ptr q) = checked_current lives _ _ _ (truth_current lives _)
ordered_current lives program op (wire.Ptr p) (wire.Int l b) = tt
ordered_current lives program op (wire.Ptr p) wire.Null = tt
ordered_current lives program op (wire.Ptr p) wire.Dead = tt
ordered_current lives program op (wire.Ptr p) (wire.Fn g) = tt
ordered_current lives program op (wire.Ptr p) (wire.Lock s) = tt
ordered_current lives program op (wire.Ptr p) wire.NoValue = tt
ordered_current lives program op wire.Null w = tt
ordered_current lives program op wire.Dead w = tt
ordered_current lives program op (wire.Fn f) w = tt
ordered_current lives program op (wire.Lock s) w = tt
ordered_current lives program op wire.NoValue w = tt

related_current : (lives : Lives) (program : Program) (op : RelOp) (v w : Wire) → ResultCurrent lives (related program op v w)
related_current lives program Eq v w = truth_current lives _
related_current lives program Ne v w = truth_current lives _
related_current lives program Lt v w = ordered_current lives program Lt v w
related_current lives program Le v w = ordered_current lives program Le v w
related_current lives program Gt v w = ordered_current lives program Gt v w
related_current lives program Ge v w = ordered_current lives program Ge v w

difference_current : (lives : Lives) (v w : Wire) → ResultCurrent lives (difference v w)
difference_current lives (wire.Ptr p) (wire.Ptr q) = checked_current lives _ _ _ tt
difference_current lives (wire.Ptr p) (wire.Int l b) = tt
difference_current lives (wire.Ptr p) wire.Null = tt
difference_current lives (wire.Ptr p) wire.Dead = tt
difference_current lives (wire.Ptr p) (wire.Fn g) = tt
difference_current lives (wire.Ptr p) (wire.Lock s) = tt
difference_current lives (wire.Ptr p) wire.NoValue = tt
difference_current lives (wire.Int k a) w = tt
difference_current lives wire.Null w = tt
difference_current lives wire.Dead w = tt
difference_current lives (wire.Fn f) w = tt
difference_current lives (wire.Lock s) w = tt
difference_current lives wire.NoValue w = tt

-- no pointer is written in code
literal_current : (lives : Lives) (program : Program) (v : Value) (t : Ty) → Literal program v t → IsCurrent lives (wire_of v)
literal_current lives program (value.Int k n) t h = tt
literal_current lives program value.Null t h = tt
literal_current lives program (value.Ptr p) t h = elim h [ ]
literal_current lives program value.Dead t h = tt
literal_current lives program (value.Fn f) t h = tt
literal_current lives program (value.Lock s) t h = tt
literal_current lives program value.NoValue t h = tt

within : (xs : List GlobalDef) (g : ℕ) (def : GlobalDef) → slice_get xs g ≡ Some def → g < length xs
within [] g def e = absurd cc
within (x ∷ xs) zero def e = omega arith
within (x ∷ xs) (suc g) def e = let less : g < length xs = within xs g def e in omega (arith, less)

global_current : (lives : Lives) (program : Program) → ((g : ℕ) → g < length program.globals → lives g ≡ true) → (g : ℕ) → IsCurrent lives (global (known_of program) g)
global_current lives program h g = of (slice_get program.globals g) refl
  where
    of : (o : Option GlobalDef) → slice_get program.globals g ≡ o → IsCurrent lives (global_by (known_of program) g o)
    of None e = tt
    of (Some def) e = h g (within program.globals g def e)

-- ---- lists

pub first_current : (lives : Lives) (vs : List Wire) → AreCurrent lives vs → IsCurrent lives (first_of vs)
first_current lives [] h = tt
first_current lives (v ∷ vs) h = h.0

pub rest_current : (lives : Lives) (vs : List Wire) → AreCurrent lives vs → AreCurrent lives (rest_of vs)
rest_current lives [] h = tt
rest_current lives (v ∷ vs) h = h.1

-- ---- expressions

module _ (program : Program) (lives : Lives) (own : List Wire) (knows : KnowsLives (length program.globals) lives own) where
  abbrev pub Goes : Tree → Type 0
  Goes t = Current (length program.globals) lives own t

  -- what goes on with a current value
  pub record GivesCurrent (f : (Wire → Tree) → Tree) : Type 0 where
    pub by : (k : Wire → Tree) → ((v : Wire) → IsCurrent lives v → Goes (k v)) → Goes (f k)

  pub given_current : (at : At) (r : Result Wire StopKind) → ResultCurrent lives r → GivesCurrent (given at r)
  given_current at (Ok v) h = record { by = λ k each. each v h }
  given_current at (Err kind) h = record { by = λ k each. tt }

  read_current : (at : At) (v : Wire) → GivesCurrent (read at v)
  read_current at (wire.Ptr p) = record { by = λ k each. each }
  read_current at wire.Dead = record { by = λ k each. each }
  read_current at (wire.Int kind n) = record { by = λ k each. each (wire.Int kind n) tt }
  read_current at wire.Null = record { by = λ k each. each wire.Null tt }
  read_current at (wire.Fn f) = record { by = λ k each. each (wire.Fn f) tt }
  read_current at (wire.Lock s) = record { by = λ k each. each (wire.Lock s) tt }
  read_current at wire.NoValue = record { by = λ k each. each wire.NoValue tt }

  found_current : (at : At) (found : (Wire → Tree) → Tree) → GivesCurrent found → GivesCurrent (λ k. found (λ p. Tree.Load at p k))
  found_current at found h = record { by = λ k each. h.by (λ p. Tree.Load at p k) (λ p c. each) }

  loads_current : (at : At) (s : List Wire) (p : Lvalue) (found : (Wire → Tree) → Tree) → GivesCurrent found → GivesCurrent (loads at s p found)
  loads_current at s (Lvalue.Slot i) found h = read_current at (slot_of s i)
  loads_current at s (Lvalue.Object i) found h = found_current at found h
  loads_current at s (Lvalue.Global g) found h = found_current at found h
  loads_current at s (Lvalue.Deref e) found h = found_current at found h
  loads_current at s (Lvalue.Member p f) found h = found_current at found h
  loads_current at s (Lvalue.Index p e) found h = found_current at found h

  picked_current : (b : Bool) (f g : (Wire → Tree) → Tree) → GivesCurrent f → GivesCurrent g → GivesCurrent (chosen b f g)
  picked_current true f g a b = a
  picked_current false f g a b = b

  gives_truth : (b : Bool) → GivesCurrent (gives (truth b))
  gives_truth b = record { by = λ k each. each (truth b) (truth_current lives b) }

  right_current : (op : BinOp) (kind : Kind) (f : (Wire → Tree) → Tree) (P : Ty → Type 0) → ((t : Ty) → P t → GivesCurrent f) → RightOperand op kind P → GivesCurrent f
  right_current Shl kind f P each h = each _ h.1
  right_current Shr kind f P each h = each _ h.1
  right_current Add kind f P each h = each _ h
  right_current Sub kind f P each h = each _ h
  right_current Mul kind f P each h = each _ h
  right_current Div kind f P each h = each _ h
  right_current Rem kind f P each h = each _ h
  right_current BitAnd kind f P each h = each _ h
  right_current BitOr kind f P each h = each _ h
  right_current BitXor kind f P each h = each _ h

  module _ (slots : List Slot) (objects : List ℕ) (s : List Wire) (frame : IsFrame slots objects own s) (at : At) where
    abbrev V : Term → (Wire → Tree) → Tree
    V e = value_in (known_of program) at s e

    mutual
      pub value_current : (e : Term) (t : Ty) → Has program slots e t → TermScoped objects e → GivesCurrent (value_in (known_of program) at s e)
      value_current (Term.Lit v) t h c = record { by = λ k each. each (wire_of v) (literal_current lives program v t h) }
      value_current (Term.Load p) t h c = loads_current at s p (place (known_of program) at s p) (place_current p (One t) h.object c)
      value_current (Term.Addr p) t h c = place_current p (One h.type) h.object c
      value_current (Term.Decay p) t h c = place_current p (Many h.type h.count) h.array c
      value_current (Term.Neg kind e) t h c = record { by = λ k each. (value_current e _ h.operand c).by _ (λ x a. (given_current at _ (kind_current lives kind (negated kind (operand kind x)))).by k each) }
      value_current (Term.Flip kind e) t h c = record { by = λ k each. (value_current e _ h.operand c).by _ (λ x a. each _ tt) }
      value_current (Term.Not e) t h c = record { by = λ k each. (value_current e _ h.operand.operand c).by _ (λ x a. each _ (truth_current lives (not (is_true x)))) }
      value_current (Term.Bin op kind a b) t h c = record {
        by = λ k each. (value_current a _ h.left c.0).by _ (λ x i. (right_current op kind (V b) (Has program slots b) (λ u x. value_current b u x c.1) h.right).by _ (λ y j. (given_current at _ (kind_current lives kind (operated op kind (operand kind x) (right_operand op kind (integer y))))).by k each));
      }
      value_current (Term.Rel op a b) t h c = record {
        by = λ k each. (value_current a _ h.left c.0).by _ (λ x i. (value_current b _ h.right c.1).by _ (λ y j. (given_current at _ (related_current lives (known_of program).program op x y)).by k each));
      }
      value_current (Term.And a b) t h c = record {
        by = λ k each.
            (value_current a _ h.left.operand c.0).by _
            (λ x i. (picked_current (is_true x) (V b) (gives (truth false)) (value_current b _ h.right.operand c.1) (gives_truth false)).by _ (λ y j. each _ (truth_current lives (is_true y))));
      }
      value_current (Term.Or a b) t h c = record {
        by = λ k each.
            (value_current a _ h.left.operand c.0).by _
            (λ x i. (picked_current (is_true x) (gives (truth true)) (V b) (gives_truth true) (value_current b _ h.right.operand c.1)).by _ (λ y j. each _ (truth_current lives (is_true y))));
      }
      value_current (Term.Conv kind e) t h c = record { by = λ k each. (value_current e _ h.operand c).by _ (λ x a. each _ tt) }
      value_current (Term.ToVoid e) t h c = value_current e _ h.pointer c
      value_current (Term.FromVoid ty e) t h c = record { by = λ k each. (value_current e _ h.pointer c).by _ (λ x a. (given_current at _ (cast_current lives (known_of program) ty x a)).by k each) }
      value_current (Term.Move back p n) t h c = record {
        by = λ k each. (value_current p _ h.pointer c.0).by _ (λ x i. (value_current n _ h.steps c.1).by _ (λ y j. (given_current at _ (moved_current lives x (steps back (integer y)) i)).by k each));
      }
      value_current (Term.Diff p q) t h c = record {
        by = λ k each. (value_current p _ h.left c.0).by _ (λ x i. (value_current q _ h.right c.1).by _ (λ y j. (given_current at _ (difference_current lives x y)).by k each));
      }

      pub place_current : (p : Lvalue) (x : Extent) → Designates program slots p x → LvalueScoped objects p → GivesCurrent (place (known_of program) at s p)
      place_current (Lvalue.Slot i) x h c = record { by = λ k each. each wire.Null tt }
      place_current (Lvalue.Object i) x h c = record { by = λ k each. each (slot_of s i) (living_current lives own (slot_of s i) knows.living (frame.named i c)) }
      place_current (Lvalue.Global g) x h c = record { by = λ k each. each (global (known_of program) g) (global_current lives program knows.globals g) }
      place_current (Lvalue.Deref e) x h c = value_current e _ h.pointer c
      place_current (Lvalue.Member p f) x h c = record { by = λ k each. (place_current p _ h.whole c).by _ (λ y a. (given_current at _ (member_current lives (known_of program) y f a)).by k each) }
      place_current (Lvalue.Index p e) x h c = record {
        by = λ k each. (place_current p _ h.array c.0).by _ (λ y i. (value_current e _ h.index c.1).by _ (λ z j. (given_current at _ (moved_current lives y (integer z) i)).by k each));
      }

    pub values_current : (es : List Term) (ts : List Ty) → HaveAll program slots es ts → TermsScoped objects es → (k : List Wire → Tree) → ((vs : List Wire) → AreCurrent lives vs → Goes (k vs)) → Goes (values (known_of program) at s es k)
    values_current [] [] h c k each = each [] tt
    values_current [] (t ∷ ts) h c k each = elim h [ ]
    values_current (e ∷ es) [] h c k each = elim h [ ]
    values_current (e ∷ es) (t ∷ ts) h c k each = (value_current e t h.0 c.0).by _ (λ v a. values_current es ts h.1 c.1 (λ vs. k (v ∷ vs)) (λ vs b. each (v ∷ vs) (a, b)))
