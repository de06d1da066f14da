-- believed
-- The trees of statements (C99 6.7, 6.8). Each takes a tick, a block and the end of a function none.
use Rattle.std.specs.Prelude.{ℕ, ◌+◌, suc, Bool, true, false, List, [], ◌∷◌, Option, Some, None, slice_get, slice_set, pos}
use Rattle.mdr_core.specs.declared.kind.Kind.{Kind}
use Rattle.mdr_core.specs.declared.kind.Kind.TheVariants.{U8}
use Rattle.mdr_core.specs.declared.types.Ty.{Ty, out-Ty}
use Rattle.mdr_core.specs.declared.types.Ty.TheOpen.{Ty-F}
use Rattle.mdr_core.specs.declared.place.At.{At}
use Rattle.mdr_core.specs.Code.{Term, Code, Codes}
use Rattle.mdr_core.specs.Conversions.{converted}
use Rattle.mdr_core.specs.Layout.{chosen, zero_value}
use Rattle.mdr_core.specs.Typing.{Slot}
use Rattle.mdr_meaning.specs.declared.wire.Wire.{Wire}
use Rattle.mdr_meaning.specs.declared.wire.Wire.TheVariants as wire
use Rattle.mdr_meaning.specs.Calls.{call, keep, put}
use Rattle.mdr_meaning.specs.Expressions.{slot_of, value}
use Rattle.mdr_meaning.specs.Lives.{births, in_block, shape_of, with_object}
use Rattle.mdr_meaning.specs.Pointers.{at_index}
use Rattle.mdr_meaning.specs.Sides.{Side, Here, Ends, Breaks, Returns, Next, Go, Means, flow_of, in_here}
use Rattle.mdr_meaning.specs.Tree.{Tree}
use Rattle.mdr_meaning.specs.Values.{first_of, is_true, saturated_u32, wire_of}

-- ---- ways through statements

-- what follows in the list, or the flow goes on
abbrev pub on_ends : Go → Next → Next
on_ends go k Ends l = go l k
on_ends go k flow l = k flow l

-- what follows a loop's body: the step and the next turn, or the loop is left (6.8.5, 6.8.6.2, 6.8.6.3)
abbrev pub around : (again step : Go) → Next → Next
around again step k Breaks l = k Ends l
around again step k (Returns v) l = k (Returns v) l
around again step k flow l = step l (on_ends again k)

abbrev pub leaves : Go
leaves l k = k Ends l

-- ---- texts

abbrev pub kind_by : Ty-F Ty → Kind
kind_by (Ty-F.Int k) = k
kind_by _ = U8

-- the kind of an array's characters
abbrev pub characters : Option Slot → Kind
characters None = U8
characters (Some s) = kind_by (out-Ty s.ty)

-- element i of an array
abbrev pub element : Wire → ℕ → Wire
element (wire.Ptr v) i = wire.Ptr (at_index v (saturated_u32 (v.index + i)))
element v i = v

-- the bytes of a text are stored in the elements from i on
abbrev pub texts : At → Kind → Wire → ℕ → List ℕ → Tree → Tree
texts at kind p i [] t = t
texts at kind p i (b ∷ bs) t = Tree.Store at (element p i) (wire.Int kind (converted kind (pos b))) (texts at kind p (suc i) bs t)

module _ (side : Side) (low : Means) (here : Here) where
  -- a statement begins
  abbrev pub tick : ℕ → (At → Tree) → Tree
  tick n next = Tree.Tick (in_here here n) here.depth (next (in_here here n))

  -- ---- declarations (6.7)

  -- an object is born; a slot is zero or null, each time
  abbrev pub declared_by : Bool → ℕ → Slot → Go
  declared_by true i s l k = births side here (shape_of side.known s ∷ []) (λ ps. k Ends (with_object i (first_of ps) l))
  declared_by false i s l k = k Ends (record { slots = slice_set l.slots i (wire_of (zero_value s.ty)); born = l.born })

  abbrev pub declared : ℕ → Option Slot → Go
  declared i None l k = k Ends l
  declared i (Some s) l k = declared_by s.object i s l k

  -- a loop's turn: its body is a block (6.8.5, paragraph 5)
  abbrev pub turn : (again step body : Go) → Go
  turn again step body l k = in_block side here body l (around again step k)

  abbrev pub returns : At → Option Term → Go
  returns at None l k = k (Returns wire.NoValue) l
  returns at (Some e) l k = value side.known at l.slots e (λ v. k (Returns v) l)

  abbrev mutual
    pub stmt : Code → Go
    stmt (Code.Declare n i) l k = tick n (λ at. declared i (slice_get here.slots i) l k)
    -- 6.7.8, paragraph 14
    stmt (Code.Text n i bytes) l k = tick n (λ at. texts at (characters (slice_get here.slots i)) (slot_of l.slots i) 0 bytes (k Ends l))
    -- the right side before the left (6.5.16, paragraph 4 leaves the order open)
    stmt (Code.Assign n p e) l k = tick n (λ at. value side.known at l.slots e (λ v. put side.known at p v l (k Ends)))
    -- 6.8.3
    stmt (Code.Call n goal form) l k = tick n (λ at. call side low here at l.slots form (λ v. keep side.known here at goal v l k))
    -- 6.8.4.1; each branch is a block (6.8.4, paragraph 3)
    stmt (Code.If n e one other) l k = tick n (λ at. value side.known at l.slots e (λ v. in_block side here (chosen (is_true v) (stmts one) (stmts other)) l k))
    -- 6.8.5
    stmt (Code.Loop n e step body) l k =
        tick n (λ at. value side.known at l.slots e (λ v. chosen (is_true v) (turn (low here (Codes.Then (Code.Loop n e step body) Codes.End)) (stmts step) (stmts body)) leaves l k))
    -- 6.8.2
    stmt (Code.Block body) l k = in_block side here (stmts body) l k
    -- 6.8.6.4
    stmt (Code.Return n e) l k = tick n (λ at. returns at e l k)
    -- 6.8.6.2, 6.8.6.3, 6.8.3
    stmt (Code.Jump n way) l k = tick n (λ at. k (flow_of way) l)

    pub stmts : Codes → Go
    stmts Codes.End l k = k Ends l
    stmts (Codes.Then c cs) l k = stmt c l (on_ends (stmts cs) k)
