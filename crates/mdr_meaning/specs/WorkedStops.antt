-- for proofs
-- Each stop that code itself comes to, at its place; and the order in which parts are evaluated, by which stop comes first.
use Rattle.std.specs.Prelude.{◌≡◌, ℕ, true, false, List, [], ◌∷◌, Option, pos, negsuc, codes}
use Rattle.mdr_core.specs.declared.kind.Kind.TheVariants.{U32, S32}
use Rattle.mdr_core.specs.declared.stop.StopKind.{StopKind}
use Rattle.mdr_core.specs.declared.stop.StopKind.TheVariants as stop
use Rattle.mdr_core.specs.declared.types.Ty.TheVariants as ty
use Rattle.mdr_core.specs.declared.value.Value.TheVariants as value
use Rattle.mdr_core.specs.declared.program.Program.{Program}
use Rattle.mdr_core.specs.declared.code.BinOp.TheVariants.{Div, Shl}
use Rattle.mdr_core.specs.declared.code.RelOp.TheVariants.{Lt}
use Rattle.mdr_core.specs.Code.{Term, Lvalue, Called, Goal, Code}
use Rattle.mdr_meaning.specs.declared.wire.Wire.{Wire}
use Rattle.mdr_meaning.specs.declared.wire.Wire.TheVariants as wire
use Rattle.mdr_meaning.specs.Bodies.{started}
use Rattle.mdr_meaning.specs.Cut.{cut}
use Rattle.mdr_meaning.specs.Printed.{print_text}
use Rattle.mdr_meaning.specs.Sides.{Body}
use Rattle.mdr_meaning.specs.Small.{Ending, Ended, Stopped, Crossed, mem, run}
use Rattle.mdr_meaning.specs.Tree.{Tree}
use Rattle.mdr_meaning.specs.Worked.{at_stmt, body, called, countdown, either, form, glob, global, global_array, i32, int, node_pointer, number, only, param, side, u32, var, w32, with_globals}

-- ---- one statement over five globals: u32 g; struct node n; u32 a[4]; struct node *p; struct row r[2];

abbrev pub five : Program
five = with_globals (global u32 ∷ global (ty.Struct 0) ∷ global_array u32 4 ∷ global node_pointer ∷ global_array (ty.Struct 1) 2 ∷ [])

abbrev pub five_cells : List (List Wire)
five_cells =
    (w32 0 ∷ []) ∷ (w32 0 ∷ wire.Null ∷ []) ∷ (w32 0 ∷ w32 0 ∷ w32 0 ∷ w32 0 ∷ []) ∷ (wire.Null ∷ []) ∷ (w32 0 ∷ w32 0 ∷ w32 0 ∷ w32 0 ∷ []) ∷ []

abbrev pub ends_of : (ℕ → Option Body) → Ending
ends_of own = (called five own false 300 0 [] (mem five_cells [] 0 [])).ending

-- `g = e;` and `p = e;`
abbrev pub to_g : Term → Ending
to_g e = ends_of (only (body [] ty.Void (Code.Assign 1 (Lvalue.Global 0) e ∷ [])))

abbrev pub to_p : Term → Ending
to_p e = ends_of (only (body [] ty.Void (Code.Assign 1 (Lvalue.Global 3) e ∷ [])))

abbrev pub here : StopKind → Ending
here kind = Stopped kind (at_stmt 0 1)

abbrev pub null : Term
null = Term.Lit value.Null

-- 1 / 0
abbrev pub undefined : Term
undefined = Term.Bin Div S32 (int 1) (int 0)

abbrev pub to_number : Term → Term
to_number e = Term.Conv U32 e

-- what p points to, which is null
abbrev pub behind_p : ℕ → Lvalue
behind_p f = Lvalue.Member (Lvalue.Deref (glob 3)) f

-- the node one past the end of `n`
abbrev pub past_n : Lvalue
past_n = Lvalue.Deref (Term.Move false (Term.Addr (Lvalue.Global 1)) (int 1))

abbrev pub calling : Called → List Term → Code
calling callee args = Code.Call 1 Goal.Nowhere (form callee args)

-- ---- each stop

pub record StopsHavePlaces : Type 0 where
  -- a null pointer is dereferenced, moved, used by `&p->f`, called
  pub null_loaded : to_g (Term.Load (Lvalue.Deref null)) ≡ here stop.Null
  pub null_moved : to_p (Term.Move false (glob 3) (int 1)) ≡ here stop.Null
  pub null_member : to_p (Term.Addr (behind_p 1)) ≡ here stop.Null
  pub null_called : ends_of (only (body [] ty.Void (calling (Called.Through null) [] ∷ []))) ≡ here stop.Null
  -- a pointer is moved below an array, behind one past its end, used there by `&p->f`; an element there is loaded, though its address may be taken
  pub moved_below : to_p (Term.Move true (Term.Addr (Lvalue.Global 1)) (int 1)) ≡ here stop.Bounds
  pub moved_behind : to_p (Term.Move false (Term.Addr (Lvalue.Global 1)) (int 2)) ≡ here stop.Bounds
  pub member_behind : to_p (Term.Addr (Lvalue.Member past_n 1)) ≡ here stop.Bounds
  pub loaded_behind : to_g (Term.Load (Lvalue.Index (Lvalue.Global 2) (int 4))) ≡ here stop.Bounds
  pub address_behind : to_g (Term.Rel Lt (Term.Decay (Lvalue.Global 2)) (Term.Addr (Lvalue.Index (Lvalue.Global 2) (int 4)))) ≡ Ended wire.NoValue
  pub divided : to_g undefined ≡ here stop.DivZero
  pub shifted : to_g (Term.Bin Shl S32 (int 1) (int 32)) ≡ here stop.Shift
  -- pointers of two objects, and of two arrays
  pub compared : to_g (Term.Rel Lt (Term.Addr (Lvalue.Global 0)) (Term.Addr (Lvalue.Index (Lvalue.Global 2) (int 0)))) ≡ here stop.Compare
  pub subtracted : to_g (Term.Diff (Term.Decay (Lvalue.Member (Lvalue.Index (Lvalue.Global 4) (int 1)) 0)) (Term.Decay (Lvalue.Member (Lvalue.Index (Lvalue.Global 4) (int 0)) 0))) ≡ here stop.Compare
  pub cast : to_p (Term.FromVoid (ty.Struct 0) (Term.ToVoid (Term.Addr (Lvalue.Global 0)))) ≡ here stop.BadCast
  pub null_cast : to_p (Term.FromVoid (ty.Struct 0) null) ≡ Ended wire.NoValue
  pub no_value : ends_of (either (body [] ty.Void (Code.Call 1 (Goal.Into (Lvalue.Global 0)) (form (Called.Direct 1) []) ∷ [])) (body [] u32 [])) ≡ here stop.NoValue
  pub handed_back : ends_of (either (body [] u32 (Code.Call 1 Goal.Back (form (Called.Direct 1) []) ∷ [])) (body [] u32 [])) ≡ here stop.NoValue
  -- three ticks of ten
  pub ticks : (run five (cut 3 (started (side five (only countdown) false) 20 0 (w32 3 ∷ []) 0 Tree.Idle)) (mem five_cells [] 0 [])).ending ≡ Stopped stop.Ticks (at_stmt 0 1)

-- ---- which comes first

-- a statement where 256 functions are active
abbrev pub at_last_depth : Code → Ending
at_last_depth c = (run five (started (side five (only (body [] ty.Void (c ∷ []))) false) 20 0 [] 255 Tree.Idle) (mem five_cells [] 0 [])).ending

pub record PartsHaveAnOrder : Type 0 where
  -- the right side before the left, and the value of a call before the left side
  pub right_first : ends_of (only (body [] ty.Void (Code.Assign 1 (behind_p 0) (to_number undefined) ∷ []))) ≡ here stop.DivZero
  pub value_first : ends_of (either (body [] ty.Void (Code.Call 1 (Goal.Into (behind_p 0)) (form (Called.Direct 1) []) ∷ [])) (body [] u32 [])) ≡ here stop.NoValue
  -- an element's bounds before the index to its right, and a null struct before an index into its array
  pub bounds_first : to_g (Term.Load (Lvalue.Index (Lvalue.Member (Lvalue.Index (Lvalue.Global 4) (int 2)) 0) undefined)) ≡ here stop.Bounds
  pub null_first : to_g (Term.Load (Lvalue.Index (Lvalue.Member (Lvalue.Deref null) 0) undefined)) ≡ here stop.Null
  -- but an index before the bounds of its own array
  pub index_first : to_g (Term.Load (Lvalue.Member (Lvalue.Index (Lvalue.Global 4) undefined) 0)) ≡ here stop.DivZero
  -- the callee, then the arguments, then whether there is one to call, then the depth
  pub callee_first : ends_of (only (body [] ty.Void (calling (Called.Through (Term.Load (Lvalue.Deref null))) (undefined ∷ []) ∷ []))) ≡ here stop.Null
  pub arguments_first : ends_of (only (body [] ty.Void (calling (Called.Through null) (undefined ∷ []) ∷ []))) ≡ here stop.DivZero
  pub null_before_depth : at_last_depth (calling (Called.Through null) []) ≡ here stop.Null
  pub arguments_before_depth : at_last_depth (calling (Called.Direct 0) (undefined ∷ [])) ≡ here stop.DivZero
  pub depth_last : at_last_depth (calling (Called.Direct 0) []) ≡ here stop.Depth

-- ---- services

pub record ServicesAreAsked : Type 0 where
  -- "n %d, %x and %%" with -3 and 255
  pub text : print_text (codes "n %d, %x and %%") (wire.Int S32 (negsuc 2) ∷ w32 255 ∷ []) ≡ codes "n -3, ff and %"
  pub low_byte : print_text (codes "%c%u%ld") (i32 321 ∷ w32 7 ∷ wire.Int S32 (pos 40) ∷ []) ≡ codes "A740"
  -- service 15 calls what its first argument names, on the own side or on the other
  pub called_back : ends_of (either (body [] ty.Void (calling (Called.Service 15) (Term.Lit (value.Fn 1) ∷ undefined ∷ []) ∷ [])) (body (param u32 ∷ []) ty.Void [])) ≡ here stop.DivZero
  pub entered : ends_of (either (body [] ty.Void (calling (Called.Service 15) (Term.Lit (value.Fn 1) ∷ number 5 ∷ []) ∷ [])) (body (param u32 ∷ []) ty.Void (Code.Assign 1 (Lvalue.Deref null) (var 0) ∷ []))) ≡ Stopped stop.Null (at_stmt 1 1)
  pub crossed : ends_of (only (body [] ty.Void (calling (Called.Service 15) (Term.Lit (value.Fn 1) ∷ number 5 ∷ []) ∷ []))) ≡ Crossed 1 (w32 5 ∷ []) 1
  pub null_called : ends_of (only (body [] ty.Void (calling (Called.Service 15) (null ∷ number 5 ∷ []) ∷ []))) ≡ here stop.Null
