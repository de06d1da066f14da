-- Where the locals of a body come from: each is what a declaration came to.
use Rattle.std.proofs.Common.{◌≡◌, ℕ, zero, suc, Bool, false, List, [], ◌∷◌, ◌++◌, Option, Some, refl, subst, slice_get}
use Rattle.std.proofs.lemmas.Option.{none-some, same_Some}
use Rattle.mdr_syntax.specs.declared.tree.Decl.{Decl}
use Rattle.mdr_faults.specs.declared.scope.Scope.{Scope}
use Rattle.mdr_faults.specs.Faults.{told}
use Rattle.mdr_operand.specs.Written.{Written, Line, Lines, Clauses}
use Rattle.mdr_body.specs.declared.here.DeclaredLocal.{DeclaredLocal}
use Rattle.mdr_body.specs.declared.here.Frame.{Frame}
use Rattle.mdr_body.specs.declared.here.Here.{Here}
use Rattle.mdr_body.specs.Locals.{local_declared, with_local, is_taken, entered, left, numbered}
use Rattle.mdr_body.specs.Statements.{tail_of, simple_behind, head_taken, heads_behind, steps_behind, behind_head, line_behind, perhaps_behind, lines_behind, clauses_behind}

pub record IsFrom (scope : Scope) (locks : List Bool) (m : DeclaredLocal) : Type 0 where
  pub here : Here
  pub is_taken : Bool
  pub decl : Decl
  pub is : m.means ≡ told (local_declared scope locks here is_taken decl)

pub record AreFrom (scope : Scope) (locks : List Bool) (ms : List DeclaredLocal) : Type 0 where
  pub each : (i : ℕ) (m : DeclaredLocal) → slice_get ms i ≡ Some m → IsFrom scope locks m

pub from_none : (scope : Scope) (locks : List Bool) → AreFrom scope locks []
from_none scope locks = record { each = λ i m e. absurd (none-some m e) }

-- an item of a list with one more is one of those before it, or the last
front_or_last : {A : Type 0} (P : A → Type 0) (xs : List A) (y : A) → ((i : ℕ) (x : A) → slice_get xs i ≡ Some x → P x) → P y → (i : ℕ) (x : A) → slice_get (xs ++ y ∷ []) i ≡ Some x → P x
front_or_last P [] y h k zero x e = subst P (same_Some y x e) k
front_or_last P [] y h k (suc i) x e = absurd (none-some x e)
front_or_last P (z ∷ xs) y h k zero x e = subst P (same_Some z x e) (h zero z refl)
front_or_last P (z ∷ xs) y h k (suc i) x e = front_or_last P xs y (λ j v q. h (suc j) v q) k i x e

module _ (scope : Scope) (frame : Frame) where
  from_local : (t : Bool) (d : Decl) (a : Here) → AreFrom scope frame.locks a.locals → AreFrom scope frame.locks (with_local scope frame.locks t d a).locals
  unfolding with_local
  from_local t d a h = record {
    each = front_or_last (IsFrom scope frame.locks) a.locals (record { means = told (local_declared scope frame.locks a t d) }) h.each (record { here = a; is_taken = t; decl = d; is = refl });
  }

  from_simple : (a : Here) (t : Bool) (l : Line) → AreFrom scope frame.locks a.locals → AreFrom scope frame.locks (simple_behind scope frame a t l).locals
  from_simple a t (Line.Local p d init) h = from_local t d a h
  from_simple a t l h = h

  from_heads : (a : Here) (test : Option Written) (next : Lines) (body : Line) (ls : Lines) → AreFrom scope frame.locks a.locals → AreFrom scope frame.locks (heads_behind scope frame a (tail_of test next body) ls).locals
  unfolding heads_behind
  from_heads a test next body Lines.End h = h
  from_heads a test next body (Lines.Then l ls) h = from_heads (simple_behind scope frame a (head_taken l ls (tail_of test next body)) l) test next body ls (from_simple a (head_taken l ls (tail_of test next body)) l h)

  from_steps : (a : Here) (ls : Lines) → AreFrom scope frame.locks a.locals → AreFrom scope frame.locks (steps_behind scope frame a ls).locals
  from_steps a Lines.End h = h
  from_steps a (Lines.Then l ls) h = from_simple a false l h

  from_head : (a : Here) (init : Lines) (test : Option Written) (next : Lines) (body : Line) → AreFrom scope frame.locks a.locals → AreFrom scope frame.locks (behind_head scope frame a init (tail_of test next body)).locals
  unfolding behind_head
  from_head a init test next body h = from_steps (heads_behind scope frame a (tail_of test next body) init) next (from_heads a test next body init h)

  mutual
    from_line : (a : Here) (t : Bool) (l : Line) → AreFrom scope frame.locks a.locals → AreFrom scope frame.locks (line_behind scope frame a t l).locals
    from_line a t (Line.Block p ls) h = from_lines (entered a) ls h
    from_line a t (Line.Local p d init) h = from_local t d a h
    from_line a t (Line.If p w one other) h = from_perhaps (line_behind scope frame (numbered a) false one) other (from_line (numbered a) false one h)
    from_line a t (Line.While p w body) h = from_line (numbered a) false body h
    from_line a t (Line.For p init test next body) h = from_line (behind_head scope frame (entered a) init (tail_of test next body)) false body (from_head (entered a) init test next body h)
    from_line a t (Line.Do p body w) h = from_line (numbered a) false body h
    from_line a t (Line.Switch p w cs) h = from_clauses (numbered a) cs h
    from_line a t l h = h

    from_perhaps : (a : Here) (ls : Lines) → AreFrom scope frame.locks a.locals → AreFrom scope frame.locks (perhaps_behind scope frame a ls).locals
    from_perhaps a Lines.End h = h
    from_perhaps a (Lines.Then l ls) h = from_line a false l h

    pub from_lines : (a : Here) (ls : Lines) → AreFrom scope frame.locks a.locals → AreFrom scope frame.locks (lines_behind scope frame a ls).locals
    from_lines a Lines.End h = h
    from_lines a (Lines.Then l ls) h = from_lines (line_behind scope frame a (is_taken l ls) l) ls (from_line a (is_taken l ls) l h)

    from_clauses : (a : Here) (cs : Clauses) → AreFrom scope frame.locks a.locals → AreFrom scope frame.locks (clauses_behind scope frame a cs).locals
    from_clauses a Clauses.NoPart h = h
    from_clauses a (Clauses.Part labels ls cs) h = from_clauses (left a (lines_behind scope frame (entered a) ls)) cs (from_lines (entered a) ls h)
