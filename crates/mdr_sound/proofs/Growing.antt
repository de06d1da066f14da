-- What is known behind a statement: names and locals stand behind those before it.
use Rattle.std.proofs.Common.{◌≡◌, ◌+◌, ◌≤◌, Bool, false, List, [], ◌++◌, length, take, Option, refl, sym, ap, ◌∙◌, arith, append_assoc, append-nil, length-append, le_refl, le_trans, add-zero}
use Rattle.mdr_syntax.specs.declared.tree.Decl.{Decl}
use Rattle.mdr_faults.specs.declared.scope.Scope.{Scope}
use Rattle.mdr_operand.specs.declared.room.LocalName.{LocalName}
use Rattle.mdr_operand.specs.Written.{Written, Line, Lines, Clauses}
use Rattle.mdr_body.specs.declared.here.DeclaredLocal.{DeclaredLocal}
use Rattle.mdr_body.specs.declared.here.Frame.{Frame}
use Rattle.mdr_body.specs.declared.here.Here.{Here}
use Rattle.mdr_body.specs.Locals.{with_local, is_taken, entered, left, numbered}
use Rattle.mdr_body.specs.Statements.{tail_of, simple_behind, head_taken, heads_behind, steps_behind, behind_head, line_behind, perhaps_behind, lines_behind, clauses_behind}
use Rattle.mdr_sound.specs.Written.{IsStatement, AreStatements, IsProper, AreProper}
use Rattle.mdr_sound.proofs.JoinedLists.{take_front}

pub record Grows (a b : Here) : Type 0 where
  pub names : List LocalName
  pub names_are : b.names ≡ a.names ++ names
  pub locals : List DeclaredLocal
  pub locals_are : b.locals ≡ a.locals ++ locals
  pub slot : b.slot ≡ a.slot + length locals
  pub number : a.number ≤ b.number

pub grows_none : (a : Here) → Grows a a
grows_none a = record { names = []; names_are = sym (append-nil a.names); locals = []; locals_are = sym (append-nil a.locals); slot = sym (add-zero a.slot); number = le_refl a.number }

pub grows_on : (a b c : Here) → Grows a b → Grows b c → Grows a c
grows_on a b c f g = record {
  names = f.names ++ g.names;
  names_are = g.names_are ∙ ap (λ ns. ns ++ g.names) f.names_are ∙ append_assoc a.names f.names g.names;
  locals = f.locals ++ g.locals;
  locals_are = g.locals_are ∙ ap (λ ns. ns ++ g.locals) f.locals_are ∙ append_assoc a.locals f.locals g.locals;
  slot = let e = f.slot in let d = g.slot in let s = length-append f.locals g.locals in omega (arith, e, d, s);
  number = le_trans f.number g.number;
}

pub grows_numbered : (a : Here) → Grows a (numbered a)
grows_numbered a = record { names = []; names_are = sym (append-nil a.names); locals = []; locals_are = sym (append-nil a.locals); slot = sym (add-zero a.slot); number = omega arith }

pub grows_entered : (a : Here) → Grows a (entered a)
grows_entered a = record { names = []; names_are = sym (append-nil a.names); locals = []; locals_are = sym (append-nil a.locals); slot = sym (add-zero a.slot); number = le_refl a.number }

-- the names of a block end with it
pub left_keeps : (a b : Here) → Grows (entered a) b → (left a b).names ≡ a.names
left_keeps a b g = ap (take (length a.names)) g.names_are ∙ take_front a.names g.names

pub grows_left : (a b : Here) → Grows (entered a) b → Grows a (left a b)
grows_left a b g = record { names = []; names_are = left_keeps a b g ∙ sym (append-nil a.names); locals = g.locals; locals_are = g.locals_are; slot = g.slot; number = g.number }

module _ (scope : Scope) (frame : Frame) where
  grows_local : (t : Bool) (d : Decl) (a : Here) → Grows a (with_local scope frame.locks t d a)
  unfolding with_local
  grows_local t d a = record { names = _; names_are = refl; locals = _; locals_are = refl; slot = refl; number = le_refl a.number }

  pub simple_grows : (a : Here) (t : Bool) (l : Line) → Grows a (simple_behind scope frame a t l)
  simple_grows a t (Line.Local p d init) = grows_local t d a
  simple_grows a t l = grows_none a

  pub heads_grow : (a : Here) (test : Option Written) (step : Lines) (body : Line) (ls : Lines) → Grows a (heads_behind scope frame a (tail_of test step body) ls)
  unfolding heads_behind
  heads_grow a test step body Lines.End = grows_none a
  heads_grow a test step body (Lines.Then l ls) =
      let b : Here = simple_behind scope frame a (head_taken l ls (tail_of test step body)) l in
      grows_on a b _ (simple_grows a (head_taken l ls (tail_of test step body)) l) (heads_grow b test step body ls)

  pub steps_grow : (a : Here) (ls : Lines) → Grows a (steps_behind scope frame a ls)
  steps_grow a Lines.End = grows_none a
  steps_grow a (Lines.Then l ls) = simple_grows a false l

  pub head_grows : (a : Here) (init : Lines) (test : Option Written) (step : Lines) (body : Line) → Grows a (behind_head scope frame a init (tail_of test step body))
  unfolding behind_head
  head_grows a init test step body =
      let b : Here = heads_behind scope frame a (tail_of test step body) init in
      let c : Here = steps_behind scope frame b step in
      grows_on a b _ (heads_grow a test step body init) (grows_on b c _ (steps_grow b step) (grows_numbered c))

  mutual
    pub line_grows : (a : Here) (t : Bool) (l : Line) → Grows a (line_behind scope frame a t l)
    line_grows a t (Line.Empty p) = grows_numbered a
    line_grows a t (Line.Block p ls) = grows_left a _ (lines_grow (entered a) ls)
    line_grows a t (Line.Local p d init) =
        let b : Here = with_local scope frame.locks t d a in
        grows_on a b _ (grows_local t d a) (grows_numbered b)
    line_grows a t (Line.Assign p at op x y) = grows_numbered a
    line_grows a t (Line.Plain p w) = grows_numbered a
    line_grows a t (Line.If p e one other) =
        let b : Here = line_behind scope frame (numbered a) false one in
        grows_on a (numbered a) _ (grows_numbered a) (grows_on (numbered a) b _ (line_grows (numbered a) false one) (perhaps_grow b other))
    line_grows a t (Line.While p e body) = grows_on a (numbered a) _ (grows_numbered a) (line_grows (numbered a) false body)
    line_grows a t (Line.For p init test step body) =
        let b : Here = behind_head scope frame (entered a) init (tail_of test step body) in
        grows_left a _ (grows_on (entered a) b _ (head_grows (entered a) init test step body) (line_grows b false body))
    line_grows a t (Line.Do p body e) = grows_on a (numbered a) _ (grows_numbered a) (line_grows (numbered a) false body)
    line_grows a t (Line.Switch p e cs) = grows_on a (numbered a) _ (grows_numbered a) (clauses_grow (numbered a) cs)
    line_grows a t (Line.Return p e) = grows_numbered a
    line_grows a t (Line.Break p) = grows_numbered a
    line_grows a t (Line.Continue p) = grows_numbered a

    pub perhaps_grow : (a : Here) (ls : Lines) → Grows a (perhaps_behind scope frame a ls)
    perhaps_grow a Lines.End = grows_none a
    perhaps_grow a (Lines.Then l ls) = line_grows a false l

    pub lines_grow : (a : Here) (ls : Lines) → Grows a (lines_behind scope frame a ls)
    lines_grow a Lines.End = grows_none a
    lines_grow a (Lines.Then l ls) =
        let b : Here = line_behind scope frame a (is_taken l ls) l in
        grows_on a b _ (line_grows a (is_taken l ls) l) (lines_grow b ls)

    pub clauses_grow : (a : Here) (cs : Clauses) → Grows a (clauses_behind scope frame a cs)
    clauses_grow a Clauses.NoPart = grows_none a
    clauses_grow a (Clauses.Part labels ls cs) =
        let b : Here = left a (lines_behind scope frame (entered a) ls) in
        grows_on a b _ (grows_left a _ (lines_grow (entered a) ls)) (clauses_grow b cs)

  -- each clause is a block
  clauses_keep : (a : Here) (cs : Clauses) → (clauses_behind scope frame a cs).names ≡ a.names
  clauses_keep a Clauses.NoPart = refl
  clauses_keep a (Clauses.Part labels ls cs) = clauses_keep (left a (lines_behind scope frame (entered a) ls)) cs ∙ left_keeps a _ (lines_grow (entered a) ls)

  -- a statement declares nothing for what is behind it
  mutual
    pub names_keep : (a : Here) (t : Bool) (l : Line) → IsStatement l → IsProper l → (line_behind scope frame a t l).names ≡ a.names
    names_keep a t (Line.Empty p) s h = refl
    names_keep a t (Line.Block p ls) s h = left_keeps a _ (lines_grow (entered a) ls)
    names_keep a t (Line.Local p d init) s h = absurd cc
    names_keep a t (Line.Assign p at op x y) s h = refl
    names_keep a t (Line.Plain p w) s h = refl
    names_keep a t (Line.If p e one other) s h =
        perhaps_keeps (line_behind scope frame (numbered a) false one) other h.1.1.0 h.1.1.1 ∙ names_keep (numbered a) false one h.1.0.0 h.1.0.1
    names_keep a t (Line.While p e body) s h = names_keep (numbered a) false body h.1.0 h.1.1
    names_keep a t (Line.For p init test step body) s h =
        let b : Here = behind_head scope frame (entered a) init (tail_of test step body) in
        left_keeps a _ (grows_on (entered a) b _ (head_grows (entered a) init test step body) (line_grows b false body))
    names_keep a t (Line.Do p body e) s h = names_keep (numbered a) false body h.0.0 h.0.1
    names_keep a t (Line.Switch p e cs) s h = clauses_keep (numbered a) cs
    names_keep a t (Line.Return p e) s h = refl
    names_keep a t (Line.Break p) s h = refl
    names_keep a t (Line.Continue p) s h = refl

    pub perhaps_keeps : (a : Here) (ls : Lines) → AreStatements ls → AreProper ls → (perhaps_behind scope frame a ls).names ≡ a.names
    perhaps_keeps a Lines.End s h = refl
    perhaps_keeps a (Lines.Then l ls) s h = names_keep a false l s.0 h.0
