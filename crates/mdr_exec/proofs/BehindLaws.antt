-- Lists of statements in which nothing was born are left at once.
use Rattle.std.proofs.Common.{◌≡◌, ℕ, suc, ◌-◌, true, List, [], ◌∷◌, ◌++◌, Option, Some, None, slice_get, reverse, ◌⊎◌, inl, inr, refl, ap, sym, ◌∙◌, subst, ne_eqb}
use Rattle.mdr_core.specs.declared.code.Stmt.{Stmt}
use Rattle.mdr_core.specs.declared.program.Program.{Program}
use Rattle.mdr_core.specs.Code.{Term, Code, Codes}
use Rattle.mdr_core.specs.Folds.{code_of, codes_of}
use Rattle.mdr_meaning.specs.declared.wire.Wire.{Wire}
use Rattle.mdr_meaning.specs.Bodies.{means}
use Rattle.mdr_meaning.specs.Cut.{cut}
use Rattle.mdr_meaning.specs.Sides.{Side, Here, Next}
use Rattle.mdr_meaning.specs.Statements.{on_ends, stmt, stmts}
use Rattle.mdr_events.specs.Held.{Runs, Item, Rest, Scope, Around, Held, carry, bare, tree}
use Rattle.mdr_events.specs.Steps.{holds, IsSame}
use Rattle.mdr_events.specs.Values.{wires_of}
use Rattle.mdr_exec.specs.declared.frame.Machine.{Machine}
use Rattle.mdr_exec.specs.declared.places.Part.{Part}
use Rattle.mdr_exec.specs.declared.places.Part.TheVariants as part
use Rattle.mdr_exec.specs.declared.places.Position.{Position}
use Rattle.mdr_exec.specs.Behind.{GoesOnAt, is_plain, is_stepless}
use Rattle.mdr_exec.specs.Found.{body_codes}
use Rattle.mdr_exec.specs.Holding.{around, below_of, block_of, ends_with, here_of, held_of, is_running}
use Rattle.mdr_exec.specs.Places.{behind, code_at, code_before, inner}
use Rattle.mdr_exec.proofs.EnterLaws.{running_is}
use Rattle.mdr_exec.proofs.LeavingLaws.{nothing_more, under_way}
use Rattle.mdr_exec.proofs.PathLaws.{none_stands, around_into}
use Rattle.mdr_exec.proofs.PlaceLaws.{before_is, found_at}

-- ---- which code

-- a statement that stands in front of a place in a list
pub stands_before : (ss : List Stmt) (next : ℕ) (s : Stmt) → (next ≡ 0 → ⊥) → Some s ≡ slice_get ss (next - 1) → ◌≡◌ {A = Option Code} (Some (code_of s)) (code_before (codes_of ss) next)
stands_before ss next s some h = found_at ss None (next - 1) s h ∙ sym (before_is (codes_of ss) next (ne_eqb next 0 some))

data Stepless : Option Code → Type 0 where
  The : (n : ℕ) (e : Term) (body : Codes) → Stepless (Some (Code.Loop n e Codes.End body))

stepless : (code : Option Code) → is_stepless code ≡ true → Stepless code
stepless (Some (Code.Loop n e Codes.End body)) h = The n e body
stepless (Some (Code.Loop n e (Codes.Then c step) body)) h = absurd (cc h)
stepless None h = absurd (cc h)
stepless (Some (Code.Declare n i)) h = absurd (cc h)
stepless (Some (Code.Text n i bytes)) h = absurd (cc h)
stepless (Some (Code.Assign n p e)) h = absurd (cc h)
stepless (Some (Code.Call n goal form)) h = absurd (cc h)
stepless (Some (Code.If n e one other)) h = absurd (cc h)
stepless (Some (Code.Block body)) h = absurd (cc h)
stepless (Some (Code.Return n e)) h = absurd (cc h)
stepless (Some (Code.Jump n way)) h = absurd (cc h)

plain_ends : (p : Part) (outer : List Wire) (code : Option Code) → is_plain p ≡ true → ends_with p outer code ≡ Scope outer ∷ []
plain_ends part.One outer code h = refl
plain_ends part.Other outer code h = refl
plain_ends part.Inner outer code h = refl
plain_ends part.Body outer code h = absurd (cc h)
plain_ends part.Step outer code h = absurd (cc h)

-- ---- which position

record AreSame {A : Type 0} (xs ys : List A) (x y : A) : Type 0 where
  front : xs ≡ ys
  last : x ≡ y

-- a list that isn't empty has one last item
same_last : {A : Type 0} (xs ys : List A) (x y : A) → xs ++ x ∷ [] ≡ ys ++ y ∷ [] → AreSame xs ys x y
same_last [] [] x y h = record { front = refl; last = Prim.cc h }
same_last [] (b ∷ []) x y h = absurd (cc h)
same_last [] (b ∷ c ∷ ys) x y h = absurd (cc h)
same_last (a ∷ []) [] x y h = absurd (cc h)
same_last (a ∷ c ∷ xs) [] x y h = absurd (cc h)
same_last (a ∷ xs) (b ∷ ys) x y h =
    let s = same_last xs ys x y (Prim.cc h) in
    let first : a ≡ b = Prim.cc h in
    record { front = rw (first, s.front) refl; last = s.last }

module _ (cs : Codes) (whole path : List Position) (p : Position) (found : whole ≡ path ++ p ∷ []) where
  -- what is known of the last position that was found
  known_last : (next : ℕ) → GoesOnAt p (code_before (inner path cs) p.next) next → (path' : List Position) (p' : Position) → whole ≡ path' ++ p' ∷ [] → GoesOnAt p' (code_before (inner path' cs) p'.next) next
  known_last next h path' p' is =
      let s = same_last path path' p p' (sym found ∙ is) in
      subst (λ ps. GoesOnAt p' (code_before (inner ps cs) p'.next) next) s.front (subst (λ q. GoesOnAt q (code_before (inner path cs) q.next) next) s.last h)

  pub again_at : p.part ≡ part.Body → is_stepless (code_before (inner path cs) p.next) ≡ true → (path' : List Position) (p' : Position) → whole ≡ path' ++ p' ∷ []
      → GoesOnAt p' (code_before (inner path' cs) p'.next) (p.next - 1)
  again_at is loops = known_last (p.next - 1) (GoesOnAt.Again is loops)

  is_one : p.part ≡ part.One ⊎ (p.part ≡ part.Other ⊎ p.part ≡ part.Inner) → is_plain p.part ≡ true
  is_one (inl e) = ap is_plain e
  is_one (inr (inl e)) = ap is_plain e
  is_one (inr (inr e)) = ap is_plain e

  pub past_at : p.part ≡ part.One ⊎ (p.part ≡ part.Other ⊎ p.part ≡ part.Inner) → (path' : List Position) (p' : Position) → whole ≡ path' ++ p' ∷ []
      → GoesOnAt p' (code_before (inner path' cs) p'.next) p.next
  past_at is = known_last p.next (GoesOnAt.Past (is_one is))

-- ---- what is held

module _ (side : Side) (here : Here) (slots outer : List Wire) (after : Codes) (items : List Item) where
  -- a list is over, and what follows in the block around runs
  abbrev over : List Item → Held
  over ends = holds Runs here (record { slots = slots; born = [] }) Codes.End (ends ++ Rest after ∷ items)

  past : IsSame side (over (Scope outer ∷ [])) (holds Runs here (record { slots = slots; born = outer }) after items)
  unfolding bare tree carry means
  past = record { by = λ f r. refl; ready = λ r. record { calm = refl; started = r.started } }

  again : (n : ℕ) (e : Term) (body : Codes)
      → IsSame side (over (Scope outer ∷ Around n e Codes.End body ∷ [])) (holds Runs here (record { slots = slots; born = outer }) (Codes.Then (Code.Loop n e Codes.End body) after) items)
  unfolding bare tree carry means
  again n e body = record {
    ready = λ r. record { calm = refl; started = r.started };
    by = λ f r. ap (λ (k : Next). cut r (stmt side (means side f) here (Code.Loop n e Codes.End body) (record { slots = slots; born = outer }) k))
        (nothing_more side (means side f) here (on_ends (stmts side (means side f) here after) (carry side (means side (suc f)) here items)));
  }

-- ---- what a machine holds

module _ (program : Program) (m : Machine) (path : List Position) (p : Position) where
  abbrev cs : Codes
  cs = inner path (body_codes program m.top.func)

  abbrev rest : List Item
  rest = around path (body_codes program m.top.func) (below_of program (reverse m.below))

  abbrev here : Here
  here = here_of program m.top.func m.top.depth

  at_end : is_running m.front ≡ true → code_at (block_of program m.top) m.top.next ≡ None → m.top.born ≡ [] → m.top.path ≡ path ++ p ∷ []
      → held_of program m ≡ holds Runs here (record { slots = wires_of m.top.slots; born = [] }) Codes.End (ends_with p.part (wires_of p.born) (code_before cs p.next) ++ Rest (behind cs p.next) ∷ rest)
  unfolding held_of
  at_end runs none born e =
      rw (running_is m.front runs, none_stands (block_of program m.top) m.top.next none, born, e, around_into path p (body_codes program m.top.func)) refl

  -- the machine in the block around
  abbrev pub left : (next : ℕ) → Machine
  left next = record {
    side = m.side;
    front = m.front;
    top = record { func = m.top.func; depth = m.top.depth; path = path; next = next; slots = m.top.slots; born = p.born };
    below = m.below;
    used = m.used;
  }

  around_held : (next : ℕ) → is_running m.front ≡ true → held_of program (left next) ≡ holds Runs here (record { slots = wires_of m.top.slots; born = wires_of p.born }) (behind cs next) rest
  unfolding held_of
  around_held next runs = rw (running_is m.front runs) refl

  by_code : (code : Option Code) → code_before cs p.next ≡ code → Stepless code → (side : Side)
      → IsSame side (holds Runs here (record { slots = wires_of m.top.slots; born = [] }) Codes.End (ends_with part.Body (wires_of p.born) code ++ Rest (behind cs p.next) ∷ rest))
      (holds Runs here (record { slots = wires_of m.top.slots; born = wires_of p.born }) (behind cs (p.next - 1)) rest)
  by_code _ is (The n e body) side =
      rw (under_way cs p.next (Code.Loop n e Codes.End body) is) (again side here (wires_of m.top.slots) (wires_of p.born) (behind cs p.next) rest n e body)

  goes_on : (next : ℕ) → GoesOnAt p (code_before cs p.next) next → (side : Side)
      → IsSame side (holds Runs here (record { slots = wires_of m.top.slots; born = [] }) Codes.End (ends_with p.part (wires_of p.born) (code_before cs p.next) ++ Rest (behind cs p.next) ∷ rest))
      (holds Runs here (record { slots = wires_of m.top.slots; born = wires_of p.born }) (behind cs next) rest)
  goes_on _ (GoesOnAt.Again is loops) side = rw is (by_code (code_before cs p.next) refl (stepless (code_before cs p.next) loops) side)
  goes_on _ (GoesOnAt.Past plain) side = rw (plain_ends p.part (wires_of p.born) (code_before cs p.next) plain) (past side here (wires_of m.top.slots) (wires_of p.born) (behind cs p.next) rest)

  pub left_at_once : (next : ℕ) → is_running m.front ≡ true → code_at (block_of program m.top) m.top.next ≡ None → m.top.born ≡ [] → m.top.path ≡ path ++ p ∷ []
      → GoesOnAt p (code_before cs p.next) next → (side : Side) → IsSame side (held_of program m) (held_of program (left next))
  left_at_once next runs none born e on side =
      let s = goes_on next on side in
      subst (λ h. IsSame side h (held_of program (left next))) (sym (at_end runs none born e))
      (subst (λ h. IsSame side (holds Runs here (record { slots = wires_of m.top.slots; born = [] }) Codes.End (ends_with p.part (wires_of p.born) (code_before cs p.next) ++ Rest (behind cs p.next) ∷ rest)) h) (sym (around_held next runs)) s)
