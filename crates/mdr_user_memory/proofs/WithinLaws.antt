-- Code that is held to a set of cells changes these cells alone, and what is told of them gives its memory.
use Rattle.std.proofs.Common.{◌≡◌, ℕ, zero, suc, Bool, true, false, cond, List, Option, Some, None, Result, Ok, Err, refl, sym, ◌∙◌, ap, subst, arith}
use Rattle.std.specs.Prelude.{is_some, nat_lt}
use Rattle.mdr_core.specs.declared.place.At.{At}
use Rattle.mdr_core.specs.declared.stop.StopKind.{StopKind}
use Rattle.mdr_meaning.specs.declared.wire.Wire.{Wire}
use Rattle.mdr_meaning.specs.declared.wire.Wire.TheVariants as wire
use Rattle.mdr_meaning.specs.Tree.{Tree}
use Rattle.mdr_meaning.specs.Walk.{Walked, on_access, walk}
use Rattle.mdr_model.specs.declared.memory.Cell.{Cell}
use Rattle.mdr_model.specs.Agreement.{SerialsRise}
use Rattle.mdr_model.specs.Copies.{changes, put_runs}
use Rattle.mdr_model.specs.Memory.{Memory, born_at, cell_at, cell_of, is_live, normal, put, reached, reached_by, stored, stored_into}
use Rattle.mdr_model.specs.Sets.{is_in, is_same_cell}
use Rattle.mdr_model.proofs.CopyLaws.{born_at-put_runs, cell_at-changes, rises-put_runs}
use Rattle.mdr_model.proofs.MemoryLaws.{born_at-put, cell_at-put, replaced, rises-put, same_cell, same_memory}
use Rattle.mdr_user_memory.specs.Copied.{Copied, Past, copied, copied_if, copy_accesses}
use Rattle.mdr_user_memory.specs.Within.{IsLeft, IsWithin}

pub within_first : (view : List Cell) (copy : Memory) → SerialsRise copy → IsWithin view copy copy
within_first view copy r = record { rises = r; born = λ s. refl; sized = λ c. refl; outside = λ c h. refl }

within-put : {view : List Cell} {copy m : Memory} (c : Cell) (v : Wire) → is_in view c ≡ true → IsWithin view copy m → IsWithin view copy (put m c v)
within-put {view} {copy} {m} c v inside w = record {
  rises = rises-put m c v w.rises;
  born = λ s. born_at-put m c v s ∙ w.born s;
  sized = λ d. ap (λ o. is_some o) (cell_at-put m c v d) ∙ (of (is_same_cell d c) (cell_at m d) ∙ w.sized d);
  outside = λ d h. cell_at-put m c v d ∙ (ap (λ q. cond q (replaced (cell_at m d) v) (cell_at m d)) (other d h (is_same_cell d c) refl) ∙ w.outside d h);
}
  where
    of : (q : Bool) (o : Option Wire) → is_some (cond q (replaced o v) o) ≡ is_some o
    of true None = refl
    of true (Some x) = refl
    of false o = refl

    other : (d : Cell) → is_in view d ≡ false → (q : Bool) → is_same_cell d c ≡ q → is_same_cell d c ≡ false
    other d h true e = absurd (grind (arith, inside, subst (λ x. is_in view x ≡ false) (same_cell d c e) h))
    other d h false e = e

reached_inside : (view : List Cell) (m : Memory) (p : Wire) (c : Cell) → reached (is_in view) m p ≡ Ok c → is_in view c ≡ true
unfolding reached
reached_inside view m (wire.Ptr p) c e = of (is_live m p.serial) (nat_lt p.index p.count) (is_in view (cell_of p)) refl e
  where
    same : ◌≡◌ {A = Result Cell StopKind} (Ok (cell_of p)) (Ok c) → cell_of p ≡ c
    same k = cc

    of : (a b q : Bool) → is_in view (cell_of p) ≡ q → reached_by a b q (cell_of p) ≡ Ok c → is_in view c ≡ true
    of true true true h k = subst (λ x. is_in view x ≡ true) (same k) h
    of true true false h k = absurd (grind arith)
    of true false q h k = absurd (grind arith)
    of false b q h k = absurd (grind arith)
reached_inside view m wire.Dead c e = absurd (grind arith)
reached_inside view m (wire.Int k n) c e = absurd (grind arith)
reached_inside view m wire.Null c e = absurd (grind arith)
reached_inside view m (wire.Fn f) c e = absurd (grind arith)
reached_inside view m (wire.Lock s) c e = absurd (grind arith)
reached_inside view m wire.NoValue c e = absurd (grind arith)

-- where a store goes on, one cell of the set was put
within-stored : {view : List Cell} {copy m : Memory} (p v : Wire) (m' : Memory) → stored (is_in view) m p v ≡ Ok m' → IsWithin view copy m → IsWithin view copy m'
unfolding stored
within-stored {view} {copy} {m} p v m' e w = of (reached (is_in view) m p) refl e
  where
    of : (o : Result Cell StopKind) → reached (is_in view) m p ≡ o → stored_into m v o ≡ Ok m' → IsWithin view copy m'
    of (Err kind) h k = absurd (never k)
      where
        never : ◌≡◌ {A = Result Memory StopKind} (Err kind) (Ok m') → ⊥
        never q = cc
    of (Ok c) h k = subst (IsWithin view copy) (same k) (within-put c (normal m v) (reached_inside view m p c h) w)
      where
        same : ◌≡◌ {A = Result Memory StopKind} (Ok (put m c (normal m v))) (Ok m') → put m c (normal m v) ≡ m'
        same q = cc

module _ (past : Past) (agreed : Memory) (view : List Cell) where
  accessed : {A : Type 0} (x : Result A StopKind) (at : At) (c : Copied) (n : ℕ) (go : A → Walked Copied) → IsLeft past agreed view c → ((y : A) → IsLeft past agreed view (go y).memory) → IsLeft past agreed view (on_access x at c n go).memory
  accessed (Ok y) at c n go l rest = rest y
  accessed (Err kind) at c n go l rest = l

  stores : (c : Copied) (p v : Wire) (at : At) (n : ℕ) (go : Copied → Walked Copied) → IsLeft past agreed view c → ((y : Copied) → IsLeft past agreed view y → IsLeft past agreed view (go y).memory)
      → IsLeft past agreed view (on_access (copied_if c.past c.agreed c.view (stored (is_in c.view) c.memory p v)) at c n go).memory
  stores c p v at n go l rest = of (stored (is_in c.view) c.memory p v) refl
    where
      of : (o : Result Memory StopKind) → stored (is_in c.view) c.memory p v ≡ o → IsLeft past agreed view (on_access (copied_if c.past c.agreed c.view o) at c n go).memory
      of (Err kind) e = l
      of (Ok m) e =
          rest (copied c.past c.agreed c.view m)
          (record { lived = l.lived; copy = l.copy; cells = l.cells; within = within-stored p v m (subst (λ (vs : List Cell). stored (is_in vs) c.memory p v ≡ Ok m) l.cells e) l.within })

  pub walk_left : (n : ℕ) (t : Tree) (c : Copied) → IsLeft past agreed view c → IsLeft past agreed view (walk copy_accesses n t c).memory
  unfolding walk
  walk_left n Tree.Idle c l = l
  walk_left n (Tree.Waits k) c l = l
  walk_left n (Tree.Done v t) c l = l
  walk_left n (Tree.Stop kind at) c l = l
  walk_left zero (Tree.Tick at d t) c l = l
  walk_left (suc n) (Tree.Tick at d t) c l = walk_left n t c l
  walk_left n (Tree.Load at p k) c l = accessed (copy_accesses.load c p) at c n (λ v. walk copy_accesses n (k v) c) l (λ v. walk_left n (k v) c l)
  walk_left n (Tree.Store at p v t) c l = stores c p v at n (λ c'. walk copy_accesses n t c') l (λ c' l'. walk_left n t c' l')
  walk_left n (Tree.Read at p count k) c l = accessed (copy_accesses.read c p count) at c n (λ bs. walk copy_accesses n (k bs) c) l (λ bs. walk_left n (k bs) c l)
  walk_left n (Tree.Fresh at v k) c l = accessed (copy_accesses.fresh c v) at c n (λ x. walk copy_accesses n (k x) c) l (λ x. walk_left n (k x) c l)
  walk_left n (Tree.Birth at shapes k) c l = walk_left n (k (copy_accesses.birth c shapes).pointers) c l
  walk_left n (Tree.Death at ps t) c l = walk_left n t c l
  walk_left n (Tree.Ask asked k) c l = l
  walk_left n (Tree.Cross at func args depth k) c l = l

-- what changed of whatever is left so, stored in the copy, gives it
pub changes_give : (view : List Cell) (copy m : Memory) → SerialsRise copy → IsWithin view copy m → put_runs (changes view copy m) copy ≡ m
changes_give view copy m r w =
    same_memory (put_runs (changes view copy m) copy) m (rises-put_runs (changes view copy m) copy r) w.rises (λ s. born_at-put_runs (changes view copy m) copy s ∙ sym (w.born s))
    (λ c. cell_at-changes view copy m copy c (λ h. sym (w.sized c)) (λ h. refl) ∙ of c (is_in view c) refl)
  where
    of : (c : Cell) (q : Bool) → is_in view c ≡ q → cond q (cell_at m c) (cell_at copy c) ≡ cell_at m c
    of c true e = refl
    of c false e = sym (w.outside c e)
