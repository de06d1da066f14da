-- Interrupts wait while an upcall is open, and what dies leaves every set.
use Rattle.std.proofs.Common.{◌≡◌, ℕ, Bool, true, false, not, ◌&&◌, List, [], ◌∷◌, Option, None, Result, Err, refl, sym, ◌∙◌, ap, arith}
use Rattle.std.specs.Prelude.{map, ◌==◌}
use Rattle.std.proofs.lemmas.Bool.{and_parts, eq-eqb, ltb-true, lt-ltb}
use Rattle.mdr_core.specs.declared.stop.StopKind.{StopKind}
use Rattle.mdr_core.specs.declared.stop.StopKind.TheVariants as stop
use Rattle.mdr_core.specs.Layout.{chosen}
use Rattle.mdr_extents.specs.CellOrder.{cells}
use Rattle.mdr_model.specs.declared.memory.Cell.{Cell}
use Rattle.mdr_model.specs.Memory.{reached, reached_by}
use Rattle.mdr_paths.specs.Paths.{is_in}
use Rattle.mdr_paths.proofs.NodeLists.{is_in-filter, none_in}
use Rattle.mdr_plain.specs.Gate.{are_none, due}
use Rattle.mdr_plain.specs.Storage.{died, without}
use Rattle.mdr_plain.specs.World.{World}
use Rattle.mdr_watched.specs.Laws.{AccessesAreHeld, InterruptsWait, TheDeadLeave}
use Rattle.mdr_watched.specs.Views.{top}

-- ---- interrupts

waits : (line handles locked : Bool) (views : List (List Cell)) (handler : Option ℕ) → are_none views ≡ false → chosen (line && (not handles && (not locked && are_none views))) handler None ≡ None
waits false handles locked views handler e = refl
waits true true locked views handler e = refl
waits true false true views handler e = refl
waits true false false views handler e = rw e refl

-- none is due where an upcall is open
pub none_due : (w : World) → are_none w.views ≡ false → due w ≡ None
unfolding due
none_due w e = waits _ _ _ w.views w.kept.handler e

pub interrupts_wait : InterruptsWait
interrupts_wait w set sets e = none_due w (ap are_none e)

-- ---- the dead

not_itself : (serial : ℕ) (c : Cell) → not (c.serial == serial) ≡ true → c.serial ≡ serial → ⊥
not_itself serial c h same = grind (arith, eq-eqb c.serial serial same)

left_out : (serial : ℕ) (views : List (List Cell)) (c : Cell) → is_in cells (top (map (without serial) views)) c ≡ true → c.serial ≡ serial → ⊥
left_out serial [] c h same = none_in cells c h
left_out serial (set ∷ sets) c h same = not_itself serial c (and_parts _ _ (sym (is_in-filter cells (λ (x : Cell). not (x.serial == serial)) set c) ∙ h)).0 same

pub the_dead_leave : TheDeadLeave
unfolding died
the_dead_leave w serial c h same = left_out serial w.views c h same

-- ---- accesses

record Parts (alive inside allowed : Bool) : Type 0 where
  live : alive ≡ true
  within : inside ≡ true
  outside : allowed ≡ false

parts : (alive inside allowed : Bool) (c : Cell) → ◌≡◌ {A = Result Cell StopKind} (reached_by alive inside allowed c) (Err stop.Annotation) → Parts alive inside allowed
parts false inside allowed c e = absurd cc
parts true false allowed c e = absurd cc
parts true true false c e = record { live = refl; within = refl; outside = refl }
parts true true true c e = absurd cc

back : (alive inside allowed : Bool) (c : Cell) → alive ≡ true → inside ≡ true → allowed ≡ false → ◌≡◌ {A = Result Cell StopKind} (reached_by alive inside allowed c) (Err stop.Annotation)
back alive inside allowed c a i o = rw (a, i, o) refl

pub accesses_are_held : AccessesAreHeld
unfolding reached
accesses_are_held w p = (
  λ e. let q = parts _ _ _ _ e in record { live = q.live; inside = ltb-true p.index p.count q.within; outside = q.outside },
  λ l. back _ _ _ _ l.live (lt-ltb p.index p.count l.inside) l.outside,
)
