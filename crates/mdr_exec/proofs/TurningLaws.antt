-- Tests of integers, and runs over statements of integers.
use Rattle.std.proofs.Common.{◌≡◌, ℕ, zero, suc, ◌-◌, ℤ, pos, true, false, not, List, [], ◌∷◌, Option, Some, None, Result, Ok, unwrap_or, int_eq, slice_get, of_z, to_z, refl, ap, sym, ◌∙◌, subst, arith}
use Rattle.std.specs.Int.{w128}
use Rattle.std.proofs.lemmas.Int.{ints}
use Rattle.mdr_core.specs.declared.code.Stmt.{Stmt}
use Rattle.mdr_core.specs.declared.plan.Half.{Half}
use Rattle.mdr_core.specs.declared.program.Program.{Program}
use Rattle.mdr_core.specs.declared.stop.StopKind.{StopKind}
use Rattle.mdr_core.specs.declared.value.Value.{Value}
use Rattle.mdr_core.specs.Code.{Term, Codes}
use Rattle.mdr_core.specs.Folds.{code_of, codes_of}
use Rattle.mdr_meaning.specs.declared.wire.Wire.{Wire}
use Rattle.mdr_meaning.specs.Bodies.{known_of}
use Rattle.mdr_meaning.specs.Numbers.{Numbered}
use Rattle.mdr_meaning.specs.Sides.{Side}
use Rattle.mdr_meaning.specs.Values.{is_true}
use Rattle.mdr_meaning.specs.Walk.{Accesses}
use Rattle.mdr_events.specs.declared.integer.Integer.{Integer}
use Rattle.mdr_events.specs.Held.{Held}
use Rattle.mdr_events.specs.Integers.{integer_wire}
use Rattle.mdr_events.specs.Running.{RunsTo}
use Rattle.mdr_events.specs.Steps.{Goes, IsSame}
use Rattle.mdr_events.specs.Values.{wires_of}
use Rattle.mdr_exec.specs.declared.frame.Machine.{Machine}
use Rattle.mdr_exec.specs.declared.turn.Stepped.{Stepped}
use Rattle.mdr_exec.specs.declared.turn.Stepped.TheVariants as stepped
use Rattle.mdr_exec.specs.Evaluation.{value_of}
use Rattle.mdr_exec.specs.Events.{came_with}
use Rattle.mdr_exec.specs.Going.{SteppedTo}
use Rattle.mdr_exec.specs.Halves.{side_in}
use Rattle.mdr_exec.specs.Holding.{held_of}
use Rattle.mdr_exec.specs.Places.{code_at}
use Rattle.mdr_exec.specs.Quick.{IsAsBefore, IsInList, RunsOn, TakesTick}
use Rattle.mdr_exec.proofs.PlaceLaws.{found_at}
use Rattle.mdr_exec.proofs.RunningLaws.{runs_are_made}
use Rattle.mdr_exec.proofs.TurnLaws.{same_runs, tick_told}

-- ---- tests

apart : (a b : ℤ) → (a ≡ b → ⊥) → int_eq a b ≡ false
apart a b h = grind (arith, ints)

equal : (a b : ℤ) → a ≡ b → int_eq a b ≡ true
equal a b h = grind (arith, ints)

-- as the code compares it with 0
pub holding : (n : Integer) → (of_z w128 n.number ≡ 0 → ⊥) → true ≡ is_true (integer_wire n)
holding n h = sym (ap not (apart n.number (pos 0) (λ e. h (ap (of_z w128) e))))

pub not_holding : (n : Integer) → to_z w128 (of_z w128 n.number) ≡ n.number → of_z w128 n.number ≡ 0 → false ≡ is_true (integer_wire n)
not_holding n fits h = sym (ap not (equal n.number (pos 0) (sym fits ∙ ap (to_z w128) h)))

-- what the evaluator gave
pub integer_given : {M : Type 0} (a : Accesses M) (memory : M) (known : Numbered) (e : Term) (n : Integer) (xs slots : List Value)
    → ◌≡◌ {A = Result Wire StopKind} (Ok (integer_wire n)) (value_of a memory known (wires_of xs) e) → xs ≡ slots
    → ◌≡◌ {A = Result Wire StopKind} (Ok (integer_wire n)) (value_of a memory known (wires_of slots) e)
integer_given a memory known e n xs slots told same = told ∙ ap (λ vs. value_of a memory known (wires_of vs) e) same

-- ---- places in a list

pub listed_stands : (ss : List Stmt) (cs : Codes) (i : ℕ) (s : Stmt) → codes_of ss ≡ cs → Some s ≡ slice_get ss i → code_at cs i ≡ Some (code_of s)
listed_stands ss cs i s is found = sym (found_at ss None i s found ∙ ap (λ x. code_at x i) is)

list_ends : (ss : List Stmt) (i : ℕ) → None ≡ slice_get ss i → code_at (codes_of ss) i ≡ None
unfolding code_at
list_ends [] i h = refl
list_ends (x ∷ ss) zero h = absurd (cc h)
list_ends (x ∷ ss) (suc i) h = list_ends ss i h

pub listed_ends : (ss : List Stmt) (cs : Codes) (i : ℕ) → codes_of ss ≡ cs → None ≡ slice_get ss i → code_at cs i ≡ None
listed_ends ss cs i is none = subst (λ x. code_at x i ≡ None) is (list_ends ss i none)

-- ---- runs

module _ {M : Type 0} (a : Accesses M) (program : Program) (m m' : Machine) (memory memory' : M) (left : ℕ) where
  pub ticked_on : (left ≡ 0 → ⊥) → TakesTick a program m memory m' memory' → RunsOn a program m memory left m' memory' (left - 1)
  ticked_on some tick side known = tick_told a side (held_of program m) (held_of program m') memory memory' left (left - 1) None (stepped.Goes (left - 1)) refl some refl (tick side known)

  pub left_on : ((side : Side) → IsSame side (held_of program m) (held_of program m')) → RunsOn a program m memory left m' memory left
  left_on same side known = same_runs a side (held_of program m) (held_of program m') memory memory left (same side)

-- what was done so far
pub record RanSo {M : Type 0} (a : Accesses M) (program : Program) (began : Machine) (memory : M) (ticks : ℕ) (now : Machine) (memory' : M) (left : ℕ) : Type 0 where
  pub ran : RunsOn a program began memory ticks now memory' left
  pub as_before : IsAsBefore began now

module _ {M : Type 0} (a : Accesses M) (program : Program) (began : Machine) (memory : M) (ticks : ℕ) where
  pub ran_none : RanSo a program began memory ticks began memory ticks
  ran_none = record {
    ran = λ side known. (runs_are_made a side (held_of program began) memory ticks).begins;
    as_before = record { front = refl; side = refl };
  }

  pub ran_more : (now next : Machine) (memory' memory'' : M) (left rest : ℕ) → RanSo a program began memory ticks now memory' left → RunsOn a program now memory' left next memory'' rest → IsAsBefore now next
      → RanSo a program began memory ticks next memory'' rest
  ran_more now next memory' memory'' left rest so_far on before = record {
    ran = λ side known. (runs_are_made a side (held_of program began) memory ticks).further (held_of program now) (held_of program next) memory' memory'' left rest Goes (so_far.ran side known) (on side known);
    as_before = record { front = before.front ∙ so_far.as_before.front; side = before.side ∙ so_far.as_before.side };
  }

  -- assignments were done, and then something else or nothing
  pub ran_turn : (now behind next : Machine) (memory' memory'' : M) (left assigned rest : ℕ) (o : Option ℕ) → RanSo a program began memory ticks now memory' left
      → RunsOn a program now memory' left behind memory'' assigned → IsInList program now behind
      → RunsOn a program behind memory'' assigned next memory'' (unwrap_or o assigned) → IsAsBefore behind next → unwrap_or o assigned ≡ rest
      → RanSo a program began memory ticks next memory'' rest
  ran_turn now behind next memory' memory'' left assigned rest o so_far assigns list on before is =
      subst (λ k. RanSo a program began memory ticks next memory'' k) is
      (ran_more behind next memory'' memory'' assigned (unwrap_or o assigned) (ran_more now behind memory' memory'' left assigned so_far assigns list.as_before) on before)

-- ---- a step behind a run

module _ {M : Type 0} (a : Accesses M) (side : Side) (h h1 h2 : Held) (m m1 m2 : M) (ticks left : ℕ) (run : RunsTo a side h m ticks Goes h1 m1 left) where
  stepped_behind : (x : Stepped) → SteppedTo a side h1 m1 left x h2 m2 → SteppedTo a side h m ticks x h2 m2
  stepped_behind (stepped.Goes rest) r = (runs_are_made a side h m ticks).further h1 h2 m1 m2 left rest Goes run r
  stepped_behind (stepped.Came e rest) r = (runs_are_made a side h m ticks).further h1 h2 m1 m2 left rest (came_with e) run r
  stepped_behind (stepped.Wants at) r = ((runs_are_made a side h m ticks).further h1 h2 m1 m2 left 0 Goes run r.0, r.1)

pub steps_behind : {M : Type 0} (a : Accesses M) (halves : List Half) (program : Program) (m m1 m2 : Machine) (memory memory1 memory2 : M) (ticks left : ℕ) (x : Stepped)
    → RunsOn a program m memory ticks m1 memory1 left → IsAsBefore m m1 → SteppedTo a (side_in m1.side halves program) (held_of program m1) memory1 left x (held_of program m2) memory2
    → SteppedTo a (side_in m.side halves program) (held_of program m) memory ticks x (held_of program m2) memory2
steps_behind a halves program m m1 m2 memory memory1 memory2 ticks left x on before step =
    stepped_behind a (side_in m.side halves program) (held_of program m) (held_of program m1) (held_of program m2) memory memory1 memory2 ticks left (on (side_in m.side halves program) refl) x
    (subst (λ s. SteppedTo a (side_in s halves program) (held_of program m1) memory1 left x (held_of program m2) memory2) before.side step)
