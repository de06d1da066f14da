-- Assignments of integers, one after another.
use Rattle.std.proofs.Common.{◌≡◌, ℕ, suc, ◌+◌, ◌-◌, ◌<◌, true, List, Option, Some, None, IfSome, Ok, slice_get, slice_set, refl, ap, sym, ◌∙◌, subst, arith}
use Rattle.mdr_core.specs.declared.code.Expr.{Expr}
use Rattle.mdr_core.specs.declared.code.Lval.{Lval}
use Rattle.mdr_core.specs.declared.code.Lval.TheVariants as lval
use Rattle.mdr_core.specs.declared.code.Stmt.{Stmt}
use Rattle.mdr_core.specs.declared.code.Step.TheVariants as step
use Rattle.mdr_core.specs.declared.program.Program.{Program}
use Rattle.mdr_core.specs.declared.value.Value.{Value}
use Rattle.mdr_core.specs.declared.value.Value.TheVariants as value
use Rattle.mdr_core.specs.Code.{Term, Lvalue, Code, Codes}
use Rattle.mdr_core.specs.Folds.{codes_of, lvalue_of, term_of}
use Rattle.mdr_core.proofs.Coded.{assign_is, code_is, global_is, slot_is}
use Rattle.mdr_meaning.specs.declared.wire.Wire.{Wire}
use Rattle.mdr_meaning.specs.Bodies.{known_of}
use Rattle.mdr_meaning.specs.Numbers.{Numbered}
use Rattle.mdr_meaning.specs.Sides.{Side, Locals, Ends}
use Rattle.mdr_meaning.specs.Walk.{Accesses}
use Rattle.mdr_events.specs.declared.integer.Integer.{Integer}
use Rattle.mdr_events.specs.Integers.{FirstBecomes, HasFirst, integer_wire}
use Rattle.mdr_events.specs.Running.{RunsTo}
use Rattle.mdr_events.specs.Steps.{Goes, Ticks}
use Rattle.mdr_events.specs.Values.{wires_of}
use Rattle.mdr_exec.specs.declared.frame.Machine.{Machine}
use Rattle.mdr_exec.specs.Effects.{after_result, did, put_of, stored}
use Rattle.mdr_exec.specs.Evaluation.{place_of, value_of}
use Rattle.mdr_exec.specs.Holding.{block_of, held_of, is_running}
use Rattle.mdr_exec.specs.Places.{code_at}
use Rattle.mdr_exec.specs.Quick.{IsInList, RunsOn, TakesTick}
use Rattle.mdr_exec.specs.Storing.{slot_named, with_slots}
use Rattle.mdr_exec.proofs.LeavingLaws.{held_behind, still_running}
use Rattle.mdr_exec.proofs.PlaceLaws.{found_at}
use Rattle.mdr_exec.proofs.RunningLaws.{runs_are_made}
use Rattle.mdr_exec.proofs.StoringLaws.{assign_goes, place_put, slot_put}

-- ---- an integer is put

abbrev value_in : Integer → Value
value_in n = value.Int n.kind n.number

module _ {M : Type 0} (a : Accesses M) (known : Numbered) (m : M) (n : Integer) (slots : List Value) (p : Lval) where
  pub slot_given : (i : ℕ) (new : List Value) → p ≡ lval.Slot i → new ≡ slice_set slots i (value_in n) → (born : List Wire)
      → put_of a known (lvalue_of p) (integer_wire n) (with_slots slots born) m ≡ did (Ok (with_slots new born)) m
  slot_given i new is set born =
      slot_put a known m (lvalue_of p) (Some i) i (value_in n) slots new (sym (ap slot_named (ap lvalue_of is ∙ slot_is i))) refl set born

  global_stored : (g : ℕ) (new : M) → HasFirst known g → FirstBecomes a m g n new → (l : Locals)
      → after_result (place_of a m known (wires_of slots) (Lvalue.Global g)) m (λ q m'. stored a q (integer_wire n) l m') ≡ did (Ok l) new
  unfolding place_of
  global_stored g new first becomes l =
      ap (λ q. after_result (a.store m q (integer_wire n)) m (λ m' o. did (Ok l) m')) first.is
      ∙ ap (λ x. after_result x m (λ m' o. did (Ok l) m')) (becomes first.view first.first)

  pub global_given : (g : ℕ) (new : M) → p ≡ lval.Global g → HasFirst known g → FirstBecomes a m g n new → (born : List Wire)
      → put_of a known (lvalue_of p) (integer_wire n) (with_slots slots born) m ≡ did (Ok (with_slots slots born)) new
  global_given g new is first becomes born =
      let named : lvalue_of p ≡ Lvalue.Global g = ap lvalue_of is ∙ global_is g in
      place_put a known m (lvalue_of p) None (value_in n) slots slots (Ok tt) new (sym (ap slot_named named)) refl refl
      (λ l. ap (λ q. after_result (place_of a m known (wires_of slots) q) m (λ r m'. stored a r (integer_wire n) l m')) named ∙ global_stored g new first becomes l) born

-- ---- it is assigned

-- what the evaluator of integers gave
pub integer_given : {M : Type 0} (a : Accesses M) (memory : M) (known : Numbered) (e : Term) (r : Option Integer) (xs slots : List Value) → IfSome r (λ n. Ok (integer_wire n) ≡ value_of a memory known (wires_of xs) e) → xs ≡ slots
    → (n : Integer) → r ≡ Some n → Ok (integer_wire n) ≡ value_of a memory known (wires_of slots) e
integer_given a memory known e r xs slots told same n is =
    subst (λ ys. Ok (integer_wire n) ≡ value_of a memory known (wires_of ys) e) same (subst (λ x. IfSome x (λ k. Ok (integer_wire k) ≡ value_of a memory known (wires_of xs) e)) is told)

-- the machine with these slots, at this place in its list
abbrev at_place : Machine → (next : ℕ) → List Value → Machine
at_place m next slots = record {
  side = m.side;
  front = m.front;
  top = record { func = m.top.func; depth = m.top.depth; path = m.top.path; next = next; slots = slots; born = m.top.born };
  below = m.below;
  used = m.used;
}

pub integer_assigned : {M : Type 0} (a : Accesses M) (program : Program) (m : Machine) (memory : M) (p : Lvalue) (e : Term) (n : Integer) (slots : List Value) (memory' : M) → is_running m.front ≡ true
    → Ok (integer_wire n) ≡ value_of a memory (known_of program) (wires_of m.top.slots) e
    → ((born : List Wire) → put_of a (known_of program) p (integer_wire n) (with_slots m.top.slots born) memory ≡ did (Ok (with_slots slots born)) memory')
    → (side : Side) (k : ℕ) → side.known ≡ known_of program → code_at (block_of program m.top) m.top.next ≡ Some (Code.Assign k p e)
    → Ticks a side (held_of program m) memory Goes (held_of program (at_place m (m.top.next + 1) slots)) memory'
integer_assigned a program m memory p e n slots memory' runs value_is put side k known is =
    assign_goes a program m memory runs p (integer_wire n) (Ok tt) slots memory' (held_of program (at_place m (m.top.next + 1) slots)) (m.top.next + 1) put tt refl refl
    (held_behind (at_place m m.top.next slots) m.front Ends (m.top.next + 1) m.top.born (λ q frame. still_running q frame m.front runs) program) side k e value_is known is

-- the statement that was found in the list
pub assign_stands : (list : List Stmt) (block : Codes) (i : ℕ) (found : Option Stmt) (s : Stmt) (p : Lval) (e : Expr) → codes_of list ≡ block → found ≡ slice_get list i → found ≡ Some s → s.step ≡ step.Assign p e
    → code_at block i ≡ Some (Code.Assign s.number (lvalue_of p) (term_of e))
assign_stands list block i found s p e same at is assigns =
    ap (λ b. code_at b i) (sym same) ∙ sym (found_at list None i s (sym is ∙ at)) ∙ ap Some (code_is s (step.Assign p e) assigns ∙ assign_is s.number p e)

-- ---- several are

module _ {M : Type 0} (a : Accesses M) (program : Program) (began : Machine) (memory : M) (ticks : ℕ) where
  -- the machine runs still, in the list in which it began
  pub record RunsInList (now : Machine) (memory' : M) (left : ℕ) : Type 0 where
    pub runs : RunsOn a program began memory ticks now memory' left
    pub list : IsInList program began now

  pub list_begins : RunsInList began memory ticks
  list_begins = record {
    runs = λ side known. (runs_are_made a side (held_of program began) memory ticks).begins;
    list = record { as_before = record { front = refl; side = refl }; block = refl };
  }

  module _ (now next : Machine) (memory' memory'' : M) (left : ℕ) (so_far : RunsInList now memory' left) where
    pub runs_there : is_running began.front ≡ true → is_running now.front ≡ true
    runs_there runs = ap is_running so_far.list.as_before.front ∙ runs

    pub list_there : (list : List Stmt) → codes_of list ≡ block_of program began.top → codes_of list ≡ block_of program now.top
    list_there list is = is ∙ sym so_far.list.block

    in_list : IsInList program now next → IsInList program began next
    in_list more = record {
      as_before = record { front = more.as_before.front ∙ so_far.list.as_before.front; side = more.as_before.side ∙ so_far.list.as_before.side };
      block = more.block ∙ so_far.list.block;
    }

    one_more : (rest : ℕ) → left ≡ suc rest → TakesTick a program now memory' next memory'' → RunsOn a program began memory ticks next memory'' rest
    one_more rest is takes = λ side known.
        (runs_are_made a side (held_of program began) memory ticks).tick (held_of program now) (held_of program next) memory' memory'' rest Goes
        (subst (λ k. RunsTo a side (held_of program began) memory ticks Goes (held_of program now) memory' k) is (so_far.runs side known)) (takes side known)

    pub list_goes : 0 < left → TakesTick a program now memory' next memory'' → IsInList program now next → RunsInList next memory'' (left - 1)
    list_goes some takes more =
        let is : left ≡ suc (left - 1) = omega (arith, some) in
        record { runs = one_more (left - 1) is takes; list = in_list more }

    pub list_ends : next ≡ now → memory'' ≡ memory' → RunsInList next memory'' left
    list_ends same kept = subst (λ x. RunsInList x memory'' left) (sym same) (subst (λ x. RunsInList now x left) (sym kept) so_far)
