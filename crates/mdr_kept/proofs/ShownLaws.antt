-- What a run shows of its objects is the same however locks are held, and so is what is printed of its events.
use Rattle.std.proofs.Common.{◌≡◌, ℕ, zero, suc, List, [], ◌∷◌, ◌++◌, Option, Some, None, refl, sym, ◌∙◌, ap}
use Rattle.std.specs.Prelude.{◌==◌, codes, length, map, slice_get}
use Rattle.std.proofs.lemmas.List.{length-map}
use Rattle.mdr_core.specs.declared.program.Program.{Program}
use Rattle.mdr_core.specs.declared.value.LockState.{LockState}
use Rattle.mdr_core.specs.declared.value.LockState.TheVariants.{Free, Spin, Sleep}
use Rattle.mdr_core.specs.declared.value.Value.{Value}
use Rattle.mdr_core.specs.declared.value.Value.TheVariants as value
use Rattle.mdr_core.specs.Layout.{chosen}
use Rattle.mdr_meaning.specs.declared.wire.Wire.{Wire}
use Rattle.mdr_meaning.specs.declared.wire.Wire.TheVariants as wire
use Rattle.mdr_model.specs.declared.memory.MemoryBlock.{MemoryBlock}
use Rattle.mdr_model.specs.declared.outcome.Object.{Object}
use Rattle.mdr_model.specs.declared.outcome.Seen.{Seen}
use Rattle.mdr_model.specs.Memory.{Memory}
use Rattle.mdr_model.specs.Outcome.{seen_lock}
use Rattle.mdr_model.specs.Report.{count_line, end_line, event_line as small_line, newline, value_shown}
use Rattle.mdr_plain.specs.declared.outcome.Happened.{Happened}
use Rattle.mdr_plain.specs.declared.outcome.Happened.TheVariants as happened
use Rattle.mdr_plain.specs.Outcome.{cells_shown, first_serials, met_in, object_of, objects_at, objects_for, objects_of, outcome_of, scanned, seen_of, shown_blocks, with_named}
use Rattle.mdr_plain.specs.Plain.{plain}
use Rattle.mdr_plain.specs.Report.{event_line, event_lines, object_lines, report, values_shown}
use Rattle.mdr_plain.specs.Scripts.{Finish}
use Rattle.mdr_watched.specs.Driver.{driver_of}
use Rattle.mdr_watched.specs.Watched.{watched}
use Rattle.mdr_kept.specs.Alike.{plainly_finished, spun, spun_block, spun_event, spun_lock, spun_memory, spun_outcome, spun_value}
use Rattle.mdr_core.specs.declared.plan.Plan.{Plan}
use Rattle.mdr_bound.specs.declared.bound.Bound.{Bound}
use Rattle.mdr_kept.specs.Laws.{IsStrict, LocksAreHeld, StrictOutcomesAgree, StrictReportsAgree}
use Rattle.mdr_kept.specs.Strict.{strict_of}
use Rattle.mdr_kept.proofs.FollowLaws.{strict_runs_are_followed}
use Rattle.mdr_kept.proofs.PlainLaws.{strict_runs_are_plain}
use Rattle.mdr_kept.proofs.SpunLaws.{block_cells_spun}

-- ---- which blocks are shown

named_spun : (met : List ℕ) (v : Wire) → with_named met (spun v) ≡ with_named met v
named_spun met (wire.Ptr p) = refl
named_spun met (wire.Int k n) = refl
named_spun met wire.Null = refl
named_spun met wire.Dead = refl
named_spun met (wire.Fn f) = refl
named_spun met (wire.Lock s) = refl
named_spun met wire.NoValue = refl

met_spun : (met : List ℕ) (vs : List Wire) → met_in met (map spun vs) ≡ met_in met vs
met_spun met [] = refl
met_spun met (v ∷ vs) = ap (λ (ns : List ℕ). met_in ns (map spun vs)) (named_spun met v) ∙ met_spun (with_named met v) vs

shown_cells_spun : (m : Memory) (o : Option ℕ) → cells_shown (spun_memory m) o ≡ map spun (cells_shown m o)
shown_cells_spun m None = refl
shown_cells_spun m (Some serial) = block_cells_spun m serial

scanned_spun : (m : Memory) (n i : ℕ) (met : List ℕ) → scanned (spun_memory m) n i met ≡ scanned m n i met
scanned_spun m zero i met = refl
scanned_spun m (suc n) i met =
    ap (scanned (spun_memory m) n (suc i)) (ap (met_in met) (shown_cells_spun m (slice_get met i)) ∙ met_spun met (cells_shown m (slice_get met i)))
    ∙ scanned_spun m n (suc i) (met_in met (cells_shown m (slice_get met i)))

blocks_spun : (program : Program) (m : Memory) → shown_blocks program (spun_memory m) ≡ shown_blocks program m
unfolding shown_blocks
blocks_spun program m =
    ap (λ (n : ℕ). scanned (spun_memory m) n 0 (first_serials (length program.globals))) (length-map m spun_block) ∙ scanned_spun m (length m) 0 (first_serials (length program.globals))

-- ---- what is shown of them

lock_seen : (s : LockState) → seen_lock (spun_lock s) ≡ seen_lock s
lock_seen Free = refl
lock_seen Spin = refl
lock_seen Sleep = refl

seen_spun : (program : Program) (serials : List ℕ) (v : Wire) → seen_of program serials (spun v) ≡ seen_of program serials v
seen_spun program serials (wire.Ptr p) = refl
seen_spun program serials (wire.Int k n) = refl
seen_spun program serials wire.Null = refl
seen_spun program serials wire.Dead = refl
seen_spun program serials (wire.Fn f) = refl
seen_spun program serials (wire.Lock s) = lock_seen s
seen_spun program serials wire.NoValue = refl

all_seen : (program : Program) (serials : List ℕ) (vs : List Wire) → map (seen_of program serials) (map spun vs) ≡ map (seen_of program serials) vs
all_seen program serials [] = refl
all_seen program serials (v ∷ vs) =
    let one : seen_of program serials (spun v) ≡ seen_of program serials v = seen_spun program serials v in
    let rest : map (seen_of program serials) (map spun vs) ≡ map (seen_of program serials) vs = all_seen program serials vs in
    λ i. one i ∷ rest i

object_spun : (program : Program) (serials : List ℕ) (b : MemoryBlock) → object_of program serials (spun_block b) ≡ object_of program serials b
object_spun program serials b = ap of (all_seen program serials b.cells)
  where
    of : List Seen → Object
    of cells = record { ty = b.born.ty; count = b.born.count; cells = cells }

found_spun : (program : Program) (serials : List ℕ) (m : Memory) (serial : ℕ) → objects_at program serials (spun_memory m) serial ≡ objects_at program serials m serial
found_spun program serials [] serial = refl
found_spun program serials (b ∷ m) serial =
    let one : object_of program serials (spun_block b) ≡ object_of program serials b = object_spun program serials b in
    let rest : objects_at program serials (spun_memory m) serial ≡ objects_at program serials m serial = found_spun program serials m serial in
    λ i. chosen (b.born.serial == serial) (one i ∷ []) (rest i)

each_spun : (program : Program) (serials : List ℕ) (m : Memory) (ns : List ℕ) → objects_for program serials (spun_memory m) ns ≡ objects_for program serials m ns
each_spun program serials m [] = refl
each_spun program serials m (n ∷ ns) =
    let one : objects_at program serials (spun_memory m) n ≡ objects_at program serials m n = found_spun program serials m n in
    let rest : objects_for program serials (spun_memory m) ns ≡ objects_for program serials m ns = each_spun program serials m ns in
    λ i. one i ++ rest i

objects_spun : (program : Program) (m : Memory) → objects_of program (spun_memory m) ≡ objects_of program m
unfolding objects_of
objects_spun program m =
    ap (λ (serials : List ℕ). objects_for program serials (spun_memory m) serials) (blocks_spun program m) ∙ each_spun program (shown_blocks program m) m (shown_blocks program m)

-- ---- outcomes

pub outcome_spun : (program : Program) (f : Finish) → outcome_of program (plainly_finished f) ≡ spun_outcome (outcome_of program f)
unfolding outcome_of
outcome_spun program f =
    let live : length (spun_memory f.world.memory) ≡ length f.world.memory = length-map f.world.memory spun_block in
    let objects : objects_of program (spun_memory f.world.memory) ≡ objects_of program f.world.memory = objects_spun program f.world.memory in
    λ i. record { events = map spun_event f.world.kept.events; end = f.end; ticks = f.world.clock.ticks; live = live i; objects = objects i }

-- ---- what is printed

lock_printed : (program : Program) (s : LockState) → value_shown program (value.Lock (spun_lock s)) ≡ value_shown program (value.Lock s)
unfolding value_shown
lock_printed program Free = refl
lock_printed program Spin = refl
lock_printed program Sleep = refl

value_printed : (program : Program) (v : Value) → value_shown program (spun_value v) ≡ value_shown program v
value_printed program (value.Ptr p) = refl
value_printed program (value.Int k n) = refl
value_printed program value.Null = refl
value_printed program value.Dead = refl
value_printed program (value.Fn f) = refl
value_printed program (value.Lock s) = lock_printed program s
value_printed program value.NoValue = refl

values_printed : (program : Program) (vs : List Value) → values_shown program (map spun_value vs) ≡ values_shown program vs
unfolding values_shown
values_printed program [] = refl
values_printed program (v ∷ vs) =
    let one : value_shown program (spun_value v) ≡ value_shown program v = value_printed program v in
    let rest : values_shown program (map spun_value vs) ≡ values_shown program vs = values_printed program vs in
    λ i. codes " " ++ (one i ++ rest i)

event_printed : (program : Program) (e : Happened) → event_line program (spun_event e) ≡ event_line program e
unfolding event_line small_line
event_printed program (happened.Ret v) = ap (λ (text : List ℕ). codes "ret " ++ (text ++ newline)) (value_printed program v)
event_printed program (happened.Show name vs) = ap (λ (text : List ℕ). codes "show " ++ (name ++ (codes ":" ++ (text ++ newline)))) (values_printed program vs)
event_printed program (happened.Call name args) = refl
event_printed program (happened.Idle n) = refl
event_printed program (happened.Read r n) = refl
event_printed program (happened.Wrote r n) = refl
event_printed program (happened.Log text) = refl
event_printed program (happened.Deliver bytes) = refl
event_printed program (happened.Irq f) = refl
event_printed program (happened.Say text) = refl

events_printed : (program : Program) (es : List Happened) → event_lines program (map spun_event es) ≡ event_lines program es
unfolding event_lines
events_printed program [] = refl
events_printed program (e ∷ es) =
    let one : event_line program (spun_event e) ≡ event_line program e = event_printed program e in
    let rest : event_lines program (map spun_event es) ≡ event_lines program es = events_printed program es in
    λ i. one i ++ rest i

pub locks_are_held : LocksAreHeld
unfolding report
locks_are_held program o =
    ap (λ (text : List ℕ). text ++ (end_line program o.end ++ (count_line (codes "ticks ") o.ticks ++ (count_line (codes "live ") o.live ++ object_lines program 1 o.objects)))) (events_printed program o.events)

-- ---- strict runs

outcomes_alike : (program : Program) (plan : Plan) (script : Bound) (budget : ℕ) → IsStrict program plan script budget
    → spun_outcome (outcome_of program (watched program plan script budget)) ≡ spun_outcome (outcome_of program (plain program script budget))
outcomes_alike program plan script budget e =
    ap (λ (f : Finish). spun_outcome (outcome_of program f)) (strict_runs_are_followed.watched (driver_of program plan) script budget e)
    ∙ sym (outcome_spun program (strict_of (driver_of program plan) script budget))
    ∙ ap (outcome_of program) (sym (strict_runs_are_plain program plan script budget e))
    ∙ outcome_spun program (plain program script budget)

pub strict_outcomes_agree : StrictOutcomesAgree
strict_outcomes_agree = record {
  alike = outcomes_alike;
  same = λ program plan script budget e watched_awake plain_awake. sym watched_awake ∙ outcomes_alike program plan script budget e ∙ plain_awake;
}

pub strict_reports_agree : StrictReportsAgree
strict_reports_agree program plan script budget e =
    sym (locks_are_held program (outcome_of program (watched program plan script budget)))
    ∙ ap (report program) (outcomes_alike program plan script budget e)
    ∙ locks_are_held program (outcome_of program (plain program script budget))
