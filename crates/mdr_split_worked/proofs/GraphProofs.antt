-- The driver whose nodes point to each other passes the messages that it is said to pass.
use Rattle.std.proofs.Common.{◌≡◌, ℕ, suc, true, false, List, [], ◌∷◌, Some, None, refl, sym, ◌∙◌, ap}
use Rattle.mdr_core.specs.declared.types.Ty.TheVariants as ty
use Rattle.mdr_meaning.specs.declared.wire.Wire.TheVariants as wire
use Rattle.mdr_meaning.specs.Numbers.{is_same_type}
use Rattle.mdr_meaning.specs.Worked.{u32}
use Rattle.mdr_meaning.proofs.NumberLaws.{type_same}
use Rattle.mdr_model.specs.declared.memory.Cell.{Cell}
use Rattle.mdr_model.specs.declared.message.BirthKind.TheVariants.{Static, Heap, Auto}
use Rattle.mdr_model.specs.declared.outcome.End.TheVariants as ends
use Rattle.mdr_model.specs.Law.{read}
use Rattle.mdr_model.specs.Memory.{Memory}
use Rattle.mdr_model.specs.ReplyFaults.{reply_of}
use Rattle.mdr_model.specs.User.{allowance}
use Rattle.mdr_plain.specs.Outcome.{outcome_of}
use Rattle.mdr_plain.specs.Scripts.{finish}
use Rattle.mdr_split.proofs.WorkedProofs.{passes}
use Rattle.mdr_split.specs.AnyAnswers.{kernel_in}
use Rattle.mdr_split.specs.Kernel.{SplitRun, first_kernel, split_commands, split_run}
use Rattle.mdr_split.specs.Law.{IsHonest}
use Rattle.mdr_split.specs.State.{Kernel, Open, Noted, Pending}
use Rattle.mdr_split.specs.User.{User, back_fits, first_user, user_after}
use Rattle.mdr_model.specs.Worked.{u32_value}
use Rattle.mdr_split_worked.proofs.Following.{AllFit, AllLegal, fault_now, followed_so, legal_run, legal_so, replies_so}
use Rattle.mdr_split_worked.specs.Worked.{TellsGraph, block, end_of, graph, ring_and_work, graph_sent, graph_answers, graph_outcome, graph_copy, graph_call, graph_object, graph_back, graph_returned, graph_down, graph_leave, graph_node, graph_gone, node_at, u32_at}
use Rattle.mdr_watched.specs.Watched.{watched_of}

-- the types that pointers lead to don't compute

node_is_same : is_same_type (ty.Struct 0) (ty.Struct 0) ≡ true
node_is_same = type_same (ty.Struct 0)

word_is_same : is_same_type u32 u32 ≡ true
word_is_same = type_same u32

-- ---- what is tested by types, over what both halves hold then

-- what both hold while user code goes down
abbrev shared : (got : ℕ) → Memory
shared got =
    block 0 Static 10 (node_at 4 ∷ [])
    ∷ block 1 Static 10 (node_at 5 ∷ [])
    ∷ block 2 Static 2 (u32_value got ∷ [])
    ∷ block 3 Static 10 (u32_at 6 ∷ [])
    ∷ block 4 Heap 9 (u32_value 0 ∷ u32_value 0 ∷ node_at 5 ∷ [])
    ∷ block 5 Heap 9 (u32_value 0 ∷ u32_value 0 ∷ node_at 4 ∷ [])
    ∷ block 6 Heap 2 (u32_value 0 ∷ [])
    ∷ block 7 Auto 2 (u32_value 0 ∷ [])
    ∷ []

-- what each holds while the object dies
abbrev last : (mark : ℕ) → Memory
last mark =
    block 0 Static 10 (node_at 4 ∷ [])
    ∷ block 1 Static 10 (node_at 4 ∷ [])
    ∷ block 2 Static 2 (u32_value 1 ∷ [])
    ∷ block 3 Static 10 (wire.Dead ∷ [])
    ∷ block 4 Heap 9 (u32_value 5 ∷ u32_value mark ∷ wire.Dead ∷ [])
    ∷ block 7 Auto 2 (u32_value 5 ∷ [])
    ∷ block 8 Heap 9 (u32_value 0 ∷ u32_value 0 ∷ wire.Null ∷ [])
    ∷ []

abbrev with_object : Open
with_object = record { func = 2; depth = 0; entered = 7 ∷ [] }

abbrev cell : (serial index : ℕ) → Cell
cell serial index = record { serial = serial; index = index }

-- the visible cells of the globals and of the first node, and others
abbrev seen : List Cell → List Cell
seen others = cell 0 0 ∷ cell 1 0 ∷ cell 2 0 ∷ cell 3 0 ∷ cell 4 0 ∷ cell 4 2 ∷ others

back_fits_then : back_fits graph (shared 1) (7 ∷ []) 2 1 graph_returned ≡ true
unfolding passes
back_fits_then = rw (node_is_same) refl

-- the kernel half then. What else it holds doesn't matter to the tests
abbrev kernel_at : (memory agreed : Memory) → List Cell → (ticks rest exchanges : ℕ) → Kernel
kernel_at memory agreed view ticks rest exchanges = record {
  world = record {
    memory = memory;
    lives = [];
    views = view ∷ [];
    clock = record { ticks = ticks; rest = rest; device = (first_kernel graph ring_and_work 1000000).world.clock.device };
    kept = record { events = []; calls = 2; handler = None; in_handler = false; allocations = 0; fails = [] };
  };
  agreed = agreed;
  exchanges = exchanges;
}

down_is_legal : fault_now graph (kernel_at (shared 0) (shared 0) (seen (cell 5 0 ∷ cell 5 2 ∷ cell 7 0 ∷ [])) 6 999994 2) with_object Noted (reply_of graph_down) ≡ None
unfolding passes
down_is_legal = rw (word_is_same) refl

leave_is_legal : fault_now graph (kernel_at (last 9) (last 0) (seen (cell 7 0 ∷ cell 8 0 ∷ cell 8 2 ∷ [])) 15 999985 4) with_object Noted (reply_of graph_leave) ≡ None
unfolding passes
leave_is_legal = rw (word_is_same, node_is_same) refl

-- ---- the run

abbrev begins : Pending
begins = split_commands graph ring_and_work.commands (first_kernel graph ring_and_work 1000000)

legal : AllLegal graph graph_answers begins
unfolding passes
legal = (refl, (down_is_legal, (refl, (leave_is_legal, (refl, tt)))))

run_is : split_run graph ring_and_work 1000000 (read graph_answers) ≡ legal_run graph graph_answers begins
unfolding split_run
run_is = legal_so graph graph_answers begins legal

sent : (legal_run graph graph_answers begins).sent ≡ graph_sent
unfolding passes
sent = refl

end : end_of (legal_run graph graph_answers begins).pending ≡ Some ends.Ok
unfolding passes
end = refl

outcome : outcome_of graph.program (finish ends.Ok (kernel_in (legal_run graph graph_answers begins).pending).world) ≡ graph_outcome
unfolding passes
outcome = refl

kernel : (kernel_in (legal_run graph graph_answers begins).pending).agreed ≡ graph_copy
unfolding passes
kernel = refl

watched : outcome_of graph.program (watched_of graph ring_and_work 1000000) ≡ graph_outcome
unfolding passes
watched = refl

fits : AllFit graph 1999983 (first_user graph) graph_sent
unfolding passes
fits = (rw (node_is_same, word_is_same) refl, (refl, (back_fits_then, (refl, (refl, tt)))))

early_fits : AllFit graph 999996 (first_user graph) (graph_call ∷ graph_object ∷ [])
unfolding passes
early_fits = (rw (node_is_same, word_is_same) refl, (refl, tt))

user : (user_after graph (suc (allowance (read graph_sent))) (first_user graph) (read graph_sent)).agreed ≡ graph_copy
unfolding passes
user = ap (λ (u : User). u.agreed) (followed_so graph 1999983 (first_user graph) graph_sent fits)

honest : IsHonest graph [] graph_sent graph_answers
unfolding passes
honest = (
  sym (replies_so graph 999996 (first_user graph) [] graph_call tt early_fits.0),
  (
    sym (replies_so graph 999996 (first_user graph) (graph_call ∷ []) graph_object (early_fits.0, tt) early_fits.1.0),
    (
      sym (replies_so graph 1999983 (first_user graph) (graph_call ∷ graph_object ∷ []) graph_back (fits.0, (fits.1.0, tt)) fits.1.1.0),
      (
        sym (replies_so graph 1999983 (first_user graph) (graph_call ∷ graph_object ∷ graph_back ∷ []) graph_node (fits.0, (fits.1.0, (fits.1.1.0, tt))) fits.1.1.1.0),
        (
          sym (replies_so graph 1999983 (first_user graph) (graph_call ∷ graph_object ∷ graph_back ∷ graph_node ∷ []) graph_gone (fits.0, (fits.1.0, (fits.1.1.0, (fits.1.1.1.0, tt)))) fits.1.1.1.1.0),
          tt,
        ),
      ),
    ),
  ),
)

pub tells_graph : TellsGraph
tells_graph = record {
  sent = ap (λ (r : SplitRun). r.sent) run_is ∙ sent;
  honest = honest;
  end = ap (λ (r : SplitRun). end_of r.pending) run_is ∙ end;
  outcome = ap (λ (r : SplitRun). outcome_of graph.program (finish ends.Ok (kernel_in r.pending).world)) run_is ∙ outcome;
  watched = watched;
  kernel = ap (λ (r : SplitRun). (kernel_in r.pending).agreed) run_is ∙ kernel;
  user = user;
}
