-- for proofs
-- Small drivers in two halves, worked out: the messages of their runs.
use Rattle.std.specs.Prelude.{◌≡◌, Bool, true, false, List, [], ◌∷◌, codes}
use Rattle.mdr_core.specs.declared.plan.Key.TheVariants as key
use Rattle.mdr_core.specs.declared.types.Ty.TheVariants as ty
use Rattle.mdr_meaning.specs.Sides.{Body}
use Rattle.mdr_meaning.specs.Worked.{add, body, calls as calls_func, glob, node, node_pointer, number, u32}
use Rattle.mdr_model.specs.declared.outcome.End.TheVariants as ends
use Rattle.mdr_model.specs.Law.{read}
use Rattle.mdr_model.specs.Worked.{bump_answers, bump_sent}
use Rattle.mdr_plain.specs.Outcome.{outcome_of}
use Rattle.mdr_plain.specs.Scripts.{finish}
use Rattle.mdr_plain.specs.Worked.{calls, just, named, of_type, serves, zero_u32}
use Rattle.mdr_plain.specs.WorkedInterrupts.{sets}
use Rattle.mdr_bound.specs.declared.bound.Bound.{Bound}
use Rattle.mdr_split.specs.Kernel.{split_run}
use Rattle.mdr_split.specs.Law.{IsHonest}
use Rattle.mdr_split.specs.State.{Kernel, Over}
use Rattle.mdr_watched.specs.Driver.{Driver}
use Rattle.mdr_watched.specs.Watched.{watched_of}
use Rattle.mdr_watched.specs.Worked.{cut}

-- ---- words

-- functions of the kernel half that user code may call
abbrev pub with_stubs : List Bool → Driver → Driver
with_stubs down d = record d { plan = record d.plan { down = down } }

-- ---- u32 count; void bump(void){count=count+1;} void open(void){bump(); writel(count,4); bump();}   where `open` is of the user half

abbrev pub bumps : Body
bumps = body [] ty.Void (sets 1 0 (add (glob 0) (number 1)) ∷ [])

abbrev pub opens : Body
opens = body [] ty.Void (calls_func 1 0 [] ∷ serves 2 5 (glob 0 ∷ number 4 ∷ []) ∷ calls_func 3 0 [] ∷ [])

abbrev pub bump : Driver
bump = with_stubs (true ∷ false ∷ [])
    (cut
    (record {
      struct = node;
      pointer = node_pointer;
      globals = of_type u32 (zero_u32 ∷ []) ∷ [];
      funcs = named (codes "bump") ∷ named (codes "open") ∷ [];
      bodies = bumps ∷ opens ∷ [];
    })
    (false ∷ true ∷ [])
    ([] ∷ (key.Global 0 ∷ []) ∷ []))

abbrev pub call_open : Bound
call_open = just (calls 1 ∷ [])

-- the eight messages: these are sent over these answers, these answers are honest, and the run is over with the outcome of the watched run
pub record BumpSends : Type 0 where
  pub sent : (split_run bump call_open 1000000 (read bump_answers)).sent ≡ bump_sent
  pub honest : IsHonest bump [] bump_sent bump_answers
  pub kernel : Kernel
  pub over : (split_run bump call_open 1000000 (read bump_answers)).pending ≡ Over ends.Ok kernel
  pub outcome : outcome_of bump.program (finish ends.Ok kernel.world) ≡ outcome_of bump.program (watched_of bump call_open 1000000)
  pub exchanges : kernel.exchanges ≡ 4
