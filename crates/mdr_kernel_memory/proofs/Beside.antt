-- What changes in a world that stands beside sets.
use Rattle.std.proofs.Common.{◌≡◌, List, [], ◌∷◌, refl, ◌∙◌, ap}
use Rattle.std.specs.Prelude.{map}
use Rattle.mdr_model.specs.declared.memory.Cell.{Cell}
use Rattle.mdr_model.specs.declared.message.Run.{Run}
use Rattle.mdr_model.specs.Copies.{put_runs}
use Rattle.mdr_model.specs.Memory.{Memory, births}
use Rattle.mdr_model.proofs.CopyLaws.{births-put_runs}
use Rattle.mdr_model.proofs.MemoryLaws.{is_live-births}
use Rattle.mdr_plain.specs.World.{Clock}
use Rattle.mdr_viewed.specs.Viewed.{viewed}
use Rattle.mdr_watch.specs.Guarding.{IsGuarded}
use Rattle.mdr_watched.specs.Views.{living}
use Rattle.mdr_watched.proofs.Living.{same_filter}
use Rattle.mdr_world.specs.Driven.{Driven, driver}
use Rattle.mdr_kernel_memory.specs.Holding.{holding, holding_at}

-- the run with the sets in its world
abbrev pub beside : List (List Cell) → Driven → Driven
beside sets d = driver d.program (viewed sets d.world)

-- they stand beside it too where it has another memory, or another clock
pub guarded_with : (sets : List (List Cell)) (m : Memory) (d : Driven) → IsGuarded sets d.world → IsGuarded sets (holding m d).world
guarded_with sets m d g = record { upcall = g.upcall; older = g.older }

pub guarded_at : (sets : List (List Cell)) (m : Memory) (clock : Clock) (d : Driven) → IsGuarded sets d.world → IsGuarded sets (holding_at m clock d).world
guarded_at sets m clock d g = record { upcall = g.upcall; older = g.older }

-- ---- runs that are stored

living-births : (m m' : Memory) (set : List Cell) → births m ≡ births m' → living m set ≡ living m' set
living-births m m' set e = same_filter _ _ set (λ c h. is_live-births m m' c.serial e)

all-births : (m m' : Memory) (sets : List (List Cell)) → births m ≡ births m' → map (living m) sets ≡ map (living m') sets
all-births m m' [] e = refl
all-births m m' (set ∷ sets) e = λ i. living-births m m' set e i ∷ all-births m m' sets e i

held_beside : (sets : List (List Cell)) (d : Driven) (m : Memory) → births m ≡ births d.world.memory → beside sets (holding m d) ≡ holding m (beside sets d)
held_beside sets d m e = λ i. driver d.program (record d.world { memory = m; views = all-births m d.world.memory sets e i })

pub stored_beside : (runs : List Run) (sets : List (List Cell)) (d d' g : Driven) → beside sets d ≡ g → d' ≡ holding (put_runs runs d.world.memory) d → beside sets d' ≡ holding (put_runs runs g.world.memory) g
stored_beside runs sets d d' g is made =
    ap (beside sets) made
    ∙ held_beside sets d (put_runs runs d.world.memory) (births-put_runs runs d.world.memory)
    ∙ ap (λ (x : Driven). holding (put_runs runs x.world.memory) x) is
