-- for proofs
-- Values as they are now: no pointer among them names a block that has died. What code of a sound program passes on is so, where objects are named where they live.
use Rattle.std.specs.Prelude.{◌≡◌, ℕ, ◌<◌, Bool, true, false, not, ◌&&◌, List, [], ◌∷◌, ◌++◌, length, Option, Some}
use Rattle.std.specs.List.{list_any}
use Rattle.mdr_core.specs.declared.program.Program.{Program}
use Rattle.mdr_core.specs.Services.{Service, Enter, Leave, service_numbered}
use Rattle.mdr_core.specs.Sound.{IsSound}
use Rattle.mdr_meaning.specs.declared.shape.Shape64.{Shape64}
use Rattle.mdr_meaning.specs.declared.wire.Wire.{Wire}
use Rattle.mdr_meaning.specs.declared.wire.Wire.TheVariants as wire
use Rattle.mdr_meaning.specs.Bodies.{started}
use Rattle.mdr_meaning.specs.FairTrees.{IsSideOf}
use Rattle.mdr_meaning.specs.Lives.{is_into}
use Rattle.mdr_meaning.specs.Sides.{Side}
use Rattle.mdr_meaning.specs.Tree.{Asked, Tree}
use Rattle.mdr_kept.specs.Scopes.{IsScoped}

-- which blocks live, by their serials
abbrev pub Lives : Type 0
Lives = ℕ → Bool

abbrev pub IsCurrent : Lives → Wire → Type 0
IsCurrent lives (wire.Ptr p) = lives p.serial ≡ true
IsCurrent lives _ = Unit {0}

abbrev pub AreCurrent : Lives → List Wire → Type 0
AreCurrent lives [] = Unit {0}
AreCurrent lives (v ∷ vs) = IsCurrent lives v × AreCurrent lives vs

-- pointers to objects that live, no two to one
abbrev pub AreLiving : Lives → List Wire → Type 0
AreLiving lives [] = Unit {0}
AreLiving lives (wire.Ptr p ∷ ps) = (lives p.serial ≡ true) × (list_any (is_into p.serial) ps ≡ false) × AreLiving lives ps
AreLiving lives (_ ∷ ps) = ⊥

-- the globals live, whose serials are their numbers, and so do these objects of locals
pub record KnowsLives (n : ℕ) (lives : Lives) (own : List Wire) : Type 0 where
  pub globals : (g : ℕ) → g < n → lives g ≡ true
  pub living : AreLiving lives own
  -- and are no globals
  pub apart : (g : ℕ) → g < n → list_any (is_into g) own ≡ false

-- these objects have died
abbrev pub without : List Wire → Lives → Lives
without ps lives serial = lives serial && not (list_any (is_into serial) ps)

-- ---- trees

-- what holds behind an answer, where so much lives then, of which these are objects of locals
abbrev pub Behind : Type 1
Behind = Lives → (own answers : List Wire) → Type 0

-- objects are born
abbrev pub Bears : (globals : ℕ) → (own : List Wire) → List Shape64 → Behind → Type 0
Bears n own shapes goes = (lives : Lives) (ps : List Wire) → length ps ≡ length shapes → KnowsLives n lives (own ++ ps) → goes lives (own ++ ps) ps

-- these die, the newest ones
abbrev pub Buries : Lives → (own ps : List Wire) → (Lives → (own : List Wire) → Type 0) → Type 0
Buries lives own ps goes = AreCurrent lives ps × ((remains : List Wire) → own ≡ remains ++ ps → goes (without ps lives) remains)

-- a service is asked for
abbrev pub AsksCurrent : (globals : ℕ) → Lives → (own : List Wire) → Asked → Option Service → Behind → Type 0
AsksCurrent n lives own a (Some Enter) goes = Bears n own a.shapes goes
AsksCurrent n lives own a (Some Leave) goes = Buries lives own a.args (λ lives' own'. (rs : List Wire) → goes lives' own' rs)
AsksCurrent n lives own a _ goes = AreCurrent lives a.args × ((lives' : Lives) (rs : List Wire) → KnowsLives n lives' own → AreCurrent lives' rs → goes lives' own rs)

-- what a tree passes on is current, where so much lives; `own` are the objects of its locals that live. Others may have died wherever anything else may run: before a tick, behind a question or behind a call of the other half
abbrev pub Current : (globals : ℕ) → Lives → (own : List Wire) → Tree → Type 0
Current n lives own Tree.Idle = Unit {0}
Current n lives own (Tree.Waits k) = Unit {0}
Current n lives own (Tree.Done v t) = IsCurrent lives v
Current n lives own (Tree.Stop kind at) = Unit {0}
Current n lives own (Tree.Tick at d t) = (lives' : Lives) → KnowsLives n lives' own → Current n lives' own t
Current n lives own (Tree.Load at p k) = (v : Wire) → IsCurrent lives v → Current n lives own (k v)
Current n lives own (Tree.Store at p v t) = Current n lives own t
Current n lives own (Tree.Read at p count k) = (bs : List ℕ) → Current n lives own (k bs)
Current n lives own (Tree.Fresh at v k) = (x : Wire) → IsCurrent lives x → Current n lives own (k x)
Current n lives own (Tree.Birth at shapes k) = Bears n own shapes (λ lives' own' ps. Current n lives' own' (k ps))
Current n lives own (Tree.Death at ps t) = Buries lives own ps (λ lives' own'. Current n lives' own' t)
Current n lives own (Tree.Ask a k) = AsksCurrent n lives own a (service_numbered a.service) (λ lives' own' rs. Current n lives' own' (k rs))
Current n lives own (Tree.Cross at f args depth k) = AreCurrent lives args × ((lives' : Lives) (v : Wire) → KnowsLives n lives' own → IsCurrent lives' v → Current n lives' own (k v))

abbrev pub ScopedTreesAreCurrent : Type 0
ScopedTreesAreCurrent =
    (program : Program) → IsSound program → IsScoped program → (side : Side) → IsSideOf program side → (n f : ℕ) (lives : Lives) (args : List Wire) (depth : ℕ)
    → KnowsLives (length program.globals) lives [] → AreCurrent lives args → (below : Tree) → Current (length program.globals) lives [] (started side n f args depth below)
