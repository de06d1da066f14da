-- A driver's walk is its world's.
use Rattle.std.proofs.Common.{◌≡◌, ℕ, zero, suc, Bool, Result, Ok, Err, refl}
use Rattle.mdr_core.specs.declared.place.At.{At}
use Rattle.mdr_core.specs.declared.program.Program.{Program}
use Rattle.mdr_core.specs.declared.stop.StopKind.{StopKind}
use Rattle.mdr_meaning.specs.Tree.{Tree}
use Rattle.mdr_meaning.specs.Walk.{Walked, on_access, walk}
use Rattle.mdr_model.specs.declared.memory.Cell.{Cell}
use Rattle.mdr_plain.specs.Storage.{accesses}
use Rattle.mdr_plain.specs.World.{World}
use Rattle.mdr_world.specs.Driven.{Driven, DriversWalk, driven_by, driver, driver_if, driver_walked}

module _ (allowed : World → Cell → Bool) (program : Program) where
  -- an access that gives something, or stops
  accessed : {A : Type 0} (x : Result A StopKind) (at : At) (w : World) (n : ℕ) (go : A → Walked Driven) (walks : A → Walked World)
      → ((y : A) → go y ≡ driver_walked program (walks y)) → on_access x at (driver program w) n go ≡ driver_walked program (on_access x at w n walks)
  accessed (Ok y) at w n go walks each = each y
  accessed (Err kind) at w n go walks each = refl

  -- one that leaves another memory
  stored : (x : Result World StopKind) (at : At) (w : World) (n : ℕ) (go : Driven → Walked Driven) (walks : World → Walked World)
      → ((y : World) → go (driver program y) ≡ driver_walked program (walks y)) → on_access (driver_if program x) at (driver program w) n go ≡ driver_walked program (on_access x at w n walks)
  stored (Ok y) at w n go walks each = each y
  stored (Err kind) at w n go walks each = refl

  pub walks : (n : ℕ) (t : Tree) (w : World) → walk (driven_by allowed) n t (driver program w) ≡ driver_walked program (walk (accesses program allowed) n t w)
  unfolding walk
  walks n Tree.Idle w = refl
  walks n (Tree.Waits k) w = refl
  walks n (Tree.Done v t) w = refl
  walks n (Tree.Stop kind at) w = refl
  walks zero (Tree.Tick at d t) w = refl
  walks (suc n) (Tree.Tick at d t) w = walks n t w
  walks n (Tree.Load at p k) w = accessed ((accesses program allowed).load w p) at w n _ _ (λ v. walks n (k v) w)
  walks n (Tree.Store at p v t) w = stored ((accesses program allowed).store w p v) at w n _ _ (λ w'. walks n t w')
  walks n (Tree.Read at p count k) w = accessed ((accesses program allowed).read w p count) at w n _ _ (λ bs. walks n (k bs) w)
  walks n (Tree.Fresh at v k) w = accessed ((accesses program allowed).fresh w v) at w n _ _ (λ x. walks n (k x) w)
  walks n (Tree.Birth at shapes k) w = walks n (k ((accesses program allowed).birth w shapes).pointers) ((accesses program allowed).birth w shapes).memory
  walks n (Tree.Death at ps t) w = walks n t ((accesses program allowed).death w ps)
  walks n (Tree.Ask asked k) w = refl
  walks n (Tree.Cross at func args depth k) w = refl

pub drivers_walk : DriversWalk
drivers_walk allowed n t program w = walks allowed program n t w
