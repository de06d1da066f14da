-- Code of the kernel half up to its next call of the other half, with a set in the world and beside it.
use Rattle.std.proofs.Common.{◌≡◌, ℕ, zero, suc, List, ◌∷◌, Result, Ok, Err, refl, ◌∙◌, ap, le_refl, subst}
use Rattle.mdr_core.specs.declared.place.At.{At}
use Rattle.mdr_core.specs.declared.program.Program.{Program}
use Rattle.mdr_core.specs.declared.stop.StopKind.{StopKind}
use Rattle.mdr_meaning.specs.declared.wire.Wire.{Wire}
use Rattle.mdr_meaning.specs.Tree.{Tree}
use Rattle.mdr_meaning.specs.Walk.{Born}
use Rattle.mdr_model.specs.declared.memory.Cell.{Cell}
use Rattle.mdr_model.specs.declared.message.BirthKind.TheVariants.{Auto}
use Rattle.mdr_model.specs.Memory.{Memory, everywhere, normal, reached, stored, stored_into}
use Rattle.mdr_plain.specs.Running.{Before, Went, all_cells, gave_after, gave_counted, gave_given, goes, handled, interrupts, nothing}
use Rattle.mdr_plain.specs.Services.{served}
use Rattle.mdr_plain.specs.Storage.{accesses, births, deaths, remembers, with_memory}
use Rattle.mdr_plain.specs.World.{World, Ran, Ended, Stopped, advanced, done, left}
use Rattle.mdr_watched.specs.Driver.{Driver}
use Rattle.mdr_watched.specs.Watched.{kernel_of, may_not}
use Rattle.mdr_watched.proofs.KeepLaws.{IsKept, births_keep, deaths_keep, run_keeps, served_keeps}
use Rattle.mdr_watched.proofs.WaitLaws.{none_due}
use Rattle.mdr_viewed.specs.Laws.{KernelCodeIsViewed, kernel_goes}
use Rattle.mdr_viewed.specs.Viewed.{AreOlder, HasUpcall, IsWentViewed, viewed, viewing, viewing_went}
use Rattle.mdr_runs.specs.Upto.{went_left}
use Rattle.mdr_runs.proofs.Upto.{left_is}
use Rattle.mdr_viewed.proofs.Steps.{IsBeside, beside_kept, births_viewed, deaths_viewed, put_viewed, served_beside, served_viewed, upcall_kept}

-- ---- one thing after another, with nothing tried before its ticks

module _ (sets : List (List Cell)) where
  gave_after_viewed : {A : Type 0} (r : Ran A) (go go' : A → World → Went) → IsBeside sets (left r) → ((x : A) (w : World) → IsBeside sets w → go x (viewed sets w) ≡ viewing_went sets (go' x w))
      → gave_after (viewing sets r) go ≡ viewing_went sets (gave_after r go')
  gave_after_viewed (Ended x w) go go' b each = each x w b
  gave_after_viewed (Stopped kind at w) go go' b each = refl

  gave_given_viewed : {A : Type 0} (r : Result A StopKind) (at : At) (w : World) (go go' : A → Went) → ((x : A) → go x ≡ viewing_went sets (go' x)) → gave_given r at (viewed sets w) go ≡ viewing_went sets (gave_given r at w go')
  gave_given_viewed (Ok x) at w go go' each = each x
  gave_given_viewed (Err kind) at w go go' each = refl

  gave_counted_viewed : (n : ℕ) (at : At) (w : World) (go go' : World → Went) → IsBeside sets w → ((w' : World) → IsBeside sets w' → go (viewed sets w') ≡ viewing_went sets (go' w'))
      → gave_counted n at (viewed sets w) go ≡ viewing_went sets (gave_counted n at w go')
  gave_counted_viewed zero at w go go' b each = refl
  gave_counted_viewed (suc n) at w go go' b each = each (record w { clock = advanced 1 w.clock }) ((beside_kept sets).tick w b)

  gave_stored_viewed : (v : Wire) (r : Result Cell StopKind) (at : At) (w : World) (go go' : World → Went) → IsBeside sets w → ((w' : World) → IsBeside sets w' → go (viewed sets w') ≡ viewing_went sets (go' w'))
      → gave_given (remembers (viewed sets w) (stored_into w.memory v r)) at (viewed sets w) go ≡ viewing_went sets (gave_given (remembers w (stored_into w.memory v r)) at w go')
  gave_stored_viewed v (Ok c) at w go go' b each = ap go (put_viewed sets w c (normal w.memory v)) ∙ each _ ((beside_kept sets).put w c (normal w.memory v) b)
  gave_stored_viewed v (Err kind) at w go go' b each = refl

  module _ (program : Program) where
    abbrev up : Tree → World → Went
    up t w = goes (accesses program all_cells) (served program) nothing t w

    goes_viewed : (t : Tree) (w : World) → IsBeside sets w → up t (viewed sets w) ≡ viewing_went sets (up t w)
    unfolding goes stored
    goes_viewed Tree.Idle w b = refl
    goes_viewed (Tree.Waits k) w b = refl
    goes_viewed (Tree.Done v t) w b = refl
    goes_viewed (Tree.Stop kind at) w b = refl
    goes_viewed (Tree.Tick at d t) w b = gave_counted_viewed w.clock.rest at w _ _ b (λ w' b'. goes_viewed t w' b')
    goes_viewed (Tree.Load at p k) w b = gave_given_viewed _ at w _ _ (λ v. goes_viewed (k v) w b)
    goes_viewed (Tree.Store at p v t) w b = gave_stored_viewed v (reached everywhere w.memory p) at w _ _ b (λ w' b'. goes_viewed t w' b')
    goes_viewed (Tree.Read at p n k) w b = gave_given_viewed _ at w _ _ (λ bytes. goes_viewed (k bytes) w b)
    goes_viewed (Tree.Fresh at v k) w b = gave_given_viewed _ at w _ _ (λ x. goes_viewed (k x) w b)
    goes_viewed (Tree.Birth at shapes k) w b =
        ap (λ (x : Born World). up (k x.pointers) x.memory) (births_viewed program Auto shapes sets w b.older)
        ∙ goes_viewed (k (births program Auto shapes w).pointers) (births program Auto shapes w).memory (births_keep (IsBeside sets) (beside_kept sets) program Auto shapes w b)
    goes_viewed (Tree.Death at ps t) w b = ap (up t) (deaths_viewed ps sets w) ∙ goes_viewed t (deaths ps w) (deaths_keep (IsBeside sets) (beside_kept sets) ps w b)
    goes_viewed (Tree.Ask a k) w b =
        ap (λ r. gave_after r (λ results w'. up (k results) w')) (served_viewed program a sets w b)
        ∙ gave_after_viewed (served program a w) _ _ (served_beside program a sets w b) (λ results w' b'. goes_viewed (k results) w' b')
    goes_viewed (Tree.Cross at f args d k) w b = refl

-- ---- while an upcall is open nothing is tried

module _ (program : Program) (before : Before) (waits : (n : ℕ) (w : World) → HasUpcall w → before n w ≡ done w) where
  gave_same_after : {A : Type 0} (r : Ran A) (go go' : A → World → Went) → HasUpcall (left r) → ((x : A) (w : World) → HasUpcall w → go x w ≡ go' x w) → gave_after r go ≡ gave_after r go'
  gave_same_after (Ended x w) go go' e each = each x w e
  gave_same_after (Stopped kind at w) go go' e each = refl

  gave_same_given : {A : Type 0} (r : Result A StopKind) (at : At) (w : World) (go go' : A → Went) → ((x : A) → go x ≡ go' x) → gave_given r at w go ≡ gave_given r at w go'
  gave_same_given (Ok x) at w go go' each = each x
  gave_same_given (Err kind) at w go go' each = refl

  gave_same_stored : (r : Result Memory StopKind) (at : At) (w : World) (go go' : World → Went) → HasUpcall w → ((w' : World) → HasUpcall w' → go w' ≡ go' w') → gave_given (remembers w r) at w go ≡ gave_given (remembers w r) at w go'
  gave_same_stored (Ok m) at w go go' e each = each (with_memory w m) e
  gave_same_stored (Err kind) at w go go' e each = refl

  gave_same_counted : (n : ℕ) (at : At) (w : World) (go go' : World → Went) → HasUpcall w → ((w' : World) → HasUpcall w' → go w' ≡ go' w') → gave_counted n at w go ≡ gave_counted n at w go'
  gave_same_counted zero at w go go' e each = refl
  gave_same_counted (suc n) at w go go' e each = each (record w { clock = advanced 1 w.clock }) e

  goes_wait : (t : Tree) (w : World) → HasUpcall w → goes (accesses program all_cells) (served program) before t w ≡ goes (accesses program all_cells) (served program) nothing t w
  unfolding goes
  goes_wait Tree.Idle w e = refl
  goes_wait (Tree.Waits k) w e = refl
  goes_wait (Tree.Done v t) w e = refl
  goes_wait (Tree.Stop kind at) w e = refl
  goes_wait (Tree.Tick at d t) w e =
      ap (λ r. gave_after r (λ x w'. gave_counted w'.clock.rest at w' (λ w''. goes (accesses program all_cells) (served program) before t w''))) (waits d w e)
      ∙ gave_same_counted w.clock.rest at w _ _ e (λ w' e'. goes_wait t w' e')
  goes_wait (Tree.Load at p k) w e = gave_same_given _ at w _ _ (λ v. goes_wait (k v) w e)
  goes_wait (Tree.Store at p v t) w e = gave_same_stored _ at w _ _ e (λ w' e'. goes_wait t w' e')
  goes_wait (Tree.Read at p n k) w e = gave_same_given _ at w _ _ (λ bytes. goes_wait (k bytes) w e)
  goes_wait (Tree.Fresh at v k) w e = gave_same_given _ at w _ _ (λ x. goes_wait (k x) w e)
  goes_wait (Tree.Birth at shapes k) w e = goes_wait (k (births program Auto shapes w).pointers) (births program Auto shapes w).memory (births_keep HasUpcall upcall_kept program Auto shapes w e)
  goes_wait (Tree.Death at ps t) w e = goes_wait t (deaths ps w) (deaths_keep HasUpcall upcall_kept ps w e)
  goes_wait (Tree.Ask a k) w e = gave_same_after (served program a w) _ _ (served_keeps HasUpcall upcall_kept program a w e).at_end (λ results w' e'. goes_wait (k results) w' e')
  goes_wait (Tree.Cross at f args d k) w e = refl

-- ---- up to the next call of the other half

module _ (d : Driver) where
  interrupts_wait : (n : ℕ) (w : World) → HasUpcall w → interrupts (kernel_of d) n w ≡ done w
  unfolding interrupts
  interrupts_wait n w e = ap (λ o. handled (kernel_of d) n o w) (none_due w e)

  -- each step keeps what it keeps
  goes_keeps : (P : World → Type 0) → IsKept P → (t : Tree) (w : World) → P w → P (went_left (kernel_goes d nothing t w))
  goes_keeps P kept t w e =
      subst P (left_is d.program nothing (λ n w'. le_refl w'.clock.rest) t w)
      (run_keeps P kept d.program all_cells (served d.program) may_not nothing (λ n w' e'. record { at_end = e' }) (λ q w' e'. served_keeps P kept d.program q w' e') (λ at g vs n w' e'. record { at_end = e' }) t w e).at_end

  pub kernel_goes_viewed : (t : Tree) (set : List Cell) (outer : List (List Cell)) (w : World) → HasUpcall w → AreOlder (set ∷ outer) w
      → IsWentViewed (set ∷ outer) (kernel_goes d (interrupts (kernel_of d)) t (viewed (set ∷ outer) w)) (kernel_goes d nothing t w)
  kernel_goes_viewed t set outer w e older =
      let b : IsBeside (set ∷ outer) w = record { upcall = e; older = older; some = refl } in
      let x : IsBeside (set ∷ outer) (went_left (kernel_goes d nothing t w)) = goes_keeps (IsBeside (set ∷ outer)) (beside_kept (set ∷ outer)) t w b in
      record {
        is = goes_wait d.program (interrupts (kernel_of d)) interrupts_wait t (viewed (set ∷ outer) w) refl ∙ goes_viewed (set ∷ outer) d.program t w b;
        older = x.older;
        upcall = x.upcall;
      }

pub kernel_code_is_viewed : KernelCodeIsViewed
kernel_code_is_viewed = record { goes = kernel_goes_viewed }
