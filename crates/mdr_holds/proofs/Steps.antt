-- Each step of a run leaves a state that holds.
use Rattle.std.proofs.Common.{◌≡◌, ◌⊎◌, inl, inr, ℕ, suc, ◌+◌, ◌<◌, ◌≤◌, true, false, cond, List, [], ◌∷◌, ◌++◌, slice_get, Some, refl, sym, ap, ◌∙◌, subst, arith}
use Rattle.std.specs.Prelude.{◌==◌}
use Rattle.std.proofs.lemmas.Bool.{cond-true, cond-false, eq-eqb, ne_eqb}
use Rattle.std.proofs.lemmas.List.Sums.{sum_by-append}
use Rattle.mdr_core.specs.declared.program.GlobalDef.{GlobalDef}
use Rattle.mdr_core.specs.declared.program.Program.{Program}
use Rattle.mdr_core.specs.Layout.{Leaf}
use Rattle.mdr_device.specs.Machines.{Machine}
use Rattle.mdr_meaning.specs.declared.shape.Shape64.{Shape64}
use Rattle.mdr_meaning.specs.declared.wire.Wire.{Wire}
use Rattle.mdr_meaning.specs.Fit.{Knowledge}
use Rattle.mdr_meaning.proofs.GrowthLaws.{grows_on, grows_same}
use Rattle.mdr_mem.specs.declared.cells.Life.{Life}
use Rattle.mdr_mem.specs.declared.cells.Life.TheVariants as life
use Rattle.mdr_mem.specs.Contents.{births_in, is_birth}
use Rattle.mdr_model.specs.declared.memory.Cell.{Cell}
use Rattle.mdr_model.specs.declared.message.BirthKind.{BirthKind}
use Rattle.mdr_model.specs.declared.message.BirthKind.TheVariants.{Static, Auto}
use Rattle.mdr_model.specs.declared.message.New.{New}
use Rattle.mdr_model.specs.Agreement.{IsBelow, MayFollow}
use Rattle.mdr_model.specs.Copies.{inserted}
use Rattle.mdr_model.specs.Memory.{Memory, born_at, killed, leaf_at, normal, put, zero_block}
use Rattle.mdr_model.specs.User.{has_shape}
use Rattle.mdr_model.proofs.KernelSteps.{steps_may_follow}
use Rattle.mdr_model.proofs.LifeLaws.{born_at-inserted, born_at-killed}
use Rattle.mdr_model.proofs.MemoryLaws.{born_at-put}
use Rattle.mdr_plain.specs.Services.{is_heap, with_device}
use Rattle.mdr_plain.specs.Storage.{born, died, new_of, next_serial, with_memory}
use Rattle.mdr_plain.specs.World.{Kept, World, advanced}
use Rattle.mdr_watched.specs.Order.{IsInOrder}
use Rattle.mdr_watched.proofs.MemoryOrder.{order_kept}
use Rattle.mdr_holds.specs.Holding.{FitsCell, Holds, IsDevice, IsHandler, IsMemory, KnowsBirths}
use Rattle.mdr_holds.specs.Leaving.{Later}
use Rattle.mdr_holds.proofs.Devices.{device_ticked}
use Rattle.mdr_holds.proofs.Memories.{birth_grows, birth_known, inserted_last, live_born, memory_born, memory_killed, memory_put, with_birth}

-- ---- serials

weight : Life → ℕ
weight l = cond (is_birth l) 1 0

one_death : (lives : List Life) (serial : ℕ) → births_in (lives ++ life.Death serial ∷ []) ≡ births_in lives
unfolding weight
one_death lives serial = let sum : births_in (lives ++ life.Death serial ∷ []) ≡ births_in lives + 0 = sum_by-append weight lives (life.Death serial ∷ []) in omega (arith, sum)

one_birth : (lives : List Life) (cells : ℕ) → births_in (lives ++ life.Birth cells ∷ []) ≡ suc (births_in lives)
unfolding weight
one_birth lives cells = let sum : births_in (lives ++ life.Birth cells ∷ []) ≡ births_in lives + 1 = sum_by-append weight lives (life.Birth cells ∷ []) in omega (arith, sum)

pub next_born : (program : Program) (n : New) (w : World) → next_serial (born program n w) ≡ suc (next_serial w)
unfolding born
next_born program n w = one_birth w.lives _

pub next_died : (serial : ℕ) (w : World) → next_serial (died serial w) ≡ next_serial w
unfolding died
next_died serial w = one_death w.lives serial

-- ---- states

module _ (program : Program) where
  pub in_order : (K : Knowledge) (w : World) → Holds program K w → IsInOrder w
  in_order K w h = record { rises = h.memory.formed.rises; below = h.low; live = h.views }

  -- what is kept beside the handler is no matter
  pub kept_holds : (K : Knowledge) (w : World) (k : Kept) → Holds program K w → ((f : ℕ) → k.handler ≡ Some f → IsHandler program K.uses f) → Holds program K (record w { kept = k })
  kept_holds K w k h handler = record { memory = h.memory; births = h.births; low = h.low; views = h.views; device = h.device; handler = handler }

  -- ---- one step after another

  module _ (from : ℕ) where
    pub later_same : (K : Knowledge) (w : World) → Holds program K w → Later program from K w K w
    later_same K w h = record {
      grows = grows_same K;
      holds = h;
      follows = steps_may_follow.none program (next_serial w) w.memory h.memory.formed h.low;
      stays = λ s b under e q. e;
      time = refl;
      later = omega arith;
      calls = refl;
    }

    pub later_on : (K K1 K2 : Knowledge) (w w1 w2 : World) → Later program from K w K1 w1 → Later program from K1 w1 K2 w2 → Later program from K w K2 w2
    later_on K K1 K2 w w1 w2 a b = record {
      grows = grows_on K K1 K2 a.grows b.grows;
      holds = b.holds;
      follows = steps_may_follow.more a.follows b.follows;
      stays = λ s n under e q. b.stays s n under (a.stays s n under e q) q;
      time = b.time ∙ a.time;
      later = omega (arith, a.later, b.later);
      calls = b.calls ∙ a.calls;
    }

    pub later_from : (before : ℕ) → from ≤ before → (K K1 : Knowledge) (w w1 : World) → Later program before K w K1 w1 → Later program from K w K1 w1
    later_from before less K K1 w w1 a = record {
      grows = a.grows;
      holds = a.holds;
      follows = a.follows;
      stays = λ s n under e q. a.stays s n (omega (arith, under, less)) e q;
      time = a.time;
      later = a.later;
      calls = a.calls;
    }

    -- ---- what is beside memory

    pub kept_later : (K : Knowledge) (w : World) (k : Kept) → Holds program K w → k.calls ≡ w.kept.calls → ((f : ℕ) → k.handler ≡ Some f → IsHandler program K.uses f) → Later program from K w K (record w { kept = k })
    kept_later K w k h calls handler = record {
      grows = grows_same K;
      holds = kept_holds K w k h handler;
      follows = steps_may_follow.none program (next_serial w) w.memory h.memory.formed h.low;
      stays = λ s b under e q. e;
      time = refl;
      later = omega arith;
      calls = calls;
    }

    pub device_later : (K : Knowledge) (w : World) (d : Machine) → Holds program K w → IsDevice d → Later program from K w K (with_device d w)
    device_later K w d h device = record {
      grows = grows_same K;
      holds = record { memory = h.memory; births = h.births; low = h.low; views = h.views; device = device; handler = h.handler };
      follows = steps_may_follow.none program (next_serial w) w.memory h.memory.formed h.low;
      stays = λ s b under e q. e;
      time = refl;
      later = omega arith;
      calls = refl;
    }

    pub tick_later : (K : Knowledge) (w : World) (n : ℕ) → Holds program K w → w.clock.rest ≡ suc n → Later program from K w K (record w { clock = advanced 1 w.clock })
    tick_later K w n h rest = record {
      grows = grows_same K;
      holds = record { memory = h.memory; births = h.births; low = h.low; views = h.views; device = device_ticked w.clock.device h.device; handler = h.handler };
      follows = steps_may_follow.none program (next_serial w) w.memory h.memory.formed h.low;
      stays = λ s b under e q. e;
      time = omega (arith, rest);
      later = omega arith;
      calls = refl;
    }

    -- ---- memory

    pub put_later : (K : Knowledge) (w : World) (c : Cell) (v : Wire) → Holds program K w
        → ((b : New) (leaf : Leaf) → born_at w.memory c.serial ≡ Some b → leaf_at program b c.index ≡ Some leaf → FitsCell program K leaf.type (normal w.memory v)) → Later program from K w K (with_memory w (put w.memory c (normal w.memory v)))
    put_later K w c v h f =
        let order = order_kept.put w c (normal w.memory v) (in_order K w h) in
        record {
          grows = grows_same K;
          holds = record { memory = memory_put program K w.memory (next_serial w) c v h.memory h.low f; births = h.births; low = order.below; views = order.live; device = h.device; handler = h.handler };
          follows = steps_may_follow.store program (next_serial w) w.memory c v h.memory.formed h.low;
          stays = λ s b under e q. born_at-put w.memory c (normal w.memory v) s ∙ e;
          time = refl;
          later = omega arith;
          calls = refl;
        }

    -- what dies is an allocated block, or an object of a local that was born since
    abbrev pub MayDie : World → ℕ → Type 0
    MayDie w dead = (b : New) → born_at w.memory dead ≡ Some b → (is_heap b.kind ≡ true) ⊎ ((b.kind ≡ Auto) × (from ≤ dead))

    no_global : (K : Knowledge) (w : World) (dead : ℕ) → Holds program K w → MayDie w dead → (def : GlobalDef) → slice_get program.globals dead ≡ Some def → ⊥
    no_global K w dead h may def e = of (may _ (h.memory.globals dead def e)) where
      of : (is_heap Static ≡ true) ⊎ ((Static ≡ Auto) × (from ≤ dead)) → ⊥
      of (inl q) = cc
      of (inr q) = let same : Static ≡ Auto = q.0 in cc

    outlives : (w : World) (dead : ℕ) → MayDie w dead → (s : ℕ) (b : New) → s < from → born_at w.memory s ≡ Some b → is_heap b.kind ≡ false → (dead == s) ≡ false
    outlives w dead may s b under e q = ne_eqb dead s (λ same. of same (may b (ap (born_at w.memory) same ∙ e))) where
      of : dead ≡ s → (is_heap b.kind ≡ true) ⊎ ((b.kind ≡ Auto) × (from ≤ dead)) → ⊥
      of same (inl k) = let both : true ≡ false = sym k ∙ q in cc
      of same (inr k) = omega (arith, same, under, k.1)

    pub death_later : (K : Knowledge) (w : World) (dead : ℕ) → Holds program K w → MayDie w dead → Later program from K w K (died dead w)
    unfolding died
    death_later K w dead h may =
        let order : IsInOrder (died dead w) = order_kept.death w dead (in_order K w h) in
        let next : next_serial (died dead w) ≡ next_serial w = next_died dead w in
        record {
          grows = grows_same K;
          holds = record {
            memory = memory_killed program K w.memory (next_serial w) dead h.memory h.low (no_global K w dead h may);
            births = subst (KnowsBirths K) (sym next) h.births;
            low = order.below;
            views = order.live;
            device = h.device;
            handler = h.handler;
          };
          follows = subst (λ (n : ℕ). MayFollow program (next_serial w) w.memory n (killed dead w.memory)) (sym next) (steps_may_follow.death program (next_serial w) w.memory dead h.memory.formed h.low);
          stays = λ s b under e q. born_at-killed dead w.memory s ∙ cond-false _ _ _ (outlives w dead may s b under e q) ∙ e;
          time = refl;
          later = omega arith;
          calls = refl;
        }

    pub birth_later : (K : Knowledge) (w : World) (kind : BirthKind) (s : Shape64) → Holds program K w → has_shape program (new_of kind s w) ≡ true → Later program from K w (with_birth K (new_of kind s w)) (born program (new_of kind s w) w)
    unfolding born
    birth_later K w kind s h shape =
        let n : New = new_of kind s w in
        let order : IsInOrder (born program n w) = order_kept.birth program kind s w (in_order K w h) in
        let next : next_serial (born program n w) ≡ suc (next_serial w) = next_born program n w in
        let last : inserted (zero_block program n) w.memory ≡ w.memory ++ zero_block program n ∷ [] = inserted_last (zero_block program n) w.memory h.low in
        record {
          grows = birth_grows K n h.births;
          holds = record {
            memory = subst (IsMemory program (with_birth K n)) last (memory_born program K w.memory n h.memory h.low h.births shape);
            births = birth_known K n _ next h.births;
            low = order.below;
            views = order.live;
            device = h.device;
            handler = h.handler;
          };
          follows = subst (λ (x : ℕ). MayFollow program (next_serial w) w.memory x (w.memory ++ zero_block program n ∷ [])) (sym next)
              (subst (MayFollow program (next_serial w) w.memory (suc (next_serial w))) last (steps_may_follow.birth program w.memory n h.memory.formed h.low));
          stays = λ t b under e q. ap (λ (m : Memory). born_at m t) (sym last) ∙ born_at-inserted (zero_block program n) w.memory t ∙ cond-false _ _ _ (apart n.serial t (h.low t (live_born w.memory t b e))) ∙ e;
          time = refl;
          later = omega arith;
          calls = refl;
        }
      where
        apart : (a t : ℕ) → t < a → (a == t) ≡ false
        apart a t less = ne_eqb a t (λ same. omega (arith, less, same))

    -- the new block lives, at the end
    pub born_last : (w : World) (kind : BirthKind) (s : Shape64) → IsBelow (next_serial w) w.memory → born_at (born program (new_of kind s w) w).memory (next_serial w) ≡ Some (new_of kind s w)
    unfolding born
    born_last w kind s low =
        let n : New = new_of kind s w in
        ap (λ (m : Memory). born_at m (next_serial w)) (sym (inserted_last (zero_block program n) w.memory low)) ∙ born_at-inserted (zero_block program n) w.memory (next_serial w) ∙ cond-true _ _ _ (eq-eqb (next_serial w) (next_serial w) refl)
