-- Where no interrupt is due for some time.
use Rattle.std.proofs.Common.{◌≡◌, ℕ, ◌<◌, Bool, true, false, true≢false, not, ◌&&◌, Option, Some, None, refl, sym, ◌∙◌, ap, subst}
use Rattle.mdr_core.specs.Layout.{chosen}
use Rattle.mdr_device.specs.Machines.{advanced as passed}
use Rattle.mdr_plain.specs.Gate.{are_none, due, is_open}
use Rattle.mdr_plain.specs.Locks.{is_any_held}
use Rattle.mdr_plain.specs.World.{Clock, Kept, World}
use Rattle.mdr_world.specs.Driven.{Driven, NoneIsDueIn, is_heard}

none_chosen : (open_now : Bool) (h : Option ℕ) → h ≡ None → chosen open_now h None ≡ None
none_chosen true h e = e
none_chosen false h e = refl

shut_inside : (line inside others : Bool) → inside ≡ true → (line && (not inside && others)) ≡ false
shut_inside true inside others e = ap (λ b. not b && others) e
shut_inside false inside others e = refl

-- no function handles interrupts
none_without : (ticks : ℕ) (w : World) → w.kept.handler ≡ None → NoneIsDueIn ticks w
unfolding due
none_without ticks w none n now less same is = none_chosen (is_open now) now.kept.handler (ap (λ (k : Kept). k.handler) same ∙ none)

-- it runs now
none_inside : (ticks : ℕ) (w : World) → w.kept.in_handler ≡ true → NoneIsDueIn ticks w
unfolding due
none_inside ticks w inside n now less same is =
    ap (λ b. chosen b now.kept.handler None) (shut_inside now.clock.device.state.line now.kept.in_handler (not (is_any_held now.memory) && are_none now.views) (ap (λ (k : Kept). k.in_handler) same ∙ inside))

-- nothing hears the line
deaf : (ticks : ℕ) (h : Option ℕ) (inside : Bool) (w : World) → w.kept.handler ≡ h → w.kept.in_handler ≡ inside → is_heard h inside ≡ false → NoneIsDueIn ticks w
deaf ticks None inside w handler in_it unheard = none_without ticks w handler
deaf ticks (Some f) true w handler in_it unheard = none_inside ticks w in_it
deaf ticks (Some f) false w handler in_it unheard = absurd (true≢false unheard)

pub deaf_is_calm : (ticks : ℕ) (d old : Driven) → d ≡ old → (heard : Bool) → heard ≡ is_heard d.world.kept.handler d.world.kept.in_handler → heard ≡ false → NoneIsDueIn ticks old.world
deaf_is_calm ticks d old same heard is so =
    subst (λ (x : Driven). NoneIsDueIn ticks x.world) same (deaf ticks d.world.kept.handler d.world.kept.in_handler d.world refl refl (sym is ∙ so))

-- the line is low before so many ticks
none_low_in : (ticks : ℕ) (w : World) → ((n : ℕ) → n < ticks → (passed n w.clock.device).state.line ≡ false) → NoneIsDueIn ticks w
unfolding due
none_low_in ticks w low n now less same is =
    ap (λ b. chosen (b && (not now.kept.in_handler && (not (is_any_held now.memory) && are_none now.views))) now.kept.handler None) (ap (λ (c : Clock). c.device.state.line) is ∙ low n less)

pub low_is_calm : (ticks : ℕ) (d old : Driven) → d ≡ old → ((n : ℕ) → n < ticks → (passed n d.world.clock.device).state.line ≡ false) → NoneIsDueIn ticks old.world
low_is_calm ticks d old same low = subst (λ (x : Driven). NoneIsDueIn ticks x.world) same (none_low_in ticks d.world low)
