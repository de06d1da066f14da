-- Work after work, and where it leads.
use Rattle.std.proofs.Common.{ℕ, ◌≤◌}
use Rattle.mdr_core.specs.declared.program.Program.{Program}
use Rattle.mdr_meaning.specs.Fit.{Knowledge}
use Rattle.mdr_plain.specs.World.{Ran, Work, World, after, then}
use Rattle.mdr_holds.specs.Leaving.{Later, Leads, ended, stopped}
use Rattle.mdr_holds.proofs.Steps.{later_from, later_on}

module _ (program : Program) (from : ℕ) (K0 : Knowledge) (first : World) where
  abbrev Left : Knowledge → World → Type 0
  Left = Later program from K0 first

  pub after_leads : {A B : Type 0} (G : Knowledge → A → World → Type 0) (H : Knowledge → B → World → Type 0) (r : Ran A) → Leads Left G r → (go : A → World → Ran B)
      → ((K : Knowledge) (x : A) (w : World) → Left K w → G K x w → Leads Left H (go x w)) → Leads Left H (after r go)
  after_leads G H _ (ended K x w l g) go each = each K x w l g
  after_leads G H _ (stopped K kind at w l) go each = stopped K kind at w l

  pub then_leads : {B : Type 0} (G : Knowledge → Unit {0} → World → Type 0) (H : Knowledge → B → World → Type 0) (r : Work) → Leads Left G r → (go : World → Ran B)
      → ((K : Knowledge) (w : World) → Left K w → G K tt w → Leads Left H (go w)) → Leads Left H (then r go)
  then_leads G H _ (ended K x w l g) go each = each K w l g
  then_leads G H _ (stopped K kind at w l) go each = stopped K kind at w l

  -- work that was begun later
  pub later_leads : {A : Type 0} (G H : Knowledge → A → World → Type 0) (K : Knowledge) (w : World) → Left K w → (before : ℕ) → from ≤ before → (r : Ran A) → Leads (Later program before K w) G r
      → ((K' : Knowledge) (x : A) (w' : World) → Left K' w' → G K' x w' → H K' x w') → Leads Left H r
  later_leads G H K w l before early _ (ended K' x w' m g) each =
      let whole : Left K' w' = later_on program from K0 K K' first w w' l (later_from program from before early K K' w w' m) in
      ended K' x w' whole (each K' x w' whole g)
  later_leads G H K w l before early _ (stopped K' kind at w' m) each = stopped K' kind at w' (later_on program from K0 K K' first w w' l (later_from program from before early K K' w w' m))
