-- What a reply without a fault keeps to.
use Rattle.std.proofs.Common.{◌≡◌, refl, ℕ, true, List, [], ◌∷◌, Bool, false, Option, Some, None}
use Rattle.mdr_core.specs.declared.refusal.RefuseKind.{RefuseKind}
use Rattle.mdr_model.specs.declared.message.Fault.{Fault}
use Rattle.mdr_model.specs.Faults.{unless, or_else, first_fault}

-- ---- tests that were passed

pub unless_passes : (b : Bool) (cause : RefuseKind) (n : ℕ) → unless b cause n ≡ None → b ≡ true
unless_passes true cause n e = refl
unless_passes false cause n e = absurd (Prim.cc)

abbrev pub AreNone : List (Option Fault) → Type 0
AreNone [] = Unit {0}
AreNone (f ∷ fs) = (f ≡ None) × AreNone fs

pub or_none : (f g : Option Fault) → or_else f g ≡ None → (f ≡ None) × (g ≡ None)
or_none None g e = (refl, e)
or_none (Some f) g e = absurd (Prim.cc)

pub no_faults : (fs : List (Option Fault)) → first_fault fs ≡ None → AreNone fs
no_faults [] e = tt
no_faults (f ∷ fs) e = let both = or_none f (first_fault fs) e in (both.0, no_faults fs both.1)
