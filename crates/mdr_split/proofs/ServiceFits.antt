-- Questions to services, and their answers, fit, in the form in which replies and messages use it.
use Rattle.std.proofs.Common.{◌≡◌, ℕ, true, List, Some, None, ap, ◌∙◌}
use Rattle.std.specs.Prelude.{slice_get}
use Rattle.mdr_core.specs.declared.program.Func.{Func}
use Rattle.mdr_core.specs.declared.program.Program.{Program}
use Rattle.mdr_core.specs.declared.types.Shape.{Shape}
use Rattle.mdr_core.specs.Services.{Service, service_numbered}
use Rattle.mdr_meaning.specs.declared.shape.Shape64.{Shape64}
use Rattle.mdr_meaning.specs.declared.wire.Wire.{Wire}
use Rattle.mdr_meaning.specs.Fair.{IsAsk, IsServed, Leaves}
use Rattle.mdr_meaning.specs.Fit.{Knowledge}
use Rattle.mdr_meaning.specs.Tree.{Asked}
use Rattle.mdr_model.specs.declared.message.New.{New}
use Rattle.mdr_model.specs.Agreement.{IsBelow}
use Rattle.mdr_model.specs.Memory.{Memory, is_live}
use Rattle.mdr_plain.specs.Services.{served}
use Rattle.mdr_plain.specs.Storage.{next_serial}
use Rattle.mdr_plain.specs.World.{World, Ended}
pub use Rattle.mdr_split.proofs.AnswerFits.{TellsBirths, births_told}
use Rattle.mdr_split.proofs.AnswerFits.{answer_fits}
use Rattle.mdr_split.proofs.FitLaws.{Judges}
pub use Rattle.mdr_split.proofs.ObjectLaws.{AreWhole, IsWhole}
use Rattle.mdr_split.proofs.QuestionFits.{question_fits as asked_right}
use Rattle.mdr_split.specs.Legal.{is_kernel_half, kernel_places, service_fault}
use Rattle.mdr_split.specs.Services.{are_given_by, asked_now, results_fit, serials_of}
use Rattle.mdr_split.specs.State.{Kernel, Open}
use Rattle.mdr_watched.specs.Driver.{Driver}

pub question_fits : (d : Driver) (k : Kernel) (K : Knowledge) (m w : Memory) (upcall : Open) (a : Asked) (s : Service) (from : ℕ) (live remains : List Wire)
    → Judges (kernel_places d k) K m
    → ((f : ℕ) (func : Func) → slice_get d.program.funcs f ≡ Some func → K.uses.handles f ≡ true → is_kernel_half d f ≡ true)
    → ((serial : ℕ) (shape : Shape) → K.blocks serial ≡ Some shape → is_live w serial ≡ true → is_live m serial ≡ true)
    → service_numbered a.service ≡ Some s → IsAsk d.program K a s
    → AreWhole w from live → upcall.entered ≡ serials_of live → Leaves s a live remains
    → service_fault d k upcall (asked_now m a) ≡ None
question_fits d k K m w upcall a s from live remains judges handlers lives names ask whole entered leaves = asked_right d k K w m upcall a s from live remains judges handlers lives names ask whole entered leaves

-- of a question that has the service and the shapes of the one that was asked
pub results_right : (program : Program) (K K' : Knowledge) (a asked : Asked) (s : Service) (w w' : World) (rs : List Wire) (news : List New)
    → IsBelow (next_serial w) w.memory → service_numbered a.service ≡ Some s → IsAsk program K a s
    → asked.service ≡ a.service → asked.shapes ≡ a.shapes
    → served program a w ≡ Ended rs w' → IsServed program K' a s rs → TellsBirths w w' rs news → results_fit asked news rs ≡ true
unfolding results_fit
results_right program K K' a asked s w w' rs news low names ask same shapes is h told =
    ap (λ (n : ℕ). are_given_by (service_numbered n) news asked.shapes rs) same
    ∙ ap (λ (ss : List Shape64). are_given_by (service_numbered a.service) news ss rs) shapes
    ∙ answer_fits program K K' a s w w' rs news low names ask is h told
