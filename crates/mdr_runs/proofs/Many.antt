-- A question for objects of locals is answered with a pointer to each.
use Rattle.std.proofs.Common.{◌≡◌, suc, List, [], ◌∷◌, length, refl, ap, sym, ◌∙◌}
use Rattle.mdr_core.specs.declared.program.Program.{Program}
use Rattle.mdr_core.specs.declared.value.Value.{Value}
use Rattle.mdr_core.specs.Services.{service_numbered}
use Rattle.mdr_events.specs.Values.{wires_of}
use Rattle.mdr_meaning.specs.declared.shape.Shape64.{Shape64}
use Rattle.mdr_meaning.specs.declared.wire.Wire.{Wire}
use Rattle.mdr_meaning.specs.Tree.{Asked}
use Rattle.mdr_model.specs.declared.message.BirthKind.{BirthKind}
use Rattle.mdr_model.specs.declared.message.BirthKind.TheVariants.{Auto}
use Rattle.mdr_plain.specs.Services.{as_now, as_served, served, served_by}
use Rattle.mdr_plain.specs.Storage.{births, born, new_of}
use Rattle.mdr_plain.specs.World.{World, Ran, Ended, Stopped, after}

births_many : (program : Program) (kind : BirthKind) (shapes : List Shape64) (w : World) → length (births program kind shapes w).pointers ≡ length shapes
unfolding births
births_many program kind [] w = refl
births_many program kind (s ∷ shapes) w = ap suc (births_many program kind shapes (born program (new_of kind s w) w))

-- what was given, or nothing
abbrev results_in : Ran (List Wire) → List Wire
results_in (Ended results w) = results
results_in (Stopped kind at w) = []

same_results : (x : Ran (List Wire)) (leaving : World → World) → results_in (after x (λ results w. Ended results (leaving w))) ≡ results_in x
same_results (Ended results w) leaving = refl
same_results (Stopped kind at w) leaving = refl

enters_served : (program : Program) (asked : Asked) (w : World) → asked.service ≡ 13 → served program asked w ≡ as_served (births program Auto asked.shapes w)
unfolding served
enters_served program asked w is = ap (λ n. served_by program (as_now w asked) (service_numbered n) w) is

served_many : (program : Program) (asked : Asked) (w : World) → asked.service ≡ 13 → length (results_in (served program asked w)) ≡ length asked.shapes
served_many program asked w is = ap (λ r. length (results_in r)) (enters_served program asked w is) ∙ births_many program Auto asked.shapes w

wires_many : (vs : List Value) → length (wires_of vs) ≡ length vs
wires_many [] = refl
wires_many (v ∷ vs) = ap suc (wires_many vs)

pub as_many : (program : Program) (asked : Asked) (w w' : World) (vs : List Value) → Ended (wires_of vs) w' ≡ served program asked w → asked.service ≡ 13 → length vs ≡ length asked.shapes
as_many program asked w w' vs is enters = sym (wires_many vs) ∙ ap (λ r. length (results_in r)) is ∙ served_many program asked w enters

-- also where something else is left behind it
pub as_many_behind : (program : Program) (asked : Asked) (w w' : World) (leaving : World → World) (vs : List Value) → Ended (wires_of vs) w' ≡ after (served program asked w) (λ results x. Ended results (leaving x))
    → asked.service ≡ 13 → length vs ≡ length asked.shapes
as_many_behind program asked w w' leaving vs is enters =
    sym (wires_many vs) ∙ ap (λ r. length (results_in r)) is ∙ ap length (same_results (served program asked w) leaving) ∙ served_many program asked w enters
