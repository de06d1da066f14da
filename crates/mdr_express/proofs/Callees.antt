-- Callees that are neither names nor behind a sign.
use Rattle.std.proofs.Common.{◌≡◌, ℕ, List, refl, sym, ap, subst, ◌∙◌}
use Rattle.mdr_core.specs.declared.place.Place.{Place}
use Rattle.mdr_syntax.specs.declared.tree.Form.{Form}
use Rattle.mdr_syntax.specs.declared.tree.FormWhat.{FormWhat}
use Rattle.mdr_syntax.specs.declared.tree.FormWhat.TheVariants as form
use Rattle.mdr_syntax.specs.declared.tree.FormWhat.TheVariants.{rolls-Name, rolls-Prefix}
use Rattle.mdr_syntax.specs.declared.tree.FormWhat.TheOpen.{FormWhat-F}
use Rattle.mdr_syntax.specs.declared.tree.FormWhat.TheFolds.{map-FormWhat, fold-roll-FormWhat}
use Rattle.mdr_syntax.specs.declared.tree.FormWhat.TheViews.{out-FormWhat, roll-FormWhat, roll-out-FormWhat}
use Rattle.mdr_faults.specs.declared.scope.Scope.{Scope}
use Rattle.mdr_operand.specs.declared.room.LocalName.{LocalName}
use Rattle.mdr_operand.specs.Written.{Written, form_written, what_written, written_of, written_what}
use Rattle.mdr_call.specs.Calls.{as_target}
use Rattle.mdr_express.specs.Expressions.{typed, target_of}

-- what it comes to as an expression is what is called
abbrev Itself : Scope → List LocalName → Written → Type 0
Itself scope locals w = target_of scope locals w ≡ as_target (typed scope locals w)

abbrev Layer : Type 0
Layer = FormWhat-F FormWhat Form

moved : (scope : Scope) (locals : List LocalName) (l : Layer) (p : Place) → Itself scope locals (what_written (map-FormWhat FormWhat Form (Place → Written) Written written_what written_of l) p) → Itself scope locals (written_what (roll-FormWhat l) p)
moved scope locals l p h = subst (Itself scope locals) (sym (ap (λ (f : Place → Written). f p) (fold-roll-FormWhat (Place → Written) Written what_written form_written l))) h

layer_callee : (scope : Scope) (locals : List LocalName) (l : Layer) → ((name : List ℕ) → roll-FormWhat l ≡ form.Name name → ⊥) → ((sign : List ℕ) (a : Form) → roll-FormWhat l ≡ form.Prefix sign a → ⊥) → (p : Place) → Itself scope locals (written_what (roll-FormWhat l) p)
layer_callee scope locals (FormWhat-F.Name name) no_name no_sign p = absurd (no_name name (rolls-Name name))
layer_callee scope locals (FormWhat-F.Prefix sign a) no_name no_sign p = absurd (no_sign sign a (rolls-Prefix sign a))
layer_callee scope locals (FormWhat-F.Number n k) no_name no_sign p = moved scope locals (FormWhat-F.Number n k) p refl
layer_callee scope locals FormWhat-F.Null no_name no_sign p = moved scope locals FormWhat-F.Null p refl
layer_callee scope locals (FormWhat-F.Post sign a) no_name no_sign p = moved scope locals (FormWhat-F.Post sign a) p refl
layer_callee scope locals (FormWhat-F.Cast base n a) no_name no_sign p = moved scope locals (FormWhat-F.Cast base n a) p refl
layer_callee scope locals (FormWhat-F.Binary sign a b) no_name no_sign p = moved scope locals (FormWhat-F.Binary sign a b) p refl
layer_callee scope locals (FormWhat-F.Choice c a b) no_name no_sign p = moved scope locals (FormWhat-F.Choice c a b) p refl
layer_callee scope locals (FormWhat-F.Subscript a i) no_name no_sign p = moved scope locals (FormWhat-F.Subscript a i) p refl
layer_callee scope locals (FormWhat-F.Member a is_arrow at name) no_name no_sign p = moved scope locals (FormWhat-F.Member a is_arrow at name) p refl
layer_callee scope locals (FormWhat-F.Call f args) no_name no_sign p = moved scope locals (FormWhat-F.Call f args) p refl
layer_callee scope locals (FormWhat-F.Text bytes) no_name no_sign p = moved scope locals (FormWhat-F.Text bytes) p refl
layer_callee scope locals (FormWhat-F.Base base n) no_name no_sign p = moved scope locals (FormWhat-F.Base base n) p refl

pub plain_callee : (scope : Scope) (locals : List LocalName) (w : FormWhat) → ((name : List ℕ) → w ≡ form.Name name → ⊥) → ((sign : List ℕ) (a : Form) → w ≡ form.Prefix sign a → ⊥) → (p : Place) → Itself scope locals (written_what w p)
plain_callee scope locals w no_name no_sign p =
    let e = roll-out-FormWhat w in
    subst (λ v. Itself scope locals (written_what v p)) e (layer_callee scope locals (out-FormWhat w) (λ name i. no_name name (sym e ∙ i)) (λ sign a i. no_sign sign a (sym e ∙ i)) p)
