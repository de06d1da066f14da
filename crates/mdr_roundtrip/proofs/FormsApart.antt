-- Printable expressions are apart.
use Rattle.std.proofs.Common.{◌≡◌, Bool, true, List, [], ◌∷◌, map, refl, sym, ap, subst, ◌∙◌}
use Rattle.std.specs.Prelude.{◌&&◌}
use Rattle.std.specs.List.{AllByRecursion}
use Rattle.mdr_syntax.specs.declared.tree.Form.{Form}
use Rattle.mdr_syntax.specs.declared.tree.FormWhat.{FormWhat}
use Rattle.mdr_syntax.specs.declared.tree.FormWhat.TheOpen.{FormWhat-F}
use Rattle.mdr_syntax.specs.declared.tree.FormWhat.TheFolds.{ind-Form, map-FormWhat, fold-roll-FormWhat, fold_out-Form}
use Rattle.mdr_print.specs.Forms.{Shown, marks_of, what_shown, form_shown, shown_form, shown_what, form, left_side}
use Rattle.mdr_roundtrip.specs.Words.{is_word, is_sign, is_prefix, is_step, is_base}
use Rattle.mdr_roundtrip.specs.Printable.{all, what_printable, form_printable, is_printable_form, is_printable_what}
use Rattle.mdr_roundtrip.specs.Standing.{Apart}
use Rattle.mdr_roundtrip.proofs.Tests.{both}
use Rattle.mdr_roundtrip.proofs.ShownForms.{IsShown, shown_apart, number_shown, word_shown, text_shown, prefix_shown, post_shown, type_shown, cast_shown, binary_shown, choice_shown, subscript_shown, member_shown, call_shown, left_apart}

record GoodWhat (w : FormWhat) : Type 0 where
  by : is_printable_what w ≡ true → IsShown (shown_what w)

record GoodForm (f : Form) : Type 0 where
  by : is_printable_form f ≡ true → IsShown (shown_form f)

args_are : {X : Type 0} (of : X → Form) → ((x : X) → GoodForm (of x)) → (xs : List X) → all (map is_printable_form (map of xs)) ≡ true → AllByRecursion Apart (map marks_of (map shown_form (map of xs)))
args_are of good [] h = tt
args_are of good (x ∷ xs) h =
    let k = both (is_printable_form (of x)) (all (map is_printable_form (map of xs))) h in
    (shown_apart (shown_form (of x)) ((good x).by k.0), args_are of good xs k.1)

abbrev Layer : FormWhat-F FormWhat Form → Type 0
Layer l = what_printable (map-FormWhat FormWhat Form Bool Bool is_printable_what is_printable_form l) ≡ true → IsShown (what_shown (map-FormWhat FormWhat Form Shown Shown shown_what shown_form l))

layer_is : {X Y : Type 0} (what : X → FormWhat) (of : Y → Form) → ((y : Y) → GoodForm (of y)) → (l : FormWhat-F X Y) → Layer (map-FormWhat X Y FormWhat Form what of l)
layer_is what of good (FormWhat-F.Number n kind) h = number_shown n kind h
layer_is what of good FormWhat-F.Null h = word_shown _ refl
layer_is what of good (FormWhat-F.Name name) h = word_shown name h
layer_is what of good (FormWhat-F.Prefix op a) h = let k = both (is_prefix op) (is_printable_form (of a)) h in prefix_shown op (shown_form (of a)) k.0 ((good a).by k.1)
layer_is what of good (FormWhat-F.Post op a) h = let k = both (is_step op) (is_printable_form (of a)) h in post_shown op (shown_form (of a)) k.0 ((good a).by k.1)
layer_is what of good (FormWhat-F.Cast b n a) h = let k = both (is_base b) (is_printable_form (of a)) h in cast_shown b n (shown_form (of a)) k.0 ((good a).by k.1)
layer_is what of good (FormWhat-F.Binary op a b) h =
    let k = both (is_sign op) (is_printable_form (of a) && is_printable_form (of b)) h in
    let j = both (is_printable_form (of a)) (is_printable_form (of b)) k.1 in
    binary_shown op (shown_form (of a)) (shown_form (of b)) k.0 ((good a).by j.0) ((good b).by j.1)
layer_is what of good (FormWhat-F.Choice c a b) h =
    let k = both (is_printable_form (of c)) (is_printable_form (of a) && is_printable_form (of b)) h in
    let j = both (is_printable_form (of a)) (is_printable_form (of b)) k.1 in
    choice_shown (shown_form (of c)) (shown_form (of a)) (shown_form (of b)) ((good c).by k.0) ((good a).by j.0) ((good b).by j.1)
layer_is what of good (FormWhat-F.Subscript a i) h =
    let k = both (is_printable_form (of a)) (is_printable_form (of i)) h in
    subscript_shown (shown_form (of a)) (shown_form (of i)) ((good a).by k.0) ((good i).by k.1)
layer_is what of good (FormWhat-F.Member a is_arrow place name) h =
    let k = both (is_printable_form (of a)) (is_word name) h in
    member_shown (shown_form (of a)) is_arrow name k.1 ((good a).by k.0)
layer_is what of good (FormWhat-F.Call f args) h =
    let k = both (is_printable_form (of f)) (all (map is_printable_form (map of args))) h in
    call_shown (shown_form (of f)) (map marks_of (map shown_form (map of args))) ((good f).by k.0) (args_are of good args k.1)
layer_is what of good (FormWhat-F.Text bytes) h = text_shown bytes h
layer_is what of good (FormWhat-F.Base b n) h = type_shown b n h

good_forms : (f : Form) → GoodForm f
good_forms = ind-Form GoodWhat GoodForm
    (λ x y is. record {
      by = λ q. subst IsShown (sym (fold-roll-FormWhat Shown Shown what_shown form_shown x))
          (subst Layer is (layer_is (λ e. e.0) (λ e. e.0) (λ e. e.1) y) (sym (fold-roll-FormWhat Bool Bool what_printable form_printable x) ∙ q));
    })
    (λ x y is. record {
      by = λ q. subst IsShown (sym (fold_out-Form Shown Shown what_shown form_shown (record { place = x.place; what = x.what })))
          ((subst GoodWhat (ap (λ z. z.what) is) (y.what.1)).by (sym (fold_out-Form Bool Bool what_printable form_printable (record { place = x.place; what = x.what })) ∙ q));
    })

pub forms_apart : (f : Form) → is_printable_form f ≡ true → Apart (form f)
forms_apart f h = shown_apart (shown_form f) ((good_forms f).by h)

pub left_side_apart : (f : Form) → is_printable_form f ≡ true → Apart (left_side f)
left_side_apart f h = left_apart (shown_form f) ((good_forms f).by h)
