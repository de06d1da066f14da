-- The numbers of an expression that can be printed are of their kinds.
use Rattle.std.proofs.Common.{◌≡◌, Bool, true, List, [], ◌∷◌, map, Option, Some, None, sym, ap, subst, ◌∙◌, option_map}
use Rattle.std.specs.Prelude.{◌&&◌}
use Rattle.mdr_core.specs.declared.place.Place.{Place}
use Rattle.mdr_syntax.specs.declared.tree.Form.{Form}
use Rattle.mdr_syntax.specs.declared.tree.FormWhat.{FormWhat}
use Rattle.mdr_syntax.specs.declared.tree.FormWhat.TheOpen.{FormWhat-F}
use Rattle.mdr_syntax.specs.declared.tree.FormWhat.TheFolds.{ind-Form, map-FormWhat, fold-roll-FormWhat, fold_out-Form}
use Rattle.mdr_operand.specs.Written.{Written, written_list, what_written, form_written, written_of, written_what}
use Rattle.mdr_roundtrip.specs.Words.{is_word, is_sign, is_prefix, is_step, is_base}
use Rattle.mdr_roundtrip.specs.Printable.{all, what_printable, form_printable, is_printable_form, is_printable_what}
use Rattle.mdr_roundtrip.specs.PrintableDeclarations.{maybe}
use Rattle.mdr_sound.specs.Knowing.{HasNumbers, HaveNumbers}
use Rattle.mdr_sound.proofs.Alike.{left_of, right_of}
use Rattle.mdr_sound.specs.Written.{PerhapsHasNumbers}
use Rattle.mdr_sound.proofs.Numbering.{written_in}

record GoodWhat (w : FormWhat) : Type 0 where
  by : is_printable_what w ≡ true → (p : Place) → HasNumbers (written_what w p)

record GoodForm (f : Form) : Type 0 where
  by : is_printable_form f ≡ true → HasNumbers (written_of f)

all_numbered : {Y : Type 0} (of : Y → Form) → ((y : Y) → GoodForm (of y)) → (ys : List Y) → all (map is_printable_form (map of ys)) ≡ true → HaveNumbers (written_list (map written_of (map of ys)))
all_numbered of good [] h = tt
all_numbered of good (y ∷ ys) h =
    let one = is_printable_form (of y) in
    let more = all (map is_printable_form (map of ys)) in
    ((good y).by (left_of one more h), all_numbered of good ys (right_of one more h))

abbrev Layer : FormWhat-F FormWhat Form → Type 0
Layer l = what_printable (map-FormWhat FormWhat Form Bool Bool is_printable_what is_printable_form l) ≡ true
    → (p : Place) → HasNumbers (what_written (map-FormWhat FormWhat Form (Place → Written) Written written_what written_of l) p)

layer_is : {X Y : Type 0} (what : X → FormWhat) (of : Y → Form) → ((y : Y) → GoodForm (of y)) → (l : FormWhat-F X Y) → Layer (map-FormWhat X Y FormWhat Form what of l)
layer_is what of good (FormWhat-F.Number n kind) h p = written_in kind n h
layer_is what of good FormWhat-F.Null h p = tt
layer_is what of good (FormWhat-F.Name name) h p = tt
layer_is what of good (FormWhat-F.Prefix op a) h p = (good a).by (right_of (is_prefix op) (is_printable_form (of a)) h)
layer_is what of good (FormWhat-F.Post op a) h p = (good a).by (right_of (is_step op) (is_printable_form (of a)) h)
layer_is what of good (FormWhat-F.Cast b n a) h p = (good a).by (right_of (is_base b) (is_printable_form (of a)) h)
layer_is what of good (FormWhat-F.Binary op a b) h p =
    let parts = right_of (is_sign op) (is_printable_form (of a) && is_printable_form (of b)) h in
    ((good a).by (left_of (is_printable_form (of a)) (is_printable_form (of b)) parts), (good b).by (right_of (is_printable_form (of a)) (is_printable_form (of b)) parts))
layer_is what of good (FormWhat-F.Choice c a b) h p =
    let both = is_printable_form (of a) && is_printable_form (of b) in
    let parts = right_of (is_printable_form (of c)) both h in (
      (good c).by (left_of (is_printable_form (of c)) both h),
      ((good a).by (left_of (is_printable_form (of a)) (is_printable_form (of b)) parts), (good b).by (right_of (is_printable_form (of a)) (is_printable_form (of b)) parts)),
    )
layer_is what of good (FormWhat-F.Subscript a b) h p =
    ((good a).by (left_of (is_printable_form (of a)) (is_printable_form (of b)) h), (good b).by (right_of (is_printable_form (of a)) (is_printable_form (of b)) h))
layer_is what of good (FormWhat-F.Member a is_arrow place name) h p = (good a).by (left_of (is_printable_form (of a)) (is_word name) h)
layer_is what of good (FormWhat-F.Call f args) h p =
    let rest = all (map is_printable_form (map of args)) in
    ((good f).by (left_of (is_printable_form (of f)) rest h), all_numbered of good args (right_of (is_printable_form (of f)) rest h))
layer_is what of good (FormWhat-F.Text bytes) h p = tt
layer_is what of good (FormWhat-F.Base b n) h p = tt

good_forms : (f : Form) → GoodForm f
good_forms = ind-Form GoodWhat GoodForm
    (λ x y is. record {
      by = λ q p. subst (λ (f : Place → Written). HasNumbers (f p)) (sym (fold-roll-FormWhat (Place → Written) Written what_written form_written x))
          (subst Layer is (layer_is (λ e. e.0) (λ e. e.0) (λ e. e.1) y) (sym (fold-roll-FormWhat Bool Bool what_printable form_printable x) ∙ q) p);
    })
    (λ x y is. record {
      by = λ q. subst HasNumbers (sym (fold_out-Form (Place → Written) Written what_written form_written (record { place = x.place; what = x.what })))
          ((subst GoodWhat (ap (λ z. z.what) is) (y.what.1)).by (sym (fold_out-Form Bool Bool what_printable form_printable (record { place = x.place; what = x.what })) ∙ q) x.place);
    })

pub numbered : (f : Form) → is_printable_form f ≡ true → HasNumbers (written_of f)
numbered f = (good_forms f).by

pub perhaps_numbered : (o : Option Form) → maybe is_printable_form o ≡ true → PerhapsHasNumbers (option_map written_of o)
perhaps_numbered None h = tt
perhaps_numbered (Some f) h = numbered f h
