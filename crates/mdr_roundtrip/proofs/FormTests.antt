-- Whether expressions can be printed, form by form.
use Rattle.std.proofs.Common.{◌≡◌, refl, sym, ap, ◌∙◌, ℕ, Bool, true, List, map}
use Rattle.std.specs.Prelude.{◌&&◌}
use Rattle.std.specs.List.{list_all}
use Rattle.mdr_core.specs.declared.kind.Kind.{Kind}
use Rattle.mdr_core.specs.declared.place.Place.{Place}
use Rattle.mdr_syntax.specs.declared.tree.Base.{Base}
use Rattle.mdr_syntax.specs.declared.tree.Form.{Form}
use Rattle.mdr_syntax.specs.declared.tree.FormWhat
use Rattle.mdr_syntax.specs.declared.tree.FormWhat.{FormWhat}
use Rattle.mdr_syntax.specs.declared.tree.FormWhat.TheOpen.{FormWhat-F}
use Rattle.mdr_syntax.specs.declared.tree.FormWhat.TheFolds.{map-FormWhat, fold-roll-FormWhat, fold_out-Form}
use Rattle.mdr_syntax.specs.declared.tree.FormWhat.TheVariants.{rolls-Number, rolls-Null, rolls-Name, rolls-Prefix, rolls-Post, rolls-Cast, rolls-Binary, rolls-Choice, rolls-Subscript, rolls-Member, rolls-Call, rolls-Text, rolls-Base}
use Rattle.mdr_syntax.specs.declared.tree.FormWhat.TheViews.{roll-FormWhat}
use Rattle.mdr_roundtrip.specs.Words.{is_word, is_written, is_writable, is_sign, is_prefix, is_step, is_base}
use Rattle.mdr_roundtrip.specs.Printable.{all, what_printable, form_printable, is_printable_form, is_printable_what}
use Rattle.mdr_grammar.specs.Expressions.{form_at}
use Rattle.mdr_roundtrip.proofs.Bools.{also, all_mapped}

made : (place : Place) (l : FormWhat-F FormWhat Form) (w : FormWhat) → roll-FormWhat l ≡ w → what_printable (map-FormWhat FormWhat Form Bool Bool is_printable_what is_printable_form l) ≡ true → is_printable_form (form_at place w) ≡ true
made place l w e h =
    fold_out-Form Bool Bool what_printable form_printable (record { place = place; what = w }) ∙ ap is_printable_what (sym e)
    ∙ fold-roll-FormWhat Bool Bool what_printable form_printable l ∙ h

pub number_is : (place : Place) (n : ℕ) (k : Kind) → is_written n k ≡ true → is_printable_form (form_at place (FormWhat.Number n k)) ≡ true
number_is place n k h = made place (FormWhat-F.Number n k) (FormWhat.Number n k) (rolls-Number n k) h

pub null_is : (place : Place) → is_printable_form (form_at place FormWhat.Null) ≡ true
null_is place = made place FormWhat-F.Null FormWhat.Null rolls-Null refl

pub name_is : (place : Place) (name : List ℕ) → is_word name ≡ true → is_printable_form (form_at place (FormWhat.Name name)) ≡ true
name_is place name h = made place (FormWhat-F.Name name) (FormWhat.Name name) (rolls-Name name) h

pub prefix_is : (place : Place) (op : List ℕ) (a : Form) → is_prefix op ≡ true → is_printable_form a ≡ true → is_printable_form (form_at place (FormWhat.Prefix op a)) ≡ true
prefix_is place op a o h = made place (FormWhat-F.Prefix op a) (FormWhat.Prefix op a) (rolls-Prefix op a) (also (is_prefix op) (is_printable_form a) o h)

pub post_is : (place : Place) (op : List ℕ) (a : Form) → is_step op ≡ true → is_printable_form a ≡ true → is_printable_form (form_at place (FormWhat.Post op a)) ≡ true
post_is place op a o h = made place (FormWhat-F.Post op a) (FormWhat.Post op a) (rolls-Post op a) (also (is_step op) (is_printable_form a) o h)

pub cast_is : (place : Place) (b : Base) (n : ℕ) (a : Form) → is_base b ≡ true → is_printable_form a ≡ true → is_printable_form (form_at place (FormWhat.Cast b n a)) ≡ true
cast_is place b n a o h = made place (FormWhat-F.Cast b n a) (FormWhat.Cast b n a) (rolls-Cast b n a) (also (is_base b) (is_printable_form a) o h)

pub binary_is : (place : Place) (op : List ℕ) (a b : Form) → is_sign op ≡ true → is_printable_form a ≡ true → is_printable_form b ≡ true → is_printable_form (form_at place (FormWhat.Binary op a b)) ≡ true
binary_is place op a b o h k = made place (FormWhat-F.Binary op a b) (FormWhat.Binary op a b) (rolls-Binary op a b) (also (is_sign op) (is_printable_form a && is_printable_form b) o (also (is_printable_form a) (is_printable_form b) h k))

pub choice_is : (place : Place) (c a b : Form) → is_printable_form c ≡ true → is_printable_form a ≡ true → is_printable_form b ≡ true → is_printable_form (form_at place (FormWhat.Choice c a b)) ≡ true
choice_is place c a b o h k = made place (FormWhat-F.Choice c a b) (FormWhat.Choice c a b) (rolls-Choice c a b) (also (is_printable_form c) (is_printable_form a && is_printable_form b) o (also (is_printable_form a) (is_printable_form b) h k))

pub subscript_is : (place : Place) (a i : Form) → is_printable_form a ≡ true → is_printable_form i ≡ true → is_printable_form (form_at place (FormWhat.Subscript a i)) ≡ true
subscript_is place a i h k = made place (FormWhat-F.Subscript a i) (FormWhat.Subscript a i) (rolls-Subscript a i) (also (is_printable_form a) (is_printable_form i) h k)

pub member_is : (place : Place) (a : Form) (is_arrow : Bool) (at : Place) (name : List ℕ) → is_printable_form a ≡ true → is_word name ≡ true → is_printable_form (form_at place (FormWhat.Member a is_arrow at name)) ≡ true
member_is place a is_arrow at name h k = made place (FormWhat-F.Member a is_arrow at name) (FormWhat.Member a is_arrow at name) (rolls-Member a is_arrow at name) (also (is_printable_form a) (is_word name) h k)

pub call_is : (place : Place) (f : Form) (args : List Form) → is_printable_form f ≡ true → list_all is_printable_form args ≡ true → is_printable_form (form_at place (FormWhat.Call f args)) ≡ true
call_is place f args h k = made place (FormWhat-F.Call f args) (FormWhat.Call f args) (rolls-Call f args) (also (is_printable_form f) (all (map is_printable_form args)) h (all_mapped is_printable_form args k))

pub text_is : (place : Place) (bytes : List ℕ) → list_all is_writable bytes ≡ true → is_printable_form (form_at place (FormWhat.Text bytes)) ≡ true
text_is place bytes h = made place (FormWhat-F.Text bytes) (FormWhat.Text bytes) (rolls-Text bytes) h

pub base_is : (place : Place) (b : Base) (n : ℕ) → is_base b ≡ true → is_printable_form (form_at place (FormWhat.Base b n)) ≡ true
base_is place b n h = made place (FormWhat-F.Base b n) (FormWhat.Base b n) (rolls-Base b n) h
