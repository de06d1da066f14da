-- How many levels expressions have.
use Rattle.std.proofs.Common.{◌≡◌, refl, sym, ap, subst, ◌∙◌, ℕ, suc, max, List, [], ◌∷◌, map}
use Rattle.std.specs.Prelude.{Bool}
use Rattle.mdr_core.specs.declared.kind.Kind.{Kind}
use Rattle.mdr_core.specs.declared.place.Place.{Place}
use Rattle.mdr_syntax.specs.declared.tree.Base.{Base}
use Rattle.mdr_syntax.specs.declared.tree.Form.{Form}
use Rattle.mdr_syntax.specs.declared.tree.FormWhat
use Rattle.mdr_syntax.specs.declared.tree.FormWhat.{FormWhat}
use Rattle.mdr_syntax.specs.declared.tree.FormWhat.TheOpen.{FormWhat-F}
use Rattle.mdr_syntax.specs.declared.tree.FormWhat.TheFolds.{ind-Form, fold-FormWhat, map-FormWhat, fold-roll-FormWhat, fold_out-Form}
use Rattle.mdr_syntax.specs.declared.tree.FormWhat.TheVariants.{rolls-Number, rolls-Null, rolls-Name, rolls-Text, rolls-Base, rolls-Prefix, rolls-Post, rolls-Cast, rolls-Binary, rolls-Choice, rolls-Subscript, rolls-Member, rolls-Call}
use Rattle.mdr_syntax.specs.declared.tree.FormWhat.TheViews.{roll-FormWhat}
use Rattle.mdr_roundtrip.specs.Unplaced.{nowhere, unplaced_base, what_unplaced, form_unplaced, unplaced_form, unplaced_what}
use Rattle.mdr_grammar.specs.Expressions.{highest, height_at, form_height, height, form_at}

what_height : FormWhat → ℕ
what_height = fold-FormWhat ℕ ℕ height_at form_height

made : (place : Place) (l : FormWhat-F FormWhat Form) (w : FormWhat) → roll-FormWhat l ≡ w → height (form_at place w) ≡ height_at (map-FormWhat FormWhat Form ℕ ℕ what_height height l)
unfolding height what_height
made place l w e =
    fold_out-Form ℕ ℕ height_at form_height (record { place = place; what = w }) ∙ ap (fold-FormWhat ℕ ℕ height_at form_height) (sym e)
    ∙ fold-roll-FormWhat ℕ ℕ height_at form_height l

pub number_height : (place : Place) (n : ℕ) (k : Kind) → height (form_at place (FormWhat.Number n k)) ≡ 0
number_height place n k = made place (FormWhat-F.Number n k) (FormWhat.Number n k) (rolls-Number n k)

pub null_height : (place : Place) → height (form_at place FormWhat.Null) ≡ 0
null_height place = made place FormWhat-F.Null FormWhat.Null rolls-Null

pub name_height : (place : Place) (name : List ℕ) → height (form_at place (FormWhat.Name name)) ≡ 0
name_height place name = made place (FormWhat-F.Name name) (FormWhat.Name name) (rolls-Name name)

pub text_height : (place : Place) (bytes : List ℕ) → height (form_at place (FormWhat.Text bytes)) ≡ 0
text_height place bytes = made place (FormWhat-F.Text bytes) (FormWhat.Text bytes) (rolls-Text bytes)

pub base_height : (place : Place) (b : Base) (n : ℕ) → height (form_at place (FormWhat.Base b n)) ≡ 0
base_height place b n = made place (FormWhat-F.Base b n) (FormWhat.Base b n) (rolls-Base b n)

pub prefix_height : (place : Place) (op : List ℕ) (a : Form) → height (form_at place (FormWhat.Prefix op a)) ≡ suc (height a)
prefix_height place op a = made place (FormWhat-F.Prefix op a) (FormWhat.Prefix op a) (rolls-Prefix op a)

pub post_height : (place : Place) (op : List ℕ) (a : Form) → height (form_at place (FormWhat.Post op a)) ≡ suc (height a)
post_height place op a = made place (FormWhat-F.Post op a) (FormWhat.Post op a) (rolls-Post op a)

pub cast_height : (place : Place) (b : Base) (n : ℕ) (a : Form) → height (form_at place (FormWhat.Cast b n a)) ≡ suc (height a)
cast_height place b n a = made place (FormWhat-F.Cast b n a) (FormWhat.Cast b n a) (rolls-Cast b n a)

pub binary_height : (place : Place) (op : List ℕ) (a b : Form) → height (form_at place (FormWhat.Binary op a b)) ≡ suc (max (height a) (height b))
binary_height place op a b = made place (FormWhat-F.Binary op a b) (FormWhat.Binary op a b) (rolls-Binary op a b)

pub choice_height : (place : Place) (c a b : Form) → height (form_at place (FormWhat.Choice c a b)) ≡ suc (max (height c) (max (height a) (height b)))
choice_height place c a b = made place (FormWhat-F.Choice c a b) (FormWhat.Choice c a b) (rolls-Choice c a b)

pub subscript_height : (place : Place) (a i : Form) → height (form_at place (FormWhat.Subscript a i)) ≡ suc (max (height a) (height i))
subscript_height place a i = made place (FormWhat-F.Subscript a i) (FormWhat.Subscript a i) (rolls-Subscript a i)

pub member_height : (place : Place) (a : Form) (is_arrow : Bool) (at : Place) (name : List ℕ) → height (form_at place (FormWhat.Member a is_arrow at name)) ≡ suc (height a)
member_height place a is_arrow at name = made place (FormWhat-F.Member a is_arrow at name) (FormWhat.Member a is_arrow at name) (rolls-Member a is_arrow at name)

pub call_height : (place : Place) (f : Form) (args : List Form) → height (form_at place (FormWhat.Call f args)) ≡ max (suc (height f)) (highest (map height args))
call_height place f args = made place (FormWhat-F.Call f args) (FormWhat.Call f args) (rolls-Call f args)

-- ---- places add no level

abbrev Layer : FormWhat-F FormWhat Form → Type 0
Layer l = height (form_at nowhere (what_unplaced (map-FormWhat FormWhat Form FormWhat Form unplaced_what unplaced_form l))) ≡ height_at (map-FormWhat FormWhat Form ℕ ℕ what_height height l)

record GoodWhat (w : FormWhat) : Type 0 where
  by : height (form_at nowhere (unplaced_what w)) ≡ what_height w

record GoodForm (f : Form) : Type 0 where
  by : height (unplaced_form f) ≡ height f

heights_are : {X : Type 0} (of : X → Form) → ((x : X) → GoodForm (of x)) → (xs : List X) → map height (map unplaced_form (map of xs)) ≡ map height (map of xs)
heights_are of good [] = refl
heights_are of good (x ∷ xs) = ap (λ n. n ∷ map height (map unplaced_form (map of xs))) (good x).by ∙ ap (λ ns. height (of x) ∷ ns) (heights_are of good xs)

layer_is : {X Y : Type 0} (what : X → FormWhat) (of : Y → Form) → ((y : Y) → GoodForm (of y)) → (l : FormWhat-F X Y) → Layer (map-FormWhat X Y FormWhat Form what of l)
layer_is what of good (FormWhat-F.Number n k) = number_height nowhere n k
layer_is what of good FormWhat-F.Null = null_height nowhere
layer_is what of good (FormWhat-F.Name name) = name_height nowhere name
layer_is what of good (FormWhat-F.Prefix op a) = prefix_height nowhere op (unplaced_form (of a)) ∙ ap suc (good a).by
layer_is what of good (FormWhat-F.Post op a) = post_height nowhere op (unplaced_form (of a)) ∙ ap suc (good a).by
layer_is what of good (FormWhat-F.Cast b n a) = cast_height nowhere (unplaced_base b) n (unplaced_form (of a)) ∙ ap suc (good a).by
layer_is what of good (FormWhat-F.Binary op a b) = binary_height nowhere op (unplaced_form (of a)) (unplaced_form (of b)) ∙ ap (λ n. suc (max n (height (unplaced_form (of b))))) (good a).by ∙ ap (λ n. suc (max (height (of a)) n)) (good b).by
layer_is what of good (FormWhat-F.Choice c a b) =
    choice_height nowhere (unplaced_form (of c)) (unplaced_form (of a)) (unplaced_form (of b)) ∙ ap (λ n. suc (max n (max (height (unplaced_form (of a))) (height (unplaced_form (of b)))))) (good c).by
    ∙ ap (λ n. suc (max (height (of c)) (max n (height (unplaced_form (of b)))))) (good a).by ∙ ap (λ n. suc (max (height (of c)) (max (height (of a)) n))) (good b).by
layer_is what of good (FormWhat-F.Subscript a i) = subscript_height nowhere (unplaced_form (of a)) (unplaced_form (of i)) ∙ ap (λ n. suc (max n (height (unplaced_form (of i))))) (good a).by ∙ ap (λ n. suc (max (height (of a)) n)) (good i).by
layer_is what of good (FormWhat-F.Member a is_arrow place name) = member_height nowhere (unplaced_form (of a)) is_arrow nowhere name ∙ ap suc (good a).by
layer_is what of good (FormWhat-F.Call f args) = call_height nowhere (unplaced_form (of f)) (map unplaced_form (map of args)) ∙ ap (λ n. max (suc n) (highest (map height (map unplaced_form (map of args))))) (good f).by ∙ ap (λ ns. max (suc (height (of f))) (highest ns)) (heights_are of good args)
layer_is what of good (FormWhat-F.Text bytes) = text_height nowhere bytes
layer_is what of good (FormWhat-F.Base b n) = base_height nowhere (unplaced_base b) n

form_height_is : (place : Place) (w : FormWhat) → height (form_at place w) ≡ what_height w
unfolding height what_height
form_height_is place w = fold_out-Form ℕ ℕ height_at form_height (record { place = place; what = w })

roll_height : (l : FormWhat-F FormWhat Form) → what_height (roll-FormWhat l) ≡ height_at (map-FormWhat FormWhat Form ℕ ℕ what_height height l)
unfolding height what_height
roll_height l = fold-roll-FormWhat ℕ ℕ height_at form_height l

good_forms : (f : Form) → GoodForm f
good_forms = ind-Form GoodWhat GoodForm
    (λ x y is. record {
      by = ap (λ w. height (form_at nowhere w)) (fold-roll-FormWhat FormWhat Form what_unplaced form_unplaced x) ∙ subst Layer is (layer_is (λ e. e.0) (λ e. e.0) (λ e. e.1) y) ∙ sym (roll_height x);
    })
    (λ x y is. record {
      by = ap height (fold_out-Form FormWhat Form what_unplaced form_unplaced (record { place = x.place; what = x.what })) ∙ (subst GoodWhat (ap (λ z. z.what) is) (y.what.1)).by ∙ sym (form_height_is x.place x.what);
    })

pub unplaced_height : (f : Form) → height (unplaced_form f) ≡ height f
unplaced_height f = (good_forms f).by
