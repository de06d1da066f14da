-- What is printed of an expression doesn't show its places.
use Rattle.std.proofs.Common.{◌≡◌, List, [], ◌∷◌, map, refl, sym, ap, subst, ◌∙◌}
use Rattle.std.specs.Prelude.{◌==◌}
use Rattle.mdr_syntax.specs.declared.tree.Base.{Base}
use Rattle.mdr_syntax.specs.declared.tree.Base.TheVariants as base
use Rattle.mdr_syntax.specs.declared.tree.Form.{Form}
use Rattle.mdr_syntax.specs.declared.tree.FormWhat.{FormWhat}
use Rattle.mdr_syntax.specs.declared.tree.FormWhat.TheOpen.{FormWhat-F}
use Rattle.mdr_syntax.specs.declared.tree.FormWhat.TheFolds.{ind-Form, map-FormWhat, fold-roll-FormWhat, fold_out-Form}
use Rattle.mdr_syntax.specs.declared.tree.FormWhat.TheVariants.{rolls-Number, rolls-Null, rolls-Name, rolls-Text, rolls-Base, rolls-Prefix, rolls-Post, rolls-Cast, rolls-Binary, rolls-Choice, rolls-Subscript, rolls-Member, rolls-Call}
use Rattle.mdr_syntax.specs.declared.tree.FormWhat.TheViews.{roll-FormWhat}
use Rattle.mdr_print.specs.Marks.{in_parentheses, blank_unless, ◌▸◌}
use Rattle.mdr_print.specs.Types.{base_name, stars}
use Rattle.mdr_print.specs.Forms.{Shown, plain, operator, operand, what_shown, form_shown, shown_form, shown_what, form, left_of, left_side}
use Rattle.mdr_roundtrip.specs.Unplaced.{nowhere, unplaced_base, what_unplaced, form_unplaced, unplaced_form, unplaced_what}

-- ---- lists

-- what doesn't show places of a part shows none of a list of such parts
pub all_alike : {T S : Type 0} (f : T → S) (g : T → T) → ((t : T) → f (g t) ≡ f t) → (ts : List T) → map f (map g ts) ≡ map f ts
all_alike f g same [] = refl
all_alike f g same (t ∷ ts) = λ i. same t i ∷ all_alike f g same ts i

pub parts_alike : {X T S : Type 0} (f : T → S) (g : T → T) (of : X → T) → ((x : X) → f (g (of x)) ≡ f (of x)) → (xs : List X) → map f (map g (map of xs)) ≡ map f (map of xs)
parts_alike f g of same [] = refl
parts_alike f g of same (x ∷ xs) = λ i. same x i ∷ parts_alike f g of same xs i

-- ---- types

pub base_alike : (b : Base) → base_name (unplaced_base b) ≡ base_name b
base_alike (base.Int kind) = refl
base_alike (base.Struct place name) = refl
base_alike base.Void = refl
base_alike base.Lock = refl

-- ---- expressions

shown_made : (l : FormWhat-F FormWhat Form) (w : FormWhat) → roll-FormWhat l ≡ w → shown_what w ≡ what_shown (map-FormWhat FormWhat Form Shown Shown shown_what shown_form l)
shown_made l w e = ap shown_what (sym e) ∙ fold-roll-FormWhat Shown Shown what_shown form_shown l

abbrev IsAlike : Form → Type 0
IsAlike f = shown_form (unplaced_form f) ≡ shown_form f

abbrev WhatAlike : FormWhat → Type 0
WhatAlike w = shown_what (unplaced_what w) ≡ shown_what w

abbrev Layer : FormWhat-F FormWhat Form → Type 0
Layer l = shown_what (what_unplaced (map-FormWhat FormWhat Form FormWhat Form unplaced_what unplaced_form l)) ≡ what_shown (map-FormWhat FormWhat Form Shown Shown shown_what shown_form l)

layer_is : {X Y : Type 0} (what : X → FormWhat) (of : Y → Form) → ((y : Y) → IsAlike (of y)) → (l : FormWhat-F X Y) → Layer (map-FormWhat X Y FormWhat Form what of l)
layer_is what of same (FormWhat-F.Number n kind) = shown_made (FormWhat-F.Number n kind) _ (rolls-Number n kind)
layer_is what of same FormWhat-F.Null = shown_made FormWhat-F.Null _ rolls-Null
layer_is what of same (FormWhat-F.Name name) = shown_made (FormWhat-F.Name name) _ (rolls-Name name)
layer_is what of same (FormWhat-F.Prefix op a) =
    shown_made (FormWhat-F.Prefix op (unplaced_form (of a))) _ (rolls-Prefix op (unplaced_form (of a)))
    ∙ (λ i. what_shown (FormWhat-F.Prefix op (same a i)))
layer_is what of same (FormWhat-F.Post op a) =
    shown_made (FormWhat-F.Post op (unplaced_form (of a))) _ (rolls-Post op (unplaced_form (of a)))
    ∙ (λ i. what_shown (FormWhat-F.Post op (same a i)))
layer_is what of same (FormWhat-F.Cast b n a) =
    shown_made (FormWhat-F.Cast (unplaced_base b) n (unplaced_form (of a))) _ (rolls-Cast (unplaced_base b) n (unplaced_form (of a)))
    ∙ (λ i. operator (in_parentheses (base_alike b i ▸ blank_unless (n == 0) ▸ stars n) ▸ operand (same a i)))
layer_is what of same (FormWhat-F.Binary op a b) =
    shown_made (FormWhat-F.Binary op (unplaced_form (of a)) (unplaced_form (of b))) _ (rolls-Binary op (unplaced_form (of a)) (unplaced_form (of b)))
    ∙ (λ i. what_shown (FormWhat-F.Binary op (same a i) (same b i)))
layer_is what of same (FormWhat-F.Choice c a b) =
    shown_made (FormWhat-F.Choice (unplaced_form (of c)) (unplaced_form (of a)) (unplaced_form (of b))) _ (rolls-Choice (unplaced_form (of c)) (unplaced_form (of a)) (unplaced_form (of b)))
    ∙ (λ i. what_shown (FormWhat-F.Choice (same c i) (same a i) (same b i)))
layer_is what of same (FormWhat-F.Subscript a b) =
    shown_made (FormWhat-F.Subscript (unplaced_form (of a)) (unplaced_form (of b))) _ (rolls-Subscript (unplaced_form (of a)) (unplaced_form (of b)))
    ∙ (λ i. what_shown (FormWhat-F.Subscript (same a i) (same b i)))
layer_is what of same (FormWhat-F.Member a is_arrow place name) =
    shown_made (FormWhat-F.Member (unplaced_form (of a)) is_arrow nowhere name) _ (rolls-Member (unplaced_form (of a)) is_arrow nowhere name)
    ∙ (λ i. what_shown (FormWhat-F.Member (same a i) is_arrow nowhere name))
layer_is what of same (FormWhat-F.Call f args) =
    shown_made (FormWhat-F.Call (unplaced_form (of f)) (map unplaced_form (map of args))) _ (rolls-Call (unplaced_form (of f)) (map unplaced_form (map of args)))
    ∙ (λ i. what_shown (FormWhat-F.Call (same f i) (parts_alike shown_form unplaced_form of same args i)))
layer_is what of same (FormWhat-F.Text bytes) = shown_made (FormWhat-F.Text bytes) _ (rolls-Text bytes)
layer_is what of same (FormWhat-F.Base b n) =
    shown_made (FormWhat-F.Base (unplaced_base b) n) _ (rolls-Base (unplaced_base b) n)
    ∙ (λ i. plain (base_alike b i ▸ blank_unless (n == 0) ▸ stars n))

pub shown_alike : (f : Form) → IsAlike f
shown_alike = ind-Form WhatAlike IsAlike
    (λ x y is.
    ap shown_what (fold-roll-FormWhat FormWhat Form what_unplaced form_unplaced x)
    ∙ subst Layer is (layer_is (λ e. e.0) (λ e. e.0) (λ e. e.1) y)
    ∙ sym (fold-roll-FormWhat Shown Shown what_shown form_shown x))
    (λ x y is.
    ap shown_form (fold_out-Form FormWhat Form what_unplaced form_unplaced (record { place = x.place; what = x.what }))
    ∙ fold_out-Form Shown Shown what_shown form_shown (record { place = nowhere; what = unplaced_what x.what })
    ∙ subst WhatAlike (ap (λ z. z.what) is) (y.what.1)
    ∙ sym (fold_out-Form Shown Shown what_shown form_shown (record { place = x.place; what = x.what })))

pub form_alike : (f : Form) → form (unplaced_form f) ≡ form f
form_alike f = ap (λ (s : Shown). s.marks) (shown_alike f)

pub left_alike : (f : Form) → left_side (unplaced_form f) ≡ left_side f
left_alike f = ap left_of (shown_alike f)
