-- What is printed of a declaration or an initialiser doesn't show its places.
use Rattle.std.proofs.Common.{◌≡◌, ℕ, Bool, Option, Some, None, List, map, refl, sym, ap, subst, ◌∙◌}
use Rattle.std.specs.Prelude.{◌&&◌, is_none}
use Rattle.std.specs.Option.{option_map}
use Rattle.mdr_syntax.specs.declared.tree.AnnText.{AnnText}
use Rattle.mdr_syntax.specs.declared.tree.AnnText.TheVariants as ann
use Rattle.mdr_syntax.specs.declared.tree.Base.{Base}
use Rattle.mdr_syntax.specs.declared.tree.Base.TheVariants as base
use Rattle.mdr_syntax.specs.declared.tree.Const.{Const}
use Rattle.mdr_syntax.specs.declared.tree.Const.TheVariants as const
use Rattle.mdr_syntax.specs.declared.tree.Decl.{Decl}
use Rattle.mdr_syntax.specs.declared.tree.Decl.TheOpen.{Decl-F}
use Rattle.mdr_syntax.specs.declared.tree.Decl.TheFolds.{ind-Decl, map-Decl, fold-roll-Decl}
use Rattle.mdr_syntax.specs.declared.tree.Elem.{Elem}
use Rattle.mdr_syntax.specs.declared.tree.FieldName.{FieldName}
use Rattle.mdr_syntax.specs.declared.tree.Init.{Init}
use Rattle.mdr_syntax.specs.declared.tree.Init.TheOpen.{Init-F}
use Rattle.mdr_syntax.specs.declared.tree.Init.TheFolds.{ind-Init, map-Init, fold-roll-Init, fold_out-Elem}
use Rattle.mdr_syntax.specs.declared.tree.Init.TheViews.{roll-Init}
use Rattle.mdr_syntax.specs.declared.tree.Init.TheVariants.{rolls-Const, rolls-Null, rolls-Address, rolls-Text, rolls-List}
use Rattle.mdr_print.specs.Marks.{Marks, blank_unless, in_braces, comma_list, ◌▸◌}
use Rattle.mdr_print.specs.Types.{stars}
use Rattle.mdr_print.specs.Declarations.{Declared, constant, annotated, named, sized, core, is_bare, is_void_base, decl_shown, shown_decl, declaration, declarator, designator, init_shown, elem_shown, init, elem}
use Rattle.mdr_roundtrip.specs.Unplaced.{nowhere, unplaced_base}
use Rattle.mdr_roundtrip.specs.Initialised.{unplaced_const, unplaced_field, init_unplaced, elem_unplaced, unplaced_init, unplaced_elem}
use Rattle.mdr_roundtrip.specs.Declarations.{unplaced_annotation, decl_unplaced, unplaced_decl}
use Rattle.mdr_roundtrip.proofs.RereadDecls.{mapped, twice}
use Rattle.mdr_roundtrip.proofs.PrintedForms.{parts_alike, base_alike}

-- ---- constants, sizes and annotations

pub constant_alike : (c : Const) → constant (unplaced_const c) ≡ constant c
constant_alike (const.Number place is_negative n kind) = refl
constant_alike (const.Name place name) = refl

void_alike : (b : Base) → is_void_base (unplaced_base b) ≡ is_void_base b
void_alike (base.Int kind) = refl
void_alike (base.Struct place name) = refl
void_alike base.Void = refl
void_alike base.Lock = refl

sized_alike : (o : Option Const) → sized (option_map unplaced_const o) ≡ sized o
sized_alike None = refl
sized_alike (Some (const.Number place is_negative n kind)) = refl
sized_alike (Some (const.Name place name)) = refl

pub annotated_alike : (o : Option AnnText) → annotated (option_map unplaced_annotation o) ≡ annotated o
annotated_alike None = refl
annotated_alike (Some (ann.Array (const.Number place is_negative n kind))) = refl
annotated_alike (Some (ann.Array (const.Name place name))) = refl
annotated_alike (Some (ann.Sentinel place name)) = refl
annotated_alike (Some ann.NullTerm) = refl
annotated_alike (Some ann.Opaque) = refl

none_alike : {X : Type 0} (f : X → X) (o : Option X) → is_none (option_map f o) ≡ is_none o
none_alike f None = refl
none_alike f (Some x) = refl

-- ---- declarations

-- what is shown of a declaration, by what is shown of its parts
abbrev declared_by : (base : Marks) (is_void : Bool) (k : ℕ) (name : Option (List ℕ)) (size : Marks) (is_no_array : Bool) (fun : Option (List Declared)) (annotation : Marks) (has_none : Bool) → Declared
declared_by base is_void k name size is_no_array fun annotation has_none = record {
  alone = stars k ▸ core (named name ▸ size) fun ▸ annotation;
  whole = base ▸ blank_unless (is_bare k name fun) ▸ stars k ▸ core (named name ▸ size) fun ▸ annotation;
  is_void = is_void && (is_bare k name fun && (is_no_array && has_none));
}

abbrev IsAlike : Decl → Type 0
IsAlike d = shown_decl (unplaced_decl d) ≡ shown_decl d

-- parameters
params_alike : {X : Type 0} (of : X → Decl) → ((x : X) → IsAlike (of x)) → (o : Option (List X)) → option_map (map shown_decl) (option_map (map unplaced_decl) (option_map (map of) o)) ≡ option_map (map shown_decl) (option_map (map of) o)
params_alike of same None = refl
params_alike of same (Some xs) = ap (λ (ds : List Declared). Some ds) (parts_alike shown_decl unplaced_decl of same xs)

-- the layer without places
abbrev unplaced_layer : Decl-F Decl → Decl-F Decl
unplaced_layer d = record { place = nowhere; name = d.name; base = unplaced_base d.base; stars = d.stars; size = option_map unplaced_const d.size; fun = d.fun; ann = option_map unplaced_annotation d.ann }

abbrev shown_layer : Decl-F Decl → Decl-F Declared
shown_layer = map-Decl Decl Declared shown_decl

abbrev placeless : Decl-F Decl → Decl-F Decl
placeless l = unplaced_layer (map-Decl Decl Decl unplaced_decl l)

fun_alike : {X : Type 0} (of : X → Decl) → ((x : X) → IsAlike (of x)) → (l : Decl-F X) → (shown_layer (placeless (map-Decl X Decl of l))).fun ≡ (shown_layer (map-Decl X Decl of l)).fun
fun_alike of same l =
    mapped shown_decl (placeless (map-Decl _ Decl of l)) (placeless (map-Decl _ Decl of l)).fun refl
    ∙ ap (option_map (map shown_decl)) (twice of unplaced_decl l)
    ∙ params_alike of same l.fun
    ∙ sym (twice of shown_decl l)

abbrev Layer : Decl-F Decl → Type 0
Layer l = decl_shown (shown_layer (placeless l)) ≡ decl_shown (shown_layer l)

layer_is : {X : Type 0} (of : X → Decl) → ((x : X) → IsAlike (of x)) → (l : Decl-F X) → Layer (map-Decl X Decl of l)
layer_is of same l = λ i. declared_by (base_alike l.base i) (void_alike l.base i) l.stars l.name (sized_alike l.size i) (none_alike unplaced_const l.size i) (fun_alike of same l i) (annotated_alike l.ann i) (none_alike unplaced_annotation l.ann i)

pub decl_alike : (d : Decl) → IsAlike d
decl_alike = ind-Decl IsAlike (λ x y is.
    ap shown_decl (fold-roll-Decl Decl decl_unplaced x)
    ∙ fold-roll-Decl Declared decl_shown (placeless x)
    ∙ subst Layer is (layer_is (λ e. e.0) (λ e. e.1) y)
    ∙ sym (fold-roll-Decl Declared decl_shown x))

pub declaration_alike : (d : Decl) → declaration (unplaced_decl d) ≡ declaration d
declaration_alike d = ap (λ (x : Declared). x.whole) (decl_alike d)

pub declarator_alike : (d : Decl) → declarator (unplaced_decl d) ≡ declarator d
declarator_alike d = ap (λ (x : Declared). x.alone) (decl_alike d)

-- ---- initialisers

init_made : (l : Init-F Init Elem) (w : Init) → roll-Init l ≡ w → init w ≡ init_shown (map-Init Init Elem Marks Marks init elem l)
init_made l w e = ap init (sym e) ∙ fold-roll-Init Marks Marks init_shown elem_shown l

abbrev InitAlike : Init → Type 0
InitAlike x = init (unplaced_init x) ≡ init x

abbrev ElemAlike : Elem → Type 0
ElemAlike x = elem (unplaced_elem x) ≡ elem x

abbrev InitLayer : Init-F Init Elem → Type 0
InitLayer l = init (init_unplaced (map-Init Init Elem Init Elem unplaced_init unplaced_elem l)) ≡ init_shown (map-Init Init Elem Marks Marks init elem l)

init_layer_is : {X Y : Type 0} (what : X → Init) (of : Y → Elem) → ((y : Y) → ElemAlike (of y)) → (l : Init-F X Y) → InitLayer (map-Init X Y Init Elem what of l)
init_layer_is what of same (Init-F.Const c) = init_made (Init-F.Const (unplaced_const c)) _ (rolls-Const (unplaced_const c)) ∙ constant_alike c
init_layer_is what of same (Init-F.Null place) = init_made (Init-F.Null nowhere) _ (rolls-Null nowhere)
init_layer_is what of same (Init-F.Address place name) = init_made (Init-F.Address nowhere name) _ (rolls-Address nowhere name)
init_layer_is what of same (Init-F.Text place bytes) = init_made (Init-F.Text nowhere bytes) _ (rolls-Text nowhere bytes)
init_layer_is what of same (Init-F.List place es) =
    init_made (Init-F.List nowhere (map unplaced_elem (map of es))) _ (rolls-List nowhere (map unplaced_elem (map of es)))
    ∙ ap (λ (ms : List Marks). in_braces (comma_list ms)) (parts_alike elem unplaced_elem of same es)

designator_alike : (o : Option FieldName) → designator (unplaced_field o) ≡ designator o
designator_alike None = refl
designator_alike (Some f) = refl

pub init_alike : (x : Init) → InitAlike x
init_alike = ind-Init InitAlike ElemAlike
    (λ x y is.
    ap init (fold-roll-Init Init Elem init_unplaced elem_unplaced x)
    ∙ subst InitLayer is (init_layer_is (λ e. e.0) (λ e. e.0) (λ e. e.1) y)
    ∙ sym (fold-roll-Init Marks Marks init_shown elem_shown x))
    (λ x y is.
    let same : InitAlike x.init = subst InitAlike (ap (λ z. z.init) is) (y.init.1) in
    ap elem (fold_out-Elem Init Elem init_unplaced elem_unplaced (record { field = x.field; init = x.init }))
    ∙ fold_out-Elem Marks Marks init_shown elem_shown (record { field = unplaced_field x.field; init = unplaced_init x.init })
    ∙ (λ i. designator_alike x.field i ▸ same i)
    ∙ sym (fold_out-Elem Marks Marks init_shown elem_shown (record { field = x.field; init = x.init })))
