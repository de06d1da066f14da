-- Whether declarations and initialisers can be printed.
use Rattle.std.proofs.Common.{◌≡◌, refl, sym, ap, ◌∙◌, ℕ, Bool, true, false, List, Option, Some, None, map}
use Rattle.std.specs.Prelude.{◌&&◌}
use Rattle.std.specs.List.{list_all}
use Rattle.std.specs.Option.{option_map}
use Rattle.std.proofs.lemmas.Bool.{false≢true}
use Rattle.mdr_core.specs.declared.place.Place.{Place}
use Rattle.mdr_syntax.specs.declared.token.Token.{Token}
use Rattle.mdr_syntax.specs.declared.tree.AnnText.{AnnText}
use Rattle.mdr_syntax.specs.declared.tree.Const.{Const}
use Rattle.mdr_syntax.specs.declared.tree.Decl.{Decl}
use Rattle.mdr_syntax.specs.declared.tree.Decl.TheOpen.{Decl-F}
use Rattle.mdr_syntax.specs.declared.tree.Decl.TheFolds.{map-Decl, fold-roll-Decl, fold_out-Decl}
use Rattle.mdr_syntax.specs.declared.tree.Decl.TheViews.{roll-Decl, out-Decl}
use Rattle.mdr_syntax.specs.declared.tree.Elem.{Elem}
use Rattle.mdr_syntax.specs.declared.tree.FieldName.{FieldName}
use Rattle.mdr_syntax.specs.declared.tree.Init
use Rattle.mdr_syntax.specs.declared.tree.Init.{Init}
use Rattle.mdr_syntax.specs.declared.tree.Init.TheOpen.{Init-F}
use Rattle.mdr_syntax.specs.declared.tree.Init.TheFolds.{map-Init, fold-roll-Init, fold_out-Elem}
use Rattle.mdr_syntax.specs.declared.tree.Init.TheVariants.{rolls-Const, rolls-Null, rolls-Address, rolls-Text, rolls-List}
use Rattle.mdr_syntax.specs.declared.tree.Init.TheViews.{roll-Init}
use Rattle.mdr_roundtrip.specs.Words.{is_word, is_writable, is_base}
use Rattle.mdr_roundtrip.specs.Printable.{all}
use Rattle.mdr_roundtrip.specs.PrintableDeclarations.{maybe, is_constant, is_annotation, decl_printable, is_printable_decl, is_field, init_printable, elem_printable, is_printable_init, is_printable_elem}
use Rattle.mdr_grammar.specs.declared.parts.Specifier.{Specifier}
use Rattle.mdr_grammar.specs.Expressions.{text_of}
use Rattle.mdr_grammar.specs.Declarations.{declared, unnamed, perhaps_named, with_annotation}
use Rattle.mdr_roundtrip.proofs.Bools.{also, all_mapped, maybe_mapped}

-- ---- declarations

mapped : (x : Decl-F Decl) (o : Option (List Decl)) → x.fun ≡ o → (map-Decl Decl Bool is_printable_decl x).fun ≡ option_map (map is_printable_decl) x.fun
mapped x None e = rw e refl
mapped x (Some ds) e = rw e refl

parts_are : (a b c d e : Bool) → a ≡ true → b ≡ true → c ≡ true → d ≡ true → e ≡ true → (a && (b && (c && (d && e)))) ≡ true
parts_are a b c d e p q r s t = also a (b && (c && (d && e))) p (also b (c && (d && e)) q (also c (d && e) r (also d e s t)))

pub decl_is : (x : Decl-F Decl) → is_base x.base ≡ true → maybe is_word x.name ≡ true → maybe is_constant x.size ≡ true → maybe (λ ds. list_all is_printable_decl ds) x.fun ≡ true → maybe is_annotation x.ann ≡ true → is_printable_decl (roll-Decl x) ≡ true
decl_is x b n z f a =
    fold-roll-Decl Bool decl_printable x
    ∙ parts_are (is_base x.base) (maybe is_word x.name) (maybe is_constant x.size) (maybe all (map-Decl Decl Bool is_printable_decl x).fun) (maybe is_annotation x.ann) b n z
    (ap (maybe all) (mapped x x.fun refl) ∙ maybe_mapped is_printable_decl x.fun f) a

pub declared_is : (b : Specifier) (k : ℕ) (n : Token) (size : Option Const) (fun : Option (List Decl)) → is_base b.base ≡ true → is_word (text_of n.what) ≡ true → maybe is_constant size ≡ true → maybe (λ ds. list_all is_printable_decl ds) fun ≡ true → is_printable_decl (declared b k n size fun) ≡ true
declared_is b k n size fun h w z f = decl_is (record { place = n.place; name = Some (text_of n.what); base = b.base; stars = k; size = size; fun = fun; ann = None }) h w z f refl

pub unnamed_is : (b : Specifier) (k : ℕ) (fun : Option (List Decl)) → is_base b.base ≡ true → maybe (λ ds. list_all is_printable_decl ds) fun ≡ true → is_printable_decl (unnamed b k fun) ≡ true
unnamed_is b k fun h f = decl_is (record { place = b.place; name = None; base = b.base; stars = k; size = None; fun = fun; ann = None }) h refl refl f refl

pub perhaps_is : (b : Specifier) (k : ℕ) (n : Option Token) (fun : Option (List Decl)) → is_base b.base ≡ true → maybe (λ t. is_word (text_of t.what)) n ≡ true → maybe (λ ds. list_all is_printable_decl ds) fun ≡ true → is_printable_decl (perhaps_named b k n fun) ≡ true
perhaps_is b k (Some n) fun h w f = declared_is b k n None fun h w refl f
perhaps_is b k None fun h w f = unnamed_is b k fun h f

last_changed : (a b c d e e' : Bool) → (a && (b && (c && (d && e)))) ≡ true → e' ≡ true → (a && (b && (c && (d && e')))) ≡ true
last_changed true true true true e e' h k = k
last_changed true true true false e e' h k = absurd (false≢true h)
last_changed true true false d e e' h k = absurd (false≢true h)
last_changed true false c d e e' h k = absurd (false≢true h)
last_changed false b c d e e' h k = absurd (false≢true h)

pub annotated_is : (x : Decl) (a : Option AnnText) → is_printable_decl x ≡ true → maybe is_annotation a ≡ true → is_printable_decl (with_annotation x a) ≡ true
annotated_is x a h k =
    let l : Decl-F Decl = out-Decl x in
    fold-roll-Decl Bool decl_printable (record l { ann = a })
    ∙ last_changed (is_base l.base) (maybe is_word l.name) (maybe is_constant l.size) (maybe all (map-Decl Decl Bool is_printable_decl l).fun) (maybe is_annotation l.ann) (maybe is_annotation a) (sym (fold_out-Decl Bool decl_printable x) ∙ h) k

-- ---- initialisers

made : (l : Init-F Init Elem) (i : Init) → roll-Init l ≡ i → init_printable (map-Init Init Elem Bool Bool is_printable_init is_printable_elem l) ≡ true → is_printable_init i ≡ true
made l i e h = ap is_printable_init (sym e) ∙ fold-roll-Init Bool Bool init_printable elem_printable l ∙ h

pub constant_is : (c : Const) → is_constant c ≡ true → is_printable_init (Init.Const c) ≡ true
constant_is c h = made (Init-F.Const c) (Init.Const c) (rolls-Const c) h

pub null_is : (place : Place) → is_printable_init (Init.Null place) ≡ true
null_is place = made (Init-F.Null place) (Init.Null place) (rolls-Null place) refl

pub address_is : (place : Place) (name : List ℕ) → is_word name ≡ true → is_printable_init (Init.Address place name) ≡ true
address_is place name h = made (Init-F.Address place name) (Init.Address place name) (rolls-Address place name) h

pub text_is : (place : Place) (bytes : List ℕ) → list_all is_writable bytes ≡ true → is_printable_init (Init.Text place bytes) ≡ true
text_is place bytes h = made (Init-F.Text place bytes) (Init.Text place bytes) (rolls-Text place bytes) h

pub list_is : (place : Place) (es : List Elem) → list_all is_printable_elem es ≡ true → is_printable_init (Init.List place es) ≡ true
list_is place es h = made (Init-F.List place es) (Init.List place es) (rolls-List place es) (all_mapped is_printable_elem es h)

pub elem_is : (field : Option FieldName) (i : Init) → maybe is_field field ≡ true → is_printable_init i ≡ true → is_printable_elem (record { field = field; init = i }) ≡ true
elem_is field i f h = fold_out-Elem Bool Bool init_printable elem_printable (record { field = field; init = i }) ∙ also (maybe is_field field) (is_printable_init i) f h
