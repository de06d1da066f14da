-- Items that are read can be printed.
use Rattle.std.proofs.Common.{◌≡◌, refl, ℕ, Bool, true, false, List, [], ◌∷◌, Option, Some, None, map}
use Rattle.std.specs.Prelude.{◌&&◌}
use Rattle.std.specs.List.{list_all}
use Rattle.mdr_core.specs.declared.place.Place.{Place}
use Rattle.mdr_syntax.specs.declared.token.Token.{Token}
use Rattle.mdr_syntax.specs.declared.tree.AnnText.{AnnText}
use Rattle.mdr_syntax.specs.declared.tree.Decl.{Decl}
use Rattle.mdr_syntax.specs.declared.tree.Decl.TheViews.{roll-Decl}
use Rattle.mdr_syntax.specs.declared.tree.Head.{Head}
use Rattle.mdr_syntax.specs.declared.tree.Init.{Init}
use Rattle.mdr_syntax.specs.declared.tree.Item.{Item}
use Rattle.mdr_syntax.specs.declared.tree.ItemWhat.{ItemWhat}
use Rattle.mdr_syntax.specs.declared.tree.ItemWhat.TheVariants as item_is
use Rattle.mdr_roundtrip.specs.Words.{is_word, is_base}
use Rattle.mdr_roundtrip.specs.Printable.{all}
use Rattle.mdr_roundtrip.specs.PrintableDeclarations.{maybe, is_annotation, is_printable_decl, is_printable_init}
use Rattle.mdr_roundtrip.specs.PrintableStatements.{is_printable_node}
use Rattle.mdr_roundtrip.specs.Whole.{is_printable_head, is_printable_enumerator, is_printable_item, is_printable_line}
use Rattle.mdr_grammar.specs.declared.parts.Specifier.{Specifier}
use Rattle.mdr_grammar.specs.declared.sort.Sort.{Sort}
use Rattle.mdr_grammar.specs.Forms.{form}
use Rattle.mdr_grammar.specs.Forms.Nonterminal.{outer}
use Rattle.mdr_grammar.specs.Expressions.{text_of, number_in, kind_in, base_rule}
use Rattle.mdr_grammar.specs.Declarations.{declarator_rule, with_annotation}
use Rattle.mdr_grammar.specs.Statements.{joined, item_at, global_with, global_rule, more_globals, globals_with, head_of, function_with, function_end_rule, function_rule, named_global, outer_rule, remote_rule, critical_rule, typed_item, qualified_rule, fields_rule, struct_or_outer, is_negative, item_rule}
use Rattle.mdr_roundtrip.proofs.Bools.{also, all_one, all_flat, all_mapped}
use Rattle.mdr_roundtrip.proofs.Judged.{meets, all_decls, all_lines, Sound, SoundRule}
use Rattle.mdr_roundtrip.proofs.Steps.{sound_and}
use Rattle.mdr_roundtrip.proofs.DeclTests.{decl_is, annotated_is}
use Rattle.mdr_roundtrip.proofs.SoundForms.{is_good_specifier, sound_base}
use Rattle.mdr_roundtrip.proofs.SoundDeclarations.{sound_declarator}

one_line : (place : Place) (what : ItemWhat) → is_printable_item what ≡ true → all_lines (item_at place what) ≡ true
one_line place what h = all_one is_printable_line (record { place = place; what = what }) h

-- ---- globals

global_is : (x : Decl) (i : Option Init) → is_printable_decl x ≡ true → maybe is_printable_init i ≡ true → is_printable_item (item_is.Global x i) ≡ true
global_is x i h k = also (is_printable_decl x) (maybe is_printable_init i) h k

pub sound_global : (first : Place) (b : Specifier) (s : Sort) (t : Token) → is_base b.base ≡ true → meets s t.what ≡ true → SoundRule (global_rule first b s t) is_printable_line
sound_global first b s t g m = sound_and (declarator_rule 0 b 0 s t) (λ x. global_with first x) is_printable_decl is_printable_line (sound_declarator 0 b 0 s t g m) (λ x hx. (refl, λ a ha. (refl, λ i hi. global_is (with_annotation x a) i (annotated_is x a hx ha) hi)))

sound_more : (first : Place) (b : Specifier) (g : Item) → is_base b.base ≡ true → is_printable_line g ≡ true → Sound (more_globals first b g) all_lines
sound_more first b g h k = (also (is_base b.base) (list_all is_printable_line (g ∷ [])) h (all_one is_printable_line g k), λ gs hgs. λ e q. hgs)

sound_globals : (first : Place) (b : Specifier) (x : Decl) → is_base b.base ≡ true → is_printable_decl x ≡ true → Sound (globals_with first b x) all_lines
sound_globals first b x h k = (refl, λ a ha. (refl, λ i hi. sound_more first b (record { place = first; what = item_is.Global (with_annotation x a) i }) h (global_is (with_annotation x a) i (annotated_is x a k ha) hi)))

sound_named : (first : Place) (b : Specifier) (k : ℕ) (n : Token) (o : Option (List Item)) → is_base b.base ≡ true → is_word (text_of n.what) ≡ true → maybe all_lines o ≡ true → Sound (named_global first b k n o) all_lines
sound_named first b k n (Some is) h w g = g
sound_named first b k n None h w g = (
  refl,
  λ z hz. (
    refl,
    λ a ha. (
      refl,
      λ i hi.
          let x : Decl = roll-Decl (record { place = n.place; name = Some (text_of n.what); base = b.base; stars = k; size = z; fun = None; ann = a }) in
          sound_more first b (record { place = first; what = item_is.Global x i }) h (global_is x i (decl_is (record { place = n.place; name = Some (text_of n.what); base = b.base; stars = k; size = z; fun = None; ann = a }) h w hz refl ha) hi),
    ),
  ),
)

-- ---- functions

head_is : (b : Specifier) (k : ℕ) (n : Token) (ps : List Decl) (a : Option AnnText) → is_base b.base ≡ true → is_word (text_of n.what) ≡ true → all_decls ps ≡ true → maybe is_annotation a ≡ true → is_printable_head (head_of b k n ps a) ≡ true
head_is b k n ps a h w p q =
    also (is_base b.base) (is_word (text_of n.what) && (all_decls ps && maybe is_annotation a)) h
    (also (is_word (text_of n.what)) (all_decls ps && maybe is_annotation a) w (also (all_decls ps) (maybe is_annotation a) p q))

sound_function_with : (first : Place) (h : Head) (is_critical : Bool) → is_printable_head h ≡ true → Sound (function_with first h is_critical) all_lines
sound_function_with first h is_critical g = (refl, λ ns hn. λ e q. one_line first (item_is.Func h is_critical (joined ns)) (also (is_printable_head h) (all (map is_printable_node (joined ns))) g (all_mapped is_printable_node (joined ns) (all_flat is_printable_node ns hn))))

pub sound_function_end : (first : Place) (h : Head) (s : Sort) (t : Token) → is_printable_head h ≡ true → SoundRule (function_end_rule first h s t) all_lines
sound_function_end first h Sort.Semicolon t g = one_line first (item_is.Proto h false) g
sound_function_end first h Sort.OpenBrace t g = sound_function_with first h false g
sound_function_end first h _ t g = tt

pub sound_function : (first : Place) (b : Specifier) (k : ℕ) (n : Token) (s : Sort) (t : Token) → is_base b.base ≡ true → is_word (text_of n.what) ≡ true → SoundRule (function_rule first b k n s t) (maybe all_lines)
sound_function first b k n Sort.Open t h w = (refl, λ ps hp. λ c q. (refl, λ a ha. (head_is b k n ps a h w hp ha, λ is hi. hi)))
sound_function first b k n _ t h w = tt

pub sound_outer : (first : Place) (b : Specifier) (k : ℕ) (s : Sort) (t : Token) → is_base b.base ≡ true → meets s t.what ≡ true → SoundRule (outer_rule first b k s t) all_lines
sound_outer first b k Sort.Star t h m = (h, λ v g. g)
sound_outer first b k Sort.Name t h m = (also (is_base b.base) (is_word (text_of t.what)) h m, λ o ho. sound_named first b k t o h m ho)
sound_outer first b k s t h m = sound_and (declarator_rule 0 b k s t) (λ x. globals_with first b x) is_printable_decl all_lines (sound_declarator 0 b k s t h m) (λ x hx. sound_globals first b x h hx)

pub sound_remote : (first : Place) (b : Specifier) (k : ℕ) (s : Sort) (t : Token) → is_base b.base ≡ true → meets s t.what ≡ true → SoundRule (remote_rule first b k s t) all_lines
sound_remote first b k Sort.Star t h m = (h, λ v g. g)
sound_remote first b k Sort.Name t h m = λ o q. (refl, λ ps hp. λ c r. (refl, λ a ha. λ e r'. one_line first (item_is.Proto (head_of b k t ps a) true) (head_is b k t ps a h m hp ha)))
sound_remote first b k _ t h m = tt

pub sound_critical : (first : Place) (b : Specifier) (k : ℕ) (s : Sort) (t : Token) → is_base b.base ≡ true → meets s t.what ≡ true → SoundRule (critical_rule first b k s t) all_lines
sound_critical first b k Sort.Star t h m = (h, λ v g. g)
sound_critical first b k Sort.Name t h m = λ o q. (refl, λ ps hp. λ c r. (refl, λ a ha. λ e r'. sound_function_with first (head_of b k t ps a) true (head_is b k t ps a h m hp ha)))
sound_critical first b k _ t h m = tt

sound_typed : (first : Place) (s : Sort) (t : Token) → SoundRule (typed_item first s t) all_lines
sound_typed first s t = sound_and (base_rule s t) (λ b. form (outer first b 0)) is_good_specifier all_lines (sound_base s t) (λ b hb. (hb, λ v h. h))

pub sound_qualified : (first : Place) (s : Sort) (t : Token) → SoundRule (qualified_rule first s t) all_lines
sound_qualified first Sort.Qualifier t = (refl, λ v h. h)
sound_qualified first Sort.Remote t = (refl, λ b hb. (hb, λ v h. h))
sound_qualified first Sort.Critical t = (refl, λ b hb. (hb, λ v h. h))
sound_qualified first s t = sound_typed first s t

pub sound_fields : (first : Place) (n : Token) (s : Sort) (t : Token) → is_word (text_of n.what) ≡ true → SoundRule (fields_rule first n s t) (maybe all_lines)
sound_fields first n Sort.OpenBrace t w = (refl, λ gs hg. λ c q. λ e r. one_line first (item_is.Struct n.place (text_of n.what) (joined gs)) (also (is_word (text_of n.what)) (list_all is_printable_decl (joined gs)) w (all_flat is_printable_decl gs hg)))
sound_fields first n _ t w = tt

sound_struct : (t n : Token) (o : Option (List Item)) → is_word (text_of n.what) ≡ true → maybe all_lines o ≡ true → Sound (struct_or_outer t n o) all_lines
sound_struct t n (Some is) w h = h
sound_struct t n None w h = (w, λ v g. g)

pub sound_item : (s : Sort) (t : Token) → meets s t.what ≡ true → SoundRule (item_rule s t) all_lines
sound_item Sort.Define t m = one_line t.place (item_is.Define (text_of t.what) (is_negative t.what) (number_in t.what) (kind_in t.what)) m
sound_item Sort.Enum t m = λ o q. (refl, λ e he. (all_one is_printable_enumerator e he, λ es hes. λ c r. λ f r'. one_line t.place (item_is.Enum es) hes))
sound_item Sort.Struct t m = λ n hn. (hn, λ o ho. sound_struct t n o hn ho)
sound_item s t m = sound_qualified t.place s t
