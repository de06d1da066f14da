-- Printable initialisers are apart.
use Rattle.std.proofs.Common.{◌≡◌, Bool, true, Option, Some, None, List, [], ◌∷◌, ◌++◌, map, refl, sym, ap, subst, ◌∙◌, codes}
use Rattle.std.specs.List.{AllByRecursion}
use Rattle.mdr_syntax.specs.declared.token.Lexeme.TheVariants.{Punct}
use Rattle.mdr_syntax.specs.declared.tree.FieldName.{FieldName}
use Rattle.mdr_syntax.specs.declared.tree.Init.{Init}
use Rattle.mdr_syntax.specs.declared.tree.Elem.{Elem}
use Rattle.mdr_syntax.specs.declared.tree.Init.TheOpen.{Init-F}
use Rattle.mdr_syntax.specs.declared.tree.Init.TheFolds.{ind-Init, map-Init, fold-roll-Init, fold_out-Elem}
use Rattle.mdr_syntax.specs.Words.{punctuation}
use Rattle.mdr_print.specs.Marks.{Mark, Is, Marks, spell, token_text, in_braces, comma_list, ◌▸◌}
use Rattle.mdr_print.specs.Declarations.{equals, designator, init_shown, elem_shown, init, elem}
use Rattle.mdr_print.specs.Spelled.{AreApart}
use Rattle.mdr_roundtrip.specs.Standing.{Apart}
use Rattle.mdr_roundtrip.specs.Words.{is_sign}
use Rattle.mdr_roundtrip.specs.Printable.{all}
use Rattle.mdr_roundtrip.specs.PrintableDeclarations.{maybe, is_field, init_printable, elem_printable, is_printable_init, is_printable_elem}
use Rattle.mdr_roundtrip.proofs.Tests.{both}
use Rattle.mdr_roundtrip.proofs.WordFronts.{word_front}
use Rattle.mdr_roundtrip.proofs.TextFronts.{text_front}
use Rattle.mdr_roundtrip.proofs.SignFronts.{brace_front, unbrace_front, dot_front, and_front}
use Rattle.mdr_roundtrip.proofs.Parts.{word_opens, separated_apart}
use Rattle.mdr_roundtrip.proofs.ShownForms.{spaced_apart}
use Rattle.mdr_roundtrip.proofs.DeclaredParts.{word_apart, constant_apart}

equals_sign : is_sign (codes "=") ≡ true
unfolding punctuation
equals_sign = refl

pub equals_apart : (rest : List Mark) → AreApart rest → AreApart (equals rest)
equals_apart rest a = spaced_apart (codes "=") equals_sign rest a

pub braces_apart : (m : Marks) → Apart m → (rest : List Mark) → AreApart rest → AreApart (in_braces m rest)
unfolding spell token_text
braces_apart m h rest a = (brace_front _, h (Is (Punct (codes "}")) ∷ rest) (unbrace_front (spell rest), a) refl)

record GoodInit (i : Init) : Type 0 where
  by : is_printable_init i ≡ true → Apart (init i)

record GoodElem (e : Elem) : Type 0 where
  by : is_printable_elem e ≡ true → Apart (elem e)

elems_are : {X : Type 0} (of : X → Elem) → ((x : X) → GoodElem (of x)) → (xs : List X) → all (map is_printable_elem (map of xs)) ≡ true → AllByRecursion Apart (map elem (map of xs))
elems_are of good [] h = tt
elems_are of good (x ∷ xs) h =
    let k = both (is_printable_elem (of x)) (all (map is_printable_elem (map of xs))) h in
    ((good x).by k.0, elems_are of good xs k.1)

abbrev Layer : Init-F Init Elem → Type 0
Layer l = init_printable (map-Init Init Elem Bool Bool is_printable_init is_printable_elem l) ≡ true → Apart (init_shown (map-Init Init Elem Marks Marks init elem l))

layer_is : {X Y : Type 0} (what : X → Init) (of : Y → Elem) → ((y : Y) → GoodElem (of y)) → (l : Init-F X Y) → Layer (map-Init X Y Init Elem what of l)
unfolding spell token_text
layer_is what of good (Init-F.Const c) h = constant_apart c h
layer_is what of good (Init-F.Null place) h = word_apart (codes "NULL") refl
layer_is what of good (Init-F.Address place name) h = λ rest a q. (and_front (name ++ spell rest) (word_opens name (spell rest) h), word_apart name h rest a q)
layer_is what of good (Init-F.Text place bytes) h = λ rest a q. (text_front bytes (spell rest) h, a)
layer_is what of good (Init-F.List place elems) h = λ rest a q. braces_apart (comma_list (map elem (map of elems))) (separated_apart (map elem (map of elems)) (elems_are of good elems h) true) rest a

elem_apart : (f : Option FieldName) (m : Marks) → maybe is_field f ≡ true → Apart m → Apart (designator f ▸ m)
unfolding spell token_text
elem_apart None m h k rest a q = k rest a q
elem_apart (Some f) m h k rest a q =
    (dot_front (f.name ++ spell (equals (m rest))) (word_opens f.name (spell (equals (m rest))) h), (word_front f.name (spell (equals (m rest))) h refl, equals_apart (m rest) (k rest a q)))

good_inits : (i : Init) → GoodInit i
good_inits = ind-Init GoodInit GoodElem
    (λ x y is. record {
      by = λ q. subst Apart (sym (fold-roll-Init Marks Marks init_shown elem_shown x))
          (subst Layer is (layer_is (λ e. e.0) (λ e. e.0) (λ e. e.1) y) (sym (fold-roll-Init Bool Bool init_printable elem_printable x) ∙ q));
    })
    (λ x y is. record {
      by = λ q.
          let k = both (maybe is_field x.field) (is_printable_init x.init) (sym (fold_out-Elem Bool Bool init_printable elem_printable (record { field = x.field; init = x.init })) ∙ q) in
          subst Apart (sym (fold_out-Elem Marks Marks init_shown elem_shown (record { field = x.field; init = x.init })))
          (elem_apart x.field (init x.init) k.0 ((subst GoodInit (ap (λ z. z.init) is) (y.init.1)).by k.1));
    })

pub inits_apart : (i : Init) → is_printable_init i ≡ true → Apart (init i)
inits_apart i = (good_inits i).by
