-- The parts of declarations are apart.
use Rattle.std.proofs.Common.{◌≡◌, ℕ, zero, suc, Bool, true, false, Option, Some, None, List, [], ◌∷◌, ◌++◌, map, refl, codes}
use Rattle.std.specs.Prelude.{◌==◌}
use Rattle.std.specs.List.{AllByRecursion}
use Rattle.std.proofs.lemmas.Bool.{false≢true}
use Rattle.mdr_syntax.specs.declared.token.Lexeme.TheVariants.{Punct}
use Rattle.mdr_syntax.specs.declared.tree.AnnText.{AnnText}
use Rattle.mdr_syntax.specs.declared.tree.AnnText.TheVariants as ann
use Rattle.mdr_syntax.specs.declared.tree.Const.{Const}
use Rattle.mdr_syntax.specs.declared.tree.Const.TheVariants as const
use Rattle.mdr_syntax.specs.declared.tree.Decl.TheOpen.{Decl-F}
use Rattle.mdr_print.specs.Marks.{Mark, Is, Blank, Marks, spell, token_text, number_text, word, blank_unless, comma_list, ◌▸◌}
use Rattle.mdr_print.specs.Types.{base_name, stars}
use Rattle.mdr_print.specs.Declarations.{Declared, constant, annotation, annotated, named, sized, sized_name, whole_of, const_if, is_lone_void, parameter_list, parameters, core, is_bare, alone_shown, decl_shown}
use Rattle.mdr_print.specs.Spelled.{AreApart}
use Rattle.mdr_roundtrip.specs.Words.{is_word, is_base}
use Rattle.mdr_roundtrip.specs.PrintableDeclarations.{maybe, is_constant, is_annotation}
use Rattle.mdr_roundtrip.specs.Standing.{stops, first, Apart}
use Rattle.mdr_roundtrip.proofs.WordFronts.{word_front}
use Rattle.mdr_roundtrip.proofs.NumberFronts.{number_front}
use Rattle.mdr_roundtrip.proofs.SignFronts.{opens, open_front, closed_front, bracket_front, unbracket_front, star_front, minus_front}
use Rattle.mdr_roundtrip.proofs.Tests.{never_when}
use Rattle.mdr_roundtrip.proofs.Parts.{stops_any, no_name, no_number, no_equals, word_opens, number_opens, separated_apart, base_apart, stars_apart, suc_not_zero}
use Rattle.mdr_roundtrip.proofs.ShownForms.{enclosed_apart}

pub word_apart : (name : List ℕ) → is_word name ≡ true → Apart (word name)
unfolding token_text
word_apart name h rest a q = (word_front name (spell rest) h (no_name (first rest) (stops_any false (first rest) q)), a)

pub constant_apart : (c : Const) → is_constant c ≡ true → Apart (constant c)
unfolding spell token_text
constant_apart (const.Number place true n kind) h rest a q =
    (minus_front (number_text n kind ++ spell rest) (number_opens n kind (spell rest) h), (number_front n kind (spell rest) h (no_number (first rest) q), a))
constant_apart (const.Number place false n kind) h rest a q = (number_front n kind (spell rest) h (no_number (first rest) q), a)
constant_apart (const.Name place name) h rest a q = word_apart name h rest a q

-- ---- declarators

annotation_apart : (x : AnnText) → is_annotation x ≡ true → Apart (annotation x)
unfolding spell token_text
annotation_apart (ann.Array c) h rest a q = (word_front (codes "__array") _ refl refl, enclosed_apart (constant c) (constant_apart c h) rest a)
annotation_apart (ann.Sentinel place name) h rest a q = (word_front (codes "__sentinel") _ refl refl, enclosed_apart (word name) (word_apart name h) rest a)
annotation_apart ann.NullTerm h rest a q = word_apart (codes "__nullterm") refl rest a q
annotation_apart ann.Opaque h rest a q = word_apart (codes "__opaque") refl rest a q

pub annotated_apart : (o : Option AnnText) → maybe is_annotation o ≡ true → Apart (annotated o)
annotated_apart None h rest a q = a
annotated_apart (Some x) h rest a q = annotation_apart x h rest a q

pub annotated_stops : (o : Option AnnText) (rest : List Mark) → stops true (first rest) ≡ true → stops true (first (annotated o rest)) ≡ true
unfolding spell
annotated_stops None rest q = q
annotated_stops (Some x) rest q = refl

sized_apart : (o : Option Const) → maybe is_constant o ≡ true → Apart (sized o)
unfolding spell token_text
sized_apart None h rest a q = a
sized_apart (Some c) h rest a q = (bracket_front _, constant_apart c h (Is (Punct (codes "]")) ∷ rest) (unbracket_front (spell rest), a) refl)

sized_stops : (o : Option Const) (rest : List Mark) → stops true (first rest) ≡ true → stops true (first (sized o rest)) ≡ true
unfolding spell token_text
sized_stops None rest q = q
sized_stops (Some c) rest q = refl

named_apart : (o : Option (List ℕ)) → maybe is_word o ≡ true → Apart (named o)
named_apart None h rest a q = a
named_apart (Some name) h rest a q = word_apart name h rest a q

sized_name_apart : (name : Option (List ℕ)) (size : Option Const) → maybe is_word name ≡ true → maybe is_constant size ≡ true → Apart (sized_name name size)
sized_name_apart name size h k rest a q = named_apart name h (sized size rest) (sized_apart size k rest a q) (sized_stops size rest q)

abbrev NoEquals : Marks → Type 0
NoEquals m = (rest : List Mark) → stops true (first rest) ≡ true → (61 == first (m rest)) ≡ false

sized_name_first : (name : Option (List ℕ)) (size : Option Const) → maybe is_word name ≡ true → NoEquals (sized_name name size)
unfolding spell token_text
sized_name_first None size h rest q = no_equals (first (sized size rest)) (stops_any false (first (sized size rest)) (sized_stops size rest q))
sized_name_first (Some name) size h rest q = never_when opens (first (word name (sized size rest))) 61 (word_opens name (spell (sized size rest)) h) refl

pub record IsDeclared (d : Declared) : Type 0 where
  pub alone : Apart d.alone
  pub whole : Apart d.whole

abbrev pub AllDeclared : Option (List Declared) → Type 0
AllDeclared None = Unit {0}
AllDeclared (Some ds) = AllByRecursion IsDeclared ds

wholes : (ds : List Declared) → AllByRecursion IsDeclared ds → AllByRecursion Apart (map whole_of ds)
wholes [] h = tt
wholes (d ∷ ds) h = ((h.0).whole, wholes ds h.1)

const_apart : (b : Bool) (m : Marks) → Apart m → Apart (const_if b ▸ m)
unfolding spell token_text
const_apart true m h rest a q = (word_front (codes "const") (spell (Blank ∷ m rest)) refl refl, h rest a q)
const_apart false m h rest a q = h rest a q

list_apart : (ds : List Declared) → AllByRecursion IsDeclared ds → Apart (parameter_list ds)
list_apart [] h = word_apart (codes "void") refl
list_apart (d ∷ ds) h = const_apart (is_lone_void (d ∷ ds)) (comma_list (map whole_of (d ∷ ds))) (separated_apart (map whole_of (d ∷ ds)) (wholes (d ∷ ds) h) true)

pub parameters_apart : (ds : List Declared) → AllByRecursion IsDeclared ds → (rest : List Mark) → AreApart rest → AreApart (parameters ds rest)
parameters_apart ds h rest a = enclosed_apart (parameter_list ds) (list_apart ds h) rest a

core_apart : (inner : Marks) → Apart inner → NoEquals inner → (fun : Option (List Declared)) → AllDeclared fun → Apart (core inner fun)
unfolding spell token_text
core_apart inner h n None g rest a q = h rest a q
core_apart inner h n (Some ds) g rest a q =
    let behind : List Mark = Is (Punct (codes ")")) ∷ parameters ds rest in
    (open_front _, (star_front (spell (inner behind)) (n behind refl), h behind (closed_front (spell (parameters ds rest)), parameters_apart ds g rest a) refl))

core_first : (inner : Marks) → NoEquals inner → (fun : Option (List Declared)) → NoEquals (core inner fun)
unfolding spell token_text
core_first inner n None rest q = n rest q
core_first inner n (Some ds) rest q = refl

-- where the base type stands alone, no name comes behind it
bare_stops : (n : ℕ) (name : Option (List ℕ)) (fun : Option (List Declared)) (size : Option Const) (rest : List Mark) → is_bare n name fun ≡ true → stops true (first rest) ≡ true
    → stops true (first (stars n (core (sized_name name size) fun rest))) ≡ true
bare_stops zero None None size rest e q = sized_stops size rest q
bare_stops zero None (Some ds) size rest e q = absurd (false≢true e)
bare_stops zero (Some name) fun size rest e q = absurd (false≢true e)
bare_stops (suc n) name fun size rest e q = let k = suc_not_zero n in absurd (false≢true (rw k at e))

pub declared_is : (d : Decl-F Declared) → is_base d.base ≡ true → maybe is_word d.name ≡ true → maybe is_constant d.size ≡ true → AllDeclared d.fun → maybe is_annotation d.ann ≡ true → IsDeclared (decl_shown d)
unfolding spell
declared_is d base name size fun annotation = record { alone = alone; whole = λ rest a q. on (is_bare d.stars d.name d.fun) refl rest a q }
  where
    core_is : Apart (core (sized_name d.name d.size) d.fun)
    core_is = core_apart (sized_name d.name d.size) (sized_name_apart d.name d.size name size) (sized_name_first d.name d.size name) d.fun fun

    alone : Apart (alone_shown d)
    alone rest a q =
        let behind : List Mark = annotated d.ann rest in
        let stop = annotated_stops d.ann rest q in
        stars_apart d.stars (core (sized_name d.name d.size) d.fun behind) (core_is behind (annotated_apart d.ann annotation rest a q) stop)
        (core_first (sized_name d.name d.size) (sized_name_first d.name d.size name) d.fun behind stop)

    on : (b : Bool) → is_bare d.stars d.name d.fun ≡ b → (rest : List Mark) → AreApart rest → stops true (first rest) ≡ true → AreApart (base_name d.base (blank_unless b (alone_shown d rest)))
    on true e rest a q =
        let stop = bare_stops d.stars d.name d.fun d.size (annotated d.ann rest) e (annotated_stops d.ann rest q) in
        base_apart d.base base (alone_shown d rest) (alone rest a q) (no_name (first (alone_shown d rest)) (stops_any false (first (alone_shown d rest)) stop))
    on false e rest a q = base_apart d.base base (Blank ∷ alone_shown d rest) (alone rest a q) refl
