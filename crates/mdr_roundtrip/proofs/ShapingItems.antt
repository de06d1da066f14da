-- Items that are read have the shape of items.
use Rattle.std.proofs.Common.{◌≡◌, refl, ℕ, ◌+◌, Bool, true, false, Option, Some, None, List, [], ◌∷◌}
use Rattle.std.specs.Prelude.{◌&&◌}
use Rattle.std.specs.List.{list_all}
use Rattle.mdr_core.specs.declared.place.Place.{Place}
use Rattle.mdr_syntax.specs.declared.token.Token.{Token}
use Rattle.mdr_syntax.specs.declared.tree.AnnText.{AnnText}
use Rattle.mdr_syntax.specs.declared.tree.Decl.{Decl, roll-Decl}
use Rattle.mdr_syntax.specs.declared.tree.Head.{Head}
use Rattle.mdr_syntax.specs.declared.tree.Init.{Init}
use Rattle.mdr_syntax.specs.declared.tree.Item.{Item}
use Rattle.mdr_syntax.specs.declared.tree.ItemWhat.{ItemWhat}
use Rattle.mdr_syntax.specs.declared.tree.ItemWhat.TheVariants as item_is
use Rattle.mdr_syntax.specs.declared.tree.Node.{Node}
use Rattle.mdr_roundtrip.specs.PrintableDeclarations.{maybe}
use Rattle.mdr_roundtrip.proofs.Tests.{both}
use Rattle.mdr_grammar.specs.declared.parts.Specifier.{Specifier}
use Rattle.mdr_grammar.specs.declared.sort.Sort.{Sort}
use Rattle.mdr_grammar.specs.Forms.{form}
use Rattle.mdr_grammar.specs.Forms.Nonterminal.{outer}
use Rattle.mdr_grammar.specs.Expressions.{text_of, number_in, kind_in, base_rule}
use Rattle.mdr_grammar.specs.Declarations.{declarator_rule, with_annotation}
use Rattle.mdr_grammar.specs.Statements.{item_at, joined, are_named, global_with, global_rule, more_globals, globals_with, head_of, function_with, function_end_rule, function_rule, named_global, outer_rule, remote_rule, critical_rule, typed_item, qualified_rule, fields_rule, struct_or_outer, is_negative, item_rule}
use Rattle.mdr_roundtrip.specs.Shaped.{is_name, is_named_base, are_stars}
use Rattle.mdr_roundtrip.specs.Initialised.{are_some}
use Rattle.mdr_roundtrip.specs.Declarations.{Standing, is_annotation_at}
use Rattle.mdr_roundtrip.specs.Itemised.{is_shaped_field, is_shaped_enumerator, initial_at, is_shaped_parameter, is_shaped_head, is_shaped_body, is_shaped_what, is_shaped_item}
use Rattle.mdr_roundtrip.proofs.Bools.{also, all_one, all_flat}
use Rattle.mdr_roundtrip.proofs.Judges.{SoundBy, SoundRuleBy, and_by}
use Rattle.mdr_roundtrip.proofs.Shaping.{knows}
use Rattle.mdr_roundtrip.proofs.ShapingForms.{is_good_base}
use Rattle.mdr_roundtrip.proofs.Sourcing.{more, declared_by, item_in, all_items, based, grown, sourcing}
use Rattle.mdr_roundtrip.proofs.ShapedDecls.{decl_is, annotated_is}
use Rattle.mdr_roundtrip.proofs.ShapedNodes.{all_in}
use Rattle.mdr_roundtrip.proofs.ShapingDecls.{source_base, source_declarator, alone_of}

one_line : (halves : Bool) (place : Place) (what : ItemWhat) → is_shaped_what halves what ≡ true → all_items halves (item_at place what) ≡ true
one_line halves place what h = all_one (is_shaped_item halves) (record { place = place; what = what }) h

-- ---- globals

global_is : (x : Decl) (i : Option Init) → is_shaped_field x ≡ true → maybe (initial_at 0) i ≡ true → (is_shaped_field x && maybe (initial_at 0) i) ≡ true
global_is x i h k = also (is_shaped_field x) (maybe (initial_at 0) i) h k

base_of : (b : Specifier) (k : ℕ) → based b k ≡ true → is_named_base b.base ≡ true
base_of b k h = (both (is_named_base b.base) (are_stars k) h).0

pub source_global : (halves : Bool) (first : Place) (b : Specifier) (s : Sort) (t : Token) → is_named_base b.base ≡ true → knows s t.what ≡ true → SoundRuleBy (sourcing halves) (global_rule first b s t) (is_shaped_item halves)
source_global halves first b s t g m = and_by (sourcing halves) (declarator_rule 0 b 0 s t) (λ x. global_with first x) (declared_by b 0) (is_shaped_item halves) (source_declarator halves 0 b 0 s t (also (is_named_base b.base) true g refl) m)
    (λ x hx. (refl, λ a ha. (refl, λ i hi. global_is (with_annotation x a) i (annotated_is x a Standing.Alone 0 (alone_of b 0 x hx) ha) hi)))

more_by : (halves : Bool) (first : Place) (b : Specifier) (g : Item) → is_named_base b.base ≡ true → is_shaped_item halves g ≡ true → SoundBy (sourcing halves) (more_globals first b g) (all_items halves)
more_by halves first b g h k = (also (is_named_base b.base) (list_all (is_shaped_item halves) (g ∷ [])) h (all_one (is_shaped_item halves) g k), λ gs hgs. λ e q. hgs)

globals_by : (halves : Bool) (first : Place) (b : Specifier) (x : Decl) → is_named_base b.base ≡ true → is_shaped_field x ≡ true → SoundBy (sourcing halves) (globals_with first b x) (all_items halves)
globals_by halves first b x h k = (refl, λ a ha. (refl, λ i hi. more_by halves first b (record { place = first; what = item_is.Global (with_annotation x a) i }) h (global_is (with_annotation x a) i (annotated_is x a Standing.Alone 0 k ha) hi)))

named_by : (halves : Bool) (first : Place) (b : Specifier) (k : ℕ) (n : Token) (o : Option (List Item)) → based b k ≡ true → is_name (text_of n.what) ≡ true → maybe (all_items halves) o ≡ true → SoundBy (sourcing halves) (named_global first b k n o) (all_items halves)
named_by halves first b k n (Some is) h w g = g
named_by halves first b k n None h w g = (
  refl,
  λ z hz. (
    refl,
    λ a ha. (
      refl,
      λ i hi.
          let f = both (is_named_base b.base) (are_stars k) h in
          let x : Decl = roll-Decl (record { place = n.place; name = Some (text_of n.what); base = b.base; stars = k; size = z; fun = None; ann = a }) in
          more_by halves first b (record { place = first; what = item_is.Global x i }) f.0 (global_is x i (decl_is (record { place = n.place; name = Some (text_of n.what); base = b.base; stars = k; size = z; fun = None; ann = a }) Standing.Alone 0 f.0 f.1 w hz refl ha) hi),
    ),
  ),
)

-- ---- functions

head_is : (named : Bool) (b : Specifier) (k : ℕ) (n : Token) (ps : List Decl) (a : Option AnnText) → based b k ≡ true → is_name (text_of n.what) ≡ true → list_all (is_shaped_parameter named) ps ≡ true → maybe (is_annotation_at 0) a ≡ true → is_shaped_head named (head_of b k n ps a) ≡ true
head_is named b k n ps a h w p q =
    let f = both (is_named_base b.base) (are_stars k) h in
    also (is_named_base b.base) (are_stars k && (is_name (text_of n.what) && (list_all (is_shaped_parameter named) ps && maybe (is_annotation_at 0) a))) f.0
    (also (are_stars k) (is_name (text_of n.what) && (list_all (is_shaped_parameter named) ps && maybe (is_annotation_at 0) a)) f.1
    (also (is_name (text_of n.what)) (list_all (is_shaped_parameter named) ps && maybe (is_annotation_at 0) a) w (also (list_all (is_shaped_parameter named) ps) (maybe (is_annotation_at 0) a) p q)))

body_is : (nss : List (List Node)) → (list_all (list_all (item_in 0)) nss && grown true [] nss) ≡ true → is_shaped_body (joined nss) ≡ true
body_is nss h = all_in 0 (joined nss) (all_flat (item_in 0) nss (both (list_all (list_all (item_in 0)) nss) (grown true [] nss) h).0)

plain_function : (halves : Bool) (first : Place) (h : Head) → is_shaped_head false h ≡ true → are_named h.params ≡ true → SoundBy (sourcing halves) (function_with first h false) (all_items halves)
plain_function halves first h g n = (refl, λ ns hn. λ e q. one_line halves first (item_is.Func h false (joined ns)) (also (is_shaped_head false h) (are_named h.params && is_shaped_body (joined ns)) g (also (are_named h.params) (is_shaped_body (joined ns)) n (body_is ns hn))))

critical_function : (halves : Bool) (first : Place) (h : Head) → is_shaped_head true h ≡ true → SoundBy (sourcing halves) (function_with first h true) (all_items halves)
critical_function halves first h g = (refl, λ ns hn. λ e q. one_line halves first (item_is.Func h true (joined ns)) (also (is_shaped_head true h) (is_shaped_body (joined ns)) g (body_is ns hn)))

pub source_function_end : (halves : Bool) (first : Place) (h : Head) (s : Sort) (t : Token) → is_shaped_head false h ≡ true → SoundRuleBy (sourcing halves) (function_end_rule first h s t) (all_items halves)
source_function_end halves first h Sort.Semicolon t g = λ a. one_line halves first (item_is.Proto h false) (also (is_shaped_head false h) true g refl)
source_function_end halves first h Sort.OpenBrace t g = λ a. plain_function halves first h g a
source_function_end halves first h _ t g = tt

pub source_function : (halves : Bool) (first : Place) (b : Specifier) (k : ℕ) (n : Token) (s : Sort) (t : Token) → based b k ≡ true → is_name (text_of n.what) ≡ true → SoundRuleBy (sourcing halves) (function_rule first b k n s t) (maybe (all_items halves))
source_function halves first b k n Sort.Open t h w = λ a. (refl, λ ps hp. λ c q. (refl, λ x hx. (head_is false b k n ps x h w hp hx, λ is hi. hi)))
source_function halves first b k n _ t h w = tt

one_star_more : (b : Specifier) (k : ℕ) → based b k ≡ true → are_stars (k + 1) ≡ true → based b (k + 1) ≡ true
one_star_more b k h a = also (is_named_base b.base) (are_stars (k + 1)) (base_of b k h) a

pub source_outer : (halves : Bool) (first : Place) (b : Specifier) (k : ℕ) (s : Sort) (t : Token) → based b k ≡ true → knows s t.what ≡ true → SoundRuleBy (sourcing halves) (outer_rule first b k s t) (all_items halves)
source_outer halves first b k Sort.Star t h m = λ a. (one_star_more b k h a, λ v g. g)
source_outer halves first b k Sort.Name t h m = λ a. (also (based b k) (is_name (text_of t.what)) h m, λ o ho. named_by halves first b k t o h m ho)
source_outer halves first b k s t h m = and_by (sourcing halves) (declarator_rule 0 b k s t) (λ x. globals_with first b x) (declared_by b 0) (all_items halves) (source_declarator halves 0 b k s t h m) (λ x hx. globals_by halves first b x (base_of b k h) (alone_of b 0 x hx))

pub source_remote : (halves : Bool) (first : Place) (b : Specifier) (k : ℕ) (s : Sort) (t : Token) → (halves && based b k) ≡ true → knows s t.what ≡ true → SoundRuleBy (sourcing halves) (remote_rule first b k s t) (all_items halves)
source_remote halves first b k Sort.Star t h m = λ a. let f = both halves (based b k) h in (also halves (based b (k + 1)) f.0 (one_star_more b k f.1 a), λ v g. g)
source_remote halves first b k Sort.Name t h m = λ x. λ o q. (
  refl,
  λ ps hp. λ c r. (
    refl,
    λ a ha. λ e r'.
        let f = both halves (based b k) h in
        one_line halves first (item_is.Proto (head_of b k t ps a) true) (also (is_shaped_head false (head_of b k t ps a)) halves (head_is false b k t ps a f.1 m hp ha) f.0),
  ),
)
source_remote halves first b k _ t h m = tt

pub source_critical : (halves : Bool) (first : Place) (b : Specifier) (k : ℕ) (s : Sort) (t : Token) → based b k ≡ true → knows s t.what ≡ true → SoundRuleBy (sourcing halves) (critical_rule first b k s t) (all_items halves)
source_critical halves first b k Sort.Star t h m = λ a. (one_star_more b k h a, λ v g. g)
source_critical halves first b k Sort.Name t h m = λ x. λ o q. (refl, λ ps hp. λ c r. (refl, λ a ha. λ e r'. critical_function halves first (head_of b k t ps a) (head_is true b k t ps a h m hp ha)))
source_critical halves first b k _ t h m = tt

unstarred : (b : Specifier) → is_named_base b.base ≡ true → based b 0 ≡ true
unstarred b h = also (is_named_base b.base) true h refl

typed_by : (halves : Bool) (first : Place) (s : Sort) (t : Token) → SoundRuleBy (sourcing halves) (typed_item first s t) (all_items halves)
typed_by halves first s t = and_by (sourcing halves) (base_rule s t) (λ b. form (outer first b 0)) is_good_base (all_items halves) (source_base halves s t) (λ b hb. (unstarred b hb, λ v h. h))

pub source_qualified : (halves : Bool) (first : Place) (s : Sort) (t : Token) → more halves s t.what ≡ true → SoundRuleBy (sourcing halves) (qualified_rule first s t) (all_items halves)
source_qualified halves first Sort.Qualifier t m = λ a. (refl, λ v h. h)
source_qualified halves first Sort.Remote t m = λ a. (refl, λ b hb. (also halves (based b 0) m (unstarred b hb), λ v h. h))
source_qualified halves first Sort.Critical t m = λ a. (refl, λ b hb. (unstarred b hb, λ v h. h))
source_qualified halves first s t m = typed_by halves first s t

pub source_fields : (halves : Bool) (first : Place) (n : Token) (s : Sort) (t : Token) → is_name (text_of n.what) ≡ true → SoundRuleBy (sourcing halves) (fields_rule first n s t) (maybe (all_items halves))
source_fields halves first n Sort.OpenBrace t w = λ a. (
  refl,
  λ gs hg. λ c q. λ e r.
      let k = both (list_all (list_all is_shaped_field) gs) (grown true [] gs) hg in
      one_line halves first (item_is.Struct n.place (text_of n.what) (joined gs)) (also (is_name (text_of n.what)) (list_all is_shaped_field (joined gs)) w (all_flat is_shaped_field gs k.0)),
)
source_fields halves first n _ t w = tt

struct_by : (halves : Bool) (t n : Token) (o : Option (List Item)) → is_name (text_of n.what) ≡ true → maybe (all_items halves) o ≡ true → SoundBy (sourcing halves) (struct_or_outer t n o) (all_items halves)
struct_by halves t n (Some is) w h = h
struct_by halves t n None w h = (also (is_name (text_of n.what)) true w refl, λ v g. g)

pub source_item : (halves : Bool) (s : Sort) (t : Token) → more halves s t.what ≡ true → SoundRuleBy (sourcing halves) (item_rule s t) (all_items halves)
source_item halves Sort.Define t m = λ a. one_line halves t.place (item_is.Define (text_of t.what) (is_negative t.what) (number_in t.what) (kind_in t.what)) refl
source_item halves Sort.Enum t m = λ a. λ o q. (
  refl,
  λ e he. (
    also (list_all is_shaped_enumerator (e ∷ [])) true (all_one is_shaped_enumerator e he) refl,
    λ es hes. λ c r. λ f r'.
        let k = both (list_all is_shaped_enumerator es) (are_some es) hes in
        one_line halves t.place (item_is.Enum es) (also (are_some es) (list_all is_shaped_enumerator es) k.1 k.0),
  ),
)
source_item halves Sort.Struct t m = λ a. λ n hn. (hn, λ o ho. struct_by halves t n o hn ho)
source_item halves s t m = source_qualified halves t.place s t m
