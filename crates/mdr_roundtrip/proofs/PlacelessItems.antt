-- The rules of items look at no place.
use Rattle.std.proofs.Common.{◌≡◌, refl, sym, subst, ap, ℕ, ◌+◌, Bool, true, false, Option, Some, None, List, map}
use Rattle.std.specs.Option.{option_map}
use Rattle.mdr_core.specs.declared.place.Place.{Place}
use Rattle.mdr_syntax.specs.declared.token.Token.{Token}
use Rattle.mdr_syntax.specs.declared.tree.Decl.{Decl}
use Rattle.mdr_syntax.specs.declared.tree.Head.{Head}
use Rattle.mdr_syntax.specs.declared.tree.Init.{Init}
use Rattle.mdr_syntax.specs.declared.tree.Item.{Item}
use Rattle.mdr_syntax.specs.declared.tree.ItemWhat.TheVariants as item_is
use Rattle.mdr_syntax.specs.declared.tree.Node.{Node}
use Rattle.mdr_grammar.specs.declared.parts.Specifier.{Specifier}
use Rattle.mdr_grammar.specs.declared.sort.Sort.{Sort}
use Rattle.mdr_grammar.specs.Forms.Nonterminal.{qualified, outer, remote, critical}
use Rattle.mdr_grammar.specs.Expressions.{text_of, struct_of}
use Rattle.mdr_grammar.specs.Declarations.{with_annotation}
use Rattle.mdr_grammar.specs.Statements.{item_at, global_with, global_rule, more_globals, globals_with, head_of, function_with, function_end_rule, function_there, function_rule, named_global, other_globals, outer_rule, remote_rule, critical_rule, typed_item, qualified_rule, fields_rule, struct_or_outer, item_rule}
use Rattle.mdr_roundtrip.specs.Unplaced.{nowhere}
use Rattle.mdr_roundtrip.specs.Initialised.{unplaced_init}
use Rattle.mdr_roundtrip.specs.Declarations.{unplaced_decl}
use Rattle.mdr_roundtrip.specs.Stated.{unplaced_node}
use Rattle.mdr_roundtrip.specs.Itemised.{unplaced_head, unplaced_item}
use Rattle.mdr_roundtrip.proofs.Erased.{erased_token, erased_specifier}
use Rattle.mdr_roundtrip.proofs.Placeless.{AlikeBy, AlikeRules, and_alike, whole}
use Rattle.mdr_roundtrip.proofs.Placeless.AlikeBy.{same, token, next}
use Rattle.mdr_roundtrip.proofs.Placeless.AlikeRules.{no_rule, rules}
use Rattle.mdr_roundtrip.proofs.Unplacing.{decl_made, annotation_made, names_kept, map_joined}
use Rattle.mdr_roundtrip.proofs.PlacelessForms.{base_alike}
use Rattle.mdr_roundtrip.proofs.PlacelessDecls.{declarator_alike}

-- ---- globals

abbrev global_of : Place → Option Init → Decl → Item
global_of first i x = record { place = first; what = item_is.Global x i }

global_with_alike : (first : Place) (x : Decl) → AlikeBy unplaced_item (global_with first x) (global_with nowhere (unplaced_decl x))
global_with_alike first x = next (λ a. next (λ i. same (ap (global_of nowhere (option_map unplaced_init i)) (annotation_made x a))))

pub global_alike : (first : Place) (b : Specifier) (s : Sort) (t : Token) → AlikeRules unplaced_item (global_rule first b s t) (global_rule nowhere (erased_specifier b) s (erased_token t))
global_alike first b s t = and_alike _ _ (declarator_alike 0 b 0 s t) (λ x. global_with_alike first x)

more_with : (first : Place) (b : Specifier) (g : Item) {h : Item} → unplaced_item g ≡ h → AlikeBy (map unplaced_item) (more_globals first b g) (more_globals nowhere (erased_specifier b) h)
more_with first b g e = subst (λ (h : Item). AlikeBy (map unplaced_item) (more_globals first b g) (more_globals nowhere (erased_specifier b) h)) e (next (λ gs. token (λ x. same refl)))

globals_alike : (first : Place) (b : Specifier) (x : Decl) → AlikeBy (map unplaced_item) (globals_with first b x) (globals_with nowhere (erased_specifier b) (unplaced_decl x))
globals_alike first b x = next (λ a. next (λ i. more_with first b (global_of first i (with_annotation x a)) (ap (global_of nowhere (option_map unplaced_init i)) (annotation_made x a))))

-- ---- functions

function_with_alike : (first : Place) (h : Head) (is_critical : Bool) → AlikeBy (map unplaced_item) (function_with first h is_critical) (function_with nowhere (unplaced_head h) is_critical)
function_with_alike first h is_critical = next (λ ns. token (λ c. same (ap (λ (ms : List Node). item_at nowhere (item_is.Func (unplaced_head h) is_critical ms)) (map_joined unplaced_node ns))))

pub function_end_alike : (first : Place) (h : Head) (s : Sort) (t : Token) → AlikeRules (map unplaced_item) (function_end_rule first h s t) (function_end_rule nowhere (unplaced_head h) s (erased_token t))
function_end_alike first h Sort.Semicolon t = rules refl (same refl)
function_end_alike first h Sort.OpenBrace t = rules (sym (names_kept h.params)) (function_with_alike first h false)
function_end_alike first h _ t = no_rule

function_there_alike : (first : Place) (b : Specifier) (k : ℕ) (n : Token) → AlikeBy (option_map (map unplaced_item)) (function_there first b k n) (function_there nowhere (erased_specifier b) k (erased_token n))
function_there_alike first b k n = next (λ ps. token (λ c. next (λ a. next (λ is. same refl))))

pub function_alike : (first : Place) (b : Specifier) (k : ℕ) (n : Token) (s : Sort) (t : Token) → AlikeRules (option_map (map unplaced_item)) (function_rule first b k n s t) (function_rule nowhere (erased_specifier b) k (erased_token n) s (erased_token t))
function_alike first b k n Sort.Open t = rules refl (function_there_alike first b k n)
function_alike first b k n _ t = no_rule

named_alike : (first : Place) (b : Specifier) (k : ℕ) (n : Token) (o : Option (List Item)) → AlikeBy (map unplaced_item) (named_global first b k n o) (named_global nowhere (erased_specifier b) k (erased_token n) (option_map (map unplaced_item) o))
named_alike first b k n (Some is) = same refl
named_alike first b k n None = next (λ z. next (λ a. next (λ i. more_with first b _ (ap (global_of nowhere (option_map unplaced_init i)) (decl_made n.place (Some (text_of n.what)) b.base k z None a)))))

other_alike : (first : Place) (b : Specifier) (k : ℕ) (s : Sort) (t : Token) → AlikeRules (map unplaced_item) (other_globals first b k s t) (other_globals nowhere (erased_specifier b) k s (erased_token t))
other_alike first b k s t = and_alike _ _ (declarator_alike 0 b k s t) (λ x. globals_alike first b x)

pub outer_alike : (first : Place) (b : Specifier) (k : ℕ) (s : Sort) (t : Token) → AlikeRules (map unplaced_item) (outer_rule first b k s t) (outer_rule nowhere (erased_specifier b) k s (erased_token t))
outer_alike first b k Sort.Star t = rules refl (whole (outer first b (k + 1)))
outer_alike first b k Sort.Name t = rules refl (next (λ o. named_alike first b k t o))
outer_alike first b k s t = other_alike first b k s t

pub remote_alike : (first : Place) (b : Specifier) (k : ℕ) (s : Sort) (t : Token) → AlikeRules (map unplaced_item) (remote_rule first b k s t) (remote_rule nowhere (erased_specifier b) k s (erased_token t))
remote_alike first b k Sort.Star t = rules refl (whole (remote first b (k + 1)))
remote_alike first b k Sort.Name t = rules refl (token (λ o. next (λ ps. token (λ c. next (λ a. token (λ e. same refl))))))
remote_alike first b k _ t = no_rule

pub critical_alike : (first : Place) (b : Specifier) (k : ℕ) (s : Sort) (t : Token) → AlikeRules (map unplaced_item) (critical_rule first b k s t) (critical_rule nowhere (erased_specifier b) k s (erased_token t))
critical_alike first b k Sort.Star t = rules refl (whole (critical first b (k + 1)))
critical_alike first b k Sort.Name t = rules refl (token (λ o. next (λ ps. token (λ c. next (λ a. token (λ e. function_with_alike first (head_of b k t ps a) true))))))
critical_alike first b k _ t = no_rule

-- ---- items

typed_alike : (first : Place) (s : Sort) (t : Token) → AlikeRules (map unplaced_item) (typed_item first s t) (typed_item nowhere s (erased_token t))
typed_alike first s t = and_alike _ _ (base_alike s t) (λ b. whole (outer first b 0))

pub qualified_alike : (first : Place) (s : Sort) (t : Token) → AlikeRules (map unplaced_item) (qualified_rule first s t) (qualified_rule nowhere s (erased_token t))
qualified_alike first Sort.Qualifier t = rules refl (whole (qualified first))
qualified_alike first Sort.Remote t = rules refl (next (λ b. whole (remote first b 0)))
qualified_alike first Sort.Critical t = rules refl (next (λ b. whole (critical first b 0)))
qualified_alike first s t = typed_alike first s t

pub fields_alike : (first : Place) (n : Token) (s : Sort) (t : Token) → AlikeRules (option_map (map unplaced_item)) (fields_rule first n s t) (fields_rule nowhere (erased_token n) s (erased_token t))
fields_alike first n Sort.OpenBrace t = rules refl (next (λ gs. token (λ c. token (λ e. same (ap (λ (ds : List Decl). Some (item_at nowhere (item_is.Struct nowhere (text_of n.what) ds))) (map_joined unplaced_decl gs))))))
fields_alike first n _ t = no_rule

struct_alike : (t n : Token) (o : Option (List Item)) → AlikeBy (map unplaced_item) (struct_or_outer t n o) (struct_or_outer (erased_token t) (erased_token n) (option_map (map unplaced_item) o))
struct_alike t n (Some is) = same refl
struct_alike t n None = whole (outer t.place (record { base = struct_of n; place = t.place }) 0)

pub item_alike : (s : Sort) (t : Token) → AlikeRules (map unplaced_item) (item_rule s t) (item_rule s (erased_token t))
item_alike Sort.Define t = rules refl (same refl)
item_alike Sort.Enum t = rules refl (token (λ o. next (λ e. next (λ es. token (λ c. token (λ x. same refl))))))
item_alike Sort.Struct t = rules refl (token (λ n. next (λ o. struct_alike t n o)))
item_alike s t = qualified_alike t.place s t
