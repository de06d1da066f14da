-- The shapes of declarations and statements, one by one.
use Rattle.std.proofs.Common.{◌≡◌, refl, sym, ap, ◌∙◌, ℕ, ◌+◌, Bool, true, false, Option, Some, None, List, [], ◌∷◌, map}
use Rattle.std.specs.Prelude.{◌&&◌, is_none}
use Rattle.std.specs.List.{list_all}
use Rattle.std.specs.Option.{option_map}
use Rattle.std.proofs.lemmas.Bool.{false≢true}
use Rattle.std.proofs.lemmas.Slice.Eq.{bytes_eq-Decides}
use Rattle.mdr_core.specs.declared.kind.Kind.{Kind}
use Rattle.mdr_core.specs.declared.kind.Kind.TheVariants.{U8, U16, U32, U64, S8, S16, S32, S64}
use Rattle.mdr_syntax.specs.declared.token.Token.{Token}
use Rattle.mdr_syntax.specs.declared.tree.AnnText.{AnnText}
use Rattle.mdr_syntax.specs.declared.tree.Base.{Base}
use Rattle.mdr_syntax.specs.declared.tree.Base.TheVariants as base_type
use Rattle.mdr_syntax.specs.declared.tree.Const.{Const}
use Rattle.mdr_syntax.specs.declared.tree.Decl.{Decl, roll-Decl, out-Decl, out-roll-Decl}
use Rattle.mdr_syntax.specs.declared.tree.Decl.TheOpen.{Decl-F}
use Rattle.mdr_syntax.specs.declared.tree.Decl.TheFolds.{map-Decl, fold-roll-Decl, fold_out-Decl}
use Rattle.mdr_roundtrip.specs.Printable.{all}
use Rattle.mdr_roundtrip.specs.PrintableDeclarations.{maybe}
use Rattle.mdr_roundtrip.proofs.Tests.{both}
use Rattle.mdr_grammar.specs.declared.parts.Specifier.{Specifier}
use Rattle.mdr_grammar.specs.Expressions.{text_of, may_open}
use Rattle.mdr_grammar.specs.Declarations.{declared, unnamed, perhaps_named, with_annotation}
use Rattle.mdr_roundtrip.specs.Shaped.{is_name, is_named_base, are_stars}
use Rattle.mdr_roundtrip.specs.Initialised.{is_shaped_const}
use Rattle.mdr_roundtrip.specs.Declarations.{Standing, may_be_named, may_be_sized, is_annotation_at, as_parameter, are_parameters, decl_shaped, is_shaped_decl}
use Rattle.mdr_roundtrip.specs.Stated.{is_same_kind, is_same_base}
use Rattle.mdr_roundtrip.proofs.Bools.{also}
use Rattle.mdr_roundtrip.proofs.Sourcing.{declared_by, is_parameter, based}

-- ---- bases

kind_itself : (k : Kind) → is_same_kind k k ≡ true
kind_itself U8 = refl
kind_itself U16 = refl
kind_itself U32 = refl
kind_itself U64 = refl
kind_itself S8 = refl
kind_itself S16 = refl
kind_itself S32 = refl
kind_itself S64 = refl

pub base_itself : (b : Base) → is_same_base b b ≡ true
base_itself (base_type.Int k) = kind_itself k
base_itself (base_type.Struct place name) = (bytes_eq-Decides name name).1 refl
base_itself base_type.Void = refl
base_itself base_type.Lock = refl

kinds_alike : (i j k : Kind) → is_same_kind i j ≡ true → is_same_kind i k ≡ true → is_same_kind j k ≡ true
kinds_alike U8 U8 k a b = b
kinds_alike U16 U16 k a b = b
kinds_alike U32 U32 k a b = b
kinds_alike U64 U64 k a b = b
kinds_alike S8 S8 k a b = b
kinds_alike S16 S16 k a b = b
kinds_alike S32 S32 k a b = b
kinds_alike S64 S64 k a b = b
kinds_alike _ _ k a b = absurd (false≢true a)

-- two that are the same as a third
pub bases_alike : (a b c : Base) → is_same_base a b ≡ true → is_same_base a c ≡ true → is_same_base b c ≡ true
bases_alike (base_type.Int i) (base_type.Int j) (base_type.Int k) p q = kinds_alike i j k p q
bases_alike (base_type.Struct x l) (base_type.Struct y m) (base_type.Struct z n) p q = (bytes_eq-Decides m n).1 (sym ((bytes_eq-Decides l m).0 p) ∙ (bytes_eq-Decides l n).0 q)
bases_alike base_type.Void base_type.Void base_type.Void p q = refl
bases_alike base_type.Lock base_type.Lock base_type.Lock p q = refl
bases_alike (base_type.Int i) (base_type.Int j) _ p q = absurd (false≢true q)
bases_alike (base_type.Struct x l) (base_type.Struct y m) _ p q = absurd (false≢true q)
bases_alike base_type.Void base_type.Void _ p q = absurd (false≢true q)
bases_alike base_type.Lock base_type.Lock _ p q = absurd (false≢true q)
bases_alike _ _ _ p q = absurd (false≢true p)

-- ---- declarations

mapped : (x : Decl-F Decl) (o : Option (List Decl)) → x.fun ≡ o → (map-Decl Decl (Standing → ℕ → Bool) is_shaped_decl x).fun ≡ option_map (map is_shaped_decl) x.fun
mapped x None e = rw e refl
mapped x (Some ds) e = rw e refl

-- the parameters of a function pointer
abbrev pub pointed_at : ℕ → List Decl → Bool
pointed_at d ps = may_open (d + 1) && list_all (is_parameter false (d + 1)) ps

all_parameters : (d : ℕ) (ps : List Decl) → list_all (is_parameter false d) ps ≡ true → all (map (as_parameter d) (map is_shaped_decl ps)) ≡ true
all_parameters d [] h = refl
all_parameters d (p ∷ ps) h =
    let k = both (is_parameter false d p) (list_all (is_parameter false d) ps) h in
    also (is_parameter false d p) (all (map (as_parameter d) (map is_shaped_decl ps))) k.0 (all_parameters d ps k.1)

fun_is : (d : ℕ) (o : Option (List Decl)) → maybe (pointed_at d) o ≡ true → maybe (are_parameters d) (option_map (map is_shaped_decl) o) ≡ true
fun_is d None h = refl
fun_is d (Some ps) h =
    let k = both (may_open (d + 1)) (list_all (is_parameter false (d + 1)) ps) h in
    also (may_open (d + 1)) (all (map (as_parameter (d + 1)) (map is_shaped_decl ps))) k.0 (all_parameters (d + 1) ps k.1)

parts_are : (a b c d e f : Bool) → a ≡ true → b ≡ true → c ≡ true → d ≡ true → e ≡ true → f ≡ true → (a && (b && (c && (d && (e && f))))) ≡ true
parts_are a b c d e f p q r s t u = also a (b && (c && (d && (e && f)))) p (also b (c && (d && (e && f))) q (also c (d && (e && f)) r (also d (e && f) s (also e f t u))))

pub decl_is : (x : Decl-F Decl) (s : Standing) (d : ℕ) → is_named_base x.base ≡ true → are_stars x.stars ≡ true → may_be_named s x.name ≡ true → may_be_sized s x.size ≡ true → maybe (pointed_at d) x.fun ≡ true → maybe (is_annotation_at d) x.ann ≡ true → is_shaped_decl (roll-Decl x) s d ≡ true
decl_is x s d b k n z f a =
    ap (λ g. g s d) (fold-roll-Decl (Standing → ℕ → Bool) decl_shaped x)
    ∙ parts_are (is_named_base x.base) (are_stars x.stars) (may_be_named s x.name) (may_be_sized s x.size) (maybe (are_parameters d) (map-Decl Decl (Standing → ℕ → Bool) is_shaped_decl x).fun) (maybe (is_annotation_at d) x.ann) b k n z
    (ap (maybe (are_parameters d)) (mapped x x.fun refl) ∙ fun_is d x.fun f) a

last_changed : (a b c d e f f' : Bool) → (a && (b && (c && (d && (e && f))))) ≡ true → f' ≡ true → (a && (b && (c && (d && (e && f'))))) ≡ true
last_changed true true true true true f f' h k = k
last_changed true true true true false f f' h k = absurd (false≢true h)
last_changed true true true false e f f' h k = absurd (false≢true h)
last_changed true true false d e f f' h k = absurd (false≢true h)
last_changed true false c d e f f' h k = absurd (false≢true h)
last_changed false b c d e f f' h k = absurd (false≢true h)

pub annotated_is : (x : Decl) (a : Option AnnText) (s : Standing) (d : ℕ) → is_shaped_decl x s d ≡ true → maybe (is_annotation_at d) a ≡ true → is_shaped_decl (with_annotation x a) s d ≡ true
annotated_is x a s d h k =
    let l : Decl-F Decl = out-Decl x in
    ap (λ g. g s d) (fold-roll-Decl (Standing → ℕ → Bool) decl_shaped (record l { ann = a }))
    ∙ last_changed (is_named_base l.base) (are_stars l.stars) (may_be_named s l.name) (may_be_sized s l.size) (maybe (are_parameters d) (map-Decl Decl (Standing → ℕ → Bool) is_shaped_decl l).fun) (maybe (is_annotation_at d) l.ann) (maybe (is_annotation_at d) a)
    (ap (λ g. g s d) (sym (fold_out-Decl (Standing → ℕ → Bool) decl_shaped x)) ∙ h) k

none_is : (l : Decl-F Decl) → l.ann ≡ None → is_none (out-Decl (roll-Decl l)).ann ≡ true
none_is l e = ap (λ (o : Option AnnText). is_none o) (ap (λ (l : Decl-F Decl). l.ann) (out-roll-Decl l) ∙ e)

-- a declarator by itself
pub declared_is : (b : Specifier) (k d : ℕ) (n : Token) (z : Option Const) (fun : Option (List Decl)) → based b k ≡ true → is_name (text_of n.what) ≡ true → maybe is_shaped_const z ≡ true → maybe (pointed_at d) fun ≡ true → declared_by b d (declared b k n z fun) ≡ true
declared_is b k d n z fun h w s f =
    let l : Decl-F Decl = record { place = n.place; name = Some (text_of n.what); base = b.base; stars = k; size = z; fun = fun; ann = None } in
    let g = both (is_named_base b.base) (are_stars k) h in
    also (is_shaped_decl (roll-Decl l) Standing.Alone d) (is_none (out-Decl (roll-Decl l)).ann && is_same_base b.base (out-Decl (roll-Decl l)).base) (decl_is l Standing.Alone d g.0 g.1 w s f refl)
    (also (is_none (out-Decl (roll-Decl l)).ann) (is_same_base b.base (out-Decl (roll-Decl l)).base) (none_is l refl) (ap (λ (x : Decl-F Decl). is_same_base b.base x.base) (out-roll-Decl l) ∙ base_itself b.base))

pub one_is : (named : Bool) (b : Specifier) (k d : ℕ) (n : Token) (fun : Option (List Decl)) → based b k ≡ true → is_name (text_of n.what) ≡ true → maybe (pointed_at d) fun ≡ true → is_parameter named d (declared b k n None fun) ≡ true
one_is named b k d n fun h w f =
    let g = both (is_named_base b.base) (are_stars k) h in
    decl_is (record { place = n.place; name = Some (text_of n.what); base = b.base; stars = k; size = None; fun = fun; ann = None }) (Standing.Parameter named) d g.0 g.1 (named_is named) refl f refl
  where
    named_is : (named : Bool) → may_be_named (Standing.Parameter named) (Some (text_of n.what)) ≡ true
    named_is true = w
    named_is false = w

pub unnamed_is : (b : Specifier) (k d : ℕ) (fun : Option (List Decl)) → based b k ≡ true → maybe (pointed_at d) fun ≡ true → is_parameter false d (unnamed b k fun) ≡ true
unnamed_is b k d fun h f =
    let g = both (is_named_base b.base) (are_stars k) h in
    decl_is (record { place = b.place; name = None; base = b.base; stars = k; size = None; fun = fun; ann = None }) (Standing.Parameter false) d g.0 g.1 refl refl f refl

pub perhaps_is : (named : Bool) (b : Specifier) (k d : ℕ) (n : Option Token) (fun : Option (List Decl)) → based b k ≡ true → may_be_named (Standing.Parameter named) (option_map (λ t. text_of t.what) n) ≡ true → maybe (pointed_at d) fun ≡ true → is_parameter named d (perhaps_named b k n fun) ≡ true
perhaps_is true b k d (Some n) fun h w f = one_is true b k d n fun h w f
perhaps_is false b k d (Some n) fun h w f = one_is false b k d n fun h w f
perhaps_is true b k d None fun h w f = absurd (false≢true w)
perhaps_is false b k d None fun h w f = unnamed_is b k d fun h f
