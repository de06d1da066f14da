-- Printable declarations are apart.
use Rattle.std.proofs.Common.{◌≡◌, Bool, true, Option, Some, None, List, [], ◌∷◌, map, refl, sym, ap, subst, ◌∙◌}
use Rattle.std.specs.Prelude.{◌&&◌}
use Rattle.std.specs.Option.{option_map}
use Rattle.std.specs.List.{AllByRecursion}
use Rattle.mdr_syntax.specs.declared.tree.Decl.{Decl}
use Rattle.mdr_syntax.specs.declared.tree.Decl.TheOpen.{Decl-F}
use Rattle.mdr_syntax.specs.declared.tree.Decl.TheFolds.{ind-Decl, map-Decl, fold-roll-Decl}
use Rattle.mdr_print.specs.Declarations.{Declared, decl_shown, shown_decl, declaration}
use Rattle.mdr_roundtrip.specs.Standing.{Apart}
use Rattle.mdr_roundtrip.specs.Words.{is_word, is_base}
use Rattle.mdr_roundtrip.specs.Printable.{all}
use Rattle.mdr_roundtrip.specs.PrintableDeclarations.{maybe, is_constant, is_annotation, decl_printable, is_printable_decl}
use Rattle.mdr_roundtrip.proofs.Tests.{both}
use Rattle.mdr_roundtrip.proofs.DeclaredParts.{IsDeclared, AllDeclared, declared_is}

record GoodDecl (d : Decl) : Type 0 where
  by : is_printable_decl d ≡ true → IsDeclared (shown_decl d)

record Parts (d : Decl-F Bool) : Type 0 where
  base : is_base d.base ≡ true
  name : maybe is_word d.name ≡ true
  size : maybe is_constant d.size ≡ true
  fun : maybe all d.fun ≡ true
  annotation : maybe is_annotation d.ann ≡ true

parts_of : (d : Decl-F Bool) → decl_printable d ≡ true → Parts d
parts_of d h =
    let a = both (is_base d.base) (maybe is_word d.name && (maybe is_constant d.size && (maybe all d.fun && maybe is_annotation d.ann))) h in
    let b = both (maybe is_word d.name) (maybe is_constant d.size && (maybe all d.fun && maybe is_annotation d.ann)) a.1 in
    let c = both (maybe is_constant d.size) (maybe all d.fun && maybe is_annotation d.ann) b.1 in
    let e = both (maybe all d.fun) (maybe is_annotation d.ann) c.1 in
    record { base = a.0; name = b.0; size = c.0; fun = e.0; annotation = e.1 }

mapped : {X Y : Type 0} (f : X → Y) (x : Decl-F X) (fun : Option (List X)) → x.fun ≡ fun → (map-Decl X Y f x).fun ≡ option_map (map f) x.fun
mapped f x None e = rw e refl
mapped f x (Some ds) e = rw e refl

twice : {X Y : Type 0} (of : X → Decl) (f : Decl → Y) (l : Decl-F X) → (map-Decl Decl Y f (map-Decl X Decl of l)).fun ≡ option_map (map f) (option_map (map of) l.fun)
twice {X} {Y} of f l = mapped f (map-Decl X Decl of l) (map-Decl X Decl of l).fun refl ∙ ap (option_map (map f)) (mapped of l l.fun refl)

all_declared : {X : Type 0} (of : X → Decl) → ((x : X) → GoodDecl (of x)) → (xs : List X) → all (map is_printable_decl (map of xs)) ≡ true → AllByRecursion IsDeclared (map shown_decl (map of xs))
all_declared of good [] h = tt
all_declared of good (x ∷ xs) h =
    let k = both (is_printable_decl (of x)) (all (map is_printable_decl (map of xs))) h in
    ((good x).by k.0, all_declared of good xs k.1)

fun_declared : {X : Type 0} (of : X → Decl) → ((x : X) → GoodDecl (of x)) → (o : Option (List X)) → maybe all (option_map (map is_printable_decl) (option_map (map of) o)) ≡ true → AllDeclared (option_map (map shown_decl) (option_map (map of) o))
fun_declared of good None h = tt
fun_declared of good (Some xs) h = all_declared of good xs h

abbrev Layer : Decl-F Decl → Type 0
Layer l = decl_printable (map-Decl Decl Bool is_printable_decl l) ≡ true → IsDeclared (decl_shown (map-Decl Decl Declared shown_decl l))

layer_is : {X : Type 0} (of : X → Decl) → ((x : X) → GoodDecl (of x)) → (l : Decl-F X) → Layer (map-Decl X Decl of l)
layer_is {X} of good l h =
    let p = parts_of (map-Decl Decl Bool is_printable_decl (map-Decl X Decl of l)) h in
    let fun = subst (λ (o : Option (List Bool)). maybe all o ≡ true) (twice of is_printable_decl l) p.fun in
    declared_is (map-Decl Decl Declared shown_decl (map-Decl X Decl of l)) p.base p.name p.size (subst AllDeclared (sym (twice of shown_decl l)) (fun_declared of good l.fun fun)) p.annotation

good_decls : (d : Decl) → GoodDecl d
good_decls = ind-Decl GoodDecl (λ x y is. record {
  by = λ q. subst IsDeclared (sym (fold-roll-Decl Declared decl_shown x)) (subst Layer is (layer_is (λ e. e.0) (λ e. e.1) y) (sym (fold-roll-Decl Bool decl_printable x) ∙ q));
})

pub decl_is : (d : Decl) → is_printable_decl d ≡ true → IsDeclared (shown_decl d)
decl_is d = (good_decls d).by

pub declarations_apart : (d : Decl) → is_printable_decl d ≡ true → Apart (declaration d)
declarations_apart d h = (decl_is d h).whole
