-- What has to have a name has one.
use Rattle.std.proofs.Common.{◌≡◌, ℕ, Bool, true, List, [], ◌∷◌, Option, Some, None, is_some, refl, sym, ap, ◌∙◌}
use Rattle.std.specs.List.{list_all}
use Rattle.mdr_syntax.specs.declared.tree.Decl.{Decl}
use Rattle.mdr_syntax.specs.declared.tree.Decl.TheOpen.{Decl-F}
use Rattle.mdr_syntax.specs.declared.tree.Decl.TheFolds.{map-Decl, fold_out-Decl}
use Rattle.mdr_syntax.specs.declared.tree.Decl.TheViews.{out-Decl}
use Rattle.mdr_grammar.specs.Statements.{are_named}
use Rattle.mdr_roundtrip.specs.Shaped.{is_named_base, are_stars}
use Rattle.mdr_roundtrip.specs.Declarations.{Standing, is_named, may_be_named, decl_shaped, is_shaped_decl}
use Rattle.mdr_roundtrip.specs.Itemised.{is_shaped_parameter}
use Rattle.mdr_sound.proofs.Alike.{left_of, right_of}
use Rattle.mdr_sound.specs.Written.{IsNamed, AreNamed}

record Has (o : Option (List ℕ)) : Type 0 where
  name : List ℕ
  is : o ≡ Some name

has : (o : Option (List ℕ)) → is_some o ≡ true → Has o
has None h = absurd cc
has (Some name) h = record { name = name; is = refl }

some_of : (o : Option (List ℕ)) → is_named o ≡ true → is_some o ≡ true
some_of None h = absurd cc
some_of (Some name) h = refl

named : (d : Decl) → is_some (out-Decl d).name ≡ true → IsNamed d
named d h = let x = has (out-Decl d).name h in record { name = x.name; is = x.is }

name_shaped : (x : Decl-F (Standing → ℕ → Bool)) (s : Standing) (n : ℕ) → decl_shaped x s n ≡ true → may_be_named s x.name ≡ true
name_shaped x s n h = left_of (may_be_named s x.name) _ (right_of (are_stars x.stars) _ (right_of (is_named_base x.base) _ h))

name_of : (d : Decl) (s : Standing) (n : ℕ) → is_shaped_decl d s n ≡ true → may_be_named s (out-Decl d).name ≡ true
name_of d s n h =
    name_shaped (map-Decl Decl (Standing → ℕ → Bool) is_shaped_decl (out-Decl d)) s n
    (sym (ap (λ (f : Standing → ℕ → Bool). f s n) (fold_out-Decl (Standing → ℕ → Bool) decl_shaped d)) ∙ h)

-- a declaration by itself
pub alone_named : (d : Decl) (n : ℕ) → is_shaped_decl d Standing.Alone n ≡ true → IsNamed d
alone_named d n h = named d (some_of (out-Decl d).name (name_of d Standing.Alone n h))

parameter_named : (d : Decl) → is_shaped_parameter true d ≡ true → IsNamed d
parameter_named d h = named d (some_of (out-Decl d).name (name_of d (Standing.Parameter true) 1 h))

pub parameters_named : (ds : List Decl) → list_all (is_shaped_parameter true) ds ≡ true → AreNamed ds
parameters_named [] h = tt
parameters_named (d ∷ ds) h = (parameter_named d (left_of (is_shaped_parameter true d) _ h), parameters_named ds (right_of (is_shaped_parameter true d) _ h))

pub found_named : (ds : List Decl) → are_named ds ≡ true → AreNamed ds
found_named [] h = tt
found_named (d ∷ ds) h = (named d (left_of (is_some (out-Decl d).name) _ h), found_named ds (right_of (is_some (out-Decl d).name) _ h))
