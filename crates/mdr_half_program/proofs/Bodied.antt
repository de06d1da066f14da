-- What a file without faults comes to doesn't depend on uses.
use Rattle.mdr_check.specs.Files.{pieces_behind, known_behind, first_known}
use Rattle.mdr_check.specs.Names.{short_items}
use Rattle.mdr_check.specs.Uses.{UseRule, defined_functions, defined_rule, undefined}
use Rattle.mdr_check.specs.Whole.{kept, named, file_pieces}
use Rattle.mdr_check.specs.declared.file.Piece.{Piece}
use Rattle.mdr_core.specs.Layout.{chosen}
use Rattle.mdr_core.specs.declared.place.Place.{Place}
use Rattle.mdr_faults.specs.Faults.{Checked, Right, Wrong, Faults, One, both, next, each}
use Rattle.mdr_half_program.specs.Bodies.{NoUseIsAskedFor}
use Rattle.mdr_half_program.specs.Pieces.{unused}
use Rattle.mdr_headings.specs.Functions.{is_defined}
use Rattle.mdr_headings.specs.declared.function.Declared.{Declared}
use Rattle.mdr_syntax.specs.declared.tree.Item.{Item}
use Rattle.std.proofs.Common.{Bool, List, [], ap, false, map, refl, true, ◌∙◌, ◌∷◌, ◌≡◌}

apart : {A B C : Type 0} (c : Checked A) (d : Checked B) (rule : A → B → C) (z : C) → both c d (λ x y. Right (rule x y)) ≡ Right z → (x : A) × (y : B) × (c ≡ Right x) × (d ≡ Right y) × (rule x y ≡ z)
apart (Right x) (Right y) rule z e = (x, y, refl, refl, (let same : rule x y ≡ z = cc in same))
apart (Right x) (Wrong g) rule z e = absurd cc
apart (Wrong g) (Right y) rule z e = absurd cc
apart (Wrong g) (Wrong h) rule z e = absurd cc

-- ---- functions that are declared

right_again : (t : Bool) (x p : Place) (f g : Faults) → chosen t (Right x) (Wrong f) ≡ Right p → chosen t (Right x) (Wrong g) ≡ Right p
right_again true x p f g e = e
right_again false x p f g e = absurd cc

module _ (uses : UseRule) (items : List Item) where
  one_again : (d : Declared) (p : Place) → defined_rule uses items d ≡ Right p → defined_rule unused items d ≡ Right p
  one_again d p e = right_again (is_defined items d.name) d.place p (One (undefined uses items d)) (One (undefined unused items d)) e

  each_again : (ds : List Declared) (ps : List Place) → each (map (defined_rule uses items) ds) ≡ Right ps → each (map (defined_rule unused items) ds) ≡ Right ps
  each_again [] ps e = e
  each_again (d ∷ ds) ps e =
      let a = apart (defined_rule uses items d) (each (map (defined_rule uses items) ds)) (λ x xs. x ∷ xs) ps e in
      ap (λ (c : Checked Place). next c (each (map (defined_rule unused items) ds))) (one_again d a.0 a.2)
      ∙ ap (λ (c : Checked (List Place)). next (Right a.0) c) (each_again ds a.1 a.3)
      ∙ ap (λ (xs : List Place). Right xs) a.4

  functions_again : (ds : List Declared) (ps : List Place) → defined_functions uses items ds ≡ Right ps → defined_functions unused items ds ≡ Right ps
  unfolding defined_functions
  functions_again ds ps e = each_again ds ps e

-- ---- files

pub no_use_asked : NoUseIsAskedFor
unfolding file_pieces
no_use_asked body uses items xs e =
    let functions : List Declared = (known_behind (first_known items) items).functions in
    let pieces : Checked (List Piece) = pieces_behind body (first_known items) [] items in
    let outer = apart (short_items items) (both pieces (defined_functions uses items functions) kept) (λ u ys. ys) xs e in
    let inner = apart pieces (defined_functions uses items functions) (λ ys ps. ys) outer.1 outer.3 in
    ap (λ (c : Checked (List Place)). both (short_items items) (both pieces c kept) named) (functions_again uses items functions inner.1 inner.3)
    ∙ ap (λ (c : Checked (Unit {0})). both c (both pieces (Right inner.1) kept) named) outer.2
    ∙ ap (λ (c : Checked (List Piece)). both (Right outer.0) (both c (Right inner.1) kept) named) inner.2
    ∙ ap (λ (ys : List Piece). Right ys) (inner.4 ∙ outer.4)
