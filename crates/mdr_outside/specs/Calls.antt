-- believed
-- The calls that were made of what lies outside, in their order.
use Rattle.std.specs.Prelude.{ℕ, List, [], ◌∷◌, ◌++◌}
use Rattle.mdr_outside.specs.declared.shelf.ReadAnswer.{ReadAnswer}
use Rattle.mdr_outside.specs.declared.shelf.WriteAnswer.{WriteAnswer}

-- a call of a shelf, with its answer
pub data ShelfCall : Type 0 where
  Read : (name : List ℕ) (limit : ℕ) (answer : ReadAnswer) → ShelfCall
  Written : (name bytes : List ℕ) (answer : WriteAnswer) → ShelfCall

-- a call of a far side: the two texts, or a message
pub data FarCall : Type 0 where
  Loads : (user plan : List ℕ) → FarCall
  Sends : (message : List ℕ) → FarCall

-- one call more
abbrev pub and_then : {A : Type 0} → List A → A → List A
and_then calls call = calls ++ call ∷ []
