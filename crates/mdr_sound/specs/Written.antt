-- for proofs
-- What the source of a body is made of, beside its form: numbers, names, and statements where no declaration may stand (C99 6.4.4.1, 6.8).
use Rattle.std.specs.Prelude.{◌≡◌, ℕ, false, List, [], ◌∷◌, Option, Some, None}
use Rattle.mdr_syntax.specs.declared.tree.Decl.{Decl, out-Decl}
use Rattle.mdr_operand.specs.Written.{Written, Line, Lines, Clauses}
use Rattle.mdr_body.specs.Simple.{declares}
use Rattle.mdr_sound.specs.Knowing.{HasNumbers}

-- what declares a parameter or a local has a name (6.7.5, 6.9.1, paragraph 5)
pub record IsNamed (d : Decl) : Type 0 where
  pub name : List ℕ
  pub is : (out-Decl d).name ≡ Some name

abbrev pub AreNamed : List Decl → Type 0
AreNamed [] = Unit {0}
AreNamed (d ∷ ds) = IsNamed d × AreNamed ds

abbrev pub PerhapsHasNumbers : Option Written → Type 0
PerhapsHasNumbers None = Unit {0}
PerhapsHasNumbers (Some w) = HasNumbers w

abbrev pub IsStatement : Line → Type 0
IsStatement l = declares l ≡ false

abbrev pub AreStatements : Lines → Type 0
AreStatements Lines.End = Unit {0}
AreStatements (Lines.Then l ls) = IsStatement l × AreStatements ls

-- each number is one of its kind, each local has a name, and what is a part of an `if`, a loop or a clause is no declaration (6.8.1, 6.8.4, 6.8.5)
abbrev mutual
  pub IsProper : Line → Type 0
  IsProper (Line.Empty p) = Unit {0}
  IsProper (Line.Block p ls) = AreProper ls
  IsProper (Line.Local p d init) = IsNamed d × PerhapsHasNumbers init
  IsProper (Line.Assign p at op a b) = HasNumbers a × HasNumbers b
  IsProper (Line.Plain p w) = HasNumbers w
  IsProper (Line.If p e one other) = HasNumbers e × ((IsStatement one × IsProper one) × (AreStatements other × AreProper other))
  IsProper (Line.While p e body) = HasNumbers e × (IsStatement body × IsProper body)
  IsProper (Line.For p init test step body) = (AreProper init × PerhapsHasNumbers test) × ((AreStatements step × AreProper step) × (IsStatement body × IsProper body))
  IsProper (Line.Do p body e) = (IsStatement body × IsProper body) × HasNumbers e
  IsProper (Line.Switch p e cs) = HasNumbers e × AreProperClauses cs
  IsProper (Line.Return p e) = PerhapsHasNumbers e
  IsProper (Line.Break p) = Unit {0}
  IsProper (Line.Continue p) = Unit {0}

  pub AreProper : Lines → Type 0
  AreProper Lines.End = Unit {0}
  AreProper (Lines.Then l ls) = IsProper l × AreProper ls

  pub AreProperClauses : Clauses → Type 0
  AreProperClauses Clauses.NoPart = Unit {0}
  AreProperClauses (Clauses.Part labels ls cs) = (AreStatements ls × AreProper ls) × AreProperClauses cs
