-- A statement that declares nothing hides no name, and takes none's address.
use Rattle.std.proofs.Common.{ℕ, ◌≡◌, false, List, refl}
use Rattle.mdr_operand.specs.Written.{Line, Lines}
use Rattle.mdr_body.specs.Addresses.{hides}
use Rattle.mdr_body.specs.Locals.{is_taken}
use Rattle.mdr_body.specs.Simple.{declares}
use Rattle.mdr_body.specs.Statements.{ForTail, head_taken}
use Rattle.mdr_body.proofs.Apart.{differ}

pub hides_none : (name : List ℕ) (l : Line) → declares l ≡ false → false ≡ hides name l
hides_none name (Line.Empty p) h = refl
hides_none name (Line.Block p ls) h = refl
hides_none name (Line.Local p d init) h = absurd (differ h)
hides_none name (Line.Assign p at op a b) h = refl
hides_none name (Line.Plain p w) h = refl
hides_none name (Line.If p e one other) h = refl
hides_none name (Line.While p e body) h = refl
hides_none name (Line.For p init test step body) h = refl
hides_none name (Line.Do p body e) h = refl
hides_none name (Line.Switch p e cs) h = refl
hides_none name (Line.Return p e) h = refl
hides_none name (Line.Break p) h = refl
hides_none name (Line.Continue p) h = refl

pub taken_none : (rest : Lines) (l : Line) → declares l ≡ false → false ≡ is_taken l rest
taken_none rest (Line.Empty p) h = refl
taken_none rest (Line.Block p ls) h = refl
taken_none rest (Line.Local p d init) h = absurd (differ h)
taken_none rest (Line.Assign p at op a b) h = refl
taken_none rest (Line.Plain p w) h = refl
taken_none rest (Line.If p e one other) h = refl
taken_none rest (Line.While p e body) h = refl
taken_none rest (Line.For p init test step body) h = refl
taken_none rest (Line.Do p body e) h = refl
taken_none rest (Line.Switch p e cs) h = refl
taken_none rest (Line.Return p e) h = refl
taken_none rest (Line.Break p) h = refl
taken_none rest (Line.Continue p) h = refl

pub head_none : (rest : Lines) (tail : ForTail) (l : Line) → declares l ≡ false → false ≡ head_taken l rest tail
head_none rest tail (Line.Empty p) h = refl
head_none rest tail (Line.Block p ls) h = refl
head_none rest tail (Line.Local p d init) h = absurd (differ h)
head_none rest tail (Line.Assign p at op a b) h = refl
head_none rest tail (Line.Plain p w) h = refl
head_none rest tail (Line.If p e one other) h = refl
head_none rest tail (Line.While p e body) h = refl
head_none rest tail (Line.For p init test step body) h = refl
head_none rest tail (Line.Do p body e) h = refl
head_none rest tail (Line.Switch p e cs) h = refl
head_none rest tail (Line.Return p e) h = refl
head_none rest tail (Line.Break p) h = refl
head_none rest tail (Line.Continue p) h = refl
