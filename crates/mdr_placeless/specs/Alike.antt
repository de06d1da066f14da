-- for proofs
-- What two forms come to, faults aside.
use Rattle.mdr_faults.specs.Faults.{Checked, Right, Wrong, Faults}

-- both are right and come to the same, or there are faults in both
pub data AreAlike {A : Type 0} : Checked A → Checked A → Type 0 where
  Rights : (x : A) → AreAlike (Right x) (Right x)
  Wrongs : (f g : Faults) → AreAlike (Wrong f) (Wrong g)
