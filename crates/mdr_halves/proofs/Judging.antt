-- What a tree means doesn't depend on its places.
use Rattle.std.proofs.Common.{◌≡◌, ℕ, List, Result, Ok, Err, refl, sym, subst, ◌∙◌}
use Rattle.mdr_core.specs.declared.program.Program.{Program}
use Rattle.mdr_faults.specs.declared.fault.Fault.{Fault}
use Rattle.mdr_faults.specs.Faults.{Checked, Right, IsFirst, first}
use Rattle.mdr_faults.proofs.Least.{first_is_in, first_is_least}
use Rattle.mdr_placeless.specs.Alike.{AreAlike}
use Rattle.mdr_placeless.proofs.Programs.{programs_alike, right_same}
use Rattle.mdr_roundtrip.specs.Itemised.{unplaced_tree}
use Rattle.mdr_sound.proofs.Rights.{same_right}
use Rattle.mdr_source.specs.declared.outcome.Source.{Source}
use Rattle.mdr_source.specs.declared.refusal.Refusal.{Refusal}
use Rattle.mdr_source.specs.declared.refusal.Refusal.TheVariants as refusals
use Rattle.mdr_source.specs.Sources.{Comes, Judged, Means, typed_tree}
use Rattle.mdr_source.proofs.Whose.{come_source}
use Rattle.mdr_syntax.specs.declared.tree.Tree.{Tree}

-- ---- a tree that is right

-- a program is that of the tree
abbrev pub IsRight : Tree → Program → Type 0
IsRight tree program = typed_tree tree ≡ Right program

pub source_right : (bytes : List ℕ) (source : Source) → Comes bytes (Ok source) → IsRight source.tree source.program
source_right bytes source comes = (come_source bytes source comes).judged

pub right_moved : (a b : Tree) (program : Program) → unplaced_tree a ≡ unplaced_tree b → IsRight a program → IsRight b program
right_moved a b program e r = right_same program (programs_alike a b e) r

pub same_program : (tree : Tree) (p q : Program) → IsRight tree p → IsRight tree q → p ≡ q
same_program tree p q r s = same_right p q (sym r ∙ s)

pub source_means : (bytes : List ℕ) (source : Source) (other : Tree) → Comes bytes (Ok source) → unplaced_tree source.tree ≡ unplaced_tree other → Means other (Ok source.program)
source_means bytes source other comes e =
    Judged.right source.program (right_moved source.tree other source.program e (source_right bytes source comes)) (come_source bytes source comes).numbers

-- ---- a tree that is refused

pub record IsRefused (tree : Tree) : Type 0 where
  pub refusal : Refusal
  pub means : Means tree (Err refusal)

abbrev pub IsErr : {A B : Type 0} → Result A B → Type 0
IsErr (Ok x) = ⊥
IsErr (Err e) = Unit {0}

-- by what the rules of types say of both
judged_moved : (b : Tree) (c : Checked Program) (o : Result Program Refusal) → AreAlike c (typed_tree b) → Judged c o → IsErr o → IsRefused b
judged_moved b c _ h (Judged.fault f i) e = by c (typed_tree b) refl h i
  where
    by : (c d : Checked Program) → typed_tree b ≡ d → AreAlike c d → IsFirst f c → IsRefused b
    by _ _ k (AreAlike.Rights x) i = absurd i
    by _ _ k (AreAlike.Wrongs fs gs) i = record { refusal = refusals.Fault (first gs); means = subst (λ (d : Checked Program). Judged d (Err (refusals.Fault (first gs)))) (sym k) (Judged.fault (first gs) (first_is_in gs, first_is_least gs)) }
judged_moved b c _ h (Judged.right program is few) e = absurd e

pub refused_moved : (a b : Tree) (o : Result Program Refusal) → unplaced_tree a ≡ unplaced_tree b → Means a o → IsErr o → IsRefused b
refused_moved a b o e j t = judged_moved b (typed_tree a) o (programs_alike a b e) j t

-- ---- not both

no_first : (c : Checked Program) (p : Program) (f : Fault) → c ≡ Right p → IsFirst f c → ⊥
no_first c p f e i = subst (λ (d : Checked Program). IsFirst f d) e i

judged_once : (tree : Tree) (program : Program) (o : Result Program Refusal) → IsRight tree program → Judged (typed_tree tree) o → IsErr o → ⊥
judged_once tree program _ r (Judged.fault f i) t = no_first (typed_tree tree) program f r i
judged_once tree program _ r (Judged.right q is few) t = t

pub not_refused : (tree : Tree) (program : Program) (o : Result Program Refusal) → IsRight tree program → Means tree o → IsErr o → ⊥
not_refused tree program o r j t = judged_once tree program o r j t

abbrev pub IsRightOf : Tree → Result Program Refusal → Type 0
IsRightOf tree (Ok program) = IsRight tree program
IsRightOf tree (Err e) = Unit {0}

judged_right : (tree : Tree) (o : Result Program Refusal) → Judged (typed_tree tree) o → IsRightOf tree o
judged_right tree _ (Judged.fault f i) = tt
judged_right tree _ (Judged.right q is few) = is

pub meaning_right : (tree : Tree) (o : Result Program Refusal) → Means tree o → IsRightOf tree o
meaning_right tree o j = judged_right tree o j
