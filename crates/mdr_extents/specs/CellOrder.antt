-- believed
-- Cells in their order: by serial, and in a block by index.
use Rattle.std.specs.Prelude.{◌≡◌, ◌<◌, true, ◌⊎◌}
use Rattle.std.proofs.Math.Nat.{lt_irrefl, lt_trans}
use Rattle.std.proofs.Common.{refl, sym, ◌∙◌, subst, inl, inr}
use Rattle.std.proofs.lemmas.Bool.{eqb-true, eq-eqb, and_parts, and_from}
use Rattle.mdr_model.specs.declared.memory.Cell.{Cell}
use Rattle.mdr_model.specs.Sets.{is_same_cell}
use Rattle.mdr_paths.specs.Paths.{Nodes}

abbrev pub IsBefore : Cell → Cell → Type 0
IsBefore c d = (c.serial < d.serial) ⊎ ((c.serial ≡ d.serial) × (c.index < d.index))

pub same_is : (c d : Cell) → is_same_cell c d ≡ true → c ≡ d
same_is c d e =
    let p = and_parts _ _ e in
    λ i. record { serial = eqb-true c.serial d.serial p.0 i; index = eqb-true c.index d.index p.1 i }

pub cells_apart : (c d : Cell) → IsBefore c d → IsBefore d c → ⊥
cells_apart c d (inl p) (inl q) = lt_irrefl c.serial (lt_trans p q)
cells_apart c d (inl p) (inr q) = lt_irrefl c.serial (subst (λ x. c.serial < x) q.0 p)
cells_apart c d (inr p) (inl q) = lt_irrefl d.serial (subst (λ x. d.serial < x) p.0 q)
cells_apart c d (inr p) (inr q) = lt_irrefl c.index (lt_trans p.1 q.1)

pub cells_through : (c d e : Cell) → IsBefore c d → IsBefore d e → IsBefore c e
cells_through c d e (inl p) (inl q) = inl (lt_trans p q)
cells_through c d e (inl p) (inr q) = inl (subst (λ x. c.serial < x) q.0 p)
cells_through c d e (inr p) (inl q) = inl (subst (λ x. x < e.serial) (sym p.0) q)
cells_through c d e (inr p) (inr q) = inr (p.0 ∙ q.0, lt_trans p.1 q.1)

-- cells as nodes of graphs are
abbrev pub cells : Nodes Cell
cells = record {
  same = is_same_cell;
  before = IsBefore;
  equal = same_is;
  itself = λ c. and_from _ _ (eq-eqb c.serial c.serial refl) (eq-eqb c.index c.index refl);
  apart = cells_apart;
  through = cells_through;
}
