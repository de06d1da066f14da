-- Births and deaths are counted alike in both lists.
use Rattle.std.proofs.Common.{◌≡◌, ◌+◌, ℕ, Bool, true, false, cond, List, [], ◌∷◌, ◌++◌, None, refl, sym, ◌∙◌, arith}
use Rattle.std.proofs.lemmas.List.Sums.{sum_by-append}
use Rattle.mdr_mem.specs.declared.cells.Life.{Life}
use Rattle.mdr_mem.specs.declared.cells.Life.TheVariants as life
use Rattle.mdr_mem.specs.Contents.{Contents, IsInOrder, births_in, handle_of, is_birth}
use Rattle.mdr_model.specs.declared.memory.Cell.{Cell}
use Rattle.mdr_model.specs.Agreement.{names_it}
use Rattle.mdr_model.specs.Memory.{cell_at, is_live, killed}
use Rattle.mdr_world.proofs.BlockLaws.{kill-none, none-born}
use Rattle.mdr_world.proofs.HandleLaws.{dead}

pub births-birth : (ls : List Life) (n : ℕ) → births_in (ls ++ life.Birth n ∷ []) ≡ births_in ls + 1
births-birth ls n = sum_by-append (λ l. cond (is_birth l) 1 0) ls (life.Birth n ∷ [])

pub births-death : (ls : List Life) (serial : ℕ) → births_in (ls ++ life.Death serial ∷ []) ≡ births_in ls
births-death ls serial = grind (arith, sum_by-append (λ l. cond (is_birth l) 1 0) ls (life.Death serial ∷ []))

unnamed : (s : Contents) → IsInOrder s → (d : ℕ) → is_live s.memory d ≡ false → (c : Cell) → names_it d (cell_at s.memory c) ≡ false
unnamed s order d e c = of (names_it d (cell_at s.memory c)) refl
  where
    never : {A : Type 0} → true ≡ false → A
    never k = absurd cc

    of : (t : Bool) → names_it d (cell_at s.memory c) ≡ t → t ≡ false
    of true k = never (sym (order.normal c d k) ∙ e)
    of false k = refl

pub kill-dead : (s : Contents) → IsInOrder s → (d : ℕ) → handle_of s.handles d ≡ None → s.memory ≡ killed d s.memory
kill-dead s order d e =
    let gone : is_live s.memory d ≡ false = dead s order d e in
    sym (kill-none d s.memory order.rises (none-born s.memory d gone) (unnamed s order d gone))
