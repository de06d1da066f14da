-- Places one step on: the next statement, and the list of a statement that is under way.
use Rattle.std.proofs.Common.{◌≡◌, ℕ, zero, suc, List, [], ◌∷◌, ◌++◌, Some, None, refl}
use Rattle.mdr_core.specs.Code.{Code, Codes}
use Rattle.mdr_events.specs.Held.{Item, Rest}
use Rattle.mdr_events.specs.Values.{wires_of}
use Rattle.mdr_exec.specs.declared.places.Position.{Position}
use Rattle.mdr_exec.specs.Holding.{around, ends_with}
use Rattle.mdr_exec.specs.Places.{behind, code_at, code_before, inner, part_of}

-- a statement stands at the index, and the next ones follow it
pub next_stands : (cs : Codes) (i : ℕ) (c : Code) → code_at cs i ≡ Some c → behind cs i ≡ Codes.Then c (behind cs (suc i))
unfolding code_at behind
next_stands Codes.End i c h = absurd (cc h)
next_stands (Codes.Then d cs) zero c h = Prim.cc h
next_stands (Codes.Then d cs) (suc i) c h = next_stands cs i c h

-- none does
pub none_stands : (cs : Codes) (i : ℕ) → code_at cs i ≡ None → behind cs i ≡ Codes.End
unfolding code_at behind
none_stands Codes.End zero h = refl
none_stands Codes.End (suc i) h = refl
none_stands (Codes.Then d cs) zero h = absurd (cc h)
none_stands (Codes.Then d cs) (suc i) h = none_stands cs i h

-- the path into a list of the statement that is under way
pub path_into : (path : List Position) (p : Position) (cs : Codes) → inner (path ++ p ∷ []) cs ≡ part_of p.part (code_before (inner path cs) p.next)
unfolding inner
path_into [] p cs = refl
path_into (q ∷ path) p cs = path_into path p (part_of q.part (code_before cs q.next))

-- and what lies around that list
pub around_into : (path : List Position) (p : Position) (cs : Codes) (items : List Item)
    → around (path ++ p ∷ []) cs items ≡ ends_with p.part (wires_of p.born) (code_before (inner path cs) p.next) ++ Rest (behind (inner path cs) p.next) ∷ around path cs items
unfolding inner around
around_into [] p cs items = refl
around_into (q ∷ path) p cs items =
    around_into path p (part_of q.part (code_before cs q.next)) (ends_with q.part (wires_of q.born) (code_before cs q.next) ++ Rest (behind cs q.next) ∷ items)
