-- protocol
-- Held work that can go on, and held work that waits for the answers of a question.
use Rattle.std.specs.Prelude.{◌≡◌, Bool, true, false, ◌&&◌, ◌==◌, List, [], ◌∷◌, length}
use Rattle.mdr_meaning.specs.Tree.{Asked}
use Rattle.mdr_events.specs.Held.{Front, WaitsValue, WaitsParams, WaitsObject, WaitsDeath, Item, Base, Held}

-- ---- fronts

-- a question is open
abbrev pub is_waiting : Front → Bool
is_waiting (WaitsValue n goal) = true
is_waiting (WaitsParams count) = true
is_waiting (WaitsObject i) = true
is_waiting (WaitsDeath flow) = true
is_waiting _ = false

-- its answer is the value of a call
abbrev pub takes_value : Front → Bool
takes_value (WaitsValue n goal) = true
takes_value _ = false

-- it is this one: where it is for the objects of parameters, there is room for a pointer to each
abbrev pub takes_answers : Asked → Front → Bool
takes_answers asked (WaitsParams count) = (asked.service == 13) && (count == length asked.shapes)
takes_answers asked front = is_waiting front

-- ---- held work

-- a function was started, and hasn't ended
abbrev pub is_started : List Item → Bool
is_started [] = false
is_started (Base outer front ∷ items) = true
is_started (item ∷ items) = is_started items

-- no question is open, so that it goes on by itself
pub record IsReady (h : Held) : Type 0 where
  pub calm : is_waiting h.front ≡ false
  pub started : is_started h.items ≡ true

-- one is, to which such answers belong
pub record IsOpen (takes : Front → Bool) (h : Held) : Type 0 where
  pub takes_them : takes h.front ≡ true
  pub started : is_started h.items ≡ true
