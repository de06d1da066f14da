-- believed
-- Which births and deaths the user half accepts, and what messages grant it.
use Rattle.std.specs.Prelude.{ℕ, ◌+◌, Bool, true, not, ◌&&◌, List, [], ◌∷◌, map, length, Option, Some, None, Ok, Err, nat_lt, nat_le, is_none}
use Rattle.std.specs.List.{list_all}
use Rattle.mdr_core.specs.declared.program.Program.{Program}
use Rattle.mdr_model.specs.declared.message.New.{New}
use Rattle.mdr_model.specs.declared.message.Message.TheVariants as message
use Rattle.mdr_model.specs.Values.{type_at}
use Rattle.mdr_model.specs.Memory.{Memory, Cell, size_of, is_live}
use Rattle.mdr_model.specs.Copies.{with_news, without}
use Rattle.mdr_model.specs.KernelState.{Reading}

-- ---- which messages are accepted

-- serials rise
abbrev pub rise_after : Option ℕ → List ℕ → Bool
rise_after before [] = true
rise_after None (n ∷ ns) = rise_after (Some n) ns
rise_after (Some b) (n ∷ ns) = nat_lt b n && rise_after (Some n) ns

-- the block is known and is no global
abbrev pub may_die : Program → Memory → ℕ → Bool
may_die program copy serial = is_live copy serial && not (nat_lt serial (length program.globals))

abbrev pub deaths_fit : Program → Memory → List ℕ → Bool
deaths_fit program copy deaths = rise_after None deaths && list_all (may_die program copy) deaths

abbrev pub has_type : Program → ℕ → Bool
has_type program n = not (is_none (type_at program n))

-- a type of the table, and 1 to 65,536 cells
abbrev pub has_shape : Program → New → Bool
has_shape program n = has_type program n.ty && nat_lt 0 (size_of program n) && nat_le (size_of program n) 65536

-- the block is new, and has a shape
abbrev pub may_come : Program → Memory → New → Bool
may_come program copy n = not (is_live copy n.serial) && has_shape program n

abbrev pub news_fit : Program → Memory → List New → Bool
news_fit program copy news = rise_after None (map (λ (n : New). n.serial) news) && list_all (may_come program copy) news

-- the copy once the deaths and the new blocks are in it
abbrev pub renewed_copy : Program → List ℕ → List New → Memory → Memory
renewed_copy program deaths news copy = with_news program news (without deaths copy)

-- the births and deaths of a message fit
unfoldable pub lives_fit : Program → Memory → List ℕ → List New → Bool
lives_fit program copy deaths news = deaths_fit program copy deaths && news_fit program (without deaths copy) news

-- the visible cells that are left when blocks died
abbrev pub still_live : Memory → Cell → Bool
still_live copy c = is_live copy c.serial

-- ---- ticks

-- the ticks that a message grants
abbrev pub granted : Reading → ℕ
granted (Ok (message.Call call)) = call.rest
granted (Ok (message.Back back)) = back.rest
granted (Ok _) = 0
granted (Err f) = 0

unfoldable pub allowance : List Reading → ℕ
allowance [] = 0
allowance (m ∷ ms) = granted m + allowance ms
