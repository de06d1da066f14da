-- protocol
-- The fields of a shelf in memory, as its state.
use Rattle.mdr_outside.specs.MapShelf.{ShelfState, named}
use Rattle.mdr_outside.specs.declared.map_shelf.MapShelf.TheInside.{Inside}

abbrev pub shelf_state : Inside → ShelfState
shelf_state s = record {
  files = named s.files.items;
  fails = s.calls.fails;
  calls = s.calls.made;
  faults = s.faults;
  absent = s.absent;
  long = s.long;
  unwritten = s.unwritten;
  history = s.history;
}
