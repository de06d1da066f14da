-- protocol
-- The fields of the plain memory, as what it holds.
use Rattle.std.specs.Prelude.{vec_capacity}
use Rattle.mdr_mem.specs.declared.rows.Rows.{Rows}
use Rattle.mdr_mem.specs.Contents.{Contents}
use Rattle.mdr_mem.specs.Rows.{IsSound, blocks_of}

abbrev pub contents_of : Rows → Contents
contents_of s = record {
  handles = s.live.items;
  memory = blocks_of s.live.items s.held.slots s.live.items;
  lives = s.lives.items;
}

abbrev pub AreSound : Rows → Type 0
AreSound s = IsSound s.live.items s.held.slots s.lives.items s.births (vec_capacity s.lives)
