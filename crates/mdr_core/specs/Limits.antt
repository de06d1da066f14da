-- protocol
-- What a run or a text can have too much of to be held, and how much of it is held at most.
use Rattle.std.specs.Prelude.{ℕ}
use Rattle.mdr_core.specs.declared.memory_error.Limit.{Limit}
use Rattle.mdr_core.specs.declared.memory_error.Limit.TheVariants as limit

abbrev pub most : Limit → ℕ
most limit.Turns = 18446744073709551615
most limit.Calls = 18446744073709551615
most limit.Allocations = 18446744073709551615
most limit.Messages = 18446744073709551613
most limit.Births = 18446744073709551615
most limit.Blocks = 4294967296
most limit.Cells = 4294967295
most limit.Bytes = 4294967294
most limit.Parts = 16777216
most limit.Fields = 4294967295
most limit.Items = 2147483647
most limit.Deep = 18446744073709551615
most limit.Active = 4294967295
most limit.Levels = 1000
