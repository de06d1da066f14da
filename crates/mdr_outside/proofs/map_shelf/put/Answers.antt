use Rattle.std.proofs.Common.{sym, refl}
use Rattle.mdr_outside.proofs.Files.{Puts-set, Puts-push}
use Rattle.mdr_outside.specs.MapShelf.{view_of}
use Rattle.mdr_outside.proofs.map_shelf.put.Goals as goal

pub returns-in-Some-clause-ok : goal.returns-in-Some-clause-ok
returns-in-Some-clause-ok c =
    Puts-set view_of c.args.files.now.items c.in-Some.at c.index_mut.result.now (c.index_mut.result.now.0, c.in_ok-copy.copy)
    c.args.name.now c.args.bytes.now
    (sym (rw c.deref.ensures.value at c.in-Some.ensures)) c.index_mut.ensures.value refl c.in_ok-copy.ensures.items

pub returns-in_ok-push-in-None-clause-ok : goal.returns-in_ok-push-in-None-clause-ok
returns-in_ok-push-in-None-clause-ok c =
    rw c.in_ok-push-in-None.ensures.items
    (Puts-push view_of c.args.files.now.items (c.in_ok-from_str-in-None.field-0, c.in_ok-copy.copy) c.args.name.now c.args.bytes.now
    (sym (rw c.deref.ensures.value at c.in-None.ensures)) c.in_ok-from_str-in-None.ensures.ok c.in_ok-copy.ensures.items)
