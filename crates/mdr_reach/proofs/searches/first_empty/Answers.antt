use Rattle.std.proofs.Common.{◌+◌, ◌*◌, sym, ◌∙◌, map}
use Rattle.std.specs.Prelude.{slice_get}
use Rattle.mdr_extents.specs.Extent.{is_empty}
use Rattle.mdr_meaning.specs.Values.{wire_of}
use Rattle.mdr_reach.proofs.ExtentLaws.{search_found, search_more, search_over}
use Rattle.mdr_reach.proofs.searches.first_empty.Goals as goal

pub loop-i-preserved : goal.loop-i-preserved
loop-i-preserved c = search_more (λ i. is_empty (slice_get (map wire_of c.args.cells.now) (c.args.first + i * c.args.size + c.args.start))) c.loop-i.i c.args.end _ c.loop-i-test.true (sym c.is_element_empty.ensures ∙ c.if-is_element_empty.false) c.loop-i.invariant

pub returns-then-is_element_empty-clause-found : goal.returns-then-is_element_empty-clause-found
returns-then-is_element_empty-clause-found c = search_found (λ i. is_empty (slice_get (map wire_of c.args.cells.now) (c.args.first + i * c.args.size + c.args.start))) c.loop-i.i c.args.end _ c.loop-i-test.true (sym c.is_element_empty.ensures ∙ c.if-is_element_empty.true) c.loop-i.invariant

pub returns-clause-found : goal.returns-clause-found
returns-clause-found c = search_over (λ i. is_empty (slice_get (map wire_of c.args.cells.now) (c.args.first + i * c.args.size + c.args.start))) c.loop-i.i c.args.end _ c.loop-i-test.false c.loop-i.invariant
