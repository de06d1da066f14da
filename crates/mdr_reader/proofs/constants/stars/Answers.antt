use Rattle.std.proofs.Common.{refl, sym, ◌∙◌, arith}
use Rattle.std.proofs.lemmas.Bool.{le-leb}
use Rattle.mdr_grammar.specs.declared.sort.Sort.{Sort}
use Rattle.mdr_grammar.specs.Forms.Nonterminal.{stars}
use Rattle.mdr_reader.proofs.Arms.{past, not_past, read_again}
use Rattle.mdr_reader.proofs.Loops.{full_stars, over}
use Rattle.mdr_reader.proofs.Nones.{no_stars}
use Rattle.mdr_reader.proofs.constants.stars.Goals as goal

pub loop-count-preserved : goal.loop-count-preserved
loop-count-preserved c = record { read = sym (past c.args.reader.halves (stars c.loop-count.count) Sort.Star c.loop-count.rest.now c.in-Some.ensures.found (le-leb _ _ (omega (arith, c.loop-count-test.true))) refl ∙ read_again _) ∙ c.loop-count.invariant.read; shorter = omega (arith, c.in-Some.ensures.shorter, c.loop-count.invariant.shorter) }

pub returns-in-None-clause-reads : goal.returns-in-None-clause-reads
returns-in-None-clause-reads c = sym c.loop-count.invariant.read ∙ not_past c.args.reader.halves (stars c.loop-count.count) Sort.Star c.loop-count.rest.now c.in-None.ensures.found (no_stars c.loop-count.count)

pub returns-clause-reads : goal.returns-clause-reads
returns-clause-reads c = sym c.loop-count.invariant.read ∙ full_stars c.args.reader.halves c.loop-count.count c.loop-count.rest.now (over _ _ (omega (arith, c.loop-count-test.false)))
