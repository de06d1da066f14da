use Rattle.std.proofs.Common.{◌<◌, ◌≤◌, length, arith}
use Rattle.std.proofs.lemmas.Result.{err_from_is_err_and}
use Rattle.mdr_syntax.specs.Places.{first_place}
use Rattle.mdr_syntax.specs.Tokens.{tokens_of}
use Rattle.mdr_syntax.proofs.Lexing.{begins, goes_on, ends, is_done, some_left, none_left}
use Rattle.mdr_syntax.proofs.lexer.tokens.Goals as goal

pub loop-rest-init : goal.loop-rest-init
unfolding tokens_of
loop-rest-init c = record {
  reads = rw c.new-tokens.ensures (begins _ first_place c.args.bytes.now);
  line = omega arith;
  column = omega arith;
  short = omega (arith, c.in_ok-within.ensures.ok);
}

pub returns-in_err-piece-clause-exact : goal.returns-in_err-piece-clause-exact
returns-in_err-piece-clause-exact c =
    let p = err_from_is_err_and c.from_residual-in_err-piece.result c.from_residual-in_err-piece.ensures.1 in
    let some : 0 < length c.loop-rest.rest.now = some_left c.is_empty.result (length c.loop-rest.rest.now) c.is_empty.ensures c.loop-rest-test.true in
    rw (p.1, p.2) (ends c.in_err-piece.field-0.0 c.loop-rest.tokens c.loop-rest.is_fresh c.loop-rest.place c.loop-rest.rest.now (tokens_of c.args.bytes.now) some c.in_err-piece.ensures.value c.loop-rest.invariant.reads)

pub loop-rest-preserved : goal.loop-rest-preserved
loop-rest-preserved c =
    let some : 0 < length c.loop-rest.rest.now = some_left c.is_empty.result (length c.loop-rest.rest.now) c.is_empty.ensures c.loop-rest-test.true in
    let next = goes_on c.loop-rest.tokens c.push_piece.new.tokens c.loop-rest.is_fresh c.loop-rest.place c.loop-rest.rest.now c.in_ok-piece.piece (tokens_of c.args.bytes.now) some c.in_ok-piece.ensures.value c.in_ok-push_piece.ensures c.loop-rest.invariant.reads in
    record {
      reads = rw (c.is_fresh_after-is_fresh.ensures, c.place_after-place.ensures.value, c.split_at.ensures.front, c.split_at.ensures.back) next;
      line = omega (arith, c.place_after-place.ensures.line, c.split_at.ensures.front_len, c.split_at.ensures.back_len, c.loop-rest.invariant.line);
      column = omega (arith, c.place_after-place.ensures.column, c.split_at.ensures.front_len, c.split_at.ensures.back_len, c.loop-rest.invariant.column);
      short = c.loop-rest.invariant.short;
    }

pub returns-clause-exact : goal.returns-clause-exact
returns-clause-exact c =
    let none : length c.loop-rest.rest.now ≤ 0 = none_left c.is_empty.result (length c.loop-rest.rest.now) c.is_empty.ensures c.loop-rest-test.false in
    rw c.in_ok-push.ensures.ok (is_done c.loop-rest.tokens c.loop-rest.is_fresh c.loop-rest.place c.loop-rest.rest.now (tokens_of c.args.bytes.now) none c.loop-rest.invariant.reads)
