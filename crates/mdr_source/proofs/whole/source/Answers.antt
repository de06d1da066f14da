use Rattle.std.proofs.Common.{subst, sym, Err}
use Rattle.mdr_syntax.specs.declared.error.LexError.{LexError}
use Rattle.mdr_syntax.specs.Gives.{Fails}
use Rattle.mdr_syntax.specs.Tokens.{tokens_of}
use Rattle.mdr_source.specs.declared.refusal.Refusal.TheVariants as refusal
use Rattle.mdr_source.specs.Sources.{Reading, Comes}
use Rattle.mdr_source.proofs.whole.source.Goals as goal

pub returns-in_ok-read-in-Ok : goal.returns-in_ok-read-in-Ok
returns-in_ok-read-in-Ok c =
    Comes.tokens c.in-Ok.tokens c.in-Ok.ensures.exact (subst (λ ts. Reading ts c.in_ok-read-in-Ok.read) c.as_slice.ensures c.in_ok-read-in-Ok.ensures)

pub returns-in-Err-BadByte : goal.returns-in-Err-BadByte
returns-in-Err-BadByte c =
    subst (λ p. Comes c.args.bytes.now (Err (refusal.BadByte p))) (sym c.in-Err-BadByte.place-is)
    (Comes.bad_byte c.in-Err-BadByte.place (subst (λ (x : LexError). Fails x (tokens_of c.args.bytes.now)) c.in-Err-BadByte.field-0-is c.in-Err-BadByte.ensures.exact))

pub returns-in-Err-BadNumber : goal.returns-in-Err-BadNumber
returns-in-Err-BadNumber c =
    subst (λ p. Comes c.args.bytes.now (Err (refusal.BadNumber p))) (sym c.in-Err-BadNumber.place-is)
    (Comes.bad_number c.in-Err-BadNumber.place (subst (λ (x : LexError). Fails x (tokens_of c.args.bytes.now)) c.in-Err-BadNumber.field-0-is c.in-Err-BadNumber.ensures.exact))

pub returns-in-Err-OpenComment : goal.returns-in-Err-OpenComment
returns-in-Err-OpenComment c =
    subst (λ p. Comes c.args.bytes.now (Err (refusal.OpenComment p))) (sym c.in-Err-OpenComment.place-is)
    (Comes.open_comment c.in-Err-OpenComment.place (subst (λ (x : LexError). Fails x (tokens_of c.args.bytes.now)) c.in-Err-OpenComment.field-0-is c.in-Err-OpenComment.ensures.exact))

pub returns-in-Err-OpenText : goal.returns-in-Err-OpenText
returns-in-Err-OpenText c =
    subst (λ p. Comes c.args.bytes.now (Err (refusal.OpenText p))) (sym c.in-Err-OpenText.place-is)
    (Comes.open_text c.in-Err-OpenText.place (subst (λ (x : LexError). Fails x (tokens_of c.args.bytes.now)) c.in-Err-OpenText.field-0-is c.in-Err-OpenText.ensures.exact))
