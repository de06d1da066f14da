-- What a source comes to, from one stage to the next.
use Rattle.std.proofs.Common.{◌≡◌, sym, subst, false, List, Some, Err}
use Rattle.mdr_syntax.specs.declared.token.Token.{Token}
use Rattle.mdr_parse.specs.declared.error.ParseError.{ParseError}
use Rattle.mdr_parse.specs.declared.error.ParseError.TheVariants as parse
use Rattle.mdr_parse.specs.Parsing.{Parses}
use Rattle.mdr_source.specs.declared.refusal.Refusal.{Refusal}
use Rattle.mdr_source.specs.declared.refusal.Refusal.TheVariants as refusal
use Rattle.mdr_source.specs.Sources.{refused_as, Reading}

pub unread : (ts : List Token) (e : ParseError) (r : Refusal) → Parses false ts (Err e) → refused_as e ≡ Some r → Reading ts (Err r)
unread ts (parse.NotInProfile p word) r (n, f, is) d =
    let e : refusal.NotInProfile p word ≡ r = cc in
    subst (λ x. Reading ts (Err x)) e (Reading.left_out n p word f (sym is))
unread ts (parse.Expected p) r (n, f, is) d =
    let e : refusal.Expected p ≡ r = cc in
    subst (λ x. Reading ts (Err x)) e (Reading.unexpected n p f (sym is))
unread ts parse.OutOfMemory r f d = absurd cc
