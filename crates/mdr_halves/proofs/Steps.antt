-- What three texts come to, from one stage to the next.
use Rattle.std.proofs.Common.{◌≡◌, ℕ, true, false, List, Option, Some, None, Result, Ok, Err, refl, sym, ap, subst, ◌∙◌}
use Rattle.mdr_cut.specs.declared.texts.Texts.{Texts}
use Rattle.mdr_cut.specs.Cuts.{AreTexts}
use Rattle.mdr_body.specs.Uses.{first_use}
use Rattle.mdr_core.specs.Sound.{IsSound}
use Rattle.mdr_parse.specs.declared.error.ParseError.{ParseError}
use Rattle.mdr_parse.specs.declared.error.ParseError.TheVariants as parse
use Rattle.mdr_parse.specs.Parsing.{Parses}
use Rattle.mdr_print.specs.Items.{printed}
use Rattle.mdr_roundtrip.specs.Again.{IsPrintedAsSource}
use Rattle.mdr_sound.specs.Sources.{IsProgramOf}
use Rattle.mdr_sound.proofs.Sourced.{sources_sound}
use Rattle.mdr_source.specs.declared.outcome.Source.{Source}
use Rattle.mdr_source.specs.declared.refusal.Refusal.{Refusal}
use Rattle.mdr_source.specs.Sources.{Comes}
use Rattle.mdr_source.proofs.Whose.{come_source}
use Rattle.mdr_syntax.specs.declared.error.LexError.{LexError}
use Rattle.mdr_syntax.specs.declared.error.LexError.TheVariants as lex
use Rattle.mdr_syntax.specs.declared.token.Token.{Token}
use Rattle.mdr_syntax.specs.declared.tree.Item.{Item}
use Rattle.mdr_syntax.specs.declared.tree.Tree.{Tree}
use Rattle.mdr_syntax.specs.Gives.{Fails}
use Rattle.mdr_syntax.specs.Tokens.{tokens_of}
use Rattle.mdr_halves.specs.declared.mismatch.Mismatch.{Mismatch}
use Rattle.mdr_halves.specs.declared.mismatch.Which.{Which}
use Rattle.mdr_halves.specs.declared.mismatch.Which.TheVariants as which
use Rattle.mdr_halves.specs.Reads.{lexing_line, parsing_line, IsFaultOn, IsHalf, IsUnread}
use Rattle.mdr_halves.specs.Joins.{tree_with, AreJoined}
use Rattle.mdr_halves.specs.Stages.{AreRead, IsRead, TreesJoin, IsJoinedText, Joining, OtherIn, FirstOther, IsCompared}
use Rattle.mdr_halves.specs.Whole.{at, IsOther, Come}
use Rattle.mdr_halves.proofs.Coming.{source_same, text_refused}
use Rattle.mdr_halves.proofs.Judging.{source_means}
use Rattle.mdr_halves.proofs.Placing.{texts_moved}
use Rattle.mdr_halves.proofs.Shaping.{joined_again}

-- ---- the text of a half

pub fault_on : (tokens : List Token) (e : ParseError) (line : ℕ) → Parses true tokens (Err e) → parsing_line e ≡ Some line → IsFaultOn tokens line
fault_on tokens (parse.NotInProfile p word) line (n, first, is) h = record { number = n; fault = first; on = ap parsing_line (sym is) ∙ h }
fault_on tokens (parse.Expected p) line (n, first, is) h = record { number = n; fault = first; on = ap parsing_line (sym is) ∙ h }
fault_on tokens parse.OutOfMemory line f h = absurd cc

lexed : (e : LexError) (line : ℕ) (read : Result (List Token) LexError) → Fails e read → lexing_line e ≡ Some line → read ≡ Err e
lexed (lex.BadByte p) line read f h = f
lexed (lex.BadNumber p) line read f h = f
lexed (lex.OpenComment p) line read f h = f
lexed (lex.OpenText p) line read f h = f
lexed lex.OutOfMemory line read f h = absurd cc

pub no_tokens : (text : List ℕ) (e : LexError) (line : ℕ) → Fails e (tokens_of text) → lexing_line e ≡ Some line → IsUnread text line
no_tokens text e line f h = IsUnread.lexical e (lexed e line (tokens_of text) f h) h

pub read_tokens : (text : List ℕ) (tokens : List Token) (o : Result Tree ℕ) → tokens_of text ≡ Ok tokens → AreRead tokens o → IsRead text o
read_tokens text tokens (Ok tree) e r = record { tokens = tokens; are_tokens = e; reads = r }
read_tokens text tokens (Err line) e r = IsUnread.unexpected tokens e r

-- ---- both halves

pub joined_trees : (texts : Texts) (kernel user : Tree) (o : Result (List ℕ) Mismatch) → IsHalf texts.kernel kernel → IsHalf texts.user user → TreesJoin kernel user o → Joining texts o
joined_trees texts kernel user (Ok text) k u j =
    record { items = j.items; are = record { kernel = kernel; user = user; kernel_is = k; user_is = u; joins = j.joins }; text_is = j.text_is }
joined_trees texts kernel user (Err m) k u j = subst (λ (x : Mismatch). Come texts (Err x)) (sym j.told) (Come.apart kernel user j.line k u j.joins)

-- ---- the text of the joined tree

again : (texts : Texts) (items : List Item) → AreJoined texts items → IsPrintedAsSource false (tree_with items)
again texts items a = joined_again texts.kernel texts.user a.kernel a.user items a.kernel_is a.user_is a.joins

pub source_sound : (bytes : List ℕ) (source : Source) → Comes bytes (Ok source) → IsSound source.program
source_sound bytes source comes =
    let s = come_source bytes source comes in
    let is : IsProgramOf bytes false first_use source.program = record { tokens = s.tokens; tree = source.tree; lexed = s.are_tokens; read = s.reads; typed = s.judged } in
    sources_sound bytes false first_use source.program is s.numbers

pub refused_types : (texts : Texts) (text : List ℕ) (r : Refusal) → IsJoinedText texts text → Comes text (Err r) → Come texts (Err (at which.Kernel 0))
refused_types texts text r j comes =
    let n = text_refused (tree_with j.items) (Err r) (again texts j.items j.are) (subst (λ (bytes : List ℕ). Comes bytes (Err r)) j.text_is comes) tt in
    Come.faulty j.items n.refusal j.are n.means

abbrev pub verdict : Source → Option Mismatch → Result Source Mismatch
verdict source None = Ok source
verdict source (Some m) = Err m

pub compared : (texts : Texts) (text : List ℕ) (source : Source) (m : Option Mismatch) → IsJoinedText texts text → Comes text (Ok source) → IsCompared texts source m → Come texts (verdict source m)
compared texts text source None j comes c = Come.whole source (record { bytes = text; comes = comes; are = subst (λ (t : Texts). AreTexts source.tree source.program t) (sym c.other) c.are })
compared texts text source (Some m) j comes c =
    let here = subst (λ (bytes : List ℕ). Comes bytes (Ok source)) j.text_is comes in
    let same = source_same (tree_with j.items) source (again texts j.items j.are) here in
    Come.other j.items source.program c.due j.are (source_means (printed (tree_with j.items)) source (tree_with j.items) here same) (texts_moved source.tree (tree_with j.items) source.program c.due same c.are) c.other

-- ---- what functions gave, by cases

pub half_read : (text seen : List ℕ) (o : Result Tree ℕ) (tree : Tree) → seen ≡ text → IsRead seen o → o ≡ Ok tree → IsHalf text tree
half_read text seen o tree same r is = subst (λ (t : List ℕ). IsHalf t tree) same (subst (IsRead seen) is r)

pub half_unread : (text seen : List ℕ) (o : Result Tree ℕ) (line : ℕ) → seen ≡ text → IsRead seen o → o ≡ Err line → IsUnread text line
half_unread text seen o line same r is = subst (λ (t : List ℕ). IsUnread t line) same (subst (IsRead seen) is r)

pub refused_kernel : (texts : Texts) (line : ℕ) (m : Mismatch) → IsUnread texts.kernel line → m ≡ at which.Kernel line → Come texts (Err m)
refused_kernel texts line m u is = subst (λ (x : Mismatch). Come texts (Err x)) (sym is) (Come.no_kernel line u)

pub refused_user : (texts : Texts) (kernel : Tree) (line : ℕ) (m : Mismatch) (o : Result (List ℕ) Mismatch) → IsHalf texts.kernel kernel → IsUnread texts.user line → m ≡ at which.User line → o ≡ Err m → Joining texts o
refused_user texts kernel line m o k u is so = subst (Joining texts) (sym so) (subst (λ (x : Mismatch). Come texts (Err x)) (sym is) (Come.no_user kernel line k u))

pub refused_so : (texts : Texts) (m here : Mismatch) (o : Result Source Mismatch) → Come texts (Err here) → m ≡ here → o ≡ Err m → Come texts o
refused_so texts m here o c is so = subst (Come texts) (sym so) (subst (λ (x : Mismatch). Come texts (Err x)) (sym is) c)

-- ---- the first text that is another

other_there : (text : Which) (a b said due : List ℕ) (o o' : Option Mismatch) → said ≡ a → due ≡ b → o ≡ o' → OtherIn text said due o → OtherIn text a b o'
other_there text a b said due o o' e f is h =
    subst (λ (s : List ℕ). OtherIn text s b o') e (subst (λ (d : List ℕ). OtherIn text said d o') f (subst (OtherIn text said due) is h))

pub same_text : (text : Which) (a b said due : List ℕ) (o : Option Mismatch) → said ≡ a → due ≡ b → OtherIn text said due o → o ≡ None → a ≡ b
same_text text a b said due o e f h is = other_there text a b said due o None e f is h

pub first_kernel : (given due : Texts) (said other : List ℕ) (o : Option Mismatch) (m : Mismatch) → said ≡ given.kernel → other ≡ due.kernel → OtherIn which.Kernel said other o → o ≡ Some m → IsOther given due m
first_kernel given due said other o m e f h is =
    let t = other_there which.Kernel given.kernel due.kernel said other o (Some m) e f is h in
    subst (IsOther given due) (sym t.2) (IsOther.in_kernel t.0 t.1)

pub first_user : (given due : Texts) (said other : List ℕ) (o : Option Mismatch) (m : Mismatch) → given.kernel ≡ due.kernel → said ≡ given.user → other ≡ due.user → OtherIn which.User said other o → o ≡ Some m → IsOther given due m
first_user given due said other o m k e f h is =
    let t = other_there which.User given.user due.user said other o (Some m) e f is h in
    subst (IsOther given due) (sym t.2) (IsOther.in_user t.0 k t.1)

pub first_plan : (given due : Texts) (said other : List ℕ) (o : Option Mismatch) → given.kernel ≡ due.kernel → given.user ≡ due.user → said ≡ given.plan → other ≡ due.plan → OtherIn which.Plan said other o → FirstOther given due o
first_plan given due said other None k u e f h =
    let p : given.plan ≡ due.plan = same_text which.Plan given.plan due.plan said other None e f h refl in
    λ i. record { kernel = k i; user = u i; plan = p i }
first_plan given due said other (Some m) k u e f h =
    let t = other_there which.Plan given.plan due.plan said other (Some m) (Some m) e f refl h in
    subst (IsOther given due) (sym t.2) (IsOther.in_plan t.0 k u t.1)
