-- The same functions are known at the end of a half's text, so the functions there have the same headings.
use Rattle.std.proofs.Common.{◌≡◌, true, List, [], ◌∷◌, map, Result, Ok, refl, sym, ap, ◌∙◌, subst}
use Rattle.mdr_core.specs.declared.plan.Half.{Half}
use Rattle.mdr_core.specs.declared.plan.Half.TheVariants.{User}
use Rattle.mdr_core.specs.declared.plan.Plan.{Plan}
use Rattle.mdr_core.specs.declared.program.Func.{Func}
use Rattle.mdr_core.specs.declared.program.Program.{Program}
use Rattle.mdr_core.proofs.Viewed.{some_same}
use Rattle.mdr_syntax.specs.declared.token.Token.{Token}
use Rattle.mdr_syntax.specs.declared.tree.Item.{Item}
use Rattle.mdr_syntax.specs.declared.tree.Tree.{Tree}
use Rattle.mdr_syntax.specs.Tokens.{tokens_of}
use Rattle.mdr_print.specs.Items.{printed}
use Rattle.mdr_grammar.specs.Grammar.{Reads}
use Rattle.mdr_grammar.proofs.Exact.{one_tree}
use Rattle.mdr_roundtrip.specs.Again.{IsPrintedAsSource}
use Rattle.mdr_roundtrip.specs.Itemised.{unplaced_tree}
use Rattle.mdr_faults.specs.declared.fault.FaultKind.TheVariants.{Mismatch}
use Rattle.mdr_faults.specs.Faults.{Checked, Right, after}
use Rattle.mdr_headings.specs.declared.function.Declared.{Declared}
use Rattle.mdr_headings.specs.declared.head.Heading.{Heading}
use Rattle.mdr_headings.specs.Functions.{function_named}
use Rattle.mdr_body.specs.Bodies.{body_rule}
use Rattle.mdr_body.specs.Uses.{first_use}
use Rattle.mdr_typing.specs.Profile.{profile_rules}
use Rattle.mdr_check.specs.declared.file.Known.{Known}
use Rattle.mdr_check.specs.declared.file.Piece.{Piece}
use Rattle.mdr_check.specs.Files.{BodyRule, first_known, known_behind}
use Rattle.mdr_check.specs.Uses.{UseRule}
use Rattle.mdr_check.specs.Whole.{file_pieces}
use Rattle.mdr_program.specs.declared.parts.Parts.{Parts}
use Rattle.mdr_program.specs.Parts.{parts_of}
use Rattle.mdr_program.specs.Programs.{made, program_of, program_right, with_types}
use Rattle.mdr_check_half.specs.HalfPrograms.{begin, half_right, half_typed, planned}
use Rattle.mdr_check_half.specs.Suiting.{suits_text}
use Rattle.mdr_half.specs.Halves.{half_tree, item_in, user_tree}
use Rattle.mdr_half_program.specs.Pieces.{piece_in}
use Rattle.mdr_half_program.proofs.Bodied.{no_use_asked}
use Rattle.mdr_half_program.proofs.Known.{first_there, known_there}
use Rattle.mdr_half_program.proofs.Pieced.{halves_lead}
use Rattle.mdr_placeless.proofs.Programs.{halves_alike, right_same}
use Rattle.mdr_sound.proofs.Rights.{after_right, demand_right, same_ok, same_right}
use Rattle.mdr_sound.specs.Counting.{AreDeclaredAs}
use Rattle.mdr_sound.proofs.Along.{counted_all}
use Rattle.mdr_sound.proofs.Filed.{pieces_right}
use Rattle.mdr_texts.proofs.HalvesAgain.{half_again}
use Rattle.mdr_half_program.proofs.Sourced.{sources_have}
use Rattle.mdr_half_program.specs.Headings.{FunctionsKeepTheirHeadings, HasSameHeading, HaveSameHeadings, TheUserTextKeepsTheHeadings, unnamed}
use Rattle.mdr_half_program.proofs.Headed.{HasFirstHeading, HaveFirstHeadings, functions_of, headed_all}

-- ---- functions with the headings of the same first declarations

one_same : (ds : List Declared) (f g : Func) → g.name ≡ f.name → HasFirstHeading ds f → HasFirstHeading ds g → HasSameHeading f g
one_same ds f g named a b =
    let first : a.first ≡ b.first = some_same (sym a.found ∙ ap (function_named ds) (sym named) ∙ b.found) in
    let same : a.says ≡ b.says = same_ok a.says b.says (sym a.said ∙ ap (λ (d : Declared). d.heading) first ∙ b.said) in
    record {
      name = named;
      result = (b.headed).result ∙ ap (λ (h : Heading). h.result) (sym same) ∙ sym (a.headed).result;
      annotation = (b.headed).annotation ∙ ap (λ (h : Heading). h.ann) (sym same) ∙ sym (a.headed).annotation;
      params = (b.headed).params ∙ ap (λ (h : Heading). map unnamed h.params) (sym same) ∙ sym (a.headed).params;
    }

-- functions in the order of their first declarations
all_same : (ds es : List Declared) (fs gs : List Func) → AreDeclaredAs es fs → AreDeclaredAs es gs → HaveFirstHeadings ds fs → HaveFirstHeadings ds gs → HaveSameHeadings fs gs
all_same ds [] [] [] a b x y = tt
all_same ds [] [] (g ∷ gs) a b x y = absurd b
all_same ds [] (f ∷ fs) gs a b x y = absurd a
all_same ds (e ∷ es) [] gs a b x y = absurd a
all_same ds (e ∷ es) (f ∷ fs) [] a b x y = absurd b
all_same ds (e ∷ es) (f ∷ fs) (g ∷ gs) a b x y = (one_same ds f g ((b.0).name ∙ sym (a.0).name) x.0 y.0, all_same ds es fs gs a.1 b.1 x.1 y.1)

-- ---- the text of a half

abbrev AreKnown : List Declared → List Func → Type 0
AreKnown ds fs = AreDeclaredAs ds fs × HaveFirstHeadings ds fs

known_all : (body : BodyRule) (uses : UseRule) (items : List Item) (xs : List Piece) → file_pieces body uses items ≡ Right xs → AreKnown (functions_of items) (parts_of xs).funcs
known_all body uses items xs e = ((counted_all body items xs (pieces_right body uses items xs e)).functions, headed_all body uses items xs e)

functions_there : (half : Half) (plan : Plan) (items : List Item) → functions_of (map (item_in half plan) items) ≡ functions_of items
functions_there half plan items =
    ap (λ (k : Known). (known_behind k (map (item_in half plan) items)).functions) (first_there half plan items)
    ∙ ap (λ (k : Known). k.functions) (known_there half plan items (first_known items))

pub functions_keep : FunctionsKeepTheirHeadings
functions_keep body uses half plan tree xs e bodies =
    let there = halves_lead body uses half plan tree xs (no_use_asked body uses tree.items xs e) in
    let ys = map (piece_in half plan) xs in
    let a = known_all body uses tree.items xs e in
    let b = subst (λ (ds : List Declared). AreKnown ds (parts_of ys).funcs) (functions_there half plan tree.items) (known_all body uses (half_tree half plan tree).items ys there) in
    all_same (functions_of tree.items) (functions_of tree.items) (parts_of xs).funcs (parts_of ys).funcs a.0 b.0 a.1 b.1

-- ---- the user text of a source

ok_same : {A B : Type 0} (a b : A) → ◌≡◌ {A = Result A B} (Ok a) (Ok b) → a ≡ b
ok_same a b e = cc

-- the one tree of a text that was printed
the_same : (tree read : Tree) (tokens : List Token) → IsPrintedAsSource true tree → tokens_of (printed tree) ≡ Ok tokens → Reads true tokens read → unplaced_tree read ≡ unplaced_tree tree
the_same tree read tokens p e r =
    let same : p.tokens ≡ tokens = ok_same p.tokens tokens (sym p.is_text ∙ e) in
    ap unplaced_tree (one_tree true tokens read p.is_source.read r (subst (λ (ts : List Token). Reads true ts p.is_source.read) same p.is_source.is_read)) ∙ p.is_source.is_same

-- the functions of a program are those of its parts
funcs_made : (ps : Parts) → (made ps).funcs ≡ ps.funcs
unfolding made
funcs_made ps = refl

funcs_planned : (plan : Plan) (ps : Parts) (part : Program) → planned plan ps ≡ Right part → part.funcs ≡ ps.funcs
funcs_planned plan ps part e =
    let d = demand_right begin Mismatch (suits_text plan ps) (Right (with_types plan.types ps)) part e in
    ap (λ (p : Program). p.funcs) (sym (same_right (with_types plan.types ps) part d.right))

-- what the text comes to is what the half's tree comes to
planned_there : (plan : Plan) (tree read : Tree) (xs : List Piece) (part : Program) → unplaced_tree read ≡ unplaced_tree (user_tree plan tree)
    → file_pieces (body_rule profile_rules) first_use (user_tree plan tree).items ≡ Right xs → half_typed (body_rule profile_rules) first_use plan read.items ≡ Right part → planned plan (parts_of xs) ≡ Right part
planned_there plan tree read xs part same pieces e =
    sym (ap (λ (c : Checked (List Piece)). after c (half_right plan)) pieces) ∙ right_same part (halves_alike plan read (user_tree plan tree) same) e

pub user_text_keeps : TheUserTextKeepsTheHeadings
user_text_keeps bytes tree read program part plan is of e =
    let a = after_right (file_pieces (body_rule profile_rules) first_use tree.items) program_right program is.right in
    let xs = a.value in
    let ys = map (piece_in User plan) xs in
    let bodies = sources_have bytes is.tokens tree xs is.lexed is.reads a.right in
    let there = halves_lead (body_rule profile_rules) first_use User plan tree xs (no_use_asked (body_rule profile_rules) first_use tree.items xs a.right) in
    let same = the_same (user_tree plan tree) read of.tokens (half_again bytes is.tokens tree User plan is.lexed is.reads) of.lexed of.reads in
    let whole : (parts_of xs).funcs ≡ program.funcs = sym (funcs_made (parts_of xs)) ∙ ap (λ (p : Program). p.funcs) (same_right (program_of xs) program a.made) in
    let other : (parts_of ys).funcs ≡ part.funcs = sym (funcs_planned plan (parts_of ys) part (planned_there plan tree read ys part same there e)) in
    subst (λ (fs : List Func). HaveSameHeadings fs part.funcs) whole
    (subst (HaveSameHeadings (parts_of xs).funcs) other
    (functions_keep (body_rule profile_rules) first_use User plan tree xs a.right bodies))
