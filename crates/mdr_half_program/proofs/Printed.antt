-- The text that is printed of the user half is one with which its replies are the same.
use Rattle.std.proofs.Common.{◌≡◌, ℕ, List, length, map, refl, sym, ap, ◌∙◌, subst}
use Rattle.std.proofs.lemmas.List.{length-map}
use Rattle.mdr_access.proofs.KeyLaws.{keys_are_right}
use Rattle.mdr_body.specs.Bodies.{body_rule}
use Rattle.mdr_body.specs.Uses.{first_use}
use Rattle.mdr_check.specs.Whole.{file_pieces}
use Rattle.mdr_core.specs.declared.plan.Half.TheVariants.{User}
use Rattle.mdr_core.specs.declared.plan.Plan.{Plan}
use Rattle.mdr_core.specs.declared.program.Func.{Func}
use Rattle.mdr_core.specs.declared.program.Program.{Program}
use Rattle.mdr_core.specs.Suited.{IsSuited}
use Rattle.mdr_half.specs.Halves.{half_of}
use Rattle.mdr_half_program.specs.Headings.{HaveSameHeadings}
use Rattle.mdr_half_program.proofs.Kept.{user_text_keeps}
use Rattle.mdr_half_program.specs.Suited.{HaveHalves}
use Rattle.mdr_half_program.proofs.Halved.{halves_by_names}
use Rattle.mdr_half_program.specs.Reading.{ComesToPart}
use Rattle.mdr_half_program.specs.Whole.{IsWhole}
use Rattle.mdr_half_program.proofs.Together.{user_text_gives}
use Rattle.mdr_meaning.specs.Bodies.{body_from, body_of}
use Rattle.mdr_program.specs.declared.parts.Parts.{Parts}
use Rattle.mdr_program.specs.Parts.{parts_of}
use Rattle.mdr_program.specs.Programs.{made, program_of, program_right}
use Rattle.mdr_sound.proofs.Rights.{after_right, same_right}
use Rattle.mdr_split.specs.Law.{IsUserText}
use Rattle.mdr_syntax.specs.declared.tree.Tree.{Tree}
use Rattle.mdr_typing.specs.Profile.{profile_rules}
use Rattle.mdr_user_text.proofs.SameReplies.{replies_need_the_user_text}
use Rattle.mdr_half_program.specs.Replies.{TheUserTextRepliesAsTheWhole}
use Rattle.mdr_half_program.proofs.SameFuncs.{headings_same, user_same}

-- the functions of a program are those of its parts
funcs_made : (ps : Parts) → (made ps).funcs ≡ ps.funcs
unfolding made
funcs_made ps = refl

-- a plan that suits the program of a source gives each function its half by its name
halves_named : (bytes : List ℕ) (tree : Tree) (program : Program) (plan : Plan) → IsWhole bytes tree program → IsSuited plan program → HaveHalves (half_of plan) plan.halves program.funcs
halves_named bytes tree program plan is suited =
    let a = after_right (file_pieces (body_rule profile_rules) first_use tree.items) program_right program is.right in
    let xs = a.value in
    let whole : (parts_of xs).funcs ≡ program.funcs = sym (funcs_made (parts_of xs)) ∙ ap (λ (p : Program). p.funcs) (same_right (program_of xs) program a.made) in
    let names : plan.names ≡ map (λ (f : Func). f.name) (parts_of xs).funcs = suited.names ∙ ap (λ (fs : List Func). map (λ (f : Func). f.name) fs) (sym whole) in
    let lengths : length plan.halves ≡ length plan.names =
    suited.halves ∙ sym (length-map program.funcs (λ (f : Func). f.name)) ∙ ap (λ (ns : List (List ℕ)). length ns) (sym suited.names) in
    subst (λ (fs : List Func). HaveHalves (half_of plan) plan.halves fs) whole (halves_by_names plan xs names lengths)

pub the_user_text_replies_as_the_whole : TheUserTextRepliesAsTheWhole
unfolding body_of
the_user_text_replies_as_the_whole bytes tree read program halves plan is each of printed =
    let comes : ComesToPart User plan read program = user_text_gives bytes tree read program halves plan is each of printed in
    let part : Program = comes.part in
    let side = comes.is_part in
    let named = halves_named bytes tree program plan is (keys_are_right.suits program halves plan each of) in
    let headings : HaveSameHeadings program.funcs part.funcs = user_text_keeps bytes tree read program part plan is printed comes.typed in
    let text : IsUserText plan program part = record {
      part = record {
        types = side.types;
        structs = side.structs;
        globals = side.globals;
        bodies = λ f user. ap body_from (user_same plan plan.halves program.funcs part.funcs side.funcs named f user);
      };
      heads = λ f. headings_same program.funcs part.funcs headings f;
    } in
    record { part = part; typed = comes.typed; is_text = text; replies = replies_need_the_user_text program part plan text }
