-- The texts of a source's user half and of its plan are loaded.
use Rattle.std.proofs.Common.{◌≡◌, ℕ, zero, suc, ◌≤◌, true, false, List, [], ◌∷◌, length, Some, slice_get, refl, sym, ap, ◌∙◌, subst, arith}
use Rattle.std.specs.Prelude.{is_some}
use Rattle.mdr_core.specs.declared.plan.Half.TheVariants.{User}
use Rattle.mdr_core.specs.declared.plan.Plan.{Plan}
use Rattle.mdr_core.specs.declared.program.Func.{Func}
use Rattle.mdr_core.specs.declared.program.Program.{Program}
use Rattle.mdr_core.specs.declared.types.Ty.{Ty}
use Rattle.mdr_core.specs.Sound.{HasFewNumbers, IsObjectSort, IsSound}
use Rattle.mdr_core.specs.Types.{sort_of}
use Rattle.mdr_slice.specs.declared.halves.Halves.{Halves}
use Rattle.mdr_slice.specs.Halves.{AreHalves}
use Rattle.mdr_access.specs.Keys.{HasEach}
use Rattle.mdr_roundtrip.specs.Again.{IsPrintedAsSource}
use Rattle.mdr_body.specs.Bodies.{body_rule}
use Rattle.mdr_body.specs.Uses.{first_use}
use Rattle.mdr_lower.specs.Tables.{Occurs}
use Rattle.mdr_typing.specs.Profile.{profile_rules}
use Rattle.mdr_check.specs.Whole.{file_pieces}
use Rattle.mdr_program.specs.Programs.{program_of, program_right}
use Rattle.mdr_source.specs.declared.outcome.Source.{Source}
use Rattle.mdr_source.specs.Sources.{IsSource}
use Rattle.mdr_half.specs.Halves.{user_text, user_tree}
use Rattle.mdr_half.specs.Plans.{plan_text}
use Rattle.mdr_half_program.specs.Bodies.{HaveBodies as HaveEach}
use Rattle.mdr_half_program.specs.Programs.{IsPartOf}
use Rattle.mdr_half_program.specs.Sides.{AreShown}
use Rattle.mdr_half_program.specs.Reading.{ComesToPart}
use Rattle.mdr_half_program.specs.Whole.{IsReadOf, IsWhole}
use Rattle.mdr_half_program.proofs.Sourced.{sources_have}
use Rattle.mdr_half_program.proofs.Together.{user_text_gives}
use Rattle.mdr_half_program.specs.Replies.{RepliesAsTheWhole}
use Rattle.mdr_half_program.proofs.Printed.{the_user_text_replies_as_the_whole}
use Rattle.mdr_cut.specs.Cuts.{IsPlanOf}
use Rattle.mdr_plan.specs.Texts.{IsPlanText}
use Rattle.mdr_sound.proofs.Sourced.{ranges_of, bodies_of, sources_sound}
use Rattle.mdr_sound.proofs.Rights.{after_right, same_right}
use Rattle.mdr_sound.proofs.Filed.{types_of_files}
use Rattle.mdr_sound.proofs.Sorts.{not_wrong}
use Rattle.mdr_sound.proofs.Itemising.{bytes_proper}
use Rattle.mdr_sound.proofs.Stating.{profile_sound}
use Rattle.mdr_honest.proofs.SourcePlans.{plans_of_sources_are_read}
use Rattle.mdr_split.specs.Law.{HaveBodies, IsPlanOf as IsItsPlan}
use Rattle.mdr_texts.proofs.HalvesAgain.{half_again}
use Rattle.mdr_type_table.specs.Tabled.{HasFormedPointers}
use Rattle.mdr_honest.specs.Plannable.{HasShortNumbers as AreShort}
use Rattle.mdr_outside.specs.declared.far.LoadAnswer.TheVariants as loads
use Rattle.mdr_honest.specs.Loading.{AreItsHalf, IsCut, TextsOfSourcesAreLoaded, TextsOfSourcesAreTaken}
use Rattle.mdr_honest.proofs.Halves.{not_refused}

-- ---- a source

pub is_whole : (bytes : List ℕ) (source : Source) → IsSource bytes source → IsWhole bytes source.tree source.program
is_whole bytes source s = record { tokens = s.tokens; lexed = s.are_tokens; reads = s.reads; right = s.judged; types = (let few = (s.numbers).types in omega (arith, few)) }

pub source_sound : (bytes : List ℕ) (source : Source) → IsSource bytes source → IsSound source.program
source_sound bytes source s =
    sources_sound bytes false first_use source.program (record { tokens = s.tokens; tree = source.tree; lexed = s.are_tokens; read = s.reads; typed = s.judged }) s.numbers

same_func : (a b : Func) → Some a ≡ Some b → a ≡ b
same_func a b e = cc

bodies_at : (fs : List Func) → HaveEach fs → (f : ℕ) (func : Func) → slice_get fs f ≡ Some func → is_some func.body ≡ true
bodies_at [] h f func e = absurd cc
bodies_at (g ∷ gs) h zero func e = subst (λ (x : Func). is_some x.body ≡ true) (same_func g func e) h.0
bodies_at (g ∷ gs) h (suc f) func e = bodies_at gs h.1 f func e

pub source_bodies : (bytes : List ℕ) (source : Source) → IsSource bytes source → HaveBodies source.program
source_bodies bytes source s =
    let a = after_right (file_pieces (body_rule profile_rules) first_use source.tree.items) program_right source.program s.judged in
    let each : HaveEach source.program.funcs =
    subst (λ (p : Program). HaveEach p.funcs) (same_right (program_of a.value) source.program a.made) (sources_have bytes s.tokens source.tree a.value s.are_tokens s.reads a.right) in
    bodies_at source.program.funcs each

-- ---- its plan

pub its_plan : (program : Program) (plan : Plan) → IsPlanOf program plan → IsItsPlan program plan
its_plan program plan is = record { roots = is.roots; are_roots = is.are_roots; halves = is.halves; are_halves = is.are_halves; is_plan = is.is_plan }

has_each : (program : Program) (roots : List ℕ) (halves : Halves) → AreHalves program roots halves → HasEach program halves
has_each program roots halves h = record { halves_size = h.halves_size; roots_size = h.roots_size; down_size = h.down_size }

-- the pointer types that occur are formed
formed_pointers : (bytes : List ℕ) (source : Source) → IsSource bytes source → HasFormedPointers source.program
formed_pointers bytes source s =
    let proper = bytes_proper bytes false s.tokens source.tree s.are_tokens s.reads in
    let formed : (t : Ty) → Occurs source.program t → IsObjectSort (sort_of (length source.program.structs) t) =
    types_of_files source.program profile_rules first_use source.tree.items s.judged (ranges_of source.tree.items proper) (bodies_of source.tree.items proper) (λ scope known slots. profile_sound source.program slots scope known) in
    record { formed = λ t occurs pointer. record { formed = λ wrong. not_wrong (subst IsObjectSort wrong (formed t occurs)) } }

are_short : (program : Program) → IsSound program → AreShort program
are_short program sound =
    let structs = (sound.numbers).structs in
    let globals = (sound.numbers).globals in
    let types = (sound.numbers).types in
    let funcs = (sound.numbers).funcs in
    record { structs = omega (arith, structs); fields = sound.few; globals = omega (arith, globals); types = omega (arith, types); funcs = omega (arith, funcs) }

plan_is_read : (bytes : List ℕ) (source : Source) (plan : Plan) → IsCut bytes source plan → IsPlanText (plan_text source.program plan) plan
plan_is_read bytes source plan cut =
    let s = cut.source_is in
    let is = cut.plan_is in
    plans_of_sources_are_read (body_rule profile_rules) first_use bytes source.program is.halves plan
    (record { tree = source.tree; source = record { tokens = s.tokens; lexed = s.are_tokens; read = s.reads }; right = s.judged })
    (formed_pointers bytes source s) (are_short source.program (source_sound bytes source s)) (has_each source.program is.roots is.halves is.are_halves) is.is_plan

-- ---- a half has as many types, globals, structs and functions as its program

shown_many : (plan : Plan) (fs gs : List Func) → AreShown User plan fs gs → length gs ≡ length fs
shown_many plan [] [] shown = refl
shown_many plan [] (g ∷ gs) shown = absurd shown
shown_many plan (f ∷ fs) [] shown = absurd shown
shown_many plan (f ∷ fs) (g ∷ gs) shown = ap suc (shown_many plan fs gs shown.1)

part_few : (plan : Plan) (whole part : Program) → IsPartOf User plan whole part → HasFewNumbers whole → HasFewNumbers part
part_few plan whole part is few = record {
  types = subst (λ n. n ≤ 16777216) (sym (ap length is.types)) few.types;
  globals = subst (λ n. n ≤ 16777216) (sym (ap length is.globals)) few.globals;
  structs = subst (λ n. n ≤ 16777216) (sym (ap length is.structs)) few.structs;
  funcs = subst (λ n. n ≤ 16777216) (sym (shown_many plan whole.funcs part.funcs is.funcs)) few.funcs;
}

-- ---- its texts are loaded

pub texts_are_loaded : TextsOfSourcesAreLoaded
texts_are_loaded bytes source plan cut =
    let s = cut.source_is in
    let is = cut.plan_is in
    let whole : IsWhole bytes source.tree source.program = is_whole bytes source s in
    let each : HasEach source.program is.halves = has_each source.program is.roots is.halves is.are_halves in
    let printed : IsPrintedAsSource true (user_tree plan source.tree) = half_again bytes s.tokens source.tree User plan s.are_tokens s.reads in
    let again = printed.is_source in
    let of : IsReadOf plan source.tree again.read = record { tokens = printed.tokens; lexed = printed.is_text; reads = again.is_read } in
    let r : RepliesAsTheWhole plan again.read source.program = the_user_text_replies_as_the_whole bytes source.tree again.read source.program is.halves plan whole each is.is_plan of in
    let c : ComesToPart User plan again.read source.program = user_text_gives bytes source.tree again.read source.program is.halves plan whole each is.is_plan of in
    let same : c.part ≡ r.part = same_right c.part r.part (sym c.typed ∙ r.typed) in
    record {
      part = r.part;
      loaded = record {
        planned = plan_is_read bytes source plan cut;
        comes = record { tokens = printed.tokens; tree = again.read; lexed = printed.is_text; read = again.is_read; typed = r.typed };
        numbers = subst HasFewNumbers same (part_few plan source.program c.part c.is_part s.numbers);
      };
      replies = r.replies;
    }

pub texts_are_taken : TextsOfSourcesAreTaken
texts_are_taken bytes source plan loads.Ok cut h = tt
texts_are_taken bytes source plan (loads.Refused cause) cut h =
    let half : AreItsHalf source plan = texts_are_loaded bytes source plan cut in
    not_refused (user_text plan source.tree) (plan_text source.program plan) half.part plan cause half.loaded h
texts_are_taken bytes source plan loads.Failed cut h = tt
texts_are_taken bytes source plan loads.OutOfMemory cut h = h
