-- What is read of a half's printed text is the half, places aside, and places don't show in its program.
use Rattle.std.proofs.Common.{◌≡◌, ◌==◌, ◌&&◌, true, ℕ, suc, List, [], ◌∷◌, length, map, Result, Ok, refl, sym, ap, subst, ◌∙◌, eq-eqb}
use Rattle.std.specs.List.{list_all}
use Rattle.mdr_core.specs.declared.plan.Half.TheVariants.{User}
use Rattle.mdr_core.specs.declared.plan.Plan.{Plan}
use Rattle.mdr_core.specs.declared.program.Func.{Func}
use Rattle.mdr_core.specs.declared.program.StructDef.{StructDef}
use Rattle.mdr_core.specs.Suited.{IsSuited}
use Rattle.mdr_check.specs.Tables.{type_table}
use Rattle.mdr_syntax.specs.declared.token.Token.{Token}
use Rattle.mdr_syntax.specs.declared.tree.Tree.{Tree}
use Rattle.mdr_syntax.specs.Tokens.{tokens_of}
use Rattle.mdr_print.specs.Items.{printed}
use Rattle.mdr_grammar.specs.Grammar.{Reads}
use Rattle.mdr_grammar.proofs.Exact.{one_tree}
use Rattle.mdr_roundtrip.specs.Again.{IsPrintedAsSource}
use Rattle.mdr_roundtrip.specs.Itemised.{unplaced_tree}
use Rattle.mdr_body.specs.Bodies.{body_rule}
use Rattle.mdr_body.specs.Uses.{first_use}
use Rattle.mdr_typing.specs.Profile.{profile_rules}
use Rattle.mdr_check.specs.declared.file.Piece.{Piece}
use Rattle.mdr_program.specs.declared.parts.Parts.{Parts}
use Rattle.mdr_program.proofs.Rising.{tables_are_in_order}
use Rattle.mdr_program.specs.Occurring.{occurring}
use Rattle.mdr_program.specs.Parts.{parts_of}
use Rattle.mdr_program.specs.Programs.{made, program_of}
use Rattle.mdr_check_half.specs.Suiting.{each_function, each_key, has_type, is_bare, is_whole, names_no_lock, names_something, structs_in, suits_text}
use Rattle.mdr_half.specs.Halves.{half_of, user_tree}
use Rattle.mdr_half_program.specs.Bodies.{HaveBodies}
use Rattle.mdr_half_program.specs.Pieces.{piece_in}
use Rattle.mdr_half_program.specs.Suited.{HaveHalves, SuitsFunctions}
use Rattle.mdr_half_program.proofs.Counted.{tables_count}
use Rattle.mdr_half_program.proofs.Sided.{sides_both}
use Rattle.mdr_half_program.proofs.Suited.{functions_suited}
use Rattle.mdr_half_program.proofs.Halved.{halves_by_names}
use Rattle.mdr_placeless.proofs.Programs.{halves_alike, right_same}
use Rattle.mdr_half_program.proofs.Bodied.{no_use_asked}
use Rattle.mdr_half_program.proofs.Parting.{halves_are_parts}
use Rattle.mdr_half_program.specs.Reading.{HasTypes, PrintedHalvesHaveThePrograms}

ok_same : {A B : Type 0} (a b : A) → ◌≡◌ {A = Result A B} (Ok a) (Ok b) → a ≡ b
ok_same a b e = cc

-- the one tree of a text that was printed
the_same : (tree read : Tree) (tokens : List Token) → IsPrintedAsSource true tree → tokens_of (printed tree) ≡ Ok tokens → Reads true tokens read → unplaced_tree read ≡ unplaced_tree tree
the_same tree read tokens p e r =
    let n : p.tokens ≡ tokens = ok_same p.tokens tokens (sym p.is_text ∙ e) in
    ap unplaced_tree (one_tree true tokens read p.is_source.read r (subst (λ (ts : List Token). Reads true ts p.is_source.read) n p.is_source.is_read)) ∙ p.is_source.is_same

-- the tests of a plan, together
suits_by : (plan : Plan) (ps : Parts) → SuitsFunctions plan ps → (structs_in plan.types == length ps.structs) ≡ true → HasTypes plan ps → suits_text plan ps ≡ true
unfolding suits_text
suits_by plan ps f structs types =
    ap (λ b. b && (each_function is_whole plan.halves ps.funcs && (each_function is_bare plan.halves ps.funcs && ((structs_in plan.types == length ps.structs) && (list_all (λ t. has_type plan.types t) (occurring ps) && (each_key (λ k. names_something plan.types ps k) plan.keys && each_key (λ k. names_no_lock plan.types ps k) plan.keys)))))) f.names
    ∙ ap (λ b. b && (each_function is_bare plan.halves ps.funcs && ((structs_in plan.types == length ps.structs) && (list_all (λ t. has_type plan.types t) (occurring ps) && (each_key (λ k. names_something plan.types ps k) plan.keys && each_key (λ k. names_no_lock plan.types ps k) plan.keys))))) f.whole
    ∙ ap (λ b. b && ((structs_in plan.types == length ps.structs) && (list_all (λ t. has_type plan.types t) (occurring ps) && (each_key (λ k. names_something plan.types ps k) plan.keys && each_key (λ k. names_no_lock plan.types ps k) plan.keys)))) f.bare
    ∙ ap (λ b. b && (list_all (λ t. has_type plan.types t) (occurring ps) && (each_key (λ k. names_something plan.types ps k) plan.keys && each_key (λ k. names_no_lock plan.types ps k) plan.keys))) structs
    ∙ ap (λ b. b && (each_key (λ k. names_something plan.types ps k) plan.keys && each_key (λ k. names_no_lock plan.types ps k) plan.keys)) types
    ∙ ap (λ b. b && each_key (λ k. names_no_lock plan.types ps k) plan.keys) f.something
    ∙ f.no_lock

-- the program's type table has a struct for each of the text
structs_fit : (plan : Plan) (p q : Parts) → q.structs ≡ p.structs → plan.types ≡ (made p).types → (structs_in plan.types == length q.structs) ≡ true
unfolding made
structs_fit plan p q e f =
    eq-eqb _ _ (ap structs_in f ∙ tables_count p.structs (occurring p) (type_table p.structs (occurring p)) (tables_are_in_order p.structs (occurring p)) ∙ ap (λ (ds : List StructDef). length ds) (sym e))

lengths_same : (fs : List Func) → length (map (λ (f : Func). f.name) fs) ≡ length fs
lengths_same [] = refl
lengths_same (f ∷ fs) = ap (λ n. suc n) (lengths_same fs)

halves_fit : (plan : Plan) (xs : List Piece) → IsSuited plan (program_of xs) → HaveHalves (half_of plan) plan.halves (parts_of xs).funcs
unfolding made
halves_fit plan xs s = halves_by_names plan xs s.names (s.halves ∙ sym (lengths_same (parts_of xs).funcs) ∙ ap (λ (ns : List (List ℕ)). length ns) (sym s.names))

bodies_fit : (xs : List Piece) → HaveBodies (program_of xs).funcs → HaveBodies (parts_of xs).funcs
unfolding made
bodies_fit xs h = h

pub read_again : PrintedHalvesHaveThePrograms
read_again plan tree read tokens xs p e r pieces bodies suited types =
    let side = sides_both User plan xs in
    let fits = functions_suited plan (parts_of xs) (parts_of (map (piece_in User plan) xs)) side suited (bodies_fit xs bodies) (halves_fit plan xs suited) in
    let part = halves_are_parts (body_rule profile_rules) first_use User plan tree xs (no_use_asked (body_rule profile_rules) first_use tree.items xs pieces) suited.types (suits_by plan (parts_of (map (piece_in User plan) xs)) fits (structs_fit plan (parts_of xs) (parts_of (map (piece_in User plan) xs)) side.structs suited.types) types) in
    record {
      part = part.part;
      typed = right_same part.part (halves_alike plan (user_tree plan tree) read (sym (the_same (user_tree plan tree) read tokens p e r))) part.typed;
      is_part = part.is_part;
    }
