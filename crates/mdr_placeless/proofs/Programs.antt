-- Trees that are equal, places aside, have the same program.
use Rattle.mdr_body.specs.Bodies.{body_rule}
use Rattle.mdr_check.specs.Whole.{file_pieces}
use Rattle.mdr_faults.specs.Declarations.{object_declared}
use Rattle.mdr_faults.specs.Faults.{Checked, Right}
use Rattle.mdr_faults.specs.declared.scope.Member.{Member}
use Rattle.mdr_faults.specs.declared.scope.Named.{Named}
use Rattle.mdr_faults.specs.declared.scope.Scope.{Scope}
use Rattle.mdr_faults.specs.declared.scope.StructEntry.{StructEntry}
use Rattle.mdr_headings.specs.Heads.{heading}
use Rattle.mdr_operand.specs.Written.{written_of}
use Rattle.mdr_operand.specs.declared.room.LocalName.{LocalName}
use Rattle.mdr_placeless.proofs.Combined.{after_alike, itself, reversed}
use Rattle.mdr_placeless.proofs.Declared.{decls, objects}
use Rattle.mdr_placeless.proofs.Expressions.{expressions}
use Rattle.mdr_placeless.proofs.Files.{files}
use Rattle.mdr_placeless.proofs.Headings.{headings, heads}
use Rattle.mdr_placeless.proofs.Postfixes.{AreLocalNames}
use Rattle.mdr_placeless.proofs.Scopes.{AreEntries, AreMembers, AreNamed, AreScopes, pairs_same, told_same}
use Rattle.mdr_placeless.proofs.Statements.{bodies}
use Rattle.mdr_placeless.proofs.Written.{writtens}
use Rattle.mdr_placeless.specs.Alike.{AreAlike}
use Rattle.mdr_placeless.specs.Alike.AreAlike.{Rights, Wrongs}
use Rattle.mdr_placeless.specs.Laws.{BodiesLookAtNoPlace, DeclarationsLookAtNoPlace, ExpressionsLookAtNoPlace, FilesLookAtNoPlace, HalvesLookAtNoPlace, HeadingsLookAtNoPlace, ProgramsLookAtNoPlace}
use Rattle.mdr_roundtrip.specs.Itemised.{unplaced_head, unplaced_tree}
use Rattle.mdr_roundtrip.specs.Stated.{unplaced_node}
use Rattle.mdr_roundtrip.specs.Unplaced.{unplaced_form}
use Rattle.mdr_syntax.specs.declared.tree.Tree.{Tree}
use Rattle.mdr_typing.specs.Profile.{profile_rules}
use Rattle.std.proofs.Common.{map, refl, subst, sym, ◌≡◌}
use Rattle.mdr_body.specs.Uses.{first_use}
use Rattle.mdr_express.specs.Expressions.{typed as typed_form}

pub right_same : {A : Type 0} {c d : Checked A} (x : A) → AreAlike c d → c ≡ Right x → d ≡ Right x
right_same x (Rights y) e = e
right_same x (Wrongs f g) e = absurd cc

chained : {A : Type 0} {b c d : Checked A} → AreAlike b c → AreAlike c d → AreAlike b d
chained (Rights x) h = h
chained (Wrongs f g) (Wrongs f' g') = Wrongs _ _

through : {A B : Type 0} (f : A → Checked B) (of : A → A) → ((x : A) → AreAlike (f x) (f (of x))) → (x y : A) → of x ≡ of y → AreAlike (f x) (f y)
through f of h x y e = chained (h x) (subst (λ z. AreAlike (f z) (f y)) (sym e) (reversed (h y)))

-- ---- expressions

same_member : (m : Member) → AreMembers m m
same_member m = record { named = refl; mean = told_same m.means }

same_entry : (d : StructEntry) → AreEntries d d
same_entry d = record { member = pairs_same d.members same_member; cell = told_same d.cells }

same_name : (n : Named) → AreNamed n n
same_name n = record { named = refl; mean = told_same n.means }

same_scopes : (s : Scope) → AreScopes s s
same_scopes s = record { tag = refl; define = refl; named = pairs_same s.names same_name; outline = refl; struct = pairs_same s.structs same_entry }

same_locals : (n : LocalName) → AreLocalNames n n
same_locals n = record { named = refl; at_slot = refl; apart = refl; mean = told_same n.means }

pub expressions_alike : ExpressionsLookAtNoPlace
expressions_alike scope locals f g e = through (λ x. typed_form scope locals (written_of x)) unplaced_form (λ x. expressions (same_scopes scope) (pairs_same locals same_locals) (writtens x)) f g e

-- ---- declarations and bodies

pub declarations_alike : DeclarationsLookAtNoPlace
declarations_alike scope p q d e same = chained (objects (same_scopes scope) p q (decls d)) (subst (λ x. AreAlike (object_declared scope q x) (object_declared scope q e)) (sym same) (reversed (objects (same_scopes scope) q q (decls e))))

pub headings_alike : HeadingsLookAtNoPlace
headings_alike scope h k e = through (heading scope) unplaced_head (λ x. headings (same_scopes scope) (heads x)) h k e

pub bodies_alike : BodiesLookAtNoPlace
bodies_alike scope h k body other e f =
    chained (bodies (same_scopes scope) h body)
    (subst (λ x. AreAlike (body_rule profile_rules scope x (map unplaced_node body)) (body_rule profile_rules scope k other)) (sym e)
    (subst (λ x. AreAlike (body_rule profile_rules scope (unplaced_head k) x) (body_rule profile_rules scope k other)) (sym f)
    (reversed (bodies (same_scopes scope) k other))))

-- ---- files

pub pieces_alike : FilesLookAtNoPlace
pieces_alike tree other e = through (λ (t : Tree). file_pieces (body_rule profile_rules) first_use t.items) unplaced_tree (λ (t : Tree). files t.items) tree other e

pub programs_alike : ProgramsLookAtNoPlace
programs_alike tree other e = after_alike (pieces_alike tree other e) (λ ps. Rights _)

pub halves_alike : HalvesLookAtNoPlace
halves_alike plan tree other e = after_alike (pieces_alike tree other e) (λ ps. itself _)
