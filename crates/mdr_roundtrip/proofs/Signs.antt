-- The sorts of what is printed.
use Rattle.std.proofs.Common.{◌≡◌, refl, sym, ap, ◌∙◌, ℕ, ◌+◌, Bool, true, false, List, [], ◌∷◌}
use Rattle.std.specs.Prelude.{◌&&◌, not, nat_eq, nat_lt, codes}
use Rattle.std.specs.List.{list_all}
use Rattle.std.specs.Str.{bytes_eq}
use Rattle.std.proofs.lemmas.Bool.{false≢true}
use Rattle.std.proofs.lemmas.Slice.Eq.{bytes_eq-Decides}
use Rattle.mdr_core.specs.declared.kind.Kind.{Kind}
use Rattle.mdr_core.specs.declared.kind.Kind.TheVariants.{U8, U16, U32, U64, S8, S16, S32, S64}
use Rattle.mdr_core.specs.declared.place.Place.{Place}
use Rattle.mdr_syntax.specs.declared.token.Lexeme.TheVariants.{Word, Punct}
use Rattle.mdr_syntax.specs.declared.tree.Form.{Form}
use Rattle.mdr_syntax.specs.declared.tree.FormWhat
use Rattle.mdr_syntax.specs.Words.{reserved, is_reserved}
use Rattle.mdr_print.specs.Types.{kind_name}
use Rattle.mdr_roundtrip.specs.Words.{is_word, is_among, is_prefix, prefixes, is_step, steps}
use Rattle.mdr_roundtrip.proofs.Tests.{both, not_true, among}
use Rattle.mdr_grammar.specs.declared.sort.Sort.{Sort}
use Rattle.mdr_grammar.specs.Sorts.{Word as Listed, words, marks, sort_in, unlisted, admitted, sort_of}
use Rattle.mdr_grammar.specs.Forms.{◌>>=◌, form, one}
use Rattle.mdr_grammar.specs.Forms.Part.{operand}
use Rattle.mdr_grammar.specs.Forms.Nonterminal.{postfix}
use Rattle.mdr_grammar.specs.Forms.Right.{gives}
use Rattle.mdr_grammar.specs.Forms.Rule.{given}
use Rattle.mdr_grammar.specs.Expressions.{is_level_free, may_sink, form_at, precedence_of, operand_rule, postfix_rule}
use Rattle.mdr_roundtrip.specs.Unplaced.{nowhere, at}
use Rattle.mdr_roundtrip.specs.Shaped.{is_name, services, binaries}

-- ---- punctuation

pub open_sort : (halves : Bool) → sort_of halves (Punct (codes "(")) ≡ Sort.Open
unfolding sort_of marks
open_sort halves = refl

pub close_sort : (halves : Bool) → sort_of halves (Punct (codes ")")) ≡ Sort.Close
unfolding sort_of marks
close_sort halves = refl

pub bracket_sort : (halves : Bool) → sort_of halves (Punct (codes "[")) ≡ Sort.OpenBracket
unfolding sort_of marks
bracket_sort halves = refl

pub unbracket_sort : (halves : Bool) → sort_of halves (Punct (codes "]")) ≡ Sort.CloseBracket
unfolding sort_of marks
unbracket_sort halves = refl

pub comma_sort : (halves : Bool) → sort_of halves (Punct (codes ",")) ≡ Sort.Comma
unfolding sort_of marks
comma_sort halves = refl

pub dot_sort : (halves : Bool) → sort_of halves (Punct (codes ".")) ≡ Sort.Dot
unfolding sort_of marks
dot_sort halves = refl

pub arrow_sort : (halves : Bool) → sort_of halves (Punct (codes "->")) ≡ Sort.Arrow
unfolding sort_of marks
arrow_sort halves = refl

pub star_sort : (halves : Bool) → sort_of halves (Punct (codes "*")) ≡ Sort.Star
unfolding sort_of marks
star_sort halves = refl

pub question_sort : (halves : Bool) → sort_of halves (Punct (codes "?")) ≡ Sort.Question
unfolding sort_of marks
question_sort halves = refl

pub colon_sort : (halves : Bool) → sort_of halves (Punct (codes ":")) ≡ Sort.Colon
unfolding sort_of marks
colon_sort halves = refl

-- ---- words

pub struct_sort : (halves : Bool) → sort_of halves (Word (codes "struct")) ≡ Sort.Struct
unfolding sort_of words
struct_sort halves = refl

pub void_sort : (halves : Bool) → sort_of halves (Word (codes "void")) ≡ Sort.Void
unfolding sort_of words
void_sort halves = refl

pub lock_sort : (halves : Bool) → sort_of halves (Word (codes "combolock_t")) ≡ Sort.Lock
unfolding sort_of words
lock_sort halves = refl

pub null_sort : (halves : Bool) → sort_of halves (Word (codes "NULL")) ≡ Sort.Null
unfolding sort_of words
null_sort halves = refl

pub kind_sort : (halves : Bool) (k : Kind) → sort_of halves (Word (kind_name k)) ≡ Sort.Integer k
unfolding sort_of words
kind_sort halves U8 = refl
kind_sort halves U16 = refl
kind_sort halves U32 = refl
kind_sort halves U64 = refl
kind_sort halves S8 = refl
kind_sort halves S16 = refl
kind_sort halves S32 = refl
kind_sort halves S64 = refl

words_reserved : list_all (λ w. is_reserved w.text) words ≡ true
unfolding words is_reserved reserved
words_reserved = refl

not_listed : (ws : List Listed) (text : List ℕ) (s : Sort) → list_all (λ w. is_reserved w.text) ws ≡ true → is_reserved text ≡ false → sort_in ws text s ≡ s
not_listed [] text s a h = refl
not_listed (w ∷ ws) text s a h = on (bytes_eq w.text text) refl (not_listed ws text s k.1 h)
  where
    k : (is_reserved w.text ≡ true) × (list_all (λ w. is_reserved w.text) ws ≡ true)
    k = both (is_reserved w.text) (list_all (λ w. is_reserved w.text) ws) a

    on : (b : Bool) → bytes_eq w.text text ≡ b → sort_in ws text s ≡ s → sort_in (w ∷ ws) text s ≡ s
    on true e more = absurd (false≢true (sym h ∙ ap is_reserved (sym ((bytes_eq-Decides w.text text).0 e)) ∙ k.0))
    on false e more = rw e more

pub name_sort : (halves : Bool) (text : List ℕ) → is_name text ≡ true → sort_of halves (Word text) ≡ Sort.Name
unfolding sort_of
name_sort halves text h =
    let free = not_true (is_reserved text) (both (is_word text) (not (is_reserved text)) h).1 in
    let left : unlisted text ≡ Sort.Name = rw free refl in
    ap (admitted halves) (not_listed words text (unlisted text) words_reserved free ∙ left)

pub service_sort : (halves : Bool) (text : List ℕ) → is_among services text ≡ true → sort_of halves (Word text) ≡ Sort.Service
unfolding sort_of words services
service_sort halves text h =
    among (λ t. sort_of halves (Word t) ≡ Sort.Service) services text
    (refl, (refl, (refl, (refl, (refl, (refl, (refl, (refl, (refl, (refl, (refl, (refl, (refl, tt))))))))))))) h

-- ---- operators

-- between two operands
pub record IsBetween (halves : Bool) (op : List ℕ) : Type 0 where
  pub sort : Sort
  pub is_sort : sort_of halves (Punct op) ≡ sort
  pub level : ℕ
  pub test : (nat_eq (precedence_of sort) level && nat_lt level 12) ≡ true
  pub low : nat_lt 1 level ≡ true
  pub high : nat_lt level 12 ≡ true

pub between : (halves : Bool) (op : List ℕ) → is_among binaries op ≡ true → IsBetween halves op
unfolding sort_of marks binaries
between halves op h =
    among (IsBetween halves) binaries op (
      record { sort = Sort.OrElse; is_sort = refl; level = 2; test = refl; low = refl; high = refl },
      (
        record { sort = Sort.AndThen; is_sort = refl; level = 3; test = refl; low = refl; high = refl },
        (
          record { sort = Sort.Or; is_sort = refl; level = 4; test = refl; low = refl; high = refl },
          (
            record { sort = Sort.Xor; is_sort = refl; level = 5; test = refl; low = refl; high = refl },
            (
              record { sort = Sort.Equality; is_sort = refl; level = 7; test = refl; low = refl; high = refl },
              (
                record { sort = Sort.Equality; is_sort = refl; level = 7; test = refl; low = refl; high = refl },
                (
                  record { sort = Sort.Relation; is_sort = refl; level = 8; test = refl; low = refl; high = refl },
                  (
                    record { sort = Sort.Relation; is_sort = refl; level = 8; test = refl; low = refl; high = refl },
                    (
                      record { sort = Sort.Relation; is_sort = refl; level = 8; test = refl; low = refl; high = refl },
                      (
                        record { sort = Sort.Relation; is_sort = refl; level = 8; test = refl; low = refl; high = refl },
                        (
                          record { sort = Sort.Shift; is_sort = refl; level = 9; test = refl; low = refl; high = refl },
                          (
                            record { sort = Sort.Shift; is_sort = refl; level = 9; test = refl; low = refl; high = refl },
                            (
                              record { sort = Sort.Slash; is_sort = refl; level = 11; test = refl; low = refl; high = refl },
                              (
                                record { sort = Sort.Slash; is_sort = refl; level = 11; test = refl; low = refl; high = refl },
                                (
                                  record { sort = Sort.And; is_sort = refl; level = 6; test = refl; low = refl; high = refl },
                                  (
                                    record { sort = Sort.Plus; is_sort = refl; level = 10; test = refl; low = refl; high = refl },
                                    (
                                      record { sort = Sort.Minus; is_sort = refl; level = 10; test = refl; low = refl; high = refl },
                                      (record { sort = Sort.Star; is_sort = refl; level = 11; test = refl; low = refl; high = refl }, tt),
                                    ),
                                  ),
                                ),
                              ),
                            ),
                          ),
                        ),
                      ),
                    ),
                  ),
                ),
              ),
            ),
          ),
        ),
      ),
    ) h

-- before an operand
pub record IsBefore (halves : Bool) (op : List ℕ) : Type 0 where
  pub casts_below : Bool
  pub alone : Bool
  pub begins : (casts : Bool) (l d : ℕ) → operand_rule casts l d (sort_of halves (Punct op)) (at (Punct op)) ≡ given (is_level_free (l + 1)) (one (operand casts_below (l + 1) d) >>= λ x. gives (record { form = form_at nowhere (FormWhat.Prefix op x.form); alone = alone }))

pub before : (halves : Bool) (op : List ℕ) → is_prefix op ≡ true → IsBefore halves op
unfolding sort_of marks prefixes
before halves op h =
    among (IsBefore halves) prefixes op (
      record { casts_below = true; alone = false; begins = λ casts l d. refl },
      (
        record { casts_below = true; alone = false; begins = λ casts l d. refl },
        (
          record { casts_below = true; alone = false; begins = λ casts l d. refl },
          (
            record { casts_below = true; alone = false; begins = λ casts l d. refl },
            (
              record { casts_below = true; alone = false; begins = λ casts l d. refl },
              (
                record { casts_below = true; alone = false; begins = λ casts l d. refl },
                (
                  record { casts_below = false; alone = true; begins = λ casts l d. refl },
                  (record { casts_below = false; alone = true; begins = λ casts l d. refl }, tt),
                ),
              ),
            ),
          ),
        ),
      ),
    ) h

-- behind one
pub step_after : (halves : Bool) (op : List ℕ) → is_step op ≡ true → (l d : ℕ) (first : Place) (f : Form) → postfix_rule l d first f (sort_of halves (Punct op)) (at (Punct op)) ≡ given (may_sink l f) (form (postfix l d first (form_at first (FormWhat.Post op f)) true))
unfolding sort_of marks steps
step_after halves op h l d first f = among (λ t. postfix_rule l d first f (sort_of halves (Punct t)) (at (Punct t)) ≡ given (may_sink l f) (form (postfix l d first (form_at first (FormWhat.Post t f)) true))) steps op (refl, (refl, tt)) h
