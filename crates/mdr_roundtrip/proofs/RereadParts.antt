-- Printed sizes, annotations and declarators are read again.
use Rattle.std.proofs.Common.{◌≡◌, refl, sym, subst, ap, arith, ℕ, zero, suc, ◌+◌, ◌≤◌, Bool, true, false, Option, Some, None, List, ◌∷◌}
use Rattle.std.specs.Prelude.{codes}
use Rattle.std.specs.Option.{option_map}
use Rattle.std.proofs.lemmas.Bool.{false≢true, le-leb}
use Rattle.mdr_syntax.specs.declared.token.Lexeme.TheVariants.{Word, Punct}
use Rattle.mdr_syntax.specs.declared.token.Token.{Token}
use Rattle.mdr_syntax.specs.declared.tree.AnnText.{AnnText}
use Rattle.mdr_syntax.specs.declared.tree.AnnText.TheVariants as ann
use Rattle.mdr_syntax.specs.declared.tree.Base.{Base}
use Rattle.mdr_syntax.specs.declared.tree.Const.{Const}
use Rattle.mdr_syntax.specs.declared.tree.Decl.{Decl, roll-Decl}
use Rattle.mdr_print.specs.Marks.{Mark, Is}
use Rattle.mdr_print.specs.Types.{stars as printed_stars}
use Rattle.mdr_print.specs.Declarations.{Declared, annotated, named as printed_name, sized, sized_name, core, is_bare, parameter_list, parameters as printed_parameters}
use Rattle.mdr_roundtrip.specs.PrintableDeclarations.{maybe}
use Rattle.mdr_roundtrip.proofs.Tests.{both}
use Rattle.mdr_grammar.specs.declared.parts.Specifier.{Specifier}
use Rattle.mdr_grammar.specs.declared.sort.Sort.{Sort}
use Rattle.mdr_grammar.specs.Sorts.{is, sort_of, words}
use Rattle.mdr_grammar.specs.Forms.{Nonterminal, Value, Right, ◌>>=◌, and_then, where_allowed}
use Rattle.mdr_grammar.specs.Forms.Right.{gives, takes}
use Rattle.mdr_grammar.specs.Forms.Part.{size, annotation, declarator}
use Rattle.mdr_grammar.specs.Forms.Nonterminal.{part, option, parameters, parameter_name, parameter_declarator}
use Rattle.mdr_grammar.specs.Forms.Rule.{given}
use Rattle.mdr_grammar.specs.Expressions.{may_open}
use Rattle.mdr_grammar.specs.Declarations.{annotation_rule, declarator_rule, parameter_name_rule, parameter_declarator_rule}
use Rattle.mdr_grammar.specs.Grammar.{rule, Gets, Follows}
use Rattle.mdr_grammar.specs.Grammar.Gets.{absent, present}
use Rattle.mdr_grammar.specs.Grammar.Follows.{done, word, both as parts}
use Rattle.mdr_roundtrip.specs.Shaped.{is_name}
use Rattle.mdr_roundtrip.specs.Unplaced.{nowhere, at}
use Rattle.mdr_roundtrip.specs.Initialised.{unplaced_const, is_shaped_const}
use Rattle.mdr_roundtrip.specs.Declarations.{Standing, unplaced_annotation, may_be_named, is_annotation_at}
use Rattle.mdr_roundtrip.proofs.Following.{through, follow_then}
use Rattle.mdr_roundtrip.proofs.Signs.{open_sort, close_sort, bracket_sort, unbracket_sort, star_sort, name_sort}
use Rattle.mdr_roundtrip.proofs.Rereading.{tokens_of}
use Rattle.mdr_roundtrip.proofs.RereadForms.{allowed}
use Rattle.mdr_roundtrip.proofs.RereadInits.{constant_reread}

array_sort : (halves : Bool) → sort_of halves (Word (codes "__array")) ≡ Sort.Array
unfolding sort_of words
array_sort halves = refl

sentinel_sort : (halves : Bool) → sort_of halves (Word (codes "__sentinel")) ≡ Sort.Sentinel
unfolding sort_of words
sentinel_sort halves = refl

nullterm_sort : (halves : Bool) → sort_of halves (Word (codes "__nullterm")) ≡ Sort.NullTerm
unfolding sort_of words
nullterm_sort halves = refl

opaque_sort : (halves : Bool) → sort_of halves (Word (codes "__opaque")) ≡ Sort.Opaque
unfolding sort_of words
opaque_sort halves = refl

pub closes : (halves : Bool) {n : Nonterminal} {k : Token → Right (Value n)} {ts rest : List Token} {v : Value n} → Follows halves n (k (at (Punct (codes ")")))) ts rest v → Follows halves n (takes Sort.Close k) (at (Punct (codes ")")) ∷ ts) rest v
closes halves f = word {s = Sort.Close} (ap (λ s. is Sort.Close s) (close_sort halves)) f

pub opens : (halves : Bool) {n : Nonterminal} {k : Token → Right (Value n)} {ts rest : List Token} {v : Value n} → Follows halves n (k (at (Punct (codes "(")))) ts rest v → Follows halves n (takes Sort.Open k) (at (Punct (codes "(")) ∷ ts) rest v
opens halves f = word {s = Sort.Open} (ap (λ s. is Sort.Open s) (open_sort halves)) f

pub names : (halves : Bool) {n : Nonterminal} {k : Token → Right (Value n)} {ts rest : List Token} {v : Value n} (name : List ℕ) → is_name name ≡ true → Follows halves n (k (at (Word name))) ts rest v → Follows halves n (takes Sort.Name k) (at (Word name) ∷ ts) rest v
names halves name h f = word {s = Sort.Name} (ap (λ s. is Sort.Name s) (name_sort halves name h)) f

pub size_reread : (halves : Bool) (o : Option Const) (rest : List Mark) → maybe is_shaped_const o ≡ true → Gets halves (option true size) (tokens_of (sized o rest)) (tokens_of rest) (option_map unplaced_const o)
size_reread halves None rest h = absent refl
size_reread halves (Some c) rest h =
    present (ap (λ s. rule (option true size) s (at (Punct (codes "[")))) (bracket_sort halves))
    (parts (constant_reread halves c (Is (Punct (codes "]")) ∷ rest) h) (word {s = Sort.CloseBracket} (ap (λ s. is Sort.CloseBracket s) (unbracket_sort halves)) done))

-- ---- annotations

pub annotation_reread : (halves : Bool) (d : ℕ) (a : AnnText) (rest : List Mark) → is_annotation_at d a ≡ true → Gets halves (part (annotation d)) (tokens_of (annotated (Some a) rest)) (tokens_of rest) (unplaced_annotation a)
annotation_reread halves d (ann.Array c) rest h =
    let k = both (may_open (d + 1)) (is_shaped_const c) h in
    present (allowed (ap (λ s. annotation_rule d s (at (Word (codes "__array")))) (array_sort halves)) k.0)
    (opens halves (parts (constant_reread halves c (Is (Punct (codes ")")) ∷ rest) k.1) (closes halves done)))
annotation_reread halves d (ann.Sentinel place name) rest h =
    let k = both (may_open (d + 1)) (is_name name) h in
    present (allowed (ap (λ s. annotation_rule d s (at (Word (codes "__sentinel")))) (sentinel_sort halves)) k.0)
    (opens halves (names halves name k.1 (closes halves done)))
annotation_reread halves d ann.NullTerm rest h = present (ap (λ s. annotation_rule d s (at (Word (codes "__nullterm")))) (nullterm_sort halves)) done
annotation_reread halves d ann.Opaque rest h = present (ap (λ s. annotation_rule d s (at (Word (codes "__opaque")))) (opaque_sort halves)) done

some_is : (d : ℕ) (s : Sort) (t : Token) (r : Right AnnText) → annotation_rule d s t ≡ given true r → rule (option true (annotation d)) s t ≡ given true (r >>= λ a. gives (Some a))
some_is d s t r e = ap (λ o. where_allowed true (and_then o (λ a. gives (Some a)))) e

pub annotated_reread : (halves : Bool) (d : ℕ) (o : Option AnnText) (rest : List Mark) → maybe (is_annotation_at d) o ≡ true → Gets halves (option true (annotation d)) (tokens_of (annotated o rest)) (tokens_of rest) (option_map unplaced_annotation o)
annotated_reread halves d None rest h = absent refl
annotated_reread halves d (Some a) rest h = through halves (λ x. gives (Some x)) refl (λ s t r e. some_is d s t r e) (annotation_reread halves d a rest h) done

-- ---- declarators, with no annotation

-- the parameters of a function pointer, as they are printed and as they are read
abbrev pub ArePointed : Bool → ℕ → Option (List Declared) → Option (List Decl) → Type 0
ArePointed halves d None None = Unit {0}
ArePointed halves d None (Some us) = ⊥
ArePointed halves d (Some ds) None = ⊥
ArePointed halves d (Some ds) (Some us) = (may_open (d + 1) ≡ true) × ((rest : List Mark) → Gets halves (parameters false (d + 1)) (tokens_of (parameter_list ds rest)) (tokens_of rest) us)

abbrev pub bare : Specifier → (stars : ℕ) → Option (List ℕ) → Option Const → Option (List Decl) → Decl
bare b k name z us = roll-Decl (record { place = nowhere; name = name; base = b.base; stars = k; size = z; fun = us; ann = None })

pub named_reread : (halves : Bool) (d k : ℕ) (b : Specifier) (name : List ℕ) (z : Option Const) (fun : Option (List Declared)) (us : Option (List Decl)) (rest : List Mark) → is_name name ≡ true → maybe is_shaped_const z ≡ true → ArePointed halves d fun us
    → Gets halves (part (declarator d b k)) (tokens_of (core (sized_name (Some name) z) fun rest)) (tokens_of rest) (bare b k (Some name) (option_map unplaced_const z) us)
named_reread halves d k b name z None None rest n s p =
    present (ap (λ s. declarator_rule d b k s (at (Word name))) (name_sort halves name n)) (parts (size_reread halves z rest s) done)
named_reread halves d k b name z None (Some us) rest n s p = absurd p
named_reread halves d k b name z (Some ds) None rest n s p = absurd p
named_reread halves d k b name z (Some ds) (Some us) rest n s p =
    present (allowed (ap (λ s. declarator_rule d b k s (at (Punct (codes "(")))) (open_sort halves)) p.0)
    (word {s = Sort.Star} (ap (λ s. is Sort.Star s) (star_sort halves))
    (names halves name n (parts (size_reread halves z (Is (Punct (codes ")")) ∷ printed_parameters ds rest) s)
    (closes halves (opens halves (parts (p.1 (Is (Punct (codes ")")) ∷ rest)) (closes halves done)))))))

pub declarator_reread : (halves : Bool) (d k n m : ℕ) (b : Specifier) (name : List ℕ) (z : Option Const) (fun : Option (List Declared)) (us : Option (List Decl)) (rest : List Mark) → k + n ≡ m → m ≤ 4294967295 → is_name name ≡ true → maybe is_shaped_const z ≡ true → ArePointed halves d fun us
    → Gets halves (part (declarator d b k)) (tokens_of (printed_stars n (core (sized_name (Some name) z) fun rest))) (tokens_of rest) (bare b m (Some name) (option_map unplaced_const z) us)
declarator_reread halves d k zero m b name z fun us rest e low h s p =
    let same : k ≡ m = omega (arith, e) in
    subst (λ (j : ℕ). Gets halves (part (declarator d b k)) (tokens_of (core (sized_name (Some name) z) fun rest)) (tokens_of rest) (bare b j (Some name) (option_map unplaced_const z) us)) same
    (named_reread halves d k b name z fun us rest h s p)
declarator_reread halves d k (suc n) m b name z fun us rest e low h s p =
    present (allowed (ap (λ s. declarator_rule d b k s (at (Punct (codes "*")))) (star_sort halves)) (le-leb (k + 1) 4294967295 (omega (arith, e, low))))
    (parts (declarator_reread halves d (k + 1) n m b name z fun us rest (omega (arith, e)) low h s p) done)

-- ---- declarators of parameters

-- a nonterminal reads at least one token there
pub record There (halves : Bool) (n : Nonterminal) (ts rest : List Token) (v : Value n) : Type 0 where
  pub first : Token
  pub more : List Token
  pub begins : Right (Value n)
  pub are : ts ≡ first ∷ more
  pub begun : rule n (sort_of halves first.what) first ≡ given true begins
  pub follows : Follows halves n begins more rest v

pub there : (halves : Bool) {n : Nonterminal} {ts rest : List Token} {v : Value n} → There halves n ts rest v → Gets halves n ts rest v
there halves {n = n} {rest = rest} {v = v} x = subst (λ (ts : List Token). Gets halves n ts rest v) (sym x.are) (present x.begun x.follows)

pub through_there : (halves : Bool) {n m : Nonterminal} {ts mid rest : List Token} {x : Value n} {v : Value m} (k : Value n → Right (Value m)) → ((s : Sort) (t : Token) (r : Right (Value n)) → rule n s t ≡ given true r → rule m s t ≡ given true (r >>= k)) → There halves n ts mid x → Follows halves m (k x) mid rest v → Gets halves m ts rest v
through_there halves {m = m} {rest = rest} {v = v} k q g f =
    subst (λ (ts : List Token). Gets halves m ts rest v) (sym g.are) (present (q (sort_of halves g.first.what) g.first g.begins g.begun) (follow_then halves k g.follows f))

name_there : (halves named : Bool) (name : Option (List ℕ)) (rest : List Mark) → may_be_named (Standing.Parameter named) name ≡ true → Gets halves (parameter_name named) (tokens_of (printed_name name rest)) (tokens_of rest) (option_map (λ n. at (Word n)) name)
name_there halves true None rest h = absurd (false≢true h)
name_there halves false None rest h = absent refl
name_there halves true (Some name) rest h = present (ap (λ s. parameter_name_rule s (at (Word name))) (name_sort halves name h)) done
name_there halves false (Some name) rest h = present (ap (λ s. parameter_name_rule s (at (Word name))) (name_sort halves name h)) done

abbrev pub nowhere_based : Base → Specifier
nowhere_based b = record { base = b; place = nowhere }

no_star_there : (halves named : Bool) (d k : ℕ) (b : Base) (name : Option (List ℕ)) (fun : Option (List Declared)) (us : Option (List Decl)) (rest : List Mark) → may_be_named (Standing.Parameter named) name ≡ true → ArePointed halves d fun us → is_bare 0 name fun ≡ false
    → There halves (parameter_declarator named d (nowhere_based b) k) (tokens_of (core (sized_name name None) fun rest)) (tokens_of rest) (bare (nowhere_based b) k name None us)
no_star_there halves named d k b None None None rest h p e = absurd (false≢true (sym e))
no_star_there halves named d k b name None (Some us) rest h p e = absurd p
no_star_there halves named d k b name (Some ds) None rest h p e = absurd p
no_star_there halves true d k b (Some name) None None rest h p e = record {
  first = at (Word name);
  more = tokens_of rest;
  begins = _;
  are = refl;
  begun = ap (λ s. parameter_declarator_rule true d (nowhere_based b) k s (at (Word name))) (name_sort halves name h);
  follows = done;
}
no_star_there halves false d k b (Some name) None None rest h p e = record {
  first = at (Word name);
  more = tokens_of rest;
  begins = _;
  are = refl;
  begun = ap (λ s. parameter_declarator_rule false d (nowhere_based b) k s (at (Word name))) (name_sort halves name h);
  follows = done;
}
no_star_there halves named d k b None (Some ds) (Some us) rest h p e = record {
  first = at (Punct (codes "("));
  more = _;
  begins = _;
  are = refl;
  begun = allowed (ap (λ s. parameter_declarator_rule named d (nowhere_based b) k s (at (Punct (codes "(")))) (open_sort halves)) p.0;
  follows =
      word {s = Sort.Star} (ap (λ s. is Sort.Star s) (star_sort halves))
      (parts (name_there halves named None (Is (Punct (codes ")")) ∷ printed_parameters ds rest) h)
      (closes halves (opens halves (parts (p.1 (Is (Punct (codes ")")) ∷ rest)) (closes halves done)))));
}
no_star_there halves named d k b (Some name) (Some ds) (Some us) rest h p e = record {
  first = at (Punct (codes "("));
  more = _;
  begins = _;
  are = refl;
  begun = allowed (ap (λ s. parameter_declarator_rule named d (nowhere_based b) k s (at (Punct (codes "(")))) (open_sort halves)) p.0;
  follows =
      word {s = Sort.Star} (ap (λ s. is Sort.Star s) (star_sort halves))
      (parts (name_there halves named (Some name) (Is (Punct (codes ")")) ∷ printed_parameters ds rest) h)
      (closes halves (opens halves (parts (p.1 (Is (Punct (codes ")")) ∷ rest)) (closes halves done)))));
}

no_star_reread : (halves named : Bool) (d k : ℕ) (b : Base) (name : Option (List ℕ)) (fun : Option (List Declared)) (us : Option (List Decl)) (rest : List Mark) → may_be_named (Standing.Parameter named) name ≡ true → ArePointed halves d fun us
    → Gets halves (parameter_declarator named d (nowhere_based b) k) (tokens_of (core (sized_name name None) fun rest)) (tokens_of rest) (bare (nowhere_based b) k name None us)
no_star_reread halves true d k b None None None rest h p = absurd (false≢true h)
no_star_reread halves false d k b None None None rest h p = absent refl
no_star_reread halves named d k b None None (Some us) rest h p = absurd p
no_star_reread halves named d k b None (Some ds) us rest h p = there halves (no_star_there halves named d k b None (Some ds) us rest h p refl)
no_star_reread halves named d k b (Some name) fun us rest h p = there halves (no_star_there halves named d k b (Some name) fun us rest h p refl)

pub parameter_declarator_reread : (halves named : Bool) (d k n m : ℕ) (b : Base) (name : Option (List ℕ)) (fun : Option (List Declared)) (us : Option (List Decl)) (rest : List Mark) → k + n ≡ m → m ≤ 4294967295 → may_be_named (Standing.Parameter named) name ≡ true → ArePointed halves d fun us
    → Gets halves (parameter_declarator named d (nowhere_based b) k) (tokens_of (printed_stars n (core (sized_name name None) fun rest))) (tokens_of rest) (bare (nowhere_based b) m name None us)
parameter_declarator_reread halves named d k zero m b name fun us rest e low h p =
    let same : k ≡ m = omega (arith, e) in
    subst (λ (j : ℕ). Gets halves (parameter_declarator named d (nowhere_based b) k) (tokens_of (core (sized_name name None) fun rest)) (tokens_of rest) (bare (nowhere_based b) j name None us)) same
    (no_star_reread halves named d k b name fun us rest h p)
parameter_declarator_reread halves named d k (suc n) m b name fun us rest e low h p =
    present (allowed (ap (λ s. parameter_declarator_rule named d (nowhere_based b) k s (at (Punct (codes "*")))) (star_sort halves)) (le-leb (k + 1) 4294967295 (omega (arith, e, low))))
    (parts (parameter_declarator_reread halves named d (k + 1) n m b name fun us rest (omega (arith, e)) low h p) done)

-- one that isn't empty
pub parameter_declarator_there : (halves named : Bool) (d n : ℕ) (b : Base) (name : Option (List ℕ)) (fun : Option (List Declared)) (us : Option (List Decl)) (rest : List Mark) → n ≤ 4294967295 → may_be_named (Standing.Parameter named) name ≡ true → ArePointed halves d fun us → is_bare n name fun ≡ false
    → There halves (parameter_declarator named d (nowhere_based b) 0) (tokens_of (printed_stars n (core (sized_name name None) fun rest))) (tokens_of rest) (bare (nowhere_based b) n name None us)
parameter_declarator_there halves named d zero b name fun us rest low h p e = no_star_there halves named d 0 b name fun us rest h p e
parameter_declarator_there halves named d (suc n) b name fun us rest low h p e = record {
  first = at (Punct (codes "*"));
  more = _;
  begins = _;
  are = refl;
  begun = allowed (ap (λ s. parameter_declarator_rule named d (nowhere_based b) 0 s (at (Punct (codes "*")))) (star_sort halves)) (le-leb (0 + 1) 4294967295 (omega (arith, low)));
  follows = parts (parameter_declarator_reread halves named d (0 + 1) n (suc n) b name fun us rest (omega arith) low h p) done;
}
