-- Names that a yacc file declares or builds are names.
use Rattle.std.proofs.Common.{◌≡◌, ℕ, zero, suc, List, [], ◌∷◌, ◌++◌, Option, Some, None, inl, inr, length, slice_get}
use Rattle.std.proofs.Common.{subst, sym}
use Rattle.std.specs.Option.{option_map}
use Rattle.ly_base.specs.Language.{IsName}
use Rattle.ly_base.specs.declared.language.Language.TheVariants.{Lex, Yacc}
use Rattle.ly_yaccread.specs.Actions.{ActionPassed, Making, ValueFirst, build, builds, default, pass, passes}
use Rattle.ly_yaccread.specs.Declarations.{Declarations, Declared, Declares, Declaring, FollowsDirective, Saying, end}
use Rattle.ly_yaccread.specs.Declarations.{more, nothing, start, tokens, with_saying, with_start}
use Rattle.ly_yaccread.specs.File.{Written}
use Rattle.ly_yaccread.specs.Rules as rules
use Rattle.ly_yaccread.specs.Rules.{BodyEnd, LateAction, LeftSide, Ruling, YaccRules}
use Rattle.ly_yaccread.specs.Symbols as symbols
use Rattle.ly_yaccread.specs.Symbols.{Listed, NumberPassed, SymbolList, TagPassed}
use Rattle.ly_yaccread.specs.Words as words
use Rattle.ly_yaccread.specs.Words.{Takes, Word, Wording, block, braces, directive, literal, mark, name, number, other}
use Rattle.ly_yaccread.specs.YaccText.{YaccText}
use Rattle.ly_yaccread.specs.declared.declaration.Directive.{Directive}
use Rattle.ly_yaccread.specs.declared.declaration.Directive.TheVariants.{Start, Tokens, Types, Union}
use Rattle.ly_yaccread.specs.declared.listing.Listing.{Listing}
use Rattle.ly_yaccread.specs.declared.listing.Listing.TheVariants.{Numbered, Plain}
use Rattle.ly_yaccread.specs.declared.part.Part.{Part}
use Rattle.ly_yaccread.specs.declared.standing.Standing.{Standing}
use Rattle.ly_yaccread.proofs.SymbolLemmas.{symbol_is}

-- each word that is a name is one
abbrev pub IsNamed : Word → Type 0
IsNamed (name n) = IsName Yacc n
IsNamed _ = Unit {0}

abbrev pub AreNamed : List Word → Type 0
AreNamed [] = Unit {0}
AreNamed (x ∷ xs) = IsNamed x × AreNamed xs

word_named : (p : Part) (text : List ℕ) (x : Word) (rest : List ℕ) → Takes p text x rest → IsNamed x
word_named p text (name n) rest takes = takes.2.0
word_named p text (mark m) rest takes = tt
word_named p text (directive n) rest takes = tt
word_named p text (number ds) rest takes = tt
word_named p text (literal b) rest takes = tt
word_named p text block rest takes = tt
word_named p text braces rest takes = tt
word_named p text other rest takes = tt

words_named : {n : ℕ} {p : Part} {text : List ℕ} {ws : List Word} {os : List ℕ} → Wording n p text ws os → AreNamed ws
words_named (words.free text) = tt
words_named (words.end p text gap) = tt
words_named (words.stuck p text o in_part no_gap none begins) = (tt, tt)
words_named (words.more p text rest x o xs os in_part takes begins behind)
    = (word_named p text x rest takes, words_named behind)

-- the symbols of a list, and what stands behind them
number_named : (l : Listing) (ws rest : List Word) → NumberPassed l ws rest → AreNamed ws → AreNamed rest
number_named Plain ws rest e named = subst AreNamed e named
number_named Numbered ws rest (inl there) named = (subst AreNamed there.1 named).1
number_named Numbered ws rest (inr none) named = subst AreNamed none.1 named

listed_named : {l : Listing} {ws xs : List Word} {ns : List ℕ} {rest : List Word} → Listed l ws xs ns rest → AreNamed ws
    → AreNamed xs × AreNamed rest
listed_named (symbols.none ws absent) named = (tt, named)
listed_named {l = l} (symbols.one ws behind left rest x xs ns first passed behind_all) named =
    let both = subst AreNamed (symbol_is ws x behind first) named in
    let later = listed_named behind_all (number_named l behind left passed both.1) in
    ((both.0, later.0), later.1)

tag_named : (ws rest : List Word) → TagPassed ws rest → AreNamed ws → AreNamed rest
tag_named ws rest (inl there) named = (subst AreNamed there.1 named).1.1.1
tag_named ws rest (inr none) named = subst AreNamed none.1 named

list_named : (l : Listing) (ws xs : List Word) (ns : List ℕ) (rest : List Word) → SymbolList l ws xs ns rest
    → AreNamed ws → AreNamed xs × AreNamed rest
list_named l ws xs ns rest all named = listed_named all.symbols (tag_named ws all.behind all.tag named)

-- what a declaration says of names
abbrev SaysNamed : Saying → Type 0
SaysNamed (tokens k xs ns) = AreNamed xs
SaysNamed _ = Unit {0}

abbrev pub AreDeclaredNamed : List Declared → Type 0
AreDeclaredNamed [] = Unit {0}
AreDeclaredNamed (d ∷ ds) = AreNamed d.symbols × AreDeclaredNamed ds

directive_named : (d : Directive) (ws : List Word) (s : Saying) (rest : List Word) → FollowsDirective d ws s rest
    → AreNamed ws → SaysNamed s × AreNamed rest
directive_named (Tokens k) ws s rest h named = let both = list_named Numbered ws h.0 h.1 rest h.2 named in
    (subst SaysNamed (sym h.3) both.0, both.1)
directive_named Types ws s rest h named = let both = list_named Plain ws h.0 h.1 rest h.2 named in
    (subst SaysNamed (sym h.3) tt, both.1)
directive_named Start ws s rest h named = (subst SaysNamed (sym h.3) tt, (subst AreNamed h.1 named).1)
directive_named Union ws s rest h named = (subst SaysNamed (sym h.1) tt, (subst AreNamed h.0 named).1)

declares_named : (ws : List Word) (s : Saying) (rest : List Word) → Declares ws s rest → AreNamed ws
    → SaysNamed s × AreNamed rest
declares_named ws s rest (inl h) named = (subst SaysNamed (sym h.1) tt, (subst AreNamed h.0 named).1)
declares_named ws s rest (inr h) named = directive_named h.0 h.1 s rest h.3 (subst AreNamed h.2 named).1

declared_append : (ds es : List Declared) → AreDeclaredNamed ds → AreDeclaredNamed es → AreDeclaredNamed (ds ++ es)
declared_append [] es a b = b
declared_append (d ∷ ds) es a b = (a.0, declared_append ds es a.1 b)

-- what is declared is named
abbrev HasNamed : Declaring → Type 0
HasNamed h = AreDeclaredNamed h.preamble.declarations

with_named : (h i : Declaring) (s : Saying) → with_saying h s ≡ Some i → HasNamed h → SaysNamed s → HasNamed i
with_named h i (tokens k xs ns) e named said =
    let more : List Declared = h.preamble.declarations ++ record { kind = k; symbols = xs } ∷ [] in
    let same : record {
      preamble = record { declarations = more; start = h.preamble.start };
      tokens = h.tokens ++ ns;
    } ≡ i = cc in
    subst HasNamed same
    (declared_append h.preamble.declarations (record { kind = k; symbols = xs } ∷ []) named (said, tt))
with_named h i (start n) e named said = by h.preamble.start e
  where
    by : (o : Option (List ℕ)) → option_map (λ p. record { preamble = p; tokens = h.tokens })
        (with_start h.preamble.declarations o n) ≡ Some i → HasNamed i
    by None f =
        let same : record {
          preamble = record { declarations = h.preamble.declarations; start = Some n };
          tokens = h.tokens;
        } ≡ i = cc in
        subst HasNamed same named
    by (Some m) f = absurd cc
with_named h i nothing e named said = let same : h ≡ i = cc in subst HasNamed same named

declarations_named : {h all : Declaring} {ws rest : List Word} → Declarations h ws all rest → AreNamed ws → HasNamed h
    → HasNamed all
declarations_named (end h rest) named before = before
declarations_named (more h i all ws behind rest s declares said behind_all) named before =
    let both = declares_named ws s behind declares named in
    declarations_named behind_all both.1 (with_named h i s said before both.0)

-- so those that are declared are named
pub declared_named : (bytes : List ℕ) (w : Written) → YaccText bytes w → AreDeclaredNamed w.preamble.declarations
declared_named bytes w text = declarations_named text.declarations (words_named text.spelled) tt

-- a constructor that is built has a name
abbrev pub IsBuiltOf : Making → Type 0
IsBuiltOf (build n ps) = IsName Lex n
IsBuiltOf _ = Unit {0}

value_built : (k : ℕ) {ws rest : List Word} {m : Making} → ValueFirst k ws m rest → IsBuiltOf m
value_built k (passes p ws rest first) = tt
value_built k (builds n ps ws rest is no_error h) = is

action_built : (k : ℕ) (ws rest : List Word) (m : Making) → ActionPassed k ws m rest → IsBuiltOf m
action_built k ws rest m (inl a) = value_built k a.value
action_built k ws rest m (inr none) = subst IsBuiltOf (sym none.1) tt

end_built : (k : ℕ) {ws rest : List Word} {x : Option Word} {m : Making} → BodyEnd k ws x m rest → IsBuiltOf m
end_built k {rest = rest} {x = x} {m = m} b = by b.early x (action_built k _ b.behind b.early b.action) b.late
  where
    by : (early : Making) (x : Option Word) → IsBuiltOf early → LateAction k early x b.left m rest → IsBuiltOf m
    by default (Some y) built late = action_built k b.left rest m late
    by default None built late = subst IsBuiltOf (sym late.0) built
    by (pass p) (Some y) built late = subst IsBuiltOf (sym late.0) built
    by (pass p) None built late = subst IsBuiltOf (sym late.0) built
    by (build c ps) (Some y) built late = subst IsBuiltOf (sym late.0) built
    by (build c ps) None built late = subst IsBuiltOf (sym late.0) built

rules_built : {before : Option LeftSide} {ws : List Word} {rs : List Ruling} {ss : List Standing}
    → YaccRules before ws rs ss → (k : ℕ) (r : Ruling) → slice_get rs k ≡ Some r → IsBuiltOf r.making
rules_built (rules.end before ws over) k r at = absurd cc
rules_built (rules.rule before l ws behind rest x rs ss follows body h) zero r at =
    let same : x ≡ r = cc in subst (λ (y : Ruling). IsBuiltOf y.making) same (end_built (length x.body) body.body_end)
rules_built (rules.rule before l ws behind rest x rs ss follows body h) (suc k) r at = rules_built h k r at
rules_built (rules.semicolon l ws rs ss h) k r at = rules_built h k r at

pub made_built : (bytes : List ℕ) (w : Written) → YaccText bytes w → (k : ℕ) (r : Ruling)
    → slice_get w.rules k ≡ Some r → IsBuiltOf r.making
made_built bytes w text = rules_built text.rules
