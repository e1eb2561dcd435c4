-- What two files say of a grammar within the limits, a table file of a version can hold.
use Rattle.std.proofs.Common.{◌≡◌, ◌∙◌, ◌<◌, ◌≤◌, ◌+◌, ℕ, zero, suc, List, [], ◌∷◌, ◌++◌, Option, Some, None, All, Bool}
use Rattle.std.proofs.Common.{Contains, IsTrue, ap, arith, inl, inr, length, length-append, map, option_map, refl}
use Rattle.std.proofs.Common.{slice_get, subst, sym, true, false}
use Rattle.std.specs.Prelude.{codes, if◌then◌else◌, max, nat_eq, nat_le, ◌&&◌, ◌/◌, ◌%◌}
use Rattle.std.specs.Fmt.{digit_glyph}
use Rattle.std.specs.List.{filter_map, flat_map}
use Rattle.std.specs.Option.{option_to_list}
use Rattle.std.proofs.lemmas.Bool.Decides.{nat_tests}
use Rattle.std.proofs.lemmas.List.{length-map}
use Rattle.std.proofs.lemmas.List.Elements.{All-cons, All-nil, Contains-append_cases, Contains-append_left}
use Rattle.std.proofs.lemmas.List.Elements.{Contains-append_right}
use Rattle.std.proofs.lemmas.Option.{same_Some, slice_get-get_or, slice_get-map, slice_get_within}
use Rattle.ly_base.proofs.MemberLemmas.{Contains-cons_cases, Contains-none, flat_map-Contains}
use Rattle.ly_base.specs.Bytes.{backslash, newline, single_quote, tab}
use Rattle.ly_base.specs.Escapes.{AllPass}
use Rattle.ly_base.specs.Language.{IsName, continues_name, is_letter}
use Rattle.ly_base.specs.Limits.{AreBounded, Sizes, sizes_in}
use Rattle.ly_base.specs.declared.version.Version.{Version}
use Rattle.ly_print.specs.Text.{escape_for, escaped_byte, is_plain}
use Rattle.ly_base.specs.Trees.{Tree, leaf, node}
use Rattle.ly_base.specs.declared.language.Language.{Language}
use Rattle.ly_base.specs.declared.language.Language.TheVariants.{Lex, Yacc}
use Rattle.ly_emit.specs.FitsFile.{IsGrammarWithin}
use Rattle.ly_emit.specs.Tables.{shape_from, shape_in}
use Rattle.ly_emit.proofs.ShapeLemmas.{IsJoinedAt, joined_at}
use Rattle.ly_grammar.specs.Derivations.{IsTree}
use Rattle.ly_grammar.specs.Reduction.{KeepsUseful}
use Rattle.ly_join.specs.Counts.{IsWithin, constructor_length, greatest, name_lengths, token_length}
use Rattle.ly_join.specs.Grammar.{IsRule, GrammarRule, Symbol, accept_rule, nonterminal}
use Rattle.ly_join.specs.Joined.{AreJoined, Joined, Note, Spec, SymbolTable, shape_by, table_of}
use Rattle.ly_join.specs.Numbering.{IsToken, declared_terminals, nonterminals_of, rule_literals, terminals_of}
use Rattle.ly_join.specs.Scanning.{Scanning}
use Rattle.ly_join.specs.Terminals.{TerminalName, byte, end, literal_in, terminal_in, token, undefined}
use Rattle.ly_join.specs.declared.limit.Limit.TheVariants as limit
use Rattle.ly_join.proofs.JoinLemmas.{token_there}
use Rattle.ly_join.proofs.ListLemmas.{mapped_in, member_at, zip_length}
use Rattle.ly_join.proofs.RuleLemmas.{joined_length}
use Rattle.ly_lr0.specs.Automaton.{Lr0Automaton, IsLr0Automaton}
use Rattle.ly_report.specs.Report.{terminal_name}
use Rattle.ly_tables.specs.Ranges.{IsNameLong, IsShapeShort, counts_of}
use Rattle.ly_yaccread.specs.Actions.{Making, build, default, pass}
use Rattle.ly_yaccread.specs.Declarations.{Declared}
use Rattle.ly_yaccread.specs.File.{Written}
use Rattle.ly_yaccread.specs.Rules.{Ruling}
use Rattle.ly_yaccread.specs.Words.{Word, block, braces, directive, literal, mark, name, number, other}
use Rattle.ly_yaccread.specs.YaccText.{YaccText}
use Rattle.ly_yaccread.proofs.NamedLemmas.{AreDeclaredNamed, AreNamed, IsBuiltOf, declared_named, made_built}
use Rattle.ly_generate.proofs.VersionLemmas.{AreCounted, counted}

-- a name has a byte
pub name_long : (l : Language) (n : List ℕ) → IsName l n → 1 ≤ length n
name_long l [] is = absurd is
name_long l (b ∷ n) is = omega arith

-- so a token that is declared has a name
listed_named : (xs : List Word) → AreNamed xs → (n : List ℕ) → Contains (filter_map terminal_in xs) (token n)
    → IsName Yacc n
listed_named [] named n there = Contains-none (token n) there
listed_named (name m ∷ xs) named n there =
    elim (Contains-cons_cases (token m) (filter_map terminal_in xs) (token n) there) [
      | inl e ↦ let same : m ≡ n = cc in subst (IsName Yacc) same named.0
      | inr later ↦ listed_named xs named.1 n later
    ]
listed_named (literal b ∷ xs) named n there =
    elim (Contains-cons_cases (byte b) (filter_map terminal_in xs) (token n) there) [
      | inl e ↦ absurd cc
      | inr later ↦ listed_named xs named.1 n later
    ]
listed_named (mark m ∷ xs) named n there = listed_named xs named.1 n there
listed_named (directive m ∷ xs) named n there = listed_named xs named.1 n there
listed_named (number ds ∷ xs) named n there = listed_named xs named.1 n there
listed_named (block ∷ xs) named n there = listed_named xs named.1 n there
listed_named (braces ∷ xs) named n there = listed_named xs named.1 n there
listed_named (other ∷ xs) named n there = listed_named xs named.1 n there

declared_at : (ds : List Declared) → AreDeclaredNamed ds → (d : Declared) → Contains ds d → AreNamed d.symbols
declared_at [] named d there = Contains-none d there
declared_at (e ∷ ds) named d there = elim (Contains-cons_cases e ds d there) [
  | inl same ↦ subst (λ (x : Declared). AreNamed x.symbols) same named.0
  | inr later ↦ declared_at ds named.1 d later
]

no_token : (xs : List Word) (n : List ℕ) → Contains (filter_map literal_in xs) (token n) → ⊥
no_token [] n there = Contains-none (token n) there
no_token (literal b ∷ xs) n there =
    elim (Contains-cons_cases (byte b) (filter_map literal_in xs) (token n) there) [
      | inl e ↦ absurd cc
      | inr later ↦ no_token xs n later
    ]
no_token (name m ∷ xs) n there = no_token xs n there
no_token (mark m ∷ xs) n there = no_token xs n there
no_token (directive m ∷ xs) n there = no_token xs n there
no_token (number ds ∷ xs) n there = no_token xs n there
no_token (block ∷ xs) n there = no_token xs n there
no_token (braces ∷ xs) n there = no_token xs n there
no_token (other ∷ xs) n there = no_token xs n there

-- a token that appears is declared
pub token_declared : (w : Written) (n : List ℕ) → IsToken w n
    → Contains (flat_map declared_terminals w.preamble.declarations) (token n)
token_declared w n there = elim (Contains-append_cases
    (flat_map declared_terminals w.preamble.declarations)
    (flat_map rule_literals w.rules) (token n) there) [
      | inl here ↦ here
      | inr wrong ↦ let found = flat_map-Contains rule_literals w.rules (token n) wrong in
          absurd (no_token (found.0.body ++ option_to_list found.0.precedence) n found.2)
    ]

-- and has a name
pub token_named : (bytes : List ℕ) (w : Written) → YaccText bytes w → (n : List ℕ) → IsToken w n → IsName Yacc n
token_named bytes w text n there =
    let found = flat_map-Contains declared_terminals w.preamble.declarations (token n) (token_declared w n there) in
    listed_named found.0.symbols (declared_at w.preamble.declarations (declared_named bytes w text) found.0 found.1) n
    found.2

-- the bytes of a name are bytes
letter_byte : (b : ℕ) → IsTrue (is_letter b) → b < 256
letter_byte b is = grind (arith, nat_tests, is)

continued_byte : (b : ℕ) → IsTrue (continues_name Lex b) → b < 256
continued_byte b is = grind (arith, nat_tests, is)

all_bytes : (bs : List ℕ) → AllPass (continues_name Lex) bs → All (λ b. b < 256) bs
all_bytes [] all = All-nil (λ b. b < 256)
all_bytes (b ∷ bs) all = All-cons (λ b. b < 256) b bs (continued_byte b all.0) (all_bytes bs all.1)

pub name_bytes : (n : List ℕ) → IsName Lex n → All (λ b. b < 256) n
name_bytes [] is = absurd is
name_bytes (b ∷ bs) is = All-cons (λ b. b < 256) b bs (letter_byte b is.0) (all_bytes bs is.1)

-- a byte between quotes has one byte to four
abbrev IsEscapeLong : List ℕ → Type 0
IsEscapeLong bytes = (1 ≤ length bytes) × (length bytes ≤ 4)

either_long : (t : Bool) (xs ys : List ℕ) → IsEscapeLong xs → IsEscapeLong ys → IsEscapeLong (if t then xs else ys)
either_long true xs ys a b = a
either_long false xs ys a b = b

escape_long : (b : ℕ) → IsEscapeLong (escape_for b)
escape_long b =
    let hexadecimal = codes "\\x" ++ digit_glyph false (b / 16) ∷ digit_glyph false (b % 16) ∷ [] in
    let quoted = if nat_le 32 b && nat_le b 126 then backslash ∷ b ∷ [] else hexadecimal in
    let tabbed = if nat_eq b tab then codes "\\t" else quoted in
    either_long (nat_eq b newline) (codes "\\n") tabbed (omega arith, omega arith)
    (either_long (nat_eq b tab) (codes "\\t") quoted (omega arith, omega arith)
    (either_long (nat_le 32 b && nat_le b 126) (backslash ∷ b ∷ []) hexadecimal (omega arith, omega arith)
    (omega arith, omega arith)))

escaped_long : (quote b : ℕ) → IsEscapeLong (escaped_byte quote b)
escaped_long quote b = either_long (is_plain quote b) (b ∷ []) (escape_for b) (omega arith, omega arith) (escape_long b)

-- the greatest of numbers is no less than any
greatest_le : (ns : List ℕ) (n : ℕ) → Contains ns n → n ≤ greatest ns
greatest_le [] n there = Contains-none n there
greatest_le (m ∷ ns) n there = elim (Contains-cons_cases m ns n there) [
  | inl e ↦ omega (arith, e)
  | inr later ↦ omega (arith, greatest_le ns n later)
]

-- as many rules as there are in the file
joined_rules : (m : SymbolTable) (rs : List Ruling) (rules : List GrammarRule) (notes : List Note)
    → AreJoined m rs rules notes → length rules ≡ length rs
joined_rules m [] [] [] all = refl
joined_rules m [] [] (n ∷ notes) all = absurd all
joined_rules m [] (g ∷ rules) notes all = absurd all
joined_rules m (r ∷ rs) [] notes all = absurd all
joined_rules m (r ∷ rs) (g ∷ rules) [] all = absurd all
joined_rules m (r ∷ rs) (g ∷ rules) (n ∷ notes) all = omega (arith, joined_rules m rs rules notes all.1)

shape_short : (m : Making) (body : List Symbol) → IsBuiltOf m → constructor_length m ≤ 255
    → IsShapeShort (shape_by m body)
shape_short default [] built short = tt
shape_short default (X ∷ body) built short = tt
shape_short (pass p) body built short = tt
shape_short (build n ps) body built short = ((name_long Lex n built, short), name_bytes n built)

module _ (v : Version) (limits : Sizes) (yacc : List ℕ) (x : Scanning) (w : Written) (s : Spec)
    (bounded : AreBounded (sizes_in v) limits) (text : YaccText yacc w) (joined : Joined x w s)
    (within : IsWithin limits x w) where
  counts : AreCounted v limits
  counts = counted v limits bounded

  token_long : (n : List ℕ) → IsToken w n → IsNameLong n
  token_long n is =
      let there = mapped_in token_length (flat_map declared_terminals w.preamble.declarations) (token n)
      (token_declared w n is) in
      let le = greatest_le (name_lengths w) (length n) (Contains-append_left
      (map token_length (flat_map declared_terminals w.preamble.declarations))
      (map (λ r. max (length r.left) (constructor_length r.making)) w.rules) (length n) there) in
      let most : greatest (name_lengths w) ≤ limits.name_length = within limit.Name in
      let bound = counts.name_length in
      (name_long Yacc n (token_named yacc w text n is), omega (arith, le, most, bound))

  terminal_long : (t : TerminalName) → Contains s.terminals t → IsNameLong (terminal_name t)
  terminal_long end there = (omega arith, omega arith)
  terminal_long undefined there = (omega arith, omega arith)
  terminal_long (token n) there = token_long n (token_there w n (subst (λ ts. Contains ts (token n)) joined.terminals
      there))
  terminal_long (byte b) there = let long = escaped_long single_quote b in
      let all = length-append (escaped_byte single_quote b) (single_quote ∷ []) in
      (omega arith, omega (arith, long.1, all))

  rules_are : s.grammar.rules ≡ map Some (accept_rule (length s.nonterminals) s.grammar.start ∷ joined.rules)
  rules_are = ap (λ g. g.rules) joined.grammar

  rule_count : length s.grammar.rules ≡ length w.rules + 1
  rule_count = let all = ap length rules_are in
      let same = length-map joined.rules Some in
      let count = joined_rules (table_of s) w.rules joined.rules joined.notes joined.joined in
      omega (arith, all, same, count)

  joined_from : (k : ℕ) → k < length joined.rules
      → (g : GrammarRule) × (slice_get joined.rules k ≡ Some g) × IsJoinedAt (table_of s) w.rules joined.notes k g
  joined_from k lt =
      let at = slice_get-get_or joined.rules k (accept_rule 0 0) lt in
      (_, at, joined_at (table_of s) w.rules joined.rules joined.notes joined.joined k _ at)

  rule_short : (p : ℕ) → 1 ≤ p → p < length s.grammar.rules
      → (r : GrammarRule) × IsRule s.grammar p r × (length r.body ≤ 255)
  rule_short zero some lt = absurd (omega (arith, some))
  rule_short (suc k) some lt =
      let count = rule_count in
      let all = joined_rules (table_of s) w.rules joined.rules joined.notes joined.joined in
      let found = joined_from k (omega (arith, lt, count, all)) in
      let at = found.2 in
      let long = zip_length _ at.ruling.body found.0.body at.joined.body in
      let le = greatest_le (map (λ r. length r.body) w.rules) (length at.ruling.body)
      (mapped_in (λ r. length r.body) w.rules at.ruling (member_at w.rules k at.ruling at.is_ruling)) in
      let most : greatest (map (λ r. length r.body) w.rules) ≤ limits.body_length = within limit.Body in
      let bound = counts.body_length in (
        found.0,
        ap (λ rs. slice_get rs (suc k)) rules_are ∙ slice_get-map Some joined.rules k ∙ ap (option_map Some) found.1,
        omega (arith, long, le, most, bound),
      )

  constructor_short : (p : ℕ) → IsShapeShort (shape_in s p)
  constructor_short zero = subst (λ ns. IsShapeShort (shape_from (slice_get ns 0))) (sym joined.all_notes) tt
  constructor_short (suc k) = subst (λ ns. IsShapeShort (shape_from (slice_get ns (suc k)))) (sym joined.all_notes)
      (by (slice_get joined.notes k) refl)
    where
      by : (o : Option Note) → slice_get joined.notes k ≡ o → IsShapeShort (shape_from o)
      by None e = tt
      by (Some n) e =
          let lt = slice_get_within joined.notes k n e in
          let many = joined_length (table_of s) w.rules joined.rules joined.notes joined.joined in
          let at = (joined_from k (omega (arith, lt, many))).2 in
          let made = at.ruling.making in
          let le = greatest_le (name_lengths w) (max (length at.ruling.left) (constructor_length made))
          (Contains-append_right (map token_length (flat_map declared_terminals w.preamble.declarations))
          (map (λ r. max (length r.left) (constructor_length r.making)) w.rules) _
          (mapped_in (λ r. max (length r.left) (constructor_length r.making)) w.rules at.ruling
          (member_at w.rules k at.ruling at.is_ruling))) in
          let most : greatest (name_lengths w) ≤ limits.name_length = within limit.Name in
          let bound = counts.name_length in
          let same : n.shape ≡ shape_by made _ = ap (λ (m : Note). m.shape) (same_Some n at.note (sym e ∙ at.is_note))
          ∙ at.joined.shape in
          subst IsShapeShort (sym same) (shape_short made _ (made_built yacc w text k at.ruling at.is_ruling)
          (omega (arith, le, most, bound)))

  module _ (M : Lr0Automaton) (is : IsLr0Automaton M) (useful : KeepsUseful s.grammar M.grammar)
      (few : length M.states ≤ limits.parser_states) where
    some_rule : 2 ≤ length s.grammar.rules
    some_rule = by is.reduced.start_tree.0 is.reduced.start_tree.1
      where
        past : (p : ℕ) (r : GrammarRule) → IsRule M.grammar p r → r.left ≡ M.grammar.start → 2 ≤ length s.grammar.rules
        past zero r at left =
            let same = same_Some _ r (same_Some _ (Some r) (sym is.augmented.rule_0 ∙ at)) in
            let accept : M.grammar.accept ≡ M.grammar.start = ap (λ g. g.left) same ∙ left in
            let lt = is.augmented.start_within in
            absurd (omega (arith, accept, lt))
        past (suc p) r at left = let lt = slice_get_within M.grammar.rules (suc p) (Some r) at in
            let numbers = useful.numbers in omega (arith, lt, numbers)

        by : (d : Tree) → IsTree M.grammar (nonterminal M.grammar.start) d → 2 ≤ length s.grammar.rules
        by (leaf t) tree = absurd tree
        by (node p ts) tree = past p tree.0 tree.1 tree.2

    pub grammar_within : IsGrammarWithin (counts_of v) s M
    grammar_within = record {
      end = ap (λ ts. slice_get ts 0) joined.terminals;
      undefined = ap (λ ts. slice_get ts 1) joined.terminals;
      symbols =
          let terminals = ap length joined.terminals in
          let nonterminals = ap length joined.nonterminals in
          let most : length (terminals_of w) + length (nonterminals_of w) + 1 ≤ limits.symbols
          = within limit.Symbols in
          let bound = counts.symbols in
          omega (arith, terminals, nonterminals, most, bound);
      names = λ k d lt. terminal_long _ (member_at s.terminals k _ (slice_get-get_or s.terminals k d lt));
      some_rule = some_rule;
      rule_count =
          let count = rule_count in
          let most : length w.rules ≤ limits.yacc_rules = within limit.Rules in
          let bound = counts.yacc_rules in
          omega (arith, count, most, bound);
      rules = rule_short;
      constructors = constructor_short;
      states = let bound = counts.parser_states in omega (arith, few, bound);
    }
