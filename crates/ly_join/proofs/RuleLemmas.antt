-- Rules over numbered symbols.
use Rattle.std.proofs.Common.{◌≡◌, ◌∙◌, ◌<◌, inl, inr, ℕ, List, [], ◌∷◌, ◌++◌, Option, Some, None, refl, sym, ap, subst}
use Rattle.std.proofs.Common.{All, Contains, length, map, arith, take, slice_index_or, ◌+◌, ◌≤◌, zero, suc}
use Rattle.std.specs.Prelude.{IfSome, option_map, slice_get}
use Rattle.std.specs.List.{AllZip, cons_option, filter_map}
use Rattle.std.specs.Option.{option_to_list}
use Rattle.std.proofs.lemmas.List.{length-append, map_more, map_push, take-map}
use Rattle.std.proofs.lemmas.List.Elements.{All-cons, All-contains_itself, All-head, All-nil, All-tail}
use Rattle.std.proofs.lemmas.List.Elements.{All-weaker, Contains-append_cases}
use Rattle.std.proofs.lemmas.List.Elements.{Contains-append_left}
use Rattle.std.proofs.lemmas.List.Elements.{Contains-append_right, Contains-push_cases, filter_map-append}
use Rattle.std.proofs.lemmas.Option.{slice_get_within}
use Rattle.ly_base.proofs.MemberLemmas.{Contains-cons_cases, Contains-first, Contains-flat_map}
use Rattle.ly_base.proofs.MemberLemmas.{Contains-later, Contains-none}
use Rattle.ly_base.proofs.MemberLemmas.{Contains-one}
use Rattle.ly_yaccread.specs.Rules.{Ruling}
use Rattle.ly_yaccread.specs.Words.{Word, mark, directive, name, number, literal, block, braces, other}
use Rattle.ly_join.specs.Grammar.{GrammarRule, Symbol, RuleWithin, SymbolWithin, symbol_of, terminal, nonterminal}
use Rattle.ly_join.specs.Joined.{last_terminal, later, number_in, AreJoined, IsJoinedRule, IsSymbol, Note}
use Rattle.ly_base.specs.declared.numbers.Sym.{Sym}
use Rattle.ly_join.specs.Joined.{IsTerminal, SymbolTable}
use Rattle.ly_join.specs.Numbering.{rule_literals}
use Rattle.ly_join.specs.Terminals.{TerminalName, byte, end, literal_in, token}
use Rattle.ly_join.specs.Private.Rules.{AreCovered, AreJoinedWithin, HasAll, HasLiteral, IsBelow}
use Rattle.ly_join.specs.Private.Rules.{IsUndefinedIn, RulesJoined}
use Rattle.ly_join.specs.declared.symbol.Symbol as code
use Rattle.ly_join.specs.declared.fault.JoinFault.{JoinFault}
use Rattle.ly_join.specs.declared.fault.JoinFault.TheVariants.{UndefinedSymbol, TokenOnLeft, PrecedenceTwice}
use Rattle.ly_join.specs.declared.fault.JoinFault.TheVariants.{UnknownStart, ReturnUndeclared, PrecUnknown, NoRules}
use Rattle.ly_join.specs.declared.fault.JoinFault.TheVariants.{LimitPassed, OutOfMemory}
use Rattle.ly_join.proofs.ListLemmas.{mapped_in, zip_member}

later_twice : (a b c : Option ℕ) → later a (later b c) ≡ later (later a b) c
later_twice a b None = refl
later_twice a b (Some t) = refl

-- a symbol more is the last terminal if it is one
pub last_push : (w : List Symbol) (X : Symbol) → last_terminal (w ++ X ∷ []) ≡ later (last_terminal w) (number_in X)
last_push [] (terminal t) = refl
last_push [] (nonterminal A) = refl
last_push (Y ∷ w) X = ap (later (number_in Y)) (last_push w X)
    ∙ later_twice (number_in Y) (last_terminal w) (number_in X)

pub last_more : (body : List code.Symbol) (i : ℕ) (d X : code.Symbol) → i < length body → slice_index_or body i d ≡ X
    → last_terminal (take (i + 1) (map symbol_of body))
    ≡ later (last_terminal (take i (map symbol_of body))) (number_in (symbol_of X))
last_more body i d X lt is = ap last_terminal (take-map symbol_of (i + 1) body ∙ map_more symbol_of body i d lt)
    ∙ (last_push (map symbol_of (take i body)) (symbol_of (slice_index_or body i d))
    ∙ (ap (λ ws. later (last_terminal ws) (number_in (symbol_of (slice_index_or body i d))))
    (sym (take-map symbol_of i body))
    ∙ ap (λ Y. later (last_terminal (take i (map symbol_of body))) (number_in (symbol_of Y))) is))

-- what is made of a member is a member
filter_map_in : {X Y : Type 0} (h : X → Option Y) (xs : List X) (x : X) (y : Y) → Contains xs x → h x ≡ Some y
    → Contains (filter_map h xs) y
filter_map_in h [] x y there is = Contains-none x there
filter_map_in h (z ∷ xs) x y there is = elim (Contains-cons_cases z xs x there) [
  | inl same ↦ subst (λ o. Contains (cons_option o (filter_map h xs)) y) (sym (ap h same ∙ is))
      (Contains-first y (filter_map h xs))
  | inr rest ↦ behind (h z) (filter_map h xs) y (filter_map_in h xs x y rest is)
] where
  behind : {Y : Type 0} (o : Option Y) (ys : List Y) (y : Y) → Contains ys y → Contains (cons_option o ys) y
  behind None ys y g = g
  behind (Some w) ys y g = Contains-later w ys y g

-- a word of which the literals have numbers
has_literal : (ts : List TerminalName) (ws : List Word) (w : Word) → HasAll ts (filter_map literal_in ws)
    → Contains ws w
    → HasLiteral ts w
has_literal ts ws (literal b) all there = all (byte b) (filter_map_in literal_in ws (literal b) (byte b) there refl)
has_literal ts ws (mark m) all there = tt
has_literal ts ws (directive n) all there = tt
has_literal ts ws (name n) all there = tt
has_literal ts ws (number n) all there = tt
has_literal ts ws block all there = tt
has_literal ts ws braces all there = tt
has_literal ts ws other all there = tt

have_literals : (ts : List TerminalName) (ws : List Word) → HasAll ts (filter_map literal_in ws)
    → All (HasLiteral ts) ws
have_literals ts ws all = All-weaker (Contains ws) (HasLiteral ts) (λ w there. has_literal ts ws w all there) ws
    (All-contains_itself ws)

-- the literals of a rule that is covered by itself
rule_covered : (m : SymbolTable) (r : Ruling) → AreCovered m (r ∷ []) → HasAll m.terminals (rule_literals r)
rule_covered m r covered x there = covered.literals x (Contains-append_left (rule_literals r) [] x there)

pub body_literals : (m : SymbolTable) (r : Ruling) → AreCovered m (r ∷ []) → All (HasLiteral m.terminals) r.body
body_literals m r covered = have_literals m.terminals r.body
    (λ x there. rule_covered m r covered x
    (subst (λ xs. Contains xs x) (sym (filter_map-append literal_in r.body (option_to_list r.precedence)))
    (Contains-append_left (filter_map literal_in r.body) (filter_map literal_in (option_to_list r.precedence)) x
    there)))

pub prec_literals : (m : SymbolTable) (r : Ruling) → AreCovered m (r ∷ [])
    → All (HasLiteral m.terminals) (option_to_list r.precedence)
prec_literals m r covered = have_literals m.terminals (option_to_list r.precedence)
    (λ x there. rule_covered m r covered x
    (subst (λ xs. Contains xs x) (sym (filter_map-append literal_in r.body (option_to_list r.precedence)))
    (Contains-append_right (filter_map literal_in r.body) (filter_map literal_in (option_to_list r.precedence)) x
    there)))

-- one of rules that are covered
pub covered_one : (m : SymbolTable) (rs : List Ruling) (r : Ruling) → AreCovered m rs → Contains rs r
    → AreCovered m (r ∷ [])
covered_one m rs r covered there = record {
  long = covered.long;
  left = λ n here. subst (Contains m.nonterminals) (Contains-one r.left n here)
      (covered.left r.left (mapped_in (λ x. x.left) rs r there));
  literals = λ x here. elim (Contains-append_cases (rule_literals r) [] x here) [
    | inl one ↦ covered.literals x (Contains-flat_map rule_literals rs r x there one)
    | inr none ↦ Contains-none x none
  ];
}

-- a symbol of a body is below the number of terminals, if it is one
symbol_below : (m : SymbolTable) (w : Word) (X : Symbol) → IsSymbol m w X → IsBelow (length m.terminals) X
symbol_below m w (nonterminal A) is = tt
symbol_below m (name n) (terminal t) is = slice_get_within m.terminals t (token n) is
symbol_below m (literal b) (terminal t) is = slice_get_within m.terminals t (byte b) is
symbol_below m (mark k) (terminal t) is = absurd is
symbol_below m (directive n) (terminal t) is = absurd is
symbol_below m (number n) (terminal t) is = absurd is
symbol_below m block (terminal t) is = absurd is
symbol_below m braces (terminal t) is = absurd is
symbol_below m other (terminal t) is = absurd is

pub body_below : (m : SymbolTable) (ws : List Word) (w : List Symbol) → AllZip (IsSymbol m) ws w
    → All (IsBelow (length m.terminals)) w
body_below m ws w all = All-weaker (Contains w) (IsBelow (length m.terminals))
    (λ X there. let found = zip_member (IsSymbol m) ws w X all there in symbol_below m found.0 X found.2) w
    (All-contains_itself w)

-- the last terminal of a body is below it too
pub last_below : (n : ℕ) (w : List Symbol) → All (IsBelow n) w → IfSome (last_terminal w) (λ t. t < n)
last_below n [] all = tt
last_below n (X ∷ w) all = by X (last_terminal w) (All-head (IsBelow n) X w all)
    (last_below n w (All-tail (IsBelow n) X w all))
  where
    by : (X : Symbol) (o : Option ℕ) → IsBelow n X → IfSome o (λ t. t < n) → IfSome (later (number_in X) o) (λ t. t < n)
    by (terminal t) None here rest = here
    by (nonterminal A) None here rest = tt
    by X (Some t) here rest = rest

-- a fault of a word is one of the body that has it
pub undefined_in : (m : SymbolTable) (ws : List Word) (w : Word) (f : JoinFault) → Contains ws w
    → IsUndefinedIn m (w ∷ []) f → IsUndefinedIn m ws f
undefined_in m ws w (UndefinedSymbol n) there h =
    (subst (Contains ws) (Contains-one w (name n.items) h.0) there, h.1, h.2)
undefined_in m ws w OutOfMemory there h = tt
undefined_in m ws w (TokenOnLeft n) there h = absurd h
undefined_in m ws w (PrecedenceTwice t) there h = absurd h
undefined_in m ws w (UnknownStart n) there h = absurd h
undefined_in m ws w (ReturnUndeclared n) there h = absurd h
undefined_in m ws w (PrecUnknown n) there h = absurd h
undefined_in m ws w NoRules there h = absurd h
undefined_in m ws w (LimitPassed which) there h = absurd h

-- rules that are joined, with one more
joined_push : (m : SymbolTable) (rs : List Ruling) (rules : List GrammarRule) (notes : List Note) (r : Ruling)
    (rule : GrammarRule)
    (note : Note) → AreJoined m rs rules notes → IsJoinedRule m r rule note
    → AreJoined m (rs ++ r ∷ []) (rules ++ rule ∷ []) (notes ++ note ∷ [])
joined_push m [] [] [] r rule note all one = (one, tt)
joined_push m [] [] (n ∷ notes) r rule note all one = absurd all
joined_push m [] (g ∷ rules) notes r rule note all one = absurd all
joined_push m (s ∷ rs) [] notes r rule note all one = absurd all
joined_push m (s ∷ rs) (g ∷ rules) [] r rule note all one = absurd all
joined_push m (s ∷ rs) (g ∷ rules) (n ∷ notes) r rule note all one =
    (all.0, joined_push m rs rules notes r rule note all.1 one)

pub rules_more : (m : SymbolTable) (rs : List Ruling) (rules : List GrammarRule) (notes : List Note) (r : Ruling)
    (rule : GrammarRule)
    (note : Note) → RulesJoined m rs rules notes → IsJoinedRule m r rule note
    → (Contains m.terminals (token r.left) → ⊥)
    → RulesJoined m (rs ++ r ∷ []) (rules ++ rule ∷ []) (notes ++ note ∷ [])
rules_more m rs rules notes r rule note so_far one apart = record {
  rest = so_far.rest ++ note ∷ [];
  all_notes = ap (λ ns. ns ++ note ∷ []) so_far.all_notes;
  joined = joined_push m rs rules so_far.rest r rule note so_far.joined one;
  apart = λ n there is. elim (Contains-push_cases (map (λ x. x.left) rs) r.left n
      (subst (λ xs. Contains xs n) (map_push (λ x. x.left) rs r) there)) [
        | inl old ↦ so_far.apart n old is
        | inr e ↦ apart (subst (λ k. Contains m.terminals (token k)) (sym e) is)
      ];
}

-- as many rules as in the file
as_many : (m : SymbolTable) (rs : List Ruling) (rules : List GrammarRule) (notes : List Note)
    → AreJoined m rs rules notes
    → length rules ≡ length rs
as_many m [] [] [] all = refl
as_many m [] [] (n ∷ notes) all = absurd all
as_many m [] (g ∷ rules) notes all = absurd all
as_many m (s ∷ rs) [] notes all = absurd all
as_many m (s ∷ rs) (g ∷ rules) [] all = absurd all
as_many m (s ∷ rs) (g ∷ rules) (n ∷ notes) all = omega (arith, as_many m rs rules notes all.1)

-- rules that may be no more than some, with one more that is kept
pub within_more : (most : ℕ) (m : SymbolTable) (rs : List Ruling) (rules : List GrammarRule) (notes : List Note)
    (r : Ruling)
    (rule : GrammarRule) (note : Note) → AreJoinedWithin most m rs rules notes → IsJoinedRule m r rule note
    → (Contains m.terminals (token r.left) → ⊥)
    → AreJoinedWithin most m (rs ++ r ∷ []) (rules ++ rule ∷ []) (notes ++ note ∷ [])
within_more most m rs rules notes r rule note so_far one apart few =
    rules_more m rs rules notes r rule note (so_far (omega (arith, few, length-append rs (r ∷ [])))) one apart

-- and with one more where as many are kept as may be
pub within_full : (most : ℕ) (m : SymbolTable) (rs : List Ruling) (rules : List GrammarRule) (notes : List Note)
    (r : Ruling)
    → AreJoinedWithin most m rs rules notes → most ≤ length rules
    → AreJoinedWithin most m (rs ++ r ∷ []) rules notes
within_full most m rs rules notes r so_far full few =
    let longer = length-append rs (r ∷ []) in
    let joined = so_far (omega (arith, few, longer)) in
    absurd (omega (arith, few, longer, full, as_many m rs rules joined.rest joined.joined))

-- the terminal of a word is below the number of terminals
pub terminal_within : (ts : List TerminalName) (w : Word) (t : ℕ) → IsTerminal ts w t → t < length ts
terminal_within ts (name n) t is = slice_get_within ts t (token n) is
terminal_within ts (literal b) t is = slice_get_within ts t (byte b) is
terminal_within ts (mark k) t is = absurd is
terminal_within ts (directive n) t is = absurd is
terminal_within ts (number n) t is = absurd is
terminal_within ts block t is = absurd is
terminal_within ts braces t is = absurd is
terminal_within ts other t is = absurd is

-- what is below as a number is below
pub found_below : (n : ℕ) (found : Option Sym) → IfSome (option_map (λ s. s.0) found) (λ t. t < n)
    → IfSome found (λ s. s.0 < n)
found_below n None h = tt
found_below n (Some s) h = h

-- a numbered symbol is one that rules may name
numbered_within : (ts : List TerminalName) (t : ℕ) (x : TerminalName) → (x ≡ end → ⊥) → slice_get ts 0 ≡ Some end
    → slice_get ts t ≡ Some x → (0 < t) × (t < length ts)
numbered_within ts zero x apart first is = absurd (apart (cc))
numbered_within ts (suc t) x apart first is = (omega arith, slice_get_within ts (suc t) x is)

symbol_within : (m : SymbolTable) (w : Word) (X : Symbol) → slice_get m.terminals 0 ≡ Some end → IsSymbol m w X
    → SymbolWithin (length m.terminals) (length m.nonterminals) X
symbol_within m (name n) (terminal t) first is = numbered_within m.terminals t (token n) (λ e. cc) first is
symbol_within m (literal b) (terminal t) first is = numbered_within m.terminals t (byte b) (λ e. cc) first is
symbol_within m (mark k) (terminal t) first is = absurd is
symbol_within m (directive n) (terminal t) first is = absurd is
symbol_within m (number n) (terminal t) first is = absurd is
symbol_within m block (terminal t) first is = absurd is
symbol_within m braces (terminal t) first is = absurd is
symbol_within m other (terminal t) first is = absurd is
symbol_within m (name n) (nonterminal A) first is = slice_get_within m.nonterminals A n is
symbol_within m (literal b) (nonterminal A) first is = absurd is
symbol_within m (mark k) (nonterminal A) first is = absurd is
symbol_within m (directive n) (nonterminal A) first is = absurd is
symbol_within m (number n) (nonterminal A) first is = absurd is
symbol_within m block (nonterminal A) first is = absurd is
symbol_within m braces (nonterminal A) first is = absurd is
symbol_within m other (nonterminal A) first is = absurd is

-- joined rules name symbols that there are
rule_within : (m : SymbolTable) (r : Ruling) (rule : GrammarRule) (note : Note) → slice_get m.terminals 0 ≡ Some end
    → IsJoinedRule m r rule note → RuleWithin (length m.terminals) (length m.nonterminals) rule
rule_within m r rule note first joined = record {
  left = slice_get_within m.nonterminals rule.left r.left joined.left;
  body = All-weaker (Contains rule.body) (SymbolWithin (length m.terminals) (length m.nonterminals))
      (λ X there. let found = zip_member (IsSymbol m) r.body rule.body X joined.body there in
      symbol_within m found.0 X first found.2) rule.body (All-contains_itself rule.body);
}

pub rules_within : (m : SymbolTable) (rs : List Ruling) (rules : List GrammarRule) (notes : List Note)
    → slice_get m.terminals 0 ≡ Some end → AreJoined m rs rules notes
    → All (RuleWithin (length m.terminals) (length m.nonterminals)) rules
rules_within m [] [] [] first all = All-nil (RuleWithin (length m.terminals) (length m.nonterminals))
rules_within m [] [] (n ∷ notes) first all = absurd all
rules_within m [] (g ∷ rules) notes first all = absurd all
rules_within m (r ∷ rs) [] notes first all = absurd all
rules_within m (r ∷ rs) (g ∷ rules) [] first all = absurd all
rules_within m (r ∷ rs) (g ∷ rules) (n ∷ notes) first all =
    All-cons (RuleWithin (length m.terminals) (length m.nonterminals)) g rules (rule_within m r g n first all.0)
    (rules_within m rs rules notes first all.1)

-- as many notes as rules
pub joined_length : (m : SymbolTable) (rs : List Ruling) (rules : List GrammarRule) (notes : List Note)
    → AreJoined m rs rules notes → length notes ≡ length rules
joined_length m [] [] [] all = refl
joined_length m [] [] (n ∷ notes) all = absurd all
joined_length m [] (g ∷ rules) notes all = absurd all
joined_length m (r ∷ rs) [] notes all = absurd all
joined_length m (r ∷ rs) (g ∷ rules) [] all = absurd all
joined_length m (r ∷ rs) (g ∷ rules) (n ∷ notes) all = omega (arith, joined_length m rs rules notes all.1)

-- each rule of the file is joined
pub joined_member : (m : SymbolTable) (rs : List Ruling) (rules : List GrammarRule) (notes : List Note) (r : Ruling)
    → AreJoined m rs rules notes → Contains rs r → (rule : GrammarRule) × (note : Note) × IsJoinedRule m r rule note
joined_member m [] [] [] r all there = Contains-none r there
joined_member m [] [] (n ∷ notes) r all there = absurd all
joined_member m [] (g ∷ rules) notes r all there = absurd all
joined_member m (s ∷ rs) [] notes r all there = absurd all
joined_member m (s ∷ rs) (g ∷ rules) [] r all there = absurd all
joined_member m (s ∷ rs) (g ∷ rules) (n ∷ notes) r all there = elim (Contains-cons_cases s rs r there) [
  | inl e ↦ (g, n, subst (λ x. IsJoinedRule m x g n) e all.0)
  | inr rest ↦ joined_member m rs rules notes r all.1 rest
]
