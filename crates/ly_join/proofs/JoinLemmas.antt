-- What faults say of two files, and what files say once they are joined.
use Rattle.std.proofs.Common.{◌≡◌, ◌≢◌, ◌∙◌, ◌<◌, ◌⊎◌, inl, inr, ℕ, List, [], ◌∷◌, Some, refl, sym}
use Rattle.std.proofs.Common.{ap, subst, arith, Contains, length, map, slice_get, slice_index_or}
use Rattle.std.specs.List.{AllZip, flat_map}
use Rattle.std.proofs.lemmas.List.{get_or_append_left, get_or_at, length-append}
use Rattle.std.proofs.lemmas.List.Elements.{Contains-append_right}
use Rattle.std.proofs.lemmas.Option.{same_Some, slice_get_within}
use Rattle.ly_base.proofs.MemberLemmas.{Contains-cons_cases, Contains-later, Contains-none}
use Rattle.ly_base.specs.Limits.{Sizes}
use Rattle.ly_yaccread.specs.File.{Written}
use Rattle.ly_yaccread.specs.Rules.{Ruling}
use Rattle.ly_yaccread.specs.Words.{name}
use Rattle.ly_join.specs.Counts.{IsWithin}
use Rattle.ly_join.specs.Faults.{IsAtFault, IsOfFiles, IsUndeclared, IsUndefined, IsUnknownPrec, IsUnknownStart}
use Rattle.ly_join.specs.Grammar.{GrammarRule, Symbol, terminal, nonterminal}
use Rattle.ly_join.specs.Joined.{table_of, IsRulePrecedence, IsSymbol, Joined, Note, Spec}
use Rattle.ly_join.specs.Joined.{SymbolTable}
use Rattle.ly_join.specs.Numbering.{declared_terminals, rule_literals}
use Rattle.ly_join.specs.Numbering.{appearing, left_sides, nonterminals_of, start_name, terminals_of, IsNonterminal}
use Rattle.ly_join.specs.Numbering.{IsToken}
use Rattle.ly_join.specs.Precedences.{given, AreGivenOnce, HasPrecedence, IsGivenTwice}
use Rattle.ly_join.specs.Scanning.{Acting, IsEmitted, IsScanAction, Scanning}
use Rattle.ly_join.specs.Terminals.{TerminalName, end, same_terminal, terminal_from, token, undefined}
use Rattle.ly_join.specs.Private.Joining.{spec_from, AreNumbered, IsReady, IsStart, IsStartFault}
use Rattle.ly_join.specs.Private.Rules.{AreCovered, RulesJoined}
use Rattle.ly_join.specs.Private.Rules.{IsFaultOfActions, IsFaultOfRules, IsGivingFault, IsTokenOnLeft}
use Rattle.ly_join.specs.Private.Rules.{IsUndeclaredIn, IsUndefinedIn, IsUnknownPrecIn}
use Rattle.ly_join.specs.declared.fault.JoinFault.{JoinFault}
use Rattle.ly_join.specs.declared.fault.JoinFault.TheVariants.{UndefinedSymbol, TokenOnLeft, PrecedenceTwice}
use Rattle.ly_join.specs.declared.fault.JoinFault.TheVariants.{UnknownStart, ReturnUndeclared, PrecUnknown, NoRules}
use Rattle.ly_join.specs.declared.fault.JoinFault.TheVariants.{LimitPassed, OutOfMemory}
use Rattle.ly_base.specs.declared.scan_action.ScanAction.{ScanAction}
use Rattle.ly_join.specs.declared.precedence.Precedence.{Precedence}
use Rattle.ly_join.proofs.ListLemmas.{mapped_in, member_at, zip_length, zip_partner}
use Rattle.ly_join.proofs.NumberingLemmas.{first_in, in_first}
use Rattle.ly_join.proofs.RuleLemmas.{joined_member}
use Rattle.ly_join.proofs.TableLemmas.{bytes_itself, same_bytes, same_itself, same_sound}
use Rattle.std.specs.Str.{bytes_eq}

-- what appears is a terminal
pub terminal_there : (w : Written) (x : TerminalName) → Contains (appearing w) x → Contains (terminals_of w) x
terminal_there w x there = first_in same_terminal same_sound same_itself (end ∷ undefined ∷ appearing w) x
    (Contains-later end (undefined ∷ appearing w) x (Contains-later undefined (appearing w) x there))

-- a token among the terminals appears
pub token_there : (w : Written) (n : List ℕ) → Contains (terminals_of w) (token n) → IsToken w n
token_there w n there =
    elim (Contains-cons_cases end (undefined ∷ appearing w) (token n)
    (in_first same_terminal same_sound same_itself (end ∷ undefined ∷ appearing w) (token n) there)) [
      | inl e ↦ absurd (cc)
      | inr rest ↦ elim (Contains-cons_cases undefined (appearing w) (token n) rest) [
        | inl e ↦ absurd (cc)
        | inr here ↦ here
      ]
    ]

-- the left sides are the nonterminals
pub nonterminal_there : (w : Written) (n : List ℕ) → Contains (nonterminals_of w) n → IsNonterminal w n
nonterminal_there w n there = in_first bytes_eq same_bytes bytes_itself (left_sides w) n there

pub left_there : (w : Written) (n : List ℕ) → IsNonterminal w n → Contains (nonterminals_of w) n
left_there w n there = first_in bytes_eq same_bytes bytes_itself (left_sides w) n there

module _ (w : Written) (m : SymbolTable) (numbered : AreNumbered w m) where
  token_to : (n : List ℕ) → IsToken w n → Contains m.terminals (token n)
  token_to n is = subst (λ ts. Contains ts (token n)) (sym numbered.terminals) (terminal_there w (token n) is)

  token_from : (n : List ℕ) → Contains m.terminals (token n) → IsToken w n
  token_from n is = token_there w n (subst (λ ts. Contains ts (token n)) numbered.terminals is)

  nonterminal_to : (n : List ℕ) → IsNonterminal w n → Contains m.nonterminals n
  nonterminal_to n is = subst (λ ns. Contains ns n) (sym numbered.nonterminals) (left_there w n is)

  module _ (sizes : Sizes) (x : Scanning) where
    left_at_fault : (r : Ruling) (f : JoinFault) → Contains w.rules r → IsTokenOnLeft m r.left f
        → IsAtFault sizes x w f
    left_at_fault r (TokenOnLeft n) there h = (
      token_from n.items h.1,
      subst (λ k. IsNonterminal w k) (sym h.0) (mapped_in (λ r. r.left) w.rules r there),
    )
    left_at_fault r OutOfMemory there h = tt
    left_at_fault r (UndefinedSymbol n) there h = absurd h
    left_at_fault r (PrecedenceTwice t) there h = absurd h
    left_at_fault r (UnknownStart n) there h = absurd h
    left_at_fault r (ReturnUndeclared n) there h = absurd h
    left_at_fault r (PrecUnknown n) there h = absurd h
    left_at_fault r NoRules there h = absurd h
    left_at_fault r (LimitPassed which) there h = absurd h

    body_at_fault : (r : Ruling) (f : JoinFault) → Contains w.rules r → IsUndefinedIn m r.body f
        → IsAtFault sizes x w f
    body_at_fault r (UndefinedSymbol n) there h =
        (r, there, h.0, λ is. h.1 (token_to n.items is), λ is. h.2 (nonterminal_to n.items is))
    body_at_fault r OutOfMemory there h = tt
    body_at_fault r (TokenOnLeft n) there h = absurd h
    body_at_fault r (PrecedenceTwice t) there h = absurd h
    body_at_fault r (UnknownStart n) there h = absurd h
    body_at_fault r (ReturnUndeclared n) there h = absurd h
    body_at_fault r (PrecUnknown n) there h = absurd h
    body_at_fault r NoRules there h = absurd h
    body_at_fault r (LimitPassed which) there h = absurd h

    prec_at_fault : (r : Ruling) (f : JoinFault) → Contains w.rules r → IsUnknownPrecIn m r.precedence f
        → IsAtFault sizes x w f
    prec_at_fault r (PrecUnknown n) there h = (r, there, h.0, λ is. h.1 (token_to n.items is))
    prec_at_fault r OutOfMemory there h = tt
    prec_at_fault r (UndefinedSymbol n) there h = absurd h
    prec_at_fault r (TokenOnLeft n) there h = absurd h
    prec_at_fault r (PrecedenceTwice t) there h = absurd h
    prec_at_fault r (UnknownStart n) there h = absurd h
    prec_at_fault r (ReturnUndeclared n) there h = absurd h
    prec_at_fault r NoRules there h = absurd h
    prec_at_fault r (LimitPassed which) there h = absurd h

    -- a fault of the rules is one of the files
    pub rules_at_fault : (f : JoinFault) → IsFaultOfRules m w.rules f → IsAtFault sizes x w f
    rules_at_fault f (inl e) = subst (IsAtFault sizes x w) (sym e) tt
    rules_at_fault f (inr (r, there, inl left)) = left_at_fault r f there left
    rules_at_fault f (inr (r, there, inr (inl body))) = body_at_fault r f there body
    rules_at_fault f (inr (r, there, inr (inr prec))) = prec_at_fault r f there prec

    action_at_fault : (a : Acting) (f : JoinFault) → Contains x.actions a → IsUndeclaredIn m.terminals a.returning f
        → IsAtFault sizes x w f
    action_at_fault a (ReturnUndeclared n) there h = (a, there, h.0, λ is. h.1 (token_to n.items is))
    action_at_fault a OutOfMemory there h = tt
    action_at_fault a (UndefinedSymbol n) there h = absurd h
    action_at_fault a (TokenOnLeft n) there h = absurd h
    action_at_fault a (PrecedenceTwice t) there h = absurd h
    action_at_fault a (UnknownStart n) there h = absurd h
    action_at_fault a (PrecUnknown n) there h = absurd h
    action_at_fault a NoRules there h = absurd h
    action_at_fault a (LimitPassed which) there h = absurd h

    -- and so is one of the actions
    pub actions_at_fault : (f : JoinFault) → IsFaultOfActions m.terminals x.actions f → IsAtFault sizes x w f
    actions_at_fault f (inl e) = subst (IsAtFault sizes x w) (sym e) tt
    actions_at_fault f (inr (a, there, h)) = action_at_fault a f there h

    -- and one of the start symbol
    pub start_at_fault : (f : JoinFault) → IsStartFault w m f → IsAtFault sizes x w f
    start_at_fault (UnknownStart n) (named, none) = (named, λ is. none (nonterminal_to n.items is))
    start_at_fault OutOfMemory h = tt
    start_at_fault (UndefinedSymbol n) h = absurd h
    start_at_fault (TokenOnLeft n) h = absurd h
    start_at_fault (PrecedenceTwice t) h = absurd h
    start_at_fault (ReturnUndeclared n) h = absurd h
    start_at_fault (PrecUnknown n) h = absurd h
    start_at_fault NoRules h = absurd h
    start_at_fault (LimitPassed which) h = absurd h

  -- the rules are covered by the numbers of their symbols
  pub all_covered : AreCovered m w.rules
  all_covered = record {
    long = zip_length (HasPrecedence (given w.preamble.declarations)) m.terminals m.precedences numbered.precedences;
    left = nonterminal_to;
    literals = λ x there. subst (λ ts. Contains ts x) (sym numbered.terminals)
        (terminal_there w x (Contains-append_right (flat_map declared_terminals w.preamble.declarations)
        (flat_map rule_literals w.rules) x there));
  }

  -- what is made of joined rules and actions is the specification
  pub joined_from : (x : Scanning) (start : ℕ) (rules : List GrammarRule) (notes : List Note)
      (scanner : List ScanAction)
      → IsStart w m start → RulesJoined m w.rules rules notes → AllZip (IsScanAction m.terminals) x.actions scanner
      → Joined x w (spec_from m start rules notes scanner)
  joined_from x start rules notes scanner is joined actions = record {
    terminals = numbered.terminals;
    nonterminals = numbered.nonterminals;
    apart = λ n named left. joined.apart n left (token_to n named);
    given_once = numbered.once;
    precedences = numbered.precedences;
    start = is.0;
    starts = is.1;
    start_number = is.2;
    rules = rules;
    notes = joined.rest;
    joined = joined.joined;
    grammar = refl;
    all_notes = joined.all_notes;
    scanner = actions;
  }

  -- all is there that a specification is made of
  pub ready : (start : ℕ) (rules : List GrammarRule) (notes : List Note) → IsStart w m start
      → RulesJoined m w.rules rules notes → IsReady m start rules notes
  ready start rules notes is joined = record {
    first = ap (λ ts. slice_get ts 0) numbered.terminals;
    long = zip_length (HasPrecedence (given w.preamble.declarations)) m.terminals m.precedences numbered.precedences;
    start_within = slice_get_within m.nonterminals start is.0 is.2;
    rulings = w.rules;
    joined = joined;
  }

-- and one of the precedences
pub giving_at_fault : (sizes : Sizes) (x : Scanning) (w : Written) (f : JoinFault)
    → IsGivingFault (given w.preamble.declarations) f → IsAtFault sizes x w f
giving_at_fault sizes x w (PrecedenceTwice t) h = h
giving_at_fault sizes x w OutOfMemory h = tt
giving_at_fault sizes x w (UndefinedSymbol n) h = absurd h
giving_at_fault sizes x w (TokenOnLeft n) h = absurd h
giving_at_fault sizes x w (UnknownStart n) h = absurd h
giving_at_fault sizes x w (ReturnUndeclared n) h = absurd h
giving_at_fault sizes x w (PrecUnknown n) h = absurd h
giving_at_fault sizes x w NoRules h = absurd h
giving_at_fault sizes x w (LimitPassed which) h = absurd h

-- what is given twice isn't given once
not_once : (all : List (TerminalName × Precedence)) (x : TerminalName) → IsGivenTwice all x → AreGivenOnce all → ⊥
not_once all x (front, back, p, q, e, (k, lt, at)) once =
    let d : TerminalName × Precedence = (x, p) in
    let first : slice_index_or all k d ≡ (x, p)
    = ap (λ xs. slice_index_or xs k d) e ∙ (get_or_append_left front ((x, q) ∷ back) d k lt ∙ at) in
    let second : slice_index_or all (length front) d ≡ (x, q)
    = ap (λ xs. slice_index_or xs (length front) d) e ∙ get_or_at front (x, q) back d (length front) refl in
    let within : length front < length all
    = omega (arith, ap length e, length-append front ((x, q) ∷ back)) in
    once k (length front) d lt within (ap (λ a. a.0) first ∙ sym (ap (λ a. a.0) second))

module _ (x : Scanning) (w : Written) (s : Spec) (joined : Joined x w s) where
  token_of : (n : List ℕ) (t : ℕ) → slice_get s.terminals t ≡ Some (token n) → IsToken w n
  token_of n t at = token_there w n (subst (λ ts. Contains ts (token n)) joined.terminals
      (member_at s.terminals t (token n) at))

  nonterminal_of : (n : List ℕ) (A : ℕ) → slice_get s.nonterminals A ≡ Some n → IsNonterminal w n
  nonterminal_of n A at = nonterminal_there w n (subst (λ ns. Contains ns n) joined.nonterminals
      (member_at s.nonterminals A n at))

  symbol_of_name : (n : List ℕ) (X : Symbol) → IsSymbol (table_of s) (name n) X → IsToken w n ⊎ IsNonterminal w n
  symbol_of_name n (terminal t) is = inl (token_of n t is)
  symbol_of_name n (nonterminal A) is = inr (nonterminal_of n A is)

  not_undefined : (n : List ℕ) → IsUndefined w n → ⊥
  not_undefined n (r, there, named, no_token, no_nonterminal) =
      let rule = joined_member (table_of s) w.rules joined.rules joined.notes r joined.joined there in
      let symbol = zip_partner (IsSymbol (table_of s)) r.body rule.0.body (name n) rule.2.body named in
      elim (symbol_of_name n symbol.0 symbol.2) [ inl is ↦ no_token is | inr is ↦ no_nonterminal is ]

  not_unknown_prec : (n : List ℕ) → IsUnknownPrec w n → ⊥
  not_unknown_prec n (r, there, named, no_token) =
      let rule = joined_member (table_of s) w.rules joined.rules joined.notes r joined.joined there in
      let found = subst (λ p. IsRulePrecedence (table_of s) p rule.0.body rule.1.precedence) named rule.2.precedence in
      no_token (token_of n found.0 found.1)

  not_unknown_start : (n : List ℕ) → IsUnknownStart w n → ⊥
  not_unknown_start n (named, none) =
      let same : n ≡ joined.start
      = same_Some n joined.start (sym (ap (λ o. start_name o w.rules) named) ∙ joined.starts) in
      let is : IsNonterminal w n = nonterminal_of n s.grammar.start (joined.start_number ∙ ap Some (sym same)) in
      none is

  not_undeclared : (n : List ℕ) → IsUndeclared x w n → ⊥
  not_undeclared n (a, there, named, no_token) =
      let action = zip_partner (IsScanAction s.terminals) x.actions s.scanner a joined.scanner there in
      let found = subst (λ v. IsEmitted s.terminals v action.0.emits) named action.2.emits in
      no_token (token_of n found.0 found.2)

  not_without_rules : w.rules ≡ [] → ⊥
  not_without_rules none =
      let is : IsNonterminal w joined.start = nonterminal_of joined.start s.grammar.start joined.start_number in
      Contains-none joined.start (subst (λ rs. Contains (map (λ r. r.left) rs) joined.start) none is)

  -- files that are at fault are not joined
  pub not_at_fault : (sizes : Sizes) (f : JoinFault) → IsAtFault sizes x w f → IsOfFiles f → ⊥
  not_at_fault sizes (UndefinedSymbol n) h of = not_undefined n.items h
  not_at_fault sizes (TokenOnLeft n) h of = joined.apart n.items h.0 h.1
  not_at_fault sizes (PrecedenceTwice t) h of
      = not_once (given w.preamble.declarations) (terminal_from t) h joined.given_once
  not_at_fault sizes (UnknownStart n) h of = not_unknown_start n.items h
  not_at_fault sizes (ReturnUndeclared n) h of = not_undeclared n.items h
  not_at_fault sizes (PrecUnknown n) h of = not_unknown_prec n.items h
  not_at_fault sizes NoRules h of = not_without_rules h
  not_at_fault sizes (LimitPassed which) h of = absurd of
  not_at_fault sizes OutOfMemory h of = absurd of

  -- or not within the limits
  pub not_within : (sizes : Sizes) (f : JoinFault) → IsAtFault sizes x w f → f ≢ OutOfMemory → IsWithin sizes x w → ⊥
  not_within sizes (LimitPassed which) h some within = omega (arith, h, within which)
  not_within sizes OutOfMemory h some within = some refl
  not_within sizes (UndefinedSymbol n) h some within = not_at_fault sizes (UndefinedSymbol n) h tt
  not_within sizes (TokenOnLeft n) h some within = not_at_fault sizes (TokenOnLeft n) h tt
  not_within sizes (PrecedenceTwice t) h some within = not_at_fault sizes (PrecedenceTwice t) h tt
  not_within sizes (UnknownStart n) h some within = not_at_fault sizes (UnknownStart n) h tt
  not_within sizes (ReturnUndeclared n) h some within = not_at_fault sizes (ReturnUndeclared n) h tt
  not_within sizes (PrecUnknown n) h some within = not_at_fault sizes (PrecUnknown n) h tt
  not_within sizes NoRules h some within = not_at_fault sizes NoRules h tt
