-- Two files make one specification, and symbols are numbered by their first appearance.
use Rattle.std.proofs.Common.{◌≡◌, ◌≢◌, ◌∙◌, inl, inr, ℕ, List, [], ◌∷◌, ◌++◌, Bool, true, filter}
use Rattle.std.proofs.Common.{Option, Some, None, refl, sym, ap, ap₂, subst, AllPairs, Contains, length, slice_get}
use Rattle.std.proofs.Common.{slice_index_or, true≢false}
use Rattle.std.specs.Prelude.{not}
use Rattle.std.specs.List.{AllZip}
use Rattle.std.proofs.lemmas.Option.{same_Some}
use Rattle.std.proofs.lemmas.List.Elements.{Contains-get_or}
use Rattle.ly_base.proofs.MemberLemmas.{Contains-cons_cases, Contains-one}
use Rattle.ly_yaccread.specs.File.{Written}
use Rattle.ly_yaccread.specs.Rules.{Ruling}
use Rattle.ly_yaccread.specs.Words.{Word, mark, directive, name, number, literal, block, braces, other}
use Rattle.ly_join.specs.Grammar.{Grammar, GrammarRule, Symbol, accept_rule, grammar_from, terminal, nonterminal}
use Rattle.ly_join.specs.Joined.{accept_note, last_terminal, shape_by, table_of}
use Rattle.ly_join.specs.Joined.{AreJoined, IsJoinedRule, IsPrecedenceOf}
use Rattle.ly_join.specs.Joined.{IsRulePrecedence, IsSymbol, IsTerminal, Joined, Note, Spec, SymbolTable}
use Rattle.ly_join.specs.Laws.{AppearsBefore, AreFirst}
use Rattle.ly_join.specs.Numbering.{appearing, first_appearances, left_sides}
use Rattle.ly_join.specs.Precedences.{given, AreGivenOnce, HasPrecedence}
use Rattle.ly_join.specs.Scanning.{Acting, Returning, nothing, returns, first_byte, IsEmitted}
use Rattle.ly_join.specs.Scanning.{IsReturned, IsScanAction, Scanning}
use Rattle.ly_join.specs.Terminals.{TerminalName, end, undefined, byte, same_terminal, token, IsNumbered, IsOfByte}
use Rattle.ly_join.specs.declared.precedence.Precedence.{Precedence}
use Rattle.ly_base.specs.declared.scan_action.Emitted.{Emitted}
use Rattle.ly_base.specs.declared.scan_action.Emitted.TheVariants as emitted
use Rattle.ly_base.specs.declared.scan_action.ScanAction.{ScanAction}
use Rattle.ly_join.proofs.JoinLemmas.{nonterminal_there, token_there}
use Rattle.ly_join.proofs.ListLemmas.{member_at, one_place, placed, zip_one}
use Rattle.ly_join.proofs.NumberingLemmas.{first_in, first_once, in_filter, in_first}
use Rattle.ly_join.proofs.NumberingLemmas.{pairs_cons, pairs_filter, pairs_none}
use Rattle.ly_join.proofs.TableLemmas.{bytes_itself, same_bytes, same_itself, same_sound}
use Rattle.std.specs.Str.{bytes_eq}

module _ {X : Type 0} (same : X → X → Bool) (sound : (x y : X) → same x y ≡ true → x ≡ y)
    (itself : (x : X) → same x x ≡ true) where
  -- the first of a list appears before all others
  first_before : (x : X) (xs : List X) (y : X) → (x ≡ y → ⊥) → AppearsBefore (x ∷ xs) x y
  first_before x xs y apart = ([], xs, refl, λ there. apart (Contains-one x y there))

  -- what appears before another in a list does so behind a first that is not the other
  later_before : (z : X) (xs : List X) (x y : X) → (z ≡ y → ⊥) → AppearsBefore xs x y → AppearsBefore (z ∷ xs) x y
  later_before z xs x y apart (front, back, e, before) = (
    z ∷ front,
    back,
    ap (λ ys. z ∷ ys) e,
    λ there. elim (Contains-cons_cases z (front ++ x ∷ []) y there) [
      | inl here ↦ apart here
      | inr rest ↦ before rest
    ],
  )

  order_of : (xs : List X) → AllPairs (AppearsBefore xs) (first_appearances same xs)
  order_of [] = pairs_none (AppearsBefore [])
  order_of (x ∷ xs) =
      let rest = filter (λ z. not (same x z)) (first_appearances same xs) in
      let apart : (z : X) → Contains rest z → x ≡ z → ⊥
      = λ z there e. true≢false (sym (in_filter (λ z. not (same x z)) (first_appearances same xs) z there).1
      ∙ ap not (ap (same x) (sym e) ∙ itself x)) in
      pairs_cons (AppearsBefore (x ∷ xs)) x rest (λ y there. first_before x xs y (apart y there))
      (λ i j d less within. later_before x xs (slice_index_or rest i d) (slice_index_or rest j d)
      (apart (slice_index_or rest j d) (Contains-get_or rest j d within))
      (pairs_filter (AppearsBefore xs) (λ z. not (same x z)) (first_appearances same xs) (order_of xs) i j d less
      within))

  -- first appearances are the members, in the order of their first appearance
  pub are_first : (xs : List X) → AreFirst xs (first_appearances same xs)
  are_first xs = record {
    same = λ x. (in_first same sound itself xs x, first_in same sound itself xs x);
    order = order_of xs;
  }

-- a precedence is one where each is given once
precedence_one : (all : List (TerminalName × Precedence)) → AreGivenOnce all
    → (x : TerminalName) (o q : Option Precedence)
    → HasPrecedence all x o → HasPrecedence all x q → o ≡ q
precedence_one all once x None None h g = refl
precedence_one all once x None (Some q) h g = absurd (h q g)
precedence_one all once x (Some p) None h g = absurd (g p h)
precedence_one all once x (Some p) (Some q) h g =
    let i = placed all (x, p) h in
    let j = placed all (x, q) g in
    let same : i.0 ≡ j.0 = one_place (λ a. a.0) all i.0 j.0 (x, p) (x, q) once i.1 j.1 refl in
    ap (λ a. Some a.1) (same_Some (x, p) (x, q) (sym i.1 ∙ (ap (slice_get all) same ∙ j.1)))

module _ (m : SymbolTable) (tokens : AllPairs (λ x y. x ≢ y) m.terminals)
    (names : AllPairs (λ x y. x ≢ y) m.nonterminals)
    (apart : (n : List ℕ) → Contains m.terminals (token n) → Contains m.nonterminals n → ⊥) where
  terminal_one : (x : TerminalName) (t u : ℕ) → IsNumbered m.terminals x t → IsNumbered m.terminals x u → t ≡ u
  terminal_one x t u h g = one_place (λ z. z) m.terminals t u x x tokens h g refl

  word_one : (w : Word) (t u : ℕ) → IsTerminal m.terminals w t → IsTerminal m.terminals w u → t ≡ u
  word_one (name n) t u h g = terminal_one (token n) t u h g
  word_one (literal b) t u h g = terminal_one (byte b) t u h g
  word_one (mark k) t u h g = absurd h
  word_one (directive n) t u h g = absurd h
  word_one (number n) t u h g = absurd h
  word_one block t u h g = absurd h
  word_one braces t u h g = absurd h
  word_one other t u h g = absurd h

  nonterminal_one : (w : Word) (A B : ℕ) → IsSymbol m w (nonterminal A) → IsSymbol m w (nonterminal B) → A ≡ B
  nonterminal_one (name n) A B h g = one_place (λ z. z) m.nonterminals A B n n names h g refl
  nonterminal_one (literal b) A B h g = absurd h
  nonterminal_one (mark k) A B h g = absurd h
  nonterminal_one (directive n) A B h g = absurd h
  nonterminal_one (number n) A B h g = absurd h
  nonterminal_one block A B h g = absurd h
  nonterminal_one braces A B h g = absurd h
  nonterminal_one other A B h g = absurd h

  not_both : (w : Word) (t A : ℕ) → IsSymbol m w (terminal t) → IsSymbol m w (nonterminal A) → ⊥
  not_both (name n) t A h g = apart n (member_at m.terminals t (token n) h) (member_at m.nonterminals A n g)
  not_both (literal b) t A h g = g
  not_both (mark k) t A h g = h
  not_both (directive n) t A h g = h
  not_both (number n) t A h g = h
  not_both block t A h g = h
  not_both braces t A h g = h
  not_both other t A h g = h

  symbol_one : (w : Word) (X Y : Symbol) → IsSymbol m w X → IsSymbol m w Y → X ≡ Y
  symbol_one w (terminal t) (terminal u) h g = ap terminal (word_one w t u h g)
  symbol_one w (terminal t) (nonterminal B) h g = absurd (not_both w t B h g)
  symbol_one w (nonterminal A) (terminal u) h g = absurd (not_both w u A g h)
  symbol_one w (nonterminal A) (nonterminal B) h g = ap nonterminal (nonterminal_one w A B h g)

  precedence_of_one : (o : Option ℕ) (p q : Option Precedence) → IsPrecedenceOf m.precedences o p
      → IsPrecedenceOf m.precedences o q → p ≡ q
  precedence_of_one None p q h g = h ∙ sym g
  precedence_of_one (Some t) p q h g = same_Some p q (sym h ∙ g)

  rule_precedence_one : (prec : Option Word) (w : List Symbol) (p q : Option Precedence)
      → IsRulePrecedence m prec w p → IsRulePrecedence m prec w q → p ≡ q
  rule_precedence_one None w p q h g = precedence_of_one (last_terminal w) p q h g
  rule_precedence_one (Some x) w p q (t, is, h) (u, also, g) =
      precedence_of_one (Some t) p q h (subst (λ k. IsPrecedenceOf m.precedences (Some k) q) (word_one x u t also is) g)

  rule_one : (r : Ruling) (a b : GrammarRule) (n o : Note) → IsJoinedRule m r a n → IsJoinedRule m r b o
      → (a ≡ b) × (n ≡ o)
  rule_one r a b n o h g =
      let left : a.left ≡ b.left
      = one_place (λ z. z) m.nonterminals a.left b.left r.left r.left names h.left g.left refl in
      let body : a.body ≡ b.body = zip_one (IsSymbol m) r.body a.body b.body symbol_one h.body g.body in
      let shape : n.shape ≡ o.shape = h.shape ∙ (ap (shape_by r.making) body ∙ sym g.shape) in
      let precedence : n.precedence ≡ o.precedence
      = rule_precedence_one r.precedence a.body n.precedence o.precedence h.precedence
      (subst (λ w. IsRulePrecedence m r.precedence w o.precedence) (sym body) g.precedence) in (
        ap₂ (λ l w. let x : GrammarRule = record { left = l; body = w } in x) left body,
        ap₂ (λ p s. let x : Note = record { precedence = p; shape = s } in x) precedence shape,
      )

  rules_one : (rs : List Ruling) (as' bs : List GrammarRule) (ns os : List Note) → AreJoined m rs as' ns
      → AreJoined m rs bs os
      → (as' ≡ bs) × (ns ≡ os)
  rules_one [] [] [] [] [] h g = (refl, refl)
  rules_one [] [] [] [] (o ∷ os) h g = absurd g
  rules_one [] [] [] (n ∷ ns) os h g = absurd h
  rules_one [] [] (b ∷ bs) ns os h g = absurd g
  rules_one [] (a ∷ as') bs ns os h g = absurd h
  rules_one (r ∷ rs) [] bs ns os h g = absurd h
  rules_one (r ∷ rs) (a ∷ as') bs [] os h g = absurd h
  rules_one (r ∷ rs) (a ∷ as') [] (n ∷ ns) os h g = absurd g
  rules_one (r ∷ rs) (a ∷ as') (b ∷ bs) (n ∷ ns) [] h g = absurd g
  rules_one (r ∷ rs) (a ∷ as') (b ∷ bs) (n ∷ ns) (o ∷ os) h g =
      let one = rule_one r a b n o h.0 g.0 in
      let rest = rules_one rs as' bs ns os h.1 g.1 in
      (ap₂ (λ x xs. x ∷ xs) one.0 rest.0, ap₂ (λ x xs. x ∷ xs) one.1 rest.1)

  of_byte_one : (b t u : ℕ) → IsOfByte m.terminals b t → IsOfByte m.terminals b u → t ≡ u
  of_byte_one b t u (inl h) (inl g) = terminal_one (byte b) t u h g
  of_byte_one b t u (inl h) (inr g) = absurd (g.0 (member_at m.terminals t (byte b) h))
  of_byte_one b t u (inr h) (inl g) = absurd (h.0 (member_at m.terminals u (byte b) g))
  of_byte_one b t u (inr h) (inr g) = h.1 ∙ sym g.1

  returned_one : (x : TerminalName) (t u : ℕ) → IsReturned m.terminals x t → IsReturned m.terminals x u → t ≡ u
  returned_one (byte b) t u h g = of_byte_one b t u h g
  returned_one (token n) t u h g = terminal_one (token n) t u h g
  returned_one end t u h g = terminal_one end t u h g
  returned_one undefined t u h g = terminal_one undefined t u h g

  emitted_one : (r : Returning) (d e : Emitted) → IsEmitted m.terminals r d → IsEmitted m.terminals r e → d ≡ e
  emitted_one nothing d e h g = h ∙ sym g
  emitted_one first_byte d e h g = h ∙ sym g
  emitted_one (returns x) d e (t, is, h) (u, also, g) =
      is ∙ (ap (λ k. emitted.Terminal (record { 0 = k })) (returned_one x t u h g) ∙ sym also)

  pub action_one : (a : Acting) (c d : ScanAction) → IsScanAction m.terminals a c → IsScanAction m.terminals a d → c ≡ d
  action_one a c d h g = ap₂ (λ b e. let x : ScanAction = record { begin = b; emits = e } in x)
      (h.begin ∙ sym g.begin) (emitted_one a.returning c.emits d.emits h.emits g.emits)

-- the parts of a specification
make : Grammar → List TerminalName → List (List ℕ) → List (Option Precedence) → List Note → List ScanAction → Spec
make g ts ns ps notes scanner = record {
  grammar = g;
  terminals = ts;
  nonterminals = ns;
  precedences = ps;
  notes = notes;
  scanner = scanner;
}

module _ (x : Scanning) (w : Written) (s t : Spec) (h : Joined x w s) (g : Joined x w t) where
  terminals_same : s.terminals ≡ t.terminals
  terminals_same = h.terminals ∙ sym g.terminals

  nonterminals_same : s.nonterminals ≡ t.nonterminals
  nonterminals_same = h.nonterminals ∙ sym g.nonterminals

  precedences_same : s.precedences ≡ t.precedences
  precedences_same = zip_one (HasPrecedence (given w.preamble.declarations)) s.terminals s.precedences t.precedences
      (precedence_one (given w.preamble.declarations) h.given_once) h.precedences
      (subst (λ ts. AllZip (HasPrecedence (given w.preamble.declarations)) ts t.precedences) (sym terminals_same)
      g.precedences)

  tokens_once : AllPairs (λ x y. x ≢ y) s.terminals
  tokens_once = subst (λ ts. AllPairs (λ x y. x ≢ y) ts) (sym h.terminals)
      (first_once same_terminal same_sound same_itself (end ∷ undefined ∷ appearing w))

  names_once : AllPairs (λ x y. x ≢ y) s.nonterminals
  names_once = subst (λ ns. AllPairs (λ x y. x ≢ y) ns) (sym h.nonterminals)
      (first_once bytes_eq same_bytes bytes_itself (left_sides w))

  kept_apart : (n : List ℕ) → Contains s.terminals (token n) → Contains s.nonterminals n → ⊥
  kept_apart n named left = h.apart n
      (token_there w n (subst (λ ts. Contains ts (token n)) h.terminals named))
      (nonterminal_there w n (subst (λ ns. Contains ns n) h.nonterminals left))

  table_same : table_of s ≡ table_of t
  table_same = ap (λ ts. let m : SymbolTable = record {
    terminals = ts;
    nonterminals = s.nonterminals;
    precedences = s.precedences;
  } in m) terminals_same
      ∙ (ap (λ ns. let m : SymbolTable = record {
        terminals = t.terminals;
        nonterminals = ns;
        precedences = s.precedences;
      } in m) nonterminals_same
      ∙ ap (λ ps. let m : SymbolTable = record {
        terminals = t.terminals;
        nonterminals = t.nonterminals;
        precedences = ps;
      } in m) precedences_same)

  start_same : s.grammar.start ≡ t.grammar.start
  start_same = one_place (λ z. z) s.nonterminals s.grammar.start t.grammar.start h.start g.start names_once
      h.start_number (ap (λ ns. slice_get ns t.grammar.start) nonterminals_same ∙ g.start_number)
      (same_Some h.start g.start (sym h.starts ∙ g.starts))

  rules_same : (h.rules ≡ g.rules) × (h.notes ≡ g.notes)
  rules_same = rules_one (table_of s) tokens_once names_once kept_apart w.rules h.rules g.rules h.notes g.notes h.joined
      (subst (λ m. AreJoined m w.rules g.rules g.notes) (sym table_same) g.joined)

  grammar_of : List TerminalName → List (List ℕ) → ℕ → List GrammarRule → Grammar
  grammar_of ts ns start rules
      = grammar_from (length ts) (length ns) start (accept_rule (length ns) start ∷ rules)

  grammar_same : s.grammar ≡ t.grammar
  unfolding grammar_of
  grammar_same = h.grammar ∙ (ap (λ ts. grammar_of ts s.nonterminals s.grammar.start h.rules) terminals_same
      ∙ (ap (λ ns. grammar_of t.terminals ns s.grammar.start h.rules) nonterminals_same
      ∙ (ap (λ k. grammar_of t.terminals t.nonterminals k h.rules) start_same
      ∙ (ap (grammar_of t.terminals t.nonterminals t.grammar.start) rules_same.0 ∙ sym g.grammar))))

  scanner_same : s.scanner ≡ t.scanner
  scanner_same = zip_one (IsScanAction s.terminals) x.actions s.scanner t.scanner
      (action_one (table_of s) tokens_once names_once kept_apart) h.scanner
      (subst (λ ts. AllZip (IsScanAction ts) x.actions t.scanner) (sym terminals_same) g.scanner)

  notes_same : s.notes ≡ t.notes
  notes_same = h.all_notes ∙ (ap (λ ns. accept_note ∷ ns) rules_same.1 ∙ sym g.all_notes)

  -- two files make one specification
  pub joined_one : s ≡ t
  unfolding make
  joined_one = ap (λ k. make k s.terminals s.nonterminals s.precedences s.notes s.scanner) grammar_same
      ∙ (ap (λ ts. make t.grammar ts s.nonterminals s.precedences s.notes s.scanner) terminals_same
      ∙ (ap (λ ns. make t.grammar t.terminals ns s.precedences s.notes s.scanner) nonterminals_same
      ∙ (ap (λ ps. make t.grammar t.terminals t.nonterminals ps s.notes s.scanner) precedences_same
      ∙ (ap (λ ns. make t.grammar t.terminals t.nonterminals t.precedences ns s.scanner) notes_same
      ∙ ap (make t.grammar t.terminals t.nonterminals t.precedences t.notes) scanner_same))))
