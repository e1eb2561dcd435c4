-- Terminals that are marked, and those that aren't.
use Rattle.std.proofs.Common.{◌≡◌, ◌∙◌, ◌⊎◌, ◌↔◌, inl, inr, ℕ, ◌<◌, ◌≤◌, List, Bool, Some}
use Rattle.std.proofs.Common.{refl, sym, ap, subst, arith, length, map, option_map, slice_get, slice_index_or, Contains}
use Rattle.std.proofs.lemmas.List.{length-map}
use Rattle.std.proofs.lemmas.Option.{get_or_from_slice_get, slice_get-get_or, slice_get-map, slice_get_within}
use Rattle.ly_base.specs.declared.numbers.Sym.{Sym}
use Rattle.ly_base.specs.declared.scan_action.Emitted.{Emitted}
use Rattle.ly_base.specs.declared.scan_action.Emitted.TheVariants.{FirstByte, Nothing, Terminal as Own}
use Rattle.ly_base.specs.declared.scan_action.ScanAction.{ScanAction}
use Rattle.ly_join.specs.Grammar.{IsRule, GrammarRule, Symbol, nonterminal, symbol_of, terminal}
use Rattle.ly_join.specs.Joined.{Spec}
use Rattle.ly_join.specs.Terminals.{byte, terminal_from}
use Rattle.ly_join.specs.declared.symbol.Symbol as code
use Rattle.ly_join.specs.declared.symbol.Symbol.TheVariants as symbols
use Rattle.ly_join.specs.declared.terminal.TerminalName.{TerminalName}
use Rattle.ly_join.specs.declared.terminal.TerminalName.TheVariants.{End, Literal, Token, Undefined}
use Rattle.ly_join.proofs.ListLemmas.{placed}
use Rattle.ly_subset.specs.Automaton.{Automaton, IsAutomaton}
use Rattle.ly_counterexamples.specs.Doubts.{Emits, IsMatched, IsNamed, IsTokenOrLiteral, IsUsed, Returns}
use Rattle.ly_counterexamples.specs.Private.FirstBytes.{StandsFirst}
use Rattle.ly_counterexamples.specs.Private.Marks.{AreAdded, AreMarked, ByStepBefore, IsMarked}
use Rattle.ly_counterexamples.specs.Private.Unmarked.{IsLiteralAt, IsLiteralOf, IsUnmarked, ReturnsItself, StandsAt}
use Rattle.ly_counterexamples.specs.Private.Unmarked.{StandsIn}
use Rattle.ly_counterexamples.proofs.FirstByteLemmas.{stands_below}
use Rattle.ly_counterexamples.proofs.MarkLemmas.{added_as, all_added, marked_as}

-- WHAT STANDS IN BODIES

-- what stands at a place
shown : {X Y : Type 0} (f : X → Y) (xs : List X) (k : ℕ) (d x : X) → k < length xs → slice_index_or xs k d ≡ x
    → slice_get (map f xs) k ≡ Some (f x)
shown f xs k d x lt e = slice_get-map f xs k ∙ ap (option_map f) (slice_get-get_or xs k d lt)
    ∙ ap (λ y. Some (f y)) e

pub terminal_at : (body : List code.Symbol) (k : ℕ) (d : code.Symbol) → k < length body → (x : Sym)
    → slice_index_or body k d ≡ symbols.Terminal x → (t : ℕ) → (t ≡ x.0) ↔ StandsAt (map symbol_of body) k t
terminal_at body k d lt x e t =
    let there = shown symbol_of body k d (symbols.Terminal x) lt e in (
      λ same. there ∙ ap (λ n. Some (terminal n)) (sym same),
      λ at. let one : Some (terminal t) ≡ Some (terminal x.0) = sym at ∙ there in cc,
    )

pub no_terminal_at : (body : List code.Symbol) (k : ℕ) (d : code.Symbol) → k < length body → (x : Sym)
    → slice_index_or body k d ≡ symbols.Nonterminal x → (t : ℕ) → StandsAt (map symbol_of body) k t → ⊥
no_terminal_at body k d lt x e t at =
    let there = shown symbol_of body k d (symbols.Nonterminal x) lt e in
    let one : Some (terminal t) ≡ Some (nonterminal x.0) = sym at ∙ there in
    cc

pub body_marked : (body : List code.Symbol) (n : ℕ) (old new : List Bool) → length body ≤ n
    → AreAdded (ByStepBefore (StandsAt (map symbol_of body)) n) old new
    → AreAdded (λ t. Contains (map symbol_of body) (terminal t)) old new
body_marked body n old new past added = added_as (ByStepBefore (StandsAt (map symbol_of body)) n)
    (λ t. Contains (map symbol_of body) (terminal t)) old new (λ t. (
      λ (k, less, at). contained (map symbol_of body) k (terminal t) at,
      λ has.
          let k = placed (map symbol_of body) (terminal t) has in
          let lt = slice_get_within (map symbol_of body) k.0 (terminal t) k.1 in
          (k.0, omega (arith, lt, length-map body symbol_of, past), k.1),
    )) added
  where
    contained : (w : List Symbol) (k : ℕ) (X : Symbol) → slice_get w k ≡ Some X → Contains w X
    contained w k X at = (k, slice_get_within w k X at, get_or_from_slice_get w k X X at)

pub stands_in : (s : Spec) (k : ℕ) (r : GrammarRule) → IsRule s.grammar k r → (body : List Symbol) → body ≡ r.body
    → (t : ℕ)
    → Contains body (terminal t) ↔ StandsIn s k t
stands_in s k r rule body e t = (
  λ has. (r, rule, subst (λ w. Contains w (terminal t)) e has),
  λ (q, is, has).
      let one : Some (Some q) ≡ Some (Some r) = sym is ∙ rule in
      let same : q ≡ r = cc in
      subst (λ w. Contains w (terminal t)) (ap (λ x. x.body) same ∙ sym e) has,
)

pub used_marked : (s : Spec) (n rules : ℕ) → rules ≤ n → length s.grammar.rules ≡ rules → (none marks : List Bool)
    → AreMarked (length s.terminals) (λ t. ⊥) none → AreAdded (ByStepBefore (StandsIn s) n) none marks
    → AreMarked (length s.terminals) (IsUsed s) marks
used_marked s n rules past all none marks empty added = marked_as (ByStepBefore (StandsIn s) n) (IsUsed s)
    (length s.terminals) marks (λ t lt. (
      λ (p, less, stands). (p, stands.0, stands.1, stands.2),
      λ (p, r, is, has).
          let within = slice_get_within s.grammar.rules p (Some r) is in
          (p, omega (arith, within, past, all), (r, is, has)),
    )) (all_added (ByStepBefore (StandsIn s) n) (length s.terminals) none marks empty added)

-- WHAT HAS NO MARK

-- a terminal's name
pub named_at : (s : Spec) (names : List TerminalName) → map terminal_from names ≡ s.terminals → (t : ℕ)
    (d x : TerminalName) → t < length names → slice_index_or names t d ≡ x
    → IsNamed (terminal_from x) ↔ IsTokenOrLiteral s t
named_at s names these t d x lt e =
    let there : slice_get s.terminals t ≡ Some (terminal_from x)
    = ap (λ ts. slice_get ts t) (sym these) ∙ shown terminal_from names t d x lt e in (
      λ named. (terminal_from x, there, named),
      λ (y, at, named).
          let one : Some y ≡ Some (terminal_from x) = sym at ∙ there in
          let same : y ≡ terminal_from x = cc in
          subst IsNamed same named,
    )

pub unmarked_below : (s : Spec) (marks : List Bool) (t : ℕ) → IsUnmarked s marks t → t < length s.terminals
unmarked_below s marks t un = slice_get_within s.terminals t un.0.0 un.0.1

-- what is marked decides what isn't
pub unmarked_as : (s : Spec) (P : ℕ → Type 0) (marks : List Bool) → AreMarked (length s.terminals) P marks
    → (t : ℕ) → IsUnmarked s marks t ↔ (IsTokenOrLiteral s t × (P t → ⊥))
unmarked_as s P marks marked t = (
  λ (named, off). (
    named,
    λ is. off ((marked.exact t).1
        (slice_get_within s.terminals t named.0 named.1, is)),
  ),
  λ (named, off). (named, λ on. off ((marked.exact t).0 on).1),
)

-- WHAT MATCHES RETURN

pub own_step : (actions : List ScanAction) (marks : List Bool) (i : ℕ) (d : ScanAction) → i < length actions
    → IsMarked marks i → (own : Sym) → (slice_index_or actions i d).emits ≡ Own own → (t : ℕ)
    → (t ≡ own.0) ↔ ReturnsItself actions marks i t
own_step actions marks i d lt on own e t =
    let at = slice_get-get_or actions i d lt in (
      λ same. (on, slice_index_or actions i d, at, own, e, sym same),
      λ (marked, a, is, other, emits, same).
          let one : Some a ≡ Some (slice_index_or actions i d) = sym is ∙ at in
          let there : a ≡ slice_index_or actions i d = cc in
          let both : Own other ≡ Own own = sym emits ∙ ap (λ x. x.emits) there ∙ e in
          let equal : other ≡ own = cc in
          sym same ∙ ap (λ x. x.0) equal,
    )

pub no_own_step : (actions : List ScanAction) (marks : List Bool) (i : ℕ) (d : ScanAction) → i < length actions
    → (IsMarked marks i → (own : Sym) → (slice_index_or actions i d).emits ≡ Own own → ⊥) → (t : ℕ)
    → ReturnsItself actions marks i t → ⊥
no_own_step actions marks i d lt none t (marked, a, is, own, emits, same) =
    let one : Some a ≡ Some (slice_index_or actions i d) = sym is ∙ slice_get-get_or actions i d lt in
    let there : a ≡ slice_index_or actions i d = cc in
    none marked own (ap (λ x. x.emits) (sym there) ∙ emits)

pub literal_step : (names : List TerminalName) (marks : List Bool) (k : ℕ) (d : TerminalName) → k < length names
    → (b : ℕ) → slice_index_or names k d ≡ Literal b → IsMarked marks b → (t : ℕ)
    → (t ≡ k) ↔ IsLiteralAt (map terminal_from names) marks k t
literal_step names marks k d lt b e on t
    = (λ same. (same, (b, shown terminal_from names k d (Literal b) lt e, on)), λ both. both.0)

pub no_literal_step : (names : List TerminalName) (marks : List Bool) (k : ℕ) (d : TerminalName) → k < length names
    → ((b : ℕ) → terminal_from (slice_index_or names k d) ≡ byte b → IsMarked marks b → ⊥) → (t : ℕ)
    → IsLiteralAt (map terminal_from names) marks k t → ⊥
no_literal_step names marks k d lt none t (same, (b, at, on)) =
    let one : Some (terminal_from (slice_index_or names k d)) ≡ Some (byte b)
    = sym (shown terminal_from names k d (slice_index_or names k d) lt refl) ∙ at in
    let named : terminal_from (slice_index_or names k d) ≡ byte b = cc in
    none b named on

-- a name that is no literal
pub no_literal : (x : TerminalName) → ((b : ℕ) → x ≡ Literal b → ⊥) → (b : ℕ) → terminal_from x ≡ byte b → ⊥
no_literal End none b e = cc
no_literal Undefined none b e = cc
no_literal (Token name) none b e = cc
no_literal (Literal a) none b e = none a refl

pub literals_marked : (names : List TerminalName) (marks : List Bool) (n : ℕ) (old new : List Bool) → length names ≤ n
    → AreAdded (ByStepBefore (IsLiteralAt (map terminal_from names) marks) n) old new
    → AreAdded (IsLiteralOf (map terminal_from names) marks) old new
literals_marked names marks n old new past added
    = added_as (ByStepBefore (IsLiteralAt (map terminal_from names) marks) n)
    (IsLiteralOf (map terminal_from names) marks) old new (λ t. (
      λ (k, less, (same, is)). subst (IsLiteralOf (map terminal_from names) marks) (sym same) is,
      λ (b, at, on).
          let lt = slice_get_within (map terminal_from names) t (byte b) at in
          (t, omega (arith, lt, past, length-map names terminal_from), (refl, (b, at, on))),
    )) added

-- a match returns the terminal itself, or its first byte, whose literal the terminal is
pub returns_by : (s : Spec) (A : Automaton) → IsAutomaton A → (matched bytes : List Bool)
    → AreMarked (length s.scanner) (IsMatched A) matched → AreMarked 256 (StandsFirst s.scanner A) bytes → (t : ℕ)
    → (((i : ℕ) × (i < length s.scanner) × ReturnsItself s.scanner matched i t) ⊎ IsLiteralOf s.terminals bytes t)
    ↔ Returns s A t
returns_by s A is_automaton matched bytes own first t = (to, λ r. back r r.action.emits refl) where
  to : ((i : ℕ) × (i < length s.scanner) × ReturnsItself s.scanner matched i t) ⊎ IsLiteralOf s.terminals bytes t
      → Returns s A t
  to (inl (i, lt, (on, a, is, o, emits, same))) =
      let m = ((own.exact i).0 on).1 in
      record {
        condition = m.0;
        line = m.1;
        first = m.2;
        rest = m.3;
        rule = i;
        matches = m.4;
        action = a;
        is_action = is;
        emits = subst (λ x. Emits s x m.2 t) (sym emits) same;
      }
  to (inr (b, at, on)) =
      let f = ((first.exact b).0 on).1 in
      let has = f.3 in
      record {
        condition = f.0;
        line = f.1;
        first = b;
        rest = f.2;
        rule = has.0;
        matches = has.1;
        action = has.2.0;
        is_action = has.2.1;
        emits = subst (λ x. Emits s x b t) (sym has.2.2) at;
      }

  back : (r : Returns s A t) (x : Emitted) → r.action.emits ≡ x
      → ((i : ℕ) × (i < length s.scanner) × ReturnsItself s.scanner matched i t) ⊎ IsLiteralOf s.terminals bytes t
  back r Nothing e = absurd (subst (λ x. Emits s x r.first t) e r.emits)
  back r (Own o) e =
      let lt = slice_get_within s.scanner r.rule r.action r.is_action in
      let on = (own.exact r.rule).1 (lt, (r.condition, r.line, r.first, r.rest, r.matches)) in
      inl (r.rule, lt, (on, r.action, r.is_action, o, e, subst (λ x. Emits s x r.first t) e r.emits))
  back r FirstByte e =
      let f : StandsFirst s.scanner A r.first
      = (r.condition, r.line, r.rest, (r.rule, r.matches, (r.action, r.is_action, e))) in
      inr (
        r.first,
        subst (λ x. Emits s x r.first t) e r.emits,
        (first.exact r.first).1 (stands_below A is_automaton s.scanner r.first f, f),
      )
