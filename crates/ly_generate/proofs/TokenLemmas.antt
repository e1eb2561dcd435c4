-- The tokens that a table set's scanner gives are those of the lex file, numbered.
use Rattle.std.proofs.Common.{◌≡◌, ◌∙◌, ◌<◌, ◌≤◌, ◌+◌, ℕ, zero, suc, List, [], ◌∷◌, ◌++◌, Option, Some, None, All}
use Rattle.std.proofs.Common.{ap, arith, drop, get_or, inl, inr, length, map, refl, slice_get, take}
use Rattle.std.specs.Prelude.{option_and_then, slice_index}
use Rattle.std.specs.List.{AllZip}
use Rattle.std.proofs.lemmas.List.Elements.{All-cons}
use Rattle.std.proofs.lemmas.Option.{slice_get-get_or, slice_get_within}
use Rattle.ly_base.specs.Lexed.{Lexed, Place, Token, place_after, token_if, tokens_from}
use Rattle.ly_print.specs.Text.{Terminal, literal, token}
use Rattle.ly_base.specs.declared.lexeme.End.{End}
use Rattle.ly_base.specs.declared.lexeme.Lexeme.{Lexeme}
use Rattle.ly_base.specs.declared.scan_action.Emitted.{Emitted}
use Rattle.ly_feed.specs.ScanPart.{ScanPart, condition_in, next_in, scanner_in, start_in, states_in, terminal_by}
use Rattle.ly_feed.specs.ScanPart.{terminal_in}
use Rattle.ly_tokens.specs.Printing.{condition_set, naming, terminal_for}
use Rattle.ly_generate.specs.SpecAnswer.{IsNumberOf, IsNumberedToken}
use Rattle.ly_join.specs.Scanning.{IsEmitted, IsScanAction, acting_of, returning_of}
use Rattle.ly_join.specs.Terminals.{TerminalName, IsOfByte}
use Rattle.ly_lexread.specs.declared.action.LexAction.{LexAction}
use Rattle.ly_lexread.specs.declared.action.Returned.{Returned}
use Rattle.ly_lexread.specs.declared.action.Returned.TheVariants as lex
use Rattle.ly_scan.specs.Lexer.{IsLexemeAt, ScanEndsAt}
use Rattle.ly_scan.specs.StateWalk.{says, state_after}
use Rattle.ly_tables.specs.TableSet.{ScanRule}

-- both are there and related, or neither is
Both : {A B : Type 0} → (A → B → Type 0) → Option A → Option B → Type 0
Both R None None = Unit {0}
Both R None (Some y) = ⊥
Both R (Some x) None = ⊥
Both R (Some x) (Some y) = R x y

both_at : {A B : Type 0} (R : A → B → Type 0) (xs : List A) (ys : List B) → AllZip R xs ys → (i : ℕ)
    → Both R (slice_get xs i) (slice_get ys i)
unfolding Both
both_at R [] [] h i = tt
both_at R [] (y ∷ ys) h i = absurd h
both_at R (x ∷ xs) [] h i = absurd h
both_at R (x ∷ xs) (y ∷ ys) h zero = h.0
both_at R (x ∷ xs) (y ∷ ys) h (suc i) = both_at R xs ys h.1 i

-- a rule of a table set does what the action of a lex file says
DoesAs : List TerminalName → LexAction → ScanRule → Type 0
DoesAs terminals a r = IsScanAction terminals (acting_of a) r.action

zip_back : (terminals : List TerminalName) (xs : List LexAction) (rs : List ScanRule)
    → AllZip (IsScanAction terminals) (map acting_of xs) (map (λ r. r.action) rs) → AllZip (DoesAs terminals) xs rs
unfolding DoesAs
zip_back terminals [] [] h = tt
zip_back terminals [] (r ∷ rs) h = absurd h
zip_back terminals (x ∷ xs) [] h = absurd h
zip_back terminals (x ∷ xs) (r ∷ rs) h = (h.0, zip_back terminals xs rs h.1)

same_begin : (terminals : List TerminalName) (x : Option LexAction) (y : Option ScanRule) → Both (DoesAs terminals) x y
    → option_and_then (λ r. r.action.begin) y ≡ option_and_then (λ a. a.begin) x
unfolding Both DoesAs
same_begin terminals None None h = refl
same_begin terminals None (Some r) h = absurd h
same_begin terminals (Some a) None h = absurd h
same_begin terminals (Some a) (Some r) h = h.begin

first_below : (n b : ℕ) (rest : List ℕ) → b < 256 → slice_index (take n (b ∷ rest)) 0 < 256
first_below zero b rest lt = omega arith
first_below (suc n) b rest lt = lt

module _ (terminals : List TerminalName) (p : ScanPart) (actions : List LexAction)
    (does : AllZip (IsScanAction terminals) (map acting_of actions) (map (λ r. r.action) p.rules))
    (all_literals : length p.literals ≡ 256) (all_classes : length p.classes ≡ 256)
    (literals : (b t : ℕ) → slice_get p.literals b ≡ Some t → IsOfByte terminals b t) where
  rule_does : (i : ℕ) → Both (DoesAs terminals) (slice_get actions i) (slice_get p.rules i)
  rule_does = both_at (DoesAs terminals) actions p.rules (zip_back terminals actions p.rules does)

  pub same_conditions : (i : ℕ) → condition_in p i ≡ condition_set actions i
  same_conditions i = same_begin terminals (slice_get actions i) (slice_get p.rules i) (rule_does i)

  of_first : (bytes : List ℕ) → slice_index bytes 0 < 256
      → Both (IsNumberOf terminals) (Some (literal (slice_index bytes 0))) (slice_get p.literals (slice_index bytes 0))
  unfolding Both
  of_first bytes lt =
      let at : slice_get p.literals (slice_index bytes 0) ≡ Some (get_or p.literals (slice_index bytes 0) 0)
      = slice_get-get_or p.literals (slice_index bytes 0) 0 (omega (arith, lt, all_literals)) in
      rw at (literals (slice_index bytes 0) (get_or p.literals (slice_index bytes 0) 0) at)

  by_action : (r : Returned) (e : Emitted) (bytes : List ℕ) → IsEmitted terminals (returning_of r) e
      → slice_index bytes 0 < 256 → Both (IsNumberOf terminals) (terminal_for r bytes) (terminal_by p bytes e)
  unfolding Both
  by_action lex.Nothing e bytes h lt = rw h tt
  by_action (lex.Token name) e bytes h lt = rw h.1 h.2
  by_action (lex.Literal b) e bytes h lt = rw h.1 h.2
  by_action lex.FirstByte e bytes h lt = rw h (of_first bytes lt)

  by_rule : (x : Option LexAction) (y : Option ScanRule) (bytes : List ℕ) → Both (DoesAs terminals) x y
      → slice_index bytes 0 < 256
      → Both (IsNumberOf terminals) (option_and_then (λ a. terminal_for a.returns bytes) x)
      (option_and_then (λ r. terminal_by p bytes r.action.emits) y)
  unfolding Both DoesAs
  by_rule None None bytes h lt = tt
  by_rule None (Some r) bytes h lt = absurd h
  by_rule (Some a) None bytes h lt = absurd h
  by_rule (Some a) (Some r) bytes h lt = by_action a.returns r.action.emits bytes h.emits lt

  -- a walk that goes on over a byte knows the byte's class
  no_step : (b : ℕ) (o : Option ℕ) → slice_get p.classes b ≡ None
      → option_and_then (λ state. next_in p state b) o ≡ None
  no_step b None none = refl
  no_step b (Some q) none = rw none refl

  none_after : (w : List ℕ) → state_after (states_in p) None w ≡ None
  none_after [] = refl
  none_after (b ∷ w) = none_after w

  not_dead : (b : ℕ) (w : List ℕ) (o : Option ℕ) (r : ℕ) → slice_get p.classes b ≡ None
      → says (states_in p) (state_after (states_in p) o (b ∷ w)) ≡ Some (Some r) → ⊥
  not_dead b w o r none e =
      let dead : says (states_in p) (state_after (states_in p) o (b ∷ w)) ≡ None
      = ap (λ x. says (states_in p) (state_after (states_in p) x w)) (no_step b o none)
      ∙ ap (says (states_in p)) (none_after w) in cc

  byte_below : (b : ℕ) (w : List ℕ) (o : Option ℕ) (r : ℕ) (class : Option ℕ) → slice_get p.classes b ≡ class
      → says (states_in p) (state_after (states_in p) o (b ∷ w)) ≡ Some (Some r) → b < 256
  byte_below b w o r None at e = absurd (not_dead b w o r at e)
  byte_below b w o r (Some c) at e = omega (arith, slice_get_within p.classes b c at, all_classes)

  lexeme_below : (rest : List ℕ) (o : Option ℕ) (m n r : ℕ) → 1 ≤ m → m ≤ length rest
      → says (states_in p) (state_after (states_in p) o (take m rest)) ≡ Some (Some r)
      → slice_index (take n rest) 0 < 256
  lexeme_below [] o m n r some le e = absurd (omega (arith, some, le))
  lexeme_below (b ∷ rest) o zero n r some le e = absurd (omega (arith, some))
  lexeme_below (b ∷ rest) o (suc m) n r some le e
      = first_below n b rest (byte_below b (take m rest) o r (slice_get p.classes b) refl e)

  join : (at : ℕ) (bytes : List ℕ) (x : Option Terminal) (y : Option ℕ) (xs : List (Token Terminal))
      (ys : List (Token ℕ))
      → Both (IsNumberOf terminals) x y → AllZip (IsNumberedToken terminals) xs ys
      → AllZip (IsNumberedToken terminals) (token_if x at bytes ++ xs) (token_if y at bytes ++ ys)
  unfolding Both
  join at bytes None None xs ys h all = all
  join at bytes None (Some y) xs ys h all = absurd h
  join at bytes (Some x) None xs ys h all = absurd h
  join at bytes (Some x) (Some y) xs ys h all
      = (record { terminal = h; same_place = refl; same_bytes = refl }, all)

  -- the tokens of a run are those of the actions, numbered
  pub numbered : (next : ℕ → Option ℕ) (q : Place) (ts : List Lexeme) (e : End)
      → Lexed (IsLexemeAt (scanner_in p)) (ScanEndsAt (scanner_in p)) next q ts e
      → AllZip (IsNumberedToken terminals) (tokens_from (naming actions) q.at q.rest ts)
      (tokens_from (terminal_in p) q.at q.rest ts)
  numbered next q [] e h = tt
  numbered next q (t ∷ ts) e h =
      join q.at (take t.taken q.rest) (naming actions t.rule.0 (take t.taken q.rest))
      (terminal_in p t.rule.0 (take t.taken q.rest))
      (tokens_from (naming actions) (q.at + t.taken) (drop t.taken q.rest) ts)
      (tokens_from (terminal_in p) (q.at + t.taken) (drop t.taken q.rest) ts)
      (by_rule (slice_get actions t.rule.0) (slice_get p.rules t.rule.0) (take t.taken q.rest) (rule_does t.rule.0)
      (lexeme_below q.rest (start_in p q.condition q.line) t.matched t.taken t.rule.0 h.0.0.some_byte h.0.0.within
      h.0.0.has_rule))
      (numbered next (place_after next q t) ts e h.1)

below_terminals : (terminals : List TerminalName) (n : Terminal) (t : ℕ) → 2 ≤ length terminals
    → IsNumberOf terminals n t
    → t < length terminals
below_terminals terminals (token name) t two h = slice_get_within terminals t _ h
below_terminals terminals (literal b) t two (inl at) = slice_get_within terminals t _ at
below_terminals terminals (literal b) t two (inr none) = omega (arith, two, none.1)

-- and their terminals are the grammar's
pub all_below : (terminals : List TerminalName) (named : List (Token Terminal)) (tokens : List (Token ℕ))
    → 2 ≤ length terminals → AllZip (IsNumberedToken terminals) named tokens
    → All (λ t. t.terminal < length terminals) tokens
all_below terminals [] [] two h = λ k d lt. absurd (omega (arith, lt))
all_below terminals [] (u ∷ us) two h = absurd h
all_below terminals (t ∷ ts) [] two h = absurd h
all_below terminals (t ∷ ts) (u ∷ us) two h = All-cons (λ x. x.terminal < length terminals) u us
    (below_terminals terminals t.terminal u.terminal two h.0.terminal) (all_below terminals ts us two h.1)
