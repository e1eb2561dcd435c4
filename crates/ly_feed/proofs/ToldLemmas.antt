-- Lexemes that are told by facts of states.
use Rattle.std.proofs.Common.{◌≡◌, ◌≢◌, ◌∙◌, ◌≤◌, ◌+◌, ◌-◌, ℕ, zero, suc, List, [], ◌∷◌, Bool, Option, Some, None, Ok}
use Rattle.std.proofs.Common.{Err, Result, ap, arith, false, get_or, length, length-drop, map, refl, slice_get}
use Rattle.std.proofs.Common.{subst, sym, take}
use Rattle.std.proofs.Common.{true}
use Rattle.std.proofs.lemmas.Bool.Decides.{nat_tests}
use Rattle.std.proofs.lemmas.Option.{slice_get-map}
use Rattle.std.specs.Prelude.{IsErrAnd, IsSome, if◌then◌else◌, nat_eq, nat_lt, option_and_then, option_map}
use Rattle.std.specs.Prelude.{slice_index, unwrap_or}
use Rattle.ly_base.specs.Lexed.{Place, Token, moved, place_after}
use Rattle.ly_base.specs.declared.lexeme.Lexeme.{Lexeme}
use Rattle.ly_base.specs.declared.numbers.Sym.{Sym}
use Rattle.ly_base.specs.declared.scan_action.Emitted.{Emitted}
use Rattle.ly_base.specs.declared.scan_action.Emitted.TheVariants.{FirstByte, Nothing, Terminal}
use Rattle.ly_feed.proofs.OnwardLemmas.{onward_on}
use Rattle.ly_feed.proofs.RunLemmas.{settled_there}
use Rattle.ly_feed.specs.Closed.{progress_of}
use Rattle.ly_feed.specs.LexerOf.{IsLexerOf}
use Rattle.ly_feed.specs.Onward.{IsTokenAt, Onward}
use Rattle.ly_feed.specs.Private.Running.{IsRunOn, IsTaken}
use Rattle.ly_feed.specs.Private.Told.{AreFactsOf, AreNumbersOf, IsAhead, IsRunOverTold, IsToldAt, SaysOf, number_by}
use Rattle.ly_feed.specs.Private.Told.{number_for, terminal_told}
use Rattle.ly_feed.specs.ScanPart.{ScanPart, condition_in, scan_part_of, scanner_in}
use Rattle.ly_feed.specs.ScanPart as part
use Rattle.ly_feed.specs.TableAnswer.{Progress}
use Rattle.ly_feed.specs.Verdict.{faulty}
use Rattle.ly_feed.specs.declared.running.Halt.{Halt}
use Rattle.ly_feed.specs.declared.running.Halt.TheVariants.{At}
use Rattle.ly_feed.specs.declared.text_fault.TextFault.{TextFault}
use Rattle.ly_feed.specs.declared.text_fault.TextFault.TheVariants as text
use Rattle.ly_pack.specs.Machine.{Machine}
use Rattle.ly_parse.specs.Parse.{Parse}
use Rattle.ly_parse.specs.declared.token_outcome.TokenOutcome.{TokenOutcome}
use Rattle.ly_scan.proofs.KnownWalkLemmas.{known_on}
use Rattle.ly_scan.proofs.LexerLemmas.{known_passed}
use Rattle.ly_scan.specs.Facts.{IsTaggedLexeme}
use Rattle.ly_scan.specs.KnownWalks.{AreKnown}
use Rattle.ly_scan.specs.Lexers.{Lexer, scanner_of}
use Rattle.ly_scan.specs.Pieces.{PassesOver, IsDecided}
use Rattle.ly_scan.specs.declared.tagged_lexeme.TaggedLexeme.{TaggedLexeme}
use Rattle.ly_tables.specs.TableSet.{ScanRule, TableSet}
use Rattle.ly_tables.specs.Values.{scan_rule_from}
use Rattle.ly_tables.specs.declared.scan_rule.ScanRule as scan

-- the number of a rule in a list of them
number_at : (f : scan.ScanRule → ℕ) (rules : List scan.ScanRule) (i : ℕ)
    → get_or (map f rules) i 0 ≡ unwrap_or (option_map f (slice_get rules i)) 0
number_at f [] i = refl
number_at f (r ∷ rules) zero = refl
number_at f (r ∷ rules) (suc i) = number_at f rules i

-- what a number says
says_by : (p : ScanPart) (bytes : List ℕ) (begin : Option ℕ) (emits : Emitted) → number_by begin emits ≢ 0
    → (begin ≡ None)
    × (part.terminal_by p bytes emits ≡ terminal_told p (number_by begin emits) (slice_index bytes 0))
says_by p bytes (Some c) emits some = absurd (some refl)
says_by p bytes None Nothing some = (refl, refl)
says_by p bytes None FirstByte some = (refl, refl)
says_by p bytes None (Terminal t) some = (refl, by_test (nat_lt t.0 4294967293) some)
  where
    by_test : (b : Bool) → (if b then t.0 + 3 else 0) ≢ 0
        → Some t.0 ≡ terminal_told p (if b then t.0 + 3 else 0) (slice_index bytes 0)
    by_test false some = absurd (some refl)
    by_test true some =
        let first = slice_get p.literals (slice_index bytes 0) in
        let one : nat_eq (t.0 + 3) 1 ≡ false = grind (arith, nat_tests) in
        let two : nat_eq (t.0 + 3) 2 ≡ false = grind (arith, nat_tests) in
        let back : t.0 ≡ t.0 + 3 - 3 = omega arith in
        ap Some back ∙ sym
        (ap (λ b. if b then None else if nat_eq (t.0 + 3) 2 then first else Some (t.0 + 3 - 3)) one
        ∙ ap (λ b. if b then first else Some (t.0 + 3 - 3)) two)

-- the numbers of a table set's rules say what these do
pub numbers_say : (s : TableSet) (rules : List scan.ScanRule) (numbers : List ℕ)
    → map scan_rule_from rules ≡ s.scan_rules → numbers ≡ map number_for rules
    → AreNumbersOf (scan_part_of s) numbers
numbers_say s rules numbers all is rule some = by_rule (slice_get rules rule) refl
  where
    at : get_or numbers rule 0 ≡ unwrap_or (option_map number_for (slice_get rules rule)) 0
    at = ap (λ xs. get_or xs rule 0) is ∙ number_at number_for rules rule

    by_rule : (o : Option scan.ScanRule) → slice_get rules rule ≡ o
        → SaysOf (scan_part_of s) rule (get_or numbers rule 0)
    by_rule None there = absurd (some (at ∙ ap (λ o. unwrap_or (option_map number_for o) 0) there))
    by_rule (Some r) there =
        let number : get_or numbers rule 0 ≡ number_for r
        = at ∙ ap (λ o. unwrap_or (option_map number_for o) 0) there in
        let more : number_for r ≢ 0 = λ none. some (number ∙ none) in
        let here : slice_get s.scan_rules rule ≡ Some (scan_rule_from r)
        = ap (λ xs. slice_get xs rule) (sym all) ∙ slice_get-map scan_rule_from rules rule
        ∙ ap (option_map scan_rule_from) there in
        record {
          condition = ap (option_and_then (λ (r : ScanRule). r.action.begin)) here
              ∙ (says_by (scan_part_of s) [] r.action.begin r.action.emits more).0;
          terminal = λ bytes.
              ap (option_and_then (λ (r : ScanRule). part.terminal_by (scan_part_of s) bytes r.action.emits)) here
              ∙ (says_by (scan_part_of s) bytes r.action.begin r.action.emits more).1
              ∙ ap (λ n. terminal_told (scan_part_of s) n (slice_index bytes 0)) (sym number);
        }

-- what a lexer tells by such facts
pub told_at : (p : ScanPart) (l : Lexer) (facts : List ℕ) (q : Place) (told : TaggedLexeme) → IsLexerOf p l
    → (f : AreFactsOf p l.scanner facts) → IsTaggedLexeme (scanner_of l.scanner) f.numbers q told → IsToldAt p q told
told_at p l facts q told is f tells = record {
  lexeme = tells.lexeme;
  stands = subst (λ s. IsDecided false s q tells.lexeme) is.scanner tells.stands;
  taken = tells.taken;
  some = tells.some;
  says = subst (SaysOf p tells.lexeme.rule.0) tells.fact
      (f.say tells.lexeme.rule.0 (λ none. tells.some (sym tells.fact ∙ none)));
}

-- the terminal of a lexeme of which this is told, by its first byte
pub terminal_there : (p : ScanPart) (q : Place) (told : TaggedLexeme) (is : IsToldAt p q told) (text : List ℕ)
    (first : ℕ)
    (o : Option Sym) → text ≡ take told.taken q.rest → first ≡ slice_index text 0
    → option_map (λ (t : Sym). t.0) o ≡ terminal_told p told.fact first
    → option_map (λ (t : Sym). t.0) o ≡ part.terminal_in p is.lexeme.rule.0 (take is.lexeme.taken q.rest)
terminal_there p q told is text first o here begins says =
    let bytes : text ≡ take is.lexeme.taken q.rest = here ∙ ap (λ n. take n q.rest) (sym is.taken) in
    says ∙ ap (terminal_told p told.fact) (begins ∙ ap (λ xs. slice_index xs 0) bytes)
    ∙ sym (is.says.terminal (take is.lexeme.taken q.rest))

-- what becomes of a lexeme, by the answer that is given
pub answered : (ended : Bool) (p : ScanPart) (m : Machine) (w : Progress) (t : Lexeme) (r : Parse) (a b : TokenOutcome)
    → a ≡ b → IsTaken ended p m w t r a → IsTaken ended p m w t r b
answered ended p m w t r a b is = subst (IsTaken ended p m w t r) is

-- a lexeme that has a token has a terminal
pub has_terminal : (p : ScanPart) (q : Place) (t : Lexeme) (token : Token ℕ) (o : Option Sym) → IsTokenAt p q t token
    → option_map (λ (s : Sym). s.0) o ≡ part.terminal_in p t.rule.0 (take t.taken q.rest) → IsSome o
has_terminal p q t token (Some s) here is = refl
has_terminal p q t token None here is =
    let no : None ≡ Some token.terminal = is ∙ ap (part.terminal_in p t.rule.0) (sym here.bytes) ∙ here.terminal in
    absurd cc

-- where a lexeme leads of which this is told
pub told_after : (p : ScanPart) (q next : Place) (told : TaggedLexeme) (is : IsToldAt p q told)
    → next ≡ moved q told.taken None → next ≡ place_after (condition_in p) q is.lexeme
told_after p q next told is moves = moves ∙ ap (λ n. moved q n None) (sym is.taken)
    ∙ ap (moved q is.lexeme.taken) (sym is.says.condition)

-- no lexeme leads ahead
pub ahead_none : (p : Place) → IsAhead p p
ahead_none p = record { fewer = omega arith; known = λ ahead known ended h. h }

-- lexemes that are passed over do
pub ahead_over : (l : Lexer) (p q r : Place) → IsAhead p q → PassesOver (scanner_of l.scanner) l.passed q r
    → length r.rest ≤ length q.rest → IsAhead p r
ahead_over l p q r h over left = record {
  fewer = omega (arith, h.fewer, left);
  known = λ ahead known ended k. known_passed (scanner_of l.scanner) l.passed ahead ended known q r over
      (h.known ahead known ended k);
}

-- so does another lexeme
pub ahead_on : (p q next : Place) (taken : ℕ) → IsAhead p q → taken ≤ length q.rest → next ≡ moved q taken None
    → IsAhead p next
ahead_on p q next taken h within moves = record {
  fewer = omega (arith, h.fewer, ap (λ (x : Place). length x.rest) moves, length-drop taken q.rest);
  known = λ ahead known ended k. subst (λ (x : Place). AreKnown ahead ended x.rest known) (sym moves)
      (known_on ahead ended q.rest known taken within (h.known ahead known ended k));
}

module _ (ended : Bool) (p : ScanPart) (m : Machine) (w : Progress) where
  -- a run goes on behind lexemes that are told
  pub told_here : (q : Place) (s r : Parse) (h : Halt) (here : Place) {k : Machine} → k ≡ m
      → Onward ended p m w (progress_of q s) → IsRunOverTold ended p k (progress_of q s) r (Ok h) → h ≡ At here
      → Onward ended p m w (progress_of here r) × (r.over ≡ false)
  told_here q s r h here {k} machine on run at =
      let there = subst (λ x. IsRunOverTold ended p m (progress_of q s) r (Ok x)) at
      (subst (λ x. IsRunOverTold ended p x (progress_of q s) r (Ok h)) machine run) in
      (onward_on ended p m on there.0, there.1)

  -- a fault on the way is handed on
  pub told_fault : (q : Place) (s r : Parse) (e : TextFault) (result : Result Halt TextFault) {k : Machine} → k ≡ m
      → Onward ended p m w (progress_of q s) → IsRunOverTold ended p k (progress_of q s) r (Err e)
      → IsErrAnd result (λ x. x ≡ e) → IsRunOn ended p m w r result
  told_fault q s r e (Ok x) machine on run is = absurd is
  told_fault q s r text.FaultyTables (Err x) machine on run is =
      subst (λ y. IsRunOn ended p m w r (Err y)) (sym is) (settled_there ended p m w q s faulty on
      (subst (λ k. IsRunOverTold ended p k (progress_of q s) r (Err text.FaultyTables)) machine run))
  told_fault q s r text.OutOfMemory (Err x) machine on run is =
      subst (λ y. IsRunOn ended p m w r (Err y)) (sym is) tt
  told_fault q s r text.TooLong (Err x) machine on run is = absurd run
  told_fault q s r text.Read (Err x) machine on run is = absurd run
  told_fault q s r (text.Write written) (Err x) machine on run is = absurd run
