-- What becomes of a lexeme, and of the end of a text.
use Rattle.std.proofs.Common.{◌≡◌, ◌∙◌, ◌≤◌, ◌+◌, ℕ, [], ◌∷◌, Option, Some, None, ap, refl, subst, sym}
use Rattle.std.proofs.Common.{take as first}
use Rattle.std.specs.Prelude.{Bool, false, option_map}
use Rattle.ly_base.specs.Lexed.{Place, Token, place_after}
use Rattle.ly_base.specs.declared.lexeme.Lexeme.{Lexeme}
use Rattle.ly_base.specs.declared.numbers.Sym.{Sym}
use Rattle.ly_feed.proofs.FeedingLemmas.{not_accepted}
use Rattle.ly_feed.proofs.RestLemmas.{one_token}
use Rattle.ly_feed.proofs.SettledLemmas.{settled_fault, settled_refused}
use Rattle.ly_feed.specs.Onward.{Onward, IsSettled, IsTokenAt, and_passes, and_reads, none_yet}
use Rattle.ly_feed.specs.SyntaxError.{verdict_of}
use Rattle.ly_feed.specs.Closed.{progress_of}
use Rattle.ly_feed.specs.Private.Running.{IsRefusalAt, IsTaken}
use Rattle.ly_feed.specs.ScanPart.{ScanPart, condition_in, scanner_in, terminal_in}
use Rattle.ly_feed.specs.TableAnswer.{Progress}
use Rattle.ly_feed.specs.declared.syntax_error.SyntaxError.{SyntaxError}
use Rattle.ly_feed.specs.Verdict.{refused}
use Rattle.ly_pack.specs.Machine.{IsMachine, Machine}
use Rattle.ly_parse.specs.Expected.{AreExpected}
use Rattle.ly_parse.specs.Feeding.{Feeds, pushed, states_on}
use Rattle.ly_parse.specs.Feeding as fed
use Rattle.ly_parse.specs.Parse.{IsTake, Parse}
use Rattle.ly_parse.specs.declared.token_outcome.TokenOutcome.{TokenOutcome}
use Rattle.ly_parse.specs.declared.token_outcome.TokenOutcome.TheVariants as answers
use Rattle.ly_scan.specs.Pieces.{IsDecided}

-- a terminal that is there, as the scanner's part says
pub terminal_is : (o : Option Sym) (t : Sym) (x : Option ℕ) → option_map (λ (s : Sym). s.0) o ≡ x → o ≡ Some t
    → x ≡ Some t.0
terminal_is o t x e is = sym e ∙ ap (option_map (λ (s : Sym). s.0)) is

pub no_terminal : (o : Option Sym) (x : Option ℕ) → option_map (λ (s : Sym). s.0) o ≡ x → o ≡ None → x ≡ None
no_terminal o x e is = sym e ∙ ap (option_map (λ (s : Sym). s.0)) is

module _ (ended : Bool) (p : ScanPart) (m : Machine) where
  -- a lexeme without a token is passed over
  pub passes_on : (q : Place) (s : Parse) (t : Lexeme) → IsDecided ended (scanner_in p) q t
      → terminal_in p t.rule.0 (first t.taken q.rest) ≡ None
      → Onward ended p m (progress_of q s) (progress_of (place_after (condition_in p) q t) s)
  passes_on q s t fast none = and_passes t none_yet fast none

  -- what becomes of one with a token
  pub taken : (q : Place) (s r : Parse) (t : Lexeme) (token : Token ℕ) (result : TokenOutcome) → IsMachine m
      → s.machine ≡ m → s.over ≡ false → 1 ≤ token.terminal → IsDecided ended (scanner_in p) q t
      → IsTokenAt p q t token → IsTake s token r result → IsTaken ended p m (progress_of q s) t r result
  taken q s r t token answers.Reads legal machine goes low fast here f = (
    subst (λ k. Onward ended p m (progress_of q s) (record {
      place = place_after (condition_in p) q t;
      stack = r.stack;
      count = k;
    })) (sym (f.before_end goes).1)
        (and_reads t token none_yet fast here
        (subst (λ k. Feeds k token s.stack (pushed r.stack)) machine (f.before_end goes).0)),
    f.over,
  )
  taken q s r t token answers.Refuses legal machine goes low fast here f =
      let refused = f.before_end goes in (
        token,
        here,
        subst (λ k. Feeds k token s.stack fed.refused) machine refused.0,
        refused.1,
        refused.2,
        refused.3,
      )
  taken q s r t token answers.FaultyTables legal machine goes low fast here f =
      settled_fault ended p m (progress_of q s) t token fast here
      (subst (λ k. Feeds k token s.stack fed.faulty) machine (f.before_end goes))
  taken q s r t token answers.OutOfMemory legal machine goes low fast here f = tt
  taken q s r t token answers.Accepts legal machine goes low fast here f =
      not_accepted s r token answers.Accepts (subst IsMachine (sym machine) legal) goes low refl f
  taken q s r t token answers.Over legal machine goes low fast here f = f.before_end goes

  -- the token of a lexeme is one
  same_token : (q : Place) (t : Lexeme) (a b : Token ℕ) → IsTokenAt p q t a → IsTokenAt p q t b → a ≡ b
  same_token q t a b f g =
      let both : a ∷ [] ≡ b ∷ [] = sym (one_token p m q t a f) ∙ one_token p m q t b g in cc

  -- what is wrong where it is refused
  pub refused_there : (w : Progress) (t : Lexeme) (r : Parse) (syntax_error : SyntaxError) → r.machine ≡ m
      → IsDecided ended (scanner_in p) w.place t → IsTaken ended p m w t r answers.Refuses
      → IsRefusalAt p w.place t r syntax_error → IsSettled ended p m w (verdict_of syntax_error)
  refused_there w t r syntax_error machine fast f told =
      let same = same_token w.place t told.0 f.0 told.2 f.1 in
      subst (IsSettled ended p m w)
      (sym (told.4 ∙ (ap (λ n. refused (n + 1) told.0 told.1) f.4 ∙ ap (λ x. refused (w.count + 1) x told.1) same)))
      (settled_refused ended p m w t f.0 told.1 fast f.1 f.2
      (subst (λ k. AreExpected k (states_on w.stack) told.1) machine
      (subst (λ xs. AreExpected r.machine xs told.1) f.3 told.3)))
