-- A run over what has come of a text.
use Rattle.std.proofs.Common.{◌≡◌, ◌∙◌, ℕ, [], ◌∷◌, Option, Some, None, Ok, ap, append-nil, arith}
use Rattle.std.proofs.Common.{length, length-append, refl, subst, sym}
use Rattle.std.specs.Prelude.{Bool, MatchOption, false, true}
use Rattle.ly_base.specs.Lexed.{Place}
use Rattle.ly_base.specs.declared.lexeme.End.{End}
use Rattle.ly_base.specs.declared.lexeme.End.TheVariants.{BadCut, Clean, Stuck}
use Rattle.ly_base.specs.declared.lexeme.Lexeme.{Lexeme}
use Rattle.ly_feed.proofs.OnwardLemmas.{onward_on, passed_onward, settled_on}
use Rattle.ly_feed.proofs.PieceLemmas.{anything_follows}
use Rattle.ly_feed.proofs.SettledLemmas.{settled_cut, settled_stuck}
use Rattle.ly_feed.specs.Onward.{IsSettled, Onward}
use Rattle.ly_feed.specs.LexerOf.{IsLexerOf}
use Rattle.ly_feed.specs.Closed.{progress_of}
use Rattle.ly_feed.specs.Private.Running.{Halts, IsRunOn}
use Rattle.ly_feed.specs.ScanPart.{ScanPart, scanner_in}
use Rattle.ly_feed.specs.TableAnswer.{Progress}
use Rattle.ly_feed.specs.Verdict.{Verdict, faulty, unmatched}
use Rattle.ly_feed.specs.declared.running.Halt.{Halt}
use Rattle.ly_feed.specs.declared.running.Halt.TheVariants.{At}
use Rattle.ly_pack.specs.Machine.{Machine}
use Rattle.ly_parse.proofs.FedOnceLemmas.{fed_in_one_way}
use Rattle.ly_parse.specs.Parse.{Parse}
use Rattle.ly_scan.specs.Lexers.{Lexer, scanner_of}
use Rattle.ly_scan.specs.Pieces.{EndIsDecided, IsUndecided, PassesOver, IsDecided}

-- a run halts where the next match isn't decided
halts_undecided : (ended : Bool) (p : ScanPart) (q : Place) → ended ≡ false → IsUndecided (scanner_in p) q
    → Halts ended p q
halts_undecided false p q e undecided = undecided
halts_undecided true p q e undecided = absurd cc

-- and at the end of the text
pub halts_at_end : (ended : Bool) (p : ScanPart) (q : Place) → EndIsDecided ended (scanner_in p) q Clean
    → Halts ended p q
halts_at_end true p q ends = sym (append-nil q.rest) ∙ ends [] (λ e. refl)
halts_at_end false p q ends = absurd
    (let none = ap length (ends (0 ∷ []) (anything_follows (0 ∷ []))) in
    omega (arith, none, length-append q.rest (0 ∷ [])))

-- what a lexer finds is what its set's scanner has there
pub fast_there : (ended : Bool) (p : ScanPart) (l : Lexer) (q : Place) (o : Option Lexeme) (t : Lexeme) → IsLexerOf p l
    → MatchOption o ((ended ≡ false) × IsUndecided (scanner_of l.scanner) q)
    (IsDecided ended (scanner_of l.scanner) q) → o ≡ Some t → IsDecided ended (scanner_in p) q t
fast_there ended p l q (Some x) t is found at =
    let same : x ≡ t = cc in
    subst (IsDecided ended (scanner_in p) q) same (subst (λ s. IsDecided ended s q x) is.scanner found)
fast_there ended p l q None t is found at = absurd cc

pub undecided_there : (ended : Bool) (p : ScanPart) (l : Lexer) (q : Place) (o : Option Lexeme) → IsLexerOf p l
    → MatchOption o ((ended ≡ false) × IsUndecided (scanner_of l.scanner) q)
    (IsDecided ended (scanner_of l.scanner) q) → o ≡ None → Halts ended p q
undecided_there ended p l q None is found at =
    halts_undecided ended p q found.0 (subst (λ s. IsUndecided s q) is.scanner found.1)
undecided_there ended p l q (Some x) is found at = absurd cc

module _ (ended : Bool) (p : ScanPart) (m : Machine) (w : Progress) where
  -- it goes on behind what is passed over
  pub over : (l : Lexer) (q r : Place) (s : Parse) → IsLexerOf p l → Onward ended p m w (progress_of q s)
      → PassesOver (scanner_of l.scanner) l.passed q r → Onward ended p m w (progress_of r s)
  over l q r s is on passes = onward_on ended p m on (passed_onward ended p m (progress_of q s) l.passed is.passed
      (subst (λ x. PassesOver x l.passed q r) is.scanner passes))

  -- no rule matches there
  pub stuck : (l : Lexer) (q : Place) (s : Parse) (e : End) (b : ℕ) → IsLexerOf p l
      → Onward ended p m w (progress_of q s) → EndIsDecided ended (scanner_of l.scanner) q e → e ≡ Stuck b
      → IsSettled ended p m w (unmatched b)
  stuck l q s e b is on ends at = settled_on ended p m (unmatched b) fed_in_one_way on
      (settled_stuck ended p m (progress_of q s) b (subst (λ x. EndIsDecided ended (scanner_in p) q x) at
      (subst (λ x. EndIsDecided ended x q e) is.scanner ends)))

  -- or a cut leaves no byte or more than the match has
  pub cut : (l : Lexer) (q : Place) (s : Parse) (e : End) (b : ℕ) → IsLexerOf p l
      → Onward ended p m w (progress_of q s) → EndIsDecided ended (scanner_of l.scanner) q e → e ≡ BadCut b
      → IsSettled ended p m w faulty
  cut l q s e b is on ends at = settled_on ended p m faulty fed_in_one_way on
      (settled_cut ended p m (progress_of q s) b (subst (λ x. EndIsDecided ended (scanner_in p) q x) at
      (subst (λ x. EndIsDecided ended x q e) is.scanner ends)))

  -- what is settled behind decided matches
  pub settled_there : (q : Place) (s : Parse) (v : Verdict) → Onward ended p m w (progress_of q s)
      → IsSettled ended p m (progress_of q s) v → IsSettled ended p m w v
  settled_there q s v on settled = settled_on ended p m v fed_in_one_way on settled

-- where a run halts before the end of the text
pub halts_here : (p : ScanPart) (m : Machine) (w : Progress) (r : Parse) (h : Halt) (q : Place) {k : Machine}
    → k ≡ m → IsRunOn false p k w r (Ok h) → h ≡ At q
    → Onward false p m w (progress_of q r) × IsUndecided (scanner_in p) q × (r.over ≡ false)
halts_here p m w r h q {k} same run is =
    subst (λ x. IsRunOn false p m w r (Ok x)) is (subst (λ x. IsRunOn false p x w r (Ok h)) same run)
