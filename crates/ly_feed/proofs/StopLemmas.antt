-- What is said where a run stops.
use Rattle.std.proofs.Common.{◌≡◌, ◌∙◌, ◌+◌, ℕ, List, [], ◌∷◌, ◌++◌, ap, arith, inl, inr, length, refl}
use Rattle.ly_base.specs.Lexed.{Token, place_after, tokens_from}
use Rattle.ly_base.specs.declared.lexeme.End.{End}
use Rattle.ly_base.specs.declared.lexeme.End.TheVariants.{BadCut, Clean, Stuck}
use Rattle.ly_base.specs.declared.lexeme.Lexeme.{Lexeme}
use Rattle.ly_feed.proofs.RestLemmas.{fed_behind, one_token}
use Rattle.ly_feed.specs.Onward.{IsTokenAt}
use Rattle.ly_feed.specs.ScanPart.{ScanPart, condition_in, scanner_in, terminal_in}
use Rattle.ly_feed.specs.TableAnswer.{Comes, IsSaidFrom, Progress, ReadsAll, fed_with}
use Rattle.ly_feed.specs.Verdict.{accepted, faulty, refused, unmatched}
use Rattle.ly_pack.specs.Machine.{Machine}
use Rattle.ly_parse.specs.Expected.{AreExpected}
use Rattle.ly_parse.specs.Feeding.{Fed, Feeds, states_on}
use Rattle.ly_parse.specs.Feeding as fed
use Rattle.ly_parse.specs.Reading.{at_end}
use Rattle.ly_scan.proofs.LexingLemmas.{lexes}
use Rattle.ly_scan.specs.Lexer.{IsLexemeAt, ScanEndsAt}
use Rattle.ly_tree.specs.Term.{Term}

module _ (p : ScanPart) (m : Machine) (w : Progress) (end : Token ℕ) where
  -- this becomes of the first token
  comes_here : (t : Lexeme) (token : Token ℕ) (out : Fed) → IsLexemeAt (scanner_in p) w.place t
      → IsTokenAt p w.place t token → Feeds m token w.stack out → Comes p m w end [] token out
  comes_here t token out is here feeds =
      let next = place_after (condition_in p) w.place t in
      let on = lexes (scanner_in p) (condition_in p) (length next.rest) next (omega arith) in
      let behind = tokens_from (terminal_in p) next.at next.rest on.0 in
      record {
        tokens = tokens_from (terminal_in p) w.place.at w.place.rest (t ∷ on.0);
        e = on.1;
        are_tokens = record { lexemes = t ∷ on.0; lexed = (is, on.2); are_of_lexemes = refl };
        behind = fed_with end behind on.1;
        split = ap (λ ts. fed_with end (ts ++ behind) on.1) (one_token p m w.place t token here)
            ∙ fed_behind end on.1 (token ∷ []) behind;
        last = w.stack;
        reads = at_end;
        feeds = feeds;
      }

  -- the scanner's run ends here
  reads_all : (e : End) → ScanEndsAt (scanner_in p) w.place e → ReadsAll p m w e
  reads_all e ends = record {
    tokens = [];
    are_tokens = record { lexemes = []; lexed = ends; are_of_lexemes = refl };
    last = w.stack;
    reads = at_end;
  }

  -- and this becomes of the end
  comes_last : (out : Fed) → w.place.rest ≡ [] → Feeds m end w.stack out → Comes p m w end [] end out
  comes_last out ends feeds = record {
    tokens = [];
    e = Clean;
    are_tokens = record { lexemes = []; lexed = ends; are_of_lexemes = refl };
    behind = [];
    split = refl;
    last = w.stack;
    reads = at_end;
    feeds = feeds;
  }

  -- the first token is refused, and these terminals are expected in its place
  pub refuses_here : (t : Lexeme) (token : Token ℕ) (ts : List ℕ) → IsLexemeAt (scanner_in p) w.place t
      → IsTokenAt p w.place t token → Feeds m token w.stack fed.refused → AreExpected m (states_on w.stack) ts
      → IsSaidFrom p m w end (refused (w.count + 1) token ts)
  unfolding comes_here
  refuses_here t token ts is here feeds list
      = ([], comes_here t token fed.refused is here feeds, omega arith, list)

  -- the tables are at fault on it
  pub fails_here : (t : Lexeme) (token : Token ℕ) → IsLexemeAt (scanner_in p) w.place t → IsTokenAt p w.place t token
      → Feeds m token w.stack fed.faulty → IsSaidFrom p m w end faulty
  fails_here t token is here feeds = inl ([], token, comes_here t token fed.faulty is here feeds)

  -- no rule matches
  pub sticks : (b : ℕ) → ScanEndsAt (scanner_in p) w.place (Stuck b) → IsSaidFrom p m w end (unmatched b)
  sticks b ends = reads_all (Stuck b) ends

  -- a cut leaves no byte or more than the match has
  pub cuts_badly : (b : ℕ) → ScanEndsAt (scanner_in p) w.place (BadCut b) → IsSaidFrom p m w end faulty
  cuts_badly b ends = inr (b, reads_all (BadCut b) ends)

  -- nothing is left, and what was read is accepted
  pub accepts_last : (d : Term) → w.place.rest ≡ [] → Feeds m end w.stack (fed.done d)
      → IsSaidFrom p m w end (accepted d)
  unfolding reads_all
  accepts_last d ends feeds = (reads_all Clean ends, feeds)

  -- the end is refused
  pub refuses_last : (ts : List ℕ) → w.place.rest ≡ [] → Feeds m end w.stack fed.refused
      → AreExpected m (states_on w.stack) ts → IsSaidFrom p m w end (refused (w.count + 1) end ts)
  unfolding comes_last
  refuses_last ts ends feeds list = ([], comes_last fed.refused ends feeds, omega arith, list)

  -- the tables are at fault on it
  pub fails_last : w.place.rest ≡ [] → Feeds m end w.stack fed.faulty → IsSaidFrom p m w end faulty
  fails_last ends feeds = inl ([], end, comes_last fed.faulty ends feeds)
