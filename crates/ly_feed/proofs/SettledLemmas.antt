-- What is settled where a run stops, whatever comes.
use Rattle.std.proofs.Common.{◌≡◌, ◌∙◌, ◌+◌, ◌≤◌, ℕ, List, [], ap, length, subst, sym}
use Rattle.std.specs.Prelude.{Bool, true}
use Rattle.std.proofs.lemmas.List.{take-append-le}
use Rattle.ly_base.specs.Lexed.{Place, Token}
use Rattle.ly_base.specs.declared.lexeme.End.TheVariants.{BadCut, Stuck}
use Rattle.ly_base.specs.declared.lexeme.Lexeme.{Lexeme}
use Rattle.ly_feed.proofs.OnwardLemmas.{behind_none}
use Rattle.ly_feed.proofs.StopLemmas.{cuts_badly, fails_here, refuses_here, sticks}
use Rattle.ly_feed.specs.Onward.{IsSettled, IsTokenAt}
use Rattle.ly_feed.specs.ScanPart.{ScanPart, scanner_in}
use Rattle.ly_feed.specs.TableAnswer.{IsRest, Progress, end_at, with_more}
use Rattle.ly_feed.specs.Verdict.{Verdict, faulty, refused, unmatched}
use Rattle.ly_pack.specs.Machine.{Machine}
use Rattle.ly_parse.specs.Expected.{AreExpected}
use Rattle.ly_parse.specs.Feeding.{Feeds, states_on}
use Rattle.ly_parse.specs.Feeding as fed
use Rattle.ly_scan.specs.Pieces.{EndIsDecided, IsDecided, behind}

-- nothing comes
pub nothing_more : (w : Progress) (more : List ℕ) → more ≡ [] → with_more w more ≡ w
nothing_more w more none = λ i. record {
  place = (ap (behind w.place) none ∙ behind_none w.place) i;
  stack = w.stack;
  count = w.count;
}

module _ (ended : Bool) (p : ScanPart) (m : Machine) where
  -- a token of a match that is decided
  token_behind : (q : Place) (t : Lexeme) (token : Token ℕ) (more : List ℕ) → t.taken ≤ length q.rest
      → IsTokenAt p q t token → IsTokenAt p (behind q more) t token
  token_behind q t token more within here = record {
    at = here.at;
    bytes = here.bytes ∙ sym (take-append-le t.taken q.rest more within);
    terminal = here.terminal;
  }

  module _ (w : Progress) where
    -- the token of a match that is decided is refused, and these terminals are expected in its place
    pub settled_refused : (t : Lexeme) (token : Token ℕ) (ts : List ℕ) → IsDecided ended (scanner_in p) w.place t
        → IsTokenAt p w.place t token → Feeds m token w.stack fed.refused → AreExpected m (states_on w.stack) ts
        → IsSettled ended p m w (refused (w.count + 1) token ts)
    settled_refused t token ts fast here feeds list more can =
        refuses_here p m (with_more w more) (end_at (behind w.place more)) t token ts (fast.is more can)
        (token_behind w.place t token more fast.within here) feeds list

    -- the tables are at fault on it
    pub settled_fault : (t : Lexeme) (token : Token ℕ) → IsDecided ended (scanner_in p) w.place t
        → IsTokenAt p w.place t token → Feeds m token w.stack fed.faulty → IsSettled ended p m w faulty
    settled_fault t token fast here feeds more can =
        fails_here p m (with_more w more) (end_at (behind w.place more)) t token (fast.is more can)
        (token_behind w.place t token more fast.within here) feeds

    -- no rule matches
    pub settled_stuck : (b : ℕ) → EndIsDecided ended (scanner_in p) w.place (Stuck b)
        → IsSettled ended p m w (unmatched b)
    settled_stuck b ends more can
        = sticks p m (with_more w more) (end_at (behind w.place more)) b (ends more can)

    -- a cut leaves no byte or more than the match has
    pub settled_cut : (b : ℕ) → EndIsDecided ended (scanner_in p) w.place (BadCut b) → IsSettled ended p m w faulty
    settled_cut b ends more can
        = cuts_badly p m (with_more w more) (end_at (behind w.place more)) b (ends more can)

    -- the text has ended
    pub settled_at_end : (v : Verdict) → ended ≡ true → IsRest p m w v → IsSettled ended p m w v
    settled_at_end v is said more can = subst (λ x. IsRest p m x v) (sym (nothing_more w more (can is))) said
