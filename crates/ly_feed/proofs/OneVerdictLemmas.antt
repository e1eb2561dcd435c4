-- Tables say one thing of what is left of a text.
use Rattle.std.proofs.Common.{◌≡◌, ◌∙◌, ◌⊎◌, ◌+◌, inl, inr, ℕ, List, [], ap}
use Rattle.std.proofs.Common.{ap₂, length, refl, subst, sym}
use Rattle.ly_base.specs.Lexed.{Place, Token, tokens_from}
use Rattle.ly_base.specs.declared.lexeme.End.{End}
use Rattle.ly_base.specs.declared.lexeme.End.TheVariants.{BadCut, Clean, Stuck}
use Rattle.ly_feed.proofs.ReadingLemmas.{IsStop, not_all_read, one_stop}
use Rattle.ly_feed.specs.ScanPart.{ScanPart, condition_in, scanner_in, terminal_in}
use Rattle.ly_feed.specs.TableAnswer.{AreTokens, Comes, IsSaidFrom, Progress, ReadsAll, fed_with}
use Rattle.ly_feed.specs.Verdict.{Verdict, accepted, faulty, refused, unmatched}
use Rattle.ly_pack.specs.Machine.{Machine}
use Rattle.ly_parse.specs.Expected.{AreExpected}
use Rattle.ly_parse.specs.Feeding.{Fed, pushed, states_on}
use Rattle.ly_parse.specs.Feeding as fed
use Rattle.ly_parse.specs.FeedingLaws.{FeedsInOneWay}
use Rattle.ly_parse.proofs.ExpectedListLemmas.{one_list}
use Rattle.ly_scan.proofs.OneLexingLemmas.{one_lexing}

-- a text is taken apart into one list of tokens
pub one_tokens : (p : ScanPart) (q : Place) (ts us : List (Token ℕ)) (e d : End) → AreTokens p q ts e
    → AreTokens p q us d → (ts ≡ us) × (e ≡ d)
one_tokens p q ts us e d a b =
    let on = one_lexing (scanner_in p) (condition_in p) q a.lexemes b.lexemes e d a.lexed b.lexed in
    (a.are_of_lexemes ∙ (ap (tokens_from (terminal_in p) q.at q.rest) on.0 ∙ sym b.are_of_lexemes), on.1)

-- what is said where the tables stop at a token behind so many; where it is refused, these terminals are expected
abbrev said_of : ℕ → List (Token ℕ) → Token ℕ → List ℕ → Fed → Verdict
said_of count before t ts (fed.done d) = accepted d
said_of count before t ts fed.refused = refused (count + length before + 1) t ts
said_of count before t ts _ = faulty

-- of the terminals that are expected nothing is said where none is refused
said_alike : (count : ℕ) (before : List (Token ℕ)) (t : Token ℕ) (ts us : List ℕ) (out : Fed)
    → (out ≡ fed.refused → ts ≡ us) → said_of count before t ts out ≡ said_of count before t us out
said_alike count before t ts us (fed.done d) same = refl
said_alike count before t ts us fed.refused same = ap (refused (count + length before + 1) t) (same refl)
said_alike count before t ts us (pushed next) same = refl
said_alike count before t ts us fed.faulty same = refl

-- and where a run of the scanner ends before the end of the text
abbrev said_at : End → Verdict
said_at (Stuck byte) = unmatched byte
said_at _ = faulty

abbrev IsEarly : End → Type 0
IsEarly Clean = ⊥
IsEarly _ = Unit {0}

module _ (p : ScanPart) (m : Machine) (w : Progress) (end : Token ℕ) where
  -- The tables stop at a token.
  record Stops (v : Verdict) : Type 0 where
    before : List (Token ℕ)
    token : Token ℕ
    out : Fed
    comes : Comes p m w end before token out
    stop : IsStop out
    expected : List ℕ
    listed : out ≡ fed.refused → AreExpected m (states_on comes.last) expected
    said : v ≡ said_of w.count before token expected out

  -- All tokens are read, and the scanner's run ends before the end of the text.
  record Breaks (v : Verdict) : Type 0 where
    e : End
    all : ReadsAll p m w e
    early : IsEarly e
    said : v ≡ said_at e

  -- a verdict says one or the other
  seen : (v : Verdict) → IsSaidFrom p m w end v → Stops v ⊎ Breaks v
  seen (accepted d) h = inl (record {
    before = h.0.tokens;
    token = end;
    out = fed.done d;
    comes = record {
      tokens = h.0.tokens;
      e = Clean;
      are_tokens = h.0.are_tokens;
      behind = [];
      split = refl;
      last = h.0.last;
      reads = h.0.reads;
      feeds = h.1;
    };
    stop = tt;
    expected = [];
    listed = λ e. absurd (let off : fed.done d ≡ fed.refused → ⊥ = λ z. cc in off e);
    said = refl;
  })
  seen (refused k t ts) h = inl (record {
    before = h.0;
    token = t;
    out = fed.refused;
    comes = h.1;
    stop = tt;
    expected = ts;
    listed = λ e. h.3;
    said = ap (λ n. refused n t ts) h.2;
  })
  seen (unmatched byte) h = inr (record { e = Stuck byte; all = h; early = tt; said = refl })
  seen faulty (inl h) = inl (record {
    before = h.0;
    token = h.1;
    out = fed.faulty;
    comes = h.2;
    stop = tt;
    expected = [];
    listed = λ e. absurd (let off : fed.faulty ≡ fed.refused → ⊥ = λ z. cc in off e);
    said = refl;
  })
  seen faulty (inr h) = inr (record { e = BadCut h.0; all = h.1; early = tt; said = refl })

  -- early, a parser is fed with the tokens alone
  fed_early : (ts : List (Token ℕ)) (e : End) → IsEarly e → fed_with end ts e ≡ ts
  fed_early ts Clean h = absurd h
  fed_early ts (Stuck byte) h = refl
  fed_early ts (BadCut byte) h = refl

  both_stop : (v u : Verdict) → FeedsInOneWay → Stops v → Stops u → v ≡ u
  both_stop v u way a b =
      let x = a.comes in
      let y = b.comes in
      let same = one_tokens p w.place x.tokens y.tokens x.e y.e x.are_tokens y.are_tokens in
      let fed_same = sym x.split ∙ (ap₂ (λ ts e. fed_with end ts e) same.0 same.1 ∙ y.split) in
      let on = one_stop a.token b.token x.behind y.behind a.out b.out way x.reads x.feeds a.stop y.reads y.feeds b.stop
      fed_same in
      let lists = λ (r : b.out ≡ fed.refused). one_list m (states_on y.last) a.expected b.expected
      (subst (λ l. AreExpected m (states_on l) a.expected) on.3 (a.listed (on.2 ∙ r))) (b.listed r) in
      a.said ∙ (ap₂ (λ ts t. said_of w.count ts t a.expected a.out) on.0 on.1
      ∙ (ap (said_of w.count b.before b.token a.expected) on.2
      ∙ (said_alike w.count b.before b.token a.expected b.expected b.out lists ∙ sym b.said)))

  never_both : (v u : Verdict) → FeedsInOneWay → Stops v → Breaks u → ⊥
  never_both v u way a b =
      let x = a.comes in
      let y = b.all in
      let same = one_tokens p w.place x.tokens y.tokens x.e b.e x.are_tokens y.are_tokens in
      let fed_same = sym x.split ∙ (ap₂ (λ ts e. fed_with end ts e) same.0 same.1 ∙ fed_early y.tokens b.e b.early) in
      not_all_read a.token x.behind a.out way x.reads x.feeds a.stop y.reads fed_same

  -- one thing is said
  pub one_verdict : (v u : Verdict) → FeedsInOneWay → IsSaidFrom p m w end v → IsSaidFrom p m w end u → v ≡ u
  one_verdict v u way a b = by_seen (seen v a) (seen u b)
    where
      by_seen : Stops v ⊎ Breaks v → Stops u ⊎ Breaks u → v ≡ u
      by_seen (inl x) (inl y) = both_stop v u way x y
      by_seen (inl x) (inr y) = absurd (never_both v u way x y)
      by_seen (inr x) (inl y) = absurd (never_both u v way y x)
      by_seen (inr x) (inr y) = x.said
          ∙ (ap said_at (one_tokens p w.place x.all.tokens y.all.tokens x.e y.e x.all.are_tokens y.all.are_tokens).1
          ∙ sym y.said)
