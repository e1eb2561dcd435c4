-- What is said before a lexeme and behind it.
use Rattle.std.proofs.Common.{◌≡◌, ◌∙◌, ◌+◌, ℕ, List, [], ◌∷◌, ◌++◌, None, ap, append_assoc, arith, drop, inl, inr}
use Rattle.std.proofs.Common.{length, length-append, refl, subst, sym, take}
use Rattle.ly_base.specs.Lexed.{Lexed, Place, Token, place_after, token_if, tokens_from}
use Rattle.ly_base.specs.declared.lexeme.End.{End}
use Rattle.ly_base.specs.declared.lexeme.End.TheVariants.{BadCut, Clean, Stuck}
use Rattle.ly_base.specs.declared.lexeme.Lexeme.{Lexeme}
use Rattle.ly_feed.proofs.ReadingLemmas.{IsStop, reads_behind, reads_on, stops_behind}
use Rattle.ly_feed.specs.Onward.{IsTokenAt, passed_on, read_on}
use Rattle.ly_feed.specs.ScanPart.{ScanPart, condition_in, scanner_in, terminal_in}
use Rattle.ly_feed.specs.TableAnswer.{AreTokens, Comes, IsSaidFrom, Progress, ReadsAll, fed_with}
use Rattle.ly_feed.specs.Verdict.{Verdict, accepted, faulty, refused, unmatched}
use Rattle.ly_pack.specs.Machine.{Machine}
use Rattle.ly_parse.specs.Expected.{AreExpected}
use Rattle.ly_parse.specs.Feeding.{Fed, Feeds, Level, pushed, states_on}
use Rattle.ly_parse.specs.Feeding as fed
use Rattle.ly_parse.specs.FeedingLaws.{FeedsInOneWay}
use Rattle.ly_parse.specs.Reading.{ReadsTokens, at_end, onward}
use Rattle.ly_scan.proofs.OneLexingLemmas.{no_end, one_lexeme}
use Rattle.ly_scan.specs.Lexer.{IsLexemeAt, ScanEndsAt}

-- the end comes behind the last of the tokens
pub fed_behind : (end : Token ℕ) (e : End) (ts us : List (Token ℕ))
    → fed_with end (ts ++ us) e ≡ ts ++ fed_with end us e
fed_behind end Clean ts us = append_assoc ts us (end ∷ [])
fed_behind end (Stuck b) ts us = refl
fed_behind end (BadCut b) ts us = refl

module _ (p : ScanPart) (m : Machine) where
  -- the token of a lexeme at a place, if it has one
  abbrev pub token_here : Place → Lexeme → List (Token ℕ)
  token_here q t = token_if (terminal_in p t.rule.0 (take t.taken q.rest)) q.at (take t.taken q.rest)

  pub no_token : (q : Place) (t : Lexeme) → terminal_in p t.rule.0 (take t.taken q.rest) ≡ None → token_here q t ≡ []
  no_token q t none = ap (λ o. token_if o q.at (take t.taken q.rest)) none

  pub one_token : (q : Place) (t : Lexeme) (token : Token ℕ) → IsTokenAt p q t token → token_here q t ≡ token ∷ []
  one_token q t token is = ap (λ bytes. token_if (terminal_in p t.rule.0 bytes) q.at bytes) (sym is.bytes)
      ∙ (ap (λ o. token_if o q.at token.bytes) is.terminal
      ∙ ap (λ a. (let x : Token ℕ = record { terminal = token.terminal; at = a; bytes = token.bytes } in x) ∷ [])
      (sym is.at))

  -- A lexeme leads from the one to the other: the parser reads its token, if it has one.
  pub record IsStep (w : Progress) (t : Lexeme) (u : Progress) : Type 0 where
    pub is : IsLexemeAt (scanner_in p) w.place t
    pub place : u.place ≡ place_after (condition_in p) w.place t
    pub reads : ReadsTokens m w.stack (token_here w.place t) u.stack
    pub count : u.count ≡ w.count + length (token_here w.place t)

  -- it has none
  pub passing : (w : Progress) (t : Lexeme) → IsLexemeAt (scanner_in p) w.place t
      → terminal_in p t.rule.0 (take t.taken w.place.rest) ≡ None → IsStep w t (passed_on p w t)
  passing w t is none =
      let nothing = no_token w.place t none in
      record {
        is = is;
        place = refl;
        reads = subst (λ ts. ReadsTokens m w.stack ts w.stack) (sym nothing) at_end;
        count = omega (arith, ap length nothing);
      }

  -- it has one, which is read
  pub reading : (w : Progress) (t : Lexeme) (token : Token ℕ) (next : List Level)
      → IsLexemeAt (scanner_in p) w.place t → IsTokenAt p w.place t token → Feeds m token w.stack (pushed next)
      → IsStep w t (read_on p w t next)
  reading w t token next is here fed =
      let one = one_token w.place t token here in
      record {
        is = is;
        place = refl;
        reads = subst (λ ts. ReadsTokens m w.stack ts next) (sym one) (onward fed at_end);
        count = omega (arith, ap length one);
      }

  module _ (w u : Progress) (t : Lexeme) (step : IsStep w t u) where
    -- the lexemes behind one, and it
    tokens_front : (ts : List (Token ℕ)) (e : End) → AreTokens p u.place ts e
        → AreTokens p w.place (token_here w.place t ++ ts) e
    tokens_front ts e a =
        let on = subst (λ q. AreTokens p q ts e) step.place a in
        record {
          lexemes = t ∷ on.lexemes;
          lexed = (step.is, on.lexed);
          are_of_lexemes = ap (λ us. token_here w.place t ++ us) on.are_of_lexemes;
        }

    all_front : (e : End) → ReadsAll p m u e → ReadsAll p m w e
    all_front e r = record {
      tokens = token_here w.place t ++ r.tokens;
      are_tokens = tokens_front r.tokens e r.are_tokens;
      last = r.last;
      reads = reads_on step.reads r.reads;
    }

    comes_front : (end : Token ℕ) (before : List (Token ℕ)) (x : Token ℕ) (out : Fed) → Comes p m u end before x out
        → Comes p m w end (token_here w.place t ++ before) x out
    comes_front end before x out c = record {
      tokens = token_here w.place t ++ c.tokens;
      e = c.e;
      are_tokens = tokens_front c.tokens c.e c.are_tokens;
      behind = c.behind;
      split = fed_behind end c.e (token_here w.place t) c.tokens
          ∙ (ap (λ ts. token_here w.place t ++ ts) c.split
          ∙ sym (append_assoc (token_here w.place t) before (x ∷ c.behind)));
      last = c.last;
      reads = reads_on step.reads c.reads;
      feeds = c.feeds;
    }

    -- what is said behind a lexeme is said before it
    pub said_front : (end : Token ℕ) (v : Verdict) → IsSaidFrom p m u end v → IsSaidFrom p m w end v
    unfolding all_front comes_front
    said_front end (accepted d) (r, fed) = (all_front Clean r, fed)
    said_front end (refused k x ts) (before, c, counted, list) = (
      token_here w.place t ++ before,
      comes_front end before x fed.refused c,
      omega (arith, counted, step.count, length-append (token_here w.place t) before),
      list,
    )
    said_front end (unmatched b) r = all_front (Stuck b) r
    said_front end faulty (inl (before, x, c))
        = inl (token_here w.place t ++ before, x, comes_front end before x fed.faulty c)
    said_front end faulty (inr (b, r)) = inr (b, all_front (BadCut b) r)

    abbrev on_from : List Lexeme → Lexeme → List (Token ℕ)
    on_from ts l = tokens_from (terminal_in p) (w.place.at + l.taken) (drop l.taken w.place.rest) ts

    -- The tokens behind the lexeme's.
    record AreBehind (tokens : List (Token ℕ)) (e : End) : Type 0 where
      ts : List (Token ℕ)
      are : AreTokens p u.place ts e
      whole : tokens ≡ token_here w.place t ++ ts

    tokens_back : (tokens : List (Token ℕ)) (e : End) → AreTokens p w.place tokens e → AreBehind tokens e
    tokens_back tokens e a = by_lexemes a.lexemes a.lexed a.are_of_lexemes
      where
        by_lexemes : (ts : List Lexeme)
            → Lexed (IsLexemeAt (scanner_in p)) (ScanEndsAt (scanner_in p)) (condition_in p) w.place ts e
            → tokens ≡ tokens_from (terminal_in p) w.place.at w.place.rest ts → AreBehind tokens e
        by_lexemes [] ends same = absurd (no_end (scanner_in p) w.place t e step.is ends)
        by_lexemes (l ∷ ts) lexed same =
            let one = one_lexeme (scanner_in p) w.place l t lexed.0 step.is in
            record {
              ts = on_from ts t;
              are = subst (λ q. AreTokens p q (on_from ts t) e) (sym step.place) (record {
                lexemes = ts;
                lexed = subst (λ x. Lexed (IsLexemeAt (scanner_in p)) (ScanEndsAt (scanner_in p)) (condition_in p)
                    (place_after (condition_in p) w.place x) ts e) one lexed.1;
                are_of_lexemes = refl;
              });
              whole = same ∙ ap (λ x. token_here w.place x ++ on_from ts x) one;
            }

    all_back : (e : End) → FeedsInOneWay → ReadsAll p m w e → ReadsAll p m u e
    all_back e way r =
        let on = tokens_back r.tokens e r.are_tokens in
        record {
          tokens = on.ts;
          are_tokens = on.are;
          last = r.last;
          reads = reads_behind on.ts way step.reads (subst (λ ts. ReadsTokens m w.stack ts r.last) on.whole r.reads);
        }

    -- Where the tables stop at a token, they have read the lexeme's before.
    record ComesOn (end : Token ℕ) (before : List (Token ℕ)) (x : Token ℕ) (out : Fed) (last : List Level) : Type 0
      where
        between : List (Token ℕ)
        whole : before ≡ token_here w.place t ++ between
        comes : Comes p m u end between x out
        same : last ≡ comes.last

    comes_back : (end : Token ℕ) (before : List (Token ℕ)) (x : Token ℕ) (out : Fed) → FeedsInOneWay → IsStop out
        → (c : Comes p m w end before x out) → ComesOn end before x out c.last
    comes_back end before x out way stop c =
        let on = tokens_back c.tokens c.e c.are_tokens in
        let split : token_here w.place t ++ fed_with end on.ts c.e ≡ before ++ x ∷ c.behind
        = sym (fed_behind end c.e (token_here w.place t) on.ts)
        ∙ (ap (λ ts. fed_with end ts c.e) (sym on.whole) ∙ c.split) in
        let it = stops_behind x (fed_with end on.ts c.e) c.behind out way step.reads c.reads c.feeds stop split in
        record {
          between = it.between;
          whole = it.whole;
          comes = record {
            tokens = on.ts;
            e = c.e;
            are_tokens = on.are;
            behind = c.behind;
            split = it.split;
            last = c.last;
            reads = it.reads;
            feeds = c.feeds;
          };
          same = refl;
        }

    -- and what is said before it is said behind it
    pub said_back : (end : Token ℕ) (v : Verdict) → FeedsInOneWay → IsSaidFrom p m w end v → IsSaidFrom p m u end v
    unfolding all_back
    said_back end (accepted d) way (r, fed) = (all_back Clean way r, fed)
    said_back end (refused k x ts) way (before, c, counted, list) =
        let on = comes_back end before x fed.refused way tt c in (
          on.between,
          on.comes,
          omega (arith, counted, step.count, ap length on.whole, length-append (token_here w.place t) on.between),
          subst (λ levels. AreExpected m (states_on levels) ts) on.same list,
        )
    said_back end (unmatched b) way r = all_back (Stuck b) way r
    said_back end faulty way (inl (before, x, c)) =
        let on = comes_back end before x fed.faulty way tt c in inl (on.between, x, on.comes)
    said_back end faulty way (inr (b, r)) = inr (b, all_back (BadCut b) way r)
