-- Tables whose parser's runs end say something of whatever is left of a text.
use Rattle.std.proofs.Common.{◌≡◌, ◌∙◌, ◌⊎◌, inl, inr, ℕ, ◌+◌, ◌<◌, ◌≤◌, List, [], ◌∷◌, ◌++◌, All, Option, Some, None}
use Rattle.std.proofs.Common.{ap, arith, drop, length, refl, take}
use Rattle.std.proofs.lemmas.List.Elements.{All-cons, All-head, All-tail}
use Rattle.ly_base.specs.Lexed.{Token, token_if, tokens_from}
use Rattle.ly_base.specs.declared.lexeme.End.{End}
use Rattle.ly_base.specs.declared.lexeme.End.TheVariants.{BadCut, Clean, Stuck}
use Rattle.ly_base.specs.declared.lexeme.Lexeme.{Lexeme}
use Rattle.ly_feed.proofs.ReturnedLemmas.{returned}
use Rattle.ly_feed.proofs.FeedingLemmas.{accepts_end}
use Rattle.ly_scan.proofs.LexingLemmas.{lexes}
use Rattle.ly_feed.proofs.RestLemmas.{fed_behind}
use Rattle.ly_feed.specs.Laws.{HasSomeVerdict}
use Rattle.ly_feed.specs.Closed.{CanRun}
use Rattle.ly_feed.specs.ScanPart.{ScanPart, condition_in, scan_part_of, scanner_in, terminal_in}
use Rattle.ly_feed.specs.TableAnswer.{AreTokens, Comes, IsSaidFrom, Progress, begun, end_of, fed_with}
use Rattle.ly_feed.specs.Verdict.{Verdict, accepted, faulty, refused, unmatched}
use Rattle.ly_pack.specs.Machine.{Machine, IsMachine}
use Rattle.ly_pack.specs.Steady.{IsSteady}
use Rattle.ly_pack.specs.SteadyLaws.{IsStack, bottom}
use Rattle.ly_parse.specs.Feeding.{Fed, Feeds, Level, pushed, states_on}
use Rattle.ly_parse.specs.Feeding as fed
use Rattle.ly_parse.specs.Reading.{ReadsTokens, at_end, onward}
use Rattle.ly_parse.proofs.ExpectedListLemmas.{are_listed}
use Rattle.ly_parse.proofs.SettlingLemmas.{end_not_read, settles_on_steady, stack_kept}
use Rattle.ly_tables.specs.TableSet.{machine_of}

-- the terminals that may be returned
abbrev IsReturned : Machine → Token ℕ → Type 0
IsReturned m t = (1 ≤ t.terminal) × (t.terminal < m.terminals)

-- the terminals of tokens are such, if all that may be named are
all_returned : (m : Machine) (naming : ℕ → List ℕ → Option ℕ)
    → ((i : ℕ) (bytes : List ℕ) (t : ℕ) → naming i bytes ≡ Some t → (1 ≤ t) × (t < m.terminals))
    → (at : ℕ) (rest : List ℕ) (ts : List Lexeme) → All (IsReturned m) (tokens_from naming at rest ts)
all_returned m naming named at rest [] = λ k d lt. absurd (omega (arith, lt))
all_returned m naming named at rest (t ∷ ts) =
    by_name _ (naming t.rule.0 (take t.taken rest)) refl
    (all_returned m naming named (at + t.taken) (drop t.taken rest) ts)
  where
    by_name : (others : List (Token ℕ)) (o : Option ℕ) → naming t.rule.0 (take t.taken rest) ≡ o
        → All (IsReturned m) others → All (IsReturned m) (token_if o at (take t.taken rest) ++ others)
    by_name others None e more = more
    by_name others (Some k) e more = All-cons (IsReturned m)
        (record { terminal = k; at = at; bytes = take t.taken rest }) others
        (named t.rule.0 (take t.taken rest) k e) more

module _ (m : Machine) where
  -- All tokens are read.
  record AreRead (levels : List Level) (tokens : List (Token ℕ)) : Type 0 where
    last : List Level
    reads : ReadsTokens m levels tokens last
    edges : IsStack m (states_on last)

  -- What becomes of a token that isn't read: it is refused, or the tables are at fault.
  abbrev IsHalt : Fed → Type 0
  IsHalt fed.refused = Unit {0}
  IsHalt fed.faulty = Unit {0}
  IsHalt _ = ⊥

  -- All tokens before one are read, and that isn't.
  record HaltsAt (levels : List Level) (tokens : List (Token ℕ)) : Type 0 where
    before : List (Token ℕ)
    token : Token ℕ
    behind : List (Token ℕ)
    split : tokens ≡ before ++ token ∷ behind
    last : List Level
    reads : ReadsTokens m levels before last
    out : Fed
    edges : IsStack m (states_on last)
    feeds : Feeds m token last out
    halt : IsHalt out

  behind_one : (levels next : List Level) (t : Token ℕ) (tokens : List (Token ℕ)) → Feeds m t levels (pushed next)
      → AreRead next tokens ⊎ HaltsAt next tokens → AreRead levels (t ∷ tokens) ⊎ HaltsAt levels (t ∷ tokens)
  behind_one levels next t tokens first (inl r) = inl (record {
    last = r.last;
    reads = onward first r.reads;
    edges = r.edges;
  })
  behind_one levels next t tokens first (inr h) = inr (record {
    before = t ∷ h.before;
    token = h.token;
    behind = h.behind;
    split = ap (λ ts. t ∷ ts) h.split;
    last = h.last;
    reads = onward first h.reads;
    out = h.out;
    edges = h.edges;
    feeds = h.feeds;
    halt = h.halt;
  })

  -- tokens are read as far as it goes
  read_or_halt : IsMachine m → IsSteady m → (tokens : List (Token ℕ)) (levels : List Level)
      → All (IsReturned m) tokens → IsStack m (states_on levels) → AreRead levels tokens ⊎ HaltsAt levels tokens
  read_or_halt is calm [] levels all edges = inl (record { last = levels; reads = at_end; edges = edges })
  read_or_halt is calm (t ∷ tokens) levels all edges =
      let one = All-head (IsReturned m) t tokens all in
      let it = settles_on_steady m t levels calm one.1 edges in
      by_out it.0 it.1
      (λ next still. read_or_halt is calm tokens next (All-tail (IsReturned m) t tokens all) still)
    where
      halts : (out : Fed) → Feeds m t levels out → IsHalt out → HaltsAt levels (t ∷ tokens)
      halts out feeds halt = record {
        before = [];
        token = t;
        behind = tokens;
        split = refl;
        last = levels;
        reads = at_end;
        out = out;
        edges = edges;
        feeds = feeds;
        halt = halt;
      }

      by_out : (out : Fed) → Feeds m t levels out
          → ((next : List Level) → IsStack m (states_on next) → AreRead next tokens ⊎ HaltsAt next tokens)
          → AreRead levels (t ∷ tokens) ⊎ HaltsAt levels (t ∷ tokens)
      by_out (pushed next) feeds more = behind_one levels next t tokens feeds (more next (stack_kept m t feeds edges))
      by_out (fed.done d) feeds more =
          let one = All-head (IsReturned m) t tokens all in
          let end = accepts_end is feeds in
          absurd (omega (arith, one.0, end))
      by_out fed.refused feeds more = inr (halts fed.refused feeds tt)
      by_out fed.faulty feeds more = inr (halts fed.faulty feeds tt)

module _ (p : ScanPart) (m : Machine) (w : Progress) (end : Token ℕ) where
  abbrev Says : Type 0
  Says = (v : Verdict) × IsSaidFrom p m w end v

  -- what is said of a token that isn't read
  said_of : IsSteady m → (before : List (Token ℕ)) (t : Token ℕ) (out : Fed) → IsHalt m out
      → (comes : Comes p m w end before t out) → IsStack m (states_on comes.last) → Says
  said_of calm before t fed.refused halt comes edges =
      let list = are_listed m comes.last calm edges in
      (refused (w.count + length before + 1) t list.0, (before, comes, refl, list.1))
  said_of calm before t fed.faulty halt comes edges = (faulty, inl (before, t, comes))
  said_of calm before t (fed.done d) halt comes edges = absurd halt
  said_of calm before t (pushed next) halt comes edges = absurd halt

  -- a token of the text isn't read
  halted : IsSteady m → (tokens : List (Token ℕ)) (e : End) → AreTokens p w.place tokens e
      → HaltsAt m w.stack tokens → Says
  halted calm tokens e are h = said_of calm h.before h.token h.out h.halt (record {
    tokens = tokens;
    e = e;
    are_tokens = are;
    behind = fed_with end h.behind e;
    split = ap (λ ts. fed_with end ts e) h.split ∙ (fed_behind end e h.before (h.token ∷ h.behind)
        ∙ ap (λ ts. h.before ++ ts) (fed_behind end e (h.token ∷ []) h.behind));
    last = h.last;
    reads = h.reads;
    feeds = h.feeds;
  }) h.edges

  -- all are read, and then the end
  closed : CanRun p m → end.terminal ≡ 0 → (tokens : List (Token ℕ)) → AreTokens p w.place tokens Clean
      → AreRead m w.stack tokens → Says
  closed can is_end tokens are r =
      let some = can.terminals in
      let it = settles_on_steady m end r.last can.steady (omega (arith, is_end, some)) r.edges in
      by_out it.0 it.1
    where
      comes : (out : Fed) → Feeds m end r.last out → Comes p m w end tokens end out
      comes out feeds = record {
        tokens = tokens;
        e = Clean;
        are_tokens = are;
        behind = [];
        split = refl;
        last = r.last;
        reads = r.reads;
        feeds = feeds;
      }

      by_out : (out : Fed) → Feeds m end r.last out → Says
      by_out (pushed next) feeds = absurd (end_not_read m end can.machine is_end feeds)
      by_out (fed.done d) feeds = (
        accepted d,
        (record { tokens = tokens; are_tokens = are; last = r.last; reads = r.reads }, feeds),
      )
      by_out fed.refused feeds = said_of can.steady tokens end fed.refused tt (comes fed.refused feeds) r.edges
      by_out fed.faulty feeds = said_of can.steady tokens end fed.faulty tt (comes fed.faulty feeds) r.edges

  -- all are read, and the scanner's run ends so
  ended : CanRun p m → end.terminal ≡ 0 → (tokens : List (Token ℕ)) (e : End) → AreTokens p w.place tokens e
      → AreRead m w.stack tokens → Says
  ended can is_end tokens Clean are r = closed can is_end tokens are r
  ended can is_end tokens (Stuck byte) are r
      = (unmatched byte, record { tokens = tokens; are_tokens = are; last = r.last; reads = r.reads })
  ended can is_end tokens (BadCut byte) are r
      = (faulty, inr (byte, record { tokens = tokens; are_tokens = are; last = r.last; reads = r.reads }))

  -- something is said
  pub some_verdict : CanRun p m → end.terminal ≡ 0 → IsStack m (states_on w.stack) → Says
  some_verdict can is_end edges =
      let q = w.place in
      let on = lexes (scanner_in p) (condition_in p) (length q.rest) q (omega arith) in
      let tokens = tokens_from (terminal_in p) q.at q.rest on.0 in
      let are : AreTokens p q tokens on.1
      = record { lexemes = on.0; lexed = on.2; are_of_lexemes = refl } in
      by_run tokens on.1 are (read_or_halt m can.machine can.steady tokens w.stack
      (all_returned m (terminal_in p) can.returned q.at q.rest on.0) edges)
    where
      by_run : (tokens : List (Token ℕ)) (e : End) → AreTokens p w.place tokens e
          → AreRead m w.stack tokens ⊎ HaltsAt m w.stack tokens → Says
      by_run tokens e are (inl r) = ended can is_end tokens e are r
      by_run tokens e are (inr h) = halted can.steady tokens e are h

-- of a whole text a table set says something
pub has_some_verdict : HasSomeVerdict
has_some_verdict w counts s within steady text =
    some_verdict (scan_part_of s) (machine_of s) (begun text) (end_of text) (record {
      machine = within.machine;
      steady = steady;
      terminals = (let two = within.terminals in omega (arith, two));
      returned = returned w counts s within;
    }) refl bottom
