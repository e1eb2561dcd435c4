-- Tables that are generated say of a text what the specification says of it.
use Rattle.std.proofs.Common.{◌≡◌, ◌∙◌, ◌<◌, ◌≤◌, ℕ, List, [], ◌∷◌, ◌++◌, All, ap, arith, inl, inr, length, map, refl}
use Rattle.std.proofs.Common.{append-nil, subst, sym}
use Rattle.std.specs.List.{AllZip}
use Rattle.std.proofs.lemmas.List.{length-map}
use Rattle.std.proofs.lemmas.List.Elements.{All-cons, All-head, All-tail}
use Rattle.ly_base.specs.Lexed.{Token, start_of, tokens_from}
use Rattle.ly_base.specs.Trees.{Occurs, Tree}
use Rattle.ly_base.specs.declared.lexeme.End.{End}
use Rattle.ly_base.specs.declared.lexeme.End.TheVariants.{BadCut, Clean, Stuck}
use Rattle.ly_base.specs.declared.version.Version.{Version}
use Rattle.ly_feed.specs.ScanPart.{condition_in, scan_part_of, scanner_in}
use Rattle.ly_feed.specs.TableAnswer.{AreTokens, Comes, IsVerdict, begun, end_of, fed_with}
use Rattle.ly_feed.specs.Verdict.{Verdict, accepted, faulty, refused, unmatched}
use Rattle.ly_emit.specs.Following.{bottom}
use Rattle.ly_emit.specs.Laws.{AreOf}
use Rattle.ly_emit.specs.Tables.{IsMachineOf, shape_in}
use Rattle.ly_emit.proofs.ExpectedLemmas.{expected_follow}
use Rattle.ly_emit.proofs.FollowLemmas.{tables_follow}
use Rattle.ly_emit.proofs.RuleShapeLemmas.{build_alike, shapes_are_of_rules}
use Rattle.ly_emit.proofs.RunLemmas.{accepted_follow, reads_follow, refused_follow}
use Rattle.ly_tokens.specs.RowWalk.{cut_in, row_walk}
use Rattle.ly_tokens.specs.Printing.{condition_set, naming}
use Rattle.ly_tokens.proofs.AgreementLemmas.{lexing_of}
use Rattle.ly_tokens.proofs.AnswerLemmas.{leaves_tokens}
use Rattle.ly_ere.specs.Names.{defined}
use Rattle.ly_generate.specs.Headline.{AnswersAreOfSpecification, IsGeneratedSet, TablesAnswerAsSpecified}
use Rattle.ly_generate.specs.SpecAnswer.{AreNext, AreTokensOf, IsNumberedToken, IsSpecVerdict}
use Rattle.ly_generate.proofs.ScannerLemmas.{lexed_under, same_run}
use Rattle.ly_generate.proofs.TokenLemmas.{all_below, numbered, same_conditions}
use Rattle.ly_generate.proofs.WalkLemmas.{same_cut, same_walk}
use Rattle.ly_generate.proofs.WordLemmas.{same_words}
use Rattle.ly_join.specs.Joined.{Spec}
use Rattle.ly_join.specs.Scanning.{IsScanAction, acting_of, scanning_of}
use Rattle.ly_lexread.specs.declared.file.LexFile.{LexFile}
use Rattle.ly_lr0.specs.Automaton.{Lr0Automaton}
use Rattle.ly_pack.specs.Machine.{Machine}
use Rattle.ly_pack.specs.SteadyLaws.{IsStack, bottom as alone}
use Rattle.ly_parse.specs.Expected.{AreExpected}
use Rattle.ly_parse.proofs.TreeFeeding.{accepted_terms_are_built, one_fault, one_refused, read_with_trees, same_states}
use Rattle.ly_parse.specs.Deriving.{Derives, shape_of_rule, states_below}
use Rattle.ly_parse.specs.Deriving as trees
use Rattle.ly_parse.specs.Feeding.{Feeds, Level, states_on}
use Rattle.ly_parse.specs.Feeding as fed
use Rattle.ly_parse.specs.Reading.{ReadsTokens, at_end, onward}
use Rattle.ly_parse.proofs.SettlingLemmas.{stack_kept}
use Rattle.ly_resolve.specs.Machine.{AcceptsWith, Leads, RefusesAfter, begin}
use Rattle.ly_resolve.specs.Precedence.{judge_of}
use Rattle.ly_resolve.proofs.AcceptedLemmas.{accepts_trees}
use Rattle.ly_scan.specs.Lexer.{Scanner}
use Rattle.ly_tables.specs.TableSet.{TableSet, machine_of}
use Rattle.ly_tree.specs.Term.{Term, build}
use Rattle.ly_yaccread.specs.File.{Written}

-- what holds of all members holds of those up to one
up_to : (M : Lr0Automaton) (before behind : List (Token ℕ)) (t : Token ℕ) → AreOf M (before ++ t ∷ behind)
    → AreOf M (before ++ t ∷ [])
up_to M [] behind t all = All-cons (λ x. x.terminal < M.grammar.terminals) t []
    (All-head (λ x. x.terminal < M.grammar.terminals) t behind all) (λ k d lt. absurd (omega (arith, lt)))
up_to M (x ∷ before) behind t all = All-cons (λ x. x.terminal < M.grammar.terminals) x (before ++ t ∷ [])
    (All-head (λ x. x.terminal < M.grammar.terminals) x (before ++ t ∷ behind) all)
    (up_to M before behind t (All-tail (λ x. x.terminal < M.grammar.terminals) x (before ++ t ∷ behind) all))

-- those before one
before_it : (M : Lr0Automaton) (before behind : List (Token ℕ)) (t : Token ℕ) → AreOf M (before ++ t ∷ behind)
    → AreOf M before
before_it M [] behind t all = λ k d lt. absurd (omega (arith, lt))
before_it M (x ∷ before) behind t all = All-cons (λ x. x.terminal < M.grammar.terminals) x before
    (All-head (λ x. x.terminal < M.grammar.terminals) x (before ++ t ∷ behind) all)
    (before_it M before behind t (All-tail (λ x. x.terminal < M.grammar.terminals) x (before ++ t ∷ behind) all))

-- and it
it_self : (M : Lr0Automaton) (before behind : List (Token ℕ)) (t : Token ℕ) → AreOf M (before ++ t ∷ behind)
    → t.terminal < M.grammar.terminals
it_self M [] behind t all = All-head (λ x. x.terminal < M.grammar.terminals) t behind all
it_self M (x ∷ before) behind t all = it_self M before behind t
    (All-tail (λ x. x.terminal < M.grammar.terminals) x (before ++ t ∷ behind) all)

-- one more behind them
one_more : (M : Lr0Automaton) (tokens : List (Token ℕ)) (t : Token ℕ) → AreOf M tokens
    → t.terminal < M.grammar.terminals → AreOf M (tokens ++ t ∷ [])
one_more M [] t all lt = All-cons (λ x. x.terminal < M.grammar.terminals) t [] lt (λ k d lt. absurd (omega (arith, lt)))
one_more M (x ∷ tokens) t all lt = All-cons (λ x. x.terminal < M.grammar.terminals) x (tokens ++ t ∷ [])
    (All-head (λ x. x.terminal < M.grammar.terminals) x tokens all)
    (one_more M tokens t (All-tail (λ x. x.terminal < M.grammar.terminals) x tokens all) lt)

-- tokens that are read keep the neighbours on the stack edges
reads_keep : (m : Machine) {levels last : List Level} {tokens : List (Token ℕ)} → ReadsTokens m levels tokens last
    → IsStack m (states_on levels) → IsStack m (states_on last)
reads_keep m at_end edges = edges
reads_keep m (onward {token = token} feeds rest) edges = reads_keep m rest (stack_kept m token feeds edges)

module _ (version : Version) (file : LexFile) (w : Written) (s : Spec) (set : TableSet)
    (g : IsGeneratedSet version file w s set) (text : List ℕ) where
  does : AllZip (IsScanAction s.terminals) (map acting_of file.actions.items) (map (λ r. r.action) set.scan_rules)
  does = subst (AllZip (IsScanAction s.terminals) (map acting_of file.actions.items)) (sym g.is_set.scanner.actions)
      g.joined.scanner

  scanner : Scanner
  scanner = record { walk = row_walk g.walk; cut = cut_in file.rules.items }

  all_classes : length set.classes ≡ 256
  all_classes = g.within.all_classes

  pub tokens_of : (tokens : List (Token ℕ)) (e : End) → AreTokens (scan_part_of set) (start_of text) tokens e
      → AreTokensOf file s text tokens e
  unfolding scanner
  tokens_of tokens e a = record {
    lexemes = a.lexemes;
    lexing = lexing_of (defined file.names) file.rules.items scanner g.agrees (condition_set file.actions.items)
        (start_of text) a.lexemes e
        (lexed_under _ _ (condition_in (scan_part_of set)) (condition_set file.actions.items)
        (same_conditions s.terminals (scan_part_of set) file.actions.items does g.within.all_literals
        g.within.all_classes g.is_set.literals) (start_of text) a.lexemes e
        (same_run (scanner_in (scan_part_of set)) scanner
        (same_walk s file.rules.items g.walk set g.is_walk g.is_set.scanner)
        (same_cut s file.rules.items g.walk set g.is_walk g.is_set.scanner)
        (condition_in (scan_part_of set)) (start_of text) a.lexemes e a.lexed));
    numbered = subst (AllZip (IsNumberedToken s.terminals) (tokens_from (naming file.actions.items) 0 text a.lexemes))
        (sym a.are_of_lexemes)
        (numbered s.terminals (scan_part_of set) file.actions.items does g.within.all_literals g.within.all_classes
        g.is_set.literals (condition_in (scan_part_of set)) (start_of text) a.lexemes e a.lexed);
  }

  -- the specification's terminals are the grammar's
  terminals_are : length s.terminals ≡ g.automaton.grammar.terminals
  terminals_are =
      let of : IsMachineOf s g.automaton (machine_of set) = g.is_set.machine in
      sym (ap length g.is_set.terminals ∙ length-map s.terminals _) ∙ of.2.terminals ∙ of.1.terminals

  two : 2 ≤ length s.terminals
  two = omega (arith, g.within.terminals, ap length g.is_set.terminals ∙ length-map s.terminals _)

  pub all_of : (tokens : List (Token ℕ)) (e : End) → AreTokens (scan_part_of set) (start_of text) tokens e
      → AreOf g.automaton tokens
  unfolding tokens_of
  all_of tokens e a = subst (λ n. All (λ t. t.terminal < n) tokens) terminals_are
      (all_below s.terminals (tokens_from (naming file.actions.items) 0 text a.lexemes) tokens two
      (tokens_of tokens e a).numbered)

  -- tokens whose terminals the set has are the grammar's
  pub known_are : (tokens : List (Token ℕ)) → All (λ t. t.terminal < length set.terminals) tokens
      → AreOf g.automaton tokens
  known_are tokens all = subst (λ n. All (λ t. t.terminal < n) tokens)
      ((ap length g.is_set.terminals ∙ length-map s.terminals _) ∙ terminals_are) all

  end_below : 0 < g.automaton.grammar.terminals
  end_below = omega (arith, two, terminals_are)

  -- so are they with the end behind them
  pub with_end : (tokens : List (Token ℕ)) → AreOf g.automaton tokens
      → AreOf g.automaton (tokens ++ end_of text ∷ [])
  with_end tokens all = one_more g.automaton tokens (end_of text) all end_below

  fed_all : (tokens : List (Token ℕ)) (e : End) → AreTokens (scan_part_of set) (start_of text) tokens e
      → AreOf g.automaton (fed_with (end_of text) tokens e)
  fed_all tokens Clean a = with_end tokens (all_of tokens Clean a)
  fed_all tokens (Stuck b) a = all_of tokens (Stuck b) a
  fed_all tokens (BadCut b) a = all_of tokens (BadCut b) a

  come_all : (before : List (Token ℕ)) (t : Token ℕ) (out : fed.Fed)
      (c : Comes (scan_part_of set) (machine_of set) (begun text) (end_of text) before t out)
      → AreOf g.automaton (before ++ t ∷ c.behind)
  come_all before t out c = subst (AreOf g.automaton) c.split (fed_all c.tokens c.e c.are_tokens)

  -- what the tables expect behind tokens that they read, the reference machine would read
  next_of : (before : List (Token ℕ)) (last : List Level) (ts : List ℕ) → AreOf g.automaton before
      → ReadsTokens (machine_of set) [] before last → AreExpected (machine_of set) (states_on last) ts
      → AreNext g.automaton.grammar (judge_of s) before ts
  next_of before last ts all reads expected =
      let it = read_with_trees [] refl reads in
      let run = reads_follow s g.automaton (machine_of set) g.is_automaton g.useful g.is_set.machine it.reads [] [] all
      bottom in
      let states : states_on last ≡ states_below it.on
      = ap states_on it.same ∙ same_states (shape_of_rule (machine_of set).rules) it.on in
      let edges : IsStack (machine_of set) (states_on last) = reads_keep (machine_of set) reads alone in
      record {
        stack = run.0;
        reads = subst (λ us. Leads g.automaton.grammar (judge_of s) (begin us) (record { stack = run.0; rest = [] }))
            (append-nil before) run.1;
        ordered = expected.ordered;
        are = expected_follow s g.automaton (machine_of set) g.is_automaton g.useful g.is_set.machine g.steady run.0
            it.on run.2 (subst (IsStack (machine_of set)) states edges) ts
            (subst (λ stack. AreExpected (machine_of set) stack ts) states expected);
      }

  -- tokens that the tables accept with a derivation tree, the reference machine accepts with the same tree
  pub derives_too : (tokens : List (Token ℕ)) (d : Tree) → AreOf g.automaton tokens
      → Derives (machine_of set) tokens (end_of text) d
      → AcceptsWith g.automaton.grammar (judge_of s) (tokens ++ end_of text ∷ []) d
  derives_too tokens d all run = accepted_follow s g.automaton (machine_of set) g.is_automaton g.useful
      g.is_set.machine tokens (end_of text) d (with_end tokens all) run

  -- whose rules have the shapes of the specification's
  pub same_shapes : (tokens : List (Token ℕ)) (d : Tree)
      → AcceptsWith g.automaton.grammar (judge_of s) (tokens ++ end_of text ∷ []) d → (p : ℕ) → Occurs p d
      → shape_of_rule (machine_of set).rules p ≡ shape_in s p
  same_shapes tokens d run = shapes_are_of_rules s g.automaton (machine_of set) g.is_automaton g.useful
      g.is_set.machine d (accepts_trees g.automaton.grammar (judge_of s) g.is_automaton.augmented
      (tokens ++ end_of text ∷ []) d run).0

  -- tokens that the tables read, and accept with the end behind them, the reference machine accepts
  pub accepts_too : (tokens : List (Token ℕ)) (last : List Level) (d : Term) → AreOf g.automaton tokens
      → ReadsTokens (machine_of set) [] tokens last → Feeds (machine_of set) (end_of text) last (fed.done d)
      → (tree : Tree) × AcceptsWith g.automaton.grammar (judge_of s) (tokens ++ end_of text ∷ []) tree
      × (d ≡ build (shape_in s) tree)
  accepts_too tokens last d all reads feeds =
      let built = accepted_terms_are_built (machine_of set) tokens (end_of text) last d reads feeds in
      let run = derives_too tokens built.0 all built.1 in (
        built.0,
        run,
        built.2 ∙ build_alike (shape_of_rule (machine_of set).rules) (shape_in s) built.0
            (same_shapes tokens built.0 run),
      )

  -- what they refuse behind others it refuses there, and would read next what they expect
  pub refuses_too : (before behind : List (Token ℕ)) (t : Token ℕ) (last : List Level) (ts : List ℕ)
      → AreOf g.automaton (before ++ t ∷ behind) → ReadsTokens (machine_of set) [] before last
      → Feeds (machine_of set) t last fed.refused → AreExpected (machine_of set) (states_on last) ts
      → RefusesAfter g.automaton.grammar (judge_of s) (before ++ t ∷ behind) before
      × AreNext g.automaton.grammar (judge_of s) before ts
  refuses_too before behind t last ts all reads feeds expected = let it = read_with_trees [] refl reads in (
    refused_follow s g.automaton (machine_of set) g.is_automaton g.useful g.is_set.machine before behind t it.on
        (up_to g.automaton before behind t all) it.reads (one_refused (machine_of set) t it.on last it.same feeds),
    next_of before last ts (before_it g.automaton before behind t all) reads expected,
  )

  -- and they are at fault on none
  pub never_at_fault : (before behind : List (Token ℕ)) (t : Token ℕ) (last : List Level)
      → AreOf g.automaton (before ++ t ∷ behind) → ReadsTokens (machine_of set) [] before last
      → Feeds (machine_of set) t last fed.faulty → ⊥
  never_at_fault before behind t last all reads feeds =
      let it = read_with_trees [] refl reads in
      let run = reads_follow s g.automaton (machine_of set) g.is_automaton g.useful g.is_set.machine it.reads []
      (t ∷ behind) (before_it g.automaton before behind t all) bottom in
      tables_follow s g.automaton (machine_of set) g.is_automaton g.useful g.is_set.machine run.0 it.on t behind
      trees.faulty (it_self g.automaton before behind t all) run.2
      (one_fault (machine_of set) t it.on last it.same feeds)

  -- the verdict is the specification's
  pub verdict_follows : (v : Verdict) → IsVerdict set text v → IsSpecVerdict file s g.automaton.grammar text v
  verdict_follows (accepted d) (r, fed) =
      let run = accepts_too r.tokens r.last d (all_of r.tokens Clean r.are_tokens) r.reads fed in
      (r.tokens, Clean, tokens_of r.tokens Clean r.are_tokens, (refl, run.0, run.1, run.2))
  verdict_follows (refused k t ts) (before, c, count, expected) =
      let both = refuses_too before c.behind t c.last ts (come_all before t fed.refused c) c.reads c.feeds expected in (
        c.tokens,
        c.e,
        tokens_of c.tokens c.e c.are_tokens,
        (before, c.behind, c.split, both.0, omega (arith, count), both.1),
      )
  verdict_follows (unmatched byte) r =
      let all : AreOf g.automaton r.tokens = all_of r.tokens (Stuck byte) r.are_tokens in
      let it = read_with_trees [] refl r.reads in
      let run = reads_follow s g.automaton (machine_of set) g.is_automaton g.useful g.is_set.machine it.reads [] [] all
      bottom in (
        r.tokens,
        Stuck byte,
        tokens_of r.tokens (Stuck byte) r.are_tokens,
        (
          refl,
          run.0,
          subst (λ ts. Leads g.automaton.grammar (judge_of s) (begin ts) (record { stack = run.0; rest = [] }))
              (append-nil r.tokens) run.1,
        ),
      )
  verdict_follows faulty (inl (before, t, c)) = absurd (never_at_fault before c.behind t c.last
      (come_all before t fed.faulty c) c.reads c.feeds)
  verdict_follows faulty (inr (byte, r)) = absurd (leaves_tokens (defined file.names) file.rules.items
      (condition_set file.actions.items) (start_of text)
      (tokens_of r.tokens (BadCut byte) r.are_tokens).lexemes (BadCut byte)
      (tokens_of r.tokens (BadCut byte) r.are_tokens).lexing)

pub tables_answer : TablesAnswerAsSpecified
tables_answer version file w s set g text v h = verdict_follows version file w s set g text v h

pub answers_follow : AnswersAreOfSpecification
answers_follow version file w s set g form text o answer (v, h, outcome, bytes) = (
  v,
  verdict_follows version file w s set g text v h,
  outcome,
  bytes ∙ same_words (scanning_of file) w s g.automaton file.rules.items g.walk set g.joined g.is_set form v,
)
