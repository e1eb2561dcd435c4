-- What tables say whose rules keep all of their bodies, and what the tables themselves say.
use Rattle.std.proofs.Common.{◌≡◌, ◌∙◌, ◌≤◌, ℕ, List, [], ◌∷◌, ◌++◌, Result, Ok, Err, ap, append-nil, append_assoc}
use Rattle.std.proofs.Common.{arith, inl, inr, map, refl, subst, sym}
use Rattle.std.specs.Prelude.{All, IsErrAnd}
use Rattle.std.proofs.lemmas.List.{length-map}
use Rattle.std.proofs.Math.ListN.{get_or-map}
use Rattle.ly_base.specs.Lexed.{Place, Token, start_of}
use Rattle.ly_base.specs.Shape.{Shape}
use Rattle.ly_base.specs.Trees.{Tree}
use Rattle.ly_base.specs.declared.lexeme.End.{End}
use Rattle.ly_base.specs.declared.lexeme.End.TheVariants.{BadCut, Clean, Stuck}
use Rattle.ly_feed.proofs.OneVerdictLemmas.{one_tokens}
use Rattle.ly_feed.proofs.OnwardLemmas.{from_start}
use Rattle.ly_feed.specs.Closed.{CanRun, IsClosed, IsVerdictOf, progress_of}
use Rattle.ly_feed.specs.SyntaxError.{verdict_of}
use Rattle.ly_feed.specs.ScanPart.{ScanPart, scan_part_of}
use Rattle.ly_feed.specs.TokenSpans.{AreSpansOf}
use Rattle.ly_feed.specs.TableAnswer.{IsRest, IsVerdict, IsVerdictBy, Progress, ReadsAll, begun}
use Rattle.ly_feed.specs.Verdict.{Verdict, accepted, faulty, refused, unmatched}
use Rattle.ly_feed.specs.declared.syntax_error.SyntaxError.{SyntaxError}
use Rattle.ly_feed.specs.declared.syntax_error.SyntaxError.TheVariants as syntax_errors
use Rattle.ly_feed.specs.declared.running.Ended.TheVariants as ended
use Rattle.ly_feed.specs.declared.text_fault.TextFault.{TextFault}
use Rattle.ly_feed.specs.declared.text_fault.TextFault.TheVariants as faults
use Rattle.ly_pack.specs.Machine.{IsMachine, Machine, TableRule, with_rules}
use Rattle.ly_pack.specs.Values.{rule_from}
use Rattle.ly_pack.specs.declared.rule.TableRule as code
use Rattle.ly_parse.specs.Expected.{AreExpected}
use Rattle.ly_parse.specs.Feeding.{Fed, Feeds, Level, states_on}
use Rattle.ly_parse.specs.Feeding as terms
use Rattle.ly_parse.specs.Parse.{Parse}
use Rattle.ly_parse.specs.Reading.{ReadsTokens, at_end, onward}
use Rattle.ly_spans.specs.Spans.{span_of}
use Rattle.ly_places.proofs.KeepingLemmas.{fed_alike, machine_stays, same_expected, steady_still}
use Rattle.ly_parse.proofs.TreeFeeding.{done_with_terms, done_with_trees, same_states}
use Rattle.ly_parse.specs.Deriving.{FeedsTree, ReadsTrees, TreeFed, TreeLevel, fed_by, levels_by}
use Rattle.ly_parse.specs.Deriving as trees
use Rattle.ly_places.proofs.TreeYields.{AllFitOn, IsGrown, IsOnTop, grown, yields_on}
use Rattle.ly_places.specs.Private.Derived.{IsDerivationOf, IsDerived, IsDerivedBy}
use Rattle.ly_parse.specs.Deriving.{shape_of_rule}
use Rattle.ly_places.specs.Shapes.{keeping_machine, keeping_rule}
use Rattle.ly_places.specs.declared.derivation.Derivation.{Derivation}
use Rattle.ly_places.specs.declared.derivation.Derived.{Derived}
use Rattle.ly_tables.specs.Ranges.{IsRuleShort}
use Rattle.ly_tables.specs.TableSet.{TableSet, machine_of}
use Rattle.ly_tree.specs.Forest.{Grown, StandsFor}
use Rattle.ly_tree.specs.Term.{Term, build}
use Rattle.ly_tree.specs.declared.forest.TermRef.{TermRef}

module _ (m : Machine) (is_machine : IsMachine m) where
  abbrev pub own : ℕ → Shape
  own = shape_of_rule m.rules

  abbrev pub kept : ℕ → Shape
  kept = shape_of_rule (map keeping_rule m.rules)

  -- What both machines do with a token, on stacks of the same trees.
  record IsFed (token : Token ℕ) (stack : List TreeLevel) (out : Fed) : Type 0 where
    fed : TreeFed
    same : out ≡ fed_by kept fed
    itself : FeedsTree m token stack fed
    feeds : Feeds m token (levels_by own stack) (fed_by own fed)
    grown : IsGrown m.rules token stack fed

  fed_with_trees : {token : Token ℕ} {levels : List Level} {out : Fed} (stack : List TreeLevel)
      → levels ≡ levels_by kept stack → AllFitOn m.rules stack → Feeds (keeping_machine m) token levels out
      → IsFed token stack out
  fed_with_trees {token} stack same fit f =
      let it = done_with_trees (keeping_machine m) token stack same f in
      let on = fed_alike m token it.feeds in
      record {
        fed = it.fed;
        same = it.same;
        itself = on;
        feeds = done_with_terms m token on;
        grown = grown m token is_machine on fit;
      }

  -- What both read.
  pub record AreRead (stack : List TreeLevel) (tokens : List (Token ℕ)) (last : List Level) : Type 0 where
    pub on : List TreeLevel
    pub same : last ≡ levels_by kept on
    pub itself : ReadsTrees m stack tokens on
    pub reads : ReadsTokens m (levels_by own stack) tokens (levels_by own on)
    pub yields : yields_on on ≡ yields_on stack ++ tokens
    pub fit : AllFitOn m.rules on

  -- the trees behind a token that is read
  record IsRead (token : Token ℕ) (stack : List TreeLevel) (next : List Level) : Type 0 where
    on : List TreeLevel
    same : next ≡ levels_by kept on
    itself : FeedsTree m token stack (trees.pushed on)
    feeds : Feeds m token (levels_by own stack) (terms.pushed (levels_by own on))
    yields : yields_on on ≡ yields_on stack ++ token ∷ []
    fit : AllFitOn m.rules on

  one_read : {token : Token ℕ} {levels next : List Level} (stack : List TreeLevel) → levels ≡ levels_by kept stack
      → AllFitOn m.rules stack → Feeds (keeping_machine m) token levels (terms.pushed next) → IsRead token stack next
  one_read {token} {next = next} stack same fit f =
      let it = fed_with_trees stack same fit f in by_fed it.fed it.same it.itself it.feeds it.grown
    where
      by_fed : (x : TreeFed) → terms.pushed next ≡ fed_by kept x → FeedsTree m token stack x
          → Feeds m token (levels_by own stack) (fed_by own x) → IsGrown m.rules token stack x
          → IsRead token stack next
      by_fed (trees.pushed on) is itself feeds grown
          = record { on = on; same = cc; itself = itself; feeds = feeds; yields = grown.0; fit = grown.1 }
      by_fed (trees.done d) is itself feeds grown = absurd cc
      by_fed trees.refused is itself feeds grown = absurd cc
      by_fed trees.faulty is itself feeds grown = absurd cc

  pub all_read : {levels last : List Level} {tokens : List (Token ℕ)} (stack : List TreeLevel)
      → levels ≡ levels_by kept stack → AllFitOn m.rules stack → ReadsTokens (keeping_machine m) levels tokens last
      → AreRead stack tokens last
  all_read stack same fit at_end = record {
    on = stack;
    same = same;
    itself = trees.at_end;
    reads = at_end;
    yields = sym (append-nil (yields_on stack));
    fit = fit;
  }
  all_read stack same fit (onward {token = token} {tokens = tokens} first others) =
      let one = one_read stack same fit first in
      let rest = all_read one.on one.same one.fit others in
      record {
        on = rest.on;
        same = rest.same;
        itself = trees.and_one one.itself rest.itself;
        reads = onward one.feeds rest.reads;
        yields = rest.yields ∙ (ap (λ ts. ts ++ tokens) one.yields
            ∙ append_assoc (yields_on stack) (token ∷ []) tokens);
        fit = rest.fit;
      }

  -- A tree that is accepted.
  pub record IsAccepted (token : Token ℕ) (stack : List TreeLevel) (t : Term) : Type 0 where
    pub tree : Tree
    pub same : t ≡ build kept tree
    pub itself : FeedsTree m token stack (trees.done tree)
    pub feeds : Feeds m token (levels_by own stack) (terms.done (build own tree))
    pub on_top : IsOnTop m.rules stack tree

  pub one_accepted : {token : Token ℕ} {levels : List Level} {t : Term} (stack : List TreeLevel)
      → levels ≡ levels_by kept stack → AllFitOn m.rules stack → Feeds (keeping_machine m) token levels (terms.done t)
      → IsAccepted token stack t
  one_accepted {token} {t = t} stack same fit f =
      let it = fed_with_trees stack same fit f in by_fed it.fed it.same it.itself it.feeds it.grown
    where
      by_fed : (x : TreeFed) → terms.done t ≡ fed_by kept x → FeedsTree m token stack x
          → Feeds m token (levels_by own stack) (fed_by own x) → IsGrown m.rules token stack x
          → IsAccepted token stack t
      by_fed (trees.done d) is itself feeds grown
          = record { tree = d; same = cc; itself = itself; feeds = feeds; on_top = grown }
      by_fed (trees.pushed on) is itself feeds grown = absurd cc
      by_fed trees.refused is itself feeds grown = absurd cc
      by_fed trees.faulty is itself feeds grown = absurd cc

  pub one_refused : {token : Token ℕ} {levels : List Level} (stack : List TreeLevel) → levels ≡ levels_by kept stack
      → AllFitOn m.rules stack → Feeds (keeping_machine m) token levels terms.refused
      → Feeds m token (levels_by own stack) terms.refused
  one_refused {token} stack same fit f =
      let it = fed_with_trees stack same fit f in by_fed it.fed it.same it.feeds
    where
      by_fed : (x : TreeFed) → terms.refused ≡ fed_by kept x → Feeds m token (levels_by own stack) (fed_by own x)
          → Feeds m token (levels_by own stack) terms.refused
      by_fed trees.refused is feeds = feeds
      by_fed (trees.done d) is feeds = absurd cc
      by_fed (trees.pushed on) is feeds = absurd cc
      by_fed trees.faulty is feeds = absurd cc

  pub one_fault : {token : Token ℕ} {levels : List Level} (stack : List TreeLevel) → levels ≡ levels_by kept stack
      → AllFitOn m.rules stack → Feeds (keeping_machine m) token levels terms.faulty
      → Feeds m token (levels_by own stack) terms.faulty
  one_fault {token} stack same fit f =
      let it = fed_with_trees stack same fit f in by_fed it.fed it.same it.feeds
    where
      by_fed : (x : TreeFed) → terms.faulty ≡ fed_by kept x → Feeds m token (levels_by own stack) (fed_by own x)
          → Feeds m token (levels_by own stack) terms.faulty
      by_fed trees.faulty is feeds = feeds
      by_fed (trees.done d) is feeds = absurd cc
      by_fed (trees.pushed on) is feeds = absurd cc
      by_fed trees.refused is feeds = absurd cc

-- What the machine itself says of a text.
pub record IsDerivedAs (s : TableSet) (text : List ℕ) (t : Term) : Type 0 where
  pub tokens : List (Token ℕ)
  pub tree : Tree
  pub derived : IsDerivedBy s text tokens tree
  pub same : t ≡ build (shape_of_rule (map keeping_rule s.rules)) tree

abbrev pub IsSaidItself : TableSet → List ℕ → Verdict → Type 0
IsSaidItself s text (accepted t) = IsDerivedAs s text t
IsSaidItself s text (refused k token ts) = IsVerdict s text (refused k token ts)
IsSaidItself s text (unmatched byte) = IsVerdict s text (unmatched byte)
IsSaidItself s text faulty = IsVerdict s text faulty

module _ (s : TableSet) (text : List ℕ) (is_machine : IsMachine (machine_of s)) where
  abbrev m : Machine
  m = machine_of s

  abbrev p : ScanPart
  p = scan_part_of s

  -- what both read of a text
  read : {tokens : List (Token ℕ)} {last : List Level} → ReadsTokens (keeping_machine m) [] tokens last
      → AreRead m is_machine [] tokens last
  read reads = all_read m is_machine [] refl tt reads

  reads_all : (e : End) → ReadsAll p (keeping_machine m) (begun text) e → ReadsAll p m (begun text) e
  reads_all e r =
      let it = read r.reads in
      record {
        tokens = r.tokens;
        are_tokens = r.are_tokens;
        last = levels_by (own m is_machine) it.on;
        reads = it.reads;
      }

  pub said_itself : (v : Verdict) → IsVerdictBy p (keeping_machine m) text v → IsSaidItself s text v
  said_itself (accepted t) (r, feeds) =
      let it = read r.reads in
      let top = one_accepted m is_machine it.on it.same it.fit feeds in
      record {
        tokens = r.tokens;
        tree = top.tree;
        derived = record {
          are_tokens = r.are_tokens;
          derives = record { last = it.on; reads = it.itself; accepts = top.itself };
          before = top.on_top.before;
          yields = sym it.yields ∙ top.on_top.yields;
          fits = top.on_top.fits;
          says = (
            record {
              tokens = r.tokens;
              are_tokens = r.are_tokens;
              last = levels_by (own m is_machine) it.on;
              reads = it.reads;
            },
            top.feeds,
          );
        };
        same = top.same;
      }
  said_itself (refused k token ts) (before, c, counted, listed) =
      let it = read c.reads in
      let states : states_on c.last ≡ states_on (levels_by (own m is_machine) it.on) = ap states_on it.same
      ∙ (same_states (kept m is_machine) it.on ∙ sym (same_states (own m is_machine) it.on)) in (
        before,
        record {
          tokens = c.tokens;
          e = c.e;
          are_tokens = c.are_tokens;
          behind = c.behind;
          split = c.split;
          last = levels_by (own m is_machine) it.on;
          reads = it.reads;
          feeds = one_refused m is_machine it.on it.same it.fit c.feeds;
        },
        counted,
        subst (λ stack. AreExpected m stack ts) states (same_expected m (states_on c.last) ts listed),
      )
  said_itself (unmatched byte) r = reads_all (Stuck byte) r
  said_itself faulty (inl (before, token, c)) =
      let it = read c.reads in inl (
        before,
        token,
        record {
          tokens = c.tokens;
          e = c.e;
          are_tokens = c.are_tokens;
          behind = c.behind;
          split = c.split;
          last = levels_by (own m is_machine) it.on;
          reads = it.reads;
          feeds = one_fault m is_machine it.on it.same it.fit c.feeds;
        },
      )
  said_itself faulty (inr (byte, r)) = inr (byte, reads_all (BadCut byte) r)

  -- what the parser of derivations says is said itself
  pub said_by : (k : Machine) (w : Progress) (v : Verdict) → k ≡ keeping_machine m → w ≡ begun text
      → IsRest p k w v → IsSaidItself s text v
  said_by k w v same_machine same_start rest = said_itself v ((from_start p (keeping_machine m) text v).0
      (subst (λ x. IsRest p x (begun text) v) same_machine (subst (λ x. IsRest p k x v) same_start rest)))

  -- a text that is accepted has a derivation in memory
  pub accepted_with : (forest : Grown) (root : TermRef) (v : Verdict) (x : Derivation) → IsSaidItself s text v
      → IsVerdictOf forest (ended.Accepted root) v → x.forest ≡ forest → x.root ≡ root
      → AreSpansOf p text x.tokens.items → IsDerivationOf s text x
  accepted_with forest root v x said of same_forest same_root listed =
      let it : IsDerivedAs s text of.0 = subst (IsSaidItself s text) of.1 said in
      let one = one_tokens p (start_of text) it.tokens listed.tokens Clean listed.end it.derived.are_tokens
      listed.are_tokens in
      record {
        tokens = it.tokens;
        tree = it.tree;
        derived = it.derived;
        extents = listed.are ∙ ap (map span_of) (sym one.0);
        root = subst (StandsFor x.forest x.root) it.same (subst (λ f. StandsFor f x.root of.0) (sym same_forest)
            (subst (λ r. StandsFor forest r of.0) (sym same_root) of.2));
      }

  -- what is wrong with it is so by the tables themselves
  pub refused_with : (forest : Grown) (syntax_error : SyntaxError) (v : Verdict) → IsSaidItself s text v
      → IsVerdictOf forest (ended.Refused syntax_error) v → IsVerdict s text (verdict_of syntax_error)
  refused_with forest (syntax_errors.Refused number token expected) v said of = subst (IsSaidItself s text) of said
  refused_with forest (syntax_errors.NoRule byte) v said of = subst (IsSaidItself s text) of said

  -- and so is a fault
  pub fault_with : (k : Machine) (w : Progress) (forest : Grown) (e : TextFault) (result : Result Derived TextFault)
      → k ≡ keeping_machine m → w ≡ begun text → IsClosed p k w forest (Err e) → IsErrAnd result (λ x. x ≡ e)
      → IsDerived s text result
  fault_with k w forest e (Ok x) same_machine same_start closed is = absurd is
  fault_with k w forest faults.FaultyTables (Err x) same_machine same_start closed is =
      subst (λ y. IsDerived s text (Err y)) (sym is) (said_by k w faulty same_machine same_start closed)
  fault_with k w forest faults.OutOfMemory (Err x) same_machine same_start closed is =
      subst (λ y. IsDerived s text (Err y)) (sym is) tt
  fault_with k w forest faults.TooLong (Err x) same_machine same_start closed is = absurd closed
  fault_with k w forest faults.Read (Err x) same_machine same_start closed is = absurd closed
  fault_with k w forest (faults.Write written) (Err x) same_machine same_start closed is = absurd closed

-- the tables of a set with rules that keep their bodies
pub kept_tables : (k m : Machine) (kept : List code.TableRule) → k ≡ m
    → map rule_from kept ≡ map keeping_rule m.rules → with_rules k (map rule_from kept) ≡ keeping_machine m
kept_tables k m kept same of_rules = λ i. with_rules (same i) (of_rules i)

-- a parser that has read nothing, at the start of a text
pub starts : (text : List ℕ) (q : Place) (s : Parse) → q ≡ start_of text → s.stack ≡ [] → s.count ≡ 0
    → progress_of q s ≡ begun text
starts text q s at empty none = λ i. record { place = at i; stack = empty i; count = none i }

-- the parser of derivations can be run
pub can_keep : (p : ScanPart) (m : Machine) → CanRun p m → CanRun p (keeping_machine m)
can_keep p m h = record {
  machine = machine_stays m h.machine;
  steady = steady_still m h.steady;
  terminals = h.terminals;
  returned = h.returned;
}

-- the bodies of a set's rules are short
pub short_bodies : (rules : List code.TableRule) (kept : List TableRule) → map rule_from rules ≡ kept
    → All IsRuleShort kept → All (λ r. r.body_length ≤ 255) rules
short_bodies rules kept same short = λ k d inside.
    let all = subst (All IsRuleShort) (sym same) short in
    let one = all k (rule_from d) (omega (arith, inside, length-map rules rule_from)) in
    subst (λ (r : TableRule). r.body_length ≤ 255) (get_or-map rule_from rules k d) one.body
