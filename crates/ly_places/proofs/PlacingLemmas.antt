-- What is written for a text, with places, is its answer.
use Rattle.std.proofs.Common.{◌≡◌, ◌++◌, ◌∙◌, ℕ, List, [], ◌∷◌, Err, Ok, Result, ap, length, map, refl, subst, sym}
use Rattle.std.specs.Prelude.{IfOk}
use Rattle.ly_base.specs.Bytes.{newline}
use Rattle.ly_base.specs.Lexed.{Token}
use Rattle.ly_base.specs.Trees.{Tree}
use Rattle.ly_base.specs.declared.lexeme.End.TheVariants.{Clean}
use Rattle.ly_spans.specs.Spans.{span_of}
use Rattle.ly_spans.specs.declared.span.Span.{Span}
use Rattle.ly_feed.specs.SyntaxError.{token_of, verdict_of}
use Rattle.ly_feed.specs.NameMembers.{names_in, vocabulary_in, Named}
use Rattle.ly_feed.specs.ScanPart.{scan_part_of}
use Rattle.ly_feed.specs.TableAnswer.{IsVerdict}
use Rattle.ly_feed.specs.Verdict.{IsOutcome, Verdict}
use Rattle.ly_feed.specs.Vocabularies.{vocabulary_of}
use Rattle.ly_feed.specs.declared.syntax_error.SyntaxError.{SyntaxError}
use Rattle.ly_feed.specs.declared.syntax_error.SyntaxError.TheVariants.{NoRule, Refused}
use Rattle.ly_feed.specs.declared.outcome.Outcome.{Outcome}
use Rattle.ly_feed.specs.declared.outcome.Outcome.TheVariants as outcome
use Rattle.ly_feed.specs.declared.outcome.Outcome.TheVariants.{Syntax, Tree as AsTree}
use Rattle.ly_pack.specs.Machine.{TableRule}
use Rattle.ly_places.proofs.WithinLemmas.{placed_within}
use Rattle.ly_places.specs.Derived.{IsDerived}
use Rattle.ly_places.specs.Parts.{parts_of}
use Rattle.ly_places.specs.Placed.{Placed, end_behind, placed}
use Rattle.ly_places.specs.PlacedAnswer as answer
use Rattle.ly_places.specs.PlacedAnswer.{accepted, placed_line, IsPlacedBy, IsPlacedVerdict, PlacedAnswer}
use Rattle.ly_places.specs.PlacedAnswer.{PlacedVerdict}
use Rattle.ly_places.specs.PlacedJson.{placed_json}
use Rattle.ly_places.specs.Private.Derived.{IsDerivationOf}
use Rattle.ly_places.specs.Private.TokenDerived.{IsDerivationOver}
use Rattle.ly_parse.specs.Deriving.{shape_of_rule}
use Rattle.ly_places.specs.TokenAnswer.{IsPlacedOver, IsPlacedTokenVerdict, IsTokenVerdict}
use Rattle.ly_places.specs.Within.{StandsWithin}
use Rattle.ly_places.specs.declared.derivation.Derivation.{Derivation}
use Rattle.ly_places.specs.declared.part.Part.{Part}
use Rattle.ly_tables.specs.TableSet.{TableSet}
use Rattle.ly_tree.specs.Forest.{Grown}
use Rattle.ly_tree.specs.declared.forest.TermRef.{TermRef}

-- the line of what is wrong with a text
pub syntax_error_told : {A E : Type 0} (r : Result A E) (items : A → List ℕ) (s : TableSet) (text : List ℕ)
    (v : PlacedVerdict) (w : Verdict) → IsPlacedVerdict s text v → answer.verdict_of text v ≡ w
    → IfOk r (λ a. items a ≡ placed_line (vocabulary_of s) text v)
    → IfOk r (λ a. (x : PlacedVerdict) × IsPlacedVerdict s text x × (answer.verdict_of text x ≡ w)
    × (items a ≡ placed_line (vocabulary_of s) text x))
syntax_error_told (Ok a) items s text v w is same told = (v, is, same, told)
syntax_error_told (Err e) items s text v w is same told = tt

-- an outcome says what is wrong
pub some_outcome : (syntax_error : SyntaxError) → (o : Outcome) × IsOutcome (verdict_of syntax_error) o
some_outcome (Refused number token expected) =
    (Syntax number token.at (length token.text) expected, (refl, refl, refl, refl))
some_outcome (NoRule byte) = (outcome.NoRule byte, refl)

-- what is wrong with a text is said with places too
pub placed_syntax_error : (s : TableSet) (text : List ℕ) (syntax_error : SyntaxError)
    → IsVerdict s text (verdict_of syntax_error)
    → (v : PlacedVerdict) × IsPlacedVerdict s text v × (answer.verdict_of text v ≡ verdict_of syntax_error)
placed_syntax_error s text (Refused number token expected) is =
    (answer.refused number (token_of token) (map (λ s. s.0) expected.items), is, refl)
placed_syntax_error s text (NoRule byte) is = (answer.unmatched byte, is, refl)

-- and without them
pub plain_syntax_error : (s : TableSet) (text : List ℕ) (v : PlacedVerdict) (syntax_error : SyntaxError)
    → IsPlacedVerdict s text v
    → answer.verdict_of text v ≡ verdict_of syntax_error → IsVerdict s text (verdict_of syntax_error)
plain_syntax_error s text (accepted t) (Refused number token expected) is same = absurd cc
plain_syntax_error s text (accepted t) (NoRule byte) is same = absurd cc
plain_syntax_error s text (answer.refused k t ts) syntax_error is same = subst (IsVerdict s text) same is
plain_syntax_error s text (answer.unmatched byte) syntax_error is same = subst (IsVerdict s text) same is
plain_syntax_error s text answer.faulty (Refused number token expected) is same = absurd cc
plain_syntax_error s text answer.faulty (NoRule byte) is same = absurd cc

-- the parts of derivations, by tokens and rules that are said to be these
pub parts_made : {A E : Type 0} (r : Result A E) (items : A → List Part) (f : Grown) (root : TermRef)
    (given tokens : List Span) (listed rules : List TableRule) → given ≡ tokens → listed ≡ rules
    → IfOk r (λ parts. (before : List (Token ℕ)) (d : Tree) → IsDerived f root given listed before d
    → items parts ≡ parts_of (placed (shape_of_rule listed) (end_behind before) d))
    → IfOk r (λ parts. (before : List (Token ℕ)) (d : Tree) → IsDerived f root tokens rules before d
    → items parts ≡ parts_of (placed (shape_of_rule rules) (end_behind before) d))
parts_made r items f root given tokens listed rules same_tokens same_rules h =
    subst (λ ts. IfOk r (λ parts. (before : List (Token ℕ)) (d : Tree) → IsDerived f root ts rules before d
    → items parts ≡ parts_of (placed (shape_of_rule rules) (end_behind before) d))) same_tokens
    (subst (λ rs. IfOk r (λ parts. (before : List (Token ℕ)) (d : Tree) → IsDerived f root given rs before d
    → items parts ≡ parts_of (placed (shape_of_rule rs) (end_behind before) d))) same_rules h)

module _ (s : TableSet) (text : List ℕ) (x : Derivation) (h : IsDerivationOf s text x) where
  -- the term of a derivation, with its places
  abbrev pub placed_of : Placed
  placed_of = placed (shape_of_rule s.rules) (end_behind h.derived.before) h.tree

  -- it is what the derivation stands for
  pub is_derived : IsDerived x.forest x.root x.tokens.items s.rules h.derived.before h.tree
  is_derived = record {
    stands = h.root;
    fits = h.derived.fits;
    extents = ap (map span_of) (sym h.derived.yields) ∙ sym h.extents;
  }

  -- it is placed by the set
  pub is_placed : IsPlacedBy s text placed_of
  is_placed = record {
    tokens = h.tokens;
    are_tokens = h.derived.are_tokens;
    before = h.derived.before;
    tree = h.tree;
    derives = h.derived.derives;
    yields = h.derived.yields;
    says = h.derived.says;
    stands = refl;
  }

-- The same of tokens over a text.
module _ (s : TableSet) (text : List ℕ) (tokens : List (Token ℕ)) (x : Derivation)
    (h : IsDerivationOver s text tokens x) where
  abbrev pub placed_over : Placed
  placed_over = placed (shape_of_rule s.rules) (end_behind h.before) h.tree

  pub derived_over : IsDerived x.forest x.root x.tokens.items s.rules h.before h.tree
  derived_over = record {
    stands = h.root;
    fits = h.fits;
    extents = ap (map span_of) (sym h.yields) ∙ sym h.extents;
  }

  pub is_placed_over : IsPlacedOver s text tokens placed_over
  is_placed_over = record {
    before = h.before;
    tree = h.tree;
    derives = h.derives;
    yields = h.yields;
    says = h.says;
    stands = refl;
  }

-- what is wrong with tokens is said with places too
pub placed_token_syntax_error : (s : TableSet) (text : List ℕ) (tokens : List (Token ℕ)) (syntax_error : SyntaxError)
    → IsTokenVerdict s text tokens (verdict_of syntax_error) → (v : PlacedVerdict)
    × IsPlacedTokenVerdict s text tokens v
    × (answer.verdict_of text v ≡ verdict_of syntax_error)
placed_token_syntax_error s text tokens (Refused number token expected) is =
    (answer.refused number (token_of token) (map (λ s. s.0) expected.items), is, refl)
placed_token_syntax_error s text tokens (NoRule byte) is = absurd is

module _ (s : TableSet) (text : List ℕ) (t : Placed) (h : IsPlacedBy s text t) where
  -- a placed term stands in the text
  pub stands_within : StandsWithin (length text) t
  stands_within = subst (StandsWithin (length text)) (sym h.stands)
      (placed_within (scan_part_of s) text h.tokens Clean (shape_of_rule s.rules) h.before h.tree h.are_tokens h.yields)

  -- its line is the text's answer
  pub tree_answer : (names : Named) → names ≡ names_in s → (line : List ℕ)
      → line ≡ placed_json (vocabulary_in names) text t ++ newline ∷ [] → PlacedAnswer s text AsTree line
  tree_answer names same line is =
      (accepted t, h, refl, is ∙ ap (λ n. placed_json (vocabulary_in n) text t ++ newline ∷ []) same)
