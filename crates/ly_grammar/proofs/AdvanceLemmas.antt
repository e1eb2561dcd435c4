-- A rule is looked at.
use Rattle.std.proofs.Common.{◌≡◌, ◌<◌, ◌≤◌, ◌∙◌, ℕ, List, Bool, map, true, false, sym, ap, subst, inl, inr, refl}
use Rattle.std.proofs.Common.{take, length, Contains}
use Rattle.std.proofs.Common.{slice_get, slice_index_or, option_map, Option, Some, None, All}
use Rattle.std.proofs.lemmas.List.{get_or_default, length-map, take_all}
use Rattle.std.specs.Option.{is_some, option_copied, IfSome}
use Rattle.std.proofs.lemmas.Bool.{cases_lt, lt-ltb, le-ltb}
use Rattle.std.proofs.Math.Dec.{ltb}
use denote.Ref.{Bor}
use Rattle.std.proofs.lemmas.Option.{slice_get_past, slice_get-get_or, slice_get_cases, slice_get_within}
use Rattle.std.proofs.lemmas.Option.{slice_get-map, get_or_from_slice_get}
use Rattle.std.proofs.lemmas.List.Elements.{All-contains, Contains-get_or}
use Rattle.ly_join.specs.Grammar.{Grammar, GrammarRule, IsRule, Symbol, symbol_of, nonterminal}
use Rattle.ly_join.specs.declared.symbol.Symbol as code
use Rattle.ly_grammar.specs.Private.Search.{Progress, IsSearch, HasPlaces, SymbolsPass, HasNumberBelow, Advances}
use Rattle.ly_grammar.specs.Private.Search.{SearchGoesOn}
use Rattle.ly_grammar.specs.Private.Search.{StopsAt, HasPassed}
use Rattle.ly_grammar.specs.Private.Search.{found}
use Rattle.ly_grammar.specs.Private.Search.{waiting, passes, was_found, with_found, with_passed, with_waiting}
use Rattle.ly_grammar.proofs.SearchLemmas.{HavePassed, on_passed, on_found, on_waiting, body_trees, rule_tree, is_found}
use Rattle.ly_grammar.proofs.SearchLemmas.{waits_now, through}

-- what one call has read: the body of a rule, what was found, how far the body was known to pass, and how far it passes
pub record IsRead (s : Progress) (p : ℕ) (r : GrammarRule) (symbols : List code.Symbol) (marks : List Bool)
    (before at : ℕ)
    : Type 0 where
  pub body : map symbol_of symbols ≡ r.body
  pub found : marks ≡ s.found
  pub first : before ≡ slice_index_or s.passed p before
  pub within : at ≤ length symbols
  pub passing : SymbolsPass marks s.terminals (take before (map symbol_of symbols))
      → SymbolsPass marks s.terminals (take at (map symbol_of symbols))
  pub stops : (X : Symbol) → slice_get (map symbol_of symbols) at ≡ Some X → passes marks s.terminals X ≡ false

-- then so many symbols of the rule's body pass
pub passed_now : (G : Grammar) (s : Progress) (p : ℕ) (r : GrammarRule) (symbols : List code.Symbol) (marks : List Bool)
    (before at : ℕ) → IsRead s p r symbols marks before at → HasPlaces s p r → IsSearch G s → IsRule G p r
    → HavePassed s r at
passed_now G s p r symbols marks before at is places search rule =
    let le : at ≤ length r.body
    = subst (λ n. at ≤ n) (sym (length-map symbols symbol_of) ∙ ap length is.body) is.within in
    let known : SymbolsPass s.found s.terminals (take before r.body)
    = subst (λ n. SymbolsPass s.found s.terminals (take n r.body))
    (sym (is.first ∙ get_or_default s.passed p before 0 places.rule)) (search.passed p r rule) in
    let step : SymbolsPass s.found s.terminals (take before r.body) → SymbolsPass s.found s.terminals (take at r.body)
    = subst (λ w. SymbolsPass s.found s.terminals (take before w) → SymbolsPass s.found s.terminals (take at w)) is.body
    (subst (λ bs. SymbolsPass bs s.terminals (take before (map symbol_of symbols))
    → SymbolsPass bs s.terminals (take at (map symbol_of symbols))) is.found is.passing) in
    (le, step known)

-- a symbol of a body at a place is in it
pub at_place : (w : List Symbol) (at : ℕ) (X : Symbol) → slice_get w at ≡ Some X → Contains w X
at_place w at X here = subst (λ Y. Contains w Y) (get_or_from_slice_get w at X X here)
    (Contains-get_or w at X (slice_get_within w at X here))

-- where nothing stands the list has ended
ended : (xs : List code.Symbol) (at : ℕ) → slice_get xs at ≡ None → length xs ≤ at
ended xs at none = elim (slice_get_cases xs at).1 [
  | inl there ↦ let e : None ≡ Some there.0 = sym none ∙ there.2 in absurd (cc)
  | inr past ↦ past.0
]

-- what stands at a place of them is in the body
in_body : (s : Progress) (p : ℕ) (r : GrammarRule) (symbols : List code.Symbol) (marks : List Bool) (before at : ℕ)
    (X : code.Symbol) → IsRead s p r symbols marks before at → slice_get symbols at ≡ Some X
    → (slice_get (map symbol_of symbols) at ≡ Some (symbol_of X)) × Contains r.body (symbol_of X)
in_body s p r symbols marks before at X is e =
    let here : slice_get (map symbol_of symbols) at ≡ Some (symbol_of X)
    = slice_get-map symbol_of symbols at ∙ ap (option_map symbol_of) e in
    (here, at_place r.body at (symbol_of X) (subst (λ w. slice_get w at ≡ Some (symbol_of X)) is.body here))

-- what stands behind them stops the rule
pub stop_of : (G : Grammar) (s : Progress) (p : ℕ) (r : GrammarRule) (symbols : List code.Symbol) (marks : List Bool)
    (before at : ℕ) (stop : Option code.Symbol) → IsRead s p r symbols marks before at → HasPlaces s p r
    → IsSearch G s → IsRule G p r → stop ≡ slice_get symbols at → StopsAt (with_passed s p at) r stop
stop_of G s p r symbols marks before at None is places search rule e =
    let le : length symbols ≤ at = ended symbols at (sym e) in
    let long : length r.body ≤ at = subst (λ n. n ≤ at) (sym (length-map symbols symbol_of) ∙ ap length is.body) le in
    subst (λ w. SymbolsPass s.found s.terminals w) (take_all at r.body long)
    (passed_now G s p r symbols marks before at is places search rule).1
stop_of G s p r symbols marks before at (Some X) is places search rule e =
    let here = in_body s p r symbols marks before at X is (sym e) in
    (here.1, subst (λ bs. passes bs s.terminals (symbol_of X) ≡ false) is.found (is.stops (symbol_of X) here.0))

-- all of the body passes: the left side is found
pub all_passed : (G : Grammar) (s : Progress) (p : ℕ) (r : GrammarRule) → r.left < length s.found → IsSearch G s
    → IsRule G p r → SymbolsPass s.found s.terminals r.body → Advances G s (with_found s r.left) p r
all_passed G s p r lt search rule all = record {
  on = on_found G s r.left search lt
      (rule_tree G s.terminals p r rule (body_trees G s.found s.terminals r.body search.sound all));
  settled = λ pending. found (is_found s r.left lt);
}

-- a nonterminal that wasn't found stands in the way: the rule waits
pub nonterminal_stops : (G : Grammar) (s : Progress) (p : ℕ) (r : GrammarRule) (A : ℕ) → IsSearch G s → IsRule G p r
    → Contains r.body (nonterminal A) → was_found s A ≡ false → A < length s.waiting
    → Advances G s (with_waiting s A p) p r
nonterminal_stops G s p r A search rule member not lt = record {
  on = on_waiting G s A p r search rule lt;
  settled = λ pending. waiting A member (waits_now s A p lt) (inl not);
}

-- a step that settles a rule, after one that passed some of it
pub then_advances : (G : Grammar) (s t u : Progress) (p : ℕ) (r : GrammarRule) → SearchGoesOn G s t → Advances G t u p r
    → Advances G s u p r
then_advances G s t u p r on is = record { on = through G s t u on is.on; settled = is.settled }

-- a symbol of a body has its place
pub numbered_in : (n : ℕ) (w : List Symbol) (A : ℕ) → All (HasNumberBelow n) w → Contains w (nonterminal A) → A < n
numbered_in n w A all member = All-contains (HasNumberBelow n) w (nonterminal A) all member

-- so a rule's body was passed as far as that
pub has_passed : (s : Progress) (p : ℕ) (r : GrammarRule) (symbols : List code.Symbol) (marks : List Bool)
    (before at : ℕ)
    (stop : Option code.Symbol) → IsRead s p r symbols marks before at → HasPlaces s p r
    → stop ≡ slice_get symbols at → HasPassed s (with_passed s p at) p r stop
has_passed s p r symbols marks before at stop is places e = record {
  rest = refl;
  inside = inside stop e;
  on = λ G search rule. on_passed G s p at r search rule places.rule
      (passed_now G s p r symbols marks before at is places search rule);
  stops = λ G search rule. stop_of G s p r symbols marks before at stop is places search rule e;
} where
  inside : (o : Option code.Symbol) → o ≡ slice_get symbols at → IfSome o (λ X. Contains r.body (symbol_of X))
  inside None e = tt
  inside (Some X) e = (in_body s p r symbols marks before at X is (sym e)).1

-- what stands at a place of a list, by a reference to it
pub copied_get : (o : Option (Bor code.Symbol)) (xs : List code.Symbol) (at : ℕ) → is_some o ≡ ltb at (length xs)
    → IfSome o (λ x. x.now ≡ slice_index_or xs at x.now) → option_copied o ≡ slice_get xs at
copied_get o xs at is value = elim (cases_lt at (length xs)) [
  | inl below ↦ here o (is ∙ lt-ltb at (length xs) below) value below
  | inr above ↦ past o (is ∙ le-ltb at (length xs) above) above
] where
  here : (p : Option (Bor code.Symbol)) → is_some p ≡ true → IfSome p (λ x. x.now ≡ slice_index_or xs at x.now)
      → at < length xs → option_copied p ≡ slice_get xs at
  here None e v lt = absurd (cc)
  here (Some x) e v lt = ap (λ y. Some y) v ∙ sym (slice_get-get_or xs at x.now lt)

  past : (p : Option (Bor code.Symbol)) → is_some p ≡ false → length xs ≤ at → option_copied p ≡ slice_get xs at
  past None e le = sym (slice_get_past xs at le)
  past (Some x) e le = absurd (cc)
