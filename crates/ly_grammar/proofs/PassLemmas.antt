-- Symbols that pass.
use Rattle.std.proofs.Common.{◌≡◌, ◌<◌, ◌≤◌, ◌+◌, ◌∙◌, ℕ, List, [], ◌∷◌, ◌++◌, Bool, true, false, sym, ap}
use Rattle.std.proofs.Common.{subst, arith, inl, inr, take, length, map, All, Contains, slice_index_or, slice_get}
use Rattle.std.proofs.Common.{slice_set, Some, add-one, ◌↔◌}
use Rattle.std.proofs.Math.Seq.{take-suc}
use Rattle.std.proofs.Math.ListN.{get_or-map}
use Rattle.std.proofs.lemmas.Bool.{cases_lt}
use Rattle.std.proofs.lemmas.List.{get_or-set_same, get_or-set_other, length-map, take_all}
use Rattle.std.proofs.lemmas.List.Elements.{Contains-append_cases, Contains-get_or}
use Rattle.std.proofs.lemmas.Option.{slice_get-get_or}
use Rattle.ly_base.proofs.MemberLemmas.{Contains-one}
use Rattle.ly_join.specs.Grammar.{Symbol, symbol_of, terminal, nonterminal}
use Rattle.ly_join.specs.declared.symbol.Symbol as code
use Rattle.ly_grammar.specs.Private.Search.{SymbolsPass, HasNumberBelow, passes}

-- one symbol more passes
pub pass_more : (found : List Bool) (allowed : Bool) (w : List Symbol) (at : ℕ) (d : Symbol) → at < length w
    → SymbolsPass found allowed (take at w) → passes found allowed (slice_index_or w at d) ≡ true
    → SymbolsPass found allowed (take (at + 1) w)
pass_more found allowed w at d lt before here X member =
    let cut : take (at + 1) w ≡ take at w ++ slice_index_or w at d ∷ []
    = ap (λ n. take n w) (add-one at) ∙ take-suc w at d lt in
    elim (Contains-append_cases (take at w) (slice_index_or w at d ∷ []) X
    (subst (λ xs. Contains xs X) cut member)) [
      | inl earlier ↦ before X earlier
      | inr last ↦ subst (λ Y. passes found allowed Y ≡ true) (Contains-one (slice_index_or w at d) X last) here
    ]

-- what was found stays so
abbrev pub StayFound : List Bool → List Bool → Type 0
StayFound found later = (A : ℕ) → slice_index_or found A false ≡ true → slice_index_or later A false ≡ true

-- what passes still passes
pub still_passes : (found later : List Bool) (allowed : Bool) (w : List Symbol) → StayFound found later
    → SymbolsPass found allowed w → SymbolsPass later allowed w
still_passes found later allowed w stay all (terminal t) member = all (terminal t) member
still_passes found later allowed w stay all (nonterminal A) member = stay A (all (nonterminal A) member)

-- one that is marked is found
pub found_now : (found : List Bool) (A : ℕ) → A < length found
    → slice_index_or (slice_set found A true) A false ≡ true
found_now found A lt = get_or-set_same found A true false lt

-- and the others are as they were, or are found too
pub stay_found : (found : List Bool) (A : ℕ) → A < length found → StayFound found (slice_set found A true)
stay_found found A lt B e = elim (cases_lt A B) [
  | inl below ↦ get_or-set_other found A B true false (λ same. omega (arith, same, below)) ∙ e
  | inr above ↦ elim (cases_lt B A) [
    | inl less ↦ get_or-set_other found A B true false (λ same. omega (arith, same, less)) ∙ e
    | inr equal ↦ let same : A ≡ B = omega arith in
        subst (λ C. slice_index_or (slice_set found A true) C false ≡ true) same (found_now found A lt)
  ]
]

-- all of a string passes exactly where what passes of it ends with it
pub passes_to_end : (found : List Bool) (allowed : Bool) (w : List Symbol) (at : ℕ) → at ≤ length w
    → SymbolsPass found allowed (take at w)
    → ((X : Symbol) → slice_get w at ≡ Some X → passes found allowed X ≡ false)
    → (at ≡ length w) ↔ SymbolsPass found allowed w
passes_to_end found allowed w at le passing stops = (to, back) where
  to : at ≡ length w → SymbolsPass found allowed w
  to e = subst (λ v. SymbolsPass found allowed v) (take_all at w (omega (arith, e))) passing

  back : SymbolsPass found allowed w → at ≡ length w
  back all = elim (cases_lt at (length w)) [
    | inl below ↦
        let X : Symbol = slice_index_or w at (terminal 0) in
        let no : false ≡ true = sym (stops X (slice_get-get_or w at (terminal 0) below))
        ∙ all X (Contains-get_or w at (terminal 0) below) in
        absurd (cc)
    | inr past ↦ omega (arith, le, past)
  ]

-- a symbol at a place has its own
pub place_numbered : (n : ℕ) (xs : List code.Symbol) (at : ℕ) (d : code.Symbol) → at < length xs
    → All (HasNumberBelow n) (map symbol_of xs) → HasNumberBelow n (symbol_of (slice_index_or xs at d))
place_numbered n xs at d lt all = subst (HasNumberBelow n) (get_or-map symbol_of xs at d)
    (all at (symbol_of d) (subst (λ k. at < k) (sym (length-map xs symbol_of)) lt))
