-- Precedences that are given to terminals.
use Rattle.std.proofs.Common.{◌≡◌, ◌≢◌, ◌∙◌, ◌<◌, ◌+◌, ◌⊎◌, inl, inr, ℕ, List, [], ◌∷◌, ◌++◌, Option, Some, None, refl}
use Rattle.std.proofs.Common.{sym, ap, subst, arith, AllPairs, Contains, length, map}
use Rattle.std.proofs.Common.{take, drop, slice_get, slice_index_or}
use Rattle.std.proofs.Common.{length-set, true≢false, get_or, suc, true, false}
use Rattle.std.specs.Prelude.{is_some, slice_set}
use Rattle.std.specs.Option.{option_map_or}
use Rattle.std.specs.List.{AllZip}
use Rattle.std.proofs.lemmas.Bool.{cases_eq}
use Rattle.std.proofs.lemmas.List.{append_assoc, append-nil, get_or-set_other, get_or-set_same, length-map}
use Rattle.std.proofs.lemmas.List.{length-take-le}
use Rattle.std.proofs.lemmas.List.Elements.{Contains-append_left, Contains-get_or, Contains-push, Contains-push_cases}
use Rattle.std.proofs.lemmas.List.Quantifiers.{all_pairs_push}
use Rattle.std.proofs.lemmas.Option.{same_Some, slice_get_within}
use Rattle.ly_yaccread.specs.Declarations.{Declared}
use Rattle.ly_yaccread.specs.File.{declared_of}
use Rattle.ly_yaccread.specs.declared.file.Declaration.{Declaration}
use Rattle.ly_join.specs.Numbering.{declared_terminals}
use Rattle.ly_join.specs.Private.Tables.{terminal_of}
use Rattle.ly_join.specs.declared.precedence.Associativity.{Associativity}
use Rattle.ly_join.specs.declared.fault.JoinFault.{JoinFault}
use Rattle.ly_join.specs.declared.fault.JoinFault.TheVariants.{UndefinedSymbol, TokenOnLeft, PrecedenceTwice}
use Rattle.ly_join.specs.declared.fault.JoinFault.TheVariants.{UnknownStart, ReturnUndeclared, PrecUnknown, NoRules}
use Rattle.ly_join.specs.declared.fault.JoinFault.TheVariants.{LimitPassed, OutOfMemory}
use Rattle.ly_join.proofs.CountLemmas.{declared_words}
use Rattle.ly_join.specs.Precedences.{associativity_of, given, given_by, given_from, HasPrecedence, IsGivenTwice}
use Rattle.ly_join.specs.Private.Rules.{AreGiven, IsGivingFault}
use Rattle.ly_join.specs.Terminals.{terminal_from, TerminalName}
use Rattle.ly_join.specs.declared.precedence.Precedence.{Precedence}
use Rattle.ly_join.proofs.ListLemmas.{map_twice, mapped_more, mapped_split, one_place}

module _ (all : List (TerminalName × Precedence)) (ts : List TerminalName) (ps : List (Option Precedence)) (t : ℕ)
    (x : TerminalName)
    (so_far : AreGiven all ts ps) (here : slice_get ts t ≡ Some x) where
  -- a terminal that has a precedence is given one again
  pub given_again : (p : Precedence) (back : List (TerminalName × Precedence))
      → is_some (slice_index_or ps t None) ≡ true → IsGivenTwice (all ++ (x, p) ∷ back) x
  given_again p back is = by (slice_index_or ps t None) (so_far.each t x here) is
    where
      by : (o : Option Precedence) → HasPrecedence all x o → is_some o ≡ true → IsGivenTwice (all ++ (x, p) ∷ back) x
      by None has e = absurd (true≢false (sym e))
      by (Some q) has e = (all, back, q, p, refl, has)

  -- and one that has none gets it
  pub given_more : (p : Precedence) → AllPairs (λ y z. y ≢ z) ts → slice_index_or ps t None ≡ None
      → AreGiven (all ++ (x, p) ∷ []) ts (slice_set ps t (Some p))
  given_more p apart free = record {
    long = length-set ps t (Some p) ∙ so_far.long;
    each = λ u y at. each u y at (cases_eq u t);
    once = all_pairs_push (λ a b. a.0 ≢ b.0) all (x, p) so_far.once
        (λ k d lt same. none (get_or all k d).1
        (subst (λ z. Contains all (z, (get_or all k d).1)) same (Contains-get_or all k d lt)));
  } where
    none : (q : Precedence) → Contains all (x, q) → ⊥
    none = subst (HasPrecedence all x) free (so_far.each t x here)

    later : (y : TerminalName) (o : Option Precedence) → (x ≡ y → ⊥) → HasPrecedence all y o
        → HasPrecedence (all ++ (x, p) ∷ []) y o
    later y None other has = λ q there. elim (Contains-push_cases all (x, p) (y, q) there) [
      | inl old ↦ has q old
      | inr e ↦ other (ap (λ a. a.0) e)
    ]
    later y (Some q) other has = Contains-append_left all ((x, p) ∷ []) (y, q) has

    each : (u : ℕ) (y : TerminalName) → slice_get ts u ≡ Some y → (u ≡ t) ⊎ (u ≡ t → ⊥)
        → HasPrecedence (all ++ (x, p) ∷ []) y (slice_index_or (slice_set ps t (Some p)) u None)
    each u y at (inl e) =
        let same : x ≡ y = same_Some x y (sym here ∙ (ap (slice_get ts) (sym e) ∙ at)) in
        let within : t < length ps = omega (arith, slice_get_within ts t x here, so_far.long) in
        let found : slice_index_or (slice_set ps t (Some p)) u None ≡ Some p
        = ap (λ k. slice_index_or (slice_set ps t (Some p)) k None) e ∙ get_or-set_same ps t (Some p) None within in
        subst (HasPrecedence (all ++ (x, p) ∷ []) y) (sym found)
        (subst (λ z. Contains (all ++ (x, p) ∷ []) (z, p)) same (Contains-push all (x, p)))
    each u y at (inr other) =
        let apart' : x ≡ y → ⊥ = λ e. other (one_place (λ z. z) ts u t y x apart at here (sym e)) in
        subst (HasPrecedence (all ++ (x, p) ∷ []) y) (sym (get_or-set_other ps t u (Some p) None other))
        (later y (slice_index_or ps u None) apart' (so_far.each u y at))

-- what one declaration more gives
given_from_push : (n : ℕ) (ds : List Declared) (d : Declared)
    → given_from n (ds ++ d ∷ []) ≡ given_from n ds ++ given_by (n + length ds) d
given_from_push n [] d = append-nil (given_by n d) ∙ ap (λ k. given_by k d) (omega arith)
given_from_push n (e ∷ ds) d = ap (λ xs. given_by n e ++ xs) (given_from_push (n + 1) ds d)
    ∙ (sym (append_assoc (given_by n e) (given_from (n + 1) ds) (given_by (n + 1 + length ds) d))
    ∙ ap (λ k. (given_by n e ++ given_from (n + 1) ds) ++ given_by k d) (omega arith))

pub given_push : (ds : List Declared) (d : Declared) → given (ds ++ d ∷ []) ≡ given ds ++ given_by (length ds) d
given_push ds d = given_from_push 0 ds d ∙ ap (λ k. given ds ++ given_by k d) (omega arith)

-- and what two lists of declarations give
given_from_split : (n : ℕ) (ds es : List Declared)
    → given_from n (ds ++ es) ≡ given_from n ds ++ given_from (n + length ds) es
given_from_split n [] es = ap (λ k. given_from k es) (omega arith)
given_from_split n (d ∷ ds) es = ap (λ xs. given_by n d ++ xs) (given_from_split (n + 1) ds es)
    ∙ (sym (append_assoc (given_by n d) (given_from (n + 1) ds) (given_from (n + 1 + length ds) es))
    ∙ ap (λ k. (given_by n d ++ given_from (n + 1) ds) ++ given_from k es) (omega arith))

pub given_split : (ds es : List Declared) → given (ds ++ es) ≡ given ds ++ given_from (length ds) es
given_split ds es = given_from_split 0 ds es ∙ ap (λ k. given ds ++ given_from k es) (omega arith)

-- given twice among some is given twice among more
pub twice_more : (all back : List (TerminalName × Precedence)) (x : TerminalName) → IsGivenTwice all x
    → IsGivenTwice (all ++ back) x
twice_more all back x (front, rest, p, q, e, there) =
    (front, rest ++ back, p, q, ap (λ xs. xs ++ back) e ∙ append_assoc front ((x, q) ∷ rest) back, there)

-- the precedences of terminals one by one
pub given_zip : (all : List (TerminalName × Precedence)) (ts : List TerminalName) (ps : List (Option Precedence))
    → length ps ≡ length ts → ((t : ℕ) (x : TerminalName) → slice_get ts t ≡ Some x
    → HasPrecedence all x (slice_index_or ps t None)) → AllZip (HasPrecedence all) ts ps
given_zip all [] [] long each = tt
given_zip all [] (p ∷ ps) long each = absurd (omega (arith, long))
given_zip all (x ∷ ts) [] long each = absurd (omega (arith, long))
given_zip all (x ∷ ts) (p ∷ ps) long each =
    (each 0 x refl, given_zip all ts ps (omega (arith, long)) (λ t y at. each (suc t) y at))

-- a place with no precedence
pub free_place : (ps : List (Option Precedence)) (t : ℕ) → is_some (slice_index_or ps t None) ≡ false
    → slice_index_or ps t None ≡ None
free_place ps t is = by (slice_index_or ps t None) is
  where
    by : (o : Option Precedence) → is_some o ≡ false → o ≡ None
    by None e = refl
    by (Some p) e = absurd (true≢false e)

-- what a declaration of precedence gives, by its symbols
pub given_symbols : (n : ℕ) (d : Declaration) (a : Associativity) → associativity_of d.kind ≡ Some a
    → given_by n (declared_of d)
    ≡ map (λ s. let p : Precedence = record { level = n; associativity = a } in (terminal_of s, p)) d.symbols.items
given_symbols n d a is =
    let pair : TerminalName → TerminalName × Precedence
    = λ x. let p : Precedence = record { level = n; associativity = a } in (x, p) in
    ap (λ o. option_map_or (λ b. map (λ x. let p : Precedence = record { level = n; associativity = b } in (x, p))
    (declared_terminals (declared_of d))) o []) is
    ∙ (ap (map pair) (declared_words d.symbols.items) ∙ map_twice pair terminal_of d.symbols.items)

-- one of no precedence gives nothing
pub given_nothing : (n : ℕ) (d : Declared) → associativity_of d.kind ≡ None → given_by n d ≡ []
given_nothing n d is = ap (λ o. option_map_or (λ b. map (λ x. let p : Precedence = record {
  level = n;
  associativity = b;
} in (x, p)) (declared_terminals d)) o []) is

-- a fault of what is given so far is one of all
pub giving_more : (all back : List (TerminalName × Precedence)) (f : JoinFault) → IsGivingFault all f
    → IsGivingFault (all ++ back) f
giving_more all back (PrecedenceTwice t) h = twice_more all back (terminal_from t) h
giving_more all back OutOfMemory h = tt
giving_more all back (UndefinedSymbol n) h = absurd h
giving_more all back (TokenOnLeft n) h = absurd h
giving_more all back (UnknownStart n) h = absurd h
giving_more all back (ReturnUndeclared n) h = absurd h
giving_more all back (PrecUnknown n) h = absurd h
giving_more all back NoRules h = absurd h
giving_more all back (LimitPassed which) h = absurd h

module _ (ds : List Declaration) (level : ℕ) (d : Declaration) (lt : level < length ds)
    (is : d ≡ slice_index_or ds level d) where
  abbrev pub before : List Declared
  before = take level (map declared_of ds)

  so_many : length before ≡ level
  so_many = length-take-le level (map declared_of ds) (omega (arith, lt, length-map ds declared_of))

  -- what the declarations up to this one give
  pub given_up_to : given (take (level + 1) (map declared_of ds)) ≡ given before ++ given_by level (declared_of d)
  given_up_to = ap given (mapped_more declared_of ds level d lt is)
      ∙ (given_push before (declared_of d) ∙ ap (λ k. given before ++ given_by k (declared_of d)) so_many)

  -- and what all of them do
  pub given_beyond : given (map declared_of ds) ≡ (given before ++ given_by level (declared_of d))
      ++ given_from (level + 1) (drop (level + 1) (map declared_of ds))
  given_beyond = ap given (mapped_split declared_of ds level d lt is)
      ∙ (given_split before (declared_of d ∷ drop (level + 1) (map declared_of ds))
      ∙ (ap (λ k. given before ++ (given_by k (declared_of d)
      ++ given_from (k + 1) (drop (level + 1) (map declared_of ds)))) so_many
      ∙ sym (append_assoc (given before) (given_by level (declared_of d))
      (given_from (level + 1) (drop (level + 1) (map declared_of ds))))))
