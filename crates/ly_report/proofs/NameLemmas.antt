-- Symbols that have names.
use Rattle.std.proofs.Common.{◌≡◌, ◌∙◌, ◌≤◌, ◌∷◌, ◌++◌, [], ℕ, zero, suc, List, All, Some, length, map}
use Rattle.std.proofs.Common.{reverse, refl, sym, ap}
use Rattle.std.proofs.Common.{subst, arith}
use Rattle.std.proofs.lemmas.List.{map-append, reverse-append}
use Rattle.std.proofs.lemmas.List.Elements.{All-cons, All-head, All-nil, All-push, All-tail}
use Rattle.ly_join.specs.Grammar.{IsGrammar, IsRule, GrammarRule, Symbol, SymbolWithin, nonterminal}
use Rattle.ly_join.specs.Grammar.{symbol_of, terminal}
use Rattle.ly_join.specs.Joined.{Spec}
use Rattle.ly_join.specs.Sizes.{HasSizes}
use Rattle.ly_join.specs.declared.symbol.Symbol as code
use Rattle.ly_report.specs.Private.Symbols.{IsNamed}

-- all have names
pub are_named : (s : Spec) (xs : List code.Symbol) (w : List Symbol) → map symbol_of xs ≡ w → All (IsNamed s) w
    → All (λ x. IsNamed s (symbol_of x)) xs
are_named s xs w e all = of_map xs (subst (All (IsNamed s)) (sym e) all) where
  of_map : (xs : List code.Symbol) → All (IsNamed s) (map symbol_of xs) → All (λ x. IsNamed s (symbol_of x)) xs
  of_map [] all = All-nil (λ x. IsNamed s (symbol_of x))
  of_map (x ∷ xs) all = All-cons (λ x. IsNamed s (symbol_of x)) x xs
      (All-head (IsNamed s) (symbol_of x) (map symbol_of xs) all)
      (of_map xs (All-tail (IsNamed s) (symbol_of x) (map symbol_of xs) all))

-- what is reversed behind its first
reverse-cons : {X : Type 0} (x : X) (xs : List X) → reverse (x ∷ xs) ≡ reverse xs ++ x ∷ []
reverse-cons x xs = reverse-append (x ∷ []) xs

pub map-reverse : {X Y : Type 0} (f : X → Y) (xs : List X) → map f (reverse xs) ≡ reverse (map f xs)
map-reverse f [] = refl
map-reverse f (x ∷ xs) =
    ap (map f) (reverse-cons x xs) ∙ map-append f (reverse xs) (x ∷ [])
    ∙ ap (λ l. l ++ f x ∷ []) (map-reverse f xs) ∙ sym (reverse-cons (f x) (map f xs))

pub All-reverse : {X : Type 0} (P : X → Type 0) (xs : List X) → All P xs → All P (reverse xs)
All-reverse P [] all = All-nil P
All-reverse P (x ∷ xs) all =
    subst (All P) (sym (reverse-cons x xs))
    (All-push P (reverse xs) x (All-reverse P xs (All-tail P x xs all)) (All-head P x xs all))

-- a symbol that rules may name has a name
within_named : (s : Spec) → HasSizes s → (X : Symbol) → SymbolWithin s.grammar.terminals s.grammar.accept X
    → IsNamed s X
within_named s sizes (terminal t) within = let long = sizes.terminals in omega (arith, within.1, long)
within_named s sizes (nonterminal A) within = let long = sizes.nonterminals in omega (arith, within, long)

all_within_named : (s : Spec) → HasSizes s → (w : List Symbol)
    → All (SymbolWithin s.grammar.terminals s.grammar.accept) w → All (IsNamed s) w
all_within_named s sizes [] all = All-nil (IsNamed s)
all_within_named s sizes (X ∷ w) all =
    let Within = SymbolWithin s.grammar.terminals s.grammar.accept in
    All-cons (IsNamed s) X w (within_named s sizes X (All-head Within X w all))
    (all_within_named s sizes w (All-tail Within X w all))

-- the symbols of rules have names
pub left_named : (s : Spec) → HasSizes s → IsGrammar s.grammar → (p : ℕ) (r : GrammarRule) → IsRule s.grammar p r
    → 1 ≤ p
    → IsNamed s (nonterminal r.left)
left_named s sizes is p r rule le =
    let long = sizes.nonterminals in
    let lt = (is.augmented.within p r rule le).left in
    omega (arith, lt, long)

pub body_named : (s : Spec) → HasSizes s → IsGrammar s.grammar → (p : ℕ) (r : GrammarRule) → IsRule s.grammar p r
    → All (IsNamed s) r.body
body_named s sizes is zero r rule = named
  where
    long : length s.nonterminals ≡ s.grammar.accept
    long = sym sizes.nonterminals

    same : r.body ≡ nonterminal s.grammar.start ∷ terminal 0 ∷ []
    same = let e = is.augmented.rule_0 in let one : Some (Some r) ≡ _ = sym rule ∙ e in cc

    named : All (IsNamed s) r.body
    named = subst (All (IsNamed s)) (sym same) (All-cons (IsNamed s) (nonterminal s.grammar.start) (terminal 0 ∷ [])
        (let lt = is.augmented.start_within in omega (arith, lt, long))
        (All-cons (IsNamed s) (terminal 0) [] (let lt = is.augmented.end_within in let many = sizes.terminals in
        omega (arith, lt, many)) (All-nil (IsNamed s))))
body_named s sizes is (suc p) r rule =
    all_within_named s sizes r.body (is.augmented.within (suc p) r rule (omega arith)).body
