-- The conditions that actions set are those of the file, and there is one.
use Rattle.std.proofs.Common.{◌≡◌, ◌∙◌, ◌<◌, ℕ, zero, suc, List, [], ◌∷◌, Some, ap, arith, length, map}
use Rattle.std.proofs.Common.{option_map, slice_get, subst, sym}
use Rattle.std.specs.List.{position_or_len}
use Rattle.std.specs.Str.{bytes_eq}
use Rattle.std.proofs.lemmas.Option.{slice_get-map}
use Rattle.ly_ere.specs.Names.{Definition}
use Rattle.ly_ere.specs.declared.pattern.Rule.{Rule}
use Rattle.ly_lexread.specs.Action.{AreEffects, Effect, Saying, effect_of, next, own}
use Rattle.ly_lexread.specs.Conditions.{Condition}
use Rattle.ly_lexread.specs.Definitions.{at_first}
use Rattle.ly_lexread.specs.LexText.{LexText}
use Rattle.ly_lexread.specs.Rules.{Rules, end, rule, skip}
use Rattle.ly_lexread.specs.Statements.{HasEffect, NamesCondition, SaysAction, Statement, StatementFirst, Statements}
use Rattle.ly_lexread.specs.Statements.{begins, done, empty, ends, in_braces, more, of_next, on_line, returns}
use Rattle.ly_lexread.specs.Words.{Word, literal, mark, name, text_byte}
use Rattle.ly_lexread.specs.declared.action.LexAction.{LexAction}
use Rattle.ly_lexread.specs.declared.file.LexFile.{LexFile}
use Rattle.ly_lexread.specs.declared.statement.Extent.{Extent}
use Rattle.ly_lexread.proofs.FileLemmas.{some_condition, within_length}

-- the condition that an effect sets is below a bound
abbrev BeginsBelow : ℕ → Effect → Type 0
BeginsBelow n e = (c : ℕ) → e.begin ≡ Some c → c < n

abbrev SayBelow : ℕ → List Saying → Type 0
SayBelow n [] = Unit {0}
SayBelow n (own e ∷ ss) = BeginsBelow n e × SayBelow n ss
SayBelow n (next ∷ ss) = SayBelow n ss

abbrev AreBelow : ℕ → List Effect → Type 0
AreBelow n [] = Unit {0}
AreBelow n (e ∷ es) = BeginsBelow n e × AreBelow n es

module _ (cs : List Condition) (some : 0 < length cs) where
  named_below : (x : Word) (n : ℕ) → NamesCondition cs x n → n < length cs
  named_below (mark b) n h = let zero_is = h.1 in omega (arith, zero_is, some)
  named_below (name s) n h = within_length (position_or_len (λ c. bytes_eq s c.0) cs) (length cs) n h
  named_below text_byte n h = absurd h
  named_below (literal b) n h = absurd h

  follows_below : (e : Extent) (d f : Effect) (s : Statement) (text behind : List ℕ)
      → StatementFirst cs e text s behind → HasEffect d s f → BeginsBelow (length cs) d → BeginsBelow (length cs) f
  follows_below e d f ends text behind first follows below = absurd follows
  follows_below e d f empty text behind first follows below = subst (BeginsBelow (length cs)) (sym follows) below
  follows_below e d f (begins n) text behind first follows below = λ c is.
      let same : Some n ≡ Some c = sym (ap (λ g. g.begin) follows.1) ∙ is in
      let one : n ≡ c = cc in
      let lt = named_below first.0 n first.1.3 in
      omega (arith, one, lt)
  follows_below e d f (returns m) text behind first follows below
      = λ c is. below c (sym (ap (λ g. g.begin) follows.1) ∙ is)

  statements_below : {e : Extent} {d g : Effect} {text rest : List ℕ} → Statements cs e d text g rest
      → BeginsBelow (length cs) d → BeginsBelow (length cs) g
  statements_below (done d text rest over) below = below
  statements_below {e = e} (more d f g s text behind rest first follows later) below
      = statements_below later (follows_below e d f s text behind first follows below)

  saying_below : {line tail : List ℕ} {s : Saying} {rest : List ℕ} → SaysAction cs line tail s rest
      → SayBelow (length cs) (s ∷ [])
  saying_below (on_line e all) = (statements_below all (λ c is. absurd cc), tt)
  saying_below (of_next bar) = tt
  saying_below (in_braces e inside behind rest front all over) = (statements_below all (λ c is. absurd cc), tt)

  say_cons : (s : Saying) (ss : List Saying) → SayBelow (length cs) (s ∷ []) → SayBelow (length cs) ss
      → SayBelow (length cs) (s ∷ ss)
  say_cons (own e) ss one all = (one.0, all)
  say_cons next ss one all = all

  rules_below : {names : List Definition} {text : List ℕ} {rules : List Rule} {sayings : List Saying}
      {lefts : List ℕ} → Rules cs names text rules sayings lefts → SayBelow (length cs) sayings
  rules_below (end text over) = tt
  rules_below (skip text rest rules sayings lefts skips later) = rules_below later
  rules_below (rule text rest r s rules sayings lefts before later)
      = say_cons s sayings (saying_below before.says) (rules_below later)

effects_below : (n : ℕ) (ss : List Saying) (es : List Effect) → AreEffects ss es → SayBelow n ss → AreBelow n es
effects_below n [] [] are below = tt
effects_below n [] (e ∷ es) are below = absurd are
effects_below n (own d ∷ ss) [] are below = absurd are
effects_below n (own d ∷ ss) (e ∷ es) are below
    = (subst (BeginsBelow n) (sym are.0) below.0, effects_below n ss es are.1 below.1)
effects_below n (next ∷ ss) [] are below = absurd are
effects_below n (next ∷ ss) (e ∷ []) are below = absurd are
effects_below n (next ∷ ss) (e ∷ f ∷ es) are below = let later = effects_below n ss (f ∷ es) are.1 below in
    (subst (BeginsBelow n) (sym are.0) later.0, later)

effect_below : (n : ℕ) (es : List Effect) (k : ℕ) (e : Effect) → AreBelow n es → slice_get es k ≡ Some e
    → BeginsBelow n e
effect_below n [] k e below at = absurd cc
effect_below n (f ∷ es) zero e below at = let same : f ≡ e = cc in subst (BeginsBelow n) same below.0
effect_below n (f ∷ es) (suc k) e below at = effect_below n es k e below.1 at

module _ (bytes : List ℕ) (file : LexFile) (text : LexText bytes file) where
  some_there : 0 < length text.all.conditions
  some_there = some_condition at_first text.all bytes text.behind (omega arith) text.definitions

  -- a file has a condition
  pub has_condition : 0 < file.conditions
  has_condition = let some = some_there in let count = text.conditions in omega (arith, some, count)

  -- and what an action sets is one
  pub begins_below : (k : ℕ) (a : LexAction) (c : ℕ) → slice_get file.actions.items k ≡ Some a → a.begin ≡ Some c
      → c < file.conditions
  begins_below k a c at is =
      let below = effects_below (length text.all.conditions) text.sayings (map effect_of file.actions.items)
      text.effects (rules_below text.all.conditions some_there text.rules) in
      let lt = effect_below (length text.all.conditions) (map effect_of file.actions.items) k (effect_of a) below
      (slice_get-map effect_of file.actions.items k ∙ ap (option_map effect_of) at) c is in
      let count = text.conditions in
      omega (arith, lt, count)
