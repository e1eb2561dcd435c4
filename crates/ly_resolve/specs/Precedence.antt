-- The verdict of precedence on a shift against a reduction (POSIX, XCU yacc, "Conflicts"; Aho, Johnson and Ullman
-- 1975).
use Rattle.std.specs.Prelude.{ℕ, ltb, Option, Some, option_and_then, slice_get, if◌then◌else◌}
use Rattle.ly_join.specs.Joined.{Spec}
use Rattle.ly_join.specs.declared.precedence.Associativity.{Associativity}
use Rattle.ly_join.specs.declared.precedence.Associativity.TheVariants.{Left, Right, Nonassociative}
use Rattle.ly_join.specs.declared.precedence.Precedence.{Precedence}
use Rattle.ly_resolve.specs.Actions.{Judge, PrecedenceVerdict, to_shift, to_reduce, to_error, unsettled}

-- for equal precedences, left prefers the reduction, right the shift, and nonassociative neither
abbrev pub between_equals : Associativity → PrecedenceVerdict
between_equals Left = to_reduce
between_equals Right = to_shift
between_equals Nonassociative = to_error

-- the verdict on a rule's precedence against a terminal's: the higher wins
abbrev pub by_levels : Precedence → Precedence → PrecedenceVerdict
by_levels rule token = if ltb token.level rule.level then to_reduce
    else (if ltb rule.level token.level then to_shift else between_equals token.associativity)

-- there is no verdict unless both have a precedence
abbrev pub verdict_of : Option Precedence → Option Precedence → PrecedenceVerdict
verdict_of (Some rule) (Some token) = by_levels rule token
verdict_of _ _ = unsettled

-- the precedence of a rule, if it has one
abbrev pub rule_precedence : Spec → ℕ → Option Precedence
rule_precedence s p = option_and_then (λ n. n.precedence) (slice_get s.notes p)

-- the precedence of a terminal, if it has one
abbrev pub token_precedence : Spec → ℕ → Option Precedence
token_precedence s t = option_and_then (λ p. p) (slice_get s.precedences t)

-- the verdicts of a specification's precedences
abbrev pub judge_of : Spec → Judge
judge_of s p t = verdict_of (rule_precedence s p) (token_precedence s t)
