-- What is found in files of a specification is said of them.
use Rattle.std.proofs.Common.{Err, IfOk, List, None, Ok, Option, Result, Some, ℕ}
use Rattle.std.specs.Prelude.{MatchOption}
use Rattle.ly_base.specs.Limits.{Sizes}
use Rattle.ly_join.specs.Grammar.{Grammar}
use Rattle.ly_join.specs.Joined.{Spec}
use Rattle.ly_generate.specs.Accepted.{IsFit, Specifies}
use Rattle.ly_report.specs.Counts.{AreCounts}
use Rattle.ly_explain.specs.Findings.{AreFoundIn}
use Rattle.ly_explain.specs.declared.surveying.Explanation.{Explanation}
use Rattle.ly_explain.specs.declared.surveying.Findings.{Findings}
use Rattle.ly_explain.specs.Explained.{IsExplained, IsWellFormed}

found_so : (limits : Sizes) (lex yacc : List ℕ) (s : Spec) → Specifies limits lex yacc s → (P : Type 0)
    → (o : Option Findings) → (useful : Grammar) × IsFit limits s useful
    → MatchOption o ⊥ (λ found. AreCounts s found.conflicts)
    → MatchOption o P (λ found. IsWellFormed limits lex yacc found.conflicts)
found_so limits lex yacc s says P None fit found = absurd found
found_so limits lex yacc s says P (Some f) fit found =
    record { spec = s; specifies = says; useful = fit.0; fit = fit.1; are_counts = found }

pub explained : (limits : Sizes) (lex yacc : List ℕ) (s : Spec) → Specifies limits lex yacc s → (e : Explanation)
    → (useful : Grammar) × IsFit limits s useful → AreFoundIn s e → IsExplained limits lex yacc e
explained limits lex yacc s says e fit found = found_so limits lex yacc s says _ e.findings fit found

pub both_ok : {T E : Type 0} (r : Result T E) (P Q : T → Type 0) → IfOk r P → IfOk r Q → IfOk r (λ x. P x × Q x)
both_ok (Ok x) P Q p q = (p, q)
both_ok (Err e) P Q p q = p
