-- A report from its parts.
use Rattle.std.proofs.Common.{◌≡◌, ◌∙◌, [], ◌++◌, All, List, ℕ, ap, map, subst, sym}
use Rattle.ly_join.specs.Grammar.{Grammar, IsGrammar}
use Rattle.ly_join.specs.Joined.{Spec}
use Rattle.ly_join.specs.Sizes.{HasSizes}
use Rattle.ly_grammar.specs.Reduction.{KeepsUseful}
use Rattle.ly_lr0.specs.Automaton.{Lr0Automaton}
use Rattle.ly_resolve.specs.Conflicts.{AreConflicts}
use Rattle.ly_resolve.specs.Precedence.{judge_of}
use Rattle.ly_resolve.specs.Resolved.{AreResolved, Resolved}
use Rattle.ly_resolve.specs.Values.{IsInside, conflict_from}
use Rattle.ly_resolve.specs.declared.conflict.Conflict.{Conflict}
use Rattle.ly_report.specs.Private.Symbols.{IsTellable}
use Rattle.ly_report.specs.Report.{AreRemoved, IsReport, conflicts_text, removed_text}
use Rattle.ly_report.proofs.ConflictLemmas.{are_tellable}
use Rattle.ly_report.proofs.LineLemmas.{joined}

-- the specification and the automaton that a resolved one has
pub record IsOf (r : Resolved) (s : Spec) (M : Lr0Automaton) (G : Grammar) : Type 0 where
  pub spec : s ≡ r.spec
  pub automaton : M ≡ r.automaton
  pub grammar : G ≡ s.grammar
  pub sizes : HasSizes s
  pub useful : KeepsUseful r.spec.grammar r.automaton.grammar
  pub resolved : AreResolved r.spec r.automaton r

-- its conflicts can be printed
pub conflicts_tellable : (r : Resolved) (s : Spec) (M : Lr0Automaton) (G : Grammar) (conflicts : List Conflict)
    → IsOf r s M G → IsGrammar G → map (conflict_from r.automaton) conflicts ≡ r.conflicts
    → All (IsInside r.automaton) conflicts → All (IsTellable s M) conflicts
conflicts_tellable r s M G conflicts of is these inside =
    let grammar : s.grammar ≡ r.spec.grammar = ap (λ (x : Spec). x.grammar) of.spec in
    let useful : KeepsUseful s.grammar M.grammar
    = subst (λ (A : Lr0Automaton). KeepsUseful s.grammar A.grammar) (sym of.automaton)
    (subst (λ (x : Spec). KeepsUseful x.grammar r.automaton.grammar) (sym of.spec) of.useful) in
    are_tellable s M (judge_of r.spec) conflicts r.conflicts of.sizes (subst IsGrammar of.grammar is) useful
    (subst (λ (A : Lr0Automaton). AreConflicts A.grammar (judge_of r.spec) r.conflicts) (sym of.automaton)
    of.resolved.conflicts)
    (subst (λ (A : Lr0Automaton). map (conflict_from A) conflicts ≡ r.conflicts) (sym of.automaton) these)
    (subst (λ (A : Lr0Automaton). All (IsInside A) conflicts) (sym of.automaton) inside)

-- the removed rules and the conflicts, told one after the other, are the report
pub report_told : (r : Resolved) (s : Spec) (M : Lr0Automaton) (G : Grammar) (conflicts : List Conflict)
    (removed before mid text : List ℕ) → IsOf r s M G → AreRemoved G removed
    → map (conflict_from r.automaton) conflicts ≡ r.conflicts → before ≡ []
    → mid ≡ before ++ removed_text s removed
    → text ≡ mid ++ conflicts_text s (map (conflict_from M) conflicts) → IsReport r.spec text
report_told r s M G conflicts removed before mid text of are these nothing first second = record {
  removed = removed;
  are_removed = subst (λ (x : Spec). AreRemoved x.grammar removed) of.spec
      (subst (λ (g : Grammar). AreRemoved g removed) of.grammar are);
  useful = r.automaton.grammar;
  are_useful = of.useful;
  conflicts = r.conflicts;
  are_conflicts = of.resolved.conflicts;
  are = joined before (removed_text s removed) (conflicts_text s (map (conflict_from M) conflicts)) second first
      ∙ ap (λ l. l ++ (removed_text s removed ++ conflicts_text s (map (conflict_from M) conflicts))) nothing
      ∙ ap (λ (x : Spec). removed_text x removed ++ conflicts_text x (map (conflict_from M) conflicts)) of.spec
      ∙ ap (λ (A : Lr0Automaton). removed_text r.spec removed
      ++ conflicts_text r.spec (map (conflict_from A) conflicts))
      of.automaton
      ∙ ap (λ told. removed_text r.spec removed ++ conflicts_text r.spec told) these;
}
