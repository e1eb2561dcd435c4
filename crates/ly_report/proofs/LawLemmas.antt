-- A specification has one report: its removed rules and its conflicts have one order.
use Rattle.std.proofs.Common.{◌≡◌, ◌∙◌, inl, inr, ℕ, suc, ◌<◌, List, [], ◌∷◌, ◌++◌, Option, Some, None, refl, sym, ap}
use Rattle.std.proofs.Common.{subst, arith, length, map, slice_get}
use Rattle.std.specs.Prelude.{◌↔◌, flat_map}
use Rattle.ly_base.proofs.ListLemmas.{rising_one}
use Rattle.ly_join.specs.Grammar.{Grammar, GrammarRule}
use Rattle.ly_join.specs.Joined.{Spec}
use Rattle.ly_grammar.specs.Reduction.{KeepsUseful}
use Rattle.ly_lr0.specs.Automaton.{ComesBefore}
use Rattle.ly_lr0.proofs.OrderLemmas.{before_trans, not_before_itself}
use Rattle.ly_resolve.specs.Conflicts.{AreConflicts, Conflict, IsBefore, IsKindBefore, Kind, reduce_reduce}
use Rattle.ly_resolve.specs.Conflicts.{shift_reduce}
use Rattle.ly_resolve.specs.Precedence.{judge_of}
use Rattle.ly_report.specs.Laws.{CountsAreOne, ReportIsOne, ReportTellsCounts}
use Rattle.ly_report.specs.Report.{conflict_line, conflicts_text, count_of, counts_line, removed_text}

kind_off : (k l : Kind) → IsKindBefore k l → IsKindBefore l k → ⊥
kind_off shift_reduce shift_reduce a b = a
kind_off shift_reduce reduce_reduce a b = b
kind_off reduce_reduce shift_reduce a b = a
kind_off reduce_reduce reduce_reduce a b = a

kind_irreflexive : (k : Kind) → IsKindBefore k k → ⊥
kind_irreflexive k a = kind_off k k a a

-- of two conflicts one comes first
conflict_off : (c d : Conflict) → IsBefore c d → IsBefore d c → ⊥
conflict_off c d (inl a) (inl b) = not_before_itself c.prefix (before_trans c.prefix d.prefix c.prefix a b)
conflict_off c d (inl a) (inr (same, b)) = not_before_itself c.prefix (subst (ComesBefore c.prefix) same a)
conflict_off c d (inr (same, a)) (inl b) = not_before_itself d.prefix (subst (ComesBefore d.prefix) same b)
conflict_off c d (inr (_, inl a)) (inr (_, inl b)) = omega (arith, a, b)
conflict_off c d (inr (_, inl a)) (inr (_, inr (same, b))) = omega (arith, a, same)
conflict_off c d (inr (_, inr (same, a))) (inr (_, inl b)) = omega (arith, b, same)
conflict_off c d (inr (_, inr (_, inl a))) (inr (_, inr (_, inl b))) = kind_off c.kind d.kind a b
conflict_off c d (inr (_, inr (_, inl a))) (inr (_, inr (_, inr (same, b)))) =
    kind_irreflexive c.kind (subst (IsKindBefore c.kind) same a)
conflict_off c d (inr (_, inr (_, inr (same, a)))) (inr (_, inr (_, inl b))) =
    kind_irreflexive d.kind (subst (IsKindBefore d.kind) same b)
conflict_off c d (inr (_, inr (_, inr (_, a)))) (inr (_, inr (_, inr (_, b)))) = omega (arith, a, b)

-- lists with the same rules under the same numbers are one
rules_one : (xs ys : List (Option GrammarRule)) → length xs ≡ length ys
    → ((p : ℕ) (r : GrammarRule) → slice_get xs p ≡ Some (Some r) ↔ slice_get ys p ≡ Some (Some r)) → xs ≡ ys
rules_one [] [] long same = refl
rules_one [] (y ∷ ys) long same = absurd (omega (arith, long))
rules_one (x ∷ xs) [] long same = absurd (omega (arith, long))
rules_one (x ∷ xs) (y ∷ ys) long same =
    ap (λ z. z ∷ xs) (head x y (same 0)) ∙ ap (λ zs. y ∷ zs) (rules_one xs ys (omega (arith, long)) (λ p. same (suc p)))
  where
    head : (x y : Option GrammarRule) → ((r : GrammarRule) → Some x ≡ Some (Some r) ↔ Some y ≡ Some (Some r)) → x ≡ y
    head None None same = refl
    head None (Some r) same = absurd (let e = (same r).1 refl in let off : None ≡ Some r → ⊥ = λ e. cc in off cc)
    head (Some r) y same = let e = (same r).0 refl in cc

-- a grammar has one with its useful rules
useful_one : (G R Q : Grammar) → KeepsUseful G R → KeepsUseful G Q → R ≡ Q
useful_one G R Q a b = λ i. record {
  terminals = terminals i;
  accept = accept i;
  start = start i;
  rules = rules i;
}
  where
    terminals : R.terminals ≡ Q.terminals
    terminals = a.terminals ∙ sym b.terminals

    accept : R.accept ≡ Q.accept
    accept = a.accept ∙ sym b.accept

    start : R.start ≡ Q.start
    start = a.start ∙ sym b.start

    rules : R.rules ≡ Q.rules
    rules = rules_one R.rules Q.rules (a.numbers ∙ sym b.numbers) (λ p r. (
      λ is. (b.rules p r).1 ((a.rules p r).0 is),
      λ is. (a.rules p r).1 ((b.rules p r).0 is),
    ))

-- a specification has one list of conflicts
conflicts_one : (s : Spec) (R Q : Grammar) (cs ds : List Conflict) → KeepsUseful s.grammar R → KeepsUseful s.grammar Q
    → AreConflicts R (judge_of s) cs → AreConflicts Q (judge_of s) ds → cs ≡ ds
conflicts_one s R Q cs ds a b first second =
    rising_one IsBefore conflict_off cs ds mine.ordered second.ordered
    (λ c has. (second.are c).1 ((mine.are c).0 has)) (λ c has. (mine.are c).1 ((second.are c).0 has))
  where
    mine : AreConflicts Q (judge_of s) cs
    mine = subst (λ (G : Grammar). AreConflicts G (judge_of s) cs) (useful_one s.grammar R Q a b) first

pub one_report : ReportIsOne
one_report s a b x y =
    x.are ∙ ap (λ l. removed_text s l ++ conflicts_text s x.conflicts) removed
    ∙ ap (λ l. removed_text s y.removed ++ conflicts_text s l)
    (conflicts_one s x.useful y.useful x.conflicts y.conflicts x.are_useful y.are_useful x.are_conflicts
    y.are_conflicts) ∙ sym y.are
  where
    removed : x.removed ≡ y.removed
    removed = rising_one (λ p q. p < q) (λ p q l m. omega (arith, l, m)) x.removed y.removed x.are_removed.rising
        y.are_removed.rising (λ p has. (y.are_removed.are p).1 ((x.are_removed.are p).0 has))
        (λ p has. (x.are_removed.are p).1 ((y.are_removed.are p).0 has))

pub one_counts : CountsAreOne
one_counts s a b x y = λ i. record {
  shift_reduce = (x.shifts ∙ ap (λ l. count_of shift_reduce (map (λ c. c.kind) l)) same ∙ sym y.shifts) i;
  reduce_reduce = (x.reductions ∙ ap (λ l. count_of reduce_reduce (map (λ c. c.kind) l)) same ∙ sym y.reductions) i;
}
  where
    same : x.conflicts ≡ y.conflicts
    same = conflicts_one s x.useful y.useful x.conflicts y.conflicts x.are_useful y.are_useful x.are_conflicts
        y.are_conflicts

pub report_has_counts : ReportTellsCounts
report_has_counts s text counts x y = (
  removed_text s x.removed,
  flat_map (conflict_line s) x.conflicts,
  x.are
      ∙ ap (λ n. told n (count_of reduce_reduce (map (λ c. c.kind) x.conflicts))) shifts
      ∙ ap (told counts.shift_reduce) reductions,
)
  where
    told : ℕ → ℕ → List ℕ
    told n m = removed_text s x.removed ++ (counts_line n m ++ flat_map (conflict_line s) x.conflicts)

    same : x.conflicts ≡ y.conflicts
    same = conflicts_one s x.useful y.useful x.conflicts y.conflicts x.are_useful y.are_useful x.are_conflicts
        y.are_conflicts

    shifts : count_of shift_reduce (map (λ c. c.kind) x.conflicts) ≡ counts.shift_reduce
    shifts = ap (λ l. count_of shift_reduce (map (λ c. c.kind) l)) same ∙ sym y.shifts

    reductions : count_of reduce_reduce (map (λ c. c.kind) x.conflicts) ≡ counts.reduce_reduce
    reductions = ap (λ l. count_of reduce_reduce (map (λ c. c.kind) l)) same ∙ sym y.reductions
