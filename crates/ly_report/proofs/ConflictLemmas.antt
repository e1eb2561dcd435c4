-- Conflicts can be printed: the symbols of their prefixes have names.
use Rattle.std.proofs.Common.{◌≡◌, ℕ, zero, suc, ◌<◌, List, [], ◌∷◌, All, map, refl, sym, ap, subst, arith}
use Rattle.std.proofs.Common.{◌∙◌, ◌+◌, cond, length, get_or}
use Rattle.std.specs.Prelude.{Contains, count_by, fold}
use Rattle.std.proofs.lemmas.List.Elements.{All-cons, All-head, All-nil}
use Rattle.std.proofs.lemmas.List.{length-map}
use Rattle.ly_join.specs.Grammar.{Grammar, IsGrammar, Symbol}
use Rattle.ly_join.specs.Joined.{Spec}
use Rattle.ly_join.specs.Sizes.{HasSizes}
use Rattle.ly_grammar.specs.Items.{Valid, at_start, closed, moved}
use Rattle.ly_grammar.specs.Reduction.{KeepsUseful}
use Rattle.ly_grammar.proofs.ItemLemmas.{All-onto, body_of}
use Rattle.ly_lr0.specs.Automaton.{Lr0Automaton}
use Rattle.ly_resolve.specs.Actions.{Judge}
use Rattle.ly_resolve.specs.Conflicts as spec
use Rattle.ly_resolve.specs.Conflicts.{AreConflicts, Kind}
use Rattle.ly_resolve.specs.Values.{IsInside, conflict_from, kind_from, same_kind}
use Rattle.ly_resolve.specs.declared.conflict.Conflict.{Conflict}
use Rattle.ly_resolve.specs.declared.conflict.ConflictKind.{ConflictKind}
use Rattle.ly_resolve.specs.declared.conflict.ConflictKind.TheVariants.{ReduceReduce, ShiftReduce}
use Rattle.ly_report.specs.Private.Symbols.{IsNamed, IsTellable}
use Rattle.ly_report.specs.Report as named
use Rattle.ly_report.specs.Report.{count_of}
use Rattle.ly_report.proofs.NameLemmas.{body_named}

module _ (s : Spec) (sizes : HasSizes s) (is : IsGrammar s.grammar) (R : Grammar) (keeps : KeepsUseful s.grammar R)
  where
    -- the symbols of a string where an item is valid have names
    valid_named : {g : List Symbol} {p : ℕ} {before after : List Symbol} {t : ℕ} → Valid R g p before after t
        → All (IsNamed s) g
    valid_named (at_start a e) = All-nil (IsNamed s)
    valid_named (closed v a b c d) = valid_named v
    valid_named (moved {g = g} {p = p} {before = before} {after = after} {X = X} v) =
        let body = body_of v in
        let rule = ((keeps.rules p body.0).0 body.1).0 in
        let named = subst (All (IsNamed s)) (sym body.2) (body_named s sizes is p body.0 rule) in
        All-cons (IsNamed s) X g (All-head (IsNamed s) X after (All-onto (IsNamed s) before (X ∷ after) named))
        (valid_named v)

-- the conflicts of a specification can be printed
pub are_tellable : (s : Spec) (M : Lr0Automaton) (judge : Judge) (conflicts : List Conflict) (told : List spec.Conflict)
    → HasSizes s → IsGrammar s.grammar → KeepsUseful s.grammar M.grammar → AreConflicts M.grammar judge told
    → map (conflict_from M) conflicts ≡ told → All (IsInside M) conflicts → All (IsTellable s M) conflicts
are_tellable s M judge conflicts told sizes is keeps are these inside k d lt = record {
  state = within.state;
  prefix = valid_named s sizes is M.grammar keeps conflict.least.0.4.1;
  terminal = let t = within.terminal in let same = keeps.terminals in let long = sizes.terminals in omega arith;
}
  where
    within : IsInside M (get_or conflicts k d)
    within = inside k d lt

    there : Contains told (conflict_from M (get_or conflicts k d))
    there = subst (λ l. Contains l (conflict_from M (get_or conflicts k d))) these
        (k, omega (arith, lt, length-map conflicts (conflict_from M)), at (conflict_from M) conflicts k d lt)
      where
        at : {X Y : Type 0} (f : X → Y) (xs : List X) (k : ℕ) (d : X) → k < length xs
            → get_or (map f xs) k (f (get_or xs k d)) ≡ f (get_or xs k d)
        at f [] k d lt = absurd (omega (arith, lt))
        at f (x ∷ xs) zero d lt = refl
        at f (x ∷ xs) (suc k) d lt = at f xs k d (omega (arith, lt))

    conflict : spec.IsConflict M.grammar judge (conflict_from M (get_or conflicts k d))
    conflict = (are.are (conflict_from M (get_or conflicts k d))).0 there

-- the kinds of conflicts
pub kinds_same : (M : Lr0Automaton) (conflicts : List Conflict)
    → map (λ c. kind_from c.kind) conflicts ≡ map (λ c. c.kind) (map (conflict_from M) conflicts)
kinds_same M [] = refl
kinds_same M (c ∷ cs) = ap (λ l. kind_from c.kind ∷ l) (kinds_same M cs)

-- how many of them are of a kind
kind_same : (k l : ConflictKind) → same_kind k l ≡ named.same_kind (kind_from k) (kind_from l)
kind_same ShiftReduce ShiftReduce = refl
kind_same ShiftReduce ReduceReduce = refl
kind_same ReduceReduce ShiftReduce = refl
kind_same ReduceReduce ReduceReduce = refl

pub kinds_counted : (k : ConflictKind) (conflicts : List Conflict)
    → count_by (λ c. same_kind k c.kind) conflicts ≡ count_of (kind_from k) (map (λ c. kind_from c.kind) conflicts)
kinds_counted k conflicts = behind 0 conflicts
  where
    behind : (n : ℕ) (cs : List Conflict) → fold (λ m c. m + cond (same_kind k c.kind) 1 0) n cs
        ≡ fold (λ m l. m + cond (named.same_kind (kind_from k) l) 1 0) n (map (λ c. kind_from c.kind) cs)
    behind n [] = refl
    behind n (c ∷ cs) = behind (n + cond (same_kind k c.kind) 1 0) cs
        ∙ ap (λ b. fold (λ m l. m + cond (named.same_kind (kind_from k) l) 1 0) (n + cond b 1 0)
        (map (λ x. kind_from x.kind) cs)) (kind_same k c.kind)
