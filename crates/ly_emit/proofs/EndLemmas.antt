-- On steady tables the reference machine's runs end.
use Rattle.std.proofs.Common.{◌≡◌, ◌∙◌, inl, inr, ℕ, ◌<◌, List, [], ◌∷◌, ◌++◌}
use Rattle.std.proofs.Common.{ap, append_assoc, refl, subst, sym}
use Rattle.std.proofs.lemmas.List.Elements.{All-head, All-tail}
use Rattle.ly_base.specs.Lexed.{Token}
use Rattle.ly_join.specs.Joined.{Spec}
use Rattle.ly_grammar.specs.Reduction.{KeepsUseful}
use Rattle.ly_lr0.specs.Automaton.{Lr0Automaton, IsLr0Automaton}
use Rattle.ly_pack.specs.Machine.{Machine, IsMachine}
use Rattle.ly_pack.specs.Steady.{IsSteady}
use Rattle.ly_pack.specs.SteadyLaws.{IsStack, bottom as alone}
use Rattle.ly_parse.specs.Deriving.{FeedsTree, TreeFed, TreeLevel, done, faulty, pushed, refused, states_below}
use Rattle.ly_parse.proofs.TreeSettlingLemmas.{end_not_read, settles_on_steady, stack_kept}
use Rattle.ly_resolve.specs.Machine.{Ends, Leads, Pushed, begin}
use Rattle.ly_resolve.specs.Machine as machine
use Rattle.ly_resolve.specs.Precedence.{judge_of}
use Rattle.ly_resolve.proofs.AcceptLemmas.{Leads-append}
use Rattle.ly_emit.specs.Following.{Simulates, Mirrors, bottom}
use Rattle.ly_emit.specs.Laws.{AreOf, RunsEndOnSteady}
use Rattle.ly_emit.specs.Tables.{IsMachineOf}
use Rattle.ly_emit.proofs.FollowLemmas.{tables_follow}

module _ (s : Spec) (M : Lr0Automaton) (n : Machine) (is : IsLr0Automaton M) (useful : KeepsUseful s.grammar M.grammar)
    (of : IsMachineOf s M n) (tables : IsMachine n) (calm : IsSteady n) (same : n.terminals ≡ M.grammar.terminals) where
  -- each token is settled
  fed : (token : Token ℕ) (levels : List TreeLevel) → token.terminal < M.grammar.terminals
      → IsStack n (states_below levels) → (out : TreeFed) × FeedsTree n token levels out
  fed token levels within stack =
      settles_on_steady n token levels calm (subst (λ k. token.terminal < k) (sym same) within) stack

  module _ (all : List (Token ℕ)) where
    run : (tokens before : List (Token ℕ)) (end : Token ℕ) (stack : List Pushed) (levels : List TreeLevel)
        → end.terminal ≡ 0 → AreOf M (tokens ++ end ∷ []) → all ≡ before ++ (tokens ++ end ∷ [])
        → Leads M.grammar (judge_of s) (begin all) (record { stack = stack; rest = tokens ++ end ∷ [] })
        → Mirrors M stack levels → IsStack n (states_below levels) → Ends M.grammar (judge_of s) all
    run [] before end stack levels zero_end within whole leads mirrors edges =
        let last = fed end levels (All-head (λ x. x.terminal < M.grammar.terminals) end [] within) edges in
        by_out last.0 last.1 (tables_follow s M n is useful of stack levels end [] last.0
        (All-head (λ x. x.terminal < M.grammar.terminals) end [] within) mirrors last.1)
      where
        by_out : (out : TreeFed) → FeedsTree n end levels out
            → Simulates M (judge_of s) stack end [] out
            → Ends M.grammar (judge_of s) all
        by_out (pushed next) feeds f = absurd (end_not_read n end tables zero_end feeds)
        by_out (done tree) feeds f = inl (f.1, (f.0, Leads-append leads f.2, f.3))
        by_out refused feeds f = inr (
          before,
          (
            f.0,
            Leads-append leads f.1,
            f.2,
            whole ∙ ap (λ r. before ++ r) (sym f.3),
          ),
        )
        by_out faulty feeds f = absurd f
    run (t ∷ tokens) before end stack levels zero_end within whole leads mirrors edges =
        let here = All-head (λ x. x.terminal < M.grammar.terminals) t (tokens ++ end ∷ []) within in
        let next = fed t levels here edges in
        by_out next.0 next.1
        (tables_follow s M n is useful of stack levels t (tokens ++ end ∷ []) next.0 here mirrors next.1)
        (λ st ls l ms es. run tokens (before ++ t ∷ []) end st ls zero_end
        (All-tail (λ x. x.terminal < M.grammar.terminals) t (tokens ++ end ∷ []) within)
        (whole ∙ sym (append_assoc before (t ∷ []) (tokens ++ end ∷ []))) l ms es)
      where
        by_out : (out : TreeFed) → FeedsTree n t levels out
            → Simulates M (judge_of s) stack t (tokens ++ end ∷ []) out
            → ((st : List Pushed) (ls : List TreeLevel)
            → Leads M.grammar (judge_of s) (begin all) (record { stack = st; rest = tokens ++ end ∷ [] })
            → Mirrors M st ls → IsStack n (states_below ls) → Ends M.grammar (judge_of s) all)
            → Ends M.grammar (judge_of s) all
        by_out (pushed ls) feeds f later = later f.0 ls (Leads-append leads f.1) f.2 (stack_kept n t feeds edges)
        by_out (done tree) feeds f later = inl (f.1, (f.0, Leads-append leads f.2, f.3))
        by_out refused feeds f later = inr (
          before,
          (
            f.0,
            Leads-append leads f.1,
            f.2,
            whole ∙ ap (λ r. before ++ r) (sym f.3),
          ),
        )
        by_out faulty feeds f later = absurd f

pub runs_end_on_steady : RunsEndOnSteady
runs_end_on_steady s M n is useful of tables calm tokens end zero_end within =
    run s M n is useful of tables calm (of.2.terminals ∙ of.1.terminals) (tokens ++ end ∷ []) tokens [] end [] []
    zero_end within refl machine.here bottom alone
