-- Tables follow the reference machine over tokens one after another.
use Rattle.std.proofs.Common.{◌≡◌, ℕ, ◌<◌, List, [], ◌∷◌, ◌++◌, arith, refl, subst, sym}
use Rattle.std.proofs.lemmas.List.Elements.{All-cons, All-head, All-tail}
use Rattle.ly_base.specs.Lexed.{Token}
use Rattle.ly_join.specs.Joined.{Spec}
use Rattle.ly_grammar.specs.Reduction.{KeepsUseful}
use Rattle.ly_lr0.specs.Automaton.{Lr0Automaton, IsLr0Automaton}
use Rattle.ly_pack.specs.Machine.{Machine}
use Rattle.ly_parse.specs.Deriving.{ReadsTrees, TreeLevel, and_one, at_end, done, pushed, refused}
use Rattle.ly_resolve.specs.Machine.{AcceptsWith, Leads, Pushed}
use Rattle.ly_resolve.specs.Machine as machine
use Rattle.ly_resolve.specs.Precedence.{judge_of}
use Rattle.ly_resolve.proofs.AcceptLemmas.{Leads-append}
use Rattle.ly_emit.specs.Following.{Mirrors, bottom}
use Rattle.ly_emit.specs.Laws.{AcceptedFollow, AreOf, RefusedFollow}
use Rattle.ly_emit.specs.Tables.{IsMachineOf}
use Rattle.ly_emit.proofs.FollowLemmas.{tables_follow}

module _ (s : Spec) (M : Lr0Automaton) (n : Machine) (is : IsLr0Automaton M) (useful : KeepsUseful s.grammar M.grammar)
    (of : IsMachineOf s M n) where
  -- tokens that are read, whatever stands behind them
  pub reads_follow : {levels last : List TreeLevel} {tokens : List (Token ℕ)} → ReadsTrees n levels tokens last
      → (stack : List Pushed) (behind : List (Token ℕ)) → AreOf M tokens → Mirrors M stack levels
      → (next : List Pushed)
      × Leads M.grammar (judge_of s) (record { stack = stack; rest = tokens ++ behind })
      (record { stack = next; rest = behind }) × Mirrors M next last
  reads_follow at_end stack behind all mirrors = (stack, machine.here, mirrors)
  reads_follow (and_one {levels = levels} {next = next} {token = token} {tokens = tokens} fed rest) stack behind all
      mirrors =
      let step = tables_follow s M n is useful of stack levels token (tokens ++ behind) (pushed next)
      (All-head (λ x. x.terminal < M.grammar.terminals) token tokens all) mirrors fed in
      let later = reads_follow rest step.0 behind
      (All-tail (λ x. x.terminal < M.grammar.terminals) token tokens all) step.2 in
      (later.0, Leads-append step.1 later.1, later.2)

-- those before the last
before_last : (M : Lr0Automaton) (tokens : List (Token ℕ)) (t : Token ℕ) → AreOf M (tokens ++ t ∷ []) → AreOf M tokens
before_last M [] t all = λ k d lt. absurd (omega (arith, lt))
before_last M (x ∷ tokens) t all = All-cons (λ x. x.terminal < M.grammar.terminals) x tokens
    (All-head (λ x. x.terminal < M.grammar.terminals) x (tokens ++ t ∷ []) all)
    (before_last M tokens t (All-tail (λ x. x.terminal < M.grammar.terminals) x (tokens ++ t ∷ []) all))

-- the last of them
last_of : (M : Lr0Automaton) (tokens : List (Token ℕ)) (t : Token ℕ) → AreOf M (tokens ++ t ∷ [])
    → t.terminal < M.grammar.terminals
last_of M [] t all = All-head (λ x. x.terminal < M.grammar.terminals) t [] all
last_of M (x ∷ tokens) t all = last_of M tokens t
    (All-tail (λ x. x.terminal < M.grammar.terminals) x (tokens ++ t ∷ []) all)

pub accepted_follow : AcceptedFollow
accepted_follow s M n is useful of tokens end d all run =
    let read = reads_follow s M n is useful of run.reads [] (end ∷ []) (before_last M tokens end all) bottom in
    let step = tables_follow s M n is useful of read.0 run.last end [] (done d) (last_of M tokens end all) read.2
    run.accepts in
    subst (AcceptsWith M.grammar (judge_of s) (tokens ++ end ∷ [])) (sym step.4)
    (step.0, Leads-append read.1 step.2, step.3)

pub refused_follow : RefusedFollow
refused_follow s M n is useful of before behind t last all reads fed =
    let read = reads_follow s M n is useful of reads [] (t ∷ behind) (before_last M before t all) bottom in
    let step = tables_follow s M n is useful of read.0 last t behind refused (last_of M before t all) read.2 fed in (
      step.0,
      Leads-append read.1 step.1,
      step.2,
      subst (λ rest. before ++ t ∷ behind ≡ before ++ rest) (sym step.3) refl,
    )
