-- On steady tables the terminals that are expected are those that the reference machine would read next.
use Rattle.std.proofs.Common.{◌≡◌, ◌∙◌, inl, inr, ℕ, zero, suc, ◌<◌, List, [], arith, subst, sym}
use Rattle.ly_base.specs.Lexed.{Token}
use Rattle.ly_join.specs.Grammar.{Grammar, IsAugmented, Symbol, SymbolWithin, nonterminal, terminal}
use Rattle.ly_join.specs.Joined.{Spec}
use Rattle.ly_grammar.specs.Items.{IsNextSymbol}
use Rattle.ly_grammar.specs.Reduction.{KeepsUseful}
use Rattle.ly_grammar.proofs.ItemLemmas.{body_of, zero_item}
use Rattle.ly_lr0.specs.Automaton.{Lr0Automaton, IsLr0Automaton}
use Rattle.ly_pack.specs.Machine.{Machine}
use Rattle.ly_pack.specs.Steady.{IsSteady}
use Rattle.ly_pack.specs.SteadyLaws.{IsStack}
use Rattle.ly_parse.specs.Expected.{IsExpected}
use Rattle.ly_parse.specs.Deriving.{FeedsTree, TreeFed, TreeLevel, done, faulty, fed_by, levels_by, pushed, refused}
use Rattle.ly_parse.specs.Deriving.{shape_of_rule, states_below}
use Rattle.ly_parse.specs.Feeding.{Fed, states_on}
use Rattle.ly_parse.proofs.ExpectedFedLemmas.{IsTaken, expected_is_taken, taken_is_expected}
use Rattle.ly_parse.proofs.TreeFeeding.{done_with_terms, same_states}
use Rattle.ly_parse.proofs.TreeSettlingLemmas.{settles_on_steady}
use Rattle.ly_relate.proofs.LeaveLemmas.{symbol_within}
use Rattle.ly_resolve.specs.Machine.{Next, Pushed}
use Rattle.ly_resolve.specs.Precedence.{judge_of}
use Rattle.ly_resolve.proofs.NextLemmas.{one_token_tells}
use Rattle.ly_emit.specs.Following.{Simulates, Mirrors}
use Rattle.ly_emit.specs.Laws.{ExpectedFollow}
use Rattle.ly_emit.specs.Tables.{IsMachineOf}
use Rattle.ly_emit.proofs.FollowLemmas.{tables_follow}

-- a terminal behind the dot of an item is one of the grammar's
next_within : {G : Grammar} {g : List Symbol} {t : ℕ} → IsAugmented G → IsNextSymbol G g (terminal t)
    → t < G.terminals
next_within {G} {t = t} augmented (zero, before, after, (u, v)) = elim (zero_item augmented v) [
  | inl x ↦ absurd (let off : terminal t ≡ nonterminal G.start → ⊥ = λ e. cc in off x.1)
  | inr x ↦
      let end : terminal t ≡ terminal 0 = x.1 in
      let same : t ≡ 0 = cc in
      omega (arith, same, augmented.end_within)
]
next_within {G} {t = t} augmented (suc p, before, after, (u, v)) =
    let body = body_of v in
    let within : SymbolWithin G.terminals G.accept (terminal t)
    = symbol_within before after (terminal t) augmented body.1 (omega arith) body.2 in
    within.1

module _ (s : Spec) (M : Lr0Automaton) (n : Machine) (is : IsLr0Automaton M) (useful : KeepsUseful s.grammar M.grammar)
    (of : IsMachineOf s M n) (calm : IsSteady n) (stack : List Pushed) (levels : List TreeLevel)
    (mirrors : Mirrors M stack levels) (edges : IsStack n (states_below levels)) where
  -- the outcome with terms
  abbrev by_rules : TreeFed → Fed
  by_rules = fed_by (shape_of_rule n.rules)

  -- a token of a terminal
  probe : ℕ → Token ℕ
  probe t = record { terminal = t; at = 0; bytes = [] }

  fed : (t : ℕ) → t < n.terminals → (out : TreeFed) × FeedsTree n (probe t) levels out
  unfolding probe
  fed t within = settles_on_steady n (probe t) levels calm within edges

  same_terminals : n.terminals ≡ M.grammar.terminals
  same_terminals = of.2.terminals ∙ of.1.terminals

  follows : (t : ℕ) (out : TreeFed) → t < n.terminals → FeedsTree n (probe t) levels out
      → Simulates M (judge_of s) stack (probe t) [] out
  unfolding probe
  follows t out within feeds = tables_follow s M n is useful of stack levels (probe t) [] out
      (subst (λ k. t < k) same_terminals within) mirrors feeds

  -- the reference machine reads what the tables take
  taken_next : (t : ℕ) (out : TreeFed) → IsTaken (by_rules out) → Simulates M (judge_of s) stack (probe t) [] out
      → Next M.grammar (judge_of s) stack t
  unfolding probe
  taken_next t (pushed next) taken f = (one_token_tells M.grammar (judge_of s) stack (probe t)).read f.0 f.1
  taken_next t (done tree) taken f = (one_token_tells M.grammar (judge_of s) stack (probe t)).accepted f.0 f.1 f.2 f.3
  taken_next t refused taken f = absurd taken
  taken_next t faulty taken f = absurd taken

  -- and the tables take what it reads
  next_taken : (t : ℕ) (out : TreeFed) → Next M.grammar (judge_of s) stack t
      → Simulates M (judge_of s) stack (probe t) [] out → IsTaken (by_rules out)
  unfolding probe
  next_taken t (pushed levels) next f = tt
  next_taken t (done tree) next f = tt
  next_taken t refused next f = (one_token_tells M.grammar (judge_of s) stack (probe t)).refused f.0 f.1 f.2 next
  next_taken t faulty next f = f

  next_terminal : (t : ℕ) → Next M.grammar (judge_of s) stack t → t < n.terminals
  next_terminal t (token, same, c, l, rest, action) =
      subst (λ k. t < k) (sym same_terminals) (next_within is.augmented action.0)

  -- the states are those with terms
  as_terms : states_on (levels_by (shape_of_rule n.rules) levels) ≡ states_below levels
  as_terms = same_states (shape_of_rule n.rules) levels

  expected_next : (t : ℕ) → t < n.terminals → IsExpected n t (states_below levels)
      → Next M.grammar (judge_of s) stack t
  unfolding probe
  expected_next t within x =
      let f = fed t within in
      taken_next t f.0 (expected_is_taken n (probe t) (done_with_terms n (probe t) f.1)
      (subst (IsExpected n t) (sym as_terms) x)) (follows t f.0 within f.1)

  next_expected : (t : ℕ) → Next M.grammar (judge_of s) stack t → IsExpected n t (states_below levels)
  unfolding probe
  next_expected t next =
      let within = next_terminal t next in
      let f = fed t within in
      subst (IsExpected n t) as_terms (taken_is_expected n (probe t) (done_with_terms n (probe t) f.1)
      (next_taken t f.0 next (follows t f.0 within f.1)))

pub expected_follow : ExpectedFollow
expected_follow s M n is useful of calm stack levels mirrors edges ts are t = (
  λ has.
      let x = (are.are t).0 has in
      expected_next s M n is useful of calm stack levels mirrors edges t x.0 x.1,
  λ next. (are.are t).1 (
    next_terminal s M n is useful of calm stack levels mirrors edges t next,
    next_expected s M n is useful of calm stack levels mirrors edges t next,
  ),
)
