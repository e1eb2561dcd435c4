-- The machine has one way to go on, so a run has one end, and without conflicts a sentence has one tree.
use Rattle.std.proofs.Common.{◌≡◌, ◌⊎◌, inl, inr, ℕ, List, [], ◌∷◌, ◌++◌, length, refl, sym, ◌∙◌, ap, subst, arith}
use Rattle.std.proofs.Common.{le_antisymm}
use Rattle.ly_base.specs.Lexed.{Token}
use Rattle.ly_base.specs.Trees.{Tree, leaf, node, none, yield_of}
use Rattle.ly_join.specs.Grammar.{Grammar, IsRule, Symbol, nonterminal, terminal}
use Rattle.ly_grammar.proofs.ItemLemmas.{length-onto}
use Rattle.ly_grammar.proofs.SearchLemmas.{rule_is_one}
use Rattle.ly_resolve.specs.Actions.{Action, IsAction, IsTerminalRefused, Judge, PrecedenceVerdict, error, reduce}
use Rattle.ly_resolve.specs.Actions.{shift}
use Rattle.ly_resolve.specs.Actions.{to_error}
use Rattle.ly_resolve.specs.Actions.{to_reduce, to_shift, unsettled}
use Rattle.ly_resolve.specs.Laws.{IsUnambiguous}
use Rattle.ly_resolve.specs.Machine.{Accepts, AcceptsWith, Configuration, Leads, Moves, Pushed, Refuses, here, onward}
use Rattle.ly_resolve.specs.Machine.{symbols_of, trees_onto}
use Rattle.ly_resolve.proofs.AcceptLemmas.{accepts_all}
use Rattle.ly_resolve.proofs.StackLemmas.{length-symbols_of}

-- a verdict that leaves the shift is neither for the reduction nor for an error
leaves_no_reduce : (v : PrecedenceVerdict) → (v ≡ to_shift) ⊎ (v ≡ unsettled) → v ≡ to_reduce → ⊥
leaves_no_reduce v (inl a) b = cc
leaves_no_reduce v (inr a) b = cc

leaves_no_error : (v : PrecedenceVerdict) → (v ≡ to_shift) ⊎ (v ≡ unsettled) → v ≡ to_error → ⊥
leaves_no_error v (inl a) b = cc
leaves_no_error v (inr a) b = cc

-- one action is done at a string before a terminal
pub action_is_one : (G : Grammar) (judge : Judge) (g : List Symbol) (t : ℕ) (a b : Action) → IsAction G judge g t a
    → IsAction G judge g t b → a ≡ b
action_is_one G judge g t shift shift x y = refl
action_is_one G judge g t shift (reduce p) x y =
    absurd (leaves_no_reduce (judge p t) (x.1 p y.0.0) (y.0.1 x.0))
action_is_one G judge g t shift error x y =
    absurd (leaves_no_error (judge y.2 t) (x.1 y.2 y.3) y.4)
action_is_one G judge g t (reduce p) shift x y =
    absurd (leaves_no_reduce (judge p t) (y.1 p x.0.0) (x.0.1 y.0))
action_is_one G judge g t (reduce p) (reduce q) x y = ap reduce (le_antisymm (x.1 q y.0) (y.1 p x.0))
action_is_one G judge g t (reduce p) error x y = absurd (y.1 p x.0.0 (x.0.1 y.0))
action_is_one G judge g t error shift x y =
    absurd (leaves_no_error (judge x.2 t) (y.1 x.2 x.3) x.4)
action_is_one G judge g t error (reduce p) x y = absurd (x.1 p y.0.0 (y.0.1 x.0))
action_is_one G judge g t error error x y = refl

-- where something is done, an action is asked for
done_is_asked : (G : Grammar) (judge : Judge) (g : List Symbol) (t : ℕ) (a : Action) → IsAction G judge g t a
    → IsTerminalRefused G g t → ⊥
done_is_asked G judge g t shift x refused = refused shift x.0
done_is_asked G judge g t (reduce p) x refused = refused (reduce p) x.0.0
done_is_asked G judge g t error x refused = refused shift x.0

-- stacks one on top of the other are the same in parts
one_split : (a b u v : List Pushed) → a ++ u ≡ b ++ v → length a ≡ length b → (a ≡ b) × (u ≡ v)
one_split [] [] u v e l = (refl, e)
one_split [] (y ∷ b) u v e l = absurd (omega (arith, l))
one_split (x ∷ a) [] u v e l = absurd (omega (arith, l))
one_split (x ∷ a) (y ∷ b) u v e l =
    let heads : x ≡ y = cc in
    let tails : a ++ u ≡ b ++ v = cc in
    let parts = one_split a b u v tails (omega (arith, l)) in
    (let one = parts.0 in cc, parts.1)

configuration_of : (c d : Configuration) → c.stack ≡ d.stack → c.rest ≡ d.rest → c ≡ d
configuration_of c d a b = λ i. record { stack = a i; rest = b i }

module _ (G : Grammar) (judge : Judge) where
  -- the machine has one move at most
  pub move_is_one : (c d e : Configuration) → Moves G judge c d → Moves G judge c e → d ≡ e
  move_is_one c d e (inl s) (inl r) =
      let whole : s.token ∷ d.rest ≡ r.token ∷ e.rest = sym s.is_next ∙ r.is_next in
      let same : s.token ≡ r.token = cc in
      let rest : d.rest ≡ e.rest = cc in
      configuration_of d e (s.pushed
      ∙ (ap (λ t. record { symbol = terminal t.terminal; tree = leaf t } ∷ c.stack) same ∙ sym r.pushed)) rest
  move_is_one c d e (inl s) (inr r) =
      let whole : s.token ∷ d.rest ≡ r.token ∷ r.behind = sym s.is_next ∙ r.is_next in
      let same : s.token ≡ r.token = cc in
      let off = action_is_one G judge (symbols_of c.stack) r.token.terminal shift (reduce r.number)
      (subst (λ t. IsAction G judge (symbols_of c.stack) t.terminal shift) same s.action) r.action in
      cc
  move_is_one c d e (inr s) (inl r) =
      let whole : s.token ∷ s.behind ≡ r.token ∷ e.rest = sym s.is_next ∙ r.is_next in
      let same : s.token ≡ r.token = cc in
      let off = action_is_one G judge (symbols_of c.stack) r.token.terminal shift (reduce s.number) r.action
      (subst (λ t. IsAction G judge (symbols_of c.stack) t.terminal (reduce s.number)) same s.action) in
      cc
  move_is_one c d e (inr s) (inr r) =
      let whole : s.token ∷ s.behind ≡ r.token ∷ r.behind = sym s.is_next ∙ r.is_next in
      let same : s.token ≡ r.token = cc in
      let both = action_is_one G judge (symbols_of c.stack) r.token.terminal (reduce s.number) (reduce r.number)
      (subst (λ t. IsAction G judge (symbols_of c.stack) t.terminal (reduce s.number)) same s.action) r.action in
      let number : s.number ≡ r.number = cc in
      let rule : s.rule ≡ r.rule = rule_is_one G r.number s.rule r.rule
      (subst (λ n. IsRule G n s.rule) number s.is_rule) r.is_rule in
      let lengths : length s.popped ≡ length r.popped = omega (
        arith,
        ap length s.is_body,
        ap length r.is_body,
        length-onto (symbols_of s.popped) [],
        length-onto (symbols_of r.popped) [],
        length-symbols_of s.popped,
        length-symbols_of r.popped,
        ap (λ x. length x.body) rule,
      ) in
      let parts = one_split s.popped r.popped s.below r.below (sym s.split ∙ r.split) lengths in
      let left : s.rule.left ≡ r.rule.left = ap (λ x. x.left) rule in
      let tree : node s.number (trees_onto s.popped none) ≡ node r.number (trees_onto r.popped none)
      = let one = ap (λ x. trees_onto x none) parts.0 in cc in
      let tops : record { symbol = nonterminal s.rule.left; tree = node s.number (trees_onto s.popped none) } ∷ s.below
      ≡ record { symbol = nonterminal r.rule.left; tree = node r.number (trees_onto r.popped none) } ∷ r.below
      = λ i. record { symbol = nonterminal (left i); tree = tree i } ∷ parts.1 i in
      configuration_of d e (s.pushed ∙ (tops ∙ sym r.pushed)) (s.kept ∙ sym r.kept)

  -- the machine has no move
  abbrev pub Halts : Configuration → Type 0
  Halts c = (d : Configuration) → Moves G judge c d → ⊥

  -- a run has one end
  pub end_is_one : {c d e : Configuration} → Leads G judge c d → Leads G judge c e → Halts d → Halts e → d ≡ e
  end_is_one here here p q = refl
  end_is_one here (onward {d = x} s b) p q = absurd (p x s)
  end_is_one (onward {d = x} s a) here p q = absurd (q x s)
  end_is_one {c} {d} {e} (onward {d = x} s a) (onward {d = y} r b) p q =
      end_is_one a (subst (λ z. Leads G judge z e) (sym (move_is_one c x y s r)) b) p q

  pub accepts_halts : (c : Configuration) (d : Tree) → Accepts G judge c d → Halts c
  accepts_halts c d a e (inl s) =
      let whole : s.token ∷ e.rest ≡ a.token ∷ a.behind = sym s.is_next ∙ a.is_next in
      let same : s.token ≡ a.token = cc in
      s.not_end (ap (λ x. x.terminal) same ∙ a.is_end)
  accepts_halts c d a e (inr s) =
      let whole : s.token ∷ s.behind ≡ a.token ∷ a.behind = sym s.is_next ∙ a.is_next in
      let same : s.token ≡ a.token = cc in
      let end : s.token.terminal ≡ 0 = ap (λ x. x.terminal) same ∙ a.is_end in
      let off = action_is_one G judge (symbols_of c.stack) 0 shift (reduce s.number) a.action
      (subst (λ k. IsAction G judge (symbols_of c.stack) k (reduce s.number)) end s.action) in
      cc

  -- where a token is refused, no other action is done
  pub shift_refused : (g : List Symbol) (t : ℕ) → IsAction G judge g t shift
      → IsAction G judge g t error ⊎ IsTerminalRefused G g t → ⊥
  shift_refused g t x (inl y) = let off = action_is_one G judge g t shift error x y in cc
  shift_refused g t x (inr y) = done_is_asked G judge g t shift x y

  reduce_refused : (g : List Symbol) (t p : ℕ) → IsAction G judge g t (reduce p)
      → IsAction G judge g t error ⊎ IsTerminalRefused G g t → ⊥
  reduce_refused g t p x (inl y) = let off = action_is_one G judge g t (reduce p) error x y in cc
  reduce_refused g t p x (inr y) = done_is_asked G judge g t (reduce p) x y

  pub refuses_halts : (c : Configuration) → Refuses G judge c → Halts c
  refuses_halts c r d (inl s) =
      let whole : s.token ∷ d.rest ≡ r.token ∷ r.behind = sym s.is_next ∙ r.is_next in
      let same : s.token ≡ r.token = cc in
      shift_refused (symbols_of c.stack) r.token.terminal
      (subst (λ t. IsAction G judge (symbols_of c.stack) t.terminal shift) same s.action) r.action
  refuses_halts c r d (inr s) =
      let whole : s.token ∷ s.behind ≡ r.token ∷ r.behind = sym s.is_next ∙ r.is_next in
      let same : s.token ≡ r.token = cc in
      reduce_refused (symbols_of c.stack) r.token.terminal s.number
      (subst (λ t. IsAction G judge (symbols_of c.stack) t.terminal (reduce s.number)) same s.action) r.action

  -- a run that accepts doesn't refuse
  pub accepts_or_refuses : (c : Configuration) (d : Tree) → Accepts G judge c d → Refuses G judge c → ⊥
  accepts_or_refuses c d a r =
      let whole : a.token ∷ a.behind ≡ r.token ∷ r.behind = sym a.is_next ∙ r.is_next in
      let same : a.token ≡ r.token = cc in
      let end : 0 ≡ r.token.terminal = sym a.is_end ∙ ap (λ x. x.terminal) same in
      shift_refused (symbols_of c.stack) r.token.terminal
      (subst (λ k. IsAction G judge (symbols_of c.stack) k shift) end a.action) r.action

  -- a run accepts with one tree
  pub tree_is_one : (tokens : List (Token ℕ)) (d e : Tree) → AcceptsWith G judge tokens d
      → AcceptsWith G judge tokens e → d ≡ e
  tree_is_one tokens d e a b =
      let same = end_is_one a.1 b.1 (accepts_halts a.0 d a.2) (accepts_halts b.0 e b.2) in
      let mine : Pushed = record { symbol = a.2.symbol; tree = d } in
      let yours : Pushed = record { symbol = b.2.symbol; tree = e } in
      let stacks : mine ∷ a.2.below ≡ yours ∷ b.2.below = sym a.2.is_top ∙ (ap (λ c. c.stack) same ∙ b.2.is_top) in
      let tops : mine ≡ yours = cc in
      ap (λ x. x.tree) tops

pub unambiguous : IsUnambiguous
unambiguous G augmented free d e is_d is_e same =
    let judge : Judge = λ p t. unsettled in
    let end : Token ℕ = record { terminal = 0; at = 0; bytes = [] } in
    let one = accepts_all G judge augmented free d end is_d refl in
    let two = accepts_all G judge augmented free e end is_e refl in
    tree_is_one G judge (yield_of d ++ end ∷ []) d e one
    (subst (λ y. AcceptsWith G judge (y ++ end ∷ []) e) (sym same) two)
