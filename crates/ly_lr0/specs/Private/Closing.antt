-- What a kernel closes to, as it is found.
use Rattle.std.specs.Prelude.{◌≡◌, ◌≢◌, ◌↔◌, ◌⊎◌, ◌<◌, ◌≤◌, ◌+◌, ◌++◌, ℕ, suc, List, [], length, slice_index_or}
use Rattle.std.specs.Prelude.{AllPairs, Contains}
use Rattle.ly_base.specs.SparseSet.{Chosen}
use Rattle.ly_join.specs.Grammar.{Grammar, IsAugmented, IsRule, GrammarRule, nonterminal, symbol_of, terminal}
use Rattle.ly_lr0.specs.Automaton.{IsLess}
use Rattle.ly_lr0.specs.Private.Items.{IsBehind, IsClosed, IsMoved, item_cmp}
use Rattle.ly_lr0.specs.declared.item.Item.{Item}
use Rattle.ly_lr0.specs.declared.item.Move.{Move}
use Rattle.std.specs.declared.cmp.Ordering.TheVariants.{Less}

-- Lists of rules by the nonterminals on their left sides.
pub record AreByLeft (G : Grammar) (lists : List (List ℕ)) : Type 0 where
  pub augmented : IsAugmented G
  pub count : length lists ≡ G.accept + 1
  pub rules : (A q : ℕ) → A ≤ G.accept
      → Contains (slice_index_or lists A []) q ↔ ((r : GrammarRule) × IsRule G q r × (r.left ≡ A))

-- the rule is one of the grammar's
abbrev pub IsKept : Grammar → ℕ → Type 0
IsKept G p = (r : GrammarRule) × IsRule G p r

-- the rules of all items are
abbrev pub AreKept : Grammar → List Item → Type 0
AreKept G items = (i : Item) → Contains items i → IsKept G i.rule

-- the dot of the item stands behind its whole rule
abbrev pub IsAtEnd : Grammar → Item → Type 0
IsAtEnd G i = (r : GrammarRule) × IsRule G i.rule r × (length r.body ≤ i.dot)

-- what the item moves to
pub record IsMove (G : Grammar) (i : Item) (m : Move) : Type 0 where
  pub rule : m.item.rule ≡ i.rule
  pub dot : m.item.dot ≡ suc i.dot
  pub behind : IsBehind G i.rule i.dot (symbol_of m.symbol)

-- The nonterminal behind the dot of an item was added to a set.
pub record IsAdded (G : Grammar) (i : Item) (old new : Chosen) : Type 0 where
  pub below : new.below ≡ old.below
  pub few : length old.members ≤ old.below → length new.members ≤ new.below
  pub more : List ℕ
  pub grown : new.members ≡ old.members ++ more
  pub sound : (A : ℕ) → Contains new.members A → Contains old.members A ⊎ IsBehind G i.rule i.dot (nonterminal A)
  pub there : (A : ℕ) → IsBehind G i.rule i.dot (nonterminal A) → Contains new.members A

-- The nonterminals behind the dots of rules with nothing before them were added to a set.
pub record AreAdded (G : Grammar) (rules : List ℕ) (old new : Chosen) : Type 0 where
  pub below : new.below ≡ old.below
  pub few : length old.members ≤ old.below → length new.members ≤ new.below
  pub more : List ℕ
  pub grown : new.members ≡ old.members ++ more
  pub sound : (A : ℕ) → Contains new.members A
      → Contains old.members A ⊎ ((q : ℕ) × Contains rules q × IsBehind G q 0 (nonterminal A))
  pub there : (A q : ℕ) → Contains rules q → IsBehind G q 0 (nonterminal A) → Contains new.members A

-- moves by their symbols, and then by their items, in rising order
abbrev pub MoveIsLess : Move → Move → Type 0
MoveIsLess m n = IsLess (symbol_of m.symbol) (symbol_of n.symbol)
    ⊎ ((m.symbol ≡ n.symbol) × (item_cmp m.item n.item ≡ Less))

-- The moves of a kernel, but over the end, in rising order.
pub record AreMoves (G : Grammar) (kernel : List Item) (moves : List Move) : Type 0 where
  pub each : (m : Move) → Contains moves m
      ↔ ((symbol_of m.symbol ≢ terminal 0) × IsMoved G kernel (symbol_of m.symbol) m.item)
  pub rising : AllPairs MoveIsLess moves

-- The rules whose dots stand behind them among the items that a kernel closes to, rising.
pub record AreComplete (G : Grammar) (kernel : List Item) (rules : List ℕ) : Type 0 where
  pub each : (p : ℕ) → Contains rules p
      ↔ ((r : GrammarRule) × (d : ℕ) × IsRule G p r × IsClosed G kernel p d × (length r.body ≤ d))
  pub rising : AllPairs (λ p q. p < q) rules

-- the item is one of the kernel, or a rule of an entered nonterminal with nothing before its dot
abbrev pub IsListed : List (List ℕ) → List Item → List ℕ → Item → Type 0
IsListed lists kernel entered i = Contains kernel i
    ⊎ ((A : ℕ) × Contains entered A × Contains (slice_index_or lists A []) i.rule × (i.dot ≡ 0))

-- an item moves to it, over another symbol than the end
abbrev pub IsMoveOfOne : Grammar → List Item → Move → Type 0
IsMoveOfOne G items m = (symbol_of m.symbol ≢ terminal 0) × ((i : Item) × Contains items i × IsMove G i m)

-- the dot of an item of the rule is at the end
abbrev pub IsRuleAtEnd : Grammar → List Item → ℕ → Type 0
IsRuleAtEnd G items p = (i : Item) × Contains items i × (i.rule ≡ p) × IsAtEnd G i

-- the moves over the symbol of the one at a place end before another
pub record IsGroupEnd (moves : List Move) (at end : ℕ) : Type 0 where
  pub behind : at < end
  pub within : end ≤ length moves
  pub same : (k : ℕ) (d : Move) → at ≤ k → k < end
      → (slice_index_or moves k d).symbol ≡ (slice_index_or moves at d).symbol
  pub other : (d : Move) → end < length moves
      → (slice_index_or moves end d).symbol ≢ (slice_index_or moves at d).symbol
