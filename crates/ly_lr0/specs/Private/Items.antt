-- Items by rules and dots, without lookaheads: those of strings, and those that a kernel closes to and moves to.
use Rattle.std.specs.Prelude.{◌≡◌, ◌↔◌, ℕ, suc, ◌<◌, List, [], ◌∷◌, length, slice_get, Some, Contains, AllPairs}
use Rattle.std.specs.declared.cmp.Ordering.{Ordering}
use Rattle.std.specs.declared.cmp.Ordering.TheVariants.{Less}
use Rattle.std.specs.Ordering.{nat_cmp, ordering_then}
use Rattle.ly_join.specs.Grammar.{Grammar, IsRule, GrammarRule, Symbol, nonterminal}
use Rattle.ly_lr0.specs.declared.item.Item.{Item}

-- the symbol stands behind the first d of the body of rule p
abbrev pub IsBehind : Grammar → ℕ → ℕ → Symbol → Type 0
IsBehind G p d X = (r : GrammarRule) × IsRule G p r × (slice_get r.body d ≡ Some X)

-- the item is one of the string's core
pub data HasItem (G : Grammar) : List Symbol → ℕ → ℕ → Type 0 where
  at_start : HasItem G [] 0 0
  closed : {g : List Symbol} {p d B q : ℕ} {r : GrammarRule} → HasItem G g p d → IsBehind G p d (nonterminal B)
      → IsRule G q r → r.left ≡ B → HasItem G g q 0
  moved : {g : List Symbol} {p d : ℕ} {X : Symbol} → HasItem G g p d → IsBehind G p d X → HasItem G (X ∷ g) p (suc d)

-- the item is one of those that the kernel closes to
pub data IsClosed (G : Grammar) (kernel : List Item) : ℕ → ℕ → Type 0 where
  given : {p d : ℕ} → Contains kernel (record { rule = p; dot = d }) → IsClosed G kernel p d
  added : {p d B q : ℕ} {r : GrammarRule} → IsClosed G kernel p d → IsBehind G p d (nonterminal B) → IsRule G q r
      → r.left ≡ B → IsClosed G kernel q 0

-- the nonterminal stands behind the dot of one of those
abbrev pub IsEntered : Grammar → List Item → ℕ → Type 0
IsEntered G kernel A = (p d : ℕ) × IsClosed G kernel p d × IsBehind G p d (nonterminal A)

-- the item is one of those over a symbol
abbrev pub IsMoved : Grammar → List Item → Symbol → Item → Type 0
IsMoved G kernel X i = (d : ℕ) × (i.dot ≡ suc d) × IsClosed G kernel i.rule d × IsBehind G i.rule d X

-- the kernel of a string: rule 0 at the start, and else what its last symbol moves to
abbrev pub IsKernel : Grammar → List Symbol → List Item → Type 0
IsKernel G [] kernel = (i : Item) → Contains kernel i ↔ ((i.rule ≡ 0) × (i.dot ≡ 0))
IsKernel G (X ∷ g) kernel = (i : Item) → Contains kernel i
    ↔ ((d : ℕ) × (i.dot ≡ suc d) × HasItem G g i.rule d × IsBehind G i.rule d X)

-- two strings have the same items
abbrev pub SameItems : Grammar → List Symbol → List Symbol → Type 0
SameItems G g h = (p d : ℕ) → HasItem G g p d ↔ HasItem G h p d

-- the item is a rule's, which is kept, and its dot isn't past the body
abbrev pub IsItem : Grammar → Item → Type 0
IsItem G i = (r : GrammarRule) × IsRule G i.rule r × (i.dot < suc (length r.body))

-- items by rules and then by dots
abbrev pub item_cmp : Item → Item → Ordering
item_cmp i j = ordering_then (nat_cmp i.rule j.rule) (nat_cmp i.dot j.dot)

-- items in rising order, so that equal sets are equal lists
abbrev pub AreRising : List Item → Type 0
AreRising items = AllPairs (λ i j. item_cmp i j ≡ Less) items

-- an item of these moves to it over the symbol
abbrev pub IsMovedOver : Grammar → List Item → Symbol → Item → Type 0
IsMovedOver G items X i = (d : ℕ) × (i.dot ≡ suc d) × Contains items (record { rule = i.rule; dot = d })
    × IsBehind G i.rule d X
