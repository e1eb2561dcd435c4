-- The reference machine on sentences, and on tokens that are no sentence.
use Rattle.std.specs.Prelude.{◌≡◌, ◌≢◌, ◌↔◌, ℕ, List, [], ◌∷◌, ◌++◌, All}
use Rattle.ly_base.specs.Lexed.{Token}
use Rattle.ly_base.specs.Trees.{Tree, yield_of}
use Rattle.ly_join.specs.Grammar.{Grammar, IsAugmented, IsRule, GrammarRule, Symbol, nonterminal}
use Rattle.ly_grammar.specs.Derivations.{IsReduced, IsSentencePrefix, IsTree}
use Rattle.ly_grammar.specs.Items.{InLookahead, IsViable, Valid}
use Rattle.ly_resolve.specs.Actions.{IsConflictFree, IsRaw, Judge, shift}
use Rattle.ly_resolve.specs.Machine.{Accepts, AcceptsWith, Configuration, Ends, Leads, Next, Pushed, Refuses}
use Rattle.ly_resolve.specs.Machine.{RefusesAfter, begin}

-- Without conflicts, the machine accepts each sentence with each of its trees.
abbrev pub AcceptsSentences : Type 0
AcceptsSentences = (G : Grammar) (judge : Judge) → IsAugmented G → IsConflictFree G → (d : Tree) (end : Token ℕ)
    → IsTree G (nonterminal G.start) d → end.terminal ≡ 0 → AcceptsWith G judge (yield_of d ++ end ∷ []) d

-- Without conflicts, no sentence has two trees.
abbrev pub IsUnambiguous : Type 0
IsUnambiguous = (G : Grammar) → IsAugmented G → IsConflictFree G → (d e : Tree) → IsTree G (nonterminal G.start) d
    → IsTree G (nonterminal G.start) e → yield_of d ≡ yield_of e → d ≡ e

-- What the machine accepts, even with conflicts, is a tree of the tokens before the end.
abbrev pub AcceptsTreesOnly : Type 0
AcceptsTreesOnly = (G : Grammar) (judge : Judge) → IsAugmented G → (tokens : List (Token ℕ)) (d : Tree)
    → AcceptsWith G judge tokens d
    → IsTree G (nonterminal G.start) d × (end : Token ℕ) × (behind : List (Token ℕ)) × (end.terminal ≡ 0)
    × (tokens ≡ yield_of d ++ end ∷ behind)

-- the token after those before it is the first that continues no sentence
abbrev pub IsFirstWrong : Grammar → List (Token ℕ) → Token ℕ → Type 0
IsFirstWrong G before t = IsSentencePrefix G before × (IsSentencePrefix G (before ++ t ∷ []) → ⊥)

-- The tokens that the machine has read, even with conflicts, begin a sentence.
abbrev pub ReadsPrefixes : Type 0
ReadsPrefixes = (G : Grammar) (judge : Judge) → IsAugmented G → IsReduced G → (tokens before : List (Token ℕ))
    (c : Configuration) → Leads G judge (begin tokens) c → tokens ≡ before ++ c.rest → IsSentencePrefix G before

-- Without conflicts, the token that the machine refuses is the first that continues no sentence.
abbrev pub RefusesFirst : Type 0
RefusesFirst = (G : Grammar) (judge : Judge) → IsAugmented G → IsReduced G → IsConflictFree G
    → (before behind : List (Token ℕ)) (t : Token ℕ) → RefusesAfter G judge (before ++ t ∷ behind) before
    → IsFirstWrong G before t

-- Without conflicts, on tokens followed by the end whose run ends, it refuses exactly the first that continues no
-- sentence.
abbrev pub RefusesExactly : Type 0
RefusesExactly = (G : Grammar) (judge : Judge) → IsAugmented G → IsReduced G → IsConflictFree G
    → (tokens before behind : List (Token ℕ)) (t end : Token ℕ) → All (λ x. x.terminal ≢ 0) tokens → end.terminal ≡ 0
    → tokens ++ end ∷ [] ≡ before ++ t ∷ behind → Ends G judge (before ++ t ∷ behind)
    → RefusesAfter G judge (before ++ t ∷ behind) before ↔ IsFirstWrong G before t

-- all these tokens are read, and this is the stack: no reduction is made after the last of them
abbrev pub ReadsTo : Grammar → Judge → List (Token ℕ) → List Pushed → Type 0
ReadsTo G judge before stack = Leads G judge (begin before) (record { stack = stack; rest = [] })

-- a token of the terminal continues a sentence after these tokens
abbrev pub Continues : Grammar → List (Token ℕ) → ℕ → Type 0
Continues G before t = (token : Token ℕ) × (token.terminal ≡ t) × IsSentencePrefix G (before ++ token ∷ [])

-- Without conflicts, the terminals that the machine would read after some tokens are those that continue a sentence.
abbrev pub NextContinues : Type 0
NextContinues = (G : Grammar) (judge : Judge) → IsAugmented G → IsReduced G → IsConflictFree G
    → (before : List (Token ℕ)) (stack : List Pushed) → ReadsTo G judge before stack
    → (t : ℕ) → Next G judge stack t ↔ Continues G before t

-- The outcome for one token of a terminal decides whether the terminal is among those that would be read.
pub record DecidesNext (G : Grammar) (judge : Judge) (stack : List Pushed) (probe : Token ℕ) : Type 0 where
  pub read : (next : List Pushed) → Leads G judge (record { stack = stack; rest = probe ∷ [] })
      (record { stack = next; rest = [] }) → Next G judge stack probe.terminal
  pub accepted : (c : Configuration) (d : Tree) → Leads G judge (record { stack = stack; rest = probe ∷ [] }) c
      → Accepts G judge c d → Next G judge stack probe.terminal
  pub refused : (c : Configuration) → Leads G judge (record { stack = stack; rest = probe ∷ [] }) c
      → Refuses G judge c → Next G judge stack probe.terminal → ⊥

abbrev pub OneTokenTells : Type 0
OneTokenTells = (G : Grammar) (judge : Judge) (stack : List Pushed) (probe : Token ℕ) → DecidesNext G judge stack probe

-- the stack after tokens that are read is unique
abbrev pub ReadsToOne : Type 0
ReadsToOne = (G : Grammar) (judge : Judge) (before : List (Token ℕ)) (a b : List Pushed) → ReadsTo G judge before a
    → ReadsTo G judge before b → a ≡ b

-- Reductions by complete rules, whatever terminal is next, lead from one string to another.
pub data Reduces (G : Grammar) : List Symbol → List Symbol → Type 0 where
  here : {g : List Symbol} → Reduces G g g
  onward : {g h : List Symbol} {q t : ℕ} {r : GrammarRule} {before under : List Symbol} → IsRule G q r
      → Valid G g q before [] t → g ≡ before ++ under → Reduces G (nonterminal r.left ∷ under) h → Reduces G g h

-- If reductions lead to a shift of a terminal, it is in the lookahead of the first of them. So a default reduction,
-- made where no action is possible, leads to no shift.
abbrev pub DefaultsNeverMislead : Type 0
DefaultsNeverMislead = (G : Grammar) → IsAugmented G → IsReduced G
    → (g under h before : List Symbol) (q k t : ℕ) (r : GrammarRule) → IsRule G q r → IsViable G g
    → Valid G g q before [] k
    → g ≡ before ++ under → Reduces G (nonterminal r.left ∷ under) h → IsRaw G h t shift → InLookahead G g q t
