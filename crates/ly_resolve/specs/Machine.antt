-- The reference machine: an LR parser with symbols and their trees on its stack in place of states. It consults the
-- whole stack to choose its action, so it defines what any table must do (Knuth 1965; Aho, Sethi and Ullman 1986, 4.7).
use Rattle.std.specs.Prelude.{◌≡◌, ◌≢◌, ℕ, List, [], ◌∷◌, ◌++◌, ◌⊎◌, map}
use Rattle.ly_base.specs.Lexed.{Token}
use Rattle.ly_base.specs.Trees.{Tree, Trees, leaf, node, none, more}
use Rattle.ly_join.specs.Grammar.{Grammar, IsRule, GrammarRule, Symbol, nonterminal, terminal}
use Rattle.ly_grammar.specs.Items.{onto}
use Rattle.ly_resolve.specs.Actions.{IsAction, IsTerminalRefused, Judge, error, reduce, shift}

-- A symbol on the stack, with its tree.
pub record Pushed : Type 0 where
  pub symbol : Symbol
  pub tree : Tree

-- the symbols of a stack, its top first: a string with its last symbol first
abbrev pub symbols_of : List Pushed → List Symbol
symbols_of stack = map (λ x. x.symbol) stack

-- the trees of a stack, its top first, put before others, in the order of the text
abbrev pub trees_onto : List Pushed → Trees → Trees
trees_onto [] ts = ts
trees_onto (x ∷ stack) ts = trees_onto stack (more x.tree ts)

-- A configuration: the stack, its top first, and the remaining tokens, the end last.
pub record Configuration : Type 0 where
  pub stack : List Pushed
  pub rest : List (Token ℕ)

-- The next token is shifted onto the stack.
pub record Shifts (G : Grammar) (judge : Judge) (c d : Configuration) : Type 0 where
  pub token : Token ℕ
  pub is_next : c.rest ≡ token ∷ d.rest
  pub action : IsAction G judge (symbols_of c.stack) token.terminal shift
  pub not_end : token.terminal ≢ 0
  pub pushed : d.stack ≡ record { symbol = terminal token.terminal; tree = leaf token } ∷ c.stack

-- A reduction by a rule whose body is on top of the stack: its left side replaces the body, and the tree is the rule
-- over the trees of the body.
pub record Reduces (G : Grammar) (judge : Judge) (c d : Configuration) : Type 0 where
  pub token : Token ℕ
  pub behind : List (Token ℕ)
  pub is_next : c.rest ≡ token ∷ behind
  pub kept : d.rest ≡ c.rest
  pub number : ℕ
  pub rule : GrammarRule
  pub is_rule : IsRule G number rule
  pub action : IsAction G judge (symbols_of c.stack) token.terminal (reduce number)
  pub popped : List Pushed
  pub below : List Pushed
  pub split : c.stack ≡ popped ++ below
  pub is_body : onto (symbols_of popped) [] ≡ rule.body
  pub pushed : d.stack
      ≡ record { symbol = nonterminal rule.left; tree = node number (trees_onto popped none) } ∷ below

-- a move of the machine
abbrev pub Moves : Grammar → Judge → Configuration → Configuration → Type 0
Moves G judge c d = Shifts G judge c d ⊎ Reduces G judge c d

-- A sequence of moves leads from one configuration to another.
pub data Leads (G : Grammar) (judge : Judge) : Configuration → Configuration → Type 0 where
  here : {c : Configuration} → Leads G judge c c
  onward : {c d e : Configuration} → Moves G judge c d → Leads G judge d e → Leads G judge c e

-- The machine accepts: the end is next and would be shifted, and the tree is on top of the stack.
pub record Accepts (G : Grammar) (judge : Judge) (c : Configuration) (d : Tree) : Type 0 where
  pub token : Token ℕ
  pub behind : List (Token ℕ)
  pub is_next : c.rest ≡ token ∷ behind
  pub is_end : token.terminal ≡ 0
  pub action : IsAction G judge (symbols_of c.stack) 0 shift
  pub symbol : Symbol
  pub below : List Pushed
  pub is_top : c.stack ≡ record { symbol = symbol; tree = d } ∷ below

-- The machine refuses the next token: by associativity, or because no action is possible.
pub record Refuses (G : Grammar) (judge : Judge) (c : Configuration) : Type 0 where
  pub token : Token ℕ
  pub behind : List (Token ℕ)
  pub is_next : c.rest ≡ token ∷ behind
  pub action : IsAction G judge (symbols_of c.stack) token.terminal error
      ⊎ IsTerminalRefused G (symbols_of c.stack) token.terminal

-- the initial configuration: an empty stack, and all tokens remaining
abbrev pub begin : List (Token ℕ) → Configuration
begin tokens = record { stack = []; rest = tokens }

-- the run on the tokens, the end last, accepts with the tree
abbrev pub AcceptsWith : Grammar → Judge → List (Token ℕ) → Tree → Type 0
AcceptsWith G judge tokens d = (c : Configuration) × Leads G judge (begin tokens) c × Accepts G judge c d

-- the run on the tokens ends because the token after these is refused
abbrev pub RefusesAfter : Grammar → Judge → List (Token ℕ) → List (Token ℕ) → Type 0
RefusesAfter G judge tokens before = (c : Configuration) × Leads G judge (begin tokens) c × Refuses G judge c
    × (tokens ≡ before ++ c.rest)

-- the run on the tokens ends
abbrev pub Ends : Grammar → Judge → List (Token ℕ) → Type 0
Ends G judge tokens = ((d : Tree) × AcceptsWith G judge tokens d)
    ⊎ ((before : List (Token ℕ)) × RefusesAfter G judge tokens before)

-- From this stack the machine would come to shift a token of the terminal, or to accept if it is the end.
abbrev pub Next : Grammar → Judge → List Pushed → ℕ → Type 0
Next G judge stack t = (token : Token ℕ) × (token.terminal ≡ t) × (c : Configuration)
    × Leads G judge (record { stack = stack; rest = token ∷ [] }) c
    × (c.rest ≡ token ∷ []) × IsAction G judge (symbols_of c.stack) t shift
