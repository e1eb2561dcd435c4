-- Leftmost derivations that are under way, and the moves of a parser on the way to their trees.
use Rattle.std.specs.Prelude.{◌≡◌, ◌↔◌, ℕ, List, [], ◌∷◌, ◌++◌, map, reverse, Option, Some, None}
use Rattle.ly_base.specs.Trees.{Tree}
use Rattle.ly_base.specs.declared.numbers.Sym.{Sym}
use Rattle.ly_join.specs.Grammar.{Grammar, Symbol, nonterminal, terminal}
use Rattle.ly_grammar.specs.Derivations.{IsTree}
use Rattle.ly_counterexamples.specs.Moves.{Move, moves_of, reduces, shifts}
use Rattle.ly_counterexamples.specs.Sentences.{rules_of}
use Rattle.ly_counterexamples.specs.declared.moves.Ahead as ahead
use Rattle.ly_counterexamples.specs.declared.moves.Ahead.TheVariants.{Known, Open}
use Rattle.ly_counterexamples.specs.declared.moves.Move as code
use Rattle.ly_counterexamples.specs.declared.moves.Move.TheVariants.{Shift, Reduce}

abbrev pub move_from : code.Move → Move
move_from (Shift t) = shifts t.0
move_from (Reduce p) = reduces p

-- moves as they are kept
abbrev pub moves_from : List code.Move → List Move
moves_from = map move_from

-- What is ahead: a move that is known, or a nonterminal, which a rule is still to replace.
pub data Ahead : Type 0 where
  known : Move → Ahead
  open_at : ℕ → Ahead

abbrev pub ahead_from : ahead.Ahead → Ahead
ahead_from (Known m) = known (move_from m)
ahead_from (Open left) = open_at left.0

-- what is ahead, the next first, which is kept with the next last
abbrev pub next_of : List ahead.Ahead → List Ahead
next_of kept = reverse (map ahead_from kept)

-- what a symbol of a body is ahead: a terminal is shifted, and a nonterminal is replaced
abbrev pub ahead_of : Symbol → Ahead
ahead_of (terminal t) = known (shifts t)
ahead_of (nonterminal A) = open_at A

-- trees of the nonterminals that are ahead have these rules, and with the moves that are known these moves
abbrev pub Derive : Grammar → List Ahead → List ℕ → List Move → Type 0
Derive G [] rules moves = (rules ≡ []) × (moves ≡ [])
Derive G (known m ∷ S) rules moves = (rest : List Move) × (moves ≡ m ∷ rest) × Derive G S rules rest
Derive G (open_at A ∷ S) rules moves = (d : Tree) × IsTree G (nonterminal A) d × (others : List ℕ) × (rest : List Move)
    × (rules ≡ rules_of d ++ others) × (moves ≡ moves_of d ++ rest) × Derive G S others rest

-- the moves are those on the way to a tree of the start symbol that has these rules
pub record AreMovesBy (G : Grammar) (rules : List ℕ) (moves : List Move) : Type 0 where
  pub tree : Tree
  pub derives : IsTree G (nonterminal G.start) tree
  pub has : rules_of tree ≡ rules
  pub made : moves_of tree ≡ moves

-- The moves by these rules are those that are done, and those by which what is ahead comes by the rules that are left.
abbrev pub IsUnderWay : Grammar → List ℕ → List Move → List Ahead → List ℕ → Type 0
IsUnderWay G rules done ahead left = (w : List Move) → AreMovesBy G rules w
    ↔ ((v : List Move) × (w ≡ done ++ v) × Derive G ahead left v)

-- the moves are the only ones by these rules
abbrev pub AreOnlyMoves : Grammar → List ℕ → List Move → Type 0
AreOnlyMoves G rules w = AreMovesBy G rules w × ((v : List Move) → AreMovesBy G rules v → v ≡ w)

-- no tree has these rules
abbrev pub AreOfNone : Grammar → List ℕ → Type 0
AreOfNone G rules = (w : List Move) → AreMovesBy G rules w → ⊥

-- the moves in front are made, and the nonterminal behind them is taken, or nothing is left
abbrev pub IsPassed : List Ahead → List Ahead → List Move → List Move → Option Sym → Type 0
IsPassed old new before behind (Some left) =
    (us : List Move) × (old ≡ map known us ++ open_at left.0 ∷ new) × (behind ≡ before ++ us)
IsPassed old new before behind None = (us : List Move) × (old ≡ map known us) × (behind ≡ before ++ us)
