-- Trees on a stack: what they yield, and what moves keep of them.
use Rattle.std.proofs.Common.{◌≡◌, inl, inr, ℕ, suc, List, [], ◌∷◌, ◌++◌, refl, sym, ◌∙◌, ap, subst, append_assoc}
use Rattle.std.proofs.Common.{append-nil, length}
use Rattle.ly_base.specs.Lexed.{Token}
use Rattle.ly_base.specs.Trees.{Trees, none, more, yield_of, yields_of}
use Rattle.ly_join.specs.Grammar.{Grammar, Symbol}
use Rattle.ly_grammar.specs.Derivations.{AreTrees, IsTree}
use Rattle.ly_grammar.specs.Items.{Valid, at_start, closed, moved, onto}
use Rattle.ly_resolve.specs.Actions.{Judge}
use Rattle.ly_resolve.specs.Machine.{Configuration, Leads, Moves, Pushed, here, onward, symbols_of, trees_onto}

-- the tokens at the leaves of a stack's trees, in the order of the text
abbrev pub stack_yield : List Pushed → List (Token ℕ)
stack_yield [] = []
stack_yield (x ∷ stack) = stack_yield stack ++ yield_of x.tree

-- each tree on the stack is one of its symbol
abbrev pub AreStacked : Grammar → List Pushed → Type 0
AreStacked G [] = Unit {0}
AreStacked G (x ∷ stack) = IsTree G x.symbol x.tree × AreStacked G stack

-- a stack has as many symbols
pub length-symbols_of : (stack : List Pushed) → length (symbols_of stack) ≡ length stack
length-symbols_of [] = refl
length-symbols_of (x ∷ stack) = ap suc (length-symbols_of stack)

-- the symbols of one stack on top of another
pub symbols_of-append : (stack below : List Pushed)
    → symbols_of (stack ++ below) ≡ symbols_of stack ++ symbols_of below
symbols_of-append [] below = refl
symbols_of-append (x ∷ stack) below = ap (λ w. x.symbol ∷ w) (symbols_of-append stack below)

-- where an item is valid, the string ends with what stands before the dot
pub ends_with_read : {G : Grammar} {g : List Symbol} {p : ℕ} {before after : List Symbol} {t : ℕ}
    → Valid G g p before after t → (under : List Symbol) × (g ≡ before ++ under)
ends_with_read (at_start a b) = ([], refl)
ends_with_read (closed {g = g} v a b c d) = (g, refl)
ends_with_read (moved {X = X} v) = let end = ends_with_read v in (end.0, ap (λ w. X ∷ w) end.1)

-- what a stack's trees yield in front of others
yields_of-trees_onto : (stack : List Pushed) (ts : Trees)
    → yields_of (trees_onto stack ts) ≡ stack_yield stack ++ yields_of ts
yields_of-trees_onto [] ts = refl
yields_of-trees_onto (x ∷ stack) ts =
    yields_of-trees_onto stack (more x.tree ts)
    ∙ sym (append_assoc (stack_yield stack) (yield_of x.tree) (yields_of ts))

-- what one stack on top of another yields
stack_yield-append : (stack below : List Pushed)
    → stack_yield (stack ++ below) ≡ stack_yield below ++ stack_yield stack
stack_yield-append [] below = sym (append-nil (stack_yield below))
stack_yield-append (x ∷ stack) below =
    ap (λ w. w ++ yield_of x.tree) (stack_yield-append stack below)
    ∙ append_assoc (stack_yield below) (stack_yield stack) (yield_of x.tree)

-- a move keeps what the stack yields, with the tokens left behind it
move_yield : {G : Grammar} {judge : Judge} (c d : Configuration) → Moves G judge c d
    → stack_yield c.stack ++ c.rest ≡ stack_yield d.stack ++ d.rest
move_yield c d (inl s) = rw (s.pushed, s.is_next) (sym (append_assoc (stack_yield c.stack) (s.token ∷ []) d.rest))
move_yield c d (inr s) =
    let body = yields_of-trees_onto s.popped none ∙ append-nil (stack_yield s.popped) in
    rw (s.pushed, s.kept, s.split) (ap (λ w. w ++ c.rest) (stack_yield-append s.popped s.below
    ∙ ap (λ w. stack_yield s.below ++ w) (sym body)))

-- and so do moves one after another
pub leads_yield : {G : Grammar} {judge : Judge} {c d : Configuration} → Leads G judge c d
    → stack_yield c.stack ++ c.rest ≡ stack_yield d.stack ++ d.rest
leads_yield here = refl
leads_yield (onward {c = c} {d = d} s l) = move_yield c d s ∙ leads_yield l

-- the trees of two stacks, one on top of the other
AreStacked-split : (G : Grammar) (stack below : List Pushed) → AreStacked G (stack ++ below)
    → AreStacked G stack × AreStacked G below
AreStacked-split G [] below are = (tt, are)
AreStacked-split G (x ∷ stack) below are =
    let parts = AreStacked-split G stack below are.1 in
    ((are.0, parts.0), parts.1)

-- the trees of a stack's symbols in front of trees of others
are_trees_onto : (G : Grammar) (stack : List Pushed) (w : List Symbol) (ts : Trees) → AreStacked G stack
    → AreTrees G w ts → AreTrees G (onto (symbols_of stack) w) (trees_onto stack ts)
are_trees_onto G [] w ts stacked are = are
are_trees_onto G (x ∷ stack) w ts stacked are =
    are_trees_onto G stack (x.symbol ∷ w) (more x.tree ts) stacked.1 (stacked.0, are)

-- a move keeps that the trees are those of the symbols
move_trees : {G : Grammar} {judge : Judge} (c d : Configuration) → Moves G judge c d → AreStacked G c.stack
    → AreStacked G d.stack
move_trees c d (inl s) are = rw s.pushed (refl, are)
move_trees {G} c d (inr s) are =
    let parts = AreStacked-split G s.popped s.below (subst (AreStacked G) s.split are) in
    let body : AreTrees G s.rule.body (trees_onto s.popped none)
    = subst (λ w. AreTrees G w (trees_onto s.popped none)) s.is_body (are_trees_onto G s.popped [] none parts.0 tt) in
    rw s.pushed ((s.rule, s.is_rule, refl, body), parts.1)

-- and so do moves one after another
pub leads_trees : {G : Grammar} {judge : Judge} {c d : Configuration} → Leads G judge c d → AreStacked G c.stack
    → AreStacked G d.stack
leads_trees here are = are
leads_trees (onward {c = c} {d = d} s l) are = leads_trees l (move_trees c d s are)
