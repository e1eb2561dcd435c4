-- What the machine has read begins a sentence, and the token that it refuses continues none.
use Rattle.std.proofs.Common.{◌≡◌, ◌≢◌, ◌⊎◌, inl, inr, ℕ, zero, suc, ◌≤◌, List, [], ◌∷◌, ◌++◌, length, refl, sym, ◌∙◌}
use Rattle.std.proofs.Common.{ap, subst, arith, append_assoc, append-nil}
use Rattle.std.proofs.lemmas.List.{append_cancel_left, append_cancel_right}
use Rattle.ly_base.specs.Lexed.{Token}
use Rattle.ly_base.specs.Trees.{Tree, Trees, leaf, node, none, more, yield_of, yields_of}
use Rattle.ly_join.specs.Grammar.{Grammar, IsAugmented, IsRule, GrammarRule, Symbol, accept_rule, nonterminal, terminal}
use Rattle.ly_grammar.specs.Derivations.{AreTrees, Derives, IsReduced, IsSentencePrefix, IsTree}
use Rattle.ly_grammar.specs.Items.{HasNoEnd, IsNextSymbol, IsViable, Valid, at_start, closed, moved, onto}
use Rattle.ly_grammar.proofs.ItemLemmas.{First_trees, body_of, length-onto, trees_of_end, trees_to_come}
use Rattle.ly_grammar.proofs.SearchLemmas.{rule_is_one}
use Rattle.ly_resolve.specs.Actions.{IsAction, IsTerminalRefused, Judge, error}
use Rattle.ly_resolve.specs.Laws.{ReadsPrefixes, RefusesFirst}
use Rattle.ly_resolve.specs.Machine.{Accepts, Configuration, Leads, Moves, Pushed, Reduces, Refuses, begin, here}
use Rattle.ly_resolve.specs.Machine.{onward, symbols_of}
use Rattle.ly_resolve.proofs.AcceptLemmas.{accepts_all}
use Rattle.ly_resolve.proofs.RunLemmas.{accepts_halts, accepts_or_refuses, end_is_one, refuses_halts}
use Rattle.ly_resolve.proofs.StackLemmas.{AreStacked, ends_with_read, leads_trees, leads_yield, stack_yield}
use Rattle.ly_resolve.proofs.StackLemmas.{symbols_of-append}

-- Where an item is valid at a stack's symbols, the stack's trees and trees of what stands behind the dot are part of a
-- tree of the whole text.
pub complete : {G : Grammar} {g : List Symbol} {p : ℕ} {before after : List Symbol} {t : ℕ} → IsAugmented G
    → Valid G g p before after t → (stack : List Pushed) → symbols_of stack ≡ g → AreStacked G stack → (ts : Trees)
    → AreTrees G after ts
    → (rest : List (Token ℕ)) × Derives G (nonterminal G.accept) ((stack_yield stack ++ yields_of ts) ++ rest)
complete {G} augmented (at_start {r = r} is e) [] same stacked ts are =
    let zeroth = rule_is_one G 0 r (accept_rule G.accept G.start) is augmented.rule_0 in
    let tree : IsTree G (nonterminal G.accept) (node 0 ts)
    = (r, is, ap (λ x. x.left) zeroth, subst (λ w. AreTrees G w ts) e are) in
    ([], (node 0 ts, tree, sym (append-nil (yields_of ts))))
complete augmented (at_start is e) (x ∷ stack) same stacked ts are =
    absurd (let off : x.symbol ∷ symbols_of stack ≡ [] → ⊥ = λ e. cc in off same)
complete {G} augmented (closed {q = q} {r = r} v is left e f) stack same stacked ts are =
    let us = First_trees f in
    let tree : IsTree G (nonterminal _) (node q ts) = (r, is, left, subst (λ w. AreTrees G w ts) e are) in
    let i = complete augmented v stack same stacked (more (node q ts) us.0) (tree, us.1) in
    let regroup : (stack_yield stack ++ (yields_of ts ++ yields_of us.0)) ++ i.0
    ≡ (stack_yield stack ++ yields_of ts) ++ (yields_of us.0 ++ i.0)
    = simp append_assoc in
    (yields_of us.0 ++ i.0, (i.1.0, i.1.1, i.1.2 ∙ regroup))
complete augmented (moved {g = g} {X = X} v) [] same stacked ts are =
    absurd (let off : [] ≡ X ∷ g → ⊥ = λ e. cc in off same)
complete {G} augmented (moved {g = g} {X = X} v) (x ∷ stack) same stacked ts are =
    let whole : x.symbol ∷ symbols_of stack ≡ X ∷ g = same in
    let head : x.symbol ≡ X = cc in
    let tail : symbols_of stack ≡ g = cc in
    let i = complete augmented v stack tail stacked.1 (more x.tree ts)
    (subst (λ Y. IsTree G Y x.tree) head stacked.0, are) in
    let regroup : (stack_yield stack ++ (yield_of x.tree ++ yields_of ts)) ++ i.0
    ≡ ((stack_yield stack ++ yield_of x.tree) ++ yields_of ts) ++ i.0
    = simp append_assoc in
    (i.0, (i.1.0, i.1.1, i.1.2 ∙ regroup))

one_back : {G : Grammar} {g before : List Symbol} {q t : ℕ} {X Y : Symbol} {w : List Symbol}
    → Valid G (X ∷ g) q (Y ∷ before) w t → Valid G g q before (Y ∷ w) t
one_back (moved v) = v

-- an item is valid with its dot in front where what stands before the dot begins
pub unread : {G : Grammar} {q t : ℕ} (before under w : List Symbol) → Valid G (before ++ under) q before w t
    → Valid G under q [] (onto before w) t
unread [] under w v = v
unread (X ∷ before) under w v = unread before under (X ∷ w) (one_back v)

-- an item whose rule begins waits for its left side
pub waits : {G : Grammar} {g : List Symbol} {q t : ℕ} {w : List Symbol} → Valid G g q [] w t → 1 ≤ q → (r : GrammarRule)
    → IsRule G q r → IsNextSymbol G g (nonterminal r.left)
waits (at_start is e) le r rule = absurd (omega arith)
waits {G} (closed {g = g} {p = p} {before = before} {after = after} {B = B} {t = t} {q = q} {r = s} v is left e f) le r
    rule =
    let same : B ≡ r.left = sym left ∙ ap (λ x. x.left) (rule_is_one G q s r is rule) in
    (p, before, after, (t, subst (λ A. Valid G g p before (nonterminal A ∷ after) t) same v))

-- strings that stand alike in the text are alike
onto_cancel : (a b u v : List Symbol) → onto a u ≡ onto b v → length u ≡ length v → (a ≡ b) × (u ≡ v)
onto_cancel [] [] u v e l = (refl, e)
onto_cancel [] (Y ∷ b) u v e l = absurd (omega (arith, ap length e, length-onto b (Y ∷ v), l))
onto_cancel (X ∷ a) [] u v e l = absurd (omega (arith, ap length e, length-onto a (X ∷ u), l))
onto_cancel (X ∷ a) (Y ∷ b) u v e l =
    let parts = onto_cancel a b (X ∷ u) (Y ∷ v) e (ap suc l) in
    let fronts : a ≡ b = parts.0 in
    let rests : X ∷ u ≡ Y ∷ v = parts.1 in
    (cc, cc)

pub HasNoEnd-under : (a under : List Symbol) → HasNoEnd (a ++ under) → HasNoEnd under
HasNoEnd-under [] under ends = ends
HasNoEnd-under (X ∷ a) under ends = HasNoEnd-under a under ends.1

-- a move keeps that the stack's symbols are viable
move_viable : (G : Grammar) (judge : Judge) (c d : Configuration) → IsViable G (symbols_of c.stack)
    → Moves G judge c d → IsViable G (symbols_of d.stack)
move_viable G judge c d viable (inl s) =
    let raw = s.action.0 in
    let not_end : terminal s.token.terminal ≢ terminal 0
    = λ e. s.not_end (let zero_is : s.token.terminal ≡ 0 = cc in zero_is) in
    rw s.pushed ((not_end, viable.0), raw.0, terminal s.token.terminal ∷ raw.1, raw.2, (raw.3.0, moved raw.3.1))
move_viable G judge c d viable (inr s) =
    let raw = s.action.0.0 in
    let l = raw.1 in
    let core = (l.merges.cores s.number l.before []).1 (s.token.terminal, l.valid) in
    let end = ends_with_read core.1 in
    let body = body_of core.1 in
    let rule = rule_is_one G s.number body.0 s.rule body.1 s.is_rule in
    let same : onto l.before [] ≡ onto (symbols_of s.popped) []
    = body.2 ∙ (ap (λ x. x.body) rule ∙ sym s.is_body) in
    let popped : l.before ≡ symbols_of s.popped = (onto_cancel l.before (symbols_of s.popped) [] [] same refl).0 in
    let stack : symbols_of c.stack ≡ symbols_of s.popped ++ symbols_of s.below
    = ap symbols_of s.split ∙ symbols_of-append s.popped s.below in
    let under : end.0 ≡ symbols_of s.below
    = append_cancel_left (symbols_of s.popped) end.0 (symbols_of s.below)
    (ap (λ w. w ++ end.0) (sym popped) ∙ (sym end.1 ∙ stack)) in
    let v : Valid G (l.before ++ end.0) s.number l.before [] core.0
    = subst (λ w. Valid G w s.number l.before [] core.0) end.1 core.1 in
    let begun : Valid G (symbols_of s.below) s.number [] (onto l.before []) core.0
    = subst (λ w. Valid G w s.number [] (onto l.before []) core.0) under (unread l.before end.0 [] v) in
    let w = waits begun raw.0 s.rule s.is_rule in
    let ends = HasNoEnd-under (symbols_of s.popped) (symbols_of s.below) (subst HasNoEnd stack viable.0) in
    rw s.pushed (((λ e. cc), ends), w.0, nonterminal s.rule.left ∷ w.1, w.2, (w.3.0, moved w.3.1))

leads_viable : {G : Grammar} {judge : Judge} {c d : Configuration} → IsViable G (symbols_of c.stack)
    → Leads G judge c d → IsViable G (symbols_of d.stack)
leads_viable viable here = viable
leads_viable {G} {judge} viable (onward {c = c} {d = d} s l) = leads_viable (move_viable G judge c d viable s) l

-- what stands behind the dot of an item has trees
pub trees_after : {G : Grammar} {g : List Symbol} {p : ℕ} {before after : List Symbol} {t : ℕ} → IsAugmented G
    → IsReduced G → Valid G g p before after t → (ts : Trees) × AreTrees G after ts
trees_after {G} {p = zero} {before = before} {after = after} augmented reduced v =
    let body = body_of v in
    let zeroth = rule_is_one G 0 body.0 (accept_rule G.accept G.start) body.1 augmented.rule_0 in
    let end : Token ℕ = record { terminal = 0; at = 0; bytes = [] } in
    let ts : Trees = more reduced.start_tree.0 (more (leaf end) none) in
    let whole : AreTrees G (nonterminal G.start ∷ terminal 0 ∷ []) ts = (reduced.start_tree.1, (refl, tt)) in
    trees_of_end G before after ts
    (subst (λ w. AreTrees G w ts) (sym (body.2 ∙ ap (λ x. x.body) zeroth)) whole)
trees_after {p = suc p} augmented reduced v = trees_to_come reduced (omega arith) v

-- A run that comes to a token does so too where other tokens stand behind it.
other_rest : {G : Grammar} {judge : Judge} {c d : Configuration} (y : Token ℕ) (behind other : List (Token ℕ))
    → Leads G judge c d → d.rest ≡ y ∷ behind
    → (u : List (Token ℕ)) × (c.rest ≡ u ++ y ∷ behind)
    × Leads G judge (record { stack = c.stack; rest = u ++ y ∷ other }) (record { stack = d.stack; rest = y ∷ other })
other_rest y behind other here e = ([], e, here)
other_rest {G} {judge} {d = d} y behind other (onward {c = c} {d = m} (inl s) l) e =
    let i = other_rest y behind other l e in (
      s.token ∷ i.0,
      s.is_next ∙ ap (λ w. s.token ∷ w) i.1,
      onward (inl (record {
        token = s.token;
        is_next = refl;
        action = s.action;
        not_end = s.not_end;
        pushed = s.pushed;
      })) i.2,
    )
other_rest {G} {judge} {d = d} y behind other (onward {c = c} {d = m} (inr s) l) e =
    let i = other_rest y behind other l e in
    (i.0, sym s.kept ∙ i.1, onward (inr (same_move i.0 i.1)) i.2)
  where
    move_with : (u : List (Token ℕ)) (z : Token ℕ) (v : List (Token ℕ)) → u ++ y ∷ other ≡ z ∷ v → s.token ≡ z
        → Reduces G judge (record { stack = c.stack; rest = u ++ y ∷ other })
        (record { stack = m.stack; rest = u ++ y ∷ other })
    move_with u z v whole same = record {
      token = s.token;
      behind = v;
      is_next = whole ∙ ap (λ x. x ∷ v) (sym same);
      kept = refl;
      number = s.number;
      rule = s.rule;
      is_rule = s.is_rule;
      action = s.action;
      popped = s.popped;
      below = s.below;
      split = s.split;
      is_body = s.is_body;
      pushed = s.pushed;
    }

    same_move : (u : List (Token ℕ)) → m.rest ≡ u ++ y ∷ behind
        → Reduces G judge (record { stack = c.stack; rest = u ++ y ∷ other })
        (record { stack = m.stack; rest = u ++ y ∷ other })
    same_move [] k =
        let whole : s.token ∷ s.behind ≡ y ∷ behind = sym s.is_next ∙ (sym s.kept ∙ k) in
        move_with [] y other refl cc
    same_move (x ∷ u) k =
        let whole : s.token ∷ s.behind ≡ x ∷ (u ++ y ∷ behind) = sym s.is_next ∙ (sym s.kept ∙ k) in
        move_with (x ∷ u) x (u ++ y ∷ other) refl cc

-- A tree of the whole text is one of a sentence, with the end behind it.
pub record IsWhole (G : Grammar) (d : Tree) : Type 0 where
  pub sentence : Tree
  pub is : IsTree G (nonterminal G.start) sentence
  pub end : Token ℕ
  pub is_end : end.terminal ≡ 0
  pub yields : yield_of d ≡ yield_of sentence ++ end ∷ []

-- rule 0 is that of the whole text alone
only_zero : (G : Grammar) → IsAugmented G → (p : ℕ) (r : GrammarRule) → IsRule G p r → r.left ≡ G.accept
    → r ≡ accept_rule G.accept G.start
only_zero G augmented zero r is left = rule_is_one G 0 r (accept_rule G.accept G.start) is augmented.rule_0
only_zero G augmented (suc p) r is left =
    let lt = (augmented.within (suc p) r is (omega arith)).left in
    absurd (omega (arith, lt, left))

pub whole_tree : (G : Grammar) → IsAugmented G → (d : Tree) → IsTree G (nonterminal G.accept) d → IsWhole G d
whole_tree G augmented (leaf t) is = absurd is
whole_tree G augmented (node p ts) (r, rule, left, are) =
    of_body ts (subst (λ x. AreTrees G x.body ts) (only_zero G augmented p r rule left) are)
  where
    of_body : (ts : Trees) → AreTrees G (nonterminal G.start ∷ terminal 0 ∷ []) ts → IsWhole G (node p ts)
    of_body none are = absurd are
    of_body (more d none) are = absurd are.1
    of_body (more d (more (node q us) ts)) are = absurd are.1.0
    of_body (more d (more (leaf z) none)) are
        = record { sentence = d; is = are.0; end = z; is_end = are.1.0; yields = refl }
    of_body (more d (more (leaf z) (more e ts))) are = absurd are.1.1

-- what the machine has read begins a sentence
pub read_prefix : ReadsPrefixes
read_prefix G judge augmented reduced tokens before c l split =
    let viable = leads_viable at_bottom l in
    let v = viable.4.1 in
    let ts = trees_after augmented reduced v in
    let stacked = leads_trees {c = begin tokens} l tt in
    let i = complete augmented v c.stack refl stacked ts.0 ts.1 in
    let regroup = append_assoc (stack_yield c.stack) (yields_of ts.0) i.0
    ∙ ap (λ w. w ++ (yields_of ts.0 ++ i.0)) (sym before_is) in
    (yields_of ts.0 ++ i.0, (i.1.0, i.1.1, i.1.2 ∙ regroup))
  where
    at_bottom : IsViable G []
    at_bottom = (tt, 0, [], nonterminal G.start ∷ terminal 0 ∷ [], (0, at_start augmented.rule_0 refl))

    before_is : before ≡ stack_yield c.stack
    before_is = append_cancel_right before (stack_yield c.stack) c.rest (sym split ∙ leads_yield {c = begin tokens} l)

pub refused_first : RefusesFirst
refused_first G judge augmented reduced free before behind t (c, l, r, split) = (
  read_prefix G judge augmented reduced (before ++ t ∷ behind) before c l split,
  continues_none,
)
  where
    rest_is : c.rest ≡ t ∷ behind
    rest_is = append_cancel_left before c.rest (t ∷ behind) (sym split)

    continues_none : IsSentencePrefix G (before ++ t ∷ []) → ⊥
    continues_none prefix =
        let w = whole_tree G augmented prefix.1.0 prefix.1.1 in
        let other = other_rest t behind prefix.0 l rest_is in
        let read : before ≡ other.0 = append_cancel_right before other.0 (t ∷ behind) other.1 in
        let a = accepts_all G judge augmented free w.sentence w.end w.is w.is_end in
        let text : yield_of w.sentence ++ w.end ∷ [] ≡ other.0 ++ t ∷ prefix.0
        = sym w.yields ∙ (prefix.1.2 ∙ (append_assoc before (t ∷ []) prefix.0 ∙ ap (λ x. x ++ t ∷ prefix.0) read)) in
        let there : Configuration = record { stack = c.stack; rest = t ∷ prefix.0 } in
        let run : Leads G judge (begin (other.0 ++ t ∷ prefix.0)) a.0
        = subst (λ x. Leads G judge (begin x) a.0) text a.1 in
        let first : r.token ∷ r.behind ≡ t ∷ behind = sym r.is_next ∙ rest_is in
        let token : r.token ≡ t = cc in
        let refused : Refuses G judge there = record {
          token = t;
          behind = prefix.0;
          is_next = refl;
          action = subst (λ x. IsAction G judge (symbols_of c.stack) x.terminal error
              ⊎ IsTerminalRefused G (symbols_of c.stack) x.terminal) token r.action;
        } in
        let same = end_is_one G judge run other.2 (accepts_halts G judge a.0 w.sentence a.2)
        (refuses_halts G judge there refused) in
        accepts_or_refuses G judge there w.sentence (subst (λ x. Accepts G judge x w.sentence) same a.2) refused
