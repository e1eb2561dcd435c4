-- The terminals that the machine would read next: without conflicts they are those that continue a sentence, and what
-- becomes of one token of a terminal says whether it is among them.
use Rattle.std.proofs.Common.{◌≡◌, inl, inr, List, [], ◌∷◌, ◌++◌, refl, sym, ◌∙◌, ap, subst, append_assoc}
use Rattle.std.proofs.Common.{append-nil, ℕ}
use Rattle.std.proofs.lemmas.List.{append_cancel_right}
use Rattle.ly_base.specs.Lexed.{Token}
use Rattle.ly_base.specs.Trees.{Tree, leaf, more, yield_of, yields_of}
use Rattle.ly_join.specs.Grammar.{Grammar, IsAugmented}
use Rattle.ly_grammar.specs.Derivations.{IsReduced}
use Rattle.ly_grammar.specs.Items.{moved}
use Rattle.ly_resolve.specs.Actions.{IsAction, IsConflictFree, Judge, reduce, shift}
use Rattle.ly_resolve.specs.Laws.{Continues, NextContinues, OneTokenTells, ReadsTo, ReadsToOne}
use Rattle.ly_resolve.specs.Machine.{Accepts, Configuration, Leads, Moves, Next, Pushed, Reduces, Refuses, begin, here}
use Rattle.ly_resolve.specs.Machine.{onward, symbols_of}
use Rattle.ly_resolve.proofs.AcceptLemmas.{accepts_all}
use Rattle.ly_resolve.proofs.RefuseLemmas.{complete, trees_after, whole_tree}
use Rattle.ly_resolve.proofs.RunLemmas.{Halts, accepts_halts, action_is_one, end_is_one, move_is_one, refuses_halts}
use Rattle.ly_resolve.proofs.RunLemmas.{shift_refused}
use Rattle.ly_resolve.proofs.StackLemmas.{leads_trees, leads_yield, stack_yield}

-- the stack, with these tokens left
abbrev over : List Pushed → List (Token ℕ) → Configuration
over stack rest = record { stack = stack; rest = rest }

-- Where a token of the same terminal is next, a reduction is the same.
reduced : {G : Grammar} {judge : Judge} {c d : Configuration} (s : Reduces G judge c d) (z : Token ℕ)
    (left : List (Token ℕ)) → z.terminal ≡ s.token.terminal
    → Reduces G judge (over c.stack (z ∷ left)) (over d.stack (z ∷ left))
reduced {G} {judge} {c} s z left same = record {
  token = z;
  behind = left;
  is_next = refl;
  kept = refl;
  number = s.number;
  rule = s.rule;
  is_rule = s.is_rule;
  action = subst (λ k. IsAction G judge (symbols_of c.stack) k (reduce s.number)) (sym same) s.action;
  popped = s.popped;
  below = s.below;
  split = s.split;
  is_body = s.is_body;
  pushed = s.pushed;
}

-- A run stays one where tokens stand behind.
longer : {G : Grammar} {judge : Judge} {c d : Configuration} (tail : List (Token ℕ)) → Leads G judge c d
    → Leads G judge (over c.stack (c.rest ++ tail)) (over d.stack (d.rest ++ tail))
longer tail here = here
longer {G} {judge} tail (onward {c = c} {d = m} (inl s) l) =
    onward (inl (record {
      token = s.token;
      is_next = ap (λ w. w ++ tail) s.is_next;
      action = s.action;
      not_end = s.not_end;
      pushed = s.pushed;
    })) (longer tail l)
longer {G} {judge} tail (onward {c = c} {d = m} (inr s) l) =
    let move : Reduces G judge (over c.stack (c.rest ++ tail)) (over m.stack (m.rest ++ tail)) =
    subst (λ w. Reduces G judge (over c.stack (c.rest ++ tail)) (over m.stack (w ++ tail))) (sym s.kept)
    (subst (λ w. Reduces G judge (over c.stack (w ++ tail)) (over m.stack (w ++ tail))) (sym s.is_next)
    (reduced s s.token (s.behind ++ tail) refl)) in
    onward (inr move) (longer tail l)

-- where one run halts, it goes on from where another comes to
goes_through : {G : Grammar} {judge : Judge} {c d e : Configuration} → Leads G judge c d → Leads G judge c e
    → Halts G judge e → Leads G judge d e
goes_through here b halts = b
goes_through (onward {d = x} s a) here halts = absurd (halts x s)
goes_through {G} {judge} {c} {d} {e} (onward {d = x} s a) (onward {d = y} r b) halts =
    goes_through a (subst (λ z. Leads G judge z e) (sym (move_is_one G judge c x y s r)) b) halts

-- with no token left there is no move
no_move : {G : Grammar} {judge : Judge} (c d : Configuration) → c.rest ≡ [] → Moves G judge c d → ⊥
no_move c d gone (inl s) = let off : [] ≡ s.token ∷ d.rest → ⊥ = λ e. cc in off (sym gone ∙ s.is_next)
no_move c d gone (inr s) = let off : [] ≡ s.token ∷ s.behind → ⊥ = λ e. cc in off (sym gone ∙ s.is_next)

pub reads_to_one : ReadsToOne
reads_to_one G judge before a b one other =
    ap (λ c. c.stack)
    (end_is_one G judge one other (λ d. no_move (over a []) d refl) (λ d. no_move (over b []) d refl))

-- from the stack the run comes to where the token, the last that is left, is shifted
abbrev Shifted : Grammar → Judge → List Pushed → Token ℕ → Type 0
Shifted G judge stack y = (c : Configuration) × Leads G judge (over stack (y ∷ [])) c × (c.rest ≡ y ∷ [])
    × IsAction G judge (symbols_of c.stack) y.terminal shift

-- A run that accepts shifts the token that is next, or accepts before it.
accepted_shifts : {G : Grammar} {judge : Judge} {m a : Configuration} (y : Token ℕ) (tail : List (Token ℕ)) (d : Tree)
    → Leads G judge m a → m.rest ≡ y ∷ tail → Accepts G judge a d → Shifted G judge m.stack y
accepted_shifts {G} {judge} {a = a} y tail d here next accepts =
    let whole : y ∷ tail ≡ accepts.token ∷ accepts.behind = sym next ∙ accepts.is_next in
    let same : y ≡ accepts.token = cc in
    let end : 0 ≡ y.terminal = sym (ap (λ x. x.terminal) same ∙ accepts.is_end) in
    (over a.stack (y ∷ []), here, refl, subst (λ k. IsAction G judge (symbols_of a.stack) k shift) end accepts.action)
accepted_shifts {G} {judge} y tail d (onward {c = m} {d = n} (inl s) l) next accepts =
    let whole : y ∷ tail ≡ s.token ∷ n.rest = sym next ∙ s.is_next in
    let same : s.token ≡ y = cc in
    let action = subst (λ x. IsAction G judge (symbols_of m.stack) x.terminal shift) same s.action in
    (over m.stack (y ∷ []), here, refl, action)
accepted_shifts {G} {judge} y tail d (onward {c = m} {d = n} (inr s) l) next accepts =
    let i = accepted_shifts y tail d l (s.kept ∙ next) accepts in
    let whole : y ∷ tail ≡ s.token ∷ s.behind = sym next ∙ s.is_next in
    let same : y ≡ s.token = cc in
    (i.0, onward (inr (reduced s y [] (ap (λ x. x.terminal) same))) i.1, i.2, i.3)

-- A run that reads the one token that is left shifts it.
read_shifts : {G : Grammar} {judge : Judge} {m a : Configuration} (y : Token ℕ) → Leads G judge m a
    → m.rest ≡ y ∷ [] → a.rest ≡ [] → Shifted G judge m.stack y
read_shifts y here next gone = absurd (let off : y ∷ [] ≡ [] → ⊥ = λ e. cc in off (sym next ∙ gone))
read_shifts {G} {judge} y (onward {c = m} {d = n} (inl s) l) next gone =
    let whole : y ∷ [] ≡ s.token ∷ n.rest = sym next ∙ s.is_next in
    let same : s.token ≡ y = cc in
    let action = subst (λ x. IsAction G judge (symbols_of m.stack) x.terminal shift) same s.action in
    (over m.stack (y ∷ []), here, refl, action)
read_shifts {G} {judge} y (onward {c = m} {d = n} (inr s) l) next gone =
    let i = read_shifts y l (s.kept ∙ next) gone in
    let whole : y ∷ [] ≡ s.token ∷ s.behind = sym next ∙ s.is_next in
    let same : y ≡ s.token = cc in
    (i.0, onward (inr (reduced s y [] (ap (λ x. x.terminal) same))) i.1, i.2, i.3)

-- what would be read next continues a sentence
next_is_continuing : (G : Grammar) (judge : Judge) → IsAugmented G → IsReduced G → (before : List (Token ℕ))
    (stack : List Pushed) → ReadsTo G judge before stack → (t : ℕ) → Next G judge stack t → Continues G before t
next_is_continuing G judge augmented reduced before stack run t (token, is, c, l, rest, action) =
    let raw = action.0 in
    let v = raw.3.1 in
    let ts = trees_after augmented reduced (moved v) in
    let stacked = leads_trees {c = over stack (token ∷ [])} l (leads_trees {c = begin before} run tt) in
    let i = complete augmented v c.stack refl stacked (more (leaf token) ts.0) (is, ts.1) in
    let read : before ≡ stack_yield stack
    = leads_yield {c = begin before} run ∙ append-nil (stack_yield stack) in
    let yields : stack_yield stack ++ token ∷ [] ≡ stack_yield c.stack ++ token ∷ []
    = leads_yield {c = over stack (token ∷ [])} l ∙ ap (λ w. stack_yield c.stack ++ w) rest in
    let same : before ≡ stack_yield c.stack
    = read ∙ append_cancel_right (stack_yield stack) (stack_yield c.stack) (token ∷ []) yields in
    let regroup : (stack_yield c.stack ++ (token ∷ yields_of ts.0)) ++ i.0
    ≡ (stack_yield c.stack ++ token ∷ []) ++ (yields_of ts.0 ++ i.0)
    = simp append_assoc in
    let whole = regroup ∙ ap (λ w. (w ++ token ∷ []) ++ (yields_of ts.0 ++ i.0)) (sym same) in
    (token, is, (yields_of ts.0 ++ i.0, (i.1.0, i.1.1, i.1.2 ∙ whole)))

-- without conflicts what continues a sentence would be read next
continuing_is_next : (G : Grammar) (judge : Judge) → IsAugmented G → IsConflictFree G → (before : List (Token ℕ))
    (stack : List Pushed) → ReadsTo G judge before stack → (t : ℕ) → Continues G before t → Next G judge stack t
continuing_is_next G judge augmented free before stack run t (token, is, prefix) =
    let rest = prefix.0 in
    let w = whole_tree G augmented prefix.1.0 prefix.1.1 in
    let a = accepts_all G judge augmented free w.sentence w.end w.is w.is_end in
    let text : yield_of w.sentence ++ w.end ∷ [] ≡ before ++ token ∷ rest
    = sym w.yields ∙ (prefix.1.2 ∙ append_assoc before (token ∷ []) rest) in
    let whole : Leads G judge (begin (before ++ token ∷ rest)) a.0
    = subst (λ x. Leads G judge (begin x) a.0) text a.1 in
    let there : Leads G judge (begin (before ++ token ∷ rest)) (over stack (token ∷ rest))
    = longer (token ∷ rest) run in
    let on = goes_through there whole (accepts_halts G judge a.0 w.sentence a.2) in
    let s = accepted_shifts token rest w.sentence on refl a.2 in
    (token, is, s.0, s.1, s.2, subst (λ k. IsAction G judge (symbols_of s.0.stack) k shift) is s.3)

pub next_continues : NextContinues
next_continues G judge augmented reduced free before stack run t = (
  next_is_continuing G judge augmented reduced before stack run t,
  continuing_is_next G judge augmented free before stack run t,
)

-- Where the one token that is left stays, a run is the same before another of its terminal.
other_token : {G : Grammar} {judge : Judge} {m c : Configuration} (x y : Token ℕ) → y.terminal ≡ x.terminal
    → Leads G judge m c → m.rest ≡ x ∷ [] → c.rest ≡ x ∷ []
    → Leads G judge (over m.stack (y ∷ [])) (over c.stack (y ∷ []))
other_token x y same here next kept = here
other_token {G} {judge} {c = c} x y same (onward {c = m} {d = n} (inl s) l) next kept =
    let whole : x ∷ [] ≡ s.token ∷ n.rest = sym next ∙ s.is_next in
    let gone : n.rest ≡ [] = cc in
    absurd (stays l gone)
  where
    stays : {n : Configuration} → Leads G judge n c → n.rest ≡ [] → ⊥
    stays here gone = let off : x ∷ [] ≡ [] → ⊥ = λ e. cc in off (sym kept ∙ gone)
    stays (onward {c = n} {d = k} r l) gone = no_move n k gone r
other_token x y same (onward {c = m} {d = n} (inr s) l) next kept =
    let whole : x ∷ [] ≡ s.token ∷ s.behind = sym next ∙ s.is_next in
    let token : x ≡ s.token = cc in
    onward (inr (reduced s y [] (same ∙ ap (λ z. z.terminal) token))) (other_token x y same l (s.kept ∙ next) kept)

-- where the token is shifted, no run comes to refuse it
not_refused : {G : Grammar} {judge : Judge} (y : Token ℕ) (c r : Configuration) → c.rest ≡ y ∷ []
    → IsAction G judge (symbols_of c.stack) y.terminal shift → Refuses G judge r → Leads G judge c r → ⊥
not_refused {G} {judge} y c r next action refused here =
    let whole : y ∷ [] ≡ refused.token ∷ refused.behind = sym next ∙ refused.is_next in
    let same : y ≡ refused.token = cc in
    shift_refused G judge (symbols_of r.stack) refused.token.terminal
    (subst (λ z. IsAction G judge (symbols_of r.stack) z.terminal shift) same action) refused.action
not_refused {G} {judge} y c r next action refused (onward {d = n} (inl s) l) =
    let whole : y ∷ [] ≡ s.token ∷ n.rest = sym next ∙ s.is_next in
    let gone : n.rest ≡ [] = cc in
    stays l gone
  where
    stays : {n : Configuration} → Leads G judge n r → n.rest ≡ [] → ⊥
    stays here gone = let off : [] ≡ refused.token ∷ refused.behind → ⊥ = λ e. cc in off (sym gone ∙ refused.is_next)
    stays (onward {c = n} {d = k} x l) gone = no_move n k gone x
not_refused {G} {judge} y c r next action refused (onward {d = n} (inr s) l) =
    let whole : y ∷ [] ≡ s.token ∷ s.behind = sym next ∙ s.is_next in
    let same : y ≡ s.token = cc in
    let off = action_is_one G judge (symbols_of c.stack) s.token.terminal shift (reduce s.number)
    (subst (λ z. IsAction G judge (symbols_of c.stack) z.terminal shift) same action) s.action in
    cc

refused_tells : {G : Grammar} {judge : Judge} (stack : List Pushed) (probe : Token ℕ) (c : Configuration)
    → Leads G judge (over stack (probe ∷ [])) c → Refuses G judge c → Next G judge stack probe.terminal → ⊥
refused_tells {G} {judge} stack probe c l r (token, is, e, k, rest, action) =
    let same = other_token token probe (sym is) k refl rest in
    let on = goes_through same l (refuses_halts G judge c r) in
    not_refused probe (over e.stack (probe ∷ [])) c refl action r on

pub one_token_tells : OneTokenTells
one_token_tells G judge stack probe = record {
  read = λ next l. let s = read_shifts probe l refl refl in (probe, refl, s.0, s.1, s.2, s.3);
  accepted = λ c d l a. let s = accepted_shifts probe [] d l refl a in (probe, refl, s.0, s.1, s.2, s.3);
  refused = refused_tells stack probe;
}
