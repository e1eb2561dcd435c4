-- Parses by their moves: what they shift, where two of them part, and the string and the state that moves lead to.
use Rattle.std.proofs.Common.{◌≡◌, ◌≢◌, ◌∙◌, ◌↔◌, ◌<◌, ◌≤◌, ◌+◌, ℕ, zero, suc, List, [], ◌∷◌, ◌++◌, Some}
use Rattle.std.proofs.Common.{None}
use Rattle.std.proofs.Common.{refl, sym, ap, arith, subst, drop, take, length, map, reverse, append-nil, slice_get}
use Rattle.std.proofs.Common.{slice_index_or}
use Rattle.std.proofs.Math.Seq.{drop-cons}
use Rattle.std.proofs.lemmas.List.{append_assoc, append_cancel_left, map-append, reverse-append, reverse-reverse}
use Rattle.std.proofs.lemmas.List.{drop_all, take-append-drop, take_more}
use Rattle.std.proofs.lemmas.Bool.Decides.{Decides-eqb, Decides-like}
use Rattle.std.specs.Bool.{Decides}
use Rattle.ly_base.specs.declared.numbers.Sym.{Sym}
use Rattle.ly_base.specs.Trees.{Tree, Trees, leaf, node, none, more, yield_of, yields_of}
use Rattle.ly_join.specs.Grammar.{Grammar, IsRule, GrammarRule, Symbol, nonterminal, symbol_of, terminal}
use Rattle.ly_join.specs.declared.symbol.Symbol as code
use Rattle.ly_join.specs.declared.symbol.Symbol.TheVariants.{Nonterminal, Terminal}
use Rattle.ly_join.specs.contracts.symbol.SymbolPartialEq.TheImpl as symbol_test
use Rattle.ly_lr0.specs.Automaton.{Lr0Automaton, Reaches, goto_of}
use Rattle.ly_relate.proofs.ReachLemmas.{Reaches-split, Reaches_one}
use Rattle.ly_counterexamples.specs.Moves.{Lead, Move, moves_among, moves_of, reduces, shifted, shifts}
use Rattle.ly_counterexamples.specs.Sentences.{numbers_of}
use Rattle.ly_counterexamples.specs.contracts.moves.MovePartialEq.TheImpl as move_test
use Rattle.ly_counterexamples.specs.declared.moves.Move as made
use Rattle.ly_counterexamples.specs.declared.moves.Move.TheVariants.{Reduce, Shift}
use Rattle.ly_counterexamples.specs.Private.Leftmost.{move_from, moves_from}
use Rattle.ly_counterexamples.specs.Private.Parses.{ReachesNone, string_of}

-- WHAT IS SHIFTED

pub shifted_append : (xs ys : List Move) → shifted (xs ++ ys) ≡ shifted xs ++ shifted ys
shifted_append [] ys = refl
shifted_append (shifts t ∷ xs) ys = ap (λ w. t ∷ w) (shifted_append xs ys)
shifted_append (reduces p ∷ xs) ys = shifted_append xs ys

mutual
  -- the moves to a tree shift its terminals
  pub shifted_tree : (d : Tree) → shifted (moves_of d) ≡ map (λ t. t.terminal) (yield_of d)
  shifted_tree (leaf t) = refl
  shifted_tree (node p ts) = shifted_append (moves_among ts) (reduces p ∷ [])
      ∙ append-nil (shifted (moves_among ts)) ∙ shifted_trees ts

  pub shifted_trees : (ts : Trees) → shifted (moves_among ts) ≡ map (λ t. t.terminal) (yields_of ts)
  shifted_trees none = refl
  shifted_trees (more t ts) = shifted_append (moves_of t) (moves_among ts)
      ∙ ap (λ w. w ++ shifted (moves_among ts)) (shifted_tree t)
      ∙ ap (λ w. map (λ t. t.terminal) (yield_of t) ++ w) (shifted_trees ts)
      ∙ sym (map-append (λ t. t.terminal) (yield_of t) (yields_of ts))

-- what is left, the next first, as it is kept
pub next_kept : {X Y : Type 0} (f : X → Y) (xs : List X) (n : ℕ) (d x : X) → n < length xs → x ≡ slice_index_or xs n d
    → map f (drop n xs) ≡ f x ∷ map f (drop (n + 1) xs)
next_kept f xs n d x lt here =
    let e : drop n xs ≡ slice_index_or xs n d ∷ drop (suc n) xs = drop-cons xs n d lt in
    ap (map f) e ∙ ap (λ y. f y ∷ map f (drop (suc n) xs)) (sym here)
    ∙ ap (λ m. f x ∷ map f (drop m xs)) (let e : suc n ≡ n + 1 = omega arith in e)

-- WHERE TWO PARSES PART

-- lists that are the same below a number begin with the same
pub same_below : {X : Type 0} (xs ys : List X) (n : ℕ) → n ≤ length xs
    → ((k : ℕ) → k < n → slice_get xs k ≡ slice_get ys k) → take n xs ≡ take n ys
same_below xs ys zero le same = refl
same_below [] ys (suc n) le same = absurd (omega (arith, le))
same_below (x ∷ xs) [] (suc n) le same = absurd (let e : Some x ≡ None = same 0 (omega arith) in cc)
same_below (x ∷ xs) (y ∷ ys) (suc n) le same =
    let e : Some x ≡ Some y = same 0 (omega arith) in
    let one : x ≡ y = cc in
    ap (λ z. z ∷ take n xs) one
    ∙ ap (λ w. y ∷ w) (same_below xs ys n (omega (arith, le)) (λ k lt. same (suc k) (omega (arith, lt))))

-- two lists part behind what they have in common
pub parted_at : {X : Type 0} (front : List X) (a b : X) (xs ys : List X) (n : ℕ)
    → ((k : ℕ) → k < n → slice_get (front ++ a ∷ xs) k ≡ slice_get (front ++ b ∷ ys) k)
    → (n < length (front ++ a ∷ xs) → slice_get (front ++ a ∷ xs) n ≢ slice_get (front ++ b ∷ ys) n) → a ≢ b
    → n ≡ length front
parted_at [] a b xs ys zero same apart differ = refl
parted_at [] a b xs ys (suc n) same apart differ =
    absurd (differ (let e : Some a ≡ Some b = same 0 (omega arith) in cc))
parted_at (z ∷ front) a b xs ys zero same apart differ = absurd (apart (omega arith) refl)
parted_at (z ∷ front) a b xs ys (suc n) same apart differ = ap suc (parted_at front a b xs ys n
    (λ k lt. same (suc k) (omega (arith, lt))) (λ lt. apart (omega (arith, lt))) differ)

-- what stands behind a list
pub get_behind : {X : Type 0} (front : List X) (a : X) (xs : List X)
    → slice_get (front ++ a ∷ xs) (length front) ≡ Some a
get_behind [] a xs = refl
get_behind (z ∷ front) a xs = get_behind front a xs

-- a list is what stands before a number, what is there, and what is behind
pub split_at : {X : Type 0} (xs : List X) (n : ℕ) (x : X) → slice_get xs n ≡ Some x
    → xs ≡ take n xs ++ x ∷ drop (n + 1) xs
split_at [] n x at = absurd (cc)
split_at (y ∷ xs) zero x at =
    let one : y ≡ x = cc in
    ap (λ z. z ∷ xs) one ∙ ap (λ m. x ∷ drop m (y ∷ xs)) (let e : 1 ≡ 0 + 1 = omega arith in e)
split_at (y ∷ xs) (suc n) x at = ap (λ w. y ∷ w) (split_at xs n x at)
    ∙ ap (λ m. y ∷ take n xs ++ x ∷ drop m (y ∷ xs)) (let e : suc (n + 1) ≡ suc n + 1 = omega arith in e)

-- STRINGS

-- symbols as they are kept
abbrev code_of : Symbol → code.Symbol
code_of (terminal t) = Terminal (record { 0 = t })
code_of (nonterminal A) = Nonterminal (record { 0 = A })

kept_as : (s : List code.Symbol) → map code_of (map symbol_of s) ≡ s
kept_as [] = refl
kept_as (Terminal t ∷ s) = ap (λ w. Terminal t ∷ w) (kept_as s)
kept_as (Nonterminal A ∷ s) = ap (λ w. Nonterminal A ∷ w) (kept_as s)

-- a symbol more at the end is in front
pub string_more : (s : List code.Symbol) (X : code.Symbol) → string_of (s ++ X ∷ []) ≡ symbol_of X ∷ string_of s
string_more s X = ap reverse (map-append symbol_of s (X ∷ [])) ∙ reverse-append (map symbol_of s) (symbol_of X ∷ [])

pub string_append : (s t : List code.Symbol) → string_of (s ++ t) ≡ reverse (map symbol_of t) ++ string_of s
string_append s t = ap reverse (map-append symbol_of s t) ∙ reverse-append (map symbol_of s) (map symbol_of t)

-- a body that is on top stands at the end
pub body_at_end : (s body : List code.Symbol) (below : List Symbol)
    → string_of s ≡ reverse (map symbol_of body) ++ below → (front : List code.Symbol) × (s ≡ front ++ body)
body_at_end s body below e =
    let turned : map symbol_of s ≡ reverse below ++ map symbol_of body
    = sym (reverse-reverse (map symbol_of s)) ∙ ap reverse e ∙ reverse-append (reverse (map symbol_of body)) below
    ∙ ap (λ w. reverse below ++ w) (reverse-reverse (map symbol_of body)) in (
      map code_of (reverse below),
      sym (kept_as s) ∙ ap (map code_of) turned ∙ map-append code_of (reverse below) (map symbol_of body)
          ∙ ap (λ w. map code_of (reverse below) ++ w) (kept_as body),
    )

-- a reduction leads on from where the left side stands in the body's place
pub lead_reduced : (G : Grammar) (p : ℕ) (r : GrammarRule) → IsRule G p r → (g below : List Symbol)
    → g ≡ reverse r.body ++ below → (rest : List Move) (h : List Symbol)
    → Lead G g (reduces p ∷ rest) h ↔ Lead G (nonterminal r.left ∷ below) rest h
lead_reduced G p r is g below e rest h = (
  λ (q, under, is_q, split, on).
      let one : Some (Some q) ≡ Some (Some r) = sym is_q ∙ is in
      let same : q ≡ r = cc in
      let here : under ≡ below
      = append_cancel_left (reverse r.body) under below
      (ap (λ x. reverse x.body ++ under) (sym same) ∙ sym split ∙ e) in
      subst (λ w. Lead G (nonterminal r.left ∷ w) rest h) here
      (subst (λ x. Lead G (nonterminal x.left ∷ under) rest h) same on),
  λ on. (r, below, is, e, on),
)

-- so it does where these are kept
pub reduced_to : (G : Grammar) (p : ℕ) (r : GrammarRule) → IsRule G p r → (old body front new : List code.Symbol)
    (left : Sym) → map symbol_of body ≡ r.body → left.0 ≡ r.left → old ≡ front ++ body
    → new ≡ front ++ Nonterminal left ∷ [] → (rest : List Move) (h : List Symbol)
    → Lead G (string_of old) (reduces p ∷ rest) h ↔ Lead G (string_of new) rest h
reduced_to G p r is old body front new left is_body is_left split pushed rest h =
    let parts : string_of old ≡ reverse r.body ++ string_of front
    = ap string_of split ∙ string_append front body ∙ ap (λ w. reverse w ++ string_of front) is_body in
    let on : nonterminal r.left ∷ string_of front ≡ string_of new
    = ap (λ A. nonterminal A ∷ string_of front) (sym is_left)
    ∙ sym (ap string_of pushed ∙ string_more front (Nonterminal left)) in
    subst (λ g. Lead G (string_of old) (reduces p ∷ rest) h ↔ Lead G g rest h) on
    (lead_reduced G p r is (string_of old) (string_of front) parts rest h)

-- it leads nowhere where the rule has another body, which isn't on top
pub lead_nowhere : (G : Grammar) (p : ℕ) (r : GrammarRule) → IsRule G p r → (s body : List code.Symbol)
    → map symbol_of body ≡ r.body → ((front : List code.Symbol) → s ≡ front ++ body → ⊥)
    → (rest : List Move) (h : List Symbol) → Lead G (string_of s) (reduces p ∷ rest) h → ⊥
lead_nowhere G p r is s body is_body never rest h (q, under, is_q, split, on) =
    let one : Some (Some q) ≡ Some (Some r) = sym is_q ∙ is in
    let same : q ≡ r = cc in
    let there = body_at_end s body under
    (split ∙ ap (λ x. reverse x.body ++ under) same ∙ ap (λ w. reverse w ++ under) (sym is_body)) in
    never there.0 there.1

-- STATES

-- a symbol more leads on
pub reach_more : (M : Lr0Automaton) (s : List code.Symbol) (n : ℕ) (d X : code.Symbol) (q t : ℕ) → n < length s
    → X ≡ slice_index_or s n d → Reaches (goto_of M) 0 (string_of (take n s)) q → goto_of M q (symbol_of X) ≡ Some t
    → Reaches (goto_of M) 0 (string_of (take (n + 1) s)) t
reach_more M s n d X q t lt here reaches goes =
    let more : take (n + 1) s ≡ take n s ++ X ∷ [] = take_more s n d lt ∙ ap (λ y. take n s ++ y ∷ []) (sym here) in
    subst (λ g. Reaches (goto_of M) 0 g t) (sym (ap string_of more ∙ string_more (take n s) X)) (q, reaches, goes)

-- or nowhere
pub reach_stops : (M : Lr0Automaton) (s : List code.Symbol) (n : ℕ) (d X : code.Symbol) (q : ℕ) → n < length s
    → X ≡ slice_index_or s n d → Reaches (goto_of M) 0 (string_of (take n s)) q → goto_of M q (symbol_of X) ≡ None
    → ReachesNone M (string_of s)
reach_stops M s n d X q lt here reaches stops t leads =
    let more : take (n + 1) s ≡ take n s ++ X ∷ [] = take_more s n d lt ∙ ap (λ y. take n s ++ y ∷ []) (sym here) in
    let whole : string_of s ≡ reverse (map symbol_of (drop (n + 1) s)) ++ (symbol_of X ∷ string_of (take n s))
    = ap string_of (sym (take-append-drop (n + 1) s)) ∙ string_append (take (n + 1) s) (drop (n + 1) s)
    ∙ ap (λ w. reverse (map symbol_of (drop (n + 1) s)) ++ w) (ap string_of more ∙ string_more (take n s) X) in
    let (r, (before, first, goes), behind) = Reaches-split (goto_of M) 0 (reverse (map symbol_of (drop (n + 1) s)))
    (symbol_of X ∷ string_of (take n s)) t (subst (λ g. Reaches (goto_of M) 0 g t) whole leads) in
    let same : before ≡ q = Reaches_one (goto_of M) 0 (string_of (take n s)) before q first reaches in
    let off : None ≡ Some r = sym stops ∙ ap (λ x. goto_of M x (symbol_of X)) (sym same) ∙ goes in
    cc

-- MOVES THAT ARE KEPT

-- what tests of moves and of symbols tell
pub moves_tested : (a b : made.Move) → Decides ((move_test.eq-value).it a b) (a ≡ b)
moves_tested (Shift t) (Shift u) = Decides-like _ (λ e. ap (λ k. Shift (record { 0 = k })) e) (λ e. cc)
    (Decides-eqb t.0 u.0)
moves_tested (Shift t) (Reduce q) = (λ e. absurd (cc), λ e. absurd (cc))
moves_tested (Reduce p) (Shift u) = (λ e. absurd (cc), λ e. absurd (cc))
moves_tested (Reduce p) (Reduce q) = Decides-like _ (λ e. ap Reduce e) (λ e. cc) (Decides-eqb p q)

pub symbols_tested : (a b : code.Symbol) → Decides ((symbol_test.eq-value).it a b) (a ≡ b)
symbols_tested (Terminal t) (Terminal u) = Decides-like _ (λ e. ap (λ k. Terminal (record { 0 = k })) e) (λ e. cc)
    (Decides-eqb t.0 u.0)
symbols_tested (Terminal t) (Nonterminal B) = (λ e. absurd (cc), λ e. absurd (cc))
symbols_tested (Nonterminal A) (Terminal u) = (λ e. absurd (cc), λ e. absurd (cc))
symbols_tested (Nonterminal A) (Nonterminal B) = Decides-like _ (λ e. ap (λ k. Nonterminal (record { 0 = k })) e)
    (λ e. cc) (Decides-eqb A.0 B.0)

-- a terminal that is shifted is put on the string
pub put_on : (G : Grammar) (old new : List code.Symbol) (t : Sym) → new ≡ old ++ Terminal t ∷ [] → (rest : List Move)
    (h : List Symbol) → Lead G (string_of old) (shifts t.0 ∷ rest) h ↔ Lead G (string_of new) rest h
put_on G old new t pushed rest h =
    subst (λ g. Lead G (terminal t.0 ∷ string_of old) rest h ↔ Lead G g rest h)
    (sym (ap string_of pushed ∙ string_more old (Terminal t))) (λ x. x, λ x. x)

-- moves that are the same to a reader are the same
pub move_one : (a b : made.Move) → move_from a ≡ move_from b → a ≡ b
move_one (Shift t) (Shift u) e = let same : t.0 ≡ u.0 = cc in ap (λ k. Shift (record { 0 = k })) same
move_one (Shift t) (Reduce q) e = absurd (cc)
move_one (Reduce p) (Shift u) e = absurd (cc)
move_one (Reduce p) (Reduce q) e = let same : p ≡ q = cc in ap Reduce same

-- The move at a number of those that are kept.
module _ (moves : List made.Move) (n : ℕ) (d : made.Move) where
  -- it is the next of those that are left
  left_at : n < length moves → (m : made.Move) → slice_index_or moves n d ≡ m
      → moves_from (drop n moves) ≡ move_from m ∷ moves_from (drop (n + 1) moves)
  left_at lt m here = next_kept move_from moves n d m lt (sym here)

  pub shifts_next : n < length moves → (t : Sym) → slice_index_or moves n d ≡ Shift t
      → shifted (moves_from (drop n moves)) ≡ t.0 ∷ shifted (moves_from (drop (n + 1) moves))
  shifts_next lt t here = ap shifted (left_at lt (Shift t) here)

  pub reduces_next : n < length moves → (p : ℕ) → slice_index_or moves n d ≡ Reduce p
      → shifted (moves_from (drop n moves)) ≡ shifted (moves_from (drop (n + 1) moves))
  reduces_next lt p here = ap shifted (left_at lt (Reduce p) here)

  -- one terminal more is shifted
  pub shifts_more : (all : List ℕ) (old new : List Sym) → n < length moves → (t : Sym)
      → slice_index_or moves n d ≡ Shift t → new ≡ old ++ t ∷ []
      → numbers_of old ++ shifted (moves_from (drop n moves)) ≡ all
      → numbers_of new ++ shifted (moves_from (drop (n + 1) moves)) ≡ all
  shifts_more all old new lt t here pushed before =
      let rest = shifted (moves_from (drop (n + 1) moves)) in
      ap (λ w. numbers_of w ++ rest) pushed ∙ ap (λ w. w ++ rest) (map-append (λ t. t.0) old (t ∷ []))
      ∙ append_assoc (numbers_of old) (t.0 ∷ []) rest
      ∙ ap (λ w. numbers_of old ++ w) (sym (shifts_next lt t here)) ∙ before

  module _ (G : Grammar) (P : List Symbol → Type 0) (old : List code.Symbol)
      (leads : (h : List Symbol) → P h ↔ Lead G (string_of old) (moves_from (drop n moves)) h)
      (lt : n < length moves) where
    -- the next move is made
    pub lead_on : (new : List code.Symbol) → ((rest : List Move) (h : List Symbol)
        → Lead G (string_of old) (move_from (slice_index_or moves n d) ∷ rest) h ↔ Lead G (string_of new) rest h)
        → (h : List Symbol) → P h ↔ Lead G (string_of new) (moves_from (drop (n + 1) moves)) h
    lead_on new made h =
        let m = slice_index_or moves n d in
        let rest = moves_from (drop (n + 1) moves) in
        let there : P h ↔ Lead G (string_of old) (move_from m ∷ rest) h
        = subst (λ ms. P h ↔ Lead G (string_of old) ms h) (left_at lt m refl) (leads h) in (
          λ x. (made rest h).0 (there.0 x),
          λ y. there.1 ((made rest h).1 y),
        )

    -- or can't be
    pub lead_stops : ((rest : List Move) (h : List Symbol)
        → Lead G (string_of old) (move_from (slice_index_or moves n d) ∷ rest) h → ⊥) → (h : List Symbol) → P h → ⊥
    lead_stops never h x =
        let rest = moves_from (drop (n + 1) moves) in
        never rest h (subst (λ ms. Lead G (string_of old) ms h) (left_at lt (slice_index_or moves n d) refl)
        ((leads h).0 x))

-- where none is left
pub all_shifted : (moves : List made.Move) (n : ℕ) → length moves ≤ n → shifted (moves_from (drop n moves)) ≡ []
all_shifted moves n past = ap (λ ms. shifted (moves_from ms)) (drop_all n moves past)

pub lead_end : (G : Grammar) (P : List Symbol → Type 0) (moves : List made.Move) (n : ℕ) (s : List code.Symbol)
    → length moves ≤ n → ((h : List Symbol) → P h ↔ Lead G (string_of s) (moves_from (drop n moves)) h)
    → P (string_of s)
lead_end G P moves n s past leads = (leads (string_of s)).1
    (subst (λ ms. Lead G (string_of s) (moves_from ms) (string_of s)) (sym (drop_all n moves past)) refl)
