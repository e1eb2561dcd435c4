-- The states of links and rows: their prefixes, and where they lead.
use Rattle.std.proofs.Common.{◌≡◌, inl, inr, ℕ, zero, suc, ◌+◌, ◌<◌, ◌≤◌, List, [], ◌∷◌, ◌++◌, Option, Some}
use Rattle.std.proofs.Common.{refl, sym, ◌∙◌, ap, subst, arith, length, map, true}
use Rattle.std.specs.Prelude.{Contains, fold, slice_get, slice_index_or, option_and_then}
use Rattle.std.proofs.lemmas.Bool.{cases_Bool, eq-eqb, eqb-true}
use Rattle.std.proofs.lemmas.List.{append_assoc, get_or-map, get_or_append_left, get_or_push, map_push, length-map}
use Rattle.std.proofs.lemmas.List.{length_push}
use Rattle.std.proofs.lemmas.Option.{slice_get-get_or}
use Rattle.ly_base.proofs.MemberLemmas.{Contains-none, Contains-cons_cases, Contains-first, Contains-later}
use Rattle.ly_join.specs.Grammar.{Grammar, Symbol, nonterminal, symbol_of, terminal}
use Rattle.ly_lr0.specs.Automaton.{Lr0Automaton, IsLess, State, Transition, goto_of, prefix_of, state_at, symbol_eq}
use Rattle.ly_lr0.specs.Automaton.{target_of}
use Rattle.ly_lr0.specs.declared.transition.Row.{Row}
use Rattle.ly_lr0.specs.declared.transition.Link as link
use Rattle.ly_join.specs.declared.symbol.Symbol as code
use Rattle.ly_lr0.specs.Private.Built.{AreInOrder, Link, automaton_from, link_at, link_of, prefixes_of, states_of}
use Rattle.ly_lr0.specs.Private.Built.{transitions_of, with_prefix}
use Rattle.ly_lr0.proofs.AutomatonLemmas.{ArePrefixes, IsGoto}
use Rattle.ly_lr0.proofs.OrderLemmas.{less_off}

-- prefixes from some on, by more links
pub length-fold : (ps : List (List Symbol)) (ls : List Link) → length (fold with_prefix ps ls) ≡ length ps + length ls
length-fold ps [] = omega arith
length-fold ps (l ∷ ls) = length-fold (with_prefix ps l) ls
    ∙ omega (arith, length_push ps (l.symbol ∷ slice_index_or ps l.from []))

kept : (ps : List (List Symbol)) (ls : List Link) (k : ℕ) → k < length ps
    → slice_index_or (fold with_prefix ps ls) k [] ≡ slice_index_or ps k []
kept ps [] k l = refl
kept ps (m ∷ ls) k l = kept (with_prefix ps m) ls k
    (omega (arith, l, length_push ps (m.symbol ∷ slice_index_or ps m.from [])))
    ∙ get_or_append_left ps ((m.symbol ∷ slice_index_or ps m.from []) ∷ []) [] k l

added : (ps : List (List Symbol)) (ls : List Link) (j : ℕ) → j < length ls
    → ((i : ℕ) → i < length ls → (link_at ls i).from < length ps + i)
    → slice_index_or (fold with_prefix ps ls) (length ps + j) []
    ≡ (link_at ls j).symbol ∷ slice_index_or (fold with_prefix ps ls) (link_at ls j).from []
added ps [] j l back = absurd (omega (arith, l))
added ps (m ∷ ls) zero l back =
    let x = m.symbol ∷ slice_index_or ps m.from [] in
    let long = length_push ps x in
    let from : m.from < length ps = omega (arith, back 0 (omega arith)) in
    ap (λ k. slice_index_or (fold with_prefix (with_prefix ps m) ls) k []) (omega arith)
    ∙ kept (with_prefix ps m) ls (length ps) (omega (arith, long)) ∙ get_or_push ps x [] (length ps) refl
    ∙ ap (λ w. m.symbol ∷ w) (sym (kept (with_prefix ps m) ls m.from (omega (arith, long, from))
    ∙ get_or_append_left ps (x ∷ []) [] m.from from))
added ps (m ∷ ls) (suc j) l back =
    let x = m.symbol ∷ slice_index_or ps m.from [] in
    let long = length_push ps x in
    ap (λ k. slice_index_or (fold with_prefix (with_prefix ps m) ls) k []) (omega (arith, long))
    ∙ added (with_prefix ps m) ls j (omega (arith, l)) (λ i b. omega (arith, long, back (suc i) (omega (arith, b))))

pub are_prefixes : (links : List Link) → ((k : ℕ) → k < length links → (link_at links k).from ≤ k)
    → ArePrefixes links (λ s. slice_index_or (prefixes_of links) s [])
are_prefixes links back = record {
  first = kept ([] ∷ []) links 0 (omega arith);
  later = λ k l. ap (λ n. slice_index_or (prefixes_of links) n []) (omega arith)
      ∙ added ([] ∷ []) links k l (λ i b. omega (arith, back i b));
}

-- states that have both parts
pub length-states : (ps : List (List Symbol)) (rs : List Row) → length ps ≡ length rs → length (states_of ps rs)
    ≡ length rs
length-states [] [] e = refl
length-states [] (r ∷ rs) e = absurd (omega (arith, e))
length-states (p ∷ ps) [] e = absurd (omega (arith, e))
length-states (p ∷ ps) (r ∷ rs) e = ap suc (length-states ps rs (omega (arith, e)))

pub prefixes-states : (ps : List (List Symbol)) (rs : List Row) → length ps ≡ length rs
    → map (λ q. q.prefix) (states_of ps rs) ≡ ps
prefixes-states [] rs e = refl
prefixes-states (p ∷ ps) [] e = absurd (omega (arith, e))
prefixes-states (p ∷ ps) (r ∷ rs) e = ap (λ qs. p ∷ qs) (prefixes-states ps rs (omega (arith, e)))

-- the parts of a state
pub record IsStateAt (ps : List (List Symbol)) (rs : List Row) (s : ℕ) (q : State) : Type 0 where
  pub row : Row
  pub is_row : slice_get rs s ≡ Some row
  pub prefix : q.prefix ≡ slice_index_or ps s []
  pub transitions : q.transitions ≡ transitions_of row
  pub complete : q.complete ≡ row.complete.items

pub state_parts : (ps : List (List Symbol)) (rs : List Row) (s : ℕ) (q : State) → slice_get (states_of ps rs) s ≡ Some q
    → IsStateAt ps rs s q
state_parts [] rs s q e = absurd (cc)
state_parts (p ∷ ps) [] s q e = absurd (cc)
state_parts (p ∷ ps) (r ∷ rs) zero q e =
    let same : record { prefix = p; transitions = transitions_of r; complete = r.complete.items } ≡ q = cc in
    record {
      row = r;
      is_row = refl;
      prefix = sym (ap (λ x. x.prefix) same);
      transitions = sym (ap (λ x. x.transitions) same);
      complete = sym (ap (λ x. x.complete) same);
    }
state_parts (p ∷ ps) (r ∷ rs) (suc s) q e =
    let t = state_parts ps rs s q e in
    record { row = t.row; is_row = t.is_row; prefix = t.prefix; transitions = t.transitions; complete = t.complete }

-- the state of a number is there
pub state_there : (M : Lr0Automaton) (s : ℕ) → s < length M.states → slice_get M.states s ≡ Some (state_at M s)
state_there M s lt = slice_get-get_or M.states s (record { prefix = []; transitions = []; complete = [] }) lt

-- and leads where its transitions say
pub goes_by : (M : Lr0Automaton) (s : ℕ) (X : Symbol) → s < length M.states
    → goto_of M s X ≡ target_of (state_at M s).transitions X
goes_by M s X lt = ap (option_and_then (λ q. target_of q.transitions X)) (state_there M s lt)

pub symbol_same : (X Y : Symbol) → symbol_eq X Y ≡ true → X ≡ Y
symbol_same (terminal t) (terminal u) e = ap terminal (eqb-true t u e)
symbol_same (terminal t) (nonterminal B) e = absurd (cc)
symbol_same (nonterminal A) (terminal u) e = absurd (cc)
symbol_same (nonterminal A) (nonterminal B) e = ap nonterminal (eqb-true A B e)

pub symbol_eq-self : (X : Symbol) → symbol_eq X X ≡ true
symbol_eq-self (terminal t) = eq-eqb t t refl
symbol_eq-self (nonterminal A) = eq-eqb A A refl

pub target_some : (ts : List Transition) (X : Symbol) (t : ℕ) → target_of ts X ≡ Some t
    → Contains ts (record { symbol = X; target = t })
target_some [] X t e = absurd (cc)
target_some (u ∷ ts) X t e = elim (cases_Bool (symbol_eq u.symbol X)) [
  | inl same ↦
      let target : u.target ≡ t = let f = rw same at e in cc in
      subst (Contains (u ∷ ts)) (ap (λ Y. record { symbol = Y; target = u.target }) (symbol_same u.symbol X same)
      ∙ ap (λ n. record { symbol = X; target = n }) target) (Contains-first u ts)
  | inr other ↦ Contains-later u ts _ (target_some ts X t (rw other at e))
]

pub target_at : (ts : List Transition) → AreInOrder ts → (t : Transition) → Contains ts t → target_of ts t.symbol
    ≡ Some t.target
target_at [] ordered t c = Contains-none t c
target_at (u ∷ ts) ordered t c = elim (Contains-cons_cases u ts t c) [
  | inl same ↦ rw (ap (λ x. symbol_eq u.symbol x.symbol) (sym same) ∙ symbol_eq-self u.symbol)
      (ap (λ x. Some x.target) same)
  | inr later ↦ elim (cases_Bool (symbol_eq u.symbol t.symbol)) [
    | inl equal ↦
        let less : IsLess u.symbol t.symbol = subst (λ x. IsLess u.symbol x.symbol) later.2
        (ordered 0 (suc later.0) t (omega arith) (omega (arith, later.1))) in
        absurd (less_off t.symbol (subst (λ X. IsLess X t.symbol) (symbol_same u.symbol t.symbol equal) less))
    | inr other ↦ rw other
        (target_at ts (λ i j d l m. ordered (suc i) (suc j) d (omega (arith, l)) (omega (arith, m))) t later)
  ]
]

-- where rows lead
abbrev pub goto_by : List (List Transition) → ℕ → Symbol → Option ℕ
goto_by rows s X = target_of (slice_index_or rows s []) X

pub is_goto_by : (rows : List (List Transition)) → ((s : ℕ) → s < length rows → AreInOrder (slice_index_or rows s []))
    → IsGoto rows (goto_by rows)
is_goto_by rows sorted = record {
  leads = λ s X t e. (within rows s X t e, target_some (slice_index_or rows s []) X t e);
  goes = λ s t l. target_at (slice_index_or rows s []) (sorted s l.0) t l.1;
}
  where
    within : (rows : List (List Transition)) (s : ℕ) (X : Symbol) (t : ℕ) → goto_by rows s X ≡ Some t → s < length rows
    within [] s X t e = absurd (cc)
    within (r ∷ rows) zero X t e = omega arith
    within (r ∷ rows) (suc s) X t e = omega (arith, within rows s X t e)

pub goto_of-rows : (G : Grammar) (ps : List (List Symbol)) (rs : List Row) → length ps ≡ length rs
    → (s : ℕ) (X : Symbol)
    → goto_of (record { grammar = G; states = states_of ps rs }) s X ≡ goto_by (map transitions_of rs) s X
goto_of-rows G [] [] e s X = refl
goto_of-rows G [] (r ∷ rs) e s X = absurd (omega (arith, e))
goto_of-rows G (p ∷ ps) [] e s X = absurd (omega (arith, e))
goto_of-rows G (p ∷ ps) (r ∷ rs) e zero X = refl
goto_of-rows G (p ∷ ps) (r ∷ rs) e (suc s) X = goto_of-rows G ps rs (omega (arith, e)) s X

-- the state that a symbol leads from
pub goto_some : (qs : List State) (r : ℕ) (X : Symbol) (s : ℕ)
    → option_and_then (λ q. target_of q.transitions X) (slice_get qs r) ≡ Some s
    → (q : State) × (slice_get qs r ≡ Some q) × (target_of q.transitions X ≡ Some s)
goto_some [] r X s e = absurd (cc)
goto_some (q ∷ qs) zero X s e = (q, refl, e)
goto_some (q ∷ qs) (suc r) X s e = goto_some qs r X s e

pub count_of : (links : List link.Link) (rows : List Row) → length rows ≡ suc (length links)
    → length (states_of (prefixes_of (map link_of links)) rows) ≡ length rows
count_of links rows e = length-states (prefixes_of (map link_of links)) rows (omega (
  arith,
  length-fold ([] ∷ []) (map link_of links),
  length-map links link_of,
  e,
))

-- a state's parts are those of its row
pub state_of : (G : Grammar) (links : List link.Link) (rows : List Row) (s : ℕ) (row : Row) → length rows
    ≡ suc (length links)
    → s < length rows → row ≡ slice_index_or rows s row
    → state_at (automaton_from G links rows) s ≡ record {
      prefix = slice_index_or (prefixes_of (map link_of links)) s [];
      transitions = transitions_of row;
      complete = row.complete.items;
    }
state_of G links rows s row e l is = go (prefixes_of (map link_of links)) rows s
    (omega (arith, length-fold ([] ∷ []) (map link_of links), length-map links link_of, e)) l
    ∙ ap (λ r. record {
      prefix = slice_index_or (prefixes_of (map link_of links)) s [];
      transitions = transitions_of r;
      complete = r.complete.items;
    }) (sym is)
  where
    go : (ps : List (List Symbol)) (rs : List Row) (s : ℕ) → length ps ≡ length rs → s < length rs
        → slice_index_or (states_of ps rs) s (record { prefix = []; transitions = []; complete = [] })
        ≡ record {
          prefix = slice_index_or ps s [];
          transitions = transitions_of (slice_index_or rs s row);
          complete = (slice_index_or rs s row).complete.items;
        }
    go [] [] s e l = absurd (omega (arith, l))
    go [] (r ∷ rs) s e l = absurd (omega (arith, e))
    go (p ∷ ps) [] s e l = absurd (omega (arith, e))
    go (p ∷ ps) (r ∷ rs) zero e l = refl
    go (p ∷ ps) (r ∷ rs) (suc s) e l = go ps rs s (omega (arith, e)) (omega (arith, l))

-- the prefix of a state that a link leads to
pub prefix_step : (links : List link.Link) (done : List code.Symbol) (k : ℕ) (l d : link.Link)
    → ((j : ℕ) → j < length links → (link_at (map link_of links) j).from ≤ j) → k < length links
    → l ≡ slice_index_or links k d
    → map symbol_of (done ++ l.symbol ∷ []) ++ slice_index_or (prefixes_of (map link_of links)) l.from []
    ≡ map symbol_of done ++ slice_index_or (prefixes_of (map link_of links)) (suc k) []
prefix_step links done k l d back less is =
    let ps = prefixes_of (map link_of links) in
    let at = link_same links k l d less is in
    let later = (are_prefixes (map link_of links) (λ j m. back j (omega (arith, m, length-map links link_of)))).later k
    (omega (arith, less, length-map links link_of)) in
    ap (λ xs. xs ++ slice_index_or ps l.from []) (map_push symbol_of done l.symbol)
    ∙ append_assoc (map symbol_of done) (symbol_of l.symbol ∷ []) (slice_index_or ps l.from [])
    ∙ ap (λ w. map symbol_of done ++ w) (sym (later ∙ ap (λ m. m.symbol ∷ slice_index_or ps m.from []) at))
  where
    link_same : (links : List link.Link) (k : ℕ) (l d : link.Link) → k < length links → l ≡ slice_index_or links k d
        → link_at (map link_of links) k ≡ link_of l
    link_same links k l d less is = get_or-map link_of links k d _ less ∙ ap link_of (sym is)

pub link_back : (links : List link.Link) (k : ℕ) (l d : link.Link)
    → ((j : ℕ) → j < length links → (link_at (map link_of links) j).from ≤ j) → k < length links
    → l ≡ slice_index_or links k d → l.from ≤ k
link_back links k l d back less is =
    subst (λ m. m.from ≤ k) (get_or-map link_of links k d _ less ∙ ap link_of (sym is)) (back k less)

pub no_links_prefix : (links : List link.Link) → slice_index_or (prefixes_of (map link_of links)) 0 [] ≡ []
no_links_prefix links = kept ([] ∷ []) (map link_of links) 0 (omega arith)

pub prefix_of_built : (G : Grammar) (links : List link.Link) (rows : List Row) (s : ℕ) → length rows
    ≡ suc (length links)
    → slice_index_or (prefixes_of (map link_of links)) s [] ≡ prefix_of (automaton_from G links rows) s
prefix_of_built G links rows s e =
    ap (λ ps. slice_index_or ps s []) (sym (prefixes-states (prefixes_of (map link_of links))
    rows (omega (arith, length-fold ([] ∷ []) (map link_of links), length-map links link_of, e))))
