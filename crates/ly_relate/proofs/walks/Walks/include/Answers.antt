use Rattle.std.proofs.Common.{◌≡◌, ◌∙◌, ◌<◌, ◌≤◌, ◌+◌, ◌-◌, ◌∷◌, [], ℕ, List, Some, arith, length, map, sym, ap, subst}
use Rattle.std.proofs.Common.{refl, slice_index_or, drop, slice_get, true, false}
use Rattle.std.proofs.lemmas.List.{drop_all, get_or_default, length-map}
use Rattle.std.proofs.lemmas.Option.{slice_get_within}
use Rattle.std.proofs.Math.ListN.{get_or-map}
use Rattle.ly_base.specs.Trees.{none}
use Rattle.ly_join.specs.Grammar.{Grammar, nonterminal, symbol_of}
use Rattle.ly_join.specs.declared.symbol.Symbol as code
use Rattle.ly_join.specs.declared.symbol.Symbol.TheVariants.{Nonterminal, Terminal}
use Rattle.ly_grammar.specs.Derivations.{IsNullable}
use Rattle.ly_base.specs.declared.numbers.StateNo.{StateNo}
use Rattle.ly_relate.specs.Private.Walks.{AreEdgesTo, HasNumberTo}
use Rattle.ly_relate.proofs.GotoLemmas.{numbered_are}
use Rattle.ly_relate.proofs.IncludeLemmas.{Included, IncludedFrom, IsAt, edges_found, edges_lacking, edges_none}
use Rattle.ly_relate.proofs.IncludeLemmas.{edges_same}
use Rattle.ly_relate.proofs.IncludeLemmas.{included_all, included_behind, included_past, included_whole}
use Rattle.ly_relate.proofs.WalkLemmas.{drop_at, no_symbol, nullable_cons, shown_symbol}
use Rattle.ly_relate.proofs.walks.Walks.include.Goals as goal
use Rattle.ly_relate.proofs.walks.Walks.include.Goals.{in-Some+in_ok-add, in_default-find}

-- what is known of the place before another
known_at : (G : Grammar) (body : List code.Symbol) (path items : List StateNo) (at : ℕ) (q : StateNo) (X : code.Symbol)
    (A : ℕ)
    → 0 < at → at ≤ length body → items ≡ path → length path ≡ length body → q ≡ slice_index_or items (at - 1) q
    → slice_index_or body (at - 1) no_symbol ≡ X → symbol_of X ≡ nonterminal A
    → IsNullable G (drop at (map symbol_of body))
    → IsAt G (map symbol_of body) (map (λ q. q.0) path) (at - 1) A q.0
known_at G body path items at q X A some le same long is symbol named null = record {
  within = (let m = length-map body symbol_of in omega (arith, some, le, m));
  symbol = shown_symbol body (at - 1) (omega (arith, some, le)) ∙ ap (λ Y. Some Y) (ap symbol_of symbol ∙ named);
  state = get_or_default (map (λ q. q.0) path) (at - 1) 0 q.0
      (let m = length-map path (λ q. q.0) in omega (arith, some, le, long, m))
      ∙ (get_or-map (λ q. q.0) path (at - 1) q
      ∙ ap (λ q. q.0) (ap (λ w. slice_index_or w (at - 1) q) (sym same) ∙ sym is));
  nullable = subst (λ n. IsNullable G (drop n (map symbol_of body)))
      (let e : at ≡ at - 1 + 1 = omega (arith, some) in e) null;
}

pub loop-at-init : goal.loop-at-init
loop-at-init c =
    let G = c.args.gotos.now.automaton.grammar in
    let gotos = c.args.gotos.now.gotos in
    let body = map symbol_of c.args.body.now in
    let path = map (λ q. q.0) c.args.self.now.path.items in
    let long = length-map c.args.body.now symbol_of in
    record {
      within = omega arith;
      path = refl;
      lookbacks = refl;
      nodes = refl;
      nullable = subst (IsNullable G) (sym (drop_all (length c.args.body.now) body (omega (arith, long))))
          (none, tt, refl);
      edges = edges_none c.args.self.now.includes c.args.node (IncludedFrom G gotos body path (length c.args.body.now))
          (λ i. subst (λ m. IncludedFrom G gotos body path m i → ⊥) long (included_past G gotos body path i));
    }

pub returns-in_default-clause-includes : goal.returns-in_default-clause-includes
returns-in_default-clause-includes c =
    let M = c.args.gotos.now.automaton in
    let gotos = c.args.gotos.now.gotos in
    let body = map symbol_of c.args.body.now in
    let path = map (λ q. q.0) c.args.self.now.path.items in
    let first = c.args.self.now.includes in
    let at = c.loop-at.at in
    let k = at - 1 in
    let some = c.loop-at-test.true in
    let le = c.loop-at.invariant.within in
    let is : slice_get body k ≡ Some (symbol_of (Terminal c.in_default.field-0))
    = shown_symbol c.args.body.now k (omega (arith, some, le)) ∙ ap (λ Y. Some (symbol_of Y)) c.in_default.is in
    let behind = subst (λ m. AreEdgesTo first c.loop-at.self.includes c.args.node
    (IncludedFrom M.grammar gotos body path m))
    (let e : at ≡ k + 1 = omega (arith, some) in e) c.loop-at.invariant.edges in
    edges_same first c.loop-at.self.includes c.args.node (IncludedFrom M.grammar gotos body path (k + 1))
    (Included M.grammar gotos body path)
    (included_behind M.grammar gotos body path k c.in_default.field-0.0 is) behind

pub add-requires : goal.add-requires
add-requires c =
    let nodes = c.loop-at.invariant.nodes in
    let count = c.requires.nodes in
    let node = c.requires.node in
    let found = c.in-Some.ensures in
    let lt = slice_get_within c.args.gotos.now.gotos c.in-Some.inner found.0 found.1 in
    (omega (arith, nodes, count, lt), omega (arith, nodes, node))

pub is_nullable-requires : goal.is_nullable-requires
is_nullable-requires c =
    let accept = c.args.gotos.now.automaton.grammar.accept in
    let at = c.loop-at.at in
    let some = c.loop-at-test.true in
    let le = c.loop-at.invariant.within in
    let m = length-map c.args.body.now symbol_of in
    let has = c.requires.symbols (at - 1) (symbol_of no_symbol) (omega (arith, some, le, m)) in
    let named : slice_index_or (map symbol_of c.args.body.now) (at - 1) (symbol_of no_symbol)
    ≡ nonterminal c.in-Nonterminal.part.0
    = get_or-map symbol_of c.args.body.now (at - 1) no_symbol ∙ ap symbol_of c.in-Nonterminal.is in
    let bound : c.in-Nonterminal.part.0 ≤ accept = subst (HasNumberTo accept) named has in
    subst (λ g. c.in-Nonterminal.part.0 ≤ g.accept)
    (sym (c.reduced.ensures ∙ ap (λ A. A.grammar) c.lr0.ensures.automaton))
    bound

pub returns-then-not-is_nullable-clause-includes : goal.returns-then-not-is_nullable-clause-includes
returns-then-not-is_nullable-clause-includes c =
    let M = c.args.gotos.now.automaton in
    let gotos = c.args.gotos.now.gotos in
    let body = map symbol_of c.args.body.now in
    let path = map (λ q. q.0) c.args.self.now.path.items in
    let first = c.args.self.now.includes in
    let at = c.loop-at.at in
    let k = at - 1 in
    let some = c.loop-at-test.true in
    let place = known_at M.grammar c.args.body.now c.args.self.now.path.items c.loop-at.self.path.items at
    c.index.result.now
    (Nonterminal c.in-Nonterminal.part) c.in-Nonterminal.part.0 some c.loop-at.invariant.within
    (ap (λ v. v.items) c.loop-at.invariant.path) c.requires.count c.index.ensures c.in-Nonterminal.is refl
    c.loop-at.invariant.nullable in
    let behind = subst (λ m. AreEdgesTo first c.loop-at.self.includes c.args.node
    (IncludedFrom M.grammar gotos body path m))
    (let e : at ≡ k + 1 = omega (arith, some) in e) c.loop-at.invariant.edges in
    let are = numbered_are c.args.gotos.now c.lr0.ensures.lawful in
    let edges : AreEdgesTo first c.match-find.self.includes c.args.node (IncludedFrom M.grammar gotos body path k)
    = elim c.match-find.branch [
      | in-Some+in_ok-add w ↦
          let found = w.in-Some.ensures in
          edges_found M gotos body path first c.loop-at.self.includes c.match-find.self.includes c.args.node k
          c.in-Nonterminal.part.0 c.index.result.now.0 w.in-Some.inner found.0 are place found.1 found.2 found.3
          (subst (λ v. AreEdgesTo c.loop-at.self.includes v.includes c.args.node (λ i. i ≡ w.in-Some.inner))
          (sym w.self-is) w.in_ok-add.ensures.edges) behind
      | in_default-find w ↦
          subst (λ v. AreEdgesTo first v.includes c.args.node (IncludedFrom M.grammar gotos body path k))
          (sym w.self-is)
          (edges_lacking M gotos body path first c.loop-at.self.includes c.args.node k c.in-Nonterminal.part.0
          c.index.result.now.0 are place w.in_default-find.ensures behind)
    ] in
    let same = c.reduced.ensures ∙ ap (λ A. A.grammar) c.lr0.ensures.automaton in
    let lacks : IsNullable M.grammar (nonterminal c.in-Nonterminal.part.0 ∷ []) → ⊥
    = λ null. let on = c.is_nullable.ensures.1 (subst (λ g. IsNullable g (nonterminal c.in-Nonterminal.part.0 ∷ []))
    (sym same) null) in
    let off : true ≡ false = sym on ∙ c.if-not-is_nullable.true in cc in
    edges_same first c.match-find.self.includes c.args.node (IncludedFrom M.grammar gotos body path k)
    (Included M.grammar gotos body path)
    (included_all M.grammar gotos body path k (nonterminal c.in-Nonterminal.part.0) place.symbol lacks) edges

pub loop-at-preserved : goal.loop-at-preserved
loop-at-preserved c =
    let M = c.args.gotos.now.automaton in
    let gotos = c.args.gotos.now.gotos in
    let body = map symbol_of c.args.body.now in
    let path = map (λ q. q.0) c.args.self.now.path.items in
    let first = c.args.self.now.includes in
    let at = c.loop-at.at in
    let k = at - 1 in
    let some = c.loop-at-test.true in
    let place = known_at M.grammar c.args.body.now c.args.self.now.path.items c.loop-at.self.path.items at
    c.index.result.now
    (Nonterminal c.in-Nonterminal.part) c.in-Nonterminal.part.0 some c.loop-at.invariant.within
    (ap (λ v. v.items) c.loop-at.invariant.path) c.requires.count c.index.ensures c.in-Nonterminal.is refl
    c.loop-at.invariant.nullable in
    let behind = subst (λ m. AreEdgesTo first c.loop-at.self.includes c.args.node
    (IncludedFrom M.grammar gotos body path m))
    (let e : at ≡ k + 1 = omega (arith, some) in e) c.loop-at.invariant.edges in
    let are = numbered_are c.args.gotos.now c.lr0.ensures.lawful in
    let edges : AreEdgesTo first c.match-find.self.includes c.args.node (IncludedFrom M.grammar gotos body path k)
    = elim c.match-find.branch [
      | in-Some+in_ok-add w ↦
          let found = w.in-Some.ensures in
          edges_found M gotos body path first c.loop-at.self.includes c.match-find.self.includes c.args.node k
          c.in-Nonterminal.part.0 c.index.result.now.0 w.in-Some.inner found.0 are place found.1 found.2 found.3
          (subst (λ v. AreEdgesTo c.loop-at.self.includes v.includes c.args.node (λ i. i ≡ w.in-Some.inner))
          (sym w.self-is) w.in_ok-add.ensures.edges) behind
      | in_default-find w ↦
          subst (λ v. AreEdgesTo first v.includes c.args.node (IncludedFrom M.grammar gotos body path k))
          (sym w.self-is)
          (edges_lacking M gotos body path first c.loop-at.self.includes c.args.node k c.in-Nonterminal.part.0
          c.index.result.now.0 are place w.in_default-find.ensures behind)
    ] in
    let same = c.reduced.ensures ∙ ap (λ A. A.grammar) c.lr0.ensures.automaton in
    let null = subst (λ g. IsNullable g (nonterminal c.in-Nonterminal.part.0 ∷ [])) same
    (c.is_nullable.ensures.0 c.if-not-is_nullable.false) in
    let kept : (c.match-find.self.path ≡ c.args.self.now.path)
    × (c.match-find.self.lookbacks ≡ c.args.self.now.lookbacks)
    × (c.match-find.self.includes.nodes ≡ c.args.self.now.includes.nodes)
    = elim c.match-find.branch [
      | in-Some+in_ok-add w ↦ (
        ap (λ v. v.path) w.self-is ∙ c.loop-at.invariant.path,
        ap (λ v. v.lookbacks) w.self-is ∙ c.loop-at.invariant.lookbacks,
        ap (λ v. v.includes.nodes) w.self-is ∙ w.in_ok-add.ensures.nodes ∙ c.loop-at.invariant.nodes,
      )
      | in_default-find w ↦ (
        ap (λ v. v.path) w.self-is ∙ c.loop-at.invariant.path,
        ap (λ v. v.lookbacks) w.self-is ∙ c.loop-at.invariant.lookbacks,
        ap (λ v. v.includes.nodes) w.self-is ∙ c.loop-at.invariant.nodes,
      )
    ] in
    let le = c.loop-at.invariant.within in
    record {
      within = omega (arith, le);
      path = kept.0;
      lookbacks = kept.1;
      nodes = kept.2;
      nullable = subst (IsNullable M.grammar) (sym (drop_at body k (nonterminal c.in-Nonterminal.part.0) place.symbol))
          (nullable_cons M.grammar (nonterminal c.in-Nonterminal.part.0) (drop (k + 1) body) null place.nullable);
      edges = edges;
    }

pub returns-clause-includes : goal.returns-clause-includes
returns-clause-includes c =
    let first = c.args.self.now.includes in
    let G = c.args.gotos.now.automaton.grammar in
    let gotos = c.args.gotos.now.gotos in
    let body = map symbol_of c.args.body.now in
    let path = map (λ q. q.0) c.args.self.now.path.items in
    let zero : c.loop-at.at ≡ 0 = (let e = c.loop-at-test.false in omega (arith, e)) in
    edges_same first c.loop-at.self.includes c.args.node (IncludedFrom G gotos body path c.loop-at.at)
    (Included G gotos body path) (included_whole G gotos body path c.loop-at.at zero) c.loop-at.invariant.edges
