-- The least sets along reads are Read, and those along includes Follow.
use Rattle.std.proofs.Common.{◌≡◌, ◌∙◌, inl, inr, ◌<◌, ◌≤◌, ◌↔◌, ℕ, List, Some, arith, length, refl}
use Rattle.std.proofs.Common.{slice_get, slice_index_or, subst, sym}
use Rattle.std.proofs.lemmas.Bool.{cases_lt}
use Rattle.std.proofs.lemmas.Option.{slice_get-get_or, slice_get_within}
use Rattle.ly_sets.specs.NumberSet.{NumberSet, Member}
use Rattle.ly_sets.specs.SetMatrix.{row}
use Rattle.ly_digraph.specs.Digraph.{Digraph, IsEdge, Reaches}
use Rattle.ly_digraph.specs.Digraph.Reaches.{here, along}
use Rattle.ly_digraph.specs.Least.{IsBetween, IsLeast}
use Rattle.ly_digraph.proofs.LeastLemmas.{along_way}
use Rattle.ly_lr0.specs.Automaton.{Lr0Automaton, goto_of}
use Rattle.ly_relate.specs.Related.{AreEdges, AreRelated, AreRelations, Goto, Relations, StandsFor}
use Rattle.ly_relate.specs.Relations.{DirectlyReads, Follow, Includes, Read, Reads, along_includes, along_reads}
use Rattle.ly_relate.specs.Relations.{by_read}
use Rattle.ly_relate.specs.Relations.{directly}
use Rattle.ly_lookahead.specs.Private.Sets.{AreDirectSets, AreFollowSets, FollowsGathered}

-- what the least rows hold was in a row that they reach
least_reached : {g : Digraph} {old new : List NumberSet} → IsLeast g old new → IsBetween g old new → (i t : ℕ)
    → Member (row new i) t ↔ ((j : ℕ) × Reaches g i j × Member (row old j) t)
least_reached least between i t =
    (between.reached i t, λ r. along_way least.grows r.1 t (least.holds.holds r.0 t r.2))

-- one number has one transition
pub one_goto : (gotos : List Goto) (n : ℕ) (x y : Goto) → slice_get gotos n ≡ Some x → slice_get gotos n ≡ Some y
    → x ≡ y
one_goto gotos n x y a b = let e : Some x ≡ Some y = sym a ∙ b in cc

-- an edge that a relation gives is from a transition's number
edge_within : {gotos : List Goto} (R : ℕ → ℕ → ℕ → ℕ → Type 0) {g : Digraph} → AreEdges gotos (AreRelated gotos R) g
    → {i j : ℕ} → Reaches g i j → length gotos ≤ i → i ≡ j
edge_within R are (here i) past = refl
edge_within {gotos} R are (along i j k e way) past =
    let r = (are.edges i j).0 e in
    let lt = slice_get_within gotos i r.0 r.2 in
    absurd (omega (arith, lt, past))

-- something stands at each place
pub goto_at : (gotos : List Goto) (n : ℕ) → n < length gotos → (x : Goto) × (slice_get gotos n ≡ Some x)
goto_at gotos n lt =
    let none : Goto = record { from = 0; symbol = 0; target = 0 } in
    (slice_index_or gotos n none, slice_get-get_or gotos n none lt)

-- what a transition reaches is reached by a node that stands for it
stands_reaches : (gotos : List Goto) (g : Digraph) (k j i : ℕ) → StandsFor gotos g k j → Reaches g j i → Reaches g k i
stands_reaches gotos g k j i (inl e) way = subst (λ n. Reaches g n i) (sym e) way
stands_reaches gotos g k j i (inr (past, e)) way = along k j i e way

module _ (M : Lr0Automaton) (R : Relations) (are : AreRelations M R) where
  -- a transition of this number directly reads the terminal
  abbrev IsDirect : ℕ → ℕ → Type 0
  IsDirect j t = (x : Goto) × (slice_get R.gotos j ≡ Some x) × DirectlyReads M.grammar (goto_of M) x.from x.symbol t

  read_from : {i j t : ℕ} → Reaches R.reads i j → (x : Goto) → slice_get R.gotos i ≡ Some x
      → IsDirect j t → Read M.grammar (goto_of M) x.from x.symbol t
  read_from {t = t} (here i) x at d =
      directly (subst (λ z. DirectlyReads M.grammar (goto_of M) z.from z.symbol t)
      (one_goto R.gotos i d.0 x d.1 at) d.2)
  read_from {t = t} (along i j k e way) x at has =
      let r = (are.reads.edges i j).0 e in
      along_reads (subst (λ z. Reads M.grammar (goto_of M) z.from z.symbol r.1.from r.1.symbol)
      (one_goto R.gotos i r.0 x r.2 at) r.4)
      (read_from {t = t} way r.1 r.3 has)

  read_to : {p A t : ℕ} → Read M.grammar (goto_of M) p A t → (n s : ℕ)
      → slice_get R.gotos n ≡ Some (record { from = p; symbol = A; target = s })
      → (j : ℕ) × Reaches R.reads n j × IsDirect j t
  read_to {p} {A} {t} (directly d) n s at =
      (n, here n, (record { from = p; symbol = A; target = s }, at, d))
  read_to {p} {A} {t} (along_reads {r = r} {C = C} x rd) n s at =
      let there = are.gotos.all r C x.1.0 x.1.1 in
      let rest = read_to rd there.0 x.1.0 there.1 in
      let y : Goto = record { from = r; symbol = C; target = x.1.0 } in
      let e = (are.reads.edges n there.0).1 (record { from = p; symbol = A; target = s }, y, at, there.1, x) in
      (rest.0, along n there.0 rest.0 e rest.1, rest.2)

  module _ (direct reads follows : List NumberSet) (are_direct : AreDirectSets M R.gotos direct)
      (least_reads : IsLeast R.reads direct reads) (between_reads : IsBetween R.reads direct reads)
      (least_follows : IsLeast R.includes reads follows) (between_follows : IsBetween R.includes reads follows) where
    -- Read
    are_reads : (n t : ℕ) (x : Goto) → slice_get R.gotos n ≡ Some x
        → Member (row reads n) t ↔ Read M.grammar (goto_of M) x.from x.symbol t
    are_reads n t x at = (to, back) where
      to : Member (row reads n) t → Read M.grammar (goto_of M) x.from x.symbol t
      to m =
          let r = (least_reached least_reads between_reads n t).0 m in
          read_from {t = t} r.1 x at ((are_direct r.0 t).0 r.2)

      back : Read M.grammar (goto_of M) x.from x.symbol t → Member (row reads n) t
      back rd =
          let r = read_to rd n x.target at in
          (least_reached least_reads between_reads n t).1 (r.0, r.1, (are_direct r.0 t).1 r.2)

    -- nothing is read past the transitions
    read_past : (i t : ℕ) → length R.gotos ≤ i → Member (row reads i) t → ⊥
    read_past i t past m =
        let d = (least_reached least_reads between_reads i t).0 m in
        let here = edge_within (Reads M.grammar (goto_of M)) are.reads d.1 past in
        let has = (are_direct i t).0 (subst (λ k. Member (row direct k) t) (sym here) d.2) in
        let lt = slice_get_within R.gotos i has.0 has.1 in
        omega (arith, lt, past)

    -- what follows a transition, or those that a node past them gathers
    abbrev FollowsNode : ℕ → ℕ → Type 0
    FollowsNode i t = ((x : Goto) → slice_get R.gotos i ≡ Some x → Follow M.grammar (goto_of M) x.from x.symbol t)
        × (length R.gotos ≤ i → FollowsGathered M R.gotos R.includes i t)

    -- follows where an edge leads from as well
    follow_edge : (i k t : ℕ) → IsEdge R.includes i k → FollowsNode k t → FollowsNode i t
    follow_edge i k t e follows_k = (at_transition, past_them) where
      by_includes : (x y : Goto) (n : ℕ) → slice_get R.gotos i ≡ Some x → slice_get R.gotos n ≡ Some y
          → StandsFor R.gotos R.includes k n → Follow M.grammar (goto_of M) y.from y.symbol t
          → Follow M.grammar (goto_of M) x.from x.symbol t
      by_includes x y n at there stands f =
          let r = (are.includes.edges i n (slice_get_within R.gotos i x at) (slice_get_within R.gotos n y there)).0
          (k, e, stands) in
          let x_is = one_goto R.gotos i r.0 x r.2 at in
          let y_is = one_goto R.gotos n r.1 y r.3 there in
          along_includes (subst (λ z. Includes M.grammar (goto_of M) x.from x.symbol z.from z.symbol) y_is
          (subst (λ z. Includes M.grammar (goto_of M) z.from z.symbol r.1.from r.1.symbol) x_is r.4)) f

      at_transition : (x : Goto) → slice_get R.gotos i ≡ Some x → Follow M.grammar (goto_of M) x.from x.symbol t
      at_transition x at = elim (cases_lt k (length R.gotos)) [
        | inl below ↦
            let y = goto_at R.gotos k below in
            by_includes x y.0 k at y.1 (inl refl) (follows_k.0 y.0 y.1)
        | inr past ↦
            let f = follows_k.1 past in
            by_includes x f.1 f.0 at f.3 (inr (past, f.2)) f.4
      ]

      past_them : length R.gotos ≤ i → FollowsGathered M R.gotos R.includes i t
      past_them past =
          let y = goto_at R.gotos k (are.includes.gathered i k past e) in
          (k, y.0, e, y.1, follows_k.0 y.0 y.1)

    follow_from : {i j t : ℕ} → Reaches R.includes i j → Member (row reads j) t → FollowsNode i t
    follow_from {t = t} (here i) m = (λ x at. by_read ((are_reads i t x at).0 m), λ past. absurd (read_past i t past m))
    follow_from {t = t} (along i k j e way) m = follow_edge i k t e (follow_from {t = t} way m)

    follow_to : {p A t : ℕ} → Follow M.grammar (goto_of M) p A t → (n s : ℕ)
        → slice_get R.gotos n ≡ Some (record { from = p; symbol = A; target = s })
        → (j : ℕ) × Reaches R.includes n j × Member (row reads j) t
    follow_to {p} {A} {t} (by_read rd) n s at =
        (n, here n, (are_reads n t (record { from = p; symbol = A; target = s }) at).1 rd)
    follow_to {p} {A} {t} (along_includes {q = q} {B = B} i f) n s at =
        let to = i.to in
        let there = are.gotos.all q B to.0 to.1 in
        let rest = follow_to f there.0 to.0 there.1 in
        let x : Goto = record { from = p; symbol = A; target = s } in
        let y : Goto = record { from = q; symbol = B; target = to.0 } in
        let e = (are.includes.edges n there.0 (slice_get_within R.gotos n x at)
        (slice_get_within R.gotos there.0 y there.1)).1 (x, y, at, there.1, i) in
        (rest.0, along n e.0 rest.0 e.1 (stands_reaches R.gotos R.includes e.0 there.0 rest.0 e.2 rest.1), rest.2)

    -- Follow
    pub are_follows : AreFollowSets M R.gotos R.includes follows
    are_follows = record { follows = both; gathered = gathers } where
      both : (n t : ℕ) (x : Goto) → slice_get R.gotos n ≡ Some x
          → Member (row follows n) t ↔ Follow M.grammar (goto_of M) x.from x.symbol t
      both n t x at = (
        (λ m. let r = (least_reached least_follows between_follows n t).0 m in (follow_from {t = t} r.1 r.2).0 x at),
        (λ f. let r = follow_to f n x.target at in (least_reached least_follows between_follows n t).1 r),
      )

      gathers : (k t : ℕ) → length R.gotos ≤ k → Member (row follows k) t ↔ FollowsGathered M R.gotos R.includes k t
      gathers k t past = (
        (λ m. let r = (least_reached least_follows between_follows k t).0 m in (follow_from {t = t} r.1 r.2).1 past),
        (λ (j, x, e, at, f).
            let r = follow_to f j x.target at in
            (least_reached least_follows between_follows k t).1 (r.0, along k j r.0 e r.1, r.2)),
      )
