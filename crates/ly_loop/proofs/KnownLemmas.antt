-- What is known of edges, and the edges that are sought.
use Rattle.std.proofs.Common.{◌≡◌, ◌⊎◌, ◌∙◌, inl, inr, ℕ, List, [], ◌∷◌, ◌++◌, Option, Some, None}
use Rattle.std.proofs.Common.{Bool, ap, false, is_some, true, arith, length, refl, subst, sym}
use Rattle.std.specs.BTreeMap.{IsEmpty, is_at}
use Rattle.std.specs.Map.{lookup}
use Rattle.std.specs.Prelude.{IfSome, cond}
use Rattle.std.proofs.lemmas.List.Elements.{All-contains, All-push, All-take, Contains-push}
use Rattle.std.proofs.Math.Seq.{take-append_seam}
use Rattle.ly_pack.specs.Machine.{Machine}
use Rattle.ly_loop.specs.Private.Known.{ArePending, AreTrue, IsAmongKept, IsLookup, IsSummaryOf}
use Rattle.ly_loop.specs.Private.Known.{IsWithinStates, Kept, kept_at}
use Rattle.ly_loop.specs.Private.Pairs.{pair_cmp}
use Rattle.ly_loop.specs.declared.known.Pending.{Pending}
use Rattle.ly_loop.specs.Private.Summary.{IsSummary}
use Rattle.ly_loop.specs.Endless.{EdgeEnds}
use Rattle.ly_loop.specs.Private.Tokens.{IsOn}
use Rattle.ly_loop.specs.declared.tokens.Tokens.{Tokens}
use Rattle.ly_loop.specs.declared.known.Edge.{Edge}
use Rattle.ly_loop.specs.declared.known.Lookup.{Lookup}
use Rattle.ly_loop.specs.declared.known.Lookup.TheVariants.{Known, Unknown, Wanted}
use Rattle.ly_loop.specs.declared.summaries.Summaries.{Summaries}
use Rattle.ly_loop.specs.declared.summary.Summary.{Summary}
use Rattle.ly_loop.proofs.PairLemmas.{same_pair}
use Rattle.ly_loop.proofs.SummaryLemmas.{summary_ends}

-- an edge of which something is kept that is true
pub put_is : (m : Machine) (k : Tokens) (old new : Kept) (below top : ℕ) (w : Option Summary)
    → ((q : ℕ × ℕ) → kept_at new q ≡ cond (is_at (pair_cmp (below, top)) q) (Some w) (kept_at old q))
    → IfSome w (IsSummary m k below top) → AreTrue m k old → AreTrue m k new
put_is m k old new below top w put is known b t o kept =
    by_test (is_at (pair_cmp (below, top)) (b, t)) refl (sym (put (b, t)) ∙ kept)
  where
    by_test : (r : Bool) → is_at (pair_cmp (below, top)) (b, t) ≡ r
        → cond r (Some w) (kept_at old (b, t)) ≡ Some (Some o) → IsSummary m k b t o
    by_test true at same =
        let pair = same_pair (below, top) (b, t) at in
        let that : w ≡ Some o = cc in
        let so : IsSummary m k below top o = subst (λ x. IfSome x (IsSummary m k below top)) that is in
        subst (λ (x : ℕ × ℕ). IsSummary m k x.0 x.1 o) pair so
    by_test false at same = known b t o same

-- what is kept in one of both is kept
pub among_by : (summaries : Summaries) (edge : Edge) (o : Summary) (kept : Kept)
    → (kept ≡ summaries.own) ⊎ (kept ≡ summaries.others)
    → kept_at kept (edge.below.0, edge.top.0) ≡ Some (Some o) → IsAmongKept summaries edge o
among_by summaries edge o kept (inl own) found = inl (subst
    (λ (x : Kept). kept_at x (edge.below.0, edge.top.0) ≡ Some (Some o)) own found)
among_by summaries edge o kept (inr others) found = inr (subst
    (λ (x : Kept). kept_at x (edge.below.0, edge.top.0) ≡ Some (Some o)) others found)

-- nothing is kept
pub none_is : (m : Machine) (k : Tokens) (kept : Kept) → IsEmpty kept → AreTrue m k kept
none_is m k kept empty below top o found =
    let no : kept_at kept (below, top) ≡ None = ap (lookup (is_at (pair_cmp (below, top)))) empty in
    let both : None ≡ Some (Some o) = sym no ∙ found in
    absurd (cc)

-- the first edge that is sought
pub pending_one : (m : Machine) (last none : List Pending) (edge : Edge) → none ≡ []
    → last ≡ none ++ record { edge = edge; passed = 0 } ∷ [] → IsWithinStates m edge → ArePending m last
pending_one m last none edge e0 e1 within = subst (ArePending m) (sym e1)
    (All-push (λ (p : Pending). IsWithinStates m p.edge) none (record { edge = edge; passed = 0 })
    (subst (ArePending m) (sym e0) (λ k d lt. absurd (omega arith))) within)

-- the last one again, and one that is sought for it
pub pending_two : (m : Machine) (old popped pushed last : List Pending) (p : Pending) (passed : ℕ) (wanted : Edge)
    → ArePending m old → old ≡ popped ++ p ∷ [] → pushed ≡ popped ++ record { edge = p.edge; passed = passed } ∷ []
    → last ≡ pushed ++ record { edge = wanted; passed = 0 } ∷ [] → IsWithinStates m wanted → ArePending m last
pending_two m old popped pushed last p passed wanted all e0 e1 e2 within =
    let P : Pending → Type 0 = λ x. IsWithinStates m x.edge in
    let whole : ArePending m (popped ++ p ∷ []) = subst (ArePending m) e0 all in
    let rest : ArePending m popped = subst (ArePending m) (take-append_seam popped (p ∷ []))
    (All-take P (length popped) (popped ++ p ∷ []) whole) in
    let here : IsWithinStates m p.edge = All-contains P (popped ++ p ∷ []) p whole (Contains-push popped p) in
    let again : ArePending m pushed = subst (ArePending m) (sym e1)
    (All-push P popped (record { edge = p.edge; passed = passed }) rest here) in
    subst (ArePending m) (sym e2) (All-push P pushed (record { edge = wanted; passed = 0 }) again within)

-- where a summary can be said, the runs end
pub some_ends : (m : Machine) (k : Tokens) (below top : ℕ) (found : Option Summary)
    → IfSome found (IsSummary m k below top) → is_some found ≡ true → (t : ℕ) → IsOn m k t → EdgeEnds m below top t
some_ends m k below top None is some = absurd (cc)
some_ends m k below top (Some o) is some = summary_ends m k below top o is

-- a summary that is known is true
pub summary_is : (m : Machine) (P : Summary → Type 0) (found : Lookup) (o : Option Summary) → IsLookup m P found
    → IsSummaryOf found o → IfSome o P
summary_is m P (Known p) o is so = subst (λ (x : Option Summary). IfSome x P) (sym so) is
summary_is m P Unknown o is so = subst (λ (x : Option Summary). IfSome x P) (sym so) tt
summary_is m P (Wanted edge) o is so = subst (λ (x : Option Summary). IfSome x P) (sym so) tt
