-- Where its run ends, the machine refuses exactly the first token that continues no sentence.
use Rattle.std.proofs.Common.{◌≡◌, ◌≢◌, ◌⊎◌, inl, inr, List, [], ◌∷◌, ◌++◌, All, refl, sym, ◌∙◌, ap, subst}
use Rattle.std.proofs.Common.{append_assoc, ℕ}
use Rattle.std.proofs.lemmas.List.Elements.{All-head, All-tail}
use Rattle.ly_base.specs.Lexed.{Token}
use Rattle.ly_base.specs.Trees.{Tree, leaf, node, none, more, yield_of}
use Rattle.ly_join.specs.Grammar.{Grammar, accept_rule, nonterminal}
use Rattle.ly_grammar.specs.Derivations.{IsSentencePrefix, IsTree}
use Rattle.ly_resolve.specs.Laws.{IsFirstWrong, RefusesExactly}
use Rattle.ly_resolve.specs.Machine.{Ends, RefusesAfter}
use Rattle.ly_resolve.proofs.AcceptedLemmas.{accepts_trees}
use Rattle.ly_resolve.proofs.RefuseLemmas.{refused_first}

-- a beginning of what begins a sentence does so too
shorter : {G : Grammar} (u v : List (Token ℕ)) → IsSentencePrefix G (u ++ v) → IsSentencePrefix G u
shorter u v p = (v ++ p.0, (p.1.0, p.1.1, p.1.2 ∙ append_assoc u v p.0))

-- Two places in one list: they are one, or one is before the other.
abbrev Compared : List (Token ℕ) → List (Token ℕ) → Token ℕ → Token ℕ → Type 0
Compared a b x y = (a ≡ b)
    ⊎ (((m : List (Token ℕ)) × (b ≡ a ++ x ∷ m)) ⊎ ((m : List (Token ℕ)) × (a ≡ b ++ y ∷ m)))

compare : (a b u v : List (Token ℕ)) (x y : Token ℕ) → a ++ x ∷ u ≡ b ++ y ∷ v → Compared a b x y
compare [] [] u v x y e = inl refl
compare [] (z ∷ b) u v x y e = inr (inl (b, cc))
compare (z ∷ a) [] u v x y e = inr (inr (a, cc))
compare (z ∷ a) (w ∷ b) u v x y e = with_heads (compare a b u v x y cc) where
  with_heads : Compared a b x y → Compared (z ∷ a) (w ∷ b) x y
  with_heads (inl s) = inl cc
  with_heads (inr (inl m)) = let r = m.1 in inr (inl (m.0, cc))
  with_heads (inr (inr m)) = let r = m.1 in inr (inr (m.0, cc))

-- where no token but the last is the end, nothing stands behind the end
pub end_is_last : (tokens y behind : List (Token ℕ)) (end z : Token ℕ) → All (λ x. x.terminal ≢ 0) tokens
    → z.terminal ≡ 0 → tokens ++ end ∷ [] ≡ y ++ z ∷ behind → behind ≡ []
end_is_last [] [] behind end z ends is e = cc
end_is_last [] (x ∷ []) behind end z ends is e =
    absurd (let off : end ∷ [] ≡ x ∷ z ∷ behind → ⊥ = λ k. cc in off e)
end_is_last [] (x ∷ w ∷ y) behind end z ends is e =
    absurd (let off : end ∷ [] ≡ x ∷ w ∷ (y ++ z ∷ behind) → ⊥ = λ k. cc in off e)
end_is_last (t ∷ tokens) [] behind end z ends is e =
    let same : t ≡ z = cc in
    absurd (All-head (λ x. x.terminal ≢ 0) t tokens ends (ap (λ x. x.terminal) same ∙ is))
end_is_last (t ∷ tokens) (x ∷ y) behind end z ends is e =
    end_is_last tokens y behind end z (All-tail (λ x. x.terminal ≢ 0) t tokens ends) is cc

pub refused_exactly : RefusesExactly
refused_exactly G judge augmented reduced free tokens before behind t end ends is text run = (
  refused_first G judge augmented reduced free before behind t,
  λ wrong. at wrong run,
)
  where
    at : IsFirstWrong G before t → Ends G judge (before ++ t ∷ behind)
        → RefusesAfter G judge (before ++ t ∷ behind) before
    at wrong (inl a) =
        let d = a.0 in
        let w = accepts_trees G judge augmented (before ++ t ∷ behind) d a.1 in
        let none_behind = end_is_last tokens (yield_of d) w.2 end w.1 ends w.3 (text ∙ w.4) in
        let whole : Tree = node 0 (more d (more (leaf w.1) none)) in
        let is_whole : IsTree G (nonterminal G.accept) whole
        = (accept_rule G.accept G.start, augmented.rule_0, refl, (w.0, (w.3, tt))) in
        let e : yield_of d ++ w.1 ∷ [] ≡ (before ++ t ∷ []) ++ behind
        = ap (λ l. yield_of d ++ w.1 ∷ l) (sym none_behind)
        ∙ (sym w.4 ∙ sym (append_assoc before (t ∷ []) behind)) in
        absurd (wrong.1 (behind, (whole, is_whole, e)))
    at wrong (inr r) =
        let refused = r.1.2 in
        let split : before ++ t ∷ behind ≡ r.0 ++ refused.token ∷ refused.behind
        = r.1.3 ∙ ap (λ w. r.0 ++ w) refused.is_next in
        let there = subst (λ w. RefusesAfter G judge w r.0) split r.1 in
        let law = refused_first G judge augmented reduced free r.0 refused.behind refused.token there in
        choose law.0 law.1 (compare r.0 before refused.behind behind refused.token t (sym split))
      where
        choose : IsSentencePrefix G r.0 → (IsSentencePrefix G (r.0 ++ r.1.2.token ∷ []) → ⊥)
            → Compared r.0 before r.1.2.token t → RefusesAfter G judge (before ++ t ∷ behind) before
        choose begun never (inl s) = subst (RefusesAfter G judge (before ++ t ∷ behind)) s r.1
        choose begun never (inr (inl m)) =
            let longer : before ≡ (r.0 ++ r.1.2.token ∷ []) ++ m.0
            = m.1 ∙ sym (append_assoc r.0 (r.1.2.token ∷ []) m.0) in
            absurd (never (shorter (r.0 ++ r.1.2.token ∷ []) m.0 (subst (IsSentencePrefix G) longer wrong.0)))
        choose begun never (inr (inr m)) =
            let longer : r.0 ≡ (before ++ t ∷ []) ++ m.0 = m.1 ∙ sym (append_assoc before (t ∷ []) m.0) in
            absurd (wrong.1 (shorter (before ++ t ∷ []) m.0 (subst (IsSentencePrefix G) longer begun)))
