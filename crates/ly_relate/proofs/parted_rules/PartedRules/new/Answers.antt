use Rattle.std.proofs.Common.{◌≡◌, ◌∙◌, ◌⊎◌, ◌<◌, ◌+◌, ◌++◌, ◌∷◌, [], inl, inr, ℕ, List, ap, arith, length, map}
use Rattle.std.proofs.Common.{Global, Vec, slice_index_or, subst, sym}
use Rattle.std.proofs.lemmas.Bool.{cases_order}
use Rattle.std.proofs.lemmas.List.{get_or_append_left, length-append, length-map, map-append}
use Rattle.std.proofs.Math.Seq.{get_or-append_seam}
use Rattle.ly_lr0.specs.Automaton.{Lr0Automaton}
use Rattle.ly_relate.specs.Private.Groups.{AreParted}
use Rattle.ly_relate.proofs.parted_rules.PartedRules.new.Goals as goal

-- one more nonterminal
parted_more : (M : Lr0Automaton) (k : ℕ) (S O : List (List ℕ)) (s o : List ℕ) → length S ≡ k → length O ≡ k
    → ((A : ℕ) → A < k → AreParted M A (slice_index_or S A []) (slice_index_or O A [])) → AreParted M k s o
    → (A : ℕ) → A < k + 1
    → AreParted M A (slice_index_or (S ++ s ∷ []) A []) (slice_index_or (O ++ o ∷ []) A [])
parted_more M k S O s o long_s long_o each one A lt = at (cases_order A k) where
  at : (A ≡ k) ⊎ ((A < k) ⊎ (k < A))
      → AreParted M A (slice_index_or (S ++ s ∷ []) A []) (slice_index_or (O ++ o ∷ []) A [])
  at (inl e) =
      let here : slice_index_or (S ++ s ∷ []) A [] ≡ s
      = ap (λ i. slice_index_or (S ++ s ∷ []) i []) (e ∙ sym long_s) ∙ get_or-append_seam S s [] [] in
      let there : slice_index_or (O ++ o ∷ []) A [] ≡ o
      = ap (λ i. slice_index_or (O ++ o ∷ []) i []) (e ∙ sym long_o) ∙ get_or-append_seam O o [] [] in
      subst (λ l. AreParted M A l (slice_index_or (O ++ o ∷ []) A [])) (sym here)
      (subst (AreParted M A s) (sym there) (subst (λ B. AreParted M B s o) (sym e) one))
  at (inr (inl less)) =
      let here = get_or_append_left S (s ∷ []) [] A (omega (arith, less, long_s)) in
      let there = get_or_append_left O (o ∷ []) [] A (omega (arith, less, long_o)) in
      subst (λ l. AreParted M A l (slice_index_or (O ++ o ∷ []) A [])) (sym here)
      (subst (AreParted M A (slice_index_or S A [])) (sym there) (each A less))
  at (inr (inr above)) = absurd (omega (arith, lt, above))

-- one more of vectors, as lists
pushed : (xs new : List (Vec ℕ Global)) (x : Vec ℕ Global) → new ≡ xs ++ x ∷ []
    → map (λ v. v.items) new ≡ map (λ v. v.items) xs ++ x.items ∷ []
pushed xs new x e = ap (map (λ v. v.items)) e ∙ map-append (λ v. v.items) xs (x ∷ [])

pub loop-symbol-preserved : goal.loop-symbol-preserved
loop-symbol-preserved c =
    let M = c.args.lr0.now in
    let k = c.loop-symbol.symbol in
    let S = c.loop-symbol.solid.items in
    let O = c.loop-symbol.others.items in
    let inv = c.loop-symbol.invariant in
    let lt = c.loop-symbol-test.true in
    let accept : c.accept.result.0 ≡ M.grammar.accept
    = c.accept.ensures ∙ (sym c.grammar.ensures.keeps.accept ∙ ap (λ g. g.accept) c.reduced.ensures) in
    let long_s = inv.solid in
    let long_o = inv.others in
    record {
      within = omega (arith, lt, accept);
      solid = ap length c.in_ok-push.ensures.items
          ∙ (length-append S (c.in_ok-first.first ∷ []) ∙ ap (λ i. i + 1) long_s);
      others = ap length c.in_ok-push-2.ensures.items
          ∙ (length-append O (c.in_ok-first.second ∷ []) ∙ ap (λ i. i + 1) long_o);
      each = λ A less.
          subst (λ l. AreParted M A (slice_index_or l A [])
          (slice_index_or (map (λ v. v.items) c.push-in-loop-symbol.new.self.items) A []))
          (sym (pushed S c.push.new.self.items c.in_ok-first.first c.in_ok-push.ensures.items))
          (subst (λ l. AreParted M A (slice_index_or (map (λ v. v.items) S ++ c.in_ok-first.first.items ∷ []) A [])
          (slice_index_or l A []))
          (sym (pushed O c.push-in-loop-symbol.new.self.items c.in_ok-first.second c.in_ok-push-2.ensures.items))
          (parted_more M k (map (λ v. v.items) S) (map (λ v. v.items) O) c.in_ok-first.first.items
          c.in_ok-first.second.items (length-map S (λ v. v.items) ∙ long_s) (length-map O (λ v. v.items) ∙ long_o)
          inv.each c.in_ok-first.ensures A less));
    }

pub returns : goal.returns
returns c =
    let M = c.args.lr0.now in
    let inv = c.loop-symbol.invariant in
    let past = c.loop-symbol-test.false in
    let within = inv.within in
    let accept : c.accept.result.0 ≡ M.grammar.accept
    = c.accept.ensures ∙ (sym c.grammar.ensures.keeps.accept ∙ ap (λ g. g.accept) c.reduced.ensures) in
    let long_s = length-map c.loop-symbol.solid.items (λ v. v.items) ∙ inv.solid in
    let long_o = length-map c.loop-symbol.others.items (λ v. v.items) ∙ inv.others in
    record {
      solid = omega (arith, past, accept, long_s);
      others = omega (arith, past, accept, long_o);
      each = λ A le. inv.each A (omega (arith, le, past, accept));
    }
