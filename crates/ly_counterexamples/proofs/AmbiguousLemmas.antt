-- Sentences by two trees, by the moves to these.
use Rattle.std.proofs.Common.{◌≡◌, ◌≢◌, ◌∙◌, ℕ, List, [], ◌∷◌, ◌++◌, refl, sym, ap, subst}
use Rattle.std.proofs.lemmas.List.{append_cancel_left, map-append}
use Rattle.ly_join.specs.Grammar.{Grammar}
use Rattle.ly_resolve.specs.Conflicts.{Conflict}
use Rattle.ly_resolve.specs.Resolved.{Resolved}
use Rattle.ly_counterexamples.specs.Moves.{HaveNoneAt, IsAmbiguousAt, Move, moves_of, parse_of, reduces, shifted}
use Rattle.ly_counterexamples.specs.Moves.{shifts}
use Rattle.ly_counterexamples.specs.Moves.{TakeBoth}
use Rattle.ly_counterexamples.specs.Sentences.{IsSentenceBy}
use Rattle.ly_counterexamples.specs.declared.moves.Move as made
use Rattle.ly_counterexamples.specs.declared.moves.Move.TheVariants.{Shift}
use Rattle.ly_counterexamples.specs.Private.Leftmost.{AreMovesBy, AreOfNone, AreOnlyMoves, move_from, moves_from}
use Rattle.ly_counterexamples.proofs.ParseLemmas.{shifted_append, shifted_tree}

-- the moves to the tree of a sentence
moves_to : (G : Grammar) (rules sentence : List ℕ) → (s : IsSentenceBy G rules sentence)
    → AreMovesBy G rules (moves_of s.tree)
moves_to G rules sentence s = record { tree = s.tree; derives = s.derives; has = s.has; made = refl }

-- the sentence that moves shift
abbrev sentence_of : (G : Grammar) (rules sentence : List ℕ) (moves : List Move) → AreMovesBy G rules moves
    → sentence ≡ shifted moves → IsSentenceBy G rules sentence
sentence_of G rules sentence moves m e = record {
  tree = m.tree;
  derives = m.derives;
  has = m.has;
  yields = sym (shifted_tree m.tree) ∙ ap shifted m.made ∙ sym e;
}

-- a sentence is what the only moves by its rules shift
only_sentence : (G : Grammar) (rules sentence : List ℕ) (moves : List Move) → AreOnlyMoves G rules moves
    → IsSentenceBy G rules sentence → sentence ≡ shifted moves
only_sentence G rules sentence moves only s = sym s.yields ∙ sym (shifted_tree s.tree)
    ∙ ap shifted (only.1 (moves_of s.tree) (moves_to G rules sentence s))

-- behind moves the end is shifted
pub with_end : (moves new : List made.Move) → new ≡ moves ++ Shift (record { 0 = 0 }) ∷ []
    → moves_from new ≡ moves_from moves ++ shifts 0 ∷ []
with_end moves new pushed = ap moves_from pushed ∙ map-append move_from moves (Shift (record { 0 = 0 }) ∷ [])

-- parses of one sentence shift the same
pub same_shifted : (xs ys : List made.Move) (us vs : List made.Move) → shifted (moves_from xs) ≡ shifted (moves_from ys)
    → us ≡ xs ++ Shift (record { 0 = 0 }) ∷ [] → vs ≡ ys ++ Shift (record { 0 = 0 }) ∷ []
    → shifted (moves_from us) ≡ shifted (moves_from vs)
same_shifted xs ys us vs e first second = ap shifted (with_end xs us first)
    ∙ shifted_append (moves_from xs) (shifts 0 ∷ []) ∙ ap (λ w. w ++ 0 ∷ []) e
    ∙ sym (shifted_append (moves_from ys) (shifts 0 ∷ [])) ∙ sym (ap shifted (with_end ys vs second))

-- parses that take both actions are two
two_parses : (r : Resolved) (c : Conflict) (xs ys : List Move) → TakeBoth r c xs ys → xs ≢ ys
two_parses r c xs ys t e =
    let one : t.move ∷ t.behind ≡ reduces c.rule ∷ t.beyond
    = append_cancel_left t.before (t.move ∷ t.behind) (reduces c.rule ∷ t.beyond) (sym t.first ∙ e ∙ t.second) in
    t.apart (cc)

module _ (r : Resolved) (c : Conflict) (one other : List ℕ) where
  -- without moves by the rules of both there is no such sentence
  pub none_by_one : AreOfNone r.spec.grammar one → HaveNoneAt r c one other
  none_by_one never w two = never (moves_of two.trees.first.tree) (moves_to r.spec.grammar one w two.trees.first)

  pub none_by_other : AreOfNone r.spec.grammar other → HaveNoneAt r c one other
  none_by_other never w two = never (moves_of two.trees.second.tree) (moves_to r.spec.grammar other w two.trees.second)

  module _ (xs ys : List Move) (first : AreOnlyMoves r.spec.grammar one xs)
      (second : AreOnlyMoves r.spec.grammar other ys) where
    -- the sentences are one
    pub none_apart : shifted xs ≢ shifted ys → HaveNoneAt r c one other
    none_apart apart w two = apart (sym (only_sentence r.spec.grammar one w xs first two.trees.first)
        ∙ only_sentence r.spec.grammar other w ys second two.trees.second)

    module _ (us vs : List Move) (one_is : us ≡ xs ++ shifts 0 ∷ []) (other_is : vs ≡ ys ++ shifts 0 ∷ []) where
      -- its parses take both actions
      pub none_takes : (TakeBoth r c us vs → ⊥) → HaveNoneAt r c one other
      none_takes never w two =
          let a : parse_of two.trees.first.tree ≡ us
          = ap (λ ms. ms ++ shifts 0 ∷ [])
          (first.1 (moves_of two.trees.first.tree) (moves_to r.spec.grammar one w two.trees.first)) ∙ sym one_is in
          let b : parse_of two.trees.second.tree ≡ vs
          = ap (λ ms. ms ++ shifts 0 ∷ [])
          (second.1 (moves_of two.trees.second.tree) (moves_to r.spec.grammar other w two.trees.second))
          ∙ sym other_is in
          never (subst (λ p. TakeBoth r c p vs) a (subst (TakeBoth r c (parse_of two.trees.first.tree)) b two.actions))

      -- where it is so, it is such a sentence
      pub ambiguous : (sentence : List ℕ) → sentence ≡ shifted xs → shifted ys ≡ shifted xs → TakeBoth r c us vs
          → IsAmbiguousAt r c one other sentence
      ambiguous sentence is same takes = record {
        trees = record {
          first = sentence_of r.spec.grammar one sentence xs first.0 is;
          second = sentence_of r.spec.grammar other sentence ys second.0 (is ∙ sym same);
          apart = λ e.
              let equal : ys ≡ xs = first.1 ys (subst (λ rs. AreMovesBy r.spec.grammar rs ys) (sym e) second.0) in
              two_parses r c us vs takes (one_is ∙ ap (λ ms. ms ++ shifts 0 ∷ []) (sym equal) ∙ sym other_is);
        };
        actions =
            let a : us ≡ parse_of first.0.tree = one_is ∙ ap (λ ms. ms ++ shifts 0 ∷ []) (sym first.0.made) in
            let b : vs ≡ parse_of second.0.tree = other_is ∙ ap (λ ms. ms ++ shifts 0 ∷ []) (sym second.0.made) in
            subst (λ p. TakeBoth r c p (parse_of second.0.tree)) a (subst (TakeBoth r c us) b takes);
      }
