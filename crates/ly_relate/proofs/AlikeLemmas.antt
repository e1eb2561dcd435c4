-- Transitions that lead alike: what rules that begin with terminals say of one, they say of the other.
use Rattle.std.proofs.Common.{◌≡◌, ◌∙◌, ◌⊎◌, inl, inr, ℕ, suc, List, [], ◌∷◌, ◌++◌, Some, refl, sym, ap, subst}
use Rattle.std.proofs.Common.{length, take, slice_get, Contains}
use Rattle.std.specs.Prelude.{reverse}
use Rattle.std.proofs.lemmas.List.{reverse-append}
use Rattle.ly_join.specs.Grammar.{IsRule, Symbol, nonterminal, terminal}
use Rattle.ly_grammar.specs.Items.{onto}
use Rattle.ly_lr0.specs.Automaton.{Gotos, Reaches, goto_of}
use Rattle.ly_relate.specs.Private.Gotos.{IsNumbering, Numbering}
use Rattle.ly_relate.specs.Private.Groups.{AreGroupable, BeginsSolid}
use Rattle.ly_relate.specs.Private.Walks.{IsIncludingBy, IsLookingBack}
use Rattle.ly_relate.specs.Related.{Goto}
use Rattle.ly_relate.proofs.GotoLemmas.{numbered_are}
use Rattle.ly_relate.proofs.ReachLemmas.{Reaches-append, Reaches-split, apart}
use Rattle.ly_relate.proofs.WalkLemmas.{parted}

-- where the first symbol of a string leads alike, the string does
alike_reaches : (goto : Gotos) (p q : ℕ) (b : List Symbol) (X : Symbol) (s : ℕ) → goto p X ≡ goto q X
    → Reaches goto p (b ++ X ∷ []) s → Reaches goto q (b ++ X ∷ []) s
alike_reaches goto p q b X s e leads =
    let parts = Reaches-split goto p b (X ∷ []) s leads in
    let first = parts.1 in
    let goes : goto q X ≡ Some parts.0 = sym e ∙ (ap (λ k. goto k X) (sym first.1) ∙ first.2) in
    Reaches-append goto q b (X ∷ []) parts.0 s (q, refl, goes) parts.2

-- what stands before a place of a body is nothing, or begins with the body's first symbol
first_last : (before w body rest : List Symbol) (X : Symbol) → onto before w ≡ body → body ≡ X ∷ rest
    → (before ≡ []) ⊎ ((b : List Symbol) × (before ≡ b ++ X ∷ []))
first_last [] w body rest X e is = inl refl
first_last (Y ∷ before) w body rest X e is =
    let parts = parted (Y ∷ before) w body e in
    inr (
      reverse (take (length before) rest),
      parts.0 ∙ (ap (λ u. reverse (take (suc (length before)) u)) is
          ∙ reverse-append (X ∷ []) (take (length before) rest)),
    )

-- two transitions of one number
one_number : (gotos : List Goto) (k : ℕ) (x y : Goto) → slice_get gotos k ≡ Some x → slice_get gotos k ≡ Some y → x ≡ y
one_number gotos k x y a b = let e : Some x ≡ Some y = sym a ∙ b in cc

-- the other way round
pub alike_back : (n : Numbering) (solid : ℕ → List ℕ) (a b : ℕ) → AreGroupable n solid a b → AreGroupable n solid b a
alike_back n solid a b (x, y, at, there, same, lead) = (
  y,
  x,
  there,
  at,
  sym same,
  λ k has r X rest is body. sym (lead k (subst (λ A. Contains (solid A) k) (sym same) has) r X rest is body),
)

-- and one more
pub alike_more : (n : Numbering) (solid : ℕ → List ℕ) (a b c : ℕ) → AreGroupable n solid a b → AreGroupable n solid b c
    → AreGroupable n solid a c
alike_more n solid a b c (x, y, at, there, same, lead) (z, w, here, last, alike, on) =
    let one : y ≡ z = one_number n.gotos b y z there here in (
      x,
      w,
      at,
      last,
      same ∙ (ap (λ g. g.symbol) one ∙ alike),
      λ k has r X rest is body.
          let first = lead k has r X rest is body in
          let second = on k (subst (λ A. Contains (solid A) k) (same ∙ ap (λ g. g.symbol) one) has) r X rest is body in
          first ∙ (ap (λ g. goto_of n.automaton g.from X) one ∙ second),
    )

module _ (n : Numbering) (law : IsNumbering n) (solid : ℕ → List ℕ) (a b p : ℕ) (alike : AreGroupable n solid a b)
    (has : Contains (solid alike.0.symbol) p) (begins : BeginsSolid n.automaton.grammar p) where
  -- what a rule includes in one it includes in the other
  pub moved_includes : (i : ℕ) → IsIncludingBy n.automaton n.gotos p i a → IsIncludingBy n.automaton n.gotos p i b
  moved_includes i (x, y, here, there, is, number) = at (first_last is.before (nonterminal x.symbol ∷ is.after)
      is.rule.body solid_body.1 (terminal solid_body.0) is.is_body solid_body.2)
    where
      xa : Goto
      xa = alike.0

      xb : Goto
      xb = alike.1

      same : y ≡ xa
      same = one_number n.gotos a y xa there alike.2

      solid_body : (t : ℕ) × (rest : List Symbol) × (is.rule.body ≡ terminal t ∷ rest)
      solid_body = begins is.rule (subst (λ k. IsRule n.automaton.grammar k is.rule) number is.is_rule)

      at : (is.before ≡ []) ⊎ ((u : List Symbol) × (is.before ≡ u ++ terminal solid_body.0 ∷ []))
          → IsIncludingBy n.automaton n.gotos p i b
      at (inl none) =
          let whole : nonterminal x.symbol ∷ is.after ≡ terminal solid_body.0 ∷ solid_body.1
          = ap (λ u. onto u (nonterminal x.symbol ∷ is.after)) (sym none) ∙ (is.is_body ∙ solid_body.2) in
          let first : nonterminal x.symbol ≡ terminal solid_body.0 = cc in
          absurd (apart first)
      at (inr (u, e)) =
          let X = terminal solid_body.0 in
          let leads : Reaches (goto_of n.automaton) xa.from (u ++ X ∷ []) x.from
          = subst (λ g. Reaches (goto_of n.automaton) g.from (u ++ X ∷ []) x.from) same
          (subst (λ w. Reaches (goto_of n.automaton) y.from w x.from) e is.leads) in
          let alike_first = alike.5 p has is.rule X solid_body.1
          (subst (λ k. IsRule n.automaton.grammar k is.rule) number is.is_rule) solid_body.2 in
          let moved = alike_reaches (goto_of n.automaton) xa.from xb.from u X x.from alike_first leads in (
            x,
            xb,
            here,
            alike.3,
            record {
              number = is.number;
              rule = is.rule;
              is_rule = is.is_rule;
              is_left = is.is_left ∙ (ap (λ g. g.symbol) same ∙ alike.4);
              before = is.before;
              after = is.after;
              is_body = is.is_body;
              nullable = is.nullable;
              leads = subst (λ w. Reaches (goto_of n.automaton) xb.from w x.from) (sym e) moved;
              from = is.from;
              to = (xb.target, (numbered_are n law).are b xb alike.3);
            },
            number,
          )

  -- and where it looks back to one it looks back to the other
  pub moved_looks : (s : ℕ) → IsLookingBack n.automaton n.gotos a s p → IsLookingBack n.automaton n.gotos b s p
  moved_looks s (y, there, is) = at (first_last is.before [] is.rule.body solid_body.1 (terminal solid_body.0)
      is.is_body solid_body.2)
    where
      xa : Goto
      xa = alike.0

      xb : Goto
      xb = alike.1

      same : y ≡ xa
      same = one_number n.gotos a y xa there alike.2

      solid_body : (t : ℕ) × (rest : List Symbol) × (is.rule.body ≡ terminal t ∷ rest)
      solid_body = begins is.rule is.is_rule

      at : (is.before ≡ []) ⊎ ((u : List Symbol) × (is.before ≡ u ++ terminal solid_body.0 ∷ []))
          → IsLookingBack n.automaton n.gotos b s p
      at (inl none) =
          let whole : [] ≡ terminal solid_body.0 ∷ solid_body.1
          = ap (λ u. onto u []) (sym none) ∙ (is.is_body ∙ solid_body.2) in
          absurd (cc)
      at (inr (u, e)) =
          let X = terminal solid_body.0 in
          let leads : Reaches (goto_of n.automaton) xa.from (u ++ X ∷ []) s
          = subst (λ g. Reaches (goto_of n.automaton) g.from (u ++ X ∷ []) s) same
          (subst (λ w. Reaches (goto_of n.automaton) y.from w s) e is.leads) in
          let alike_first = alike.5 p has is.rule X solid_body.1 is.is_rule solid_body.2 in
          let moved = alike_reaches (goto_of n.automaton) xa.from xb.from u X s alike_first leads in (
            xb,
            alike.3,
            record {
              rule = is.rule;
              is_rule = is.is_rule;
              is_left = is.is_left ∙ (ap (λ g. g.symbol) same ∙ alike.4);
              before = is.before;
              is_body = is.is_body;
              leads = subst (λ w. Reaches (goto_of n.automaton) xb.from w s) (sym e) moved;
              from = (xb.target, (numbered_are n law).are b xb alike.3);
            },
          )
