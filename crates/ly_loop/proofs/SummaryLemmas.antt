-- What runs come to, reduction by reduction.
use Rattle.std.proofs.Common.{◌≡◌, ◌∙◌, ◌⊎◌, inl, inr, ℕ, suc, ◌+◌, ◌≤◌, List, [], ◌∷◌, ◌++◌, length, drop}
use Rattle.std.proofs.Common.{Some, None, ap, arith, append_assoc, length-append, length-drop, subst, sym}
use Rattle.std.proofs.Math.ListN.{drop_of_length-le}
use Rattle.std.proofs.Math.Seq.{drop-append_seam}
use Rattle.std.proofs.lemmas.List.{append-nil, drop-append-le}
use Rattle.ly_pack.specs.Machine.{Machine, goto_at, reduce}
use Rattle.ly_pack.specs.Steady.{ReducesTo, RunEnd, action_on, ends, go_to, goes_on, here, lacks_goto}
use Rattle.ly_pack.specs.Steady.{leaves_bottom, move, perform, push, reduce_by, run_bound}
use Rattle.ly_pack.proofs.Runs.{makes, reduces_above}
use Rattle.ly_loop.specs.Private.Summary.{ComesTo, EndsSo, IsAllowed, IsLeaving, IsLeft, IsSummary, IsOver, IsPopping}
use Rattle.ly_loop.specs.Private.Summary.{IsWider}
use Rattle.ly_loop.specs.Endless.{EdgeEnds}
use Rattle.ly_loop.specs.Private.Tokens.{IsOn}
use Rattle.ly_loop.specs.declared.tokens.Tokens.{Tokens}
use Rattle.ly_loop.specs.declared.summary.Ending.{Ending}
use Rattle.ly_loop.specs.declared.summary.Ending.TheVariants.{Over, Leaves, Mixed}
use Rattle.ly_loop.specs.declared.summary.Summary.{Summary}
use Rattle.ly_loop.proofs.RunLemmas.{ended, reduces_on}

-- what ends whatever lies below, ends in each way
pub over_so : (m : Machine) (t : ℕ) (last : List ℕ) (e : Ending) → IsOver m t last → EndsSo m t last e
over_so m t last Over over = over
over_so m t last (Leaves rest left) over = inl over
over_so m t last Mixed over = (over.0, subst (λ w. move m t w ≡ ends over.0) (append-nil last) (over.1 []))

-- a reduction that takes all away ends the run
leaving_ends : (m : Machine) (t : ℕ) (last : List ℕ) (rest left : ℕ) → IsLeaving m t last rest left
    → move m t last ≡ ends leaves_bottom
leaving_ends m t last rest left h =
    ap (perform m last) h.reduces ∙ (ap (reduce_by m last) h.is_rule
    ∙ ap (go_to m h.rule.left) (drop_of_length-le last (omega (arith, h.size))))

so_ends : (m : Machine) (t : ℕ) (last : List ℕ) (e : Ending) → EndsSo m t last e
    → (r : RunEnd) × (move m t last ≡ ends r)
so_ends m t last Over over = over_so m t last Mixed over
so_ends m t last (Leaves rest left) (inl over) = over_so m t last Mixed over
so_ends m t last (Leaves rest left) (inr leaves) = (leaves_bottom, leaving_ends m t last rest left.0 leaves)
so_ends m t last Mixed h = h

pub wider_over : (e f : Ending) → e ≡ Over → IsWider e f
wider_over e f is m t last h = over_so m t last f (subst (EndsSo m t last) is h)

pub wider_mixed : (e : Ending) → IsWider e Mixed
wider_mixed e m t last h = so_ends m t last e h

pub comes_wider : (m : Machine) (t : ℕ) (stack : List ℕ) (o p : Summary) → o.most ≤ p.most
    → IsWider o.ending p.ending → ComesTo m t stack o → ComesTo m t stack p
comes_wider m t stack o p more wider c = record {
  count = c.count;
  last = c.last;
  leads = c.leads;
  within = omega (arith, c.within);
  ending = wider m t c.last c.ending;
}

pub summary_ends : (m : Machine) (k : Tokens) (below top : ℕ) (o : Summary) → IsSummary m k below top o
    → (t : ℕ) → IsOn m k t → EdgeEnds m below top t
summary_ends m k below top o is t known =
    let c = is.runs t known in
    ended m t (top ∷ below ∷ []) c.last c.count run_bound c.leads (omega (arith, c.within, is.allowed.low))
    (so_ends m t c.last o.ending c.ending)

-- reductions before
pub comes_after : (m : Machine) (t : ℕ) (stack next : List ℕ) (n made : ℕ) (o p : Summary)
    → ReducesTo m t stack n next → n ≤ made → p.most ≡ made + o.most → p.ending ≡ o.ending → ComesTo m t next o
    → ComesTo m t stack p
comes_after m t stack next n made o p led low most ending c = record {
  count = n + c.count;
  last = c.last;
  leads = reduces_on led c.leads;
  within = omega (arith, c.within);
  ending = subst (EndsSo m t c.last) (sym ending) c.ending;
}

-- runs that end at once
pub comes_over : (m : Machine) (t : ℕ) (stack : List ℕ) (o : Summary) → IsOver m t stack → ComesTo m t stack o
comes_over m t stack o over = record {
  count = 0;
  last = stack;
  leads = here;
  within = omega arith;
  ending = over_so m t stack o.ending over;
}

same_top : (m : Machine) (t : ℕ) (stack more : List ℕ) (number : ℕ) → action_on m t stack ≡ reduce number
    → action_on m t (stack ++ more) ≡ reduce number
same_top m t [] more number is = absurd (cc)
same_top m t (top ∷ low) more number is = is

module _ (m : Machine) (t : ℕ) (stack : List ℕ) (under : ℕ) (below : List ℕ) (left : ℕ)
    (h : IsPopping m t stack under below left)
  where
    -- where a goto is missing
    pub popping_over : None ≡ goto_at m under left → IsOver m t stack
    popping_over none = (lacks_goto, stops)
      where
        n : ℕ
        n = h.rule.body_length

        low : n ≤ length stack
        low = omega (arith, ap length h.popped, length-drop n stack)

        stops : (more : List ℕ) → move m t (stack ++ more) ≡ ends lacks_goto
        stops more =
            let all : drop n (stack ++ more) ≡ under ∷ (below ++ more) =
            drop-append-le n stack more low ∙ ap (λ w. w ++ more) h.popped in
            ap (perform m (stack ++ more)) (same_top m t stack more h.number h.reduces)
            ∙ (ap (reduce_by m (stack ++ more)) h.is_rule ∙ (ap (go_to m h.rule.left) all
            ∙ ap (push (under ∷ (below ++ more))) (ap (goto_at m under) h.left_side ∙ sym none)))

    pub popping_on : (next : ℕ) → Some next ≡ goto_at m under left → move m t stack ≡ goes_on (next ∷ under ∷ below)
    popping_on next is = makes m t h.number under next h.rule stack below h.reduces h.is_rule h.popped
        (ap (goto_at m under) h.left_side ∙ sym is)

module _ (m : Machine) (t : ℕ) (last : List ℕ) (below : ℕ) where
  pub over_on : IsOver m t last → IsOver m t (last ++ below ∷ [])
  over_on over = (
    over.0,
    λ more. subst (λ w. move m t w ≡ ends over.0) (sym (append_assoc last (below ∷ []) more))
        (over.1 ((below ∷ []) ++ more)),
  )

  pub leaving_pops : (left : ℕ) → IsLeaving m t last 0 left → IsPopping m t (last ++ below ∷ []) below [] left
  leaving_pops left h = record {
    number = h.number;
    rule = h.rule;
    reduces = same_top m t last (below ∷ []) h.number h.reduces;
    is_rule = h.is_rule;
    left_side = h.left_side;
    popped = let all : h.rule.body_length ≡ length last = omega (arith, h.size) in
        ap (λ n. drop n (last ++ below ∷ [])) all ∙ drop-append_seam last (below ∷ []);
  }

  pub leaving_on : (more rest left : ℕ) → more ≡ suc rest → IsLeaving m t last more left
      → IsLeaving m t (last ++ below ∷ []) rest left
  leaving_on more rest left e h = record {
    number = h.number;
    rule = h.rule;
    reduces = same_top m t last (below ∷ []) h.number h.reduces;
    is_rule = h.is_rule;
    left_side = h.left_side;
    size = omega (arith, h.size, e, length-append last (below ∷ []));
  }

-- above one state more: runs that are over
pub behind_over : (m : Machine) (t below : ℕ) (stack : List ℕ) (o : Summary) → o.ending ≡ Over → ComesTo m t stack o
    → ComesTo m t (stack ++ below ∷ []) o
behind_over m t below stack o is c = record {
  count = c.count;
  last = c.last ++ below ∷ [];
  leads = reduces_above m t (below ∷ []) c.leads;
  within = c.within;
  ending = subst (EndsSo m t (c.last ++ below ∷ [])) (sym is)
      (over_on m t c.last below (subst (EndsSo m t c.last) is c.ending));
}

-- what both are, the joined one is
pub allowed_joined : (m : Machine) (one other joined : Summary) → joined.most ≤ run_bound
    → (joined.ending ≡ one.ending) ⊎ (joined.ending ≡ other.ending) ⊎ (joined.ending ≡ Mixed) → IsAllowed m one
    → IsAllowed m other → IsAllowed m joined
allowed_joined m one other joined low (inl same) first second =
    record { low = low; left = subst (IsLeft m) (sym same) first.left }
allowed_joined m one other joined low (inr (inl same)) first second =
    record { low = low; left = subst (IsLeft m) (sym same) second.left }
allowed_joined m one other joined low (inr (inr same)) first second =
    record { low = low; left = subst (IsLeft m) (sym same) tt }
