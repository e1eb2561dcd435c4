-- What the runs of an edge come to, by the rules of its state on top.
use Rattle.std.proofs.Common.{◌≡◌, ◌∙◌, inl, inr, ℕ, ◌+◌, ◌<◌, ◌≤◌, List, [], ◌∷◌, ◌++◌, Some, None}
use Rattle.std.proofs.Common.{Contains, ap, arith, drop, refl, subst, sym}
use Rattle.std.specs.Global.{Vec}
use Rattle.ly_base.proofs.ListLemmas.{All-at}
use Rattle.ly_base.specs.declared.numbers.RuleNo.{RuleNo}
use Rattle.std.proofs.lemmas.List.Elements.{Contains-push_cases}
use Rattle.ly_base.specs.declared.numbers.Sym.{Sym}
use Rattle.ly_pack.specs.Machine.{IsMachine, IsRuleNumber, IsRuleWithin, IsTableRule, Machine, TableAction, TableRule}
use Rattle.ly_pack.specs.Machine.{accept}
use Rattle.ly_pack.specs.Machine.{action_of, error, goto_at, reduce, shift}
use Rattle.ly_pack.specs.Values.{action_from}
use Rattle.ly_pack.specs.declared.action.TableAction as code
use Rattle.ly_pack.specs.declared.action.TableAction.TheVariants.{Shift, Reduce, Accept, Error}
use Rattle.ly_pack.specs.Steady.{accepts, here, onward, perform, reads, refuses, run_bound}
use Rattle.ly_pack.proofs.Runs.{reduces_above}
use Rattle.ly_pack.proofs.WithinLemmas.{rule_known}
use Rattle.ly_loop.specs.Private.Known.{AreKnown, IsKept, IsLonger, IsLookup, IsWithinStates}
use Rattle.ly_loop.specs.Private.Summary.{ComesTo, EndsSo, IsAllowed, IsBehind, IsGone, IsLeaving, IsLeft, IsSummary}
use Rattle.ly_loop.specs.Private.Summary.{IsJoined, IsSummaryBy, IsSummaryByAll, IsOver}
use Rattle.ly_loop.specs.Private.Reductions.{AreAlike, AreAllReductions, AreReductions, EndsAtOnce}
use Rattle.ly_loop.specs.declared.known.Edge.{Edge}
use Rattle.ly_loop.specs.declared.known.Lookup.{Lookup}
use Rattle.ly_loop.specs.declared.known.Lookup.TheVariants.{Known, Unknown, Wanted}
use Rattle.ly_loop.specs.declared.summary.Ending.TheVariants.{Over, Leaves}
use Rattle.ly_loop.specs.declared.summaries.Summaries.{Summaries}
use Rattle.ly_loop.specs.declared.summary.Summary.{Summary}
use Rattle.ly_loop.specs.declared.tokens.Tokens.{Tokens}
use Rattle.ly_loop.specs.declared.tokens.Tokens.TheVariants.{One}
use Rattle.ly_loop.specs.Private.Tokens.{IsOn}
use Rattle.ly_loop.proofs.ReductionLemmas.{alike_itself}
use Rattle.ly_loop.proofs.SummaryLemmas.{comes_after, comes_over, leaving_on, leaving_pops, over_on, over_so}
use Rattle.ly_loop.proofs.SummaryLemmas.{popping_on, popping_over}

-- what is no reduction ends the run, whatever lies below
pub unreduced_over : (m : Machine) (t top : ℕ) (rest : List ℕ) (a : TableAction) → action_of m top t ≡ a
    → ((p : ℕ) → a ≡ reduce p → ⊥) → IsOver m t (top ∷ rest)
unreduced_over m t top rest (shift s) is not = (reads s, λ more. ap (perform m ((top ∷ rest) ++ more)) is)
unreduced_over m t top rest (reduce p) is not = absurd (not p refl)
unreduced_over m t top rest accept is not = (accepts, λ more. ap (perform m ((top ∷ rest) ++ more)) is)
unreduced_over m t top rest error is not = (refuses, λ more. ap (perform m ((top ∷ rest) ++ more)) is)

-- nor does a reduction of nothing that leads nowhere lead on
at_once_over : (m : Machine) (t top : ℕ) (rest : List ℕ) (p : ℕ) → action_of m top t ≡ reduce p → EndsAtOnce m top p
    → IsOver m t (top ∷ rest)
at_once_over m t top rest p by e = popping_over m t (top ∷ rest) top rest (e.0.left) (record {
  number = p;
  rule = e.0;
  reduces = by;
  is_rule = e.1;
  left_side = refl;
  popped = ap (λ n. drop n (top ∷ rest)) e.2;
}) e.3

-- above a state that doesn't reduce
unreduced_summary : (m : Machine) (k : Tokens) (below top : ℕ) (row : List RuleNo) (o : Summary)
    → AreReductions m top row → row ≡ [] → o.most ≡ 0 → o.ending ≡ Over → IsSummary m k below top o
unreduced_summary m k below top row o are none most ending = record {
  allowed = record { low = omega (arith, most); left = subst (IsLeft m) (sym ending) tt };
  runs = λ t known. comes_over m t (top ∷ below ∷ []) o (over t (action_of m top t) refl);
}
  where
    over : (t : ℕ) (a : TableAction) → action_of m top t ≡ a → IsOver m t (top ∷ below ∷ [])
    over t (shift s) is = unreduced_over m t top (below ∷ []) (shift s) is (λ p e. absurd (cc))
    over t (reduce p) is = elim (are.whole t p is) [
      | inl r ↦ let has : Contains [] r.0 = subst (λ rs. Contains rs r.0) none r.1 in absurd (omega (arith, has.1))
      | inr e ↦ at_once_over m t top (below ∷ []) p is e
    ]
    over t accept is = unreduced_over m t top (below ∷ []) accept is (λ p e. absurd (cc))
    over t error is = unreduced_over m t top (below ∷ []) error is (λ p e. absurd (cc))

-- what is looked up is true
pub kept_is : (m : Machine) (k : Tokens) (reductions : List (Vec RuleNo)) (summaries : Summaries)
    (edge : Edge) (found : Lookup) → AreAllReductions m reductions → AreKnown m k summaries → IsWithinStates m edge
    → IsKept reductions summaries edge found → IsLookup m (IsSummary m k edge.below.0 edge.top.0) found
kept_is m k reductions summaries edge (Known o) all known within (inl none) =
    unreduced_summary m k edge.below.0 edge.top.0 none.0.items o (all.each edge.top.0 none.0 none.1) none.2 none.3
    none.4
kept_is m k reductions summaries edge (Known o) all known within (inr (inl kept)) =
    known.0 edge.below.0 edge.top.0 o kept
kept_is m k reductions summaries edge (Known o) all known within (inr (inr kept)) =
    known.1 edge.below.0 edge.top.0 o kept
kept_is m k reductions summaries edge Unknown all known within kept = tt
kept_is m k reductions summaries edge (Wanted wanted) all known within kept = subst (IsWithinStates m) (sym kept) within

-- with reductions before
pub longer_is : (m : Machine) (P Q : Summary → Type 0) (made : ℕ) (found longer : Lookup)
    → ((o p : Summary) → p.most ≡ made + o.most → p.most ≤ run_bound → p.ending ≡ o.ending → P o → Q p)
    → IsLookup m P found → IsLonger made found longer → IsLookup m Q longer
longer_is m P Q made (Known o) (Known p) onto is so = onto o p so.0 so.1 so.2 is
longer_is m P Q made (Known o) Unknown onto is so = tt
longer_is m P Q made (Known o) (Wanted edge) onto is so = absurd so
longer_is m P Q made Unknown longer onto is so = subst (IsLookup m Q) (sym so) tt
longer_is m P Q made (Wanted edge) longer onto is so = subst (IsLookup m Q) (sym so) is

-- what isn't known isn't afterwards
pub longer_other : (m : Machine) (P Q : Summary → Type 0) (made : ℕ) (found longer : Lookup) → IsLookup m P found
    → ((o : Summary) → found ≡ Known o → ⊥) → IsLonger made found longer → IsLookup m Q longer
longer_other m P Q made (Known o) longer is not so = absurd (not o refl)
longer_other m P Q made Unknown longer is not so = subst (IsLookup m Q) (sym so) tt
longer_other m P Q made (Wanted edge) longer is not so = subst (IsLookup m Q) (sym so) is

-- with reductions before, a summary that is low enough is allowed
allowed_longer : (m : Machine) (o p : Summary) → p.most ≤ run_bound → p.ending ≡ o.ending → IsAllowed m o
    → IsAllowed m p
allowed_longer m o p low ending is = record { low = low; left = subst (IsLeft m) (sym ending) is.left }

-- one reduction that takes all above a state away
pub beside_is : (m : Machine) (k : Tokens) (under left next : ℕ) → Some next ≡ goto_at m under left → (o p : Summary)
    → p.most ≡ 1 + o.most → p.most ≤ run_bound → p.ending ≡ o.ending → IsSummary m k under next o
    → IsGone m k under [] left p
beside_is m k under left next goto o p most low ending is = record {
  allowed = allowed_longer m o p low ending is.allowed;
  runs = λ t stack known pops. comes_after m t stack (next ∷ under ∷ []) 1 1 o p
      (onward (popping_on m t stack under [] left pops next goto) here) (omega arith) most ending (is.runs t known);
}

-- one reduction of nothing
pub above_is : (m : Machine) (k : Tokens) (below top left next : ℕ) (inner : Summary) → Some next ≡ goto_at m top left
    → IsSummary m k top next inner → (o p : Summary) → p.most ≡ 1 + o.most → p.most ≤ run_bound → p.ending ≡ o.ending
    → IsBehind m k below inner o → IsGone m k top (below ∷ []) left p
above_is m k below top left next inner goto was o p most low ending is = record {
  allowed = allowed_longer m o p low ending is.allowed;
  runs = λ t stack known pops. comes_after m t stack (next ∷ top ∷ below ∷ []) 1 1 o p
      (onward (popping_on m t stack top (below ∷ []) left pops next goto) here) (omega arith) most ending
      (is.runs t (next ∷ top ∷ []) known (was.runs t known));
}

-- above one more state, where the reduction takes away what lies above that
pub behind_none : (m : Machine) (k : Tokens) (below left : ℕ) (inner : Summary) (rest : ℕ) (side : Sym)
    → inner.ending ≡ Leaves rest side → rest ≡ 0 → side.0 ≡ left → (o p : Summary) → p.most ≡ inner.most + o.most
    → p.most ≤ run_bound
    → p.ending ≡ o.ending → IsGone m k below [] left o → IsBehind m k below inner p
behind_none m k below left inner rest side is_so none same o p most low ending is = record {
  allowed = allowed_longer m o p low ending is.allowed;
  runs = λ t stack known c. onto t stack known c (subst (EndsSo m t c.last) is_so c.ending);
}
  where
    onto : (t : ℕ) (stack : List ℕ) → IsOn m k t → (c : ComesTo m t stack inner)
        → EndsSo m t c.last (Leaves rest side) → ComesTo m t (stack ++ below ∷ []) p
    onto t stack known c (inl over) = record {
      count = c.count;
      last = c.last ++ below ∷ [];
      leads = reduces_above m t (below ∷ []) c.leads;
      within = omega (arith, c.within, most);
      ending = over_so m t (c.last ++ below ∷ []) p.ending (over_on m t c.last below over);
    }
    onto t stack known c (inr leaves) =
        let leaves' = subst (λ n. IsLeaving m t c.last n left) none
        (subst (λ n. IsLeaving m t c.last rest n) same leaves) in
        comes_after m t (stack ++ below ∷ []) (c.last ++ below ∷ []) c.count inner.most o p
        (reduces_above m t (below ∷ []) c.leads) c.within most ending
        (is.runs t (c.last ++ below ∷ []) known (leaving_pops m t c.last below left leaves'))

-- where it takes away others as well
pub behind_more : (m : Machine) (k : Tokens) (below : ℕ) (inner : Summary) (rest more : ℕ) (side : Sym)
    → inner.ending ≡ Leaves rest side → rest ≡ more + 1 → IsAllowed m inner
    → IsBehind m k below inner (record { most = inner.most; ending = Leaves more side })
behind_more m k below inner rest more side is_so one allowed = record {
  allowed = record { low = allowed.low; left = subst (IsLeft m) is_so allowed.left };
  runs = λ t stack known c. record {
    count = c.count;
    last = c.last ++ below ∷ [];
    leads = reduces_above m t (below ∷ []) c.leads;
    within = c.within;
    ending = onto t c.last (subst (EndsSo m t c.last) is_so c.ending);
  };
}
  where
    onto : (t : ℕ) (last : List ℕ) → EndsSo m t last (Leaves rest side)
        → EndsSo m t (last ++ below ∷ []) (Leaves more side)
    onto t last (inl over) = inl (over_on m t last below over)
    onto t last (inr leaves) = inr (leaving_on m t last below rest more side.0 (omega (arith, one)) leaves)

-- where a goto is missing
pub missing_is : (m : Machine) (k : Tokens) (under : ℕ) (below : List ℕ) (left : ℕ) → None ≡ goto_at m under left
    → IsGone m k under below left (record { most = 0; ending = Over })
missing_is m k under below left none = record {
  allowed = record { low = omega arith; left = tt };
  runs = λ t stack known pops. comes_over m t stack (record { most = 0; ending = Over })
      (popping_over m t stack under below left pops none);
}

-- a rule's left side is there
rule_left : (m : Machine) (p : ℕ) (r : TableRule) → IsMachine m → IsTableRule m p r → r.left < m.nonterminals
rule_left m p r ok is = (All-at (IsRuleWithin m.nonterminals) m.rules is.0 r ok.rules is.2).left

-- a reduction of two symbols or more takes the state below away
pub leaves_by : (m : Machine) (k : Tokens) (below top p : ℕ) (r : TableRule) (rest : ℕ) (side : Sym) → IsMachine m
    → IsTableRule m p r → r.left ≡ side.0 → r.body_length ≡ 2 + rest
    → IsSummaryBy m k below top p (record { most = 0; ending = Leaves rest side })
leaves_by m k below top p r rest side ok is left size = record {
  allowed = record {
    low = omega arith;
    left = subst (λ n. n < m.nonterminals) left (rule_left m p r ok is);
  };
  runs = λ t q known alike by. record {
    count = 0;
    last = top ∷ below ∷ [];
    leads = here;
    within = omega arith;
    ending = inr (record {
      number = q;
      rule = alike.other;
      reduces = by;
      is_rule = alike.is_other;
      left_side = sym alike.left ∙ (ap (λ (x : TableRule). x.left) (first_is q alike) ∙ left);
      size = sym alike.size ∙ (ap (λ (x : TableRule). x.body_length) (first_is q alike) ∙ size);
    });
  };
}
  where
    first_is : (q : ℕ) → (alike : AreAlike m p q) → alike.rule ≡ r
    first_is q alike = let both : Some alike.rule ≡ Some r = sym alike.is_rule ∙ rule_known m p r is in cc

-- one rule more
pub more_is : (m : Machine) (k : Tokens) (below top : ℕ) (rules : List RuleNo) (r : RuleNo) (all one joined : Summary)
    → IsSummaryByAll m k below top rules all → IsSummaryBy m k below top r.0 one → IsJoined m all one joined
    → IsSummaryByAll m k below top (rules ++ r ∷ []) joined
more_is m k below top rules r all one joined was is both = record {
  allowed = both.allowed was.allowed is.allowed;
  runs = λ t p known said by. elim (Contains-push_cases rules r said.0 said.1) [
    | inl old ↦ both.first t (top ∷ below ∷ []) (was.runs t p known (said.0, old, said.2) by)
    | inr same ↦ both.second t (top ∷ below ∷ []) (is.runs t p known
        (subst (λ (x : RuleNo). AreAlike m x.0 p) (sym same) said.2) by)
  ];
}

-- all the rules by which a state reduces
pub all_is : (m : Machine) (k : Tokens) (below top : ℕ) (rules : List RuleNo) (o : Summary) → AreReductions m top rules
    → IsSummaryByAll m k below top rules o → IsSummary m k below top o
all_is m k below top rules o are is = record {
  allowed = is.allowed;
  runs = λ t known. by_action t known (action_of m top t) refl;
}
  where
    by_action : (t : ℕ) → IsOn m k t → (a : TableAction) → action_of m top t ≡ a
        → ComesTo m t (top ∷ below ∷ []) o
    by_action t known (shift s) a =
        comes_over m t (top ∷ below ∷ []) o (unreduced_over m t top (below ∷ []) (shift s) a (λ p e. absurd (cc)))
    by_action t known (reduce p) a =
        elim (are.whole t p a) [
          | inl said ↦ is.runs t p known said a
          | inr e ↦ comes_over m t (top ∷ below ∷ []) o (at_once_over m t top (below ∷ []) p a e)
        ]
    by_action t known accept a =
        comes_over m t (top ∷ below ∷ []) o (unreduced_over m t top (below ∷ []) accept a (λ p e. absurd (cc)))
    by_action t known error a =
        comes_over m t (top ∷ below ∷ []) o (unreduced_over m t top (below ∷ []) error a (λ p e. absurd (cc)))

-- what isn't a reduction
pub unreduced : (a : code.TableAction) → ((r : RuleNo) → a ≡ Reduce r → ⊥) → (p : ℕ) → action_from a ≡ reduce p → ⊥
unreduced (Shift s) not p e = cc
unreduced (Reduce r) not p e = not r refl
unreduced Accept not p e = cc
unreduced Error not p e = cc

-- one terminal, on which the state on top reduces
pub one_is : (m : Machine) (token : Sym) (below top p : ℕ) (o : Summary) → IsRuleNumber m p
    → action_of m top token.0 ≡ reduce p → IsSummaryBy m (One token) below top p o
    → IsSummary m (One token) below top o
one_is m token below top p o known by is = record {
  allowed = is.allowed;
  runs = λ t on. is.runs t p on (alike_itself m p known) (ap (action_of m top) on ∙ by);
}

pub one_found : (m : Machine) (token : Sym) (below top p : ℕ) (found : Lookup) → IsRuleNumber m p
    → action_of m top token.0 ≡ reduce p → IsLookup m (IsSummaryBy m (One token) below top p) found
    → IsLookup m (IsSummary m (One token) below top) found
one_found m token below top p (Known o) known by is = one_is m token below top p o known by is
one_found m token below top p Unknown known by is = tt
one_found m token below top p (Wanted edge) known by is = is

-- and one on which it doesn't
pub one_over : (m : Machine) (token : Sym) (below top : ℕ) (a : TableAction) (o : Summary) → o.most ≡ 0
    → o.ending ≡ Over → action_of m top token.0 ≡ a → ((p : ℕ) → a ≡ reduce p → ⊥)
    → IsSummary m (One token) below top o
one_over m token below top a o most ending is not = record {
  allowed = record { low = omega (arith, most); left = subst (IsLeft m) (sym ending) tt };
  runs = λ t on. comes_over m t (top ∷ below ∷ []) o
      (unreduced_over m t top (below ∷ []) a (ap (action_of m top) on ∙ is) not);
}

-- what indexing gives past the end
abbrev pub no_rule : RuleNo
no_rule = record { 0 = 0 }
