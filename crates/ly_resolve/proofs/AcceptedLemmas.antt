-- What the machine accepts is a tree of the tokens before the end.
use Rattle.std.proofs.Common.{◌≡◌, inl, inr, zero, suc, List, [], ◌∷◌, ◌++◌, refl, sym, ◌∙◌, ap, subst, arith}
use Rattle.ly_base.specs.Trees.{yield_of}
use Rattle.ly_join.specs.Grammar.{Grammar, IsAugmented, Symbol, nonterminal, terminal}
use Rattle.ly_grammar.specs.Derivations.{IsTree}
use Rattle.ly_grammar.specs.Items.{IsNextSymbol}
use Rattle.ly_grammar.proofs.ItemLemmas.{body_of, zero_item}
use Rattle.ly_relate.proofs.LeaveLemmas.{symbol_within, zero_at}
use Rattle.ly_relate.proofs.ReachLemmas.{apart}
use Rattle.ly_resolve.specs.Laws.{AcceptsTreesOnly}
use Rattle.ly_resolve.specs.Machine.{Pushed, begin, symbols_of}
use Rattle.ly_resolve.proofs.StackLemmas.{AreStacked, leads_trees, leads_yield, stack_yield}

-- the end is next behind the start symbol alone
pub behind_start : {G : Grammar} {g : List Symbol} → IsAugmented G → IsNextSymbol G g (terminal 0)
    → g ≡ nonterminal G.start ∷ []
behind_start {G} augmented (zero, before, after, (u, v)) = elim (zero_item augmented v) [
  | inl x ↦ absurd (apart (sym x.1))
  | inr x ↦ zero_at augmented refl v ∙ x.0
]
behind_start {G} augmented (suc p, before, after, (u, v)) =
    let body = body_of v in
    let within = symbol_within before after (terminal 0) augmented body.1 (omega arith) body.2 in
    absurd (omega (arith, within.0))

none_below : (stack : List Pushed) → symbols_of stack ≡ [] → stack ≡ []
none_below [] e = refl
none_below (x ∷ stack) e = absurd (let off : x.symbol ∷ symbols_of stack ≡ [] → ⊥ = λ e. cc in off e)

pub accepts_trees : AcceptsTreesOnly
accepts_trees G judge augmented tokens d (c, l, a) =
    let symbols = behind_start augmented a.action.0 in
    let tops : a.symbol ∷ symbols_of a.below ≡ nonterminal G.start ∷ [] = ap symbols_of (sym a.is_top) ∙ symbols in
    let top : a.symbol ≡ nonterminal G.start = cc in
    let nothing : symbols_of a.below ≡ [] = cc in
    let below : a.below ≡ [] = none_below a.below nothing in
    let stacked = subst (AreStacked G) a.is_top (leads_trees {c = begin tokens} l tt) in
    let whole : tokens ≡ (stack_yield a.below ++ yield_of d) ++ c.rest
    = leads_yield {c = begin tokens} l ∙ ap (λ s. stack_yield s ++ c.rest) a.is_top in
    let text : tokens ≡ yield_of d ++ c.rest = whole ∙ ap (λ s. (stack_yield s ++ yield_of d) ++ c.rest) below in (
      subst (λ X. IsTree G X d) top stacked.0,
      a.token,
      a.behind,
      a.is_end,
      text ∙ ap (λ z. yield_of d ++ z) a.is_next,
    )
