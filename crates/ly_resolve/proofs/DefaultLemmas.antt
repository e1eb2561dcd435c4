-- Reductions that end in a shift begin with one that has the terminal in its lookahead.
use Rattle.std.proofs.Common.{◌≡◌, ℕ, List, [], ◌∷◌, ◌++◌, refl, sym, ◌∙◌, ap, subst, inl, inr}
use Rattle.ly_base.specs.Lexed.{Token}
use Rattle.ly_base.specs.Trees.{leaf, more, none, yields_of}
use Rattle.ly_join.specs.Grammar.{Grammar, IsAugmented, IsRule, GrammarRule, Symbol, nonterminal, terminal}
use Rattle.ly_grammar.specs.Derivations.{First, IsReduced}
use Rattle.ly_grammar.specs.Items.{IsNextSymbol, Valid, closed, onto}
use Rattle.ly_grammar.proofs.ItemLemmas.{body_of, read_on, trees_behind}
use Rattle.ly_grammar.proofs.SearchLemmas.{rule_is_one}
use Rattle.ly_relate.proofs.ReachLemmas.{back}
use Rattle.ly_resolve.specs.Laws.{DefaultsNeverMislead, Reduces, here, onward}
use Rattle.ly_resolve.proofs.AcceptLemmas.{merges_self}

-- The terminal can come next: it begins what stands behind the dot of some item, with the item's lookahead behind that.
record Expects (G : Grammar) (g : List Symbol) (t : ℕ) : Type 0 where
  number : ℕ
  before : List Symbol
  after : List Symbol
  behind : ℕ
  item : Valid G g number before after behind
  first : First G after behind t

-- a rule is complete with a terminal that can come next behind its left side
completes : {G : Grammar} {under : List Symbol} {t q : ℕ} (r : GrammarRule) (before : List Symbol) → IsRule G q r
    → onto before [] ≡ r.body → Expects G (nonterminal r.left ∷ under) t → Valid G (before ++ under) q before [] t
completes {t = t} r before is body e =
    let w = back e.item in
    read_on before [] (closed w.valid is refl body (w.takes_in t e.first))

-- the body of a complete rule
complete_body : {G : Grammar} {g before : List Symbol} {q t : ℕ} (r : GrammarRule) → IsRule G q r
    → Valid G g q before [] t
    → onto before [] ≡ r.body
complete_body {G} {q = q} r is v =
    let body = body_of v in
    body.2 ∙ ap (λ x. x.body) (rule_is_one G q body.0 r body.1 is)

expects : (G : Grammar) {g h : List Symbol} (t : ℕ) → IsAugmented G → IsReduced G → Reduces G g h
    → IsNextSymbol G h (terminal t) → Expects G g t
expects G t augmented reduced here (p, before, after, (u, v)) =
    let ts = trees_behind augmented reduced v in
    let token : Token ℕ = record { terminal = t; at = 0; bytes = [] } in
    record {
      number = p;
      before = before;
      after = terminal t ∷ after;
      behind = u;
      item = v;
      first = inl (more (leaf token) ts.0, (refl, ts.1), token, yields_of ts.0, refl, refl);
    }
expects G t augmented reduced (onward {q = q} {r = r} {before = before} {under = under} is v split l) next =
    let on = completes r before is (complete_body r is v) (expects G t augmented reduced l next) in
    record {
      number = q;
      before = before;
      after = [];
      behind = t;
      item = subst (λ w. Valid G w q before [] t) (sym split) on;
      first = inr ((none, tt, refl), refl);
    }

pub never_mislead : DefaultsNeverMislead
never_mislead G augmented reduced g under h before q k t r is viable v split l next =
    let on = completes r before is (complete_body r is v) (expects G t augmented reduced l next) in
    record {
      at = g;
      merges = merges_self G g viable;
      before = before;
      valid = subst (λ w. Valid G w q before [] t) (sym split) on;
    }
