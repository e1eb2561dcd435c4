-- Valid items by rules and dots, and how many steps their derivations take.
use Rattle.std.proofs.Common.{◌≡◌, ◌∙◌, ℕ, suc, List, [], ◌∷◌}
use Rattle.std.proofs.Common.{refl, sym, ap, subst, arith, length, drop}
use Rattle.ly_join.specs.Grammar.{Grammar, IsAugmented, IsRule, GrammarRule, Symbol, accept_rule, nonterminal}
use Rattle.ly_grammar.specs.Derivations.{First}
use Rattle.ly_grammar.specs.Items.{Valid, at_start, closed, moved, onto}
use Rattle.ly_grammar.proofs.ItemLemmas.{body_of, length-onto}
use Rattle.ly_grammar.proofs.SearchLemmas.{rule_is_one}
use Rattle.ly_relate.proofs.WalkLemmas.{parted}
use Rattle.ly_counterexamples.specs.Demands.{IsAhead}
use Rattle.ly_counterexamples.specs.Private.Met.{At, added, begun, item_at, passed}

-- what stands behind the dot of an item that is split there
pub ahead_of : (G : Grammar) (p : ℕ) (r : GrammarRule) (before after : List Symbol) (X : Symbol) → IsRule G p r
    → onto before (X ∷ after) ≡ r.body → IsAhead G (item_at p (length before)) X after
ahead_of G p r before after X is e =
    record { rule = r; is_rule = is; ahead = sym (parted before (X ∷ after) r.body e).1 }

-- a valid item is one
pub at_of_valid : {G : Grammar} {g : List Symbol} {p : ℕ} {before after : List Symbol} {t : ℕ}
    → Valid G g p before after t → (n : ℕ) × At G n g p (length before) t
at_of_valid (at_start is same) = (1, begun)
at_of_valid {G} (closed {p = p} {before = before} {after = after} {B = B} {r = r} v is left same first) =
    let b = body_of v in
    let i = at_of_valid v in
    let ahead = ahead_of G p b.0 before after (nonterminal B) b.1 b.2 in (
      suc i.0,
      added i.1 is (subst (λ A. IsAhead G (item_at p (length before)) (nonterminal A) after) (sym left) ahead)
          first,
    )
at_of_valid {G} (moved {p = p} {before = before} {after = after} {X = X} v) =
    let b = body_of v in
    let i = at_of_valid v in
    (suc i.0, passed i.1 (ahead_of G p b.0 before after X b.1 b.2))

-- An item, split at its dot.
pub record Split (G : Grammar) (g : List Symbol) (p d t : ℕ) : Type 0 where
  pub before : List Symbol
  pub after : List Symbol
  pub valid : Valid G g p before after t
  pub dot : length before ≡ d

-- what is ahead of the dot stands behind it
split_ahead : {G : Grammar} {g : List Symbol} {p d t : ℕ} {X : Symbol} {rest : List Symbol} (s : Split G g p d t)
    → IsAhead G (item_at p d) X rest → s.after ≡ X ∷ rest
split_ahead {G} {p = p} {d = d} s a =
    let b = body_of s.valid in
    let same : b.0.body ≡ a.rule.body = ap (λ r. r.body) (rule_is_one G p b.0 a.rule b.1 a.is_rule) in
    (parted s.before s.after b.0.body b.2).1 ∙ ap (λ n. drop n b.0.body) s.dot ∙ ap (drop d) same ∙ a.ahead

pub valid_of_at : {G : Grammar} {n : ℕ} {g : List Symbol} {p d t : ℕ} → IsAugmented G → At G n g p d t
    → Split G g p d t
valid_of_at {G} augmented begun = record {
  before = [];
  after = (accept_rule G.accept G.start).body;
  valid = at_start augmented.rule_0 refl;
  dot = refl;
}
valid_of_at {G} augmented (added {g = g} {p = p} {t = t} {r = r} i is ahead first) =
    let s = valid_of_at augmented i in
    let v = subst (λ w. Valid G g p s.before w t) (split_ahead s ahead) s.valid in
    record { before = []; after = r.body; valid = closed v is refl refl first; dot = refl }
valid_of_at {G} augmented (passed {g = g} {p = p} {t = t} {X = X} {rest = rest} i ahead) =
    let s = valid_of_at augmented i in
    let v = subst (λ w. Valid G g p s.before w t) (split_ahead s ahead) s.valid in
    record { before = X ∷ s.before; after = rest; valid = moved v; dot = ap suc s.dot }

-- a rule that is complete has its dot at the end
pub complete_of_at : {G : Grammar} {n : ℕ} {g : List Symbol} {t : ℕ} (p d : ℕ) (r : GrammarRule) → IsAugmented G
    → IsRule G p r
    → d ≡ length r.body → At G n g p d t → (before : List Symbol) × Valid G g p before [] t
complete_of_at {G} {g = g} {t = t} p d r augmented is end i =
    let s = valid_of_at augmented i in
    let b = body_of s.valid in
    let same : length b.0.body ≡ length r.body = ap (λ x. length x.body) (rule_is_one G p b.0 r b.1 is) in
    let none : length s.after ≡ 0 = omega (arith, length-onto s.before s.after, ap length b.2, same, s.dot, end) in
    (s.before, subst (λ w. Valid G g p s.before w t) (empty s.after none) s.valid)
  where
    empty : (w : List Symbol) → length w ≡ 0 → w ≡ []
    empty [] e = refl
    empty (X ∷ w) e = absurd (omega (arith, e))

pub at_of_complete : {G : Grammar} {g : List Symbol} {t : ℕ} (p d : ℕ) (r : GrammarRule) → IsRule G p r
    → d ≡ length r.body → (before : List Symbol) × Valid G g p before [] t → (n : ℕ) × At G n g p d t
at_of_complete {G} {g} {t} p d r is end (before, v) =
    let b = body_of v in
    let i = at_of_valid v in
    let same : length b.0.body ≡ length r.body = ap (λ x. length x.body) (rule_is_one G p b.0 r b.1 is) in
    let long : length before ≡ d = omega (arith, length-onto before [], ap length b.2, same, end) in
    (i.0, subst (λ k. At G i.0 g p k t) long i.1)

-- How an item comes to be valid.
pub data Comes (G : Grammar) (n : ℕ) (g : List Symbol) (p d t : ℕ) : Type 0 where
  at_first : n ≡ 1 → p ≡ 0 → d ≡ 0 → g ≡ [] → Comes G n g p d t
  by_item : (m q e u : ℕ) (r : GrammarRule) (rest : List Symbol) → n ≡ suc m → d ≡ 0 → At G m g q e u → IsRule G p r
      → IsAhead G (item_at q e) (nonterminal r.left) rest → First G rest u t → Comes G n g p d t
  by_symbol : (m e : ℕ) (X : Symbol) (h rest : List Symbol) → n ≡ suc m → d ≡ suc e → g ≡ X ∷ h → At G m h p e t
      → IsAhead G (item_at p e) X rest → Comes G n g p d t

pub comes : {G : Grammar} {n : ℕ} {g : List Symbol} {p d t : ℕ} → At G n g p d t → Comes G n g p d t
comes begun = at_first refl refl refl refl
comes (added {n = n} {p = p} {d = d} {t = t} {r = r} {rest = rest} i is ahead first) =
    by_item n p d t r rest refl refl i is ahead first
comes (passed {n = n} {g = g} {d = d} {X = X} {rest = rest} i ahead) =
    by_symbol n d X g rest refl refl refl i ahead
