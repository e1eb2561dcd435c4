-- The kernel of the start alone.
use Rattle.std.proofs.Common.{◌≡◌, ℕ, zero, suc, ◌<◌, List, [], ◌∷◌, refl, sym, ap, subst, arith}
use Rattle.std.specs.Prelude.{Some, slice_get, slice_index_or}
use Rattle.ly_base.proofs.MemberLemmas.{Contains-one}
use Rattle.ly_join.specs.Grammar.{Grammar, IsAugmented, IsRule, Symbol, accept_rule}
use Rattle.ly_grammar.specs.Derivations.{IsReduced}
use Rattle.ly_grammar.specs.Items.{HasMoreCores, IsViable}
use Rattle.ly_lr0.specs.declared.item.Item.{Item}
use Rattle.ly_lr0.specs.Private.Built.{AreFound}
use Rattle.ly_lr0.specs.Private.Closing.{AreKept}
use Rattle.ly_lr0.specs.Private.Kernels.{kernel_at}
use Rattle.ly_lr0.specs.Private.Items.{AreRising, at_start}
use Rattle.ly_lr0.proofs.CoreLemmas.{viable_of}

-- one core is more than none
pub one_core : (G : Grammar) → IsAugmented G → IsReduced G → (limit : ℕ) → limit ≡ 0 → HasMoreCores G limit
one_core G augmented reduced limit none = record {
  strings = [] ∷ [];
  count = omega (arith, none);
  viable = λ k d l. only k d l;
  apart = λ i j d l m. absurd (omega (arith, l, m));
}
  where
    only : (k : ℕ) (d : List Symbol) → k < 1 → IsViable G (slice_index_or ([] ∷ []) k d)
    only zero d l = viable_of G augmented reduced [] tt 0 0 at_start
    only (suc k) d l = absurd (omega (arith, l))

pub found_start : (G : Grammar) → IsAugmented G → (kernels : List (List Item))
    → kernels ≡ (record { rule = 0; dot = 0 } ∷ []) ∷ [] → AreFound G kernels [] []
found_start G augmented kernels same = subst (λ ks. AreFound G ks [] []) (sym same) (record {
  start = refl;
  count = refl;
  rising = λ s l. rising s l;
  kept = λ s l i c. kept s l i c;
  apart = λ s t l m e. omega (arith, l, m);
  within = omega arith;
  sorted = λ s l. absurd (omega (arith, l));
  led = λ s t l. absurd (omega (arith, l.0));
  linked = λ k l. absurd (omega (arith, l));
  back = λ k l. absurd (omega (arith, l));
  ordered = λ k l m n. absurd (omega (arith, n));
  first = λ s t k l. absurd (omega (arith, l.0));
})
  where
    rising : (s : ℕ) → s < 1 → AreRising (kernel_at ((record { rule = 0; dot = 0 } ∷ []) ∷ []) s)
    rising zero l = λ i j d a b. absurd (omega (arith, a, b))
    rising (suc s) l = absurd (omega (arith, l))

    kept : (s : ℕ) → s < 1 → AreKept G (kernel_at ((record { rule = 0; dot = 0 } ∷ []) ∷ []) s)
    kept zero l i c = (
      accept_rule G.accept G.start,
      subst (λ p. IsRule G p (accept_rule G.accept G.start))
          (ap (λ j. j.rule) (Contains-one (record { rule = 0; dot = 0 }) i c))
          augmented.rule_0,
    )
    kept (suc s) l i c = absurd (omega (arith, l))

pub no_rows : {A X : Type 0} (xs : List X) (s : ℕ) (r : X) → xs ≡ [] → slice_get xs s ≡ Some r → A
no_rows [] s r e f = absurd (cc)
no_rows (x ∷ xs) s r e f = absurd (cc)
