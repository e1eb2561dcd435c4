-- The cut of a pattern's sides, by their lengths.
use Rattle.std.proofs.Common.{◌≡◌, ℕ, ◌+◌, ◌<◌, List, [], length, Option, Some, refl, sym, ap, subst}
use Rattle.std.proofs.Common.{arith, inl, inr}
use Rattle.std.specs.Prelude.{IsSome}
use Rattle.ly_base.specs.declared.cut.Cut.{Cut}
use Rattle.std.proofs.lemmas.List.{nil_from_length}
use Rattle.ly_ere.specs.Expression.{Expression, Matches}
use Rattle.ly_ere.specs.Grammar.{Sides}
use Rattle.ly_ere.specs.Lengths.{AreLengths, far}
use Rattle.ly_ere.specs.Names.{Definition, defined}
use Rattle.ly_ere.specs.Patterns.{HasOneLength, IsCutOf, Varies, sides_weight}
use Rattle.ly_ere.specs.Private.Cuts.{IsCutOfSides, IsFixed, IsJudged, IsToldBy, IsUntold}
use Rattle.ly_ere.specs.Weight.{weight_of, weight_of_both}
use Rattle.ly_ere.specs.declared.fault.EreFault.TheVariants.{Refused}
use Rattle.ly_ere.specs.declared.fault.EreFaultKind.{EreFaultKind}
use Rattle.ly_ere.specs.declared.length.Lengths.{Lengths}

module _ (names : List Expression) (w : ℕ) (e : Expression) (l : Lengths) (a : AreLengths w (Matches names e) l) where
  -- the least length and the greatest are one
  fixed : IsFixed l → HasOneLength names e l.least
  fixed f = record {
    string = a.short;
    belongs = a.short_in;
    all = λ u h. omega (arith, a.not_below u h, a.not_above u h, f.0, f.1);
  }

  -- they differ
  varied : l.least < l.most → Varies names e
  varied less n one = omega (
    arith,
    less,
    a.short_is,
    a.long_is,
    one.all a.short a.short_in,
    one.all a.long a.long_in,
  )

  some_bytes : 0 < l.least → Matches names e [] → ⊥
  some_bytes more h = absurd (omega (arith, more, a.not_below [] h))

  empty_string : l.least ≡ 0 → Matches names e []
  empty_string none = let zero : length a.short ≡ 0 = omega (arith, none, a.short_is)
      in subst (Matches names e) (nil_from_length a.short zero) a.short_in

module _ (names : List Definition) (s : Sides) (t : Expression) (is : s.tail ≡ Some t) (h k : Lengths)
    (head : AreLengths (weight_of (defined names) s.head) (Matches (defined names) s.head) h)
    (tail : AreLengths (weight_of (defined names) t) (Matches (defined names) t) k) where
  abbrev ds : List Expression
  ds = defined names

  pub told : (cut : Cut) → IsToldBy h k cut → IsCutOfSides ds s cut
  told cut x = (
    subst (λ o. IsCutOf ds s.head o cut) (sym is) (elim x.1 [
      | inl y ↦ inl (h.least, fixed ds _ s.head h head y.0, y.1)
      | inr y ↦ inr (varied ds _ s.head h head y.0, k.least, fixed ds _ t k tail y.1, y.2)
    ]),
    λ _. some_bytes ds _ s.head h head x.0,
  )

  some_tail : IsSome s.tail
  some_tail = subst (λ (o : Option Expression). IsSome o) (sym is) refl

  weighs : sides_weight names s ≡ weight_of ds s.head + weight_of ds t
  weighs = ap (weight_of_both ds s.head) is

  pub untold : (most : ℕ) → most < far → (kind : EreFaultKind) (offset : ℕ) → IsUntold h k kind
      → IsJudged most names s (Refused kind offset)
  untold most less kind offset x = record {
    only = λ _ light. elim (x.only (λ e. light (ap Some e))) [ inl e ↦ inl (ap Some e) | inr e ↦ inr (ap Some e) ];
    vary = λ e. let y = x.vary (cc) in (t, is, varied ds _ s.head h head y.0, varied ds _ t k tail y.1);
    empty_head = λ e. (some_tail, empty_string ds _ s.head h head (x.empty_head (cc)));
    heavy = λ e. elim (x.heavy (cc)) [
      | inl y ↦ omega (arith, less, weighs, head.light, y)
      | inr y ↦ omega (arith, less, weighs, tail.light, y)
    ];
  }
