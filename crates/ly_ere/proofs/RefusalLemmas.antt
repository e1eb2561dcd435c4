-- Why a pattern is refused, by why its sides are.
use Rattle.std.proofs.Common.{◌≡◌, ◌≢◌, ℕ, ◌<◌, ◌≤◌, ◌-◌, List, length}
use Rattle.std.proofs.Common.{Some, None, refl, sym, ap, subst, arith, inl, inr}
use Rattle.std.proofs.Common.{take}
use Rattle.std.proofs.lemmas.List.{drop_all, take_all}
use Rattle.ly_base.specs.declared.cut.Cut.{Cut}
use Rattle.ly_ere.specs.Expression.{Expression}
use Rattle.ly_ere.specs.Grammar.{Sides}
use Rattle.ly_ere.specs.Names.{Definition, defined}
use Rattle.ly_ere.specs.Patterns.{BothVary, HasFrontSides, IsCutOf, IsFrontPattern, IsPattern, IsRefused}
use Rattle.ly_ere.specs.Patterns.{SpellsSides, sides_of, sides_weight}
use Rattle.ly_ere.specs.Private.Cuts.{IsCutOfSides, IsJudged}
use Rattle.ly_ere.specs.Faults.{ere_kind}
use Rattle.ly_ere.specs.Private.Faults.{fault_in, kind_of_syntax}
use Rattle.ly_ere.specs.declared.fault.EreFault.{EreFault}
use Rattle.ly_ere.specs.declared.fault.EreFault.TheVariants.{Refused}
use Rattle.ly_ere.specs.declared.fault.EreFaultKind.{EreFaultKind}
use Rattle.ly_ere.specs.declared.fault.EreFaultKind.TheVariants.{StrayOperator, TooHeavy, TrailingBothVary}
use Rattle.ly_ere.specs.declared.fault.EreFaultKind.TheVariants.{TrailingHeadEmpty}
use Rattle.ly_ere.specs.declared.fault.ReadFault.{ReadFault}
use Rattle.ly_ere.specs.declared.fault.ReadFault.TheVariants.{Syntax, OutOfMemory}
use Rattle.ly_ere.specs.declared.fault.SyntaxKind.{SyntaxKind}
use Rattle.ly_ere.specs.declared.fault.SyntaxKind.TheVariants as syntax
use Rattle.ly_ere.specs.declared.pattern.Pattern.{Pattern}
use Rattle.ly_ere.proofs.FrontLaws.{pattern_sides}
use Rattle.ly_ere.proofs.PlaceLemmas.{some_one}
use Rattle.ly_ere.proofs.SidesLemmas.{front_sides_one}

-- what is wrong is the text, and not the weight, the cut or an empty head
abbrev IsOtherKind : EreFaultKind → Type 0
IsOtherKind kind = (kind ≢ TooHeavy) × (kind ≢ TrailingBothVary) × (kind ≢ TrailingHeadEmpty)

kind_is_other : (kind : SyntaxKind) → IsOtherKind (kind_of_syntax kind)
kind_is_other syntax.Empty = (λ e. cc, λ e. cc, λ e. cc)
kind_is_other syntax.UnclosedQuote = (λ e. cc, λ e. cc, λ e. cc)
kind_is_other syntax.UnclosedBracket = (λ e. cc, λ e. cc, λ e. cc)
kind_is_other syntax.UnclosedGroup = (λ e. cc, λ e. cc, λ e. cc)
kind_is_other syntax.StrayOperator = (λ e. cc, λ e. cc, λ e. cc)
kind_is_other syntax.BadRange = (λ e. cc, λ e. cc, λ e. cc)
kind_is_other syntax.EmptySet = (λ e. cc, λ e. cc, λ e. cc)
kind_is_other syntax.UnknownClass = (λ e. cc, λ e. cc, λ e. cc)
kind_is_other syntax.BadInterval = (λ e. cc, λ e. cc, λ e. cc)
kind_is_other syntax.EscapeTooLarge = (λ e. cc, λ e. cc, λ e. cc)
kind_is_other syntax.UnknownName = (λ e. cc, λ e. cc, λ e. cc)
kind_is_other syntax.AnchorInside = (λ e. cc, λ e. cc, λ e. cc)
kind_is_other syntax.TrailingTwice = (λ e. cc, λ e. cc, λ e. cc)

-- the same of a fault
abbrev IsOther : EreFault → Type 0
IsOther fault = (ere_kind fault ≢ Some TooHeavy) × (ere_kind fault ≢ Some TrailingBothVary)
    × (ere_kind fault ≢ Some TrailingHeadEmpty)

text_is_other : (kind : EreFaultKind) (offset : ℕ) → IsOtherKind kind → IsOther (Refused kind offset)
text_is_other kind offset other = (
  λ e. other.0 (some_one e),
  λ e. other.1 (some_one e),
  λ e. other.2 (some_one e),
)

-- sides that have a cut
no_cut : (names : List Expression) (s : Sides) (cut : Cut) → IsCutOfSides names s cut → BothVary names s → ⊥
no_cut names s cut c b = by s.tail b.1 c.0
  where
    by : (t : _) → t ≡ Some b.0 → IsCutOf names s.head t cut → ⊥
    by None e k = absurd (cc)
    by (Some t) e (inl k) = b.2 k.0 k.1
    by (Some t) e (inr k) = let same : t ≡ b.0 = cc in b.3 k.1 (rw same at k.2)

module _ (most : ℕ) (names : List Definition) (Have : Sides → Type 0) (Is : Pattern → Type 0) where
  -- the text is at fault
  pub refused_text : (fault : EreFault) → IsOther fault → ((p : Pattern) → Is p → ⊥)
      → IsRefused most names Have Is fault
  refused_text fault other none = record {
    refused = λ _ _. none;
    vary = λ e. absurd (other.1 e);
    empty_head = λ e. absurd (other.2 e);
    heavy = λ e. absurd (other.0 e);
    none_light = λ e. absurd (other.0 e);
  }

  -- the text is at fault, or a growth was refused
  pub refused_reading : (text : List ℕ) (fault : ReadFault) → (fault ≢ OutOfMemory → (p : Pattern) → Is p → ⊥)
      → IsRefused most names Have Is (fault_in text fault)
  refused_reading text (Syntax fault) none = refused_text (fault_in text (Syntax fault))
      (text_is_other (kind_of_syntax fault.kind) (length text - fault.left) (kind_is_other fault.kind))
      (none (λ e. absurd (cc)))
  refused_reading text OutOfMemory none = record {
    refused = λ other. absurd (other refl);
    vary = λ e. absurd (cc);
    empty_head = λ e. absurd (cc);
    heavy = λ e. absurd (cc);
    none_light = λ e. absurd (cc);
  }

  -- the sides that are read are at fault, or a growth was refused
  pub refused_sides : (s : Sides) (fault : EreFault) → Have s
      → ((p : Pattern) → Is p → (sides_of p ≡ s) × IsCutOfSides (defined names) (sides_of p) p.cut)
      → IsJudged most names s fault → IsRefused most names Have Is fault
  refused_sides s fault have is j = record {
    refused = λ other light p x.
        let found = is p x in
        let cut : IsCutOfSides (defined names) s p.cut
        = subst (λ (u : Sides). IsCutOfSides (defined names) u p.cut) found.0 found.1 in
        elim (j.only other light) [
          | inl e ↦ no_cut (defined names) s p.cut cut (j.vary e)
          | inr e ↦ let h = j.empty_head e in cut.1 h.0 h.1
        ];
    vary = λ e. (s, have, j.vary e);
    empty_head = λ e. (s, have, j.empty_head e);
    heavy = λ e. (s, have, j.heavy e);
    none_light = λ e p x light. omega (arith, j.heavy e, ap (sides_weight names) (is p x).0, light);
  }

-- the text of a pattern as the front of a line
pub text_front : (names : List Definition) (text : List ℕ) (s : Sides) → SpellsSides names text s
    → HasFrontSides names text s (length text)
text_front names text s x = record {
  within = omega arith;
  sides = rw (take_all (length text) text (omega arith)) x;
  follows = rw (drop_all (length text) text (omega arith)) tt;
}

module _ (most : ℕ) (names : List Definition) (line : List ℕ) where
  abbrev HaveFront : Sides → Type 0
  HaveFront s = (n : ℕ) × HasFrontSides names line s n

  abbrev IsFront : Pattern → Type 0
  IsFront p = (n : ℕ) × IsFrontPattern names line p n

  -- no sides at the front of a line
  pub no_front : (fault : ReadFault) → (fault ≢ OutOfMemory → (s : Sides) (n : ℕ) → HasFrontSides names line s n → ⊥)
      → IsRefused most names HaveFront IsFront (fault_in line fault)
  no_front fault none = refused_reading most names HaveFront IsFront line fault
      (λ other p x. none other (sides_of p) x.0 (pattern_sides names line p x.0 x.1))

  -- a text that is no pattern
  pub no_text : (fault : ReadFault) → (fault ≢ OutOfMemory → (s : Sides) (n : ℕ) → HasFrontSides names line s n → ⊥)
      → IsRefused most names (SpellsSides names line) (IsPattern names line) (fault_in line fault)
  no_text fault none = refused_reading most names (SpellsSides names line) (IsPattern names line) line fault
      (λ other p x. none other (sides_of p) (length line) (text_front names line (sides_of p) x.sides))

  module _ (s : Sides) (n : ℕ) (x : HasFrontSides names line s n) where
    pub front_judged : (fault : EreFault) → IsJudged most names s fault → IsRefused most names HaveFront IsFront fault
    front_judged fault = refused_sides most names HaveFront IsFront s fault (n, x)
        (λ p y. (
          (front_sides_one names line (sides_of p) s y.0 n (pattern_sides names line p y.0 y.1) x).0,
          (y.1.is_pattern.is_cut, y.1.is_pattern.some_head),
        ))

    pub front_pattern : (p : Pattern) → sides_of p ≡ s → IsCutOfSides (defined names) s p.cut
        → IsFrontPattern names line p n
    front_pattern p e c =
        let cut : IsCutOfSides (defined names) (sides_of p) p.cut
        = subst (λ (u : Sides). IsCutOfSides (defined names) u p.cut) (sym e) c in
        record {
          within = x.within;
          is_pattern = record {
            sides = subst (SpellsSides names (take n line)) (sym e) x.sides;
            is_cut = cut.0;
            some_head = cut.1;
          };
          follows = x.follows;
        }

    -- a text that goes on behind its front
    pub no_whole_text : n < length line
        → IsRefused most names (SpellsSides names line) (IsPattern names line) (Refused StrayOperator n)
    no_whole_text more = refused_text most names (SpellsSides names line) (IsPattern names line)
        (Refused StrayOperator n) (text_is_other StrayOperator n (λ e. cc, λ e. cc, λ e. cc))
        (λ p y. absurd (omega (
          arith,
          (front_sides_one names line s (sides_of p) n (length line) x (text_front names line (sides_of p) y.sides)).1,
        )))

    module _ (all : length line ≤ n) where
      whole_text : SpellsSides names line s
      whole_text = rw (take_all n line all) at x.sides

      pub text_judged : (fault : EreFault) → IsJudged most names s fault
          → IsRefused most names (SpellsSides names line) (IsPattern names line) fault
      text_judged fault = refused_sides most names (SpellsSides names line) (IsPattern names line) s fault whole_text
          (λ p y. (
            (front_sides_one names line (sides_of p) s (length line) n
                (text_front names line (sides_of p) y.sides) x).0,
            (y.is_cut, y.some_head),
          ))

      pub text_pattern : (p : Pattern) → (sides_of p ≡ s) × IsCutOfSides (defined names) s p.cut
          → IsPattern names line p
      text_pattern p f =
          let cut : IsCutOfSides (defined names) (sides_of p) p.cut
          = subst (λ (u : Sides). IsCutOfSides (defined names) u p.cut) (sym f.0) f.1 in
          record { sides = subst (SpellsSides names line) (sym f.0) whole_text; is_cut = cut.0; some_head = cut.1 }
