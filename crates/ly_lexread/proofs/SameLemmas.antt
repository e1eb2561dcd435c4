-- Rules that say the same have the same lexings.
use Rattle.std.proofs.Common.{◌≡◌, ℕ, zero, suc, List, [], ◌∷◌, Some, Bool, Option, sym, subst}
use Rattle.std.specs.Prelude.{Contains, IsTrue, slice_get}
use Rattle.ly_ere.specs.Expression.{Expression}
use Rattle.ly_ere.specs.Winner.{Candidate, FitsPattern, Winner, active_of}
use Rattle.ly_ere.specs.declared.pattern.Rule.{Rule}
use Rattle.ly_lexread.specs.LexText.{AreSameRules}
use Rattle.ly_base.specs.Lexed.{Place, place_after}
use Rattle.ly_base.specs.declared.lexeme.End.{End}
use Rattle.ly_base.specs.declared.lexeme.End.TheVariants.{Clean, Stuck, BadCut}
use Rattle.ly_base.specs.declared.lexeme.Lexeme.{Lexeme}
use Rattle.ly_lexread.specs.Lexing.{Lexing, EndsAt}

pub same_back : (rs ss : List Rule) → AreSameRules rs ss → AreSameRules ss rs
same_back [] [] h = tt
same_back [] (s ∷ ss) h = absurd h
same_back (r ∷ rs) [] h = absurd h
same_back (r ∷ rs) (s ∷ ss) h = (sym h.0, sym h.1, same_back rs ss h.2)

-- the rule of a number, and the one that says the same
pub same_rule : (rs ss : List Rule) (i : ℕ) (r : Rule) → AreSameRules rs ss → slice_get rs i ≡ Some r
    → (s : Rule) × (slice_get ss i ≡ Some s) × (r.pattern ≡ s.pattern) × (active_of r ≡ active_of s)
same_rule [] ss i r h e = cc e
same_rule (q ∷ rs) [] i r h e = absurd h
same_rule (q ∷ rs) (s ∷ ss) zero r h e = let same : q ≡ r = cc e
    in (s, cc, subst (λ x. x.pattern ≡ s.pattern) same h.0, subst (λ x. active_of x ≡ active_of s) same h.1)
same_rule (q ∷ rs) (s ∷ ss) (suc i) r h e = same_rule rs ss i r h.2 e

module _ (names : List Expression) (rs ss : List Rule) (same : AreSameRules rs ss) (condition : ℕ) (line : Bool)
    (rest : List ℕ) where
  candidate_under : (i n m : ℕ) → Candidate names rs condition line rest i n m
      → Candidate names ss condition line rest i n m
  candidate_under i n m c = let s = same_rule rs ss i c.rule same c.is_active.is_rule in record {
    rule = s.0;
    is_active = record {
      is_rule = s.1;
      in_condition = subst (λ (items : List ℕ). Contains items condition) s.3 c.is_active.in_condition;
      at_line = subst (λ p. IsTrue p.line_start → IsTrue line) s.2 c.is_active.at_line;
    };
    fits = subst (λ p. FitsPattern names p rest n m) s.2 c.fits;
  }

module _ (names : List Expression) (rs ss : List Rule) (same : AreSameRules rs ss) where
  winner_under : (condition : ℕ) (line : Bool) (rest : List ℕ) (i n m : ℕ) → Winner names rs condition line rest i n m
      → Winner names ss condition line rest i n m
  winner_under condition line rest i n m w = let back = same_back rs ss same in record {
    is_candidate = candidate_under names rs ss same condition line rest i n m w.is_candidate;
    longest = λ j k l c. w.longest j k l (candidate_under names ss rs back condition line rest j k l c);
    first = λ j l c. w.first j l (candidate_under names ss rs back condition line rest j n l c);
  }

  ends_under : (p : Place) (e : End) → EndsAt names rs p e → EndsAt names ss p e
  ends_under p Clean h = h
  ends_under p (BadCut b) h = h
  ends_under p (Stuck b) h
      = (
        h.0,
        h.1,
        λ i n m c. h.2 i n m (candidate_under names ss rs (same_back rs ss same) p.condition p.line p.rest i n m c),
      )

  -- where the actions set the same conditions too
  pub lexing_under : (next then : ℕ → Option ℕ) → ((i : ℕ) → next i ≡ then i) → (p : Place) (ts : List Lexeme) (e : End)
      → Lexing names rs next p ts e → Lexing names ss then p ts e
  lexing_under next then sets p [] e h = ends_under p e h
  lexing_under next then sets p (t ∷ ts) e h = (
    winner_under p.condition p.line p.rest t.rule.0 t.matched t.taken h.0,
    lexing_under next then sets (place_after then p t) ts e (rw (sets t.rule.0) at h.1),
  )
