-- What the actions of a machine name is there.
use Rattle.std.proofs.Common.{◌≡◌, ℕ, None, Option, Some, refl, slice_get, subst}
use Rattle.ly_pack.specs.Machine.{IsLegal, IsMachine, IsRuleNumber, Machine, TableAction}
use Rattle.ly_pack.specs.Machine.{action_of, entry_at, or_default, reduce}

-- what is reduced by is a rule
pub legal_reduction : (m : Machine) (s t p : ℕ) → IsMachine m → action_of m s t ≡ reduce p → IsRuleNumber m p
legal_reduction m s t p ok e = by_entry (entry_at m s t) refl e
  where
    by_default : (d : Option (Option ℕ)) → slice_get m.defaults s ≡ d → or_default None d ≡ reduce p → IsRuleNumber m p
    by_default None i e = absurd (cc)
    by_default (Some None) i e = absurd (cc)
    by_default (Some (Some q)) i e = let same : q ≡ p = cc in subst (IsRuleNumber m) same (ok.defaults s q i)

    by_entry : (o : Option TableAction) → entry_at m s t ≡ o → or_default o (slice_get m.defaults s) ≡ reduce p
        → IsRuleNumber m p
    by_entry None i e = by_default (slice_get m.defaults s) refl e
    by_entry (Some a) i e = subst (IsLegal m t) e (ok.actions s t a i)
