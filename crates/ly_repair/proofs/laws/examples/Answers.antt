use Rattle.std.proofs.Common.{◌≡◌, ℕ, zero, suc, List, [], ◌∷◌, refl, sym, subst, arith, false}
use Rattle.std.specs.Prelude.{All}
use Rattle.ly_repair.specs.Edits.{Edit, EndsInChange, cost, delete, insert, keep}
use Rattle.ly_repair.specs.Examples.{nested}
use Rattle.ly_repair.specs.Repairs.{AreRepairs, IsRepair, Leads, deletes, inserts, keeps, none}
use Rattle.ly_repair.specs.Runs.{Reads, Refuses, accepted, comes, comes_to, onward, read, refused}
use Rattle.ly_repair.proofs.ReadLemmas.{costs}
use Rattle.ly_repair.proofs.laws.examples.Goals as goal

end_refused : Refuses nested 0 (4 ∷ 2 ∷ 0 ∷ [])
end_refused = comes_to refl (refused refl)

closing_refused : Refuses nested 3 (4 ∷ 0 ∷ [])
closing_refused = comes_to refl (refused refl)

inserted : IsRepair nested (4 ∷ 2 ∷ 0 ∷ []) [] 1 (insert 3 ∷ [])
inserted = record {
  whole = record {
    last = 5 ∷ 3 ∷ 2 ∷ 0 ∷ [];
    left = [];
    leads = inserts (onward refl (read refl)) none;
    holds = comes refl (accepted refl);
  };
  in_form = record { inserts_first = tt; ends_in_change = tt };
  costs = refl;
}

pub returns-clause-inserted : goal.returns-clause-inserted
returns-clause-inserted c = (
  inserted,
  λ es w. costs nested es
      (4 ∷ 2 ∷ 0 ∷ []) [] w.last w.left w.leads w.holds end_refused,
)

-- behind "x" nothing is read
nothing_on_one : (t : ℕ) (next : List ℕ) → Reads nested t (1 ∷ 0 ∷ []) next → ⊥
nothing_on_one zero next (read e) = absurd cc
nothing_on_one zero next (onward e r) = absurd cc
nothing_on_one (suc t) next (read e) = absurd cc
nothing_on_one (suc t) next (onward e r) = absurd cc

nothing_read : (t : ℕ) (next : List ℕ) → Reads nested t (4 ∷ 0 ∷ []) next → ⊥
nothing_read t next (read e) = absurd cc
nothing_read t last (onward {next = next} e r) =
    let same : next ≡ 1 ∷ 0 ∷ [] = cc in
    nothing_on_one t last (subst (λ s. Reads nested t s last) same r)

no_change : (es : List Edit) → cost es ≡ 0 → EndsInChange es → ⊥
no_change [] e h = h
no_change (insert t ∷ es) e h = omega (arith, e)
no_change (delete ∷ es) e h = omega (arith, e)
no_change (keep ∷ []) e h = h
no_change (keep ∷ f ∷ es) e h = no_change (f ∷ es) e h

one_delete : (es : List Edit) (stack rest last left : List ℕ) → stack ≡ 4 ∷ 0 ∷ []
    → Leads nested es stack rest last left
    → EndsInChange es → cost es ≡ 1 → es ≡ delete ∷ []
one_delete [] stack rest last left s l h e = absurd h
one_delete (insert t ∷ es) stack rest last left s (inserts {next = next} r l) h e =
    absurd (nothing_read t next (subst (λ y. Reads nested t y next) s r))
one_delete (keep ∷ es) stack rest last left s (keeps {t = t} {next = next} r l) h e =
    absurd (nothing_read t next (subst (λ y. Reads nested t y next) s r))
one_delete (delete ∷ []) stack rest last left s l h e = refl
one_delete (delete ∷ f ∷ es) stack rest last left s l h e = absurd (no_change (f ∷ es) (omega (arith, e)) h)

is_repair : IsRepair nested (4 ∷ 0 ∷ []) (3 ∷ []) 1 (delete ∷ [])
is_repair = record {
  whole = record { last = 4 ∷ 0 ∷ []; left = []; leads = deletes none; holds = comes refl (accepted refl) };
  in_form = record { inserts_first = tt; ends_in_change = tt };
  costs = refl;
}

each : All (IsRepair nested (4 ∷ 0 ∷ []) (3 ∷ []) 1) ((delete ∷ []) ∷ [])
each zero d few = is_repair
each (suc k) d few = absurd (omega (arith, few))

deleted : AreRepairs 20 nested (4 ∷ 0 ∷ []) (3 ∷ []) 1 ((delete ∷ []) ∷ []) false
deleted = record {
  some = omega arith;
  least = λ es w. costs nested es (4 ∷ 0 ∷ []) (3 ∷ []) w.last w.left w.leads w.holds closing_refused;
  are = each;
  ordered = λ i j d low high. absurd (omega (arith, low, high));
  all = λ no es r. (
    0,
    omega arith,
    sym (one_delete es (4 ∷ 0 ∷ []) (3 ∷ []) r.whole.last r.whole.left refl r.whole.leads
        r.in_form.ends_in_change r.costs),
  );
  full = λ e. absurd cc;
  others = λ e. absurd cc;
  worse = λ e. absurd cc;
}

pub returns-clause-deleted : goal.returns-clause-deleted
returns-clause-deleted c = deleted
