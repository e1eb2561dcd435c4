-- A search goes on by one demand.
use Rattle.std.proofs.Common.{◌≡◌, ◌≢◌, ◌∙◌, inl, inr, ℕ, suc, ◌<◌, ◌≤◌, List, [], ◌∷◌, ◌++◌, Some}
use Rattle.std.proofs.Common.{refl, sym, ap, subst, arith, length, slice_get, Contains, option_map, append-nil}
use Rattle.std.specs.Prelude.{AllPairs}
use Rattle.std.proofs.lemmas.Bool.{cases_lt}
use Rattle.std.proofs.lemmas.List.{append_assoc, length-append}
use Rattle.std.proofs.lemmas.List.Elements.{Contains-append_left, Contains-push_cases}
use Rattle.std.proofs.lemmas.Option.{slice_get_within}
use Rattle.ly_base.proofs.ListLemmas.{slice_get-append, slice_get-behind}
use Rattle.ly_base.proofs.BeforeLemmas.{slice_get-before}
use Rattle.ly_join.specs.Grammar.{symbol_of}
use Rattle.ly_join.proofs.ListLemmas.{member_at}
use Rattle.ly_lr0.specs.Automaton.{Lr0Automaton}
use Rattle.ly_counterexamples.specs.Demands.{LeadsTo, IsStep, by_step}
use Rattle.ly_counterexamples.specs.declared.claim.Demand.{Demand}
use Rattle.ly_counterexamples.specs.declared.found.Link.{Link}
use Rattle.ly_counterexamples.specs.declared.search.Sought.{Sought}
use Rattle.ly_counterexamples.specs.Private.Kept.{IsKeptDemand}
use Rattle.ly_counterexamples.specs.Private.Searches.{AreFound, AreMoreFound, HasMore, IsLinked, automaton_of}
use Rattle.ly_counterexamples.proofs.FoundLemmas.{pushed_apart}

-- what is added stands at the end
at_end : {X : Type 0} (xs : List X) (y : X) (k : ℕ) (x : X) → k ≡ length xs → slice_get (xs ++ y ∷ []) k ≡ Some x
    → y ≡ x
at_end xs y k x end at =
    let e : Some y ≡ Some x = sym (slice_get-behind xs [] (length xs) y refl)
    ∙ (ap (slice_get (xs ++ y ∷ [])) (sym end) ∙ at) in cc

-- A demand that wasn't found, with the link by which it is found now.
module _ (M : Lr0Automaton) (t : ℕ) (found : List Demand) (links : List Link) (e : Demand) (l : Link)
    (count : length found ≡ suc (length links)) (d : Demand) (from_is : slice_get found l.from ≡ Some d)
    (step : IsStep M t (option_map symbol_of l.symbol) d e) where
  pub linked_more : ((k : ℕ) (m : Link) → slice_get links k ≡ Some m → IsLinked M t found k m)
      → (k : ℕ) (m : Link) → slice_get (links ++ l ∷ []) k ≡ Some m → IsLinked M t (found ++ e ∷ []) k m
  linked_more linked k m at = elim (cases_lt k (length links)) [
    | inl before ↦
        let was = linked k m (slice_get-before links (l ∷ []) k m before at) in (
          was.0,
          λ x y here there. was.1 x y
              (slice_get-before found (e ∷ []) m.from x (omega (arith, before, was.0, count)) here)
              (slice_get-before found (e ∷ []) (suc k) y (omega (arith, before, count)) there),
        )
    | inr past ↦
        let within = slice_get_within (links ++ l ∷ []) k m at in
        let end : k ≡ length links = omega (arith, past, within, length-append links (l ∷ [])) in
        let same : l ≡ m = at_end links l k m end at in
        let below = slice_get_within found l.from d from_is in
        subst (IsLinked M t (found ++ e ∷ []) k) same (
          omega (arith, below, count, end),
          λ x y here there.
              let first : d ≡ x
              = let f : Some d ≡ Some x = sym from_is ∙ slice_get-before found (e ∷ []) l.from x below here in cc in
              let last : e ≡ y = at_end found e (suc k) y (omega (arith, end, count)) there in
              subst (λ z. IsStep M t (option_map symbol_of l.symbol) z y) first
              (subst (λ z. IsStep M t (option_map symbol_of l.symbol) d z) last step),
        )
  ]

  pub follow_more : (from : Demand) → ((x : Demand) → Contains found x → LeadsTo M t from x)
      → (x : Demand) → Contains (found ++ e ∷ []) x → LeadsTo M t from x
  follow_more from follow x is = elim (Contains-push_cases found e x is) [
    | inl before ↦ follow x before
    | inr last ↦ subst (LeadsTo M t from) last
        (by_step (option_map symbol_of l.symbol) (follow d (member_at found l.from d from_is)) step)
  ]

-- Demands that were found, over what is sought.
module _ (w : Sought) (found : List Demand) (links : List Link) (are : AreFound w found links) where
  -- with one demand more
  pub found_more : (e : Demand) (l : Link) (d : Demand) → slice_get found l.from ≡ Some d
      → IsStep (automaton_of w) w.terminal.0 (option_map symbol_of l.symbol) d e → IsKeptDemand (automaton_of w) e
      → length found < w.bound → (found' : List Demand) (links' : List Link) → found' ≡ found ++ e ∷ []
      → links' ≡ links ++ l ∷ [] → AreMoreFound w found found' links'
  found_more e l d from_is step kept less found' links' grown linked =
      subst (λ ls. AreMoreFound w found found' ls) (sym linked)
      (subst (λ ds. AreMoreFound w found ds (links ++ l ∷ [])) (sym grown) (record {
        are = record {
          ground = are.ground;
          terminal = are.terminal;
          from = are.from;
          first = slice_get-append found (e ∷ []) 0 are.from are.first;
          count = let c = are.count in
              omega (arith, c, length-append found (e ∷ []), length-append links (l ∷ []));
          linked = linked_more (automaton_of w) w.terminal.0 found links e l are.count d from_is step are.linked;
          kept = λ x among. elim (Contains-push_cases found e x among) [
            | inl before ↦ are.kept x before
            | inr last ↦ subst (IsKeptDemand (automaton_of w)) last kept
          ];
          follow = follow_more (automaton_of w) w.terminal.0 found links e l are.count d from_is step are.from
              are.follow;
          few = omega (arith, less, length-append found (e ∷ []));
        };
        more = e ∷ [];
        found = refl;
      }))

  -- as they are
  pub found_same : AreMoreFound w found found links
  found_same = record { are = are; more = []; found = sym (append-nil found) }

  -- a demand that wasn't found, where there are as many as are allowed
  pub more_than_allowed : (e d : Demand) (l : Link) → AllPairs (λ x y. x ≢ y) found → (Contains found e → ⊥)
      → w.bound ≤ length found → slice_get found l.from ≡ Some d
      → IsStep (automaton_of w) w.terminal.0 (option_map symbol_of l.symbol) d e
      → (first : Demand) → slice_get found 0 ≡ Some first → HasMore (automaton_of w) w.terminal.0 w.bound first
  more_than_allowed e d l apart absent full from_is step first first_is = record {
    demands = found ++ e ∷ [];
    count = omega (arith, full, length-append found (e ∷ []));
    apart = pushed_apart found (found ++ e ∷ []) e absent refl apart;
    follow =
        let same : are.from ≡ first = let f : Some are.from ≡ Some first = sym are.first ∙ first_is in cc in
        subst (λ x. (y : Demand) → Contains (found ++ e ∷ []) y → LeadsTo (automaton_of w) w.terminal.0 x y) same
        (follow_more (automaton_of w) w.terminal.0 found links e l are.count d from_is step are.from are.follow);
  }

  -- what was at a place stays there
  pub stays : (new : List Demand) (links' : List Link) → AreMoreFound w found new links' → (k : ℕ) (d : Demand)
      → slice_get found k ≡ Some d → slice_get new k ≡ Some d
  stays new links' on k d at = subst (λ ds. slice_get ds k ≡ Some d) (sym on.found)
      (slice_get-append found on.more k d at)

  pub stays_among : (new : List Demand) (links' : List Link) → AreMoreFound w found new links' → (d : Demand)
      → Contains found d → Contains new d
  stays_among new links' on d among = subst (λ ds. Contains ds d) (sym on.found)
      (Contains-append_left found on.more d among)

  -- demands that were added twice
  pub found_on : (mid new : List Demand) (links' links'' : List Link) → AreMoreFound w found mid links'
      → AreMoreFound w mid new links'' → AreMoreFound w found new links''
  found_on mid new links' links'' one two = record {
    are = two.are;
    more = one.more ++ two.more;
    found = two.found ∙ (ap (λ ds. ds ++ two.more) one.found ∙ append_assoc found one.more two.more);
  }

  -- the first stays so
  pub same_first : (new : List Demand) (links' : List Link) → AreMoreFound w found new links'
      → slice_get new 0 ≡ slice_get found 0
  same_first new links' on = stays new links' on 0 are.from are.first ∙ sym are.first

  -- what is past the bound in the end is so from the start
  pub allowed_before : (new : List Demand) (links' : List Link) → AreMoreFound w found new links'
      → ((d : Demand) → slice_get new 0 ≡ Some d → HasMore (automaton_of w) w.terminal.0 w.bound d)
      → (d : Demand) → slice_get found 0 ≡ Some d → HasMore (automaton_of w) w.terminal.0 w.bound d
  allowed_before new links' on many d at = many d (same_first new links' on ∙ at)
