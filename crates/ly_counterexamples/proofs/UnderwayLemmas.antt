-- How a search begins, goes on and ends.
use Rattle.std.proofs.Common.{◌≡◌, ◌∙◌, inl, inr, ℕ, suc, ◌+◌, ◌-◌, ◌<◌, ◌≤◌, List, [], ◌∷◌, ◌++◌, Some, None}
use Rattle.std.proofs.Common.{refl, sym, ap, subst, arith, length, map, slice_get, slice_index_or, Contains, option_map}
use Rattle.std.specs.Prelude.{reverse, ◌↔◌, Err, IsErrAnd, IsErrOf, Ok, Result}
use Rattle.std.proofs.lemmas.Bool.{cases_lt}
use Rattle.std.proofs.lemmas.List.{length-append, map-append, reverse-append, reverse-reverse}
use Rattle.std.proofs.lemmas.List.Elements.{Contains-get_or}
use Rattle.std.proofs.lemmas.Option.{get_or_from_slice_get, slice_get-get_or, slice_get_within}
use Rattle.indexmap.proofs.ReorderLemmas.{map-reverse}
use Rattle.ly_base.proofs.ListLemmas.{AllPairs-one, some_at}
use Rattle.ly_base.proofs.MemberLemmas.{Contains-one}
use Rattle.ly_join.specs.Grammar.{Symbol, symbol_of}
use Rattle.ly_join.specs.declared.symbol.Symbol as code
use Rattle.ly_join.specs.declared.symbol.Symbol.TheVariants.{Terminal}
use Rattle.ly_join.proofs.ListLemmas.{member_at, placed}
use Rattle.ly_lr0.specs.Automaton.{Lr0Automaton, prefix_of}
use Rattle.ly_lr0.proofs.SuccessorLemmas.{kept_symbol}
use Rattle.ly_counterexamples.specs.Demands.{LeadsTo, IsClimb, IsPop, IsStep, at_start}
use Rattle.ly_counterexamples.specs.declared.claim.Claim.{Claim}
use Rattle.ly_counterexamples.specs.declared.claim.Claim.TheVariants.{Settled}
use Rattle.ly_counterexamples.specs.declared.claim.Demand.{Demand}
use Rattle.ly_counterexamples.specs.declared.found.Link.{Link}
use Rattle.ly_counterexamples.specs.declared.halt.Halt.{Halt}
use Rattle.ly_counterexamples.specs.declared.halt.Halt.TheVariants.{OutOfMemory, TooMany}
use Rattle.ly_counterexamples.specs.declared.search.Search.{Search}
use Rattle.ly_counterexamples.specs.declared.search.Sought.{Sought}
use Rattle.ly_counterexamples.specs.declared.steps.Pop.{Pop}
use Rattle.ly_counterexamples.specs.Private.Kept.{IsKeptDemand}
use Rattle.ly_counterexamples.specs.Private.Lists.{IsGround}
use Rattle.ly_counterexamples.specs.Private.Met.{IsMet, IsProper, IsTrueIn}
use Rattle.ly_counterexamples.specs.Private.Searches.{AreFound, GoesOn, HasMore, IsClimbed, IsDone, IsPopped}
use Rattle.ly_counterexamples.specs.Private.Searches.{IsSearch}
use Rattle.ly_counterexamples.specs.Private.Searches.{IsSettledAt, IsUnderway, automaton_of}
use Rattle.ly_counterexamples.proofs.KeptLemmas.{step_kept}
use Rattle.ly_counterexamples.proofs.SearchLemmas.{stays, stays_among}
use Rattle.ly_counterexamples.proofs.StepLemmas.{settles, step_met, with_popped}

-- where no demand is allowed one is too many
pub one_follows : (M : Lr0Automaton) (t n : ℕ) (d : Demand) → n ≡ 0 → HasMore M t n d
one_follows M t n d none = record {
  demands = d ∷ [];
  count = omega (arith, none);
  apart = AllPairs-one (λ x y. x ≡ y → ⊥) d;
  follow = λ x among. subst (LeadsTo M t d) (Contains-one d x among) at_start;
}

first_alone : (w : Sought) (d : Demand) → IsGround w.ground.now → w.terminal.0 < (automaton_of w).grammar.terminals
    → IsKeptDemand (automaton_of w) d → 1 ≤ w.bound → AreFound w (d ∷ []) []
first_alone w d ground known kept some = record {
  ground = ground;
  terminal = known;
  from = d;
  first = refl;
  count = refl;
  linked = λ k l at. absurd (cc);
  kept = λ x among. subst (IsKeptDemand (automaton_of w)) (Contains-one d x among) kept;
  follow = λ x among. subst (LeadsTo (automaton_of w) w.terminal.0 d) (Contains-one d x among) at_start;
  few = some;
}

-- a search that has found its first demand
pub begins : (w : Sought) (d : Demand) → IsGround w.ground.now → w.terminal.0 < (automaton_of w).grammar.terminals
    → IsKeptDemand (automaton_of w) d → 1 ≤ w.bound → (s : Search) → s.found ≡ d ∷ [] → s.links.items ≡ []
    → s.climbed ≡ 0 → s.popped ≡ 0 → s.best ≡ None → IsUnderway w s
begins w d ground known kept some s found links climbed popped best = record {
  search = subst (λ ls. AreFound w s.found ls) (sym links)
      (subst (λ ds. AreFound w ds []) (sym found) (first_alone w d ground known kept some));
  popped = omega (arith, popped);
  climbed = omega (arith, climbed);
  done = λ _. record {
    climbs = λ k x y lt. absurd (omega (arith, lt, climbed));
    pops = λ k x X y lt. absurd (omega (arith, lt, popped));
    unsettled = λ k x lt. absurd (omega (arith, lt, climbed));
  };
  best = λ p is. absurd (let no : Some p ≡ None = sym is ∙ best in cc);
}

-- the state of a demand that was found has a length
pub has_length : (w : Sought) (found : List Demand) (links : List Link) (are : AreFound w found links) (k : ℕ)
    (d : Demand) → slice_get found k ≡ Some d → d.state.0 < length w.ground.now.lengths.items
has_length w found links are k d at =
    omega (arith, (are.kept d (member_at found k d at)).state, are.ground.lengths)

-- the best demand is there
pub best_within : (w : Sought) (s : Search) (p : ℕ) → IsUnderway w s → s.best ≡ Some p → p < length s.found
best_within w s p underway is =
    let settled = underway.best p is in slice_get_within s.found p settled.0 settled.1

-- what a demand climbs to was found where all that was listed is there
pub climbed_all : (w : Sought) (old new : Search) (place : ℕ) (d : Demand) (ds : List Demand)
    → slice_get old.found place ≡ Some d
    → ((e : Demand) → Contains ds e ↔ IsClimb (automaton_of w) w.terminal.0 d e)
    → ((k : ℕ) (e : Demand) → k < length ds → slice_get ds k ≡ Some e → Contains new.found e)
    → new.best ≡ old.best → (d.first ≡ Settled → d.second ≡ Settled → ⊥) → IsClimbed w old new place
climbed_all w old new place d ds is exact there best open_claim = λ x at.
    let same : d ≡ x = let f : Some d ≡ Some x = sym is ∙ at in cc in
    inr (
      best,
      subst (λ y. y.first ≡ Settled → y.second ≡ Settled → ⊥) same open_claim,
      subst (λ y. (e : Demand) → IsClimb (automaton_of w) w.terminal.0 y e → Contains new.found e) same (λ e climb.
          let p = placed ds e ((exact e).1 climb) in
          there p.0 e (slice_get_within ds p.0 e p.1) p.1),
    )

-- what a demand pops to was found where all that was listed is there
pub popped_all : (w : Sought) (old new : Search) (place : ℕ) (d : Demand) (ps : List Pop)
    → slice_get old.found place ≡ Some d
    → ((p : Pop) → Contains ps p ↔ IsPop (automaton_of w) (symbol_of p.symbol) d p.demand)
    → ((k : ℕ) (p : Pop) → k < length ps → slice_get ps k ≡ Some p → Contains new.found p.demand)
    → IsPopped w old new place
popped_all w old new place d ps is exact there = λ x X e at pop.
    let same : x ≡ d = let f : Some x ≡ Some d = sym at ∙ is in cc in
    let one : Pop = record { symbol = X; demand = e } in
    let p = placed ps one ((exact one).1
    (subst (λ y. IsPop (automaton_of w) (symbol_of X) y e) same pop)) in
    there p.0 one (slice_get_within ps p.0 one p.1) p.1

-- A search that goes on, from a demand that was there.
module _ (w : Sought) (old : Search) (was : IsUnderway w old) where
  settled_stays : (new : Search) → GoesOn w old new → (p : ℕ) → old.best ≡ Some p → IsSettledAt new.found p
  settled_stays new on p is =
      let s = was.best p is in
      (s.0, stays w old.found old.links.items was.search new.found new.links.items on p s.0 s.1, s.2, s.3)

  longer : (new : Search) → GoesOn w old new → length old.found ≤ length new.found
  longer new on = omega (arith, ap length on.found, length-append old.found on.more)

  -- what was at a place is there still
  before : (new : Search) → GoesOn w old new → (k : ℕ) (d : Demand) → k < length old.found
      → slice_get new.found k ≡ Some d → slice_get old.found k ≡ Some d
  before new on k d lt at =
      let there = some_at old.found k lt in
      there.1
      ∙ (sym (stays w old.found old.links.items was.search new.found new.links.items on k there.0 there.1) ∙ at)

  among : (new : Search) → GoesOn w old new → (d : Demand) → Contains old.found d → Contains new.found d
  among new on d is = stays_among w old.found old.links.items was.search new.found new.links.items on d is

  pub climbs_on : (new : Search) → GoesOn w old new → IsClimbed w old new old.climbed
      → old.climbed < length old.found → new.popped ≡ old.popped
      → IsUnderway w (record new { climbed = old.climbed + 1 })
  climbs_on new on climbed less popped =
      let d = some_at old.found old.climbed less in
      let long = longer new on in
      record {
        search = on.are;
        popped = omega (arith, popped, was.popped);
        climbed = omega (arith, long, less);
        done = λ none. elim (climbed d.0 d.1) [
          | inl best ↦ absurd (let no : Some old.climbed ≡ None = sym best.0 ∙ none in cc)
          | inr all ↦
              let done = was.done (sym all.0 ∙ none) in
              record {
                climbs = λ k x e lt at climb. elim (cases_lt k old.climbed) [
                  | inl earlier ↦ among new on e
                      (done.climbs k x e earlier (before new on k x (omega (arith, earlier, less)) at) climb)
                  | inr past ↦ all.2 e (subst (λ y. IsClimb (automaton_of w) w.terminal.0 y e)
                      (last new on d.0 d.1 less k x (omega (arith, lt, past)) at) climb)
                ];
                pops = λ k x X e lt at pop. among new on e (done.pops k x X e (omega (arith, lt, popped))
                    (before new on k x (omega (arith, lt, popped, was.popped, less)) at) pop);
                unsettled = λ k x lt at. elim (cases_lt k old.climbed) [
                  | inl earlier ↦ done.unsettled k x earlier (before new on k x (omega (arith, earlier, less)) at)
                  | inr past ↦ subst (λ y. y.first ≡ Settled → y.second ≡ Settled → ⊥)
                      (sym (last new on d.0 d.1 less k x (omega (arith, lt, past)) at)) all.1
                ];
              }
        ];
        best = λ p is. elim (climbed d.0 d.1) [
          | inl best ↦
              let same : old.climbed ≡ p = let f : Some old.climbed ≡ Some p = sym best.0 ∙ is in cc in
              subst (IsSettledAt new.found) same (
                d.0,
                stays w old.found old.links.items was.search new.found new.links.items on old.climbed d.0 d.1,
                best.1,
                best.2,
              )
          | inr all ↦ settled_stays new on p (sym all.0 ∙ is)
        ];
      }
    where
      last : (new : Search) → GoesOn w old new → (d : Demand) → slice_get old.found old.climbed ≡ Some d
          → old.climbed < length old.found → (k : ℕ) (x : Demand) → k ≡ old.climbed → slice_get new.found k ≡ Some x
          → x ≡ d
      last new on d is less k x here at =
          let f : Some x ≡ Some d
          = sym (before new on old.climbed x less (subst (λ i. slice_get new.found i ≡ Some x) here at)) ∙ is in cc

  -- or lets a demand be, where there is a better one
  pub climbs_none : (old.best ≡ None → ⊥) → old.climbed < length old.found
      → IsUnderway w (record old { climbed = old.climbed + 1 })
  climbs_none some less = record {
    search = was.search;
    popped = omega (arith, was.popped);
    climbed = omega (arith, less);
    done = λ none. absurd (some none);
    best = was.best;
  }

  pub pops_on : (new : Search) → GoesOn w old new → IsPopped w old new old.popped → new.climbed ≡ old.climbed
      → new.best ≡ old.best → length old.found ≤ old.climbed → old.popped < length old.found
      → IsUnderway w (record new { popped = old.popped + 1 })
  pops_on new on popped climbed best past less =
      let long = longer new on in
      record {
        search = on.are;
        popped = omega (arith, climbed, past, less);
        climbed = omega (arith, climbed, was.climbed, long);
        done = λ none.
            let done = was.done (sym best ∙ none) in
            record {
              climbs = λ k x e lt at climb. among new on e (done.climbs k x e (omega (arith, lt, climbed))
                  (before new on k x (omega (arith, lt, climbed, was.climbed)) at) climb);
              pops = λ k x X e lt at pop. elim (cases_lt k old.popped) [
                | inl earlier ↦ among new on e
                    (done.pops k x X e earlier (before new on k x (omega (arith, earlier, less)) at) pop)
                | inr later ↦
                    let here : k ≡ old.popped = omega (arith, lt, later) in
                    let there = before new on k x (omega (arith, here, less)) at in
                    popped x X e (subst (λ i. slice_get old.found i ≡ Some x) here there) pop
              ];
              unsettled = λ k x lt at. done.unsettled k x (omega (arith, lt, climbed))
                  (before new on k x (omega (arith, lt, climbed, was.climbed)) at);
            };
        best = λ p is. settled_stays new on p (sym best ∙ is);
      }

  pub pops_none : (old.best ≡ None → ⊥) → length old.found ≤ old.climbed → old.popped < length old.found
      → IsUnderway w (record old { popped = old.popped + 1 })
  pops_none some past less = record {
    search = was.search;
    popped = omega (arith, past, less);
    climbed = was.climbed;
    done = λ none. absurd (some none);
    best = was.best;
  }

-- a symbol more, popped or not
abbrev pub told : List code.Symbol → List Symbol
told g = reverse (map symbol_of g)

pub told_more : (g : List code.Symbol) (X : code.Symbol) → told (g ++ X ∷ []) ≡ symbol_of X ∷ told g
told_more g X = ap reverse (map-append symbol_of g (X ∷ [])) ∙ reverse-append (map symbol_of g) (symbol_of X ∷ [])

pub told_turned : (g : List code.Symbol) → told (reverse g) ≡ map symbol_of g
told_turned g = ap reverse (map-reverse symbol_of g) ∙ reverse-reverse (map symbol_of g)

-- The string that meets a demand meets the one from which it was found, with what was popped.
module _ (w : Sought) (found : List Demand) (links : List Link) (are : AreFound w found links) (p : ℕ) (l : Link)
    (some : 0 < p) (at : slice_get links (p - 1) ≡ Some l) where
  pub from_before : l.from < p
  from_before = omega (arith, (are.linked (p - 1) l at).0, some)

  pub met_before : (e : Demand) (g : List Symbol) → slice_get found p ≡ Some e
      → IsMet (automaton_of w) w.terminal.0 g e → (d : Demand) × (slice_get found l.from ≡ Some d)
      × IsMet (automaton_of w) w.terminal.0 (with_popped (option_map symbol_of l.symbol) g) d
  met_before e g is met =
      let within = slice_get_within found p e is in
      let d = some_at found l.from (omega (arith, from_before, within)) in
      let next : suc (p - 1) ≡ p = omega (arith, some) in
      let step = (are.linked (p - 1) l at).1 d.0 e d.1 (subst (λ k. slice_get found k ≡ Some e) (sym next) is) in (
        d.0,
        d.1,
        step_met (automaton_of w) are.ground.lawful w.terminal.0 (option_map symbol_of l.symbol) d.0 e g
            step met,
      )

-- a demand that claims nothing more is met by the prefix of its state
pub prefix_meets : (w : Sought) (s : Search) (p : ℕ) → IsUnderway w s → s.best ≡ Some p → (d : Demand)
    → slice_get s.found p ≡ Some d → IsMet (automaton_of w) w.terminal.0 (prefix_of (automaton_of w) d.state.0) d
prefix_meets w s p underway is d at =
    let b = underway.best p is in
    let same : b.0 ≡ d = let f : Some b.0 ≡ Some d = sym b.1 ∙ at in cc in
    let M = automaton_of w in
    let kept = underway.search.kept d (member_at s.found p d at) in
    record {
      leads = underway.search.ground.lawful.numbered.leads d.state.0 kept.state;
      first = claims_nothing M w.terminal.0 (prefix_of M d.state.0) d.first (ap (λ x. x.first) (sym same) ∙ b.2);
      second = claims_nothing M w.terminal.0 (prefix_of M d.state.0) d.second (ap (λ x. x.second) (sym same) ∙ b.3);
    }
  where
    claims_nothing : (M : Lr0Automaton) (t : ℕ) (g : List Symbol) (c : Claim) → c ≡ Settled
        → (n : ℕ) × IsTrueIn M.grammar t n g c
    claims_nothing M t g c nothing = subst (λ x. (n : ℕ) × IsTrueIn M.grammar t n g x) (sym nothing) (0, tt)

-- where all was gone through and nothing was found that claims nothing more, no string meets a demand
pub none_meets : (w : Sought) (found : List Demand) (links : List Link) (climbed popped : ℕ) → AreFound w found links
    → IsDone w found climbed popped → length found ≤ popped → popped ≤ climbed → (d : Demand)
    → slice_get found 0 ≡ Some d → IsProper d.first → IsProper d.second → (g : List Symbol)
    → IsMet (automaton_of w) w.terminal.0 g d → ⊥
none_meets w found links climbed popped are done all le d is first second g met =
    let M = automaton_of w in
    let t = w.terminal.0 in
    let climbs : (x e : Demand) → Contains found x → IsClimb M t x e → Contains found e
    = λ x e among climb.
    let p = placed found x among in
    done.climbs p.0 x e (omega (arith, slice_get_within found p.0 x p.1, all, le)) p.1 climb in
    let pops : (X : Symbol) (x e : Demand) → Contains found x → IsPop M X x e → Contains found e
    = λ X x e among pop.
    let p = placed found x among in
    let k = kept_symbol X in
    done.pops p.0 x k.0 e (omega (arith, slice_get_within found p.0 x p.1, all)) p.1
    (subst (λ Y. IsPop M Y x e) (sym k.1) pop) in
    let s = settles M are.ground.lawful t (Contains found) climbs pops d g (member_at found 0 d is) first second met in
    let p = placed found s.demand s.among in
    done.unsettled p.0 s.demand (omega (arith, slice_get_within found p.0 s.demand p.1, all, le)) p.1 s.first s.second

-- what holds of each up to a place holds of one more
pub each_more : {X : Type 0} (xs : List X) (P : X → Type 0) (n : ℕ) (d : X) → n < length xs
    → ((k : ℕ) (x : X) → k < n → slice_get xs k ≡ Some x → P x) → P (slice_index_or xs n d) → (k : ℕ) (x : X)
    → k < n + 1 → slice_get xs k ≡ Some x → P x
each_more xs P n d less each here k x lt at = elim (cases_lt k n) [
  | inl earlier ↦ each k x earlier at
  | inr past ↦
      let last : k ≡ n = omega (arith, lt, past) in
      subst P (get_or_from_slice_get xs n x d (subst (λ i. slice_get xs i ≡ Some x) last at)) here
]

-- what is read of a list stands there
pub read_at : {X : Type 0} (xs : List X) (n : ℕ) (x d : X) → n < length xs → x ≡ slice_index_or xs n d
    → slice_get xs n ≡ Some x
read_at xs n x d less e = slice_get-get_or xs n d less ∙ ap Some (sym e)

abbrev pub no_demand : Demand
no_demand = record { state = record { 0 = 0 }; first = Settled; second = Settled }

abbrev pub no_pop : Pop
no_pop = record { symbol = Terminal (record { 0 = 0 }); demand = no_demand }

-- The next demand of those that are listed is found by a step from one that was found before.
module _ (w : Sought) (old mid : Search) (was : IsSearch w old) (on : GoesOn w old mid) (place : ℕ) (d : Demand)
    (is : slice_get old.found place ≡ Some d) where
  stands : slice_get mid.found place ≡ Some d
  stands = stays w old.found old.links.items was mid.found mid.links.items on place d is

  pub climb_next : (ds : List Demand)
      → ((e : Demand) → Contains ds e ↔ IsClimb (automaton_of w) w.terminal.0 d e) → (k : ℕ) → k < length ds
      → (x : Demand) × (slice_get mid.found place ≡ Some x)
      × IsStep (automaton_of w) w.terminal.0 None x (slice_index_or ds k no_demand)
  climb_next ds exact k less =
      (d, stands, (exact (slice_index_or ds k no_demand)).0 (Contains-get_or ds k no_demand less))

  pub climb_next_kept : (ds : List Demand)
      → ((e : Demand) → Contains ds e ↔ IsClimb (automaton_of w) w.terminal.0 d e) → (k : ℕ) → k < length ds
      → IsKeptDemand (automaton_of w) (slice_index_or ds k no_demand)
  climb_next_kept ds exact k less =
      step_kept (automaton_of w) w.terminal.0 None d (slice_index_or ds k no_demand)
      ((exact (slice_index_or ds k no_demand)).0 (Contains-get_or ds k no_demand less))
      (was.kept d (member_at old.found place d is))

  pub pop_next : (ps : List Pop)
      → ((p : Pop) → Contains ps p ↔ IsPop (automaton_of w) (symbol_of p.symbol) d p.demand) → (k : ℕ)
      → k < length ps → (x : Demand) × (slice_get mid.found place ≡ Some x)
      × IsStep (automaton_of w) w.terminal.0 (Some (symbol_of (slice_index_or ps k no_pop).symbol)) x
      (slice_index_or ps k no_pop).demand
  pop_next ps exact k less =
      (d, stands, (exact (slice_index_or ps k no_pop)).0 (Contains-get_or ps k no_pop less))

  pub pop_next_kept : (ps : List Pop)
      → ((p : Pop) → Contains ps p ↔ IsPop (automaton_of w) (symbol_of p.symbol) d p.demand) → (k : ℕ)
      → k < length ps → IsKeptDemand (automaton_of w) (slice_index_or ps k no_pop).demand
  pop_next_kept ps exact k less =
      let p = slice_index_or ps k no_pop in
      step_kept (automaton_of w) w.terminal.0 (Some (symbol_of p.symbol)) d p.demand
      ((exact p).0 (Contains-get_or ps k no_pop less)) (was.kept d (member_at old.found place d is))

-- the state of a demand that was found is there
pub state_within : (w : Sought) (found : List Demand) (links : List Link) → AreFound w found links → (k : ℕ)
    (d : Demand) → slice_get found k ≡ Some d → d.state.0 < length (automaton_of w).states
state_within w found links are k d at = (are.kept d (member_at found k d at)).state

-- a growth that was refused isn't one demand too many
pub not_too_many : {T : Type 0} (r : Result T Halt) → IsErrOf r TooMany → IsErrAnd r (λ x. x ≡ OutOfMemory) → ⊥
not_too_many (Ok x) is on = absurd on
not_too_many (Err x) is on =
    let same : x ≡ TooMany = cc in
    let other : TooMany ≡ OutOfMemory = sym same ∙ on in cc

-- a fault that is handed on is the same
pub still_err : {T U E : Type 0} (r : Result T E) (e f : E) → IsErrOf r e → IsErrAnd r (λ x. x ≡ f)
    → IsErrOf {T = U} {E = E} (Err f) e
still_err (Ok x) e f is on = absurd on
still_err {U = U} {E = E} (Err x) e f is on =
    let same : x ≡ e = cc in
    subst (λ y. IsErrOf {T = U} {E = E} (Err f) y) (sym on ∙ same) refl
