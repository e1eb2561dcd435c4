-- Searches under way.
use Rattle.std.specs.Prelude.{◌≡◌, ◌≢◌, ◌⊎◌, ◌<◌, ◌≤◌, ◌+◌, ◌-◌, ◌++◌, ℕ, suc, List, Some, None, length, slice_get}
use Rattle.std.specs.Prelude.{AllPairs, Contains, map, MatchOption, Option, option_map, reverse}
use Rattle.std.specs.Global.{Vec}
use Rattle.ly_join.specs.Grammar.{Symbol, symbol_of}
use Rattle.ly_join.specs.declared.symbol.Symbol as code
use Rattle.ly_lr0.specs.Automaton.{Lr0Automaton}
use Rattle.ly_counterexamples.specs.Demands.{LeadsTo, IsClimb, IsPop, IsStep}
use Rattle.ly_counterexamples.specs.declared.claim.Claim.TheVariants.{Settled}
use Rattle.ly_counterexamples.specs.declared.claim.Demand.{Demand}
use Rattle.ly_counterexamples.specs.declared.found.Link.{Link}
use Rattle.ly_counterexamples.specs.declared.search.Search.{Search}
use Rattle.ly_counterexamples.specs.declared.search.Sought.{Sought}
use Rattle.ly_counterexamples.specs.Private.Kept.{IsKeptDemand}
use Rattle.ly_counterexamples.specs.Private.Lists.{IsGround}
use Rattle.ly_counterexamples.specs.Private.Met.{IsMet}

abbrev pub automaton_of : Sought → Lr0Automaton
automaton_of w = w.ground.now.lr0.now

-- the demand at a place was found by a step from that of its link, which stands before it
abbrev pub IsLinked : Lr0Automaton → ℕ → List Demand → ℕ → Link → Type 0
IsLinked M t found k l = (l.from ≤ k) × ((d e : Demand) → slice_get found l.from ≡ Some d
    → slice_get found (suc k) ≡ Some e → IsStep M t (option_map symbol_of l.symbol) d e)

-- Demands that follow from the first, each by its link, no more than the bound.
pub record AreFound (w : Sought) (found : List Demand) (links : List Link) : Type 0 where
  pub ground : IsGround w.ground.now
  pub terminal : w.terminal.0 < (automaton_of w).grammar.terminals
  pub from : Demand
  pub first : slice_get found 0 ≡ Some from
  pub count : length found ≡ suc (length links)
  pub linked : (k : ℕ) (l : Link) → slice_get links k ≡ Some l → IsLinked (automaton_of w) w.terminal.0 found k l
  pub kept : (d : Demand) → Contains found d → IsKeptDemand (automaton_of w) d
  pub follow : (d : Demand) → Contains found d → LeadsTo (automaton_of w) w.terminal.0 from d
  pub few : length found ≤ w.bound

abbrev pub IsSearch : Sought → Search → Type 0
IsSearch w s = AreFound w s.found s.links.items

-- What the first demands lead to was found, and none of them claims nothing more.
pub record IsDone (w : Sought) (found : List Demand) (climbed popped : ℕ) : Type 0 where
  pub climbs : (k : ℕ) (d e : Demand) → k < climbed → slice_get found k ≡ Some d
      → IsClimb (automaton_of w) w.terminal.0 d e → Contains found e
  pub pops : (k : ℕ) (d : Demand) (X : code.Symbol) (e : Demand) → k < popped → slice_get found k ≡ Some d
      → IsPop (automaton_of w) (symbol_of X) d e → Contains found e
  pub unsettled : (k : ℕ) (d : Demand) → k < climbed → slice_get found k ≡ Some d → d.first ≡ Settled
      → d.second ≡ Settled → ⊥

-- the demand at a place claims nothing more
abbrev pub IsSettledAt : List Demand → ℕ → Type 0
IsSettledAt found p = (d : Demand) × (slice_get found p ≡ Some d) × (d.first ≡ Settled) × (d.second ≡ Settled)

-- A search under way: without a best demand, all that was gone through is done.
pub record IsUnderway (w : Sought) (s : Search) : Type 0 where
  pub search : IsSearch w s
  pub popped : s.popped ≤ s.climbed
  pub climbed : s.climbed ≤ length s.found
  pub done : s.best ≡ None → IsDone w s.found s.climbed s.popped
  pub best : (p : ℕ) → s.best ≡ Some p → IsSettledAt s.found p

-- demands were added to those that were found
pub record AreMoreFound (w : Sought) (old new : List Demand) (links : List Link) : Type 0 where
  pub are : AreFound w new links
  pub more : List Demand
  pub found : new ≡ old ++ more

abbrev pub GoesOn : Sought → Search → Search → Type 0
GoesOn w old new = AreMoreFound w old.found new.found new.links.items

-- the demand at a place is the best, or all that it climbs to was found
abbrev pub IsClimbed : Sought → Search → Search → ℕ → Type 0
IsClimbed w old new place = (d : Demand) → slice_get old.found place ≡ Some d
    → ((new.best ≡ Some place) × (d.first ≡ Settled) × (d.second ≡ Settled))
    ⊎ ((new.best ≡ old.best) × (d.first ≡ Settled → d.second ≡ Settled → ⊥)
    × ((e : Demand) → IsClimb (automaton_of w) w.terminal.0 d e → Contains new.found e))

-- all that the demand at a place pops to was found
abbrev pub IsPopped : Sought → Search → Search → ℕ → Type 0
IsPopped w old new place = (d : Demand) (X : code.Symbol) (e : Demand) → slice_get old.found place ≡ Some d
    → IsPop (automaton_of w) (symbol_of X) d e → Contains new.found e

-- the answer to a demand: a string, its first symbol first, that meets it, or none where no string does
abbrev pub IsFoundBy : Sought → Demand → Option (Vec code.Symbol) → Type 0
IsFoundBy w d found = MatchOption found ((g : List Symbol) → IsMet (automaton_of w) w.terminal.0 g d → ⊥)
    (λ string. IsMet (automaton_of w) w.terminal.0 (reverse (map symbol_of string.items)) d)

-- how much is still to be gone through, at most
abbrev pub measure_of : Sought → Search → ℕ
measure_of w s = (w.bound - s.climbed) + (w.bound - s.popped)

-- more demands than a number follow from one
pub record HasMore (M : Lr0Automaton) (t n : ℕ) (from : Demand) : Type 0 where
  pub demands : List Demand
  pub count : n < length demands
  pub apart : AllPairs (λ d e. d ≢ e) demands
  pub follow : (d : Demand) → Contains demands d → LeadsTo M t from d

abbrev pub HasMoreThanAllowed : Sought → Search → Type 0
HasMoreThanAllowed w s = (d : Demand) → slice_get s.found 0 ≡ Some d
    → HasMore (automaton_of w) w.terminal.0 w.bound d
