-- Claims and demands by which others are true, one by one.
use Rattle.std.specs.Prelude.{◌≡◌, ℕ, List, Contains}
use Rattle.ly_join.specs.Grammar.{Grammar, Symbol}
use Rattle.ly_grammar.specs.Derivations.{BeginsYield, IsNullable}
use Rattle.ly_lr0.specs.Automaton.{Lr0Automaton}
use Rattle.ly_counterexamples.specs.Demands.{ClimbsTo, IsAhead, PopsTo}
use Rattle.ly_counterexamples.specs.declared.claim.Demand.{Demand}
use Rattle.ly_lr0.specs.declared.item.Item.{Item}
use Rattle.ly_counterexamples.specs.declared.claim.Claim.{Claim}
use Rattle.ly_counterexamples.specs.declared.claim.Claim.TheVariants.{InCore, Settled, With}

-- some symbol stands behind the dot of the item
abbrev pub HasAhead : Grammar → Item → Type 0
HasAhead G i = (X : Symbol) × (rest : List Symbol) × IsAhead G i X rest

-- the claim is on the item: what stands behind the symbol ahead of its dot begins with the terminal, or is nullable
abbrev pub IsClaimOn : Grammar → ℕ → Item → Claim → Type 0
IsClaimOn G t i Settled = ⊥
IsClaimOn G t i (InCore j) = (i ≡ j) × (X : Symbol) × (rest : List Symbol) × IsAhead G j X rest × BeginsYield G rest t
IsClaimOn G t i (With j) = (i ≡ j) × (X : Symbol) × (rest : List Symbol) × IsAhead G j X rest × IsNullable G rest

-- one of the list is related to it
abbrev pub IsRelated : {X Y : Type 0} → (X → Y → Type 0) → List X → Y → Type 0
IsRelated {X} R xs y = (x : X) × Contains xs x × R x y

-- the demand with another claim for the rule of the conflict, and for what stands against it
abbrev pub IsWithFirst : Demand → Claim → Demand → Type 0
IsWithFirst d c e = (e.state ≡ d.state) × (e.first ≡ c) × (e.second ≡ d.second)

abbrev pub IsWithSecond : Demand → Claim → Demand → Type 0
IsWithSecond d c e = (e.state ≡ d.state) × (e.second ≡ c) × (e.first ≡ d.first)

-- the demand is climbed to by another claim for the rule of the conflict
abbrev pub IsClimbOfFirst : Lr0Automaton → ℕ → Demand → Demand → Type 0
IsClimbOfFirst M t d e = (e.state ≡ d.state) × ClimbsTo M t d.state.0 d.first e.first × (e.second ≡ d.second)

-- both claims of the demand pop to those of the other one, which has the same state
abbrev pub ArePopped : Grammar → Symbol → Demand → Demand → Type 0
ArePopped G X d e = (e.state ≡ d.state) × PopsTo G X d.first e.first × PopsTo G X d.second e.second
