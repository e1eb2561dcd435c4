-- The results of `lytab_names`, by status.
use Rattle.std.specs.Prelude.{◌≡◌, ◌≢◌, ◌<◌, ◌⊎◌, ℕ, ◌+◌, List, [], ◌∷◌, ◌++◌, Some, length, map}
use Rattle.std.specs.List.{flat_map}
use Rattle.ly_drive.specs.Answering.{IsDriven}
use Rattle.ly_feed.specs.Vocabularies.{constructor_of}
use Rattle.ly_tables.specs.FaultNames.{table_number}
use Rattle.ly_tables.specs.Refusal.{IsRefusedAs}
use Rattle.ly_tables.specs.TableSet.{TableSet}
use Rattle.ly_tables.specs.declared.fault.TableFault.{TableFault}
use Rattle.ly_tables.specs.declared.fault.TableFault.TheVariants.{OutOfMemory}
use Rattle.lytab_c.specs.Block.{IsPut}
use Rattle.lytab_c.specs.Faults.{section_of}
use Rattle.lytab_c.specs.declared.name_counts.NameCounts.{NameCounts}
use Rattle.lytab_c.specs.declared.status.Status.{Status}
use Rattle.lytab_c.specs.declared.status.Status.TheVariants.{Done, Fault, Memory, Misused, Refused, Short}

-- the names of a set: those of its terminals, then the constructors of its rules
abbrev pub names_of : TableSet → List (List ℕ)
names_of s = s.terminals ++ map (λ r. constructor_of r.shape) s.rules

-- names one after another
abbrev pub joined : List (List ℕ) → List ℕ
joined names = flat_map (λ name. name) names

-- where each name ends, if the first begins at this byte
abbrev pub ends_from : ℕ → List (List ℕ) → List ℕ
ends_from at [] = []
ends_from at (name ∷ names) = (at + length name) ∷ ends_from (at + length name) names

-- how many names a set has, and how many bytes these have
abbrev pub counts_of : TableSet → NameCounts
counts_of s = record {
  fault = 0;
  section = 0;
  terminals = length s.terminals;
  rules = length s.rules;
  bytes = length (joined (names_of s));
}

-- counts that are all 0
abbrev pub nothing_counted : NameCounts
nothing_counted = record { fault = 0; section = 0; terminals = 0; rules = 0; bytes = 0 }

-- an error that has a number is reported
abbrev pub TellsRefusal : TableFault → NameCounts → Type 0
TellsRefusal fault counts = (number : ℕ) × (table_number fault ≡ Some number)
    × (counts ≡ record nothing_counted { fault = number; section = section_of fault })

-- The two blocks of `lytab_names`.
pub record NameBlocks : Type 0 where
  pub ends : List ℕ
  pub names : List ℕ

-- The names of the set with these table file bytes are in the blocks. Or the table file is rejected. Or memory ran out.
-- Or a block is too short. Whatever isn't written is unchanged.
abbrev pub AreNamesTold : List ℕ → NameBlocks → NameBlocks → NameCounts → Status → Type 0
AreNamesTold tables old new counts Done = (s : TableSet) × IsDriven tables s × (counts ≡ counts_of s)
    × IsPut (ends_from 0 (names_of s)) old.ends new.ends × IsPut (joined (names_of s)) old.names new.names
AreNamesTold tables old new counts Refused = ⊥
AreNamesTold tables old new counts Fault = (fault : TableFault) × (fault ≢ OutOfMemory) × IsRefusedAs tables fault
    × TellsRefusal fault counts × (new ≡ old)
AreNamesTold tables old new counts Memory = (counts ≡ nothing_counted) × (new ≡ old)
AreNamesTold tables old new counts Misused = ⊥
AreNamesTold tables old new counts Short = (s : TableSet) × IsDriven tables s × (counts ≡ counts_of s)
    × ((length old.ends < length (names_of s)) ⊎ (length old.names < length (joined (names_of s)))) × (new ≡ old)
