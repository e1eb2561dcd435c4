-- The meaning of an error of the loop check for a specification.
use Rattle.ly_emit.specs.Tables.{IsMachineOf}
use Rattle.ly_join.specs.Joined.{Spec}
use Rattle.ly_loop.specs.Endless.{IsFirstEndless}
use Rattle.ly_loop.specs.declared.fault.LoopFault.{LoopFault}
use Rattle.ly_loop.specs.declared.fault.LoopFault.TheVariants.{Endless, OutOfMemory}
use Rattle.ly_lr0.specs.Automaton.{Lr0Automaton}
use Rattle.ly_pack.specs.Machine.{Machine, AreEntriesWithin}

-- the error names the first endless run of the specification's tables with default reductions; out of memory means
-- nothing
abbrev pub IsRefusedFor : Spec → Lr0Automaton → LoopFault → Type 0
IsRefusedFor s M (Endless below top token) = (n : Machine) × IsMachineOf s M n × AreEntriesWithin n
    × IsFirstEndless n below.0 top.0 token.0
IsRefusedFor s M OutOfMemory = Unit {0}
