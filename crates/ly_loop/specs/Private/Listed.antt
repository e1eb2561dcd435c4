-- A machine, with what its states do in lists.
use Rattle.std.specs.Prelude.{List}
use Rattle.std.specs.Global.{Vec}
use Rattle.ly_base.specs.declared.numbers.RuleNo.{RuleNo}
use Rattle.ly_base.specs.declared.numbers.StateNo.{StateNo}
use Rattle.ly_pack.specs.Machine.{Machine}
use Rattle.ly_pack.specs.Rows.{Counted}
use Rattle.ly_pack.specs.declared.action.TableAction.{TableAction}
use Rattle.ly_loop.specs.Private.Entries.{AreAllEntries, AreAllGotos}
use Rattle.ly_loop.specs.Private.Reductions.{AreAllReductions}
use Rattle.ly_loop.specs.Private.Run.{IsCountable}

-- The machine can be counted, and these are the entries, the gotos and the rules of reductions of its states.
pub record IsListed (m : Machine) (entries : List (Counted TableAction)) (gotos : List (Counted StateNo))
    (reductions : List (Vec RuleNo)) : Type 0
  where
    pub countable : IsCountable m
    pub entries_are : AreAllEntries m entries
    pub gotos_are : AreAllGotos m gotos
    pub reductions_are : AreAllReductions m reductions
