-- What a list of names holds.
use Rattle.std.specs.Prelude.{◌≡◌, ℕ, List}
use Rattle.lytab_c.specs.Naming.{ends_from, joined}
use Rattle.lytab_c.specs.declared.name_list.NameList.{NameList}

-- it has these names
pub record IsListOf (names : List (List ℕ)) (list : NameList) : Type 0 where
  pub bytes : list.bytes.items ≡ joined names
  pub ends : list.ends.items ≡ ends_from 0 names
