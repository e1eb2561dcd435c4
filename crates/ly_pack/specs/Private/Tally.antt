-- The rules by which a state reduces, and how often.
use Rattle.std.specs.Prelude.{◌≡◌, ◌⊎◌, ℕ, ◌<◌, ◌≤◌, List, length, filter, Option, Some, None, nat_eq, nat_lt}
use Rattle.std.specs.Prelude.{slice_get, slice_index, if◌then◌else◌, MatchOption}
use Rattle.std.specs.Prelude.{Bool, true, ◌||◌, ◌&&◌, ◌==◌}
use Rattle.std.specs.List.{range_with_len}
use Rattle.ly_base.specs.declared.numbers.RuleNo.{RuleNo}
use Rattle.ly_pack.specs.Defaults.{is_by}
use Rattle.ly_pack.specs.Rows.{Dense, Entries, dense_entry}
use Rattle.ly_pack.specs.Values.{action_from, actions_from}
use Rattle.ly_pack.specs.declared.action.TableAction as code
use Rattle.ly_pack.specs.declared.action.TableAction.TheVariants.{Reduce}
use Rattle.ly_pack.specs.declared.cell.Cell.{Cell}

-- how often a number stands in a list
abbrev pub times : ℕ → List ℕ → ℕ
times p rules = length (filter (nat_eq p) rules)

-- how many of a state's first entries reduce by the rule
abbrev pub reductions : Entries code.TableAction → ℕ → ℕ → ℕ → ℕ
reductions entries width state p = length (filter (λ t. is_by p (actions_from entries state t))
    (range_with_len 0 width))

-- The rule of the greatest count, and the least of those.
pub record IsMostBy (count : ℕ → ℕ) (p : ℕ) : Type 0 where
  pub some : 1 ≤ count p
  pub most : (q : ℕ) → (count q < count p) ⊎ ((count q ≡ count p) × (p ≤ q)) ⊎ (count q ≡ 0)

-- the rule of the greatest count, or none where nothing is counted
abbrev pub IsChosen : (ℕ → ℕ) → Option RuleNo → Type 0
IsChosen count d = MatchOption d ((p : ℕ) → count p ≡ 0) (λ p. IsMostBy count p.0)

-- Of the first n rules no one has a greater count, or as great a one and a lower number.
pub record IsBestOf (rules counts : List ℕ) (n p : ℕ) : Type 0 where
  pub some : 1 ≤ slice_index counts p
  pub most : (j : ℕ) → j < n → (slice_index counts (slice_index rules j) < slice_index counts p)
      ⊎ ((slice_index counts (slice_index rules j) ≡ slice_index counts p) × (p ≤ slice_index rules j))

-- how many of these entries reduce by the rule
abbrev pub cells_by : ℕ → List (Cell code.TableAction) → ℕ
cells_by p cells = length (filter (λ c. is_by p (Some (action_from c.entry))) cells)

-- an entry, but for a reduction by this rule
abbrev pub left_out : ℕ → Option code.TableAction → Option code.TableAction
left_out p (Some (Reduce q)) = if nat_eq p q.0 then None else Some (Reduce q)
left_out p a = a

-- the rule comes before the best so far
abbrev pub IsBetter : List ℕ → ℕ → Option RuleNo → Bool → Type 0
IsBetter counts rule None b = b ≡ true
IsBetter counts rule (Some best) b = b ≡ (nat_lt (slice_index counts best.0) (slice_index counts rule)
    || ((slice_index counts best.0 == slice_index counts rule) && nat_lt rule best.0))

-- an entry, but for those that the default stands for
abbrev pub out_by : Option RuleNo → Option code.TableAction → Option code.TableAction
out_by None a = a
out_by (Some p) a = left_out p.0 a

-- The first states have their defaults, and entries that are equal to these are taken out.
pub record HaveDefaults (terminals : ℕ) (old new : Dense code.TableAction) (defaults : List (Option RuleNo)) : Type 0
  where
    pub rows : new.rows ≡ old.rows
    pub width : new.width ≡ old.width
    pub chosen : (state : ℕ) (d : Option RuleNo) → slice_get defaults state ≡ Some d
        → IsChosen (reductions (dense_entry old) terminals state) d
    pub taken : (state t : ℕ) (d : Option RuleNo) → slice_get defaults state ≡ Some d → t < terminals
        → dense_entry new state t ≡ out_by d (dense_entry old state t)
    pub left : (state t : ℕ) → length defaults ≤ state → dense_entry new state t ≡ dense_entry old state t
