-- What the grammar needs to know of a lex file.
use Rattle.std.specs.Prelude.{◌≡◌, ℕ, List, map, length, Option}
use Rattle.std.specs.Rc.{rc_slice_items}
use Rattle.ly_lexread.specs.declared.action.LexAction.{LexAction}
use Rattle.ly_lexread.specs.declared.action.Returned.{Returned}
use Rattle.ly_lexread.specs.declared.action.Returned.TheVariants as lex
use Rattle.ly_lexread.specs.declared.file.LexFile.{LexFile}
use Rattle.ly_join.specs.Terminals.{TerminalName, token, byte, IsNumbered, IsOfByte}
use Rattle.ly_base.specs.declared.scan_action.Emitted.{Emitted}
use Rattle.ly_base.specs.declared.scan_action.Emitted.TheVariants as emitted
use Rattle.ly_base.specs.declared.scan_action.ScanAction.{ScanAction}

-- What an action returns: nothing, this token or literal, or the literal of the first byte.
pub data Returning : Type 0 where
  nothing : Returning
  returns : TerminalName → Returning
  first_byte : Returning

-- what is returned, whatever the capacity of its name
abbrev pub returning_of : Returned → Returning
returning_of lex.Nothing = nothing
returning_of (lex.Token n) = returns (token (rc_slice_items n))
returning_of (lex.Literal b) = returns (byte b)
returning_of lex.FirstByte = first_byte

-- The effect of an action: the condition that it sets, if any, and what it returns.
pub record Acting : Type 0 where
  pub begin : Option ℕ
  pub returning : Returning

-- A lex file without its patterns: the number of its rules and conditions, and the effect of each rule's action.
pub record Scanning : Type 0 where
  pub rules : ℕ
  pub conditions : ℕ
  pub actions : List Acting

abbrev pub acting_of : LexAction → Acting
acting_of a = record { begin = a.begin; returning = returning_of a.returns }

-- the same of the value of a lex file
abbrev pub scanning_of : LexFile → Scanning
scanning_of f = record {
  rules = length f.rules.items;
  conditions = f.conditions;
  actions = map acting_of f.actions.items;
}

-- the number of what is returned; a literal that the grammar doesn't name is `$undef`
abbrev pub IsReturned : List TerminalName → TerminalName → ℕ → Type 0
IsReturned terminals (byte b) t = IsOfByte terminals b t
IsReturned terminals x t = IsNumbered terminals x t

-- the token that an action emits, from what it returns
abbrev pub IsEmitted : List TerminalName → Returning → Emitted → Type 0
IsEmitted terminals nothing e = e ≡ emitted.Nothing
IsEmitted terminals (returns x) e = (t : ℕ) × (e ≡ emitted.Terminal (record { 0 = t })) × IsReturned terminals x t
IsEmitted terminals first_byte e = e ≡ emitted.FirstByte

-- The effect of an action, over numbered terminals.
pub record IsScanAction (terminals : List TerminalName) (a : Acting) (c : ScanAction) : Type 0 where
  pub begin : c.begin ≡ a.begin
  pub emits : IsEmitted terminals a.returning c.emits
