-- The meaning of an error for bytes that are no table file.
use Rattle.std.specs.Prelude.{ℕ, List}
use Rattle.ly_tables.specs.Reading.{HasOtherMagic, HasOtherVersion, HasTrailing, IsEndlessSet, IsOutOfRange}
use Rattle.ly_tables.specs.Reading.{IsTruncated}
use Rattle.ly_tables.specs.declared.fault.TableFault.{TableFault}
use Rattle.ly_tables.specs.declared.fault.TableFault.TheVariants.{BadMagic, BadVersion, Endless, OutOfMemory}
use Rattle.ly_tables.specs.declared.fault.TableFault.TheVariants.{OutOfRange, Trailing, Truncated}

-- what holds of bytes rejected with this error; out of memory means nothing
abbrev pub IsRefusedAs : List ℕ → TableFault → Type 0
IsRefusedAs bytes BadMagic = HasOtherMagic bytes
IsRefusedAs bytes BadVersion = HasOtherVersion bytes
IsRefusedAs bytes Truncated = IsTruncated bytes
IsRefusedAs bytes Trailing = HasTrailing bytes
IsRefusedAs bytes (OutOfRange section) = IsOutOfRange section bytes
IsRefusedAs bytes Endless = IsEndlessSet bytes
IsRefusedAs bytes OutOfMemory = Unit {0}
