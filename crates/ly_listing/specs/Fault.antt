-- What the errors of a listing say of its writer.
use Rattle.std.specs.Prelude.{ℕ, None, Option, Some}
use Rattle.ly_listing.specs.declared.fault.ListingFault.{ListingFault}
use Rattle.ly_listing.specs.declared.fault.ListingFault.TheVariants.{BadCut, OutOfMemory, Write}

-- the number of bytes written before the write that failed, if one did
abbrev pub failed_write : ListingFault → Option ℕ
failed_write (Write written) = Some written
failed_write BadCut = None
failed_write OutOfMemory = None
