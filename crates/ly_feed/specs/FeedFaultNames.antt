-- The numbers and the names of the errors of a feed, and their relation to the errors of parsing a text.
use Rattle.std.specs.Prelude.{ℕ, List, Option, Some, None, codes}
use Rattle.ly_feed.specs.declared.feed_fault.FeedFault.{FeedFault}
use Rattle.ly_feed.specs.declared.feed_fault.FeedFault.TheVariants.{FaultyTables, OutOfMemory, Over, TooLong}
use Rattle.ly_feed.specs.declared.text_fault.TextFault.{TextFault}
use Rattle.ly_feed.specs.declared.text_fault.TextFault.TheVariants as text

-- an error's number; out of memory has none
abbrev pub feed_fault_number : FeedFault → Option ℕ
feed_fault_number FaultyTables = Some 90
feed_fault_number Over = Some 91
feed_fault_number TooLong = Some 92
feed_fault_number OutOfMemory = None

-- an error's name
abbrev pub feed_fault_name : FeedFault → List ℕ
feed_fault_name FaultyTables = codes "TableFault"
feed_fault_name Over = codes "Over"
feed_fault_name TooLong = codes "TooLong"
feed_fault_name OutOfMemory = codes "OutOfMemory"

-- the error of a feed for an error of parsing a text: a feed reads nothing, and writes into memory
abbrev pub feed_fault_of : TextFault → FeedFault
feed_fault_of text.FaultyTables = FaultyTables
feed_fault_of text.TooLong = TooLong
feed_fault_of text.Read = OutOfMemory
feed_fault_of (text.Write written) = OutOfMemory
feed_fault_of text.OutOfMemory = OutOfMemory
