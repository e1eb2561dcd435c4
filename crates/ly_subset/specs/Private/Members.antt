-- The positions of a set.
use Rattle.std.specs.Prelude.{ℕ, List}
use Rattle.ly_subset.specs.Private.Packed.{run_of}
use Rattle.ly_subset.specs.declared.members.Members.{Members}
use Rattle.ly_subset.specs.declared.members.Members.TheVariants.{Span, List as Listing}

-- in rising order
abbrev pub listed : Members → List ℕ
listed (Span span) = run_of span.first span.last
listed (Listing numbers) = numbers.items
