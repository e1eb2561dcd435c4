use Rattle.ly_listing.proofs.listing.Listing.write.Goals as goal

pub write_walked-requires-clause-bytes : goal.write_walked-requires-clause-bytes
write_walked-requires-clause-bytes g c = c.are_bytes.ensures
