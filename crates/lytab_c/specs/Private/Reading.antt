-- What a reader of a text in memory has left.
use Rattle.std.specs.Prelude.{ℕ, List}
use Rattle.lytab_c.specs.declared.text_source.TextSource.{TextSource}

-- the bytes that aren't read yet
abbrev pub unread : TextSource → List ℕ
unread s = s.rest.now
